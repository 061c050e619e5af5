-- What replays that failed may have written.
use Rattle.std.proofs.Common.{rules, ◌≡◌, ℕ, zero, suc, List, [], ◌∷◌, length, refl, sym, ◌∙◌, ap, subst, Some, append-nil, ◌<◌, get_or, arith}
use Rattle.std.specs.Prelude.{codes}
use Rattle.std.specs.Fmt.{digits}
use Rattle.csv.proofs.OnLiterals.{csv_on_literals}
use Rattle.cell_replay.specs.Faults.{WrotePrefix, WroteLines}
use Rattle.cell_replay.specs.FaultExamples.{FaultsAreMet, answer, opening}
use Rattle.cell_replay.specs.Requests.{call_of, machine_of, request_of}
use Rattle.cell_replay.specs.Script.{history_of, requests_in, script_lines, script_outcome, script_text, start_in}

abbrev Answered : Type 0
Answered = (script_lines opening ≡ answer ∷ []) × (script_text opening ≡ answer)

answered : Answered
unfolding csv_on_literals digits call_of machine_of request_of history_of requests_in script_lines script_outcome script_text start_in
answered = search rules

only_whole : (whole part : List ℕ) (first : ℕ) → WroteLines (Some []) (Some (first ∷ part)) (whole ∷ []) → first ∷ part ≡ whole
only_whole whole part first (zero, e) = absurd (cc)
only_whole whole part first (suc zero, e) = e ∙ append-nil whole
only_whole whole part first (suc (suc n), e) = e ∙ append-nil whole

none_left_out : WroteLines (Some []) (Some (codes "c\n")) (codes "ab\n" ∷ codes "c\n" ∷ []) → ⊥
none_left_out (zero, e) = cc
none_left_out (suc n, e) = cc

no_other : WrotePrefix (Some []) (Some (codes "1")) answer → ⊥
no_other (zero, e) = cc
no_other (suc n, e) = let first : ◌≡◌ {A = ℕ} 49 48 = ap (λ (l : List ℕ). get_or l 0 0) e in omega arith

shorter : (part : List ℕ) → length part < length answer → part ≡ answer → ⊥
shorter part short e = let same = ap length e in omega arith

pub faults_are_met : FaultsAreMet
faults_are_met =
    record {
      no_line = (0, refl);
      one_line = (1, refl);
      no_part = λ wrote. let e = ap length (only_whole (codes "abc") (codes "b") 97 wrote) in omega arith;
      none_left_out = none_left_out;
      read_leaves_lines = subst (λ lines. WroteLines (Some []) (Some answer) lines) (sym answered.0) (1, refl);
      read_leaves_no_part = λ wrote. shorter _ (omega arith) (only_whole answer (codes " 0 st") 48 (subst (λ lines. WroteLines (Some []) (Some (codes "0 0 st")) lines) answered.0 wrote));
      memory_leaves_nothing = (0, refl);
      memory_leaves_no_part = λ wrote. shorter _ (omega arith) (only_whole answer (codes " 0 st") 48 (subst (λ lines. WroteLines (Some []) (Some (codes "0 0 st")) lines) answered.0 wrote));
      write_leaves_part = subst (λ text. WrotePrefix (Some []) (Some (codes "0 0 st")) text) (sym answered.1) (6, refl);
      write_leaves_no_other = λ wrote. no_other (subst (λ text. WrotePrefix (Some []) (Some (codes "1")) text) answered.1 wrote);
      most_taken = refl;
    }
