-- Literal journals of which no entry comes next.
use Rattle.std.proofs.Common.{◌≡◌, ℕ, zero, suc, Bool, true, not, ◌&&◌, ◌+◌, ◌<◌, ◌≤◌, nat_eq, List, [], ◌∷◌, Option, sym, subst}
use Rattle.std.proofs.lemmas.Bool.{and_parts, both_ways, eq-eqb, not-true}
use Rattle.plan_types.specs.Table.{PlanTable, watch}
use Rattle.plan_rules.specs.History.{is_done_answer}
use Rattle.plan_rules.specs.declared.state.State.{State}
use Rattle.plan_workers.specs.declared.journal.PlanEntry.{PlanEntry}
use Rattle.plan_workers.specs.Journals.{event_by, stamp_after}
use Rattle.plan_workers.specs.Audited.{HasNoHistory}
use Rattle.plan_workers.specs.Replays.{HasNoNext, IsNext}
use Rattle.plan_workers.specs.AuditExamples.{these}
use Rattle.plan_workers.proofs.Auditing.{is_at_end, stamp_of_kind}

abbrev pub first_waits : ℕ → List PlanEntry → Bool
first_waits n [] = true
first_waits n (x ∷ xs) = not (nat_eq x.stamp (stamp_after n (event_by 0 x)))

abbrev pub all_wait : ℕ → List (List PlanEntry) → Bool
all_wait n [] = true
all_wait n (j ∷ js) = first_waits n j && all_wait n js

waits : (n : ℕ) (js : List (List PlanEntry)) (m : ℕ) (done : Bool) (x : PlanEntry) (rest : List PlanEntry) → all_wait n js ≡ true → these js m ≡ x ∷ rest → x.stamp ≡ stamp_after n (event_by 0 x) → ⊥
waits n [] m done x rest w is at = absurd (cc)
waits n ([] ∷ js) zero done x rest w is at = absurd (cc)
waits n ((y ∷ ys) ∷ js) zero done x rest w is at =
    let same : y ≡ x = cc in
    let test = not-true _ (and_parts (first_waits n (y ∷ ys)) (all_wait n js) w).0 in
    both_ways (nat_eq y.stamp (stamp_after n (event_by 0 y))) test (eq-eqb _ _ (subst (λ z. z.stamp ≡ stamp_after n (event_by 0 z)) (sym same) at))
waits n (j ∷ js) (suc m) done x rest w is at = waits n js m done x rest (and_parts (first_waits n j) (all_wait n js) w).1 is at

pub none_next : (n : ℕ) (js : List (List PlanEntry)) → all_wait n js ≡ true → HasNoNext n (these js)
none_next n js w done m x f = waits n js m done x f.first.0 w f.first.1 (stamp_of_kind n m x done (these js) f.kind f)

-- no history explains what is left
pub stuck : (t : PlanTable) (s : State) (js : List (List PlanEntry)) (end : Option State) (m : ℕ) (x : PlanEntry) (rest : List PlanEntry) → all_wait s.stamp js ≡ true → these js m ≡ x ∷ rest → HasNoHistory t s (these js) end
stuck t s js end m x rest w is h a = let none = (is_at_end t s (these js) end h (none_next s.stamp js w) a).0 m in absurd (cc)

-- ---- a done entry that comes next, where all first entries are done

abbrev pub first_is_done : List PlanEntry → Bool
first_is_done [] = true
first_is_done (x ∷ xs) = is_done_answer x.answer

abbrev pub all_done : List (List PlanEntry) → Bool
all_done [] = true
all_done (j ∷ js) = first_is_done j && all_done js

done_at : (js : List (List PlanEntry)) (m : ℕ) (x : PlanEntry) (rest : List PlanEntry) → all_done js ≡ true → these js m ≡ x ∷ rest → is_done_answer x.answer ≡ true
done_at [] m x rest d is = absurd (cc)
done_at ([] ∷ js) zero x rest d is = absurd (cc)
done_at ((y ∷ ys) ∷ js) zero x rest d is = let same : y ≡ x = cc in subst (λ z. is_done_answer z.answer ≡ true) same (and_parts (first_is_done (y ∷ ys)) (all_done js) d).0
done_at (j ∷ js) (suc m) x rest d is = done_at js m x rest (and_parts (first_is_done j) (all_done js) d).1 is

pub done_next : (n : ℕ) (js : List (List PlanEntry)) (m : ℕ) (x : PlanEntry) (rest : List PlanEntry) → m ≤ watch → all_done js ≡ true → these js m ≡ x ∷ rest → x.stamp ≡ n + 1 → ((k : ℕ) → k < m → these js k ≡ []) → IsNext n (these js) m x
done_next n js m x rest caller d is at lower = record {
  done = true;
  follows = record { caller = caller; first = (rest, is); kind = done_at js m x rest d is; at = at };
  lower = λ k y low f. let none = lower k low in let first = f.first.1 in absurd (cc);
  others_first = λ _ k y f. both_ways (is_done_answer y.answer) f.kind (done_at js k y f.first.0 d f.first.1);
}
