-- The audits of the examples.
use Rattle.std.proofs.Common.{◌≡◌, ◌≢◌, ◌<◌, ◌≤◌, ◌∙◌, ℕ, zero, suc, true, List, [], ◌∷◌, Option, Some, None, refl, ap, arith}
use Rattle.plan_types.specs.declared.answer.Event.{Event}
use Rattle.plan_types.specs.Examples.{press_table}
use Rattle.plan_rules.specs.declared.state.State.{State}
use Rattle.plan_rules.specs.Examples.{press_start}
use Rattle.plan_workers.specs.declared.journal.PlanEntry.{PlanEntry}
use Rattle.plan_workers.specs.Journals.{journal_of, stamp_after}
use Rattle.plan_workers.specs.Audited.{HasNoHistory}
use Rattle.plan_workers.specs.AuditExamples.{AuditExamples, IsRefused, again, again_at, both, claimed, claimed_at, claimed_state, own, shut, shut_at, these, travels, travels_at}
use Rattle.plan_workers.proofs.Auditing.{differs, is_at_end, of_no_machine, reads_no_more}
use Rattle.plan_workers.proofs.Journaling.{others_first}
use Rattle.plan_workers.proofs.Stuck.{all_done, all_wait, done_next, none_next, stuck}

abbrev AreOfTwo : List Event → Type 0
AreOfTwo [] = Unit {0}
AreOfTwo (e ∷ h) = (e.machine ≤ 1) × AreOfTwo h

-- no third machine has an event
of_two : (h : List Event) (n m : ℕ) → AreOfTwo h → journal_of n h (suc (suc m)) ≡ []
of_two [] n m two = refl
of_two (e ∷ h) n m two = others_first n e h (suc (suc m)) (λ is. let low = two.0 in omega (arith, low, is)) ∙ of_two h (stamp_after n e) m two.1

own_right : (m : ℕ) → journal_of 0 (shut ∷ claimed ∷ again ∷ travels ∷ []) m ≡ these (both (claimed_at 1 ∷ again_at 1 ∷ travels_at 2 ∷ [])) m
own_right zero = refl
own_right (suc zero) = refl
own_right (suc (suc m)) = of_two (shut ∷ claimed ∷ again ∷ travels ∷ []) 0 m (omega arith, (omega arith, (omega arith, (omega arith, tt))))

own_claim : (m : ℕ) → journal_of 0 (claimed ∷ []) m ≡ these (own (claimed_at 1 ∷ [])) m
own_claim zero = refl
own_claim (suc zero) = refl
own_claim (suc (suc m)) = of_two (claimed ∷ []) 0 m (omega arith, tt)

others_stay : (rest : List PlanEntry) (k : ℕ) → k ≢ 1 → these (own rest) k ≡ these (own (claimed_at 1 ∷ rest)) k
others_stay rest zero isnt = refl
others_stay rest (suc zero) isnt = absurd (isnt refl)
others_stay rest (suc (suc k)) isnt = refl

below_press : (rest : List PlanEntry) (k : ℕ) → k < 1 → these (own (claimed_at 1 ∷ rest)) k ≡ []
below_press rest zero low = refl
below_press rest (suc k) low = absurd (omega (arith, low))

-- once the press has claimed its zone
after_claim : (rest : List PlanEntry) (end : Option State) → HasNoHistory press_table claimed_state (these (own rest)) end → IsRefused (own (claimed_at 1 ∷ rest)) end
after_claim rest end none =
    reads_no_more press_table press_start claimed_state (these (own (claimed_at 1 ∷ rest))) (these (own rest)) end 1 (claimed_at 1) (done_next 0 (own (claimed_at 1 ∷ rest)) 1 (claimed_at 1) rest (omega arith) refl refl refl (below_press rest))
    (record { answer = refl; state = refl; own = refl; others = others_stay rest }) none

loader_claims : (js : List (List PlanEntry)) → all_done ((claimed_at 1 ∷ []) ∷ js) ≡ true → IsRefused ((claimed_at 1 ∷ []) ∷ js) None
loader_claims js d = differs press_table press_start (these ((claimed_at 1 ∷ []) ∷ js)) None 0 (claimed_at 1) (done_next 0 ((claimed_at 1 ∷ []) ∷ js) 0 (claimed_at 1) [] (omega arith) d refl refl (λ k low. absurd (omega (arith, low)))) (λ e. cc)

waits : (js : List (List PlanEntry)) (m : ℕ) (x : PlanEntry) (rest : List PlanEntry) → all_wait 0 js ≡ true → these js m ≡ x ∷ rest → IsRefused js None
waits js m x rest w is = stuck press_table press_start js None m x rest w is

other_end : HasNoHistory press_table claimed_state (these (own [])) (Some press_start)
other_end h a =
    let ends = (is_at_end press_table claimed_state (these (own [])) (Some press_start) h (none_next 1 (own []) refl) a).1 in
    let stamps : 1 ≡ 0 = ap (λ (s : State). s.stamp) ends in omega (arith, stamps)

pub rows : AuditExamples
rows = record {
  right = record { legal = (refl, (refl, (refl, (refl, tt)))); callers = (omega arith, (omega arith, (omega arith, (omega arith, tt)))); own = own_right; ends = tt };
  right_end = record { legal = (refl, tt); callers = (omega arith, tt); own = own_claim; ends = refl };
  nothing = record { legal = tt; callers = tt; own = λ m. refl; ends = refl };
  two_done = after_claim (travels_at 1 ∷ []) None (stuck press_table claimed_state (own (travels_at 1 ∷ [])) None 1 (travels_at 1) [] refl refl);
  two_machines_done = loader_claims ((claimed_at 1 ∷ []) ∷ []) refl;
  gap = waits (own (claimed_at 2 ∷ [])) 1 (claimed_at 2) [] refl refl;
  other_answer = loader_claims [] refl;
  too_early = waits (own (claimed_at 0 ∷ [])) 1 (claimed_at 0) [] refl refl;
  too_late = waits ((shut_at 1 ∷ []) ∷ []) 0 (shut_at 1) [] refl refl;
  out_of_turn = waits (own (again_at 1 ∷ claimed_at 1 ∷ [])) 1 (again_at 1) (claimed_at 1 ∷ []) refl refl;
  other_end = after_claim [] (Some press_start) other_end;
  stranger = of_no_machine press_table press_start _ None 31 (omega arith) (λ e. cc);
}
