use Rattle.std.proofs.Common.{◌≡◌, ◌<◌, ◌+◌, ◌∙◌, ℕ, inl, inr, List, [], ◌∷◌, length, map, Option, Some, None, refl, sym, ap, subst, arith}
use Rattle.plan_types.specs.Examples.{press_table}
use Rattle.plan_rules.specs.declared.state.State.{State}
use Rattle.plan_rules.specs.State.{last_stamp, zone_at}
use Rattle.plan_rules.specs.Examples.{press_start}
use Rattle.plan_controller.specs.Turns.{Control}
use Rattle.plan_workers.specs.declared.record.PlanRecorded.{PlanRecorded}
use Rattle.plan_workers.specs.declared.rounds.PlanMachine.{PlanMachine}
use Rattle.plan_workers.specs.Turning.{last_of}
use Rattle.plan_workers.specs.Renewing.{AreRounds, left_by, restamped, round_moment}
use Rattle.plan_workers.specs.RenewalExamples.{AreRoundsOf, Counting, IsRound, any_drives, any_gate, any_reads, at, counts, moves, press_at}
use Rattle.plan_workers.proofs.laws.renewal_examples_are_right.Goals as goal

not_zero : (n : ℕ) → n + 1 ≡ 0 → ⊥
not_zero n e = omega (arith, e)

some_none : (owner : Option ℕ) (n : ℕ) → owner ≡ Some n → owner ≡ None → ⊥
some_none owner n e f = cc

owners_differ : restamped (at moves) ≡ press_start → ⊥
owners_differ e = some_none (zone_at (restamped (at moves)) 0).owner 1 refl (ap (λ (s : State). (zone_at s 0).owner) e)

pub returns-clause-renewal : goal.returns-clause-renewal
returns-clause-renewal c =
    let steps = c.resumes_are_right.ensures in record {
      stamp = refl;
      left_stamp = refl;
      zones = refl;
      places = refl;
      stop = refl;
      not_the_opening = owners_differ;
      beginning = record { own = refl; place = inl refl };
      press = record { own = refl; place = inr steps.press };
      loader = record { own = refl; place = inr steps.loader };
      stopped = record { own = refl; place = inr steps.press };
      no_program = record { own = refl; place = inl refl };
      not_moving = λ k. elim k.place [ inl first ↦ not_zero 1 first | inr step ↦ steps.not_moving step ];
      holds_nothing = λ k. elim k.place [ inl first ↦ not_zero 0 first | inr step ↦ steps.holds_nothing step ];
      past_the_end = λ k. elim k.place [ inl first ↦ not_zero 2 first | inr step ↦ steps.past_the_end step ];
      other_machine = λ k. not_zero 0 k.own;
      actors = λ i x y. refl;
      unseen = λ i x y. refl;
      controllers = λ i x y. refl;
      devices = λ i x y. refl;
      back = λ others x y. refl;
    }

-- ---- rounds

abbrev Are : Counting → List Counting → Type 0
Are first moments = AreRounds any_reads any_drives counts press_table 8 2 any_gate first moments

abbrev HasMiddle : Counting → Counting → Type 0
HasMiddle first last = (middle : Counting) × IsRound first middle × IsRound middle last

two_by : (first last : Counting) (moments : List Counting) → Are first moments → last_of first moments ≡ last → length moments ≡ 2 → HasMiddle first last
two_by first last [] k is many = absurd (omega (arith, many))
two_by first last (x ∷ []) k is many = absurd (omega (arith, many))
two_by first last (x ∷ y ∷ []) k is many = (x, k.0, subst (λ z. IsRound x z) is k.1.0)
two_by first last (x ∷ y ∷ z ∷ more) k is many = absurd (omega (arith, many))

none_by : (first last : Counting) (moments : List Counting) → last_of first moments ≡ last → length moments ≡ 0 → last ≡ first
none_by first last [] is many = sym is
none_by first last (x ∷ more) is many = absurd (omega (arith, many))

two : (first last : Counting) → AreRoundsOf 2 first last → HasMiddle first last
two first last k = two_by first last k.moments k.taken k.is_last k.many

two_taken : (first last : Counting) → HasMiddle first last → last.sink ≡ first.sink + 2
two_taken first last k =
    let one : k.0.sink ≡ first.sink + 1 = k.1.taken in
    let other : last.sink ≡ k.0.sink + 1 = k.2.taken in
    omega (arith, one, other)

first_line : (before : Counting) (state : State) (sink d : ℕ) (x : PlanRecorded ℕ) (k : IsRound before (round_moment (record { controller = press_at 0; devices = d } ∷ []) state sink)) → k.backs ≡ x ∷ []
    → x.worked.controller ≡ press_at 2 → ⊥
first_line before state sink d x k backs is =
    let now : record { controller = press_at 0; devices = d } ∷ [] ≡ left_by x ∷ [] = k.go_on ∙ ap (map left_by) backs in
    let machine : record { controller = press_at 0; devices = d } ≡ left_by x = cc in
    let places : 0 ≡ 2 = ap (λ (m : PlanMachine ℕ). m.controller.place) machine ∙ ap (λ (q : Control). q.place) is in
    omega (arith, places)

unhanded : (before now : List (PlanMachine ℕ)) (s end : State) → IsRound (round_moment before s 0) (round_moment now end 0) → ⊥
unhanded before now s end k = let lie : 0 ≡ 0 + 1 = k.taken in omega (arith, lie)

worn : (before : Counting) (now : List (PlanMachine ℕ)) (end : State) (sink : ℕ) → end.stamp ≡ last_stamp → IsRound before (round_moment now end sink) → ⊥
worn before now end sink last k = let low : end.stamp < last_stamp = k.unworn in omega (arith, last, low)

pub returns-clause-rounds : goal.returns-clause-rounds
returns-clause-rounds c = record {
  two = two;
  two_are_taken = λ first last k. two_taken first last (two first last k);
  none = λ first last k. none_by first last k.moments k.is_last k.many;
  opens = λ machines now k. k.opens;
  opens_again = λ machines now k e. owners_differ (sym k.opens ∙ e);
  goes_on = λ before now k x y backs. k.go_on ∙ ap (map left_by) backs;
  first_line = first_line;
  journals = λ before now k x y backs. k.noted.journals ∙ ap (map (λ back. back.journal)) backs;
  unhanded = unhanded;
  worn = worn;
}
