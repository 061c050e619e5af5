-- What loads of all words told is a reading on each word, and two motors that are kept apart never both run by it.
use Rattle.std.proofs.Common.{inl, inr, ℕ, List, length, get_or, subst}
use Rattle.plan_types.specs.Table.{PlanTable}
use Rattle.plan_rules.specs.declared.state.State.{State}
use Rattle.plan_motors.specs.declared.motor.Motor.{Motor}
use Rattle.plan_motors.specs.Laws.{MayRun}
use Rattle.plan_words.specs.Run.{Word, WordEvent, IsLaidOut, IsWhole, events_of}
use Rattle.plan_words.specs.Motors.{AreLegal, HazardsNeverRunByWords, IsMotorByWords, MayRunByWords, OneWordKeepsApart}
use Rattle.plan_interlock.specs.Book.{plan_of}
use Rattle.plan_interlock.specs.Plant.{WordView, PlantPassView}
use Rattle.plan_interlock.specs.PlantMake.{new_right}
use Rattle.plan_interlock.specs.PlantRuns.{AreApart, GoesByLoads, LoadsKeepApart, parts_of}
use Rattle.plan_interlock.proofs.EachLoad.{one_of}

may_run : (words : ℕ → Word) (states : ℕ → State) (interlock : List WordView) (h : List WordEvent) (pass : PlantPassView) (m : Motor) → GoesByLoads words states interlock h pass m → MayRunByWords (length interlock) words states h m
may_run words states interlock h pass m goes n low =
    let i = one_of interlock n low in
    let w = new_right 0 i in
    let right = get_or pass.rights n w in
    let k = goes.kept n i w low in
    let here : MayRun (plan_of (get_or interlock n i).rules) right.opening (events_of h n) (parts_of words m n)
    = record { read = right.seen; since = k.since; split = k.is; still = record { permitted = goes.told n i w low; kept = k.kept } } in
    subst (λ s. MayRun (words n).table s (events_of h n) (parts_of words m n)) (goes.own.opening n w low)
    (subst (λ t. MayRun t right.opening (events_of h n) (parts_of words m n)) (goes.own.plan n i low) here)

module _ (hazards : (t : PlanTable) (count : ℕ) (words : ℕ → Word) → IsLaidOut t count words → HazardsNeverRunByWords t count words) (on_a_word : (t : PlanTable) (count : ℕ) (words : ℕ → Word) → IsLaidOut t count words → OneWordKeepsApart t count words) where
  never_both : (t : PlanTable) (words : ℕ → Word) (states : ℕ → State) (whole : State) (interlock : List WordView) (h : List WordEvent) (one other : PlantPassView) (a b : Motor) → IsLaidOut t (length interlock) words
      → IsWhole t (length interlock) words states whole → AreLegal (length interlock) words states h → IsMotorByWords (length interlock) words a → IsMotorByWords (length interlock) words b
      → AreApart t (length interlock) words states a b → GoesByLoads words states interlock h one a → ¬ GoesByLoads words states interlock h other b
  never_both t words states whole interlock h one other a b is all legal first second (inl apart) x y =
      hazards t (length interlock) words is states whole h a b all legal first second apart (may_run words states interlock h one a x) (may_run words states interlock h other b y)
  never_both t words states whole interlock h one other a b is all legal first second (inr apart) x y =
      on_a_word t (length interlock) words is states whole h a b all legal first second apart (may_run words states interlock h one a x) (may_run words states interlock h other b y)

  pub loads_keep_apart : LoadsKeepApart
  loads_keep_apart = record { read = may_run; apart = never_both }
