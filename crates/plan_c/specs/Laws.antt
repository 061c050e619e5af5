-- The word that tells C that there is none is no state's.
use Rattle.std.specs.Prelude.{◌≢◌}
use Rattle.plan_types.specs.Table.{PlanTable}
use Rattle.plan_types.specs.Plan.{IsPlan}
use Rattle.plan_rules.specs.declared.state.State.{State}
use Rattle.plan_word.specs.OfPlan.{IsOfPlan}
use Rattle.plan_word.specs.Packed.{packed}
use Rattle.plan_c.specs.Replies.{no_word}

abbrev pub NoStateHasNoWord : Type 0
NoStateHasNoWord = (t : PlanTable) (s : State) → IsPlan t → IsOfPlan t s → packed t s ≢ no_word
