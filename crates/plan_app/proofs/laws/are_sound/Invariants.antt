use Rattle.std.proofs.Common.{ℕ, ◌<◌}
use Rattle.plan_types.specs.Plan.{IsPlan}
use Rattle.plan_rules.specs.Sound.{IsSound}
use Rattle.plan_explorer.specs.Plants.{state_on, table_on}
use Rattle.plan_app.specs.PlantStarts.{tables_of}
use Rattle.plan_app.proofs.laws.are_sound.Given as goal

abbrev pub invariant-loop-word : goal.invariant-loop-word
invariant-loop-word l =
    (w : ℕ) → w < l.word
    → IsPlan (table_on (tables_of l.plans) w) × IsSound (table_on (tables_of l.plans) w) (state_on l.openings w)
