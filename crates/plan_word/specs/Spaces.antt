-- Whether two zones of one space have a plate.
use Rattle.std.specs.Prelude.{ℕ, Bool, ◌&&◌}
use Rattle.plan_types.specs.Below.{any_below}
use Rattle.plan_types.specs.Table.{PlanTable, zone_count, same_space}
use Rattle.plan_rules.specs.declared.state.State.{State}
use Rattle.plan_rules.specs.State.{zone_at}

-- an earlier zone of a zone's space has a plate, and so has the zone
abbrev pub second_plate : PlanTable → State → ℕ → ℕ → Bool
second_plate t s z y = same_space t y z && (zone_at s y).flag && (zone_at s z).flag

abbrev pub second_plates : PlanTable → State → Bool
second_plates t s = any_below (λ z. any_below (second_plate t s z) z) (zone_count t)
