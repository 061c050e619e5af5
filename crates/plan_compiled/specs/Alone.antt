-- A zone that is a space by itself.
use Rattle.std.specs.Prelude.{ℕ}
use Rattle.plan_types.specs.Table.{PlanTable}
use Rattle.plan_rules.specs.declared.state.ZoneState.{ZoneState}
use Rattle.plan_word.specs.Reading.{zone_of_code}

-- what its own bits tell of it
abbrev pub zone_alone : PlanTable → ℕ → ℕ → ZoneState
zone_alone t z n = zone_of_code t z n n
