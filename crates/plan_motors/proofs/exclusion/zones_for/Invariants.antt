use Rattle.std.proofs.Common.{◌≡◌, ℕ, ◌<◌, length, get_or}
use Rattle.plan_rules.specs.State.{free_zone}
use Rattle.plan_motors.specs.Exclusion.{zone_in}
use Rattle.plan_motors.proofs.exclusion.zones_for.Given as goal

abbrev pub invariant-loop-zone : goal.invariant-loop-zone
invariant-loop-zone l = (length l.zones ≡ 10) × ((k : ℕ) → k < l.zone → get_or l.zones k free_zone ≡ zone_in l.plan l.first l.second k)
