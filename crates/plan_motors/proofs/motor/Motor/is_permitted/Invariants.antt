use Rattle.std.proofs.Common.{ℕ, ◌<◌, IsTrue}
use Rattle.plan_types.specs.Table.{zone_count}
use Rattle.plan_rules.specs.State.{zone_at, is_full}
use Rattle.plan_motors.specs.Motor.{need_of, place_need, meets, meets_place}
use Rattle.plan_motors.proofs.motor.Motor.is_permitted.Given as goal

abbrev pub invariant-loop-zone : goal.invariant-loop-zone
invariant-loop-zone l = (z : ℕ) → z < l.zone → IsTrue (meets l.self.machine (need_of l.self z) (zone_at l.state z))

abbrev pub invariant-loop-place : goal.invariant-loop-place
invariant-loop-place l = record {
  zones : (z : ℕ) → z < zone_count l.plan → IsTrue (meets l.self.machine (need_of l.self z) (zone_at l.state z));
  places : (p : ℕ) → p < l.place → IsTrue (meets_place (place_need l.self p) (is_full l.state p));
}
