use Rattle.std.proofs.Common.{ℕ, ◌<◌, ◌||◌, is_some, IsTrue}
use Rattle.plan_types.specs.Table.{zone_count, is_hosted, is_place_of}
use Rattle.plan_motors.specs.Motor.{need_of, place_need}
use Rattle.plan_drives.proofs.in_step.is_own.Given as goal

abbrev pub invariant-loop-zone : goal.invariant-loop-zone
invariant-loop-zone l =
    (z : ℕ) → z < l.zone → IsTrue (is_some (need_of l.known z).posture)
    → IsTrue ((need_of l.known z).holds || is_hosted l.plan z l.known.machine)

abbrev pub invariant-loop-place : goal.invariant-loop-place
invariant-loop-place l = record {
  postures : (z : ℕ) → z < zone_count l.plan → IsTrue (is_some (need_of l.known z).posture)
      → IsTrue ((need_of l.known z).holds || is_hosted l.plan z l.known.machine);
  places : (p : ℕ) → p < l.place → IsTrue (is_some (place_need l.known p)) → IsTrue (is_place_of l.plan p l.known.machine);
}
