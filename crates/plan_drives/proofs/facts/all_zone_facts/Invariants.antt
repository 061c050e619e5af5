use Rattle.std.proofs.Common.{◌≡◌, ℕ, ◌<◌, length, get_or}
use Rattle.plan_motors.specs.Motor.{no_need}
use Rattle.plan_drives.specs.Facts.{zone_facts}
use Rattle.plan_drives.proofs.facts.all_zone_facts.Given as goal

abbrev pub invariant-loop-zone : goal.invariant-loop-zone
invariant-loop-zone l =
    (length l.zones ≡ 10) × ((k : ℕ) → k < l.zone → get_or l.zones k no_need ≡ zone_facts l.plan l.known l.call k)
