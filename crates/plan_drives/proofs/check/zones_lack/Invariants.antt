use Rattle.std.proofs.Common.{◌≡◌}
use Rattle.plan_types.specs.Below.{first_below}
use Rattle.plan_motors.specs.Motor.{need_of}
use Rattle.plan_drives.specs.Lacking.{zone_lack}
use Rattle.plan_drives.proofs.check.zones_lack.Given as goal

abbrev pub invariant-loop-zone : goal.invariant-loop-zone
invariant-loop-zone l = l.first ≡ first_below (λ z. zone_lack z (need_of l.known z) (need_of l.motor z)) l.zone
