use Rattle.std.proofs.Common.{◌≡◌}
use Rattle.plan_types.specs.Below.{first_below}
use Rattle.plan_motors.specs.Motor.{place_need}
use Rattle.plan_drives.specs.Lacking.{place_lack}
use Rattle.plan_drives.proofs.check.places_lack.Given as goal

abbrev pub invariant-loop-place : goal.invariant-loop-place
invariant-loop-place l = l.first ≡ first_below (λ p. place_lack p (place_need l.known p) (place_need l.motor p)) l.place
