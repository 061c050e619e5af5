use Rattle.std.proofs.Common.{refl}
use Rattle.plan_motors.proofs.examples.first_faults.Goals as goal

pub returns-clause-faults : goal.returns-clause-faults
returns-clause-faults c = record { none = refl; machine = refl; zone = refl; loose = refl; place = refl; never = refl; first = refl; second = refl; third_motor = refl; eighth_zone = refl; tenth_zone = refl; tenth_posture = refl; second_loose = refl; second_place = refl; sixteenth_place = refl; second_never = refl; later_first = refl; first_second = refl; most_motors = refl; too_many = refl }

pub returns-clause-order : goal.returns-clause-order
returns-clause-order c = record { many = refl; machine = refl; zone = refl; same_zone = refl; loose = refl; place = refl; never = refl; first = refl; second = refl }
