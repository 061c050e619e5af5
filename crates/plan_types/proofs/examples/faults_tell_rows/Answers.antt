use Rattle.std.proofs.Common.{refl}
use Rattle.plan_types.proofs.examples.faults_tell_rows.Goals as goal

pub returns : goal.returns
returns c = record { keeper = refl; last_keeper = refl; host = refl; guest = refl; same = refl; inward = refl; outward = refl; last_zone = refl; earlier_zone = refl; machine = refl; last_machine = refl; foreign = refl; anothers = refl; not_there = refl; last_pose = refl; first_of_two = refl; earlier_pose = refl }
