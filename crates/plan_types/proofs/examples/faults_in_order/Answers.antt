use Rattle.std.proofs.Common.{refl}
use Rattle.plan_types.proofs.examples.faults_in_order.Goals as goal

pub returns : goal.returns
returns c = record { machines = refl; zones = refl; poses = refl; places = refl; width = refl; keeper = refl; host = refl; guest = refl; same = refl; ways = refl; outward = refl; pose = refl }
