use Rattle.std.proofs.Common.{refl}
use Rattle.plan_types.proofs.examples.largest_plans.Goals as goal

pub returns : goal.returns
returns c = record { machines = refl; poses = refl; places = refl; eight_zones = refl; seven_zones = refl; six_zones = refl; five_zones = refl; ten_gates = refl; ten_zones = refl }
