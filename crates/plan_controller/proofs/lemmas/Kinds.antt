-- Each refusal that others' calls may mend.
use Rattle.std.proofs.Common.{◌≡◌, Bool, false, get_or, map, ap}
use Rattle.plan_controller.specs.declared.faults.Faults.{Faults}
use Rattle.plan_controller.specs.declared.faults.Mendable.{Mendable}
use Rattle.plan_controller.specs.declared.faults.Mendable.TheVariants.{Held, Shut, NotOwner, PlateInZone, NoPlate}
use Rattle.plan_controller.specs.declared.faults.Mendable.TheVariants.{PlaceFull, WrongWay, Stopped}
use Rattle.plan_controller.specs.Faults.{all_mendable, has}

-- what is the same of all is the same of each
pub by_all : (p q : Mendable → Bool) → map p all_mendable ≡ map q all_mendable → (kind : Mendable) → p kind ≡ q kind
by_all p q e Held = ap (λ bs. get_or bs 0 false) e
by_all p q e Shut = ap (λ bs. get_or bs 1 false) e
by_all p q e NotOwner = ap (λ bs. get_or bs 2 false) e
by_all p q e PlateInZone = ap (λ bs. get_or bs 3 false) e
by_all p q e NoPlate = ap (λ bs. get_or bs 4 false) e
by_all p q e PlaceFull = ap (λ bs. get_or bs 5 false) e
by_all p q e WrongWay = ap (λ bs. get_or bs 6 false) e
by_all p q e Stopped = ap (λ bs. get_or bs 7 false) e

-- faults that have the same refusals are the same
pub same_faults : (f g : Faults) → ((kind : Mendable) → has f kind ≡ has g kind) → f ≡ g
same_faults f g same = λ i. record {
  held = same Held i;
  shut = same Shut i;
  not_owner = same NotOwner i;
  plate_in_zone = same PlateInZone i;
  no_plate = same NoPlate i;
  place_full = same PlaceFull i;
  wrong_way = same WrongWay i;
  stopped = same Stopped i;
}
