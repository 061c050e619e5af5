-- The numbers of the refusals, compared.
use Rattle.std.proofs.Common.{◌≡◌, true, refl}
use Rattle.cell_types.specs.declared.answer.Refusal.{Refusal}
use Rattle.cell_types.specs.declared.answer.Refusal.TheVariants.{NotParty, Held, AlreadyMine, Shut, NotOwner, PlateInZone, NoPlate, PlaceFull, WrongWay, Jump, NotAtWork, NoPose, Worn, Stopped, NotStopped, InUse}
use Rattle.cell_types.specs.Refusals.{number_of}
use Rattle.cell_types.specs.Numbers.{NumbersOfRefusals, is_same_but}

differ : (a b : Refusal) → number_of a ≡ number_of b → is_same_but a b ≡ true
differ NotParty NotParty e = refl
differ (Held _) (Held _) e = refl
differ AlreadyMine AlreadyMine e = refl
differ (Shut _) (Shut _) e = refl
differ (NotOwner _) (NotOwner _) e = refl
differ (PlateInZone _) (PlateInZone _) e = refl
differ NoPlate NoPlate e = refl
differ PlaceFull PlaceFull e = refl
differ WrongWay WrongWay e = refl
differ Jump Jump e = refl
differ NotAtWork NotAtWork e = refl
differ NoPose NoPose e = refl
differ Worn Worn e = refl
differ Stopped Stopped e = refl
differ NotStopped NotStopped e = refl
differ InUse InUse e = refl
differ _ _ e = cc

pub numbers_of_refusals : NumbersOfRefusals
numbers_of_refusals = record {
  not_party = refl;
  held = λ m. refl;
  already_mine = refl;
  shut = λ q. refl;
  not_owner = λ o. refl;
  plate_in_zone = λ z. refl;
  no_plate = refl;
  place_full = refl;
  wrong_way = refl;
  jump = refl;
  not_at_work = refl;
  no_pose = refl;
  worn = refl;
  stopped = refl;
  not_stopped = refl;
  in_use = refl;
  differ = differ;
}
