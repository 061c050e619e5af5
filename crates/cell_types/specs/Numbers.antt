-- The sixteen numbers of the refusals, written out, and that they are distinct.
use Rattle.std.specs.Prelude.{◌≡◌, Bool, true, false, Option, IsTrue}
use Rattle.cell_types.specs.declared.machine.Machine.{Machine}
use Rattle.cell_types.specs.declared.zone.Zone.{Zone}
use Rattle.cell_types.specs.declared.posture.Posture.{Posture}
use Rattle.cell_types.specs.declared.answer.Refusal.{Refusal}
use Rattle.cell_types.specs.declared.answer.Refusal.TheVariants.{NotParty, Held, AlreadyMine, Shut, NotOwner}
use Rattle.cell_types.specs.declared.answer.Refusal.TheVariants.{PlateInZone, NoPlate, PlaceFull, WrongWay, Jump}
use Rattle.cell_types.specs.declared.answer.Refusal.TheVariants.{NotAtWork, NoPose, Worn, Stopped, NotStopped, InUse}
use Rattle.cell_types.specs.Refusals.{number_of}

-- two refusals differ in nothing but what they name
abbrev pub is_same_but : Refusal → Refusal → Bool
is_same_but NotParty NotParty = true
is_same_but (Held _) (Held _) = true
is_same_but AlreadyMine AlreadyMine = true
is_same_but (Shut _) (Shut _) = true
is_same_but (NotOwner _) (NotOwner _) = true
is_same_but (PlateInZone _) (PlateInZone _) = true
is_same_but NoPlate NoPlate = true
is_same_but PlaceFull PlaceFull = true
is_same_but WrongWay WrongWay = true
is_same_but Jump Jump = true
is_same_but NotAtWork NotAtWork = true
is_same_but NoPose NoPose = true
is_same_but Worn Worn = true
is_same_but Stopped Stopped = true
is_same_but NotStopped NotStopped = true
is_same_but InUse InUse = true
is_same_but _ _ = false

-- a refusal's number is the table's, whatever it names, and no other refusal has it
pub record NumbersOfRefusals : Type 0 where
  pub not_party : number_of NotParty ≡ 1
  pub held : (m : Machine) → number_of (Held m) ≡ 2
  pub already_mine : number_of AlreadyMine ≡ 3
  pub shut : (q : Posture) → number_of (Shut q) ≡ 4
  pub not_owner : (o : Option Machine) → number_of (NotOwner o) ≡ 5
  pub plate_in_zone : (z : Zone) → number_of (PlateInZone z) ≡ 6
  pub no_plate : number_of NoPlate ≡ 7
  pub place_full : number_of PlaceFull ≡ 8
  pub wrong_way : number_of WrongWay ≡ 9
  pub jump : number_of Jump ≡ 10
  pub not_at_work : number_of NotAtWork ≡ 11
  pub no_pose : number_of NoPose ≡ 12
  pub worn : number_of Worn ≡ 13
  pub stopped : number_of Stopped ≡ 14
  pub not_stopped : number_of NotStopped ≡ 15
  pub in_use : number_of InUse ≡ 16
  pub differ : (a b : Refusal) → number_of a ≡ number_of b → IsTrue (is_same_but a b)
