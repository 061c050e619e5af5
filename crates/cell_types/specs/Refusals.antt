-- The numbers of the refusals.
use Rattle.std.specs.Prelude.{ℕ}
use Rattle.cell_types.specs.declared.answer.Refusal.{Refusal}
use Rattle.cell_types.specs.declared.answer.Refusal.TheVariants.{NotParty, Held, AlreadyMine, Shut, NotOwner}
use Rattle.cell_types.specs.declared.answer.Refusal.TheVariants.{PlateInZone, NoPlate, PlaceFull, WrongWay, Jump}
use Rattle.cell_types.specs.declared.answer.Refusal.TheVariants.{NotAtWork, NoPose, Worn, Stopped, NotStopped, InUse}

abbrev pub number_of : Refusal → ℕ
number_of NotParty = 1
number_of (Held _) = 2
number_of AlreadyMine = 3
number_of (Shut _) = 4
number_of (NotOwner _) = 5
number_of (PlateInZone _) = 6
number_of NoPlate = 7
number_of PlaceFull = 8
number_of WrongWay = 9
number_of Jump = 10
number_of NotAtWork = 11
number_of NoPose = 12
number_of Worn = 13
number_of Stopped = 14
number_of NotStopped = 15
number_of InUse = 16
