-- Refusals that others' calls may mend, and those of them that stop a machine at a line.
use Rattle.std.specs.Prelude.{Bool, true, false, not, List, [], ◌∷◌, Option, Some, None}
use Rattle.plan_types.specs.declared.answer.Refusal.{Refusal}
use Rattle.plan_types.specs.declared.answer.Refusal.TheVariants as refusal
use Rattle.plan_controller.specs.declared.faults.Faults.{Faults}
use Rattle.plan_controller.specs.declared.faults.Mendable.{Mendable}
use Rattle.plan_controller.specs.declared.faults.Mendable.TheVariants.{Held, Shut, NotOwner, PlateInZone, NoPlate}
use Rattle.plan_controller.specs.declared.faults.Mendable.TheVariants.{PlaceFull, WrongWay, Stopped}

abbrev pub all_mendable : List Mendable
all_mendable = Held ∷ Shut ∷ NotOwner ∷ PlateInZone ∷ NoPlate ∷ PlaceFull ∷ WrongWay ∷ Stopped ∷ []

-- what a refusal is, without what it names; waiting never mends the others
abbrev pub mendable : Refusal → Option Mendable
mendable (refusal.Held machine) = Some Held
mendable (refusal.Shut posture) = Some Shut
mendable (refusal.NotOwner owner) = Some NotOwner
mendable (refusal.PlateInZone zone) = Some PlateInZone
mendable refusal.NoPlate = Some NoPlate
mendable refusal.PlaceFull = Some PlaceFull
mendable refusal.WrongWay = Some WrongWay
mendable refusal.Stopped = Some Stopped
mendable refusal.NotParty = None
mendable refusal.AlreadyMine = None
mendable refusal.Jump = None
mendable refusal.NoPose = None
mendable refusal.Worn = None
mendable refusal.NotStopped = None

abbrev pub no_faults : Faults
no_faults = record {
  held = false;
  shut = false;
  not_owner = false;
  plate_in_zone = false;
  no_plate = false;
  place_full = false;
  wrong_way = false;
  stopped = false;
}

abbrev pub has : Faults → Mendable → Bool
has f Held = f.held
has f Shut = f.shut
has f NotOwner = f.not_owner
has f PlateInZone = f.plate_in_zone
has f NoPlate = f.no_plate
has f PlaceFull = f.place_full
has f WrongWay = f.wrong_way
has f Stopped = f.stopped

abbrev pub with_one : Faults → Mendable → Faults
with_one f Held = record f { held = true }
with_one f Shut = record f { shut = true }
with_one f NotOwner = record f { not_owner = true }
with_one f PlateInZone = record f { plate_in_zone = true }
with_one f NoPlate = record f { no_plate = true }
with_one f PlaceFull = record f { place_full = true }
with_one f WrongWay = record f { wrong_way = true }
with_one f Stopped = record f { stopped = true }

-- a machine waits out what others' calls may mend, unless its line has it as a fault
abbrev pub is_waited_out : Faults → Option Mendable → Bool
is_waited_out f None = false
is_waited_out f (Some r) = not (has f r)
