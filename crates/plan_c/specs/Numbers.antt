-- The numbers by which C names postures, calls and faults. Machines, zones, poses and places have those of the plan.
use Rattle.std.specs.Prelude.{◌≡◌, ℕ, ◌+◌, ◌^◌, if◌then◌else◌}
use Rattle.plan_types.specs.declared.posture.Posture.{Posture}
use Rattle.plan_types.specs.declared.posture.Posture.TheVariants.{Closed, Moving, OpenIn, OpenOut}
use Rattle.plan_types.specs.declared.call.Call.{Call}
use Rattle.plan_types.specs.declared.call.Call.TheVariants.{Claim, Give, Yield, Take, Release, SetPose, Inquire, Stop}
use Rattle.plan_types.specs.declared.call.Call.TheVariants.{Resume, Advance}
use Rattle.plan_controller.specs.declared.faults.Faults.{Faults}
use Rattle.plan_controller.specs.declared.faults.Mendable.{Mendable}
use Rattle.plan_controller.specs.declared.faults.Mendable.TheVariants.{Held, Shut, NotOwner, PlateInZone, NoPlate}
use Rattle.plan_controller.specs.declared.faults.Mendable.TheVariants.{PlaceFull, WrongWay, Stopped}
use Rattle.plan_controller.specs.Faults.{has}

abbrev pub posture_number : Posture → ℕ
posture_number Closed = 0
posture_number Moving = 1
posture_number OpenIn = 2
posture_number OpenOut = 3

-- 7 is the cell's Advance, which says no place; that of plans is 11
abbrev pub verb_number : Call → ℕ
verb_number (Claim _) = 1
verb_number (Give _) = 2
verb_number (Yield _) = 3
verb_number (Take _) = 4
verb_number (Release _) = 5
verb_number (SetPose _) = 6
verb_number (Inquire _) = 8
verb_number Stop = 9
verb_number Resume = 10
verb_number (Advance _) = 11

-- that of the refusal
abbrev pub mendable_number : Mendable → ℕ
mendable_number Held = 2
mendable_number Shut = 4
mendable_number NotOwner = 5
mendable_number PlateInZone = 6
mendable_number NoPlate = 7
mendable_number PlaceFull = 8
mendable_number WrongWay = 9
mendable_number Stopped = 14

abbrev pub bit_of : Faults → Mendable → ℕ
bit_of faults r = if has faults r then 2 ^ mendable_number r else 0

-- the faults of a line are a number, in which each has the bit of its own
abbrev pub faults_number : Faults → ℕ
faults_number f =
    bit_of f Held + bit_of f Shut + bit_of f NotOwner + bit_of f PlateInZone + bit_of f NoPlate + bit_of f PlaceFull
    + bit_of f WrongWay + bit_of f Stopped

-- 0 for a call without object
abbrev pub object_number : Call → ℕ
object_number (Claim z) = z
object_number (Give z) = z
object_number (Yield z) = z
object_number (Take z) = z
object_number (Release z) = z
object_number (SetPose p) = p
object_number (Inquire z) = z
object_number Stop = 0
object_number Resume = 0
object_number (Advance p) = p

-- the two numbers name this call
abbrev pub IsCall : ℕ → ℕ → Call → Type 0
IsCall verb object c = (verb ≡ verb_number c) × (object ≡ object_number c)

abbrev pub NoCall : ℕ → ℕ → Type 0
NoCall verb object = (c : Call) → ¬ IsCall verb object c
