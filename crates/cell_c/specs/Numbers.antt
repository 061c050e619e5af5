-- The numbers by which C names machines, zones, places, poses, postures and calls.
use Rattle.std.specs.Prelude.{◌≡◌, ℕ, Option, Some, None}
use Rattle.cell_rules.specs.Types.{Machine, Feed, Robot, Press, Deposit, Watch, Zone, Z1, Z2, Z3, Z4, Z5, Z6, Place}
use Rattle.cell_rules.specs.Types.{FeedEntry, FeedEnd, Arm1, PressIn, PressOut, Arm2, DepEntry, DepEnd, Posture}
use Rattle.cell_rules.specs.Types.{Closed, Moving, OpenIn, OpenOut, Pose, Turning, Loading, Unloading, Travelling}
use Rattle.cell_rules.specs.Types.{Middle, Low, Top, Running, Landing, Halted, Offering, Standing, Call, Claim, Give}
use Rattle.cell_rules.specs.Types.{Yield, Take, Release, SetPose, Advance, Inquire, Stop, Resume}
use Rattle.cell_types.specs.declared.machine.Machine.TheVariants.{Table as TableMachine}
use Rattle.cell_types.specs.declared.machine.Machine.TheVariants.{Crane as CraneMachine}
use Rattle.cell_types.specs.declared.place.Place.TheVariants.{Table}
use Rattle.cell_types.specs.declared.place.Place.TheVariants.{Crane}

abbrev pub machine_number : Machine → ℕ
machine_number Feed = 1
machine_number TableMachine = 2
machine_number Robot = 3
machine_number Press = 4
machine_number Deposit = 5
machine_number CraneMachine = 6
machine_number Watch = 7

-- nobody is 0
abbrev pub owner_number : Option Machine → ℕ
owner_number None = 0
owner_number (Some m) = machine_number m

abbrev pub zone_number : Zone → ℕ
zone_number Z1 = 1
zone_number Z2 = 2
zone_number Z3 = 3
zone_number Z4 = 4
zone_number Z5 = 5
zone_number Z6 = 6

abbrev pub place_number : Place → ℕ
place_number FeedEntry = 1
place_number FeedEnd = 2
place_number Table = 3
place_number Arm1 = 4
place_number PressIn = 5
place_number PressOut = 6
place_number Arm2 = 7
place_number DepEntry = 8
place_number DepEnd = 9
place_number Crane = 10

abbrev pub posture_number : Posture → ℕ
posture_number Closed = 0
posture_number Moving = 1
posture_number OpenIn = 2
posture_number OpenOut = 3

abbrev pub pose_number : Pose → ℕ
pose_number Turning = 1
pose_number Loading = 2
pose_number Unloading = 3
pose_number Travelling = 4
pose_number Middle = 5
pose_number Low = 6
pose_number Top = 7
pose_number Running = 8
pose_number Landing = 9
pose_number Halted = 10
pose_number Offering = 11
pose_number Standing = 12

abbrev pub verb_number : Call → ℕ
verb_number (Claim _) = 1
verb_number (Give _) = 2
verb_number (Yield _) = 3
verb_number (Take _) = 4
verb_number (Release _) = 5
verb_number (SetPose _) = 6
verb_number Advance = 7
verb_number (Inquire _) = 8
verb_number Stop = 9
verb_number Resume = 10

-- 0 for a call without object
abbrev pub object_number : Call → ℕ
object_number (Claim z) = zone_number z
object_number (Give z) = zone_number z
object_number (Yield z) = zone_number z
object_number (Take z) = zone_number z
object_number (Release z) = zone_number z
object_number (SetPose p) = pose_number p
object_number Advance = 0
object_number (Inquire z) = zone_number z
object_number Stop = 0
object_number Resume = 0

-- the two numbers name this call
abbrev pub IsCall : ℕ → ℕ → Call → Type 0
IsCall verb object c = (verb ≡ verb_number c) × (object ≡ object_number c)

-- the three numbers name this call of this machine
abbrev pub IsNamed : ℕ → ℕ → ℕ → Machine → Call → Type 0
IsNamed machine verb object m c = (machine ≡ machine_number m) × IsCall verb object c
