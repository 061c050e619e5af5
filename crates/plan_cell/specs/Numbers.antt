-- The names of the cell as numbers, those of their rows in the tables of the cell's plan.
use Rattle.std.specs.Prelude.{ℕ, Option, Some, None}
use Rattle.cell_types.specs.declared.machine.Machine.{Machine}
use Rattle.cell_types.specs.declared.machine.Machine.TheVariants.{Feed, Table as TableMachine, Robot, Press, Deposit}
use Rattle.cell_types.specs.declared.machine.Machine.TheVariants.{Crane as CraneMachine, Watch}
use Rattle.cell_types.specs.declared.zone.Zone.{Zone}
use Rattle.cell_types.specs.declared.zone.Zone.TheVariants.{Z1, Z2, Z3, Z4, Z5, Z6}
use Rattle.cell_types.specs.declared.place.Place.{Place}
use Rattle.cell_types.specs.declared.place.Place.TheVariants.{FeedEntry, FeedEnd, Table, Arm1, PressIn, PressOut, Arm2}
use Rattle.cell_types.specs.declared.place.Place.TheVariants.{DepEntry, DepEnd, Crane}
use Rattle.cell_types.specs.declared.pose.Pose.{Pose}
use Rattle.cell_types.specs.declared.pose.Pose.TheVariants.{Turning, Loading, Unloading, Travelling, Middle, Low, Top}
use Rattle.cell_types.specs.declared.pose.Pose.TheVariants.{Running, Landing, Halted, Offering, Standing}
use Rattle.cell_types.specs.declared.posture.Posture.{Posture}
use Rattle.cell_types.specs.declared.posture.Posture.TheVariants.{Closed, Moving, OpenIn, OpenOut}
use Rattle.cell_types.specs.declared.call.Call.{Call}
use Rattle.cell_types.specs.declared.call.Call.TheVariants.{Claim, Give, Yield, Take, Release, SetPose, Advance}
use Rattle.cell_types.specs.declared.call.Call.TheVariants.{Inquire, Stop, Resume}
use Rattle.plan_types.specs.declared.posture.Posture.{Posture as PlanPosture}
use Rattle.plan_types.specs.declared.posture.Posture.TheVariants.{Closed as IsClosed, Moving as IsMoving}
use Rattle.plan_types.specs.declared.posture.Posture.TheVariants.{OpenIn as IsOpenIn, OpenOut as IsOpenOut}
use Rattle.plan_types.specs.declared.call.Call.{Call as PlanCall}
use Rattle.plan_types.specs.declared.call.Call.TheVariants.{Claim as DoClaim, Give as DoGive, Yield as DoYield}
use Rattle.plan_types.specs.declared.call.Call.TheVariants.{Take as DoTake, Release as DoRelease}
use Rattle.plan_types.specs.declared.call.Call.TheVariants.{SetPose as DoSetPose, Inquire as DoInquire}
use Rattle.plan_types.specs.declared.call.Call.TheVariants.{Stop as DoStop, Resume as DoResume}

abbrev pub machine_number : Machine → ℕ
machine_number Feed = 0
machine_number TableMachine = 1
machine_number Robot = 2
machine_number Press = 3
machine_number Deposit = 4
machine_number CraneMachine = 5
machine_number Watch = 30

abbrev pub zone_number : Zone → ℕ
zone_number Z1 = 0
zone_number Z2 = 1
zone_number Z3 = 2
zone_number Z4 = 3
zone_number Z5 = 4
zone_number Z6 = 5

abbrev pub place_number : Place → ℕ
place_number FeedEntry = 0
place_number FeedEnd = 1
place_number Table = 2
place_number Arm1 = 3
place_number PressIn = 4
place_number PressOut = 5
place_number Arm2 = 6
place_number DepEntry = 7
place_number DepEnd = 8
place_number Crane = 9

-- the poses of all machines are rows of one table; a pose that a machine hasn't is a row past its end
abbrev pub pose_number : Machine → Pose → ℕ
pose_number TableMachine Turning = 0
pose_number TableMachine Loading = 1
pose_number TableMachine Unloading = 2
pose_number Press Travelling = 3
pose_number Press Middle = 4
pose_number Press Low = 5
pose_number Press Top = 6
pose_number Feed Running = 7
pose_number Feed Landing = 8
pose_number Feed Halted = 9
pose_number Deposit Running = 10
pose_number Deposit Landing = 11
pose_number Deposit Offering = 12
pose_number Deposit Standing = 13
pose_number Deposit Halted = 14
pose_number _ _ = 15

abbrev pub plan_posture : Posture → PlanPosture
plan_posture Closed = IsClosed
plan_posture Moving = IsMoving
plan_posture OpenIn = IsOpenIn
plan_posture OpenOut = IsOpenOut

-- the same call by the plan; the cell's Advance, of a belt, is none by it
abbrev pub plan_call : Machine → Call → Option PlanCall
plan_call m (Claim z) = Some (DoClaim (zone_number z))
plan_call m (Give z) = Some (DoGive (zone_number z))
plan_call m (Yield z) = Some (DoYield (zone_number z))
plan_call m (Take z) = Some (DoTake (zone_number z))
plan_call m (Release z) = Some (DoRelease (zone_number z))
plan_call m (SetPose p) = Some (DoSetPose (pose_number m p))
plan_call m Advance = None
plan_call m (Inquire z) = Some (DoInquire (zone_number z))
plan_call m Stop = Some DoStop
plan_call m Resume = Some DoResume
