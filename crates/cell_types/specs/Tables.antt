-- The tables of the cell: who meets in a zone, the way of a plate through it, and the postures that poses give it.
use Rattle.std.specs.Prelude.{Option, Some, None}
use Rattle.cell_types.specs.declared.machine.Machine.{Machine}
use Rattle.cell_types.specs.declared.machine.Machine.TheVariants.{Feed, Robot, Press, Deposit, Table as TableMachine}
use Rattle.cell_types.specs.declared.machine.Machine.TheVariants.{Crane as CraneMachine}
use Rattle.cell_types.specs.declared.zone.Zone.{Zone}
use Rattle.cell_types.specs.declared.zone.Zone.TheVariants.{Z1, Z2, Z3, Z4, Z5, Z6}
use Rattle.cell_types.specs.declared.place.Place.{Place}
use Rattle.cell_types.specs.declared.place.Place.TheVariants.{FeedEntry, FeedEnd, Table, Arm1, PressIn, PressOut, Arm2}
use Rattle.cell_types.specs.declared.place.Place.TheVariants.{DepEntry, DepEnd, Crane}
use Rattle.cell_types.specs.declared.zone.Transfer.{Transfer}
use Rattle.cell_types.specs.declared.posture.Posture.{Posture}
use Rattle.cell_types.specs.declared.posture.Posture.TheVariants.{Closed, Moving, OpenIn, OpenOut}
use Rattle.cell_types.specs.declared.pose.Pose.{Pose}
use Rattle.cell_types.specs.declared.pose.Pose.TheVariants.{Turning, Loading, Unloading, Travelling, Middle, Low, Top}
use Rattle.cell_types.specs.declared.pose.Pose.TheVariants.{Running, Landing, Halted, Offering, Standing}

-- the machine that a zone belongs to
abbrev pub host_of : Zone → Machine
host_of Z1 = TableMachine
host_of Z2 = TableMachine
host_of Z3 = Press
host_of Z4 = Deposit
host_of Z5 = Deposit
host_of Z6 = Feed

-- the other machine that enters it
abbrev pub guest_of : Zone → Machine
guest_of Z1 = Feed
guest_of Z2 = Robot
guest_of Z3 = Robot
guest_of Z4 = Robot
guest_of Z5 = CraneMachine
guest_of Z6 = CraneMachine

-- in an OpenIn row the guest gives, in an OpenOut row the host gives
abbrev pub inward : Zone → Place → Place → Option Transfer
inward zone start end = Some (record { giver = guest_of zone; receiver = host_of zone; from = start; to = end })

abbrev pub outward : Zone → Place → Place → Option Transfer
outward zone start end = Some (record { giver = host_of zone; receiver = guest_of zone; from = start; to = end })

-- the way of a plate through a zone in a posture
abbrev pub transfer_of : Zone → Posture → Option Transfer
transfer_of Z1 OpenIn = inward Z1 FeedEnd Table
transfer_of Z2 OpenOut = outward Z2 Table Arm1
transfer_of Z3 OpenIn = inward Z3 Arm1 PressIn
transfer_of Z3 OpenOut = outward Z3 PressOut Arm2
transfer_of Z4 OpenIn = inward Z4 Arm2 DepEntry
transfer_of Z5 OpenOut = outward Z5 DepEnd Crane
transfer_of Z6 OpenIn = inward Z6 Crane FeedEntry
transfer_of _ _ = None

-- the posture that a pose of a machine gives a zone
abbrev pub posture_of : Machine → Pose → Zone → Option Posture
posture_of TableMachine Turning Z1 = Some Moving
posture_of TableMachine Turning Z2 = Some Moving
posture_of TableMachine Loading Z1 = Some OpenIn
posture_of TableMachine Loading Z2 = Some Closed
posture_of TableMachine Unloading Z1 = Some Closed
posture_of TableMachine Unloading Z2 = Some OpenOut
posture_of Press Travelling Z3 = Some Moving
posture_of Press Middle Z3 = Some OpenIn
posture_of Press Low Z3 = Some OpenOut
posture_of Press Top Z3 = Some Closed
posture_of Feed Running Z6 = Some Moving
posture_of Feed Landing Z6 = Some OpenIn
posture_of Feed Halted Z6 = Some Closed
posture_of Deposit Running Z4 = Some Moving
posture_of Deposit Running Z5 = Some Moving
posture_of Deposit Landing Z4 = Some OpenIn
posture_of Deposit Landing Z5 = Some Closed
posture_of Deposit Offering Z4 = Some Closed
posture_of Deposit Offering Z5 = Some OpenOut
posture_of Deposit Standing Z4 = Some OpenIn
posture_of Deposit Standing Z5 = Some OpenOut
posture_of Deposit Halted Z4 = Some Closed
posture_of Deposit Halted Z5 = Some Closed
posture_of _ _ _ = None
