-- Two plants, written out: two machines at a press, and a lift between two floors.
use Rattle.std.specs.Prelude.{◌≡◌, ℕ, ◌-◌, Bool, true, false, List, [], ◌∷◌, ◌++◌, replicate, Option, Some, None}
use Rattle.plan_types.specs.declared.posture.Posture.{Posture}
use Rattle.plan_types.specs.declared.posture.Posture.TheVariants.{Closed, Moving, OpenIn, OpenOut}
use Rattle.plan_types.specs.declared.table.Way.{Way}
use Rattle.plan_types.specs.declared.table.PlanZone.{PlanZone}
use Rattle.plan_types.specs.declared.table.PlanPose.{PlanPose}
use Rattle.plan_types.specs.declared.fault.PlanFault.{PlanFault}
use Rattle.plan_types.specs.declared.fault.PlanFault.TheVariants.{TooManyMachines, TooManyZones, TooManyPoses}
use Rattle.plan_types.specs.declared.fault.PlanFault.TheVariants.{TooManyPlaces, TooWide, NoSuchKeeper, NoSuchHost}
use Rattle.plan_types.specs.declared.fault.PlanFault.TheVariants.{NoSuchGuest, HostIsGuest, InwardAstray}
use Rattle.plan_types.specs.declared.fault.PlanFault.TheVariants.{OutwardAstray, NoSuchMachine, ForeignZone}
use Rattle.plan_types.specs.declared.table.PlanPlace.{PlanPlace}
use Rattle.plan_types.specs.Table.{PlanTable, whole_table, plan_table, kept_by}
use Rattle.plan_types.specs.Plan.{IsPlan}
use Rattle.plan_types.specs.Faults.{plan_fault}

abbrev pub way : ℕ → ℕ → Option Way
way from to = Some (record { from = from; to = to })

abbrev pub zone : ℕ → ℕ → Option Way → Option Way → PlanZone
zone host guest inward outward =
    record { host = host; guest = guest; joins = false; inward = inward; outward = outward }

-- the same, of one space with the zone before it
abbrev pub joined : PlanZone → PlanZone
joined row = record row { joins = true }

-- a pose that gives a posture to the first zone, and to the second
abbrev pub pose : ℕ → Bool → Option Posture → Option Posture → PlanPose
pose machine after_moving first second = record {
  machine = machine;
  after_moving = after_moving;
  gives = first ∷ second ∷ replicate 8 None;
}

-- machine 0 loads and unloads the press, machine 1; places: 0 the loader's, 1 the press's
-- poses: 0 open for loading, 1 open for unloading, 2 closed, 3 travelling
abbrev pub press_zone : PlanZone
press_zone = zone 1 0 (way 0 1) (way 1 0)

abbrev pub press_poses : List PlanPose
press_poses =
    pose 1 true (Some OpenIn) None ∷ pose 1 true (Some OpenOut) None ∷ pose 1 true (Some Closed) None
    ∷ pose 1 false (Some Moving) None ∷ []

abbrev pub press_table : PlanTable
press_table = plan_table 2 (press_zone ∷ []) press_poses (0 ∷ 1 ∷ [])

-- the press again, whose loader fills its hand from outside and empties it there
abbrev pub hand : PlanPlace
hand = record { keeper = 0; source = true; sink = true }

abbrev pub open_press_table : PlanTable
open_press_table = whole_table 2 (press_zone ∷ []) press_poses (hand ∷ kept_by 1 ∷ [])

-- machine 0 is the lift, 1 the lower floor, 2 the upper one; places: each machine's own
-- poses: 0 travelling, 1 loading below, 2 unloading above, 3 unloading below, 4 loading above
abbrev pub lift_zones : List PlanZone
lift_zones = zone 0 1 (way 1 0) (way 0 1) ∷ zone 0 2 (way 2 0) (way 0 2) ∷ []

abbrev pub lift_poses : List PlanPose
lift_poses =
    pose 0 false (Some Moving) (Some Moving) ∷ pose 0 true (Some OpenIn) (Some Closed)
    ∷ pose 0 true (Some Closed) (Some OpenOut) ∷ pose 0 true (Some OpenOut) (Some Closed)
    ∷ pose 0 true (Some Closed) (Some OpenIn) ∷ []

abbrev pub lift_table : PlanTable
lift_table = plan_table 3 lift_zones lift_poses (0 ∷ 1 ∷ 2 ∷ [])

-- machine 0 sets the points for two roads, on which trains come, 1 and 2; poses: 0 switching, 1 and 2 set for a road
abbrev pub roads_table : PlanTable
roads_table =
    plan_table 3 (zone 0 1 None None ∷ zone 0 2 None None ∷ [])
    (pose 0 false (Some Moving) (Some Moving) ∷ pose 0 true (Some OpenIn) (Some Closed)
    ∷ pose 0 true (Some Closed) (Some OpenIn) ∷ []) []

-- machine 0 loads the press from its hand, a source, and takes the plates out to its tray, a sink; places: 0 the hand,
-- 1 the tray, 2 the press's
abbrev pub through_table : PlanTable
through_table =
    whole_table 2 (zone 1 0 (way 0 2) (way 2 1) ∷ []) press_poses
    (record { keeper = 0; source = true; sink = false } ∷ record { keeper = 0; source = false; sink = true }
    ∷ kept_by 1 ∷ [])

-- a pose that gives one zone a posture and leaves the others
abbrev pub pose_at : ℕ → ℕ → Posture → PlanPose
pose_at m z q = record {
  machine = m;
  after_moving = false;
  gives = replicate z None ++ Some q ∷ replicate (9 - z) None;
}

abbrev pub pose_after_moving : ℕ → ℕ → Posture → PlanPose
pose_after_moving m z q = record (pose_at m z q) { after_moving = true }

-- a pose that gives two neighbours a posture each
abbrev pub pose_of_two : ℕ → Bool → ℕ → Posture → Posture → PlanPose
pose_of_two m after_moving z q r = record {
  machine = m;
  after_moving = after_moving;
  gives = replicate z None ++ Some q ∷ Some r ∷ replicate (8 - z) None;
}

-- machines 0 and 1 share a rack, of which 0 is the host, and each loads a press, 2 and 3; places: each machine's own
-- poses: 0 opens the rack; a press moves, and opens and shuts after moving
abbrev pub rack_table : PlanTable
rack_table =
    plan_table 4 (zone 0 1 None None ∷ zone 2 0 (way 0 2) (way 2 0) ∷ zone 3 1 (way 1 3) (way 3 1) ∷ [])
    (pose_at 0 0 OpenIn ∷ pose_at 2 1 Moving ∷ pose_after_moving 2 1 OpenIn ∷ pose_after_moving 2 1 Closed
    ∷ pose_after_moving 2 1 OpenOut ∷ pose_at 3 2 Moving ∷ pose_after_moving 3 2 OpenIn
    ∷ pose_after_moving 3 2 Closed ∷ pose_after_moving 3 2 OpenOut ∷ [])
    (0 ∷ 1 ∷ 2 ∷ 3 ∷ [])

-- machine 0 is a conveyor, 2 a lathe; a feeder, 1, carries from the one to the other, and an unloader, 3, back; places:
-- each machine's own
-- poses of the conveyor: running, offering, receiving; of the lathe: swinging, load, unload, cut
abbrev pub lathe_table : PlanTable
lathe_table =
    plan_table 4
    (zone 0 1 None (way 0 1) ∷ zone 0 3 (way 3 0) None ∷ zone 2 1 (way 1 2) None ∷ zone 2 3 None (way 2 3) ∷ [])
    (pose_of_two 0 false 0 Moving Moving ∷ pose_of_two 0 true 0 OpenOut Closed ∷ pose_of_two 0 true 0 Closed OpenIn
    ∷ pose_of_two 2 false 2 Moving Moving ∷ pose_of_two 2 true 2 OpenIn Closed ∷ pose_of_two 2 true 2 Closed OpenOut
    ∷ pose_of_two 2 true 2 Closed Closed ∷ [])
    (0 ∷ 1 ∷ 2 ∷ 3 ∷ [])

-- a cell: 0 feed belt, 1 table, 2 robot, with two arms, 3 press, 4 deposit belt, 5 crane; zones and places
-- round the ring of plates
abbrev pub plant_table : PlanTable
plant_table =
    plan_table 6
    (zone 1 0 (way 0 1) None ∷ zone 1 2 None (way 1 2) ∷ zone 3 2 (way 2 4) (way 4 3) ∷ zone 4 2 (way 3 5) None
    ∷ zone 4 5 None (way 5 6) ∷ zone 0 5 (way 6 0) None ∷ [])
    (pose_at 0 5 Moving ∷ pose_at 0 5 OpenIn ∷ pose_at 0 5 Closed ∷ pose_of_two 1 false 0 Moving Moving
    ∷ pose_of_two 1 true 0 OpenIn Closed ∷ pose_of_two 1 true 0 Closed OpenOut ∷ pose_at 3 2 Moving
    ∷ pose_after_moving 3 2 OpenIn ∷ pose_after_moving 3 2 OpenOut ∷ pose_after_moving 3 2 Closed
    ∷ pose_of_two 4 false 3 Moving Moving ∷ pose_of_two 4 false 3 OpenIn Closed ∷ pose_of_two 4 false 3 Closed OpenOut
    ∷ pose_of_two 4 false 3 OpenIn OpenOut ∷ pose_of_two 4 false 3 Closed Closed ∷ [])
    (0 ∷ 1 ∷ 2 ∷ 2 ∷ 3 ∷ 4 ∷ 5 ∷ [])

-- 15 machines, 5 zones, 64 poses, 16 places: place 15 is machine 0's, each other one its machine's own, by its number
abbrev pub large_table : PlanTable
large_table =
    plan_table 15
    (zone 14 13 (way 13 14) (way 14 13) ∷ zone 13 12 (way 12 13) None ∷ zone 2 14 None (way 2 14)
    ∷ zone 0 1 (way 1 15) (way 15 1) ∷ zone 1 0 (way 15 1) (way 1 0) ∷ [])
    (pose_at 13 1 OpenIn ∷ pose_at 2 2 Closed ∷ replicate 61 (pose 14 true (Some Moving) None)
    ++ pose_at 1 4 OpenOut ∷ [])
    (0 ∷ 1 ∷ 2 ∷ 3 ∷ 4 ∷ 5 ∷ 6 ∷ 7 ∷ 8 ∷ 9 ∷ 10 ∷ 11 ∷ 12 ∷ 13 ∷ 14 ∷ 0 ∷ [])

-- a pose of machine 1 that gives each of eight zones, which machine 1 hosts, this posture
abbrev pub eight_posed : Posture → PlanTable
eight_posed q =
    plan_table 2 (replicate 8 (zone 1 0 None None))
    (record { machine = 1; after_moving = false; gives = replicate 8 (Some q) ++ None ∷ None ∷ [] } ∷ []) []

-- poses of machine 1 that give each of the first n zones each posture but Closed
abbrev pub pose_for : ℕ → Posture → PlanPose
pose_for n q = record {
  machine = 1;
  after_moving = false;
  gives = replicate n (Some q) ++ replicate (10 - n) None;
}

abbrev pub poses_for : ℕ → List PlanPose
poses_for n = pose_for n Moving ∷ pose_for n OpenIn ∷ pose_for n OpenOut ∷ []

-- the places of two machines, which keep the first two
abbrev pub places_of : ℕ → List ℕ
places_of places = 0 ∷ 1 ∷ replicate (places - 2) 0

-- as many zones of five bits as this number says, and places: plates go through each zone both ways, and poses give it
-- all postures
abbrev pub wide_table : ℕ → ℕ → PlanTable
wide_table zones places = plan_table 2 (replicate zones press_zone) (poses_for zones) (places_of places)

-- zones of four bits: plates come in, and the host opens the zone for them, or shuts it
abbrev pub gated_table : ℕ → ℕ → PlanTable
gated_table zones places =
    plan_table 2 (replicate zones (zone 1 0 (way 0 1) None)) (pose_for zones OpenIn ∷ []) (places_of places)

-- both are plans, and so are a large one, one machine alone, nothing at all, and one whose pose sets eight zones
pub record ExamplesArePlans : Type 0 where
  pub press : IsPlan press_table
  pub lift : IsPlan lift_table
  pub large : IsPlan large_table
  pub open_press : IsPlan open_press_table
  pub through : IsPlan through_table
  pub one_machine : IsPlan (plan_table 1 [] [] [])
  pub nothing : IsPlan (plan_table 0 [] [] [])
  pub eight_move : IsPlan (eight_posed Moving)
  pub eight_open : IsPlan (eight_posed OpenOut)
  pub roads : IsPlan roads_table
  pub rack : IsPlan rack_table
  pub lathe : IsPlan lathe_table
  pub plant : IsPlan plant_table
  pub ten_gates : IsPlan (gated_table 10 3)

abbrev pub two_at : PlanZone → List PlanPose → PlanTable
two_at row poses = plan_table 2 (row ∷ []) poses (0 ∷ 1 ∷ [])

-- a third machine keeps the third place, and shares no zone
abbrev pub three_at : PlanZone → PlanTable
three_at row = plan_table 3 (row ∷ []) [] (0 ∷ 1 ∷ 2 ∷ [])

-- tables with that pose alone
abbrev pub gives_at : ℕ → Posture → PlanTable
gives_at z q = plan_table 1 [] (pose_at 0 z q ∷ []) []

-- as many zones and places as these numbers say, without a fault in them
abbrev pub counted : ℕ → ℕ → PlanTable
counted zones places = plan_table 2 (replicate zones (zone 1 0 None None)) [] (replicate places 0)

-- the largest tables are plans: 30 machines, of which the last hosts a zone and keeps a place; 64 poses; 16 places
pub record LargestPlans : Type 0 where
  pub machines : plan_fault (plan_table 30 (zone 29 28 None None ∷ []) [] (29 ∷ [])) ≡ None
  pub poses : plan_fault (two_at press_zone (replicate 64 (pose 1 false None None))) ≡ None
  pub places : plan_fault (counted 0 16) ≡ None
  -- a word of 64 bits
  pub eight_zones : plan_fault (wide_table 8 3) ≡ None
  pub seven_zones : plan_fault (wide_table 7 8) ≡ None
  pub six_zones : plan_fault (wide_table 6 13) ≡ None
  pub five_zones : plan_fault (wide_table 5 16) ≡ None
  -- ten zones, if they are narrower
  pub ten_gates : plan_fault (gated_table 10 3) ≡ None
  pub ten_zones : plan_fault (counted 10 16) ≡ None

-- tables with faults, and the first fault of each
pub record FirstFaults : Type 0 where
  pub machines : plan_fault (plan_table 31 (zone 1 1 None None ∷ []) [] []) ≡ Some TooManyMachines
  pub zones : plan_fault (plan_table 2 (replicate 11 press_zone) press_poses (0 ∷ 1 ∷ [])) ≡ Some TooManyZones
  pub poses : plan_fault (two_at press_zone (replicate 65 (pose 1 false None None))) ≡ Some TooManyPoses
  pub places : plan_fault (plan_table 2 (press_zone ∷ []) press_poses (replicate 17 0)) ≡ Some TooManyPlaces
  -- eight zones and four places take 65 bits, ten zones and sixteen places 87
  pub wide : plan_fault (plan_table 2 (replicate 8 (zone 1 1 (way 0 1) None)) (poses_for 8) (replicate 4 2))
      ≡ Some (TooWide 1)
  pub widest : plan_fault (plan_table 2 (replicate 10 press_zone) (poses_for 10) (replicate 16 0)) ≡ Some (TooWide 23)
  pub wide_by_a_place : plan_fault (wide_table 7 9) ≡ Some (TooWide 1)
  pub gates_wide_by_a_place : plan_fault (gated_table 10 4) ≡ Some (TooWide 1)
  pub keeper : plan_fault (plan_table 2 (zone 1 1 None None ∷ []) [] (0 ∷ 2 ∷ [])) ≡ Some (NoSuchKeeper 1)
  pub host : plan_fault (two_at (zone 2 2 None None) []) ≡ Some (NoSuchHost 0)
  pub guest : plan_fault (two_at (zone 1 2 None None) []) ≡ Some (NoSuchGuest 0)
  pub same : plan_fault (two_at (zone 1 1 (way 0 1) None) (pose 2 false None None ∷ [])) ≡ Some (HostIsGuest 0)
  pub second : plan_fault (plan_table 2 (press_zone ∷ zone 0 0 None None ∷ []) press_poses (0 ∷ 1 ∷ []))
      ≡ Some (HostIsGuest 1)
  pub inward : plan_fault (two_at (zone 1 0 (way 1 0) (way 0 1)) []) ≡ Some (InwardAstray 0)
  pub nowhere : plan_fault (two_at (zone 1 0 (way 0 2) None) []) ≡ Some (InwardAstray 0)
  pub outward : plan_fault (two_at (zone 1 0 (way 0 1) (way 0 1)) []) ≡ Some (OutwardAstray 0)
  -- one end of the way alone is astray: the place of a third machine, or one past the table
  pub inward_from_third : plan_fault (three_at (zone 1 0 (way 2 1) None)) ≡ Some (InwardAstray 0)
  pub inward_to_third : plan_fault (three_at (zone 1 0 (way 0 2) None)) ≡ Some (InwardAstray 0)
  pub outward_from_third : plan_fault (three_at (zone 1 0 None (way 2 0))) ≡ Some (OutwardAstray 0)
  pub outward_to_third : plan_fault (three_at (zone 1 0 None (way 1 2))) ≡ Some (OutwardAstray 0)
  pub inward_from_nowhere : plan_fault (two_at (zone 1 0 (way 2 1) None) []) ≡ Some (InwardAstray 0)
  pub outward_from_nowhere : plan_fault (two_at (zone 0 1 None (way 2 1)) []) ≡ Some (OutwardAstray 0)
  pub outward_to_nowhere : plan_fault (two_at (zone 0 1 None (way 0 2)) []) ≡ Some (OutwardAstray 0)
  -- a way within the places of the host, or of the guest
  pub inward_within_host : plan_fault (two_at (zone 1 0 (way 1 1) None) []) ≡ Some (InwardAstray 0)
  pub inward_within_guest : plan_fault (two_at (zone 1 0 (way 0 0) None) []) ≡ Some (InwardAstray 0)
  pub outward_within_host : plan_fault (two_at (zone 1 0 None (way 1 1)) []) ≡ Some (OutwardAstray 0)
  pub outward_within_guest : plan_fault (two_at (zone 1 0 None (way 0 0)) []) ≡ Some (OutwardAstray 0)
  pub machine : plan_fault (two_at press_zone (pose 2 false (Some Moving) None ∷ [])) ≡ Some (NoSuchMachine 0)
  pub foreign : plan_fault (two_at press_zone (press_poses ++ pose 0 false (Some Moving) None ∷ []))
      ≡ Some (ForeignZone 4 0)
  pub beyond : plan_fault (two_at press_zone (pose 1 false (Some Moving) (Some Moving) ∷ [])) ≡ Some (ForeignZone 0 1)
  -- whatever the posture is, and be the zone the tenth, the last that a pose may give one
  pub closed : plan_fault (gives_at 0 Closed) ≡ Some (ForeignZone 0 0)
  pub tenth_zone : plan_fault (gives_at 9 Moving) ≡ Some (ForeignZone 0 9)

-- a pose of a machine that no table has
abbrev pub strange_pose : PlanPose
strange_pose = pose 30 false (Some Moving) None

-- a third zone of five machines, each of which keeps the place with its number
abbrev pub third : PlanZone → PlanTable
third row = plan_table 5 (press_zone ∷ press_zone ∷ row ∷ []) [] (0 ∷ 1 ∷ 2 ∷ 3 ∷ 4 ∷ [])

-- these poses, where machine 1 hosts the first two zones, and machine 3 the third
abbrev pub posed : List PlanPose → PlanTable
posed poses = plan_table 5 (press_zone ∷ press_zone ∷ zone 3 2 None None ∷ []) poses (0 ∷ 1 ∷ [])

-- a fault names its row, be it a later one or the last, and the first of the rows that have a fault
pub record FaultsTellRows : Type 0 where
  pub keeper : plan_fault (plan_table 2 [] [] (0 ∷ 1 ∷ 1 ∷ 9 ∷ 7 ∷ [])) ≡ Some (NoSuchKeeper 3)
  pub last_keeper : plan_fault (plan_table 2 [] [] (replicate 15 1 ++ 2 ∷ [])) ≡ Some (NoSuchKeeper 15)
  pub host : plan_fault (third (zone 5 4 None None)) ≡ Some (NoSuchHost 2)
  pub guest : plan_fault (third (zone 4 5 None None)) ≡ Some (NoSuchGuest 2)
  pub same : plan_fault (third (zone 4 4 None None)) ≡ Some (HostIsGuest 2)
  pub inward : plan_fault (third (zone 4 3 (way 3 1) None)) ≡ Some (InwardAstray 2)
  pub outward : plan_fault (third (zone 4 3 (way 3 4) (way 4 1))) ≡ Some (OutwardAstray 2)
  pub last_zone : plan_fault (plan_table 2 (replicate 7 press_zone ++ zone 1 1 None None ∷ []) [] (0 ∷ 1 ∷ []))
      ≡ Some (HostIsGuest 7)
  pub earlier_zone : plan_fault (plan_table 2 (zone 1 0 None (way 0 1) ∷ zone 2 2 None None ∷ []) [] (0 ∷ 1 ∷ []))
      ≡ Some (OutwardAstray 0)
  pub machine : plan_fault (two_at press_zone (press_poses ++ pose 2 false None None ∷ []))
      ≡ Some (NoSuchMachine 4)
  pub last_machine : plan_fault (two_at press_zone (replicate 63 (pose 1 false None None) ++ strange_pose ∷ []))
      ≡ Some (NoSuchMachine 63)
  pub foreign
      : plan_fault (posed (pose_at 1 0 Closed ∷ pose_at 1 1 Closed ∷ pose_at 3 2 Closed ∷ pose_at 1 2 OpenIn ∷ []))
      ≡ Some (ForeignZone 3 2)
  pub anothers : plan_fault (posed (pose_at 3 2 OpenOut ∷ pose_at 3 1 OpenOut ∷ [])) ≡ Some (ForeignZone 1 1)
  pub not_there : plan_fault (posed (pose_at 3 2 Moving ∷ pose_at 1 1 Moving ∷ pose_at 3 9 Moving ∷ []))
      ≡ Some (ForeignZone 2 9)
  pub last_pose : plan_fault (plan_table 2 (replicate 8 (zone 1 0 None None))
      (replicate 63 (pose_at 1 7 OpenOut) ++ pose_at 0 7 OpenOut ∷ []) []) ≡ Some (ForeignZone 63 7)
  pub first_of_two
      : plan_fault (posed (pose 3 false None (Some Closed) ∷ pose 3 false (Some Closed) (Some Closed) ∷ []))
      ≡ Some (ForeignZone 0 1)
  pub earlier_pose : plan_fault (posed (pose_at 2 2 Closed ∷ strange_pose ∷ [])) ≡ Some (ForeignZone 0 2)

-- as many rows as these numbers say, each of them wrong: no table has a machine 30 or a place 99
abbrev pub wrong : ℕ → ℕ → ℕ → ℕ → PlanTable
wrong machines zones poses places =
    plan_table machines (replicate zones (zone 30 30 (way 99 99) (way 99 99)))
    (replicate poses strange_pose) (replicate places 30)

-- the order of faults: each table has more than one, and lacks that of the row before it
pub record FaultsInOrder : Type 0 where
  pub machines : plan_fault (wrong 31 11 65 17) ≡ Some TooManyMachines
  pub zones : plan_fault (wrong 30 11 65 17) ≡ Some TooManyZones
  pub poses : plan_fault (wrong 30 10 65 17) ≡ Some TooManyPoses
  pub places : plan_fault (wrong 30 10 64 17) ≡ Some TooManyPlaces
  -- 4 + 9 * 3 + 16 + 21 bits
  pub width : plan_fault (wrong 30 10 64 16) ≡ Some (TooWide 4)
  pub keeper : plan_fault (wrong 30 8 64 3) ≡ Some (NoSuchKeeper 0)
  pub host : plan_fault (wrong 30 8 64 0) ≡ Some (NoSuchHost 0)
  pub guest : plan_fault (two_at (zone 1 30 (way 99 99) (way 99 99)) (strange_pose ∷ [])) ≡ Some (NoSuchGuest 0)
  pub same : plan_fault (two_at (zone 1 1 (way 99 99) (way 99 99)) (strange_pose ∷ [])) ≡ Some (HostIsGuest 0)
  pub ways : plan_fault (two_at (zone 1 0 (way 99 99) (way 99 99)) (strange_pose ∷ [])) ≡ Some (InwardAstray 0)
  pub outward : plan_fault (two_at (zone 1 0 None (way 99 99)) (strange_pose ∷ [])) ≡ Some (OutwardAstray 0)
  pub pose : plan_fault (wrong 30 0 64 0) ≡ Some (NoSuchMachine 0)

-- tables are no plan, and this is their first fault
abbrev pub IsNoPlan : PlanTable → PlanFault → Type 0
IsNoPlan t fault = (plan_fault t ≡ Some fault) × ¬ IsPlan t

-- two zones, the first without a fault
abbrev pub zone_after : PlanZone → PlanTable
zone_after row = plan_table 3 (zone 0 1 (way 1 0) (way 0 1) ∷ row ∷ []) [] (0 ∷ 1 ∷ 2 ∷ [])

-- one zone, and two poses, the first without a fault
abbrev pub pose_after : PlanPose → PlanTable
pose_after row = plan_table 3 (zone 2 1 None None ∷ []) (pose 2 true (Some Closed) None ∷ row ∷ []) []

-- each rule broken alone: by a count where the tables have nothing else, or by the last row of a table
pub record NoPlans : Type 0 where
  pub machines : IsNoPlan (plan_table 31 [] [] []) TooManyMachines
  pub many_machines : IsNoPlan (plan_table 255 [] [] []) TooManyMachines
  pub zones : IsNoPlan (counted 11 0) TooManyZones
  pub poses : IsNoPlan (plan_table 1 [] (replicate 65 (pose 0 false None None)) []) TooManyPoses
  pub places : IsNoPlan (counted 0 17) TooManyPlaces
  pub zones_wide : IsNoPlan (wide_table 10 2) (TooWide 9)
  pub wide : IsNoPlan (wide_table 8 4) (TooWide 1)
  pub keeper : IsNoPlan (plan_table 3 [] [] (2 ∷ 3 ∷ [])) (NoSuchKeeper 1)
  pub keeper_of_none : IsNoPlan (plan_table 0 [] [] (0 ∷ [])) (NoSuchKeeper 0)
  pub host : IsNoPlan (zone_after (zone 3 2 None None)) (NoSuchHost 1)
  pub guest : IsNoPlan (zone_after (zone 2 3 None None)) (NoSuchGuest 1)
  pub same : IsNoPlan (zone_after (zone 2 2 None None)) (HostIsGuest 1)
  pub inward_from : IsNoPlan (zone_after (zone 2 1 (way 0 2) (way 2 1))) (InwardAstray 1)
  pub inward_to : IsNoPlan (zone_after (zone 2 1 (way 1 0) (way 2 1))) (InwardAstray 1)
  pub outward_from : IsNoPlan (zone_after (zone 2 1 (way 1 2) (way 0 1))) (OutwardAstray 1)
  pub outward_to : IsNoPlan (zone_after (zone 2 1 (way 1 2) (way 2 0))) (OutwardAstray 1)
  pub machine : IsNoPlan (pose_after (pose 3 true None None)) (NoSuchMachine 1)
  pub of_guest : IsNoPlan (pose_after (pose 1 true (Some Closed) None)) (ForeignZone 1 0)
  pub of_stranger : IsNoPlan (pose_after (pose 0 true (Some OpenIn) None)) (ForeignZone 1 0)
  pub not_there : IsNoPlan (pose_after (pose 2 true None (Some OpenOut))) (ForeignZone 1 1)
  pub far : IsNoPlan (pose_after (pose_at 2 8 Closed)) (ForeignZone 1 8)
