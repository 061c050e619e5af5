-- Spaces with several guests, written out.
use Rattle.std.specs.Prelude.{◌≡◌, ℕ, Bool, true, false, List, [], ◌∷◌, ◌++◌, map, Option, Some, None}
use Rattle.plan_types.specs.declared.posture.Posture.{Posture}
use Rattle.plan_types.specs.declared.posture.Posture.TheVariants.{Closed, Moving, OpenIn, OpenOut}
use Rattle.plan_types.specs.declared.table.PlanZone.{PlanZone}
use Rattle.plan_types.specs.declared.table.PlanPose.{PlanPose}
use Rattle.plan_types.specs.declared.fault.PlanFault.TheVariants.{ForeignZone, TwoHosts, GuestTwice, HalfSpace}
use Rattle.plan_types.specs.Table.{PlanTable, plan_table, space_of, same_space, enters, is_party, zone_bits}
use Rattle.plan_types.specs.Table.{word_width}
use Rattle.plan_types.specs.Table.{owner_bits}
use Rattle.plan_types.specs.Plan.{IsPlan, is_alike}
use Rattle.plan_types.specs.Faults.{plan_fault}
use Rattle.plan_types.specs.Bytes.{bytes_of}
use Rattle.plan_types.specs.Examples.{way, zone, joined, pose, press_zone, lift_table, plant_table}

-- machine 0 loads the press, machine 1, from its hand, place 0; machine 2 unloads it to its tray, place 2; place 1 is
-- the press's; poses: 0 open for the loader, 1 open for the unloader, 2 closed, 3 travelling
abbrev pub robots_zones : List PlanZone
robots_zones = zone 1 0 (way 0 1) None ∷ joined (zone 1 2 None (way 1 2)) ∷ []

abbrev pub robots_poses : List PlanPose
robots_poses =
    pose 1 true (Some OpenIn) (Some Closed) ∷ pose 1 true (Some Closed) (Some OpenOut)
    ∷ pose 1 true (Some Closed) (Some Closed) ∷ pose 1 false (Some Moving) (Some Moving) ∷ []

abbrev pub robots_table : PlanTable
robots_table = plan_table 3 robots_zones robots_poses (0 ∷ 1 ∷ 2 ∷ [])

-- an aisle that shuttles cross, of which machine 0 opens it, once, by its pose
abbrev pub aisle_pose : Option Posture → PlanPose
aisle_pose third = record {
  machine = 0;
  after_moving = false;
  gives = Some OpenIn ∷ Some OpenIn ∷ third ∷ third ∷ None ∷ None ∷ None ∷ None ∷ None ∷ None ∷ [];
}

abbrev pub aisle_table : PlanTable
aisle_table = plan_table 3 (zone 0 1 None None ∷ joined (zone 0 2 None None) ∷ []) (aisle_pose None ∷ []) []

abbrev pub five_shuttles : PlanTable
five_shuttles =
    plan_table 5
    (zone 0 1 None None ∷ joined (zone 0 2 None None) ∷ joined (zone 0 3 None None) ∷ joined (zone 0 4 None None) ∷ [])
    (aisle_pose (Some OpenIn) ∷ []) []

-- machine 0 changes the tools of two robots; places: each machine's own; poses: 0 turning, 1 receiving, 2 offering,
-- 3 locked
abbrev pub changer_table : PlanTable
changer_table =
    plan_table 3 (zone 0 1 (way 1 0) (way 0 1) ∷ joined (zone 0 2 (way 2 0) (way 0 2)) ∷ [])
    (pose 0 false (Some Moving) (Some Moving) ∷ pose 0 true (Some OpenIn) (Some OpenIn)
    ∷ pose 0 true (Some OpenOut) (Some OpenOut) ∷ pose 0 true (Some Closed) (Some Closed) ∷ [])
    (0 ∷ 1 ∷ 2 ∷ [])

-- two spaces: a zone alone, and then one with two guests
abbrev pub after_table : PlanTable
after_table = plan_table 3 (zone 0 1 None None ∷ zone 1 0 None None ∷ joined (zone 1 2 None None) ∷ []) [] []

-- the first zone joins nothing
abbrev pub first_joins : PlanTable
first_joins = plan_table 2 (joined press_zone ∷ []) [] (0 ∷ 1 ∷ [])

abbrev pub second : PlanZone → PlanTable
second row = plan_table 3 (zone 1 0 None None ∷ joined row ∷ []) [] []

abbrev pub robots_posed : PlanPose → PlanTable
robots_posed row = plan_table 3 robots_zones (robots_poses ++ row ∷ []) (0 ∷ 1 ∷ 2 ∷ [])

-- who enters the space of a zone, of machines 0 to 3; and whose zone it is
abbrev pub entering : PlanTable → ℕ → List Bool
entering t z = map (λ m. enters t m z) (0 ∷ 1 ∷ 2 ∷ 3 ∷ [])

abbrev pub parties : PlanTable → ℕ → List Bool
parties t z = map (λ m. is_party t m z) (0 ∷ 1 ∷ 2 ∷ 3 ∷ [])

pub record SpacesAreMet : Type 0 where
  pub robots : IsPlan robots_table
  pub aisle : IsPlan aisle_table
  pub shuttles : IsPlan five_shuttles
  pub changer : IsPlan changer_table
  pub after : IsPlan after_table
  pub alone : IsPlan first_joins
  -- the first zone of each space
  pub spaces : map (space_of robots_table) (0 ∷ 1 ∷ 2 ∷ []) ≡ 0 ∷ 0 ∷ 2 ∷ []
  pub four_zones : map (space_of five_shuttles) (0 ∷ 1 ∷ 2 ∷ 3 ∷ 4 ∷ []) ≡ 0 ∷ 0 ∷ 0 ∷ 0 ∷ 4 ∷ []
  pub two_spaces : map (space_of after_table) (0 ∷ 1 ∷ 2 ∷ 3 ∷ []) ≡ 0 ∷ 1 ∷ 1 ∷ 3 ∷ []
  pub plain_spaces : map (space_of plant_table) (0 ∷ 1 ∷ 2 ∷ 5 ∷ 6 ∷ []) ≡ 0 ∷ 1 ∷ 2 ∷ 5 ∷ 6 ∷ []
  pub same : map (same_space after_table 1) (0 ∷ 1 ∷ 2 ∷ 3 ∷ []) ≡ false ∷ true ∷ true ∷ false ∷ []
  -- the unloader is no party of the loader's zone, but enters its space; nobody else does
  pub enter : entering robots_table 0 ≡ true ∷ true ∷ true ∷ false ∷ []
  pub enter_second : entering robots_table 1 ≡ true ∷ true ∷ true ∷ false ∷ []
  pub enter_nowhere : entering robots_table 2 ≡ false ∷ false ∷ false ∷ false ∷ []
  pub loaders : parties robots_table 0 ≡ true ∷ true ∷ false ∷ false ∷ []
  pub unloaders : parties robots_table 1 ≡ false ∷ true ∷ true ∷ false ∷ []
  pub plain : entering lift_table 0 ≡ true ∷ true ∷ false ∷ false ∷ []
  -- the first zone tells the owner, by two bits of two guests, by three of four; each has its own flag and posture
  pub robots_bits : map (zone_bits robots_table) (0 ∷ 1 ∷ 2 ∷ []) ≡ 5 ∷ 3 ∷ 2 ∷ []
  pub aisle_bits : map (zone_bits aisle_table) (0 ∷ 1 ∷ []) ≡ 3 ∷ 1 ∷ []
  pub shuttles_bits : map (zone_bits five_shuttles) (0 ∷ 1 ∷ 2 ∷ 3 ∷ []) ≡ 4 ∷ 1 ∷ 1 ∷ 1 ∷ []
  pub changer_bits : map (zone_bits changer_table) (0 ∷ 1 ∷ []) ≡ 5 ∷ 3 ∷ []
  pub widths : map word_width (robots_table ∷ aisle_table ∷ five_shuttles ∷ changer_table ∷ []) ≡ 32 ∷ 25 ∷ 28 ∷ 32 ∷ []
  pub owners : map owner_bits (0 ∷ 1 ∷ 2 ∷ 3 ∷ 6 ∷ 7 ∷ 10 ∷ []) ≡ 0 ∷ 2 ∷ 2 ∷ 3 ∷ 3 ∷ 4 ∷ 4 ∷ []
  -- a zone that joins has 2 more at the byte of its way inward
  pub bytes : bytes_of aisle_table ≡
      3 ∷ 2 ∷ 1 ∷ 0
      ∷ 0 ∷ 1 ∷ 0 ∷ 0 ∷ 0 ∷ 0 ∷ 0 ∷ 0
      ∷ 0 ∷ 2 ∷ 2 ∷ 0 ∷ 0 ∷ 0 ∷ 0 ∷ 0
      ∷ 0 ∷ 0 ∷ 3 ∷ 3 ∷ 0 ∷ 0 ∷ 0 ∷ 0 ∷ 0 ∷ 0 ∷ 0 ∷ 0 ∷ []
  pub bytes_with_way : bytes_of first_joins ≡ 2 ∷ 1 ∷ 0 ∷ 2 ∷ 1 ∷ 0 ∷ 3 ∷ 0 ∷ 1 ∷ 1 ∷ 1 ∷ 0 ∷ 0 ∷ 1 ∷ []
  -- faults: another host; the guest of an earlier zone; a pose that moves one zone, or leaves it
  pub two_hosts : plan_fault (second (zone 2 0 None None)) ≡ Some (TwoHosts 1)
  pub guest_twice : plan_fault (second (zone 1 0 None None)) ≡ Some (GuestTwice 1)
  pub moves_first : plan_fault (robots_posed (pose 1 false (Some Moving) (Some Closed))) ≡ Some (HalfSpace 4 1)
  pub moves_second : plan_fault (robots_posed (pose 1 false (Some OpenIn) (Some Moving))) ≡ Some (HalfSpace 4 1)
  pub leaves_first : plan_fault (robots_posed (pose 1 false None (Some OpenOut))) ≡ Some (HalfSpace 4 1)
  pub leaves_second : plan_fault (robots_posed (pose 1 false (Some Moving) None)) ≡ Some (HalfSpace 4 1)
  pub leaves_both : plan_fault (robots_posed (pose 1 false None None)) ≡ None
  -- other faults come first; and a host before a guest
  pub foreign : plan_fault (robots_posed (pose 0 false (Some Moving) None)) ≡ Some (ForeignZone 4 0)
  pub host_first : plan_fault
      (plan_table 3 (zone 1 0 None None ∷ joined (zone 2 0 None None) ∷ []) (pose 1 false (Some Moving) None ∷ []) [])
      ≡ Some (TwoHosts 1)
  pub alike : map (is_alike (Some Closed)) (None ∷ Some Closed ∷ Some Moving ∷ Some OpenIn ∷ Some OpenOut ∷ [])
      ≡ false ∷ true ∷ false ∷ true ∷ true ∷ []
  pub both_moving : map (is_alike (Some Moving)) (None ∷ Some Closed ∷ Some Moving ∷ []) ≡ false ∷ false ∷ true ∷ []
  pub both_left : map (is_alike None) (None ∷ Some Closed ∷ Some Moving ∷ []) ≡ true ∷ false ∷ false ∷ []
