-- Examples of the tables, row by row: who meets in each zone, the ways of plates, each pose, and each place's keeper.
use Rattle.std.specs.Prelude.{◌≡◌, true, false, List, [], ◌∷◌, map, length, Option, Some, None, IsTrue}
use Rattle.std.specs.List.{filter_map, flat_map}
use Rattle.cell_types.specs.declared.machine.Machine.{Machine}
use Rattle.cell_types.specs.declared.machine.Machine.TheVariants.{Feed, Robot, Press, Deposit}
use Rattle.cell_types.specs.declared.machine.Machine.TheVariants.{Table as TableMachine, Crane as CraneMachine}
use Rattle.cell_types.specs.declared.zone.Zone.TheVariants.{Z1, Z5}
use Rattle.cell_types.specs.declared.zone.Transfer.{Transfer}
use Rattle.cell_types.specs.declared.place.Place.TheVariants.{FeedEntry, FeedEnd, Table, Arm1, PressIn, PressOut, Arm2}
use Rattle.cell_types.specs.declared.place.Place.TheVariants.{DepEntry, DepEnd, Crane}
use Rattle.cell_types.specs.declared.posture.Posture.{Posture}
use Rattle.cell_types.specs.declared.posture.Posture.TheVariants.{Closed, Moving, OpenIn, OpenOut}
use Rattle.cell_types.specs.declared.pose.Pose.{Pose}
use Rattle.cell_types.specs.declared.pose.Pose.TheVariants.{Turning, Loading, Unloading, Travelling, Middle, Low, Top}
use Rattle.cell_types.specs.declared.pose.Pose.TheVariants.{Running, Landing, Halted, Offering, Standing}
use Rattle.cell_types.specs.declared.answer.Refusal.{Refusal}
use Rattle.cell_types.specs.declared.journal.Journals.{Journals}
use Rattle.cell_types.specs.Everything.{all_machines, all_zones, all_places, all_postures, all_poses}
use Rattle.cell_types.specs.Journals.{journal_of}
use Rattle.cell_types.specs.Numbers.{is_same_but}
use Rattle.cell_types.specs.Refusals.{number_of}
use Rattle.cell_types.specs.Same.{same_machine, same_zone, same_place, same_posture, same_pose}
use Rattle.cell_types.specs.Tables.{guest_of, host_of, posture_of, transfer_of}
use Rattle.cell_types.specs.Ways.{all_ways, keeper_of, own_move_of}

-- who gives a plate, and who receives it
abbrev pub hands : Transfer → Machine × Machine
hands row = (row.giver, row.receiver)

pub record WayExamples : Type 0 where
  pub hosts : map host_of all_zones ≡ TableMachine ∷ TableMachine ∷ Press ∷ Deposit ∷ Deposit ∷ Feed ∷ []
  pub guests : map guest_of all_zones ≡ Feed ∷ Robot ∷ Robot ∷ Robot ∷ CraneMachine ∷ CraneMachine ∷ []
  pub keepers : map keeper_of all_places
      ≡ Feed ∷ Feed ∷ TableMachine ∷ Robot ∷ Press ∷ Press ∷ Robot ∷ Deposit ∷ Deposit ∷ CraneMachine ∷ []
  -- seven ways through the zones, then three along a belt or under the press
  pub ways : all_ways
      ≡ (FeedEnd, Table)
      ∷ (Table, Arm1)
      ∷ (Arm1, PressIn)
      ∷ (PressOut, Arm2)
      ∷ (Arm2, DepEntry)
      ∷ (DepEnd, Crane)
      ∷ (Crane, FeedEntry)
      ∷ (FeedEntry, FeedEnd)
      ∷ (PressIn, PressOut)
      ∷ (DepEntry, DepEnd)
      ∷ []
  pub inward : filter_map (λ z. transfer_of z OpenIn) all_zones
      ≡ record { giver = Feed; receiver = TableMachine; from = FeedEnd; to = Table }
      ∷ record { giver = Robot; receiver = Press; from = Arm1; to = PressIn }
      ∷ record { giver = Robot; receiver = Deposit; from = Arm2; to = DepEntry }
      ∷ record { giver = CraneMachine; receiver = Feed; from = Crane; to = FeedEntry }
      ∷ []
  pub outward : filter_map (λ z. transfer_of z OpenOut) all_zones
      ≡ record { giver = TableMachine; receiver = Robot; from = Table; to = Arm1 }
      ∷ record { giver = Press; receiver = Robot; from = PressOut; to = Arm2 }
      ∷ record { giver = Deposit; receiver = CraneMachine; from = DepEnd; to = Crane }
      ∷ []
  pub no_way_while_closed : filter_map (λ z. transfer_of z Closed) all_zones ≡ []
  pub no_way_while_moving : filter_map (λ z. transfer_of z Moving) all_zones ≡ []
  pub no_way_against_the_ring : transfer_of Z1 OpenOut ≡ None
  pub works : map own_move_of all_machines
      ≡ Some (FeedEntry, FeedEnd)
      ∷ None
      ∷ None
      ∷ Some (PressIn, PressOut)
      ∷ Some (DepEntry, DepEnd)
      ∷ None
      ∷ None
      ∷ []

-- the postures that a pose gives, in the order of the zones
abbrev pub given : Machine → Pose → List Posture
given m p = filter_map (posture_of m p) all_zones

-- what a pose gives of each zone
abbrev pub zone_by_zone : Machine → Pose → List (Option Posture)
zone_by_zone m p = map (posture_of m p) all_zones

pub record PoseExamples : Type 0 where
  pub turning : zone_by_zone TableMachine Turning ≡ Some Moving ∷ Some Moving ∷ None ∷ None ∷ None ∷ None ∷ []
  pub loading : zone_by_zone TableMachine Loading ≡ Some OpenIn ∷ Some Closed ∷ None ∷ None ∷ None ∷ None ∷ []
  pub unloading : zone_by_zone TableMachine Unloading ≡ Some Closed ∷ Some OpenOut ∷ None ∷ None ∷ None ∷ None ∷ []
  pub travelling : zone_by_zone Press Travelling ≡ None ∷ None ∷ Some Moving ∷ None ∷ None ∷ None ∷ []
  pub middle : zone_by_zone Press Middle ≡ None ∷ None ∷ Some OpenIn ∷ None ∷ None ∷ None ∷ []
  pub low : zone_by_zone Press Low ≡ None ∷ None ∷ Some OpenOut ∷ None ∷ None ∷ None ∷ []
  pub top : zone_by_zone Press Top ≡ None ∷ None ∷ Some Closed ∷ None ∷ None ∷ None ∷ []
  pub feed_running : zone_by_zone Feed Running ≡ None ∷ None ∷ None ∷ None ∷ None ∷ Some Moving ∷ []
  pub feed_landing : zone_by_zone Feed Landing ≡ None ∷ None ∷ None ∷ None ∷ None ∷ Some OpenIn ∷ []
  pub feed_halted : zone_by_zone Feed Halted ≡ None ∷ None ∷ None ∷ None ∷ None ∷ Some Closed ∷ []
  pub running : zone_by_zone Deposit Running ≡ None ∷ None ∷ None ∷ Some Moving ∷ Some Moving ∷ None ∷ []
  pub landing : zone_by_zone Deposit Landing ≡ None ∷ None ∷ None ∷ Some OpenIn ∷ Some Closed ∷ None ∷ []
  pub offering : zone_by_zone Deposit Offering ≡ None ∷ None ∷ None ∷ Some Closed ∷ Some OpenOut ∷ None ∷ []
  pub standing : zone_by_zone Deposit Standing ≡ None ∷ None ∷ None ∷ Some OpenIn ∷ Some OpenOut ∷ None ∷ []
  pub halted : zone_by_zone Deposit Halted ≡ None ∷ None ∷ None ∷ Some Closed ∷ Some Closed ∷ None ∷ []
  -- how many zones all poses of each machine give a posture: twenty-three, and these are all
  pub counted : map (λ m. length (flat_map (given m) all_poses)) all_machines
      ≡ 3 ∷ 6 ∷ 0 ∷ 4 ∷ 10 ∷ 0 ∷ 0 ∷ []

-- the same names, and no others
pub record SameExamples : Type 0 where
  pub machine : map (same_machine Deposit) all_machines
      ≡ false ∷ false ∷ false ∷ false ∷ true ∷ false ∷ false ∷ []
  pub zone : map (same_zone Z5) all_zones ≡ false ∷ false ∷ false ∷ false ∷ true ∷ false ∷ []
  pub place : map (same_place DepEnd) all_places
      ≡ false ∷ false ∷ false ∷ false ∷ false ∷ false ∷ false ∷ false ∷ true ∷ false ∷ []
  pub posture : map (same_posture OpenIn) all_postures ≡ false ∷ false ∷ true ∷ false ∷ []
  pub pose : map (same_pose Offering) all_poses
      ≡ false ∷ false ∷ false ∷ false ∷ false ∷ false ∷ false ∷ false ∷ false ∷ false ∷ true ∷ false ∷ []
  -- two refusals have the same number exactly if they differ in nothing but what they name
  pub refusals : (a b : Refusal) → IsTrue (is_same_but a b) → number_of a ≡ number_of b
  pub journals : (j : Journals)
      → map (journal_of j) all_machines
      ≡ j.feed.items ∷ j.table.items ∷ j.robot.items ∷ j.press.items ∷ j.deposit.items ∷ j.crane.items
      ∷ j.watch.items ∷ []

pub record TableExamples : Type 0 where
  pub ways : WayExamples
  pub poses : PoseExamples
  pub same : SameExamples
