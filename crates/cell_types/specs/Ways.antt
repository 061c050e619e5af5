-- The ways of plates round the cell: through the zones, and by the machines' own work.
use Rattle.std.specs.Prelude.{◌≡◌, List, ◌++◌, Option, Some, None, option_map, IfSome, count_by}
use Rattle.std.specs.List.{filter_map, flat_map}
use Rattle.cell_types.specs.declared.machine.Machine.{Machine}
use Rattle.cell_types.specs.declared.machine.Machine.TheVariants.{Feed, Robot, Press, Deposit, Table as TableMachine}
use Rattle.cell_types.specs.declared.machine.Machine.TheVariants.{Crane as CraneMachine}
use Rattle.cell_types.specs.declared.zone.Zone.{Zone}
use Rattle.cell_types.specs.declared.place.Place.{Place}
use Rattle.cell_types.specs.declared.place.Place.TheVariants.{FeedEntry, FeedEnd, Table, Arm1, PressIn, PressOut, Arm2}
use Rattle.cell_types.specs.declared.place.Place.TheVariants.{DepEntry, DepEnd, Crane}
use Rattle.cell_types.specs.declared.zone.Transfer.{Transfer}
use Rattle.cell_types.specs.declared.posture.Posture.{Posture}
use Rattle.cell_types.specs.Everything.{all_machines, all_postures, all_zones}
use Rattle.cell_types.specs.Same.{same_place}
use Rattle.cell_types.specs.Tables.{transfer_of}

-- the way of a plate along a belt, or from loaded to forged
abbrev pub own_move_of : Machine → Option (Place × Place)
own_move_of Feed = Some (FeedEntry, FeedEnd)
own_move_of Deposit = Some (DepEntry, DepEnd)
own_move_of Press = Some (PressIn, PressOut)
own_move_of _ = None

-- the machine that a place belongs to: its Take, Give or Advance changes it
abbrev pub keeper_of : Place → Machine
keeper_of FeedEntry = Feed
keeper_of FeedEnd = Feed
keeper_of Table = TableMachine
keeper_of Arm1 = Robot
keeper_of Arm2 = Robot
keeper_of PressIn = Press
keeper_of PressOut = Press
keeper_of DepEntry = Deposit
keeper_of DepEnd = Deposit
keeper_of Crane = CraneMachine

-- in one zone a machine gives in at most one row, so both determine the place that is emptied; it receives in at most
-- one row, so both determine the place that is filled
pub record OneRowEach : Type 0 where
  pub giver : (z : Zone) (q r : Posture)
      → IfSome (transfer_of z q) (λ a. IfSome (transfer_of z r) (λ b. a.giver ≡ b.giver → q ≡ r))
  pub receiver : (z : Zone) (q r : Posture)
      → IfSome (transfer_of z q) (λ a. IfSome (transfer_of z r) (λ b. a.receiver ≡ b.receiver → q ≡ r))

-- a row leads from a place of its giver to one of its receiver, and work from a place of the machine to another of its
-- own
pub record JoinsKeepers : Type 0 where
  pub row : (z : Zone) (q : Posture)
      → IfSome (transfer_of z q) (λ row. (keeper_of row.from ≡ row.giver) × (keeper_of row.to ≡ row.receiver))
  pub own_move : (m : Machine) → IfSome (own_move_of m) (λ way. (keeper_of way.0 ≡ m) × (keeper_of way.1 ≡ m))

-- the places where a row begins and ends
abbrev pub way_of : Transfer → Place × Place
way_of row = (row.from, row.to)

abbrev pub all_ways : List (Place × Place)
all_ways =
    flat_map (λ z. filter_map (λ q. option_map way_of (transfer_of z q)) all_postures) all_zones
    ++ filter_map own_move_of all_machines

-- plates go round: exactly one way leaves each place, and one enters it
pub record GoesRound : Type 0 where
  pub left : (p : Place) → count_by (λ way. same_place way.0 p) all_ways ≡ 1
  pub entered : (p : Place) → count_by (λ way. same_place way.1 p) all_ways ≡ 1
