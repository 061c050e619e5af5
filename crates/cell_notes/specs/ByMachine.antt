-- A value for each machine.
use Rattle.std.specs.Prelude.{◌≡◌, IsFalse, List, map}
use Rattle.cell_rules.specs.Types.{Machine, Feed, Table, Robot, Press, Deposit, Crane, Watch, all_machines}
use Rattle.cell_rules.specs.Types.{same_machine}
use Rattle.cell_notes.specs.declared.by_machine.ByMachine.{ByMachine}

-- a machine's value
abbrev pub at_machine : {T : Type 0} → ByMachine T → Machine → T
at_machine b Feed = b.feed
at_machine b Table = b.table
at_machine b Robot = b.robot
at_machine b Press = b.press
at_machine b Deposit = b.deposit
at_machine b Crane = b.crane
at_machine b Watch = b.watch

-- the same, but for one machine's value
abbrev pub with_machine : {T : Type 0} → ByMachine T → Machine → T → ByMachine T
with_machine b Feed v = record b { feed = v }
with_machine b Table v = record b { table = v }
with_machine b Robot v = record b { robot = v }
with_machine b Press v = record b { press = v }
with_machine b Deposit v = record b { deposit = v }
with_machine b Crane v = record b { crane = v }
with_machine b Watch v = record b { watch = v }

-- the values that a function gives
abbrev pub values_of : {T : Type 0} → (Machine → T) → ByMachine T
values_of f =
    record {
      feed = f Feed;
      table = f Table;
      robot = f Robot;
      press = f Press;
      deposit = f Deposit;
      crane = f Crane;
      watch = f Watch;
    }

-- one value for all
abbrev pub each_machine : {T : Type 0} → T → ByMachine T
each_machine v = values_of (λ m. v)

-- each value is so
pub record HoldsOfEach {T : Type 0} (P : T → Type 0) (b : ByMachine T) : Type 0 where
  pub feed : P b.feed
  pub table : P b.table
  pub robot : P b.robot
  pub press : P b.press
  pub deposit : P b.deposit
  pub crane : P b.crane
  pub watch : P b.watch

-- each value is made of the same machine's
pub record IsMadeOf {T U : Type 0} (made : T → U → Type 0) (b : ByMachine T) (c : ByMachine U) : Type 0 where
  pub feed : made b.feed c.feed
  pub table : made b.table c.table
  pub robot : made b.robot c.robot
  pub press : made b.press c.press
  pub deposit : made b.deposit c.deposit
  pub crane : made b.crane c.crane
  pub watch : made b.watch c.watch

-- of each value, something
abbrev pub map_machines : {T U : Type 0} → (T → U) → ByMachine T → ByMachine U
map_machines f b = values_of (λ m. f (at_machine b m))

-- the values in the order of the machines
abbrev pub in_order : {T : Type 0} → ByMachine T → List T
in_order b = map (at_machine b) all_machines

-- what was put is found, and the other machines' values stay
pub record PutIsFound {T : Type 0} (b : ByMachine T) : Type 0 where
  pub found : (m : Machine) (v : T) → at_machine (with_machine b m v) m ≡ v
  pub others_stay : (m n : Machine) (v : T) → IsFalse (same_machine m n)
      → at_machine (with_machine b m v) n ≡ at_machine b n
