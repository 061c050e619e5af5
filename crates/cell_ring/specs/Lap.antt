-- The ring of the cell: the seventeen positions of a plate on its way round, and the call that moves it from each to
-- the next.
use Rattle.std.specs.Prelude.{◌≡◌, ℕ, zero, suc, ◌+◌, ◌-◌, ◌%◌, ◌≤◌, Bool, true, false, List, [], ◌∷◌, nat_eq, count_by}
use Rattle.cell_rules.specs.Types.{Machine, Feed, Robot, Press, Deposit, Z1, Z2, Z3, Z4, Z5, Z6, Call, Give}
use Rattle.cell_rules.specs.Types.{Take, Advance}
use Rattle.cell_types.specs.declared.machine.Machine.TheVariants.{Table as TableMachine, Crane as CraneMachine}

-- where a plate can be: at one of the ten places, or in a zone, on its way from a place to the next
pub data Position : Type 0 where
  FeedEntry : Position
  FeedEnd : Position
  BeltToTable : Position
  Table : Position
  TableToArm : Position
  Arm1 : Position
  ArmToPress : Position
  PressIn : Position
  PressOut : Position
  PressToArm : Position
  Arm2 : Position
  ArmToBelt : Position
  DepEntry : Position
  DepEnd : Position
  BeltToCrane : Position
  Crane : Position
  CraneToBelt : Position

-- how a plate is moved: by a machine, by a call of it, to another position
pub record Move : Type 0 where
  pub machine : Machine
  pub call : Call
  pub to : Position

abbrev pub move : Machine → Call → Position → Move
move m c p = record { machine = m; call = c; to = p }

-- one lap: the move that takes a plate away from each position
abbrev pub lap : Position → Move
lap FeedEntry = move Feed Advance FeedEnd
lap FeedEnd = move Feed (Give Z1) BeltToTable
lap BeltToTable = move TableMachine (Take Z1) Table
lap Table = move TableMachine (Give Z2) TableToArm
lap TableToArm = move Robot (Take Z2) Arm1
lap Arm1 = move Robot (Give Z3) ArmToPress
lap ArmToPress = move Press (Take Z3) PressIn
lap PressIn = move Press Advance PressOut
lap PressOut = move Press (Give Z3) PressToArm
lap PressToArm = move Robot (Take Z3) Arm2
lap Arm2 = move Robot (Give Z4) ArmToBelt
lap ArmToBelt = move Deposit (Take Z4) DepEntry
lap DepEntry = move Deposit Advance DepEnd
lap DepEnd = move Deposit (Give Z5) BeltToCrane
lap BeltToCrane = move CraneMachine (Take Z5) Crane
lap Crane = move CraneMachine (Give Z6) CraneToBelt
lap CraneToBelt = move Feed (Take Z6) FeedEntry

abbrev pub next_position : Position → Position
next_position p = (lap p).to

-- all positions, in the order of the lap
abbrev pub all_positions : List Position
all_positions =
    FeedEntry ∷ FeedEnd ∷ BeltToTable ∷ Table ∷ TableToArm ∷ Arm1 ∷ ArmToPress ∷ PressIn ∷ PressOut ∷ PressToArm ∷ Arm2
    ∷ ArmToBelt ∷ DepEntry ∷ DepEnd ∷ BeltToCrane ∷ Crane ∷ CraneToBelt ∷ []

-- the moves of a lap
abbrev pub lap_length : ℕ
lap_length = 17

-- a position's number in that order, from 0
abbrev pub number_of : Position → ℕ
number_of FeedEntry = 0
number_of FeedEnd = 1
number_of BeltToTable = 2
number_of Table = 3
number_of TableToArm = 4
number_of Arm1 = 5
number_of ArmToPress = 6
number_of PressIn = 7
number_of PressOut = 8
number_of PressToArm = 9
number_of Arm2 = 10
number_of ArmToBelt = 11
number_of DepEntry = 12
number_of DepEnd = 13
number_of BeltToCrane = 14
number_of Crane = 15
number_of CraneToBelt = 16

abbrev pub same_position : Position → Position → Bool
same_position p q = nat_eq (number_of p) (number_of q)

-- how many moves take a plate from a position to another, or to the same: less than a lap
abbrev pub distance : Position → Position → ℕ
distance p q = (number_of q + lap_length - number_of p) % lap_length

-- where some moves in a row take a plate
abbrev pub position_on : ℕ → Position → Position
position_on zero p = p
position_on (suc n) p = position_on n (next_position p)

-- a plate is given into a zone, taken from it, or moved from place to place by the machine that has it
abbrev pub is_give : Call → Bool
is_give (Give _) = true
is_give _ = false

abbrev pub is_take : Call → Bool
is_take (Take _) = true
is_take _ = false

abbrev pub is_advance : Call → Bool
is_advance Advance = true
is_advance _ = false

-- the lap is one ring, which has each position once: seven gives, seven takes and three advances
pub record LapGoesRound : Type 0 where
  pub once : (p : Position) → count_by (same_position p) all_positions ≡ 1
  pub round : (p : Position) → position_on lap_length p ≡ p
  pub reached : (p q : Position) → (distance p q ≤ 16) × (position_on (distance p q) p ≡ q)
  pub gives : count_by (λ p. is_give (lap p).call) all_positions ≡ 7
  pub takes : count_by (λ p. is_take (lap p).call) all_positions ≡ 7
  pub advances : count_by (λ p. is_advance (lap p).call) all_positions ≡ 3
