-- Literal states, steps and runs that are safe, and unsafe ones. Most of these are wrong in one thing, and right in all
-- else.
use Rattle.std.specs.Prelude.{ℕ, ◌+◌, pos, ◌-ℤ◌, Bool, true, false, [], ◌∷◌, Some, None}
use Rattle.cell_rules.specs.Types.{Machine, Feed, Table, Robot, Press, Deposit, Crane, Z1, Z2, Z3, Z4, Z5, Z6, Place}
use Rattle.cell_rules.specs.Types.{FeedEnd, DepEnd, Closed, Moving, OpenIn, OpenOut}
use Rattle.cell_devices.specs.declared.motor.Motor.TheVariants.{Off, Plus, Minus}
use Rattle.cell_rules.specs.Names.{ModelState, empty, insert_place, start_state}
use Rattle.cell_belts_crane.specs.Names.{deposit_start, feed_start}
use Rattle.cell_belts_crane.specs.declared.crane.CraneStep.{CraneStep}
use Rattle.cell_belts_crane.specs.declared.crane.CraneStep.TheVariants.{RaiseToFetch, LowerToPlate, RaiseWithPlate}
use Rattle.cell_belts_crane.specs.declared.crane.CraneStep.TheVariants.{LowerToFeed, RaiseFromFeed}
use Rattle.cell_robot.specs.RobotProgram.{robot_start}
use Rattle.cell_table_press.specs.Names.{press_start, table_start}
use Rattle.cell_unit.specs.Sides.{side_of}
use Rattle.cell_parts.specs.Names.{NothingCollides, StaysWithin, PositionDemands, MotorDemands, empty_cell}
use Rattle.cell_parts.specs.Names.{cell_with_plate_at, driven_at, at, robot_at, table_at, crane_at, belt_with}
use Rattle.cell_parts.specs.Names.{with_press, all_free, with_zone, held_by}
use Rattle.cell_parts.specs.declared.axis.Axis.{Axis}
use Rattle.cell_parts.specs.declared.plant.PlantState.{PlantState}
use Rattle.cell_parts.specs.Examples.{robot_with, crane_with, with_arm1, with_arm2, with_rotation, with_lift}
use Rattle.cell_parts.specs.Examples.{with_turn, with_travel, with_gripper}
use Rattle.cell_plant.specs.CellStates.{CellState, plant_of, side_in}
use Rattle.cell_plant.specs.Errands.{errand_of}
use Rattle.cell_plant.specs.Runs.{Step}
use Rattle.cell_plant.specs.Safety.{IsSafeState, IsSafelySet, IsSafeRun}
use Rattle.cell_plant.specs.Watch.{watch_at_start}

-- a state by the step of the crane's program, the interlock and the plant; the other programs are at their start, and
-- no machine has stopped
abbrev pub cell_at : CraneStep → ModelState → PlantState → CellState
cell_at step s p =
    record {
      interlock = s;
      side = side_in (record {
        feed = side_of (feed_start s) None p.feed;
        table = side_of (table_start s) None p.table;
        robot = side_of (robot_start s) None p.robot;
        press = side_of (press_start s) None p.press;
        deposit = side_of (deposit_start s) None p.deposit;
        crane = side_of (record { step = step; magnet = p.crane.magnet }) None p.crane;
        watch = watch_at_start;
      });
    }

-- the same with the crane's program at its first step, which drives the gripper but demands no zone
abbrev pub cell_with : ModelState → PlantState → CellState
cell_with s p = cell_at RaiseToFetch s p

-- the cell at the start, without plates
abbrev pub quiet : CellState
quiet = cell_with all_free empty_cell

-- the interlock with a plate at a place, and with both zones of a belt or of the table moving
abbrev pub plate_at : Place → ModelState
plate_at p = start_state (insert_place empty p) 0

abbrev pub deposit_moves : ModelState → ModelState
deposit_moves s = with_zone (with_zone s Deposit Z4 Moving) Deposit Z5 Moving

abbrev pub table_moves : ModelState
table_moves = with_zone (held_by Table Z1 Moving) Table Z2 Moving

-- ---- one state

-- the conditions of a safe state, one by one
abbrev pub IsClear : CellState → Type 0
IsClear w = NothingCollides (plant_of w)

abbrev pub IsWithinEnds : CellState → Type 0
IsWithinEnds w = StaysWithin (plant_of w)

abbrev pub HasPositions : CellState → Type 0
HasPositions w = PositionDemands w.interlock (plant_of w)

abbrev pub HasMotors : CellState → Type 0
HasMotors w = MotorDemands (errand_of (w.side Crane).progress.step) w.interlock (plant_of w)

-- a state is unsafe only by a collision, only by an axis past its end, only by a position's demand, or only by a
-- motor's demand
pub record OnlyCollides (w : CellState) : Type 0 where
  pub unsafe : ¬ IsSafeState w
  pub within : IsWithinEnds w
  pub positions : HasPositions w
  pub motors : HasMotors w

pub record OnlyPastEnd (w : CellState) : Type 0 where
  pub unsafe : ¬ IsSafeState w
  pub clear : IsClear w
  pub positions : HasPositions w
  pub motors : HasMotors w

pub record OnlyPositionUnmet (w : CellState) : Type 0 where
  pub unsafe : ¬ IsSafeState w
  pub clear : IsClear w
  pub within : IsWithinEnds w
  pub motors : HasMotors w

pub record OnlyMotorUnmet (w : CellState) : Type 0 where
  pub unsafe : ¬ IsSafeState w
  pub clear : IsClear w
  pub within : IsWithinEnds w
  pub positions : HasPositions w

-- the crane by its travel and its gripper; the robot by its first arm and its rotation; the robot with its second arm
-- over the deposit belt
abbrev pub crane_moves : Axis → Axis → PlantState
crane_moves travel gripper = record empty_cell { crane = crane_at travel gripper }

abbrev pub robot_moves : Axis → Axis → PlantState
robot_moves arm1 rotation = record empty_cell { robot = robot_at arm1 (at 0) rotation }

abbrev pub with_arm2_over_belt : Axis → PlantState
with_arm2_over_belt a = record empty_cell { robot = robot_at (at 0) a (at 1800) }

pub record SafeStates : Type 0 where
  pub all_stands : IsSafeState quiet
  pub press_moves : IsSafeState (cell_with (held_by Press Z3 Moving) (with_press (driven_at 700 Minus)))
  pub press_open : IsSafeState (cell_with (held_by Press Z3 OpenIn) (with_press (at 500)))
  pub table_turns : IsSafeState (cell_with table_moves (with_turn (driven_at 250 Plus)))
  pub arm_over_table : IsSafeState (cell_with (held_by Robot Z2 OpenOut) (with_arm1 (driven_at 600 Plus)))
  pub gripper_lowered : IsSafeState (cell_at LowerToPlate (held_by Crane Z5 OpenOut)
      (with_gripper (driven_at 500 Minus)))
  pub gripper_raised : IsSafeState (cell_at RaiseToFetch all_free (with_gripper (driven_at 900 Plus)))
  pub plate_on_belt : IsSafeState (cell_with (plate_at FeedEnd) (cell_with_plate_at FeedEnd))

-- In the last three a demand isn't met either: in a sound state whose belts run clear, met demands rule them out.
pub record CollidingStates : Type 0 where
  pub plate_drives_off : OnlyCollides (cell_with (deposit_moves (plate_at DepEnd))
      (record empty_cell { deposit = belt_with (Some 1000) true }))
  pub crane_travels_low : OnlyCollides (cell_with (held_by Crane Z5 OpenOut)
      (crane_moves (driven_at 100 Plus) (at 799)))
  pub robot_turns_with_arm_out : OnlyCollides (cell_with (held_by Robot Z2 OpenOut)
      (robot_moves (at 51) (driven_at 300 Plus)))
  pub plate_misses_table : OnlyCollides
      (cell_with (with_zone (with_zone (plate_at FeedEnd) Feed Z6 Moving) Feed Z1 Closed)
      (record empty_cell { feed = belt_with (Some 980) true; table = table_at (at 300) (at 0) }))
  pub arm_hits_press : ¬ IsSafeState (cell_with (held_by Robot Z3 OpenIn)
      (record empty_cell { robot = robot_at (at 800) (at 0) (at 1500) }))
  pub table_hits_arm : ¬ IsSafeState (cell_with (held_by Robot Z2 OpenOut)
      (record empty_cell { robot = robot_at (at 600) (at 0) (at 300); table = table_at (driven_at 300 Plus) (at 0) }))
  pub feed_belt_pulls : ¬ IsSafeState (cell_with (held_by Feed Z6 Moving)
      (record empty_cell { crane = crane_at (at 2000) (at 300); feed = belt_with None true }))

-- an axis may be at either end, 0 and another, but not one further
abbrev pub before_first : Axis
before_first = record { position = pos 0 -ℤ pos 1; motor = Off }

pub record StandsWithin (s : ModelState) (with_axis : Axis → PlantState) (end : ℕ) : Type 0 where
  pub first : IsSafeState (cell_with s (with_axis (at 0)))
  pub last : IsSafeState (cell_with s (with_axis (at end)))
  pub further_back : OnlyPastEnd (cell_with s (with_axis before_first))
  pub further_on : OnlyPastEnd (cell_with s (with_axis (at (end + 1))))

pub record StatesAtEnds : Type 0 where
  pub press : StandsWithin all_free with_press 1000
  pub arm1 : StandsWithin (held_by Robot Z2 OpenOut) with_arm1 1000
  pub arm2 : StandsWithin (held_by Robot Z4 OpenIn) with_arm2_over_belt 1000
  pub rotation : StandsWithin all_free with_rotation 2000
  pub lift : StandsWithin all_free with_lift 600
  pub turn : StandsWithin all_free with_turn 500
  pub travel : StandsWithin all_free with_travel 2000
  pub gripper : StandsWithin (held_by Crane Z5 OpenOut) with_gripper 1000

pub record PositionsUnmet : Type 0 where
  pub arm1_is_out : OnlyPositionUnmet (cell_with all_free (with_arm1 (at 51)))
  pub arm2_is_out : OnlyPositionUnmet (cell_with all_free (with_arm2_over_belt (at 51)))
  pub press_open_too_low : OnlyPositionUnmet (cell_with (held_by Press Z3 OpenIn) (with_press (at 489)))
  pub press_open_too_high : OnlyPositionUnmet (cell_with (held_by Press Z3 OpenOut) (with_press (at 11)))
  pub table_open_too_high : OnlyPositionUnmet (cell_with (held_by Table Z1 OpenIn) (with_lift (at 11)))
  pub gripper_is_down : OnlyPositionUnmet (cell_with all_free (with_gripper (at 799)))
  pub feed_plate_unknown : OnlyPositionUnmet (cell_with all_free (cell_with_plate_at FeedEnd))
  pub feed_plate_missing : OnlyPositionUnmet (cell_with (plate_at FeedEnd) empty_cell)
  pub deposit_plate_unknown : OnlyPositionUnmet (cell_with all_free (cell_with_plate_at DepEnd))
  pub deposit_plate_missing : OnlyPositionUnmet (cell_with (plate_at DepEnd) empty_cell)

pub record MotorsUnmet : Type 0 where
  pub press_is_driven : OnlyMotorUnmet (cell_with all_free (with_press (driven_at 700 Minus)))
  pub table_is_lifted : OnlyMotorUnmet (cell_with all_free (with_lift (driven_at 300 Plus)))
  pub table_is_turned : OnlyMotorUnmet (cell_with all_free (with_turn (driven_at 250 Minus)))
  pub feed_belt_runs : OnlyMotorUnmet (cell_with all_free (record empty_cell { feed = belt_with None true }))
  pub deposit_belt_runs : OnlyMotorUnmet (cell_with all_free (record empty_cell { deposit = belt_with None true }))
  pub arm1_is_driven : OnlyMotorUnmet (cell_with all_free (with_arm1 (driven_at 0 Plus)))
  pub arm2_is_driven : OnlyMotorUnmet (cell_with all_free (with_arm2 (driven_at 0 Plus)))
  pub gripper_to_plate : OnlyMotorUnmet (cell_at LowerToPlate (held_by Crane Z6 OpenIn)
      (with_gripper (driven_at 900 Minus)))
  pub gripper_with_plate : OnlyMotorUnmet (cell_at RaiseWithPlate (held_by Crane Z6 OpenIn)
      (with_gripper (driven_at 900 Plus)))
  pub gripper_to_feed : OnlyMotorUnmet (cell_at LowerToFeed (held_by Crane Z5 OpenOut)
      (with_gripper (driven_at 900 Minus)))
  pub gripper_from_feed : OnlyMotorUnmet (cell_at RaiseFromFeed (held_by Crane Z5 OpenOut)
      (with_gripper (driven_at 900 Plus)))

-- ---- one step

-- a machine's turn that is taken, by the state once its motors are set and the state once its part has moved
abbrev pub step_by : Machine → CellState → CellState → Step
step_by m set moved = record { machine = m; taken = true; asked = None; set = set; moved = moved }

-- the cell is safe before a step and after it, but not once the motors are set
pub record OnlySetIsUnsafe (w : CellState) (s : Step) : Type 0 where
  pub before : IsSafeState w
  pub unsafe : ¬ IsSafelySet w s
  pub moved : IsSafeState s.moved

-- all states of a step are safe, but the step isn't
pub record OnlyStepIsUnsafe (w : CellState) (s : Step) : Type 0 where
  pub before : IsSafeState w
  pub unsafe : ¬ IsSafelySet w s
  pub set : IsSafeState s.set
  pub moved : IsSafeState s.moved

-- the crane over the deposit belt, whose zone it holds; the robot before the table, whose zone it holds; the press,
-- which moves
abbrev pub crane_works : Axis → Axis → CellState
crane_works travel gripper = cell_with (held_by Crane Z5 OpenOut) (crane_moves travel gripper)

abbrev pub robot_works : Axis → Axis → CellState
robot_works arm1 rotation = cell_with (held_by Robot Z2 OpenOut) (robot_moves arm1 rotation)

abbrev pub press_works : Axis → CellState
press_works a = cell_with (held_by Press Z3 Moving) (with_press a)

-- the robot's magnets, and the crane's
abbrev pub robot_holds : Bool → Bool → CellState
robot_holds first second = cell_with all_free
    (record empty_cell { robot = robot_with (at 0) (at 0) (at 300) first second })

abbrev pub crane_holds : Bool → CellState
crane_holds on = cell_with all_free (record empty_cell { crane = crane_with (at 0) (at 900) on })

-- an axis at its end is commanded to go on
abbrev pub Drives : Machine → (Axis → CellState) → ℕ → Type 0
Drives m with_axis end = OnlyStepIsUnsafe (with_axis (at end))
    (step_by m (with_axis (driven_at end Plus)) (with_axis (driven_at end Plus)))

pub record StepExamples : Type 0 where
  pub crane_leaves : IsSafelySet quiet (step_by Crane (cell_with all_free (crane_moves (driven_at 0 Plus) (at 900)))
      (cell_with all_free (crane_moves (driven_at 20 Plus) (at 900))))
  pub press_goes_down : IsSafelySet (press_works (at 1000)) (step_by Press (press_works (driven_at 1000 Minus))
      (press_works (driven_at 980 Minus)))
  pub magnet_stays_on : IsSafelySet (crane_holds true) (step_by Crane (crane_holds true) (crane_holds true))
  -- wrong only once the motors are set: a collision, an axis past its end, an unmet demand of a position, and one of a
  -- motor
  pub crane_leaves_too_low : OnlySetIsUnsafe (crane_works (at 0) (at 790))
      (step_by Crane (crane_works (driven_at 0 Plus) (driven_at 790 Plus))
      (crane_works (driven_at 20 Plus) (driven_at 810 Plus)))
  pub press_past_its_end : OnlySetIsUnsafe (press_works (at 1000))
      (step_by Press (press_works (driven_at 1010 Minus)) (press_works (driven_at 990 Minus)))
  pub zone_left_too_low : OnlySetIsUnsafe (crane_works (at 0) (at 790))
      (step_by Crane (cell_with all_free (crane_moves (at 0) (driven_at 790 Plus)))
      (cell_with all_free (crane_moves (at 0) (driven_at 810 Plus))))
  pub arm_driven_too_early : OnlySetIsUnsafe (robot_works (at 0) (at 190))
      (step_by Robot (robot_works (driven_at 0 Plus) (driven_at 190 Plus))
      (robot_works (driven_at 20 Plus) (driven_at 210 Plus)))
  -- a magnet drops its plate
  pub arm1_lets_go : OnlyStepIsUnsafe (robot_holds true true)
      (step_by Robot (robot_holds false true) (robot_holds false true))
  pub arm2_lets_go : OnlyStepIsUnsafe (robot_holds true true)
      (step_by Robot (robot_holds true false) (robot_holds true false))
  pub crane_lets_go : OnlyStepIsUnsafe (crane_holds true) (step_by Crane (crane_holds false) (crane_holds false))
  -- an axis is driven on past its end
  pub press_drives_on : Drives Press press_works 1000
  pub arm_drives_on : Drives Robot (λ a. robot_works a (at 300)) 1000
  pub rotation_drives_on : Drives Robot (λ a. cell_with all_free (with_rotation a)) 2000
  pub lift_drives_on : Drives Table (λ a. cell_with table_moves (with_lift a)) 600
  pub turn_drives_on : Drives Table (λ a. cell_with table_moves (with_turn a)) 500
  pub travel_drives_on : Drives Crane (λ a. cell_with all_free (with_travel a)) 2000
  pub gripper_drives_on : Drives Crane (λ a. cell_with all_free (with_gripper a)) 1000

-- ---- a run

-- an unsafe state, and a step
abbrev pub danger : CellState
danger = cell_with all_free (with_gripper (at 799))

abbrev pub through : CellState → CellState → Step
through set moved = step_by Crane set moved

-- the robot with a plate at each arm, and a step in which the first arm drops its plate
abbrev pub loaded : CellState
loaded = robot_holds true true

abbrev pub drops : Step
drops = step_by Robot (robot_holds false true) (robot_holds false true)

-- all states of a run but one are safe; or all are, but a step isn't
pub record SafeRuns : Type 0 where
  pub safe : IsSafeRun quiet (through quiet quiet ∷ through quiet quiet ∷ [])
  pub no_turn : ¬ IsSafeRun danger []
  pub first : ¬ IsSafeRun danger (through quiet quiet ∷ through quiet quiet ∷ [])
  pub first_set : ¬ IsSafeRun quiet (through danger quiet ∷ through quiet quiet ∷ [])
  pub first_moved : ¬ IsSafeRun quiet (through quiet danger ∷ through quiet quiet ∷ [])
  pub last_set : ¬ IsSafeRun quiet (through quiet quiet ∷ through danger quiet ∷ [])
  pub last : ¬ IsSafeRun quiet (through quiet quiet ∷ through quiet danger ∷ [])
  pub plate_dropped : ¬ IsSafeRun loaded (drops ∷ [])
  pub plate_dropped_last : ¬ IsSafeRun quiet (through quiet loaded ∷ drops ∷ [])

-- ---- all of these

pub record SafetyExamples : Type 0 where
  pub safe : SafeStates
  pub colliding : CollidingStates
  pub ends : StatesAtEnds
  pub positions : PositionsUnmet
  pub motors : MotorsUnmet
  pub steps : StepExamples
  pub runs : SafeRuns
