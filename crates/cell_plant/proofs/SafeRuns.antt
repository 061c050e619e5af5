-- Every state of a run is safe: together the machines' invariants meet all demands, so nothing collides.
use Rattle.cell_plant.proofs.Names.{◌≡◌, Bool, true, false, inl, inr, Option, Some, None, List, [], ◌∷◌, refl, sym, ap, ◌∙◌, subst, Machine, Feed, Table, Robot, Press, Deposit, Crane, Watch, Event, PlaceSet, ModelState, RunsClear, IsStartState, start_state, IsReading, CraneSense, RobotSense, Rig, Steps, Turned, CraneAct, RobotAct, crane_steps, CraneProgress, CraneReading, RobotScales, near_lines, robot_rest, robot_steps}
use Rattle.cell_plant.proofs.Names.{RobotProgress, RobotReading, press_steps, table_steps, TurnCall, Turn, noting, act_or_rest, table_rig, robot_rig, press_rig, crane_rig, AreCellScales, LetsGo, Arm1MayLetGo, Arm2MayLetGo, CraneMayLetGo, PlateFalls, DrivesPastEnd, StaysWithin, set_robot, set_crane, PositionDemands, GripperErrand, MotorDemands, AllDemandsMet, nothing_collides, sound_start, robot_points, CellState, plant_of}
use Rattle.cell_plant.proofs.Names.{cell_at_start, Step, TakesTurn, goes_on, IsRun, errand_of, IsSafeState, IsSafelySet, IsSafeRun, EveryRunIsSafe}
use Rattle.cell_notes.specs.Names.{done_in}
use Rattle.cell_unit.specs.Sides.{Side, side_set}
use Rattle.cell_parts.specs.Names.{CellScales}
use Rattle.cell_plant.proofs.lemmas.KeptRuns.{CellInv, LeadsIf, step_keeps}
use Rattle.cell_plant.proofs.CellKeeps.{InvOf, ToldOf, keeping_of, starts}
use Rattle.cell_plant.proofs.CraneKeeps.{gripper-down, gripper-driven, travels-high, crane-ends, crane-lets-go}
use Rattle.cell_plant.proofs.Magnets.{still_on}
use Rattle.cell_plant.proofs.PressKeeps.{press-ends}
use Rattle.cell_plant.proofs.RobotKeeps.{AreRobotScales, arm1-has, arm2-has, rotates-retracted, robot-ends, robot-lets-go}
use Rattle.cell_plant.proofs.TableKeeps.{table-ends}

-- at a start the belts don't run
clear_free : (full : PlaceSet) (stamp : _) → RunsClear (start_state full stamp)
clear_free full stamp = record { feed = λ e. cc; entry = λ e. cc; end = λ e. cc }

pub clear_start : (s : ModelState) → IsStartState s → RunsClear s
clear_start s k = subst RunsClear (sym k.same) (clear_free s.full s.stamp)

-- an event doesn't change a part that notes nothing
unnoted : {State Sense Act : Type 0} → (rig : Rig State Sense Act) → ((b : State) (e : Event) → rig.notes b e ≡ b) → (b : State) (o : Option Event) → noting rig b o ≡ b
unnoted rig k b None = refl
unnoted rig k b (Some e) = k b e

set_unnoted : {S Sense Reading Act State : Type 0} → (t : Steps S Sense Reading Act) (rig : Rig State Sense Act) → ((b : State) (e : Event) → rig.notes b e ≡ b) → (before : Side S State) (asked : TurnCall) (turned : Turned S Act) (set : Side S State)
    → set ≡ side_set t rig before asked turned → set.part ≡ rig.set before.part (act_or_rest (t.rest before.progress) turned.result)
set_unnoted t rig k before asked turned set e = ap (λ x. x.part) e ∙ ap (λ b. rig.set b (act_or_rest (t.rest before.progress) turned.result)) (unnoted rig k before.part (done_in t.machine asked))

module _ (c : CellScales) (scales : AreCellScales c) where
  abbrev Kept : CellState → Type 0
  Kept w = CellInv c InvOf ToldOf (keeping_of c scales) w

  module _ (w : CellState) (i : Kept w) where
    positions : PositionDemands w.interlock (plant_of w)
    positions = record {
      arm1 = λ out. arm1-has w.interlock (w.side Robot).progress (w.side Robot).part (i.each Robot) (inl out);
      arm2 = λ out. arm2-has w.interlock (w.side Robot).progress (w.side Robot).part (i.each Robot) (inl out);
      press = ((i.each Press).0.open_in, (i.each Press).0.open_out);
      table = (i.each Table).0.open_in;
      gripper = gripper-down w.interlock (w.side Crane).progress (w.side Crane).part (i.each Crane);
      plates = ((i.each Feed).0.plates.end, (i.each Deposit).0.plates.end);
    }

    abbrev errand : GripperErrand
    errand = errand_of (w.side Crane).progress.step

    motors : MotorDemands errand w.interlock (plant_of w)
    motors = record {
      press = λ on. ((i.each Press).1 on).0;
      table = λ on. let k = (i.each Table).1 on in (k.0, k.1.0);
      feed = λ runs. let at = ((i.each Feed).1 runs).0 in (at, λ full. i.clear.feed at.1 full);
      deposit = λ runs. let at = (i.each Deposit).1 runs in (at.0, at.1.0);
      arm1 = λ on. arm1-has w.interlock (w.side Robot).progress (w.side Robot).part (i.each Robot) (inr on);
      arm2 = λ on. arm2-has w.interlock (w.side Robot).progress (w.side Robot).part (i.each Robot) (inr on);
      gripper = λ on. gripper-driven w.interlock (w.side Crane).progress (w.side Crane).part (i.each Crane);
    }

    all_met : AllDemandsMet errand w.interlock (plant_of w)
    all_met = record {
      sound = i.sound;
      clear = i.clear;
      positions = positions;
      motors = motors;
      travel = travels-high w.interlock (w.side Crane).progress (w.side Crane).part (i.each Crane);
      rotation = rotates-retracted w.interlock (w.side Robot).progress (w.side Robot).part (i.each Robot);
    }

    within : StaysWithin (plant_of w)
    within = assumption ((i.each Press).0, (i.each Robot).within, (i.each Table).0, i.each Crane)

    pub is_safe : IsSafeState w
    is_safe = record { clear = nothing_collides errand w.interlock (plant_of w) all_met; within = within; positions = positions; motors = motors }

  abbrev crane_program : Steps CraneProgress CraneSense CraneReading CraneAct
  crane_program = crane_steps c.gripper (IsReading c.gripper)

  crane_set : (busy : Bool) (w : CellState) (s : Step) → (k : TakesTurn c Crane busy w s) → (s.set.side Crane).part ≡ set_crane (w.side Crane).part (act_or_rest (crane_program.rest (w.side Crane).progress) k.takes.turned.result)
  crane_set busy w s k = set_unnoted crane_program (crane_rig c.gripper) (λ b x. refl) (w.side Crane) s.asked k.takes.turned (s.set.side Crane) k.takes.is

  -- the crane's magnet drops a plate only where it may, and in the turns of others it stays as it is
  crane_lets_go : (m : Machine) (busy : Bool) (w : CellState) (s : Step) → Kept w → TakesTurn c m busy w s → LetsGo (w.side Crane).part.magnet (s.set.side Crane).part.magnet → CraneMayLetGo (s.set.side Crane).part
  crane_lets_go Crane busy w s i k go =
      let is = crane_set busy w s k in
      subst CraneMayLetGo (sym is) (crane-lets-go c.gripper scales.gripper w.interlock (w.side Crane).progress (w.side Crane).part (i.each Crane) k.takes.sense k.takes.shows _ _ (w.side Crane).stopped k.takes.turned k.takes.row
      (go.0, sym (ap (λ x. x.magnet) is) ∙ go.1))
  crane_lets_go m busy w s i k go = let same = ap (λ x. x.part.magnet) (k.others_set Crane refl) in absurd (still_on _ _ same go)

  -- so do the robot's
  abbrev points : RobotScales
  points = robot_points c

  abbrev axes : AreRobotScales points
  axes = record { arm1 = scales.arm1; arm2 = scales.arm2; rotation = scales.rotation }

  abbrev robot_program : Steps RobotProgress RobotSense RobotReading RobotAct
  robot_program = robot_steps points (near_lines points)

  robot_set : (busy : Bool) (w : CellState) (s : Step) → (k : TakesTurn c Robot busy w s) → (s.set.side Robot).part ≡ set_robot (w.side Robot).part (act_or_rest (robot_rest (w.side Robot).progress) k.takes.turned.result)
  robot_set busy w s k = set_unnoted robot_program (robot_rig (robot_points c)) (λ b x. refl) (w.side Robot) s.asked k.takes.turned (s.set.side Robot) k.takes.is

  robot_lets_go : (m : Machine) (busy : Bool) (w : CellState) (s : Step) → Kept w → TakesTurn c m busy w s
      → (LetsGo (w.side Robot).part.magnet1 (s.set.side Robot).part.magnet1 → Arm1MayLetGo (s.set.side Robot).part) × (LetsGo (w.side Robot).part.magnet2 (s.set.side Robot).part.magnet2 → Arm2MayLetGo (s.set.side Robot).part)
  robot_lets_go Robot busy w s i k =
      let is = robot_set busy w s k in
      let there = robot-lets-go points axes w.interlock (w.side Robot).progress (w.side Robot).part (i.each Robot) k.takes.sense k.takes.shows _ _ (w.side Robot).stopped k.takes.turned k.takes.row in (
        λ go. subst Arm1MayLetGo (sym is) (there.0 (go.0, sym (ap (λ x. x.magnet1) is) ∙ go.1)),
        λ go. subst Arm2MayLetGo (sym is) (there.1 (go.0, sym (ap (λ x. x.magnet2) is) ∙ go.1)),
      )
  robot_lets_go m busy w s i k =
      let same = k.others_set Robot refl in
      (λ go. absurd (still_on _ _ (ap (λ x. x.part.magnet1) same) go), λ go. absurd (still_on _ _ (ap (λ x. x.part.magnet2) same) go))

  no_plate_falls : (m : Machine) (busy : Bool) (w : CellState) (s : Step) → Kept w → TakesTurn c m busy w s → ¬ PlateFalls (plant_of w) (plant_of s.set)
  no_plate_falls m busy w s i k (inl h) = h.1 ((robot_lets_go m busy w s i k).0 h.0)
  no_plate_falls m busy w s i k (inr (inl h)) = h.1 ((robot_lets_go m busy w s i k).1 h.0)
  no_plate_falls m busy w s i k (inr (inr h)) = h.1 (crane_lets_go m busy w s i k h.0)

  -- no axis is driven on past an end
  not_past : (m : Machine) (busy : Bool) (w : CellState) (s : Step) → Kept w → TakesTurn c m busy w s → ¬ DrivesPastEnd m (plant_of s.set)
  not_past Table busy w s i k past =
      table-ends c.turn scales.turn (w.side Table).part (i.each Table).0.turn_within k.takes.sense k.takes.shows _ _ (w.side Table).stopped (w.side Table).progress k.takes.turned k.takes.row
      (subst (λ t. DrivesPastEnd Table (record (plant_of s.set) { table = t })) (set_unnoted (table_steps c.turn (IsReading c.turn)) (table_rig c.turn) (λ b x. refl) (w.side Table) s.asked k.takes.turned (s.set.side Table) k.takes.is) past)
  not_past Press busy w s i k past =
      press-ends (w.side Press).part k.takes.sense k.takes.shows _ _ (w.side Press).stopped (w.side Press).progress k.takes.turned k.takes.row
      (subst (λ a. DrivesPastEnd Press (record (plant_of s.set) { press = a })) (set_unnoted press_steps press_rig (λ b x. refl) (w.side Press) s.asked k.takes.turned (s.set.side Press) k.takes.is) past)
  not_past Robot busy w s i k past =
      robot-ends points axes w.interlock (w.side Robot).progress (w.side Robot).part (i.each Robot) k.takes.sense k.takes.shows _ _ (w.side Robot).stopped k.takes.turned k.takes.row
      (subst (λ x. DrivesPastEnd Robot (record (plant_of s.set) { robot = x })) (robot_set busy w s k) past)
  not_past Crane busy w s i k past =
      crane-ends c.gripper scales.gripper w.interlock (w.side Crane).progress (w.side Crane).part (i.each Crane) k.takes.sense k.takes.shows _ _ (w.side Crane).stopped k.takes.turned k.takes.row
      (subst (λ x. DrivesPastEnd Crane (record (plant_of s.set) { crane = x })) (crane_set busy w s k) past)
  not_past _ busy w s i k past = past

  not_taken : (b : Bool) → b ≡ false → b ≡ true → ⊥
  not_taken b e f = cc

  safely_set : (b : Bool) (m : Machine) (busy : Bool) (w : CellState) (s : Step) → goes_on w m ≡ b → s.machine ≡ m → LeadsIf b c m busy w s → Kept w → Kept s.set → IsSafelySet w s
  safely_set true m busy w s e own k i set = record {
    clear = λ taken. record {
      plain = (is_safe s.set set).clear;
      magnets = no_plate_falls m busy w s i k;
      ends = subst (λ x. ¬ DrivesPastEnd x (plant_of s.set)) (sym own) (not_past m busy w s i k);
    };
    state = is_safe s.set set;
  }
  safely_set false m busy w s e own k i set = record { clear = λ taken. absurd (not_taken s.taken k.not_taken taken); state = is_safe s.set set }

  run_is_safe : (w : CellState) (turns : List Turn) (steps : List Step) → Kept w → IsRun c w turns steps → IsSafeRun w steps
  run_is_safe w [] [] i r = is_safe w i
  run_is_safe w (t ∷ ts) (s ∷ ss) i r =
      let kept = step_keeps c InvOf ToldOf (keeping_of c scales) (goes_on w t.machine) t.machine t.busy w s refl r.1.0 i in
      (is_safe w i, (safely_set (goes_on w t.machine) t.machine t.busy w s refl r.0 r.1.0 i kept.0, run_is_safe s.moved ts ss kept.1 r.1.1))
  run_is_safe w _ _ i r = absurd r

pub every_run : EveryRunIsSafe
every_run c opening turns steps scales start r =
    run_is_safe c scales (cell_at_start opening) turns steps (record { sound = sound_start opening start; clear = clear_start opening start; each = starts opening start }) r
