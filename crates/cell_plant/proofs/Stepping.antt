-- One turn of a simulation, as a step of a run.
use Rattle.cell_plant.proofs.Names.{◌≡◌, OnErr, IfOk, Bool, true, false, ◌&&◌, is_none, List, [], ◌++◌, append-nil, Option, None, Result, Ok, Err, refl, sym, ap, ◌∙◌, subst, if◌then◌else◌, Machine, Feed, Table, Robot, Press, Deposit, Crane, Watch, same_machine, one_machine, Event, ModelState, Desk, Steps, Rig, CtlFault, TurnCall, settled_in, Notes, notes_with, at_machine, Turn, Side, UnitTurn, others_ready, Untouched, CellGauges, steps_by}
use Rattle.cell_plant.proofs.Names.{rig_of, SideOf, CellState, Sides, side_in, sides_at_start, Step, LeadsIfBy, RunMoment, StepsOn, state_at, first_moment, AllNotes, first_notes, feed_steps, table_steps, robot_steps, gauges_of, points_of, press_steps, deposit_steps, crane_steps, watch_steps}
use Rattle.cell_plant.specs.Simulations.{AreReady, Gauges}
use Rattle.cell_plant.specs.declared.simulation.Simulation.TheInside.{Inside}
use Rattle.cell_sensors.specs.declared.gauge.Gauge.{Ghosts}
use Rattle.cell_sensors.specs.Scale.{Scale}
use Rattle.cell_parts.specs.Names.{CellScales}
use Rattle.cell_sensors.specs.Names.{RobotScales}
use Rattle.cell_unit.specs.Names.{IsReady}
use Rattle.cell_unit.specs.UnitTurns.{Leads as LeadsAlone}
use Rattle.cell_plant.proofs.lemmas.KeptRuns.{own_program_by}

-- two states are the same if they have the same interlock and the same side of each machine
pub same_state : (w v : CellState) → w.interlock ≡ v.interlock → ((n : Machine) → w.side n ≡ v.side n) → w ≡ v
same_state w v e k = λ i. record { interlock = e i; side = λ n. k n i }

-- the sides, with one machine's replaced
abbrev put : (m : Machine) → SideOf m → ((n : Machine) → SideOf n) → (n : Machine) → SideOf n
put Feed x f Feed = x
put Table x f Table = x
put Robot x f Robot = x
put Press x f Press = x
put Deposit x f Deposit = x
put Crane x f Crane = x
put Watch x f Watch = x
put m x f n = f n

put_same : (m : Machine) (x : SideOf m) (f : (n : Machine) → SideOf n) → put m x f m ≡ x
put_same Feed x f = refl
put_same _ x f = refl

put_other : (m n : Machine) (x : SideOf m) (f : (n : Machine) → SideOf n) → same_machine m n ≡ false → put m x f n ≡ f n
put_other Feed Feed x f e = cc
put_other m Feed x f e = refl
put_other m n x f e = first_of (assumption, cc)

-- a turn of a machine leaves everything else as it was
module _ {G : Type 0} (gives : G → CellGauges) (m : Machine) (busy : Bool) (before now : RunMoment G) (asked : TurnCall)
    (leads : LeadsAlone (is_none (side_in before.sides m).stopped) (steps_by before.scales (gives before.gauges) m) (rig_of before.scales m) busy before.interlock (side_in before.sides m) asked now.interlock (side_in now.sides m))
    (history : now.history ≡ before.history ++ settled_in m asked)
    (noted : at_machine now.notes m ≡ (if is_none (side_in before.sides m).stopped then notes_with (at_machine before.notes m) asked else at_machine before.notes m))
    (others : (n : Machine) → same_machine m n ≡ false → (side_in now.sides n ≡ side_in before.sides n) × (at_machine now.notes n ≡ at_machine before.notes n))
    (scales : now.scales ≡ before.scales) (gauges : now.gauges ≡ before.gauges) (opening : now.opening ≡ before.opening) where
  abbrev Goal : Type 0
  Goal = StepsOn gives (record { machine = m; busy = busy }) before now asked

  same_side : (b : Bool) (n : Machine) → same_machine m n ≡ b → side_in now.sides m ≡ side_in before.sides m → side_in now.sides n ≡ side_in before.sides n
  same_side true n e k = subst (λ x. side_in now.sides x ≡ side_in before.sides x) (one_machine m n e) k
  same_side false n e k = (others n e).0

  abbrev NotedAs : Bool → Machine → Type 0
  NotedAs b n = at_machine now.notes n ≡ (if b then notes_with (at_machine before.notes n) asked else at_machine before.notes n)

  noted_by : (taken b : Bool) (n : Machine) → same_machine m n ≡ b → is_none (side_in before.sides m).stopped ≡ taken → NotedAs (taken && b) n
  noted_by true true n e k = subst (λ x. NotedAs true x) (one_machine m n e) (noted ∙ ap (λ x. if x then notes_with (at_machine before.notes m) asked else at_machine before.notes m) k)
  noted_by false true n e k = subst (λ x. NotedAs false x) (one_machine m n e) (noted ∙ ap (λ x. if x then notes_with (at_machine before.notes m) asked else at_machine before.notes m) k)
  noted_by true false n e k = (others n e).1
  noted_by false false n e k = (others n e).1

  on : (b : Bool) → is_none (side_in before.sides m).stopped ≡ b
      → LeadsAlone b (steps_by before.scales (gives before.gauges) m) (rig_of before.scales m) busy before.interlock (side_in before.sides m) asked now.interlock (side_in now.sides m) → Goal
  on true e k =
      let step : Step = record { machine = m; taken = true; asked = asked; set = record { interlock = now.interlock; side = put m k.set (side_in before.sides) }; moved = state_at now } in
      record {
        step = step;
        is_asked = refl;
        machine = refl;
        leads = subst (λ x. LeadsIfBy x before.scales (gives before.gauges) m busy (state_at before) step) (sym e)
            (record {
              taken = refl;
              takes = rw (put_same m k.set (side_in before.sides)) k.acts;
              others_set = λ n apart. put_other m n k.set (side_in before.sides) apart;
              moved = rw (put_same m k.set (side_in before.sides)) k.moved;
              others_moved = λ n apart. (others n apart).0 ∙ sym (put_other m n k.set (side_in before.sides) apart);
              interlock = refl;
            });
        state = refl;
        history = history;
        notes = λ n. noted_by true (same_machine m n) n refl e;
        scales = scales;
        gauges = gauges;
        opening = opening;
      }
  on false e k =
      let step : Step = record { machine = m; taken = false; asked = asked; set = state_at before; moved = state_at before } in
      record {
        step = step;
        is_asked = refl;
        machine = refl;
        leads = subst (λ x. LeadsIfBy x before.scales (gives before.gauges) m busy (state_at before) step) (sym e) (record { not_taken = refl; asked = k.asked_nothing; set = refl; moved = refl });
        state = same_state (state_at now) (state_at before) k.same (λ n. same_side (same_machine m n) n refl k.stays);
        history = history;
        notes = λ n. noted_by false (same_machine m n) n refl e;
        scales = scales;
        gauges = gauges;
        opening = opening;
      }

  pub steps_on : Goal
  steps_on = on (is_none (side_in before.sides m).stopped) refl leads

-- a turn leaves the sides and the notes of the other machines
abbrev Others : Machine → Sides → Sides → AllNotes → AllNotes → Type 0
Others m s t v w = (n : Machine) → same_machine m n ≡ false → (side_in t n ≡ side_in s n) × (at_machine w n ≡ at_machine v n)

pub feed_others : (s : Sides) (x : SideOf Feed) (v : AllNotes) (y : Notes) → Others Feed s (record s { feed = x }) v (record v { feed = y })
feed_others s x v y Feed apart = cc
feed_others s x v y n apart = (refl, refl)

pub table_others : (s : Sides) (x : SideOf Table) (v : AllNotes) (y : Notes) → Others Table s (record s { table = x }) v (record v { table = y })
table_others s x v y Table apart = cc
table_others s x v y n apart = (refl, refl)

pub robot_others : (s : Sides) (x : SideOf Robot) (v : AllNotes) (y : Notes) → Others Robot s (record s { robot = x }) v (record v { robot = y })
robot_others s x v y Robot apart = cc
robot_others s x v y n apart = (refl, refl)

pub press_others : (s : Sides) (x : SideOf Press) (v : AllNotes) (y : Notes) → Others Press s (record s { press = x }) v (record v { press = y })
press_others s x v y Press apart = cc
press_others s x v y n apart = (refl, refl)

pub deposit_others : (s : Sides) (x : SideOf Deposit) (v : AllNotes) (y : Notes) → Others Deposit s (record s { deposit = x }) v (record v { deposit = y })
deposit_others s x v y Deposit apart = cc
deposit_others s x v y n apart = (refl, refl)

pub crane_others : (s : Sides) (x : SideOf Crane) (v : AllNotes) (y : Notes) → Others Crane s (record s { crane = x }) v (record v { crane = y })
crane_others s x v y Crane apart = cc
crane_others s x v y n apart = (refl, refl)

pub watch_others : (s : Sides) (x : SideOf Watch) (v : AllNotes) (y : Notes) → Others Watch s (record s { watch = x }) v (record v { watch = y })
watch_others s x v y Watch apart = cc
watch_others s x v y n apart = (refl, refl)

-- so a turn of a machine's unit over the bench, if it was Ok, is a step of the run
abbrev desk_in : {G : Type 0} → RunMoment G → Machine → Bool → Desk
desk_in m last busy = record { opening = m.opening; state = m.interlock; history = m.history; machine = last; busy = busy }

pub unit_on : {G E : Type 0} → (gives : G → CellGauges) (m : Machine) (t : Turn) (before now : RunMoment G) (r : Result TurnCall E) (last last' : Machine) (busy busy' : Bool)
    → t.machine ≡ m → Others m before.sides now.sides before.notes now.notes → now.scales ≡ before.scales → now.gauges ≡ before.gauges
    → IfOk r (UnitTurn (steps_by before.scales (gives before.gauges) m) (rig_of before.scales m) t.busy (desk_in before last busy) (desk_in now last' busy') (side_in before.sides m) (side_in now.sides m) (at_machine before.notes m) (at_machine now.notes m))
    → IfOk r (StepsOn gives t before now)
unit_on gives m t before now (Ok asked) last last' busy busy' is others scales gauges k =
    let own = own_program_by before.scales (gives before.gauges) m in
    subst (λ x. StepsOn gives (record t { machine = x }) before now asked) (sym is)
    (steps_on gives m t.busy before now asked k.leads (subst (λ x. now.history ≡ before.history ++ settled_in x asked) own k.history) k.noted others scales gauges k.opening)
unit_on gives m t before now (Err e) last last' busy busy' is others scales gauges k = tt

-- after any turn, Ok or not, the bench keeps its opening, and its history grows by what was asked
pub record Grows (m : Machine) (old new : Desk) : Type 0 where
  pub asked : TurnCall
  pub opening : new.opening ≡ old.opening
  pub history : new.history ≡ old.history ++ settled_in m asked

pub grows : {E S Sense Reading Act State : Type 0} → (r : Result TurnCall E) (t : Steps S Sense Reading Act) (rig : Rig State Sense Act) (busy : Bool) (old new : Desk) (before now : Side S State) (notes notes' : Notes)
    → IfOk r (UnitTurn t rig busy old new before now notes notes') → OnErr r (Untouched old new before now notes notes') → Grows t.machine old new
grows (Ok asked) t rig busy old new before now notes notes' k u = record { asked = asked; opening = k.opening; history = k.history }
grows (Err e) t rig busy old new before now notes notes' k u = record { asked = None; opening = ap (λ (d : Desk). d.opening) u.desk; history = ap (λ (d : Desk). d.history) u.desk ∙ sym (append-nil old.history) }

-- the other machines' controllers stay ready
pub stays_ready : {S Sense Reading Act : Type 0} → (t : Steps S Sense Reading Act) (m : Machine) (old new : Desk) → Grows m old new → (stopped : Option CtlFault) (p : S) → same_machine m t.machine ≡ false
    → IsReady t old.opening old.history stopped p → IsReady t new.opening new.history stopped p
stays_ready t m old new k stopped p apart ready = rw k.opening (others_ready t m old.opening old.history new.history k.asked stopped p apart k.history ready)

-- what it is for a machine's controller to be ready in a simulation, at an opening and a history
module _ {F1 F2 F3 F4 F5 : Type 0} {g1 : Ghosts F1} {g2 : Ghosts F2} {g3 : Ghosts F3} {g4 : Ghosts F4} {g5 : Ghosts F5} (gives : Gauges F1 F2 F3 F4 F5) (s : Inside F1 F2 F3 F4 F5 g1 g2 g3 g4 g5) where
  abbrev pub ReadyAt : ModelState → List Event → Machine → Type 0
  ReadyAt opening seen Feed = IsReady feed_steps opening seen s.cell.feed.controller.stopped s.cell.feed.controller.progress
  ReadyAt opening seen Table = IsReady (table_steps s.cell.table.controller.program.turn.points (gives.turn s.cell.table.controller.program.turn.gauge)) opening seen s.cell.table.controller.stopped s.cell.table.controller.progress
  ReadyAt opening seen Robot =
      IsReady (robot_steps (points_of s.cell.robot.controller.program) (gauges_of (gives.arm1 s.cell.robot.controller.program.arm1.gauge) (gives.arm2 s.cell.robot.controller.program.arm2.gauge) (gives.rotation s.cell.robot.controller.program.rotation.gauge)))
      opening seen s.cell.robot.controller.stopped s.cell.robot.controller.progress
  ReadyAt opening seen Press = IsReady press_steps opening seen s.cell.press.controller.stopped s.cell.press.controller.progress
  ReadyAt opening seen Deposit = IsReady deposit_steps opening seen s.cell.deposit.controller.stopped s.cell.deposit.controller.progress
  ReadyAt opening seen Crane = IsReady (crane_steps s.cell.crane.controller.program.gripper.points (gives.gripper s.cell.crane.controller.program.gripper.gauge)) opening seen s.cell.crane.controller.stopped s.cell.crane.controller.progress
  ReadyAt opening seen Watch = IsReady watch_steps opening seen s.watch.controller.stopped s.watch.controller.progress

-- after any machine's turn those of the others are ready
pub others_stay : {F1 F2 F3 F4 F5 : Type 0} {g1 : Ghosts F1} {g2 : Ghosts F2} {g3 : Ghosts F3} {g4 : Ghosts F4} {g5 : Ghosts F5} {gives : Gauges F1 F2 F3 F4 F5} {s : Inside F1 F2 F3 F4 F5 g1 g2 g3 g4 g5} → AreReady gives s
    → {m : Machine} {old new : Desk} → Grows m old new → old.opening ≡ s.bench.opening → old.history ≡ s.bench.history.items
    → (n : Machine) → same_machine m n ≡ false → ReadyAt gives s new.opening new.history n
others_stay r k o h Feed apart = stays_ready _ _ _ _ k _ _ apart (rw (o, h) r.feed)
others_stay r k o h Table apart = stays_ready _ _ _ _ k _ _ apart (rw (o, h) r.table)
others_stay r k o h Robot apart = stays_ready _ _ _ _ k _ _ apart (rw (o, h) r.robot)
others_stay r k o h Press apart = stays_ready _ _ _ _ k _ _ apart (rw (o, h) r.press)
others_stay r k o h Deposit apart = stays_ready _ _ _ _ k _ _ apart (rw (o, h) r.deposit)
others_stay r k o h Crane apart = stays_ready _ _ _ _ k _ _ apart (rw (o, h) r.crane)
others_stay r k o h Watch apart = stays_ready _ _ _ _ k _ _ apart (rw (o, h) r.watch)

-- another scale of the table's rotation, another of the gripper's height, and other scales of the robot
abbrev pub with_turn : CellScales → Scale → CellScales
with_turn c s = record c { turn = s }

abbrev pub with_gripper : CellScales → Scale → CellScales
with_gripper c s = record c { gripper = s }

abbrev pub with_robot : CellScales → RobotScales → CellScales
with_robot c s = record c { arm1 = s.arm1; arm2 = s.arm2; rotation = s.rotation }

-- a simulation before its first turn
pub first_is : {G : Type 0} → (c : CellScales) (gauges : G) (s opening interlock : ModelState) (sides : Sides) (history : List Event) (notes : AllNotes)
    → opening ≡ s → interlock ≡ s → sides ≡ sides_at_start s → history ≡ [] → notes ≡ first_notes
    → record { scales = c; gauges = gauges; opening = opening; interlock = interlock; sides = sides; history = history; notes = notes } ≡ first_moment c gauges s
first_is c gauges s opening interlock sides history notes a b d e f = λ i. record { scales = c; gauges = gauges; opening = a i; interlock = b i; sides = d i; history = e i; notes = f i }
