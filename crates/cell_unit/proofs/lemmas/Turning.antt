-- One turn of any machine over a bench.
use Rattle.std.proofs.Common.{◌≡◌, ◌≢◌, Bool, true, false, ◌++◌, append-nil, Option, Some, None, List, IfOk, Result, Ok, Err, refl, sym, ap, ◌∙◌, subst, if◌then◌else◌}
use Rattle.std.specs.Option.{is_none}
use Rattle.cell_rules.specs.Types.{Machine, Call, Event, Reply, Settled, Busy}
use Rattle.cell_sensors.specs.declared.sense.SensorFault.{SensorFault}
use Rattle.cell_rules.specs.Names.{ModelState, Desk, BenchAsks}
use Rattle.cell_rules.specs.declared.heard.LineFault.{LineFault}
use Rattle.cell_control.specs.Names.{Rig, Steps, with_senses, Performed, Turned, Turns, answered, turned}
use Rattle.cell_control.specs.declared.fault.CtlFault.{CtlFault}
use Rattle.cell_control.proofs.lemmas.TurnMaps.{turn_map, turn_either}
use Rattle.cell_control.proofs.lemmas.Senses.{turns_still}
use Rattle.cell_notes.specs.Names.{TurnCall, done_in, settled_by, settled_in, Notes, notes_with}
use Rattle.cell_unit.specs.Names.{Side, Acts, ActsAndMoves, DemandsHold, act_or_rest, noting, part_set, Answers, Leads, UnitTurn}
use Rattle.cell_unit.specs.Sides.{TellsByDemands}

-- what the actuators are told, by what came of the turn
pub told_act : {Act : Type 0} (rest act : Act) (fault : Option CtlFault) → (fault ≢ None → act ≡ rest) → act_or_rest rest (answered act fault) ≡ act
told_act rest act None k = refl
told_act rest act (Some fault) k = sym (k (λ e. cc))

pub if_told : {Act : Type 0} (D : Act → Type 0) (act : Act) (fault : Option CtlFault) → (fault ≡ None → D act) → IfOk (answered act fault) D
if_told D act None k = k refl
if_told D act (Some fault) k = tt

-- a turn, by another relation to its line
pub acts_map : {S Sense Reading Act State : Type 0} → (t : Steps S Sense Reading Act) (rig : Rig State Sense Act) (same same' : Type 0) (asks asks' : Call → Result Reply LineFault → Type 0) → (same → same')
    → ((c : Call) (r : Result Reply LineFault) → asks c r → asks' c r) → (before set : Side S State) (asked : TurnCall) → Acts t rig same asks before asked set → Acts t rig same' asks' before asked set
acts_map t rig same same' asks asks' f g before set asked k =
    record {
      sense = k.sense;
      shows = k.shows;
      turned = k.turned;
      row = turn_map t (same × (asked ≡ None)) (same' × (asked ≡ None)) (λ c r. asks c r × (asked ≡ Some (c, r))) (λ c r. asks' c r × (asked ≡ Some (c, r)))
          (λ h. (f h.0, h.1)) (λ c r h. (g c r h.0, h.1)) before.stopped before.progress k.sense k.turned k.row;
      is = k.is;
    }

-- a bench with a machine seated, before and after the machine's turn
bench_answers : (old new : Desk) (m : Machine) (busy : Bool) (q : Call) (r : Result Reply LineFault) → BenchAsks (record old { machine = m; busy = busy }) q r new → Answers old.state m busy q r new.state
bench_answers old new m busy q (Ok (Settled a stamp)) k = (k.0, k.1, k.2, ap (λ d. d.state) k.3)
bench_answers old new m busy q (Ok (Busy lost stamp)) k = (k.0, k.1, k.2, ap (λ d. d.state) k.3)
bench_answers old new m busy q (Err fault) k = (k.0, ap (λ d. d.state) k.1)

bench_history : (old new : Desk) (m : Machine) (busy : Bool) (q : Call) (r : Result Reply LineFault) → BenchAsks (record old { machine = m; busy = busy }) q r new → new.history ≡ old.history ++ settled_by m q r
bench_history old new m busy q (Ok (Settled a stamp)) k = ap (λ d. d.history) k.3
bench_history old new m busy q (Ok (Busy lost stamp)) k = ap (λ d. d.history) k.3 ∙ sym (append-nil old.history)
bench_history old new m busy q (Err fault) k = ap (λ d. d.history) k.1 ∙ sym (append-nil old.history)

module _ {S Sense Reading Act State : Type 0} (t : Steps S Sense Reading Act) (rig : Rig State Sense Act) (m : Machine) (busy : Bool) (old seated new : Desk) (before now : Side S State) (asked : TurnCall)
    (own : t.machine ≡ m) (is_seated : seated ≡ record old { machine = m; busy = busy }) (runs : is_none before.stopped ≡ true)
    (acts : ActsAndMoves t rig (new ≡ seated) (λ q r. BenchAsks seated q r new) before asked now) where
  by_state : (q : Call) (r : Result Reply LineFault) → BenchAsks seated q r new → Answers old.state t.machine busy q r new.state
  by_state q r k = subst (λ x. Answers old.state x busy q r new.state) (sym own) (bench_answers old new m busy q r (subst (λ d. BenchAsks d q r new) is_seated k))

  quiet : (new ≡ seated) × (asked ≡ None) → new.history ≡ old.history ++ settled_in t.machine asked
  quiet k = ap (λ d. d.history) (k.0 ∙ is_seated) ∙ sym (append-nil old.history) ∙ ap (λ a. old.history ++ settled_in t.machine a) (sym k.1)

  told : (q : Call) (r : Result Reply LineFault) → BenchAsks seated q r new × (asked ≡ Some (q, r)) → new.history ≡ old.history ++ settled_in t.machine asked
  told q r k =
      bench_history old new m busy q r (subst (λ d. BenchAsks d q r new) is_seated k.0)
      ∙ ap (λ x. old.history ++ settled_by x q r) (sym own)
      ∙ ap (λ a. old.history ++ settled_in t.machine a) (sym k.1)

  grown : new.history ≡ old.history ++ settled_in t.machine asked
  grown = turn_either t ((new ≡ seated) × (asked ≡ None)) (λ q r. BenchAsks seated q r new × (asked ≡ Some (q, r))) (new.history ≡ old.history ++ settled_in t.machine asked) quiet told before.stopped before.progress acts.acts.sense acts.acts.turned acts.acts.row

  -- a turn that is taken
  pub taken_on : (notes notes' : Notes) → new.opening ≡ old.opening → DemandsHold t rig before asked now new.opening new.history → notes' ≡ notes_with notes asked
      → UnitTurn t rig busy old new before now notes notes' asked
  taken_on notes notes' opening motor_demands noted =
      record {
        leads = subst (λ b. Leads b t rig busy old.state before asked new.state now) (sym runs)
            (record {
              set = acts.set;
              acts = acts_map t rig (new ≡ seated) (new.state ≡ old.state) (λ q r. BenchAsks seated q r new) (λ q r. Answers old.state t.machine busy q r new.state)
                  (λ same. ap (λ d. d.state) (same ∙ is_seated)) by_state before acts.set asked acts.acts;
              moved = acts.moved;
            });
        opening = opening;
        history = grown;
        motor_demands = motor_demands;
        noted = subst (λ b. notes' ≡ (if b then notes_with notes asked else notes)) (sym runs) noted;
      }

-- a part notes only its own machine's events: a controller that has stopped asks nothing on any line
pub own_done : {S Sense Reading Act : Type 0} → (t : Steps S Sense Reading Act) (same : Type 0) (asks : Call → Result Reply LineFault → Type 0) (asked : TurnCall) (m : Machine) (stopped : Option CtlFault) (p : S) (s : Sense) (w : Turned S Act)
    → (stopped ≡ None → m ≡ t.machine) → (same → asked ≡ None) → Turns t same asks stopped p s w → done_in m asked ≡ done_in t.machine asked
own_done t same asks asked m None p s w own nothing k = ap (λ x. done_in x asked) (own refl)
own_done t same asks asked m (Some fault) p s w own nothing k = ap (done_in m) (nothing k.0) ∙ sym (ap (done_in t.machine) (nothing k.0))

-- the actuators' commands in a turn that stopped nothing, and what they demand
module _ {S Sense Reading Act State : Type 0} (t : Steps S Sense Reading Act) (rig : Rig State Sense Act) (p : S) (before now : State) (asked : TurnCall) (opening : ModelState) (seen : List Event) (done : Option Event) (w : Turned S Act)
    (own : done ≡ done_in t.machine asked) (moved : now ≡ rig.moves (rig.set (noting rig before done) (act_or_rest (t.rest p) w.result)))
    (met : IfOk w.result (λ act. t.motor_demands p act opening seen)) (runs : w.stopped ≡ None) where
  performed_tells : (r : Performed S Act) → w ≡ turned p r → TellsByDemands t rig p before asked now opening seen
  performed_tells (Ok led) e =
      record {
        act = led.1;
        told = moved ∙ ap (λ x. rig.moves (rig.set (noting rig before x) (act_or_rest (t.rest p) w.result))) own ∙ ap (λ v. rig.moves (part_set t rig before asked (act_or_rest (t.rest p) v.result))) e;
        motor_demands = subst (λ v. IfOk v.result (λ act. t.motor_demands p act opening seen)) e met;
      }
  performed_tells (Err fault) e = let stopped : w.stopped ≡ Some fault = ap (λ v. v.stopped) e in cc

  pub turn_tells : (same : Type 0) (asks : Call → Result Reply LineFault → Type 0) (stopped : Option CtlFault) (s : Sense) → Turns t same asks stopped p s w → TellsByDemands t rig p before asked now opening seen
  turn_tells same asks None s k = performed_tells k.0 k.2
  turn_tells same asks (Some fault) s k = let stopped : w.stopped ≡ Some fault = ap (λ v. v.stopped) k.1 in cc

-- with less known of the sensors, a turn is still a turn
module _ {S Sense Reading Act State : Type 0} (t : Steps S Sense Reading Act) (rig : Rig State Sense Act) (senses : Sense → Result Reading SensorFault → Type 0) (f : (s : Sense) (r : Result Reading SensorFault) → t.senses s r → senses s r) where
  pub acts_still : (same : Type 0) (asks : Call → Result Reply LineFault → Type 0) (before set : Side S State) (asked : TurnCall) → Acts t rig same asks before asked set → Acts (with_senses t senses) rig same asks before asked set
  acts_still same asks before set asked k =
      record {
        sense = k.sense;
        shows = k.shows;
        turned = k.turned;
        row = turns_still t senses f (same × (asked ≡ None)) (λ c r. asks c r × (asked ≡ Some (c, r))) before.stopped before.progress k.sense k.turned k.row;
        is = k.is;
      }

  leads_still : (runs : Bool) (busy : Bool) (z y : _) (before now : Side S State) (asked : TurnCall) → Leads runs t rig busy z before asked y now → Leads runs (with_senses t senses) rig busy z before asked y now
  leads_still true busy z y before now asked k = record { set = k.set; acts = acts_still _ _ before k.set asked k.acts; moved = k.moved }
  leads_still false busy z y before now asked k = k
