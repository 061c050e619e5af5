-- A machine's status and its turn meet the rows.
use Rattle.std.proofs.Common.{◌≡◌, ◌∙◌, refl, ap, subst, ◌⊎◌, inl, inr, ℕ, Bool, true, false, if◌then◌else◌, ◌++◌, append-nil, Option, Some, None, Result, Ok, Err}
use Rattle.std.specs.Prelude.{⊤, ◌||◌}
use Rattle.std.proofs.Math.Bool.{or-true}
use Rattle.std.specs.Option.{is_none}
use Rattle.cell_rules.specs.Types.{Machine, Call, Refusal, Stopped, Answer, Reply, Settled, Busy}
use Rattle.cell_types.specs.declared.answer.Answer.TheVariants as answer
use Rattle.cell_sensors.specs.declared.sense.SensorFault.{SensorFault}
use Rattle.cell_rules.specs.Names.{ModelState, reply, next, Desk}
use Rattle.cell_rules.specs.declared.heard.LineFault.{LineFault}
use Rattle.cell_rules.specs.declared.heard.LineFault.TheVariants as line
use Rattle.cell_control.specs.Names.{fault_of, Rig, waits_on, Steps, is_while_stopped, waits_out, step_after_reply, Turned, Turns, at_rest, turned, stops_with}
use Rattle.cell_control.specs.declared.fault.CtlFault.{CtlFault}
use Rattle.cell_control.specs.declared.fault.CtlFault.TheVariants as fault
use Rattle.cell_control.proofs.lemmas.TurnsByAnswers.{asked_own, drive_own, sensor_own}
use Rattle.cell_notes.specs.Names.{TurnCall, settled_in, Notes, notes_with}
use Rattle.cell_unit.specs.Names.{Side, ActsAndMoves, part_set, side_set, side_moved, Answers, Leads, UnitTurn}
use Rattle.cell_unit.specs.UnitRows.{StatusRows, IsAsking, IsDriving, PartSays, UnitAnswered, SideRows, IsAnswered, IsRefusedMemory, UnitRows}

pub status-rows : StatusRows
status-rows = record { runs = refl; sensor = λ f. refl; refused = λ r. refl; worn = refl; out_of_memory = refl; stopped = refl }

-- the reply, by the state: in a turn that finds the interlock busy, and in one that doesn't
busy_answer : (z y : ModelState) (m : Machine) (call : Call) (r : Result Reply LineFault) → Answers z m true call r y → (r ≡ Ok (Busy 1 z.stamp)) × (y ≡ z)
busy_answer z y m call (Ok (Settled a stamp)) k = let wrong : true ≡ false = k.0 in cc
busy_answer z y m call (Ok (Busy lost stamp)) k = (ap (λ x. Ok (Busy x stamp)) k.1 ∙ ap (λ x. Ok (Busy 1 x)) k.2, k.3)
busy_answer z y m call (Err line.Memory) k = let wrong : true ≡ false = k.0 in cc

free_answer : (z y : ModelState) (m : Machine) (call : Call) (r : Result Reply LineFault) → Answers z m false call r y
    → ((r ≡ Ok (Settled (reply z m call) y.stamp)) × (y ≡ next z m call)) ⊎ ((r ≡ Err line.Memory) × (y ≡ z))
free_answer z y m call (Ok (Settled a stamp)) k = inl (ap (λ x. Ok (Settled x stamp)) k.1 ∙ ap (λ x. Ok (Settled (reply z m call) x)) k.2, k.3)
free_answer z y m call (Ok (Busy lost stamp)) k = let wrong : false ≡ true = k.0 in cc
free_answer z y m call (Err line.Memory) k = inr (refl, k.1)

module _ {S Sense Reading Act State : Type 0} (t : Steps S Sense Reading Act) (rig : Rig State Sense Act) (before now : Side S State) (asked : TurnCall) where
  -- the machine's side after a turn, by the controller's result and what was asked
  abbrev led : TurnCall → Turned S Act → Side S State
  led a w = side_moved rig (side_set t rig before a w)

  abbrev answered_side : Call → Result Reply LineFault → Side S State
  answered_side call r = led (Some (call, r)) (turned before.progress (at_rest (t.rest before.progress) (step_after_reply t before.progress r)))

  ends : (same : Type 0) (asks : Call → Result Reply LineFault → Type 0) (k : ActsAndMoves t rig same asks before asked now) (w : Turned S Act) (a : TurnCall) → k.acts.turned ≡ w → asked ≡ a → now ≡ led a w
  ends same asks k w a e f = k.moved ∙ ap (side_moved rig) k.acts.is ∙ ap (led asked) e ∙ ap (λ x. led x w) f

  row_from : (same : Type 0) (asks : Call → Result Reply LineFault → Type 0) (k : ActsAndMoves t rig same asks before asked now) (o : Option CtlFault) → before.stopped ≡ o
      → Turns t (same × (asked ≡ None)) (λ c r. asks c r × (asked ≡ Some (c, r))) o before.progress k.acts.sense k.acts.turned
  row_from same asks k o e = subst (λ x. Turns t (same × (asked ≡ None)) (λ c r. asks c r × (asked ≡ Some (c, r))) x before.progress k.acts.sense k.acts.turned) e k.acts.row

  asked_end : (same : Type 0) (asks : Call → Result Reply LineFault → Type 0) (reading : Reading) (call : Call) → IsAsking t rig before reading call → ActsAndMoves t rig same asks before asked now
      → (r : Result Reply LineFault) × asks call r × (asked ≡ Some (call, r)) × (now ≡ answered_side call r)
  asked_end same asks reading call i k =
      let own = asked_own t before.progress k.acts.sense (same × (asked ≡ None)) (λ c r. asks c r × (asked ≡ Some (c, r))) reading call k.acts.turned i.asks (i.says k.acts.sense k.acts.shows) (row_from same asks k None i.runs) in
      (own.0, own.1.0, own.1.1, ends same asks k _ _ own.2 own.1.1)

  drive_end : (same : Type 0) (asks : Call → Result Reply LineFault → Type 0) (reading : Reading) (act : Act) → IsDriving t rig before reading act → ActsAndMoves t rig same asks before asked now
      → same × (asked ≡ None) × (now ≡ led None (turned before.progress (Ok (t.after_drive before.progress reading act, act))))
  drive_end same asks reading act i k =
      let own = drive_own t before.progress k.acts.sense (same × (asked ≡ None)) (λ c r. asks c r × (asked ≡ Some (c, r))) reading act k.acts.turned i.asks_nothing (i.says k.acts.sense k.acts.shows) i.drives_only (row_from same asks k None i.runs) in
      (own.0.0, own.0.1, ends same asks k _ _ own.1 own.0.1)

  sensor_end : (same : Type 0) (asks : Call → Result Reply LineFault → Type 0) (f : SensorFault) → before.stopped ≡ None → PartSays t rig before.part (Err f) → ActsAndMoves t rig same asks before asked now
      → same × (asked ≡ None) × (now ≡ led None (stops_with before.progress (fault.Sensor f)))
  sensor_end same asks f runs says k =
      let own = sensor_own t before.progress k.acts.sense (same × (asked ≡ None)) (λ c r. asks c r × (asked ≡ Some (c, r))) f k.acts.turned (says k.acts.sense k.acts.shows) (row_from same asks k None runs) in
      (own.0.0, own.0.1, ends same asks k _ _ own.1 own.0.1)

  stopped_end : (same : Type 0) (asks : Call → Result Reply LineFault → Type 0) (f : CtlFault) → before.stopped ≡ Some f → ActsAndMoves t rig same asks before asked now
      → same × (asked ≡ None) × (now ≡ led None (record { result = Err fault.Stopped; progress = before.progress; stopped = Some f }))
  stopped_end same asks f e k =
      let own = row_from same asks k (Some f) e in
      (own.0.0, own.0.1, ends same asks k _ _ own.1 own.0.1)

  answered_end : (answered : Result Reply LineFault) (reading : Reading) (call : Call) → IsAsking t rig before reading call → UnitAnswered t rig before answered asked now → (asked ≡ Some (call, answered)) × (now ≡ answered_side call answered)
  answered_end answered reading call i k =
      let own = asked_end ⊥ (λ c r. r ≡ answered) reading call i k in
      subst (λ r. (asked ≡ Some (call, r)) × (now ≡ answered_side call r)) own.1 (own.2, own.3)

  refused_end : (b : Bool) (r : Refusal) (stamp : ℕ) (reading : Reading) (call : Call) → waits_out t before.progress r ≡ b → IsAsking t rig before reading call → UnitAnswered t rig before (Ok (Settled (answer.Refused r) stamp)) asked now
      → (asked ≡ Some (call, Ok (Settled (answer.Refused r) stamp))) × (now ≡ led None (turned before.progress (at_rest (t.rest before.progress) (if b then Ok before.progress else Err (fault_of r)))))
  refused_end b r stamp reading call e i k =
      let own = answered_end (Ok (Settled (answer.Refused r) stamp)) reading call i k in
      (own.0, own.1 ∙ ap (λ x. led None (turned before.progress (at_rest (t.rest before.progress) (if x then Ok before.progress else Err (fault_of r))))) e)

  pub side-rows : SideRows t rig before asked now
  side-rows = record {
    done = λ reading call stamp i k. answered_end _ reading call i k;
    shown = λ reading call owner flag posture stamp i k. answered_end _ reading call i k;
    waits = λ reading call r stamp e i k. refused_end true r stamp reading call (ap (λ x. x || is_while_stopped r) e) i k;
    while_stopped = λ reading call stamp i k. refused_end true _ stamp reading call (or-true (waits_on (t.row before.progress).waits Stopped)) i k;
    refused = λ reading call stamp e i k. refused_end false _ stamp reading call (ap (λ x. x || false) e) i k;
    worn = λ reading call stamp e i k. refused_end false _ stamp reading call (ap (λ x. x || false) e) i k;
    busy = λ reading call lost stamp i k. answered_end _ reading call i k;
    out_of_memory = λ reading call i k. answered_end _ reading call i k;
    drives = λ reading act i k. let own = drive_end ⊤ (λ c r. ⊥) reading act i k in (own.1, own.2);
    sensor = λ f runs says k. let own = sensor_end ⊤ (λ c r. ⊥) f runs says k in (own.1, own.2);
    stopped = λ f e k. let own = stopped_end ⊤ (λ c r. ⊥) f e k in (own.1, own.2);
    taken = record {
      moves_then = λ busy z y k. record { set = now; acts = k; moved = refl };
      was_set = λ busy z y k. (k.set, k.acts, k.moved);
      stopped_is_ready = λ opening seen f e. cc;
      running_has_reached = λ opening seen k. k refl;
    };
  }

-- over a bench
module _ {S Sense Reading Act State : Type 0} (t : Steps S Sense Reading Act) (rig : Rig State Sense Act) (old new : Desk) (before now : Side S State) (notes notes' : Notes) (asked : TurnCall) where
  -- a turn that is taken, with its notes
  taken : (busy : Bool) → before.stopped ≡ None → (k : UnitTurn t rig busy old new before now notes notes' asked) → ActsAndMoves t rig (new.state ≡ old.state) (λ c r. Answers old.state t.machine busy c r new.state) before asked now
  taken busy e k = subst (λ o. Leads (is_none o) t rig busy old.state before asked new.state now) e k.leads

  taken_noted : (busy : Bool) (a : TurnCall) → before.stopped ≡ None → (k : UnitTurn t rig busy old new before now notes notes' asked) → asked ≡ a → notes' ≡ notes_with notes a
  taken_noted busy a e k f = k.noted ∙ ap (λ o. if is_none o then notes_with notes asked else notes) e ∙ ap (notes_with notes) f

  seen_with : (busy : Bool) (a : TurnCall) (k : UnitTurn t rig busy old new before now notes notes' asked) → asked ≡ a → new.history ≡ old.history ++ settled_in t.machine a
  seen_with busy a k f = k.history ∙ ap (λ x. old.history ++ settled_in t.machine x) f

  -- the side after a refusal, by whether the step waits
  abbrev side_after_refusal : Bool → Refusal → Side S State
  side_after_refusal b f = led t rig before now asked None (turned before.progress (at_rest (t.rest before.progress) (if b then Ok before.progress else Err (fault_of f))))

  came_free : (reading : Reading) (call : Call) (i : IsAsking t rig before reading call) (k : UnitTurn t rig false old new before now notes notes' asked) (r : Result Reply LineFault) → asked ≡ Some (call, r) → now ≡ answered_side t rig before now asked call r
      → ((r ≡ Ok (Settled (reply old.state t.machine call) new.state.stamp)) × (new.state ≡ next old.state t.machine call)) ⊎ ((r ≡ Err line.Memory) × (new.state ≡ old.state))
      → IsAnswered t rig call old new before now notes notes' asked ⊎ IsRefusedMemory t rig call old new before now notes notes' asked
  came_free reading call i k r e side (inl came) =
      let told : asked ≡ Some (call, Ok (Settled (reply old.state t.machine call) new.state.stamp)) = e ∙ ap (λ x. Some (call, x)) came.0 in
      let by_answer : (a : Answer) → reply old.state t.machine call ≡ a → now ≡ answered_side t rig before now asked call (Ok (Settled a new.state.stamp)) =
      λ a is. side ∙ ap (answered_side t rig before now asked call) came.0 ∙ ap (λ x. answered_side t rig before now asked call (Ok (Settled x new.state.stamp))) is in
      let refused : (b : Bool) (f : Refusal) → reply old.state t.machine call ≡ answer.Refused f → waits_out t before.progress f ≡ b → now ≡ side_after_refusal b f =
      λ b f is waits. by_answer _ is ∙ ap (λ x. side_after_refusal x f) waits in
      inl (record {
        told = told;
        opening = k.opening;
        state = came.1;
        history = seen_with false _ k told;
        side = record {
          done = λ is. by_answer _ is;
          shown = λ owner flag posture is. by_answer _ is;
          waits = λ f is waits. refused true f is (ap (λ x. x || is_while_stopped f) waits);
          while_stopped = λ is. refused true Stopped is (or-true (waits_on (t.row before.progress).waits Stopped));
          refused = λ is waits. refused false _ is (ap (λ x. x || false) waits);
          worn = λ is waits. refused false _ is (ap (λ x. x || false) waits);
          demanded = λ is runs.
              let tells = k.motor_demands runs in
              (tells.act, tells.told ∙ ap (λ a. rig.moves (part_set t rig before.part a tells.act)) (told ∙ ap (λ x. Some (call, Ok (Settled x new.state.stamp))) is), tells.motor_demands);
        };
        noted = taken_noted false _ i.runs k told;
      })
  came_free reading call i k r e side (inr came) =
      let told : asked ≡ Some (call, Err line.Memory) = e ∙ ap (λ x. Some (call, x)) came.0 in
      inr (record {
        told = told;
        bench = record { opening = k.opening; state = came.1; history = seen_with false _ k told ∙ append-nil old.history };
        side = side ∙ ap (answered_side t rig before now asked call) came.0;
        noted = taken_noted false _ i.runs k told;
      })

  pub unit-rows : UnitRows t rig old new before now notes notes' asked
  unit-rows = record {
    stopped = λ f busy e k.
        let led = subst (λ o. Leads (is_none o) t rig busy old.state before asked new.state now) e k.leads in
        record {
          asks_nothing = led.asked_nothing;
          bench = record { opening = k.opening; state = led.same; history = seen_with busy None k led.asked_nothing ∙ append-nil old.history };
          side = led.stays;
          noted = k.noted ∙ ap (λ o. if is_none o then notes_with notes asked else notes) e;
        };
    busy = λ reading call i k.
        let own = asked_end t rig before now asked (new.state ≡ old.state) (λ c r. Answers old.state t.machine true c r new.state) reading call i (taken true i.runs k) in
        let came = busy_answer old.state new.state t.machine call own.0 own.1 in
        let told : asked ≡ Some (call, Ok (Busy 1 old.state.stamp)) = own.2 ∙ ap (λ r. Some (call, r)) came.0 in
        record {
          told = told;
          bench = record { opening = k.opening; state = came.1; history = seen_with true _ k told ∙ append-nil old.history };
          side = own.3 ∙ ap (answered_side t rig before now asked call) came.0;
          noted = taken_noted true _ i.runs k told;
          demanded = λ runs. let tells = k.motor_demands runs in (tells.act, tells.told ∙ ap (λ a. rig.moves (part_set t rig before.part a tells.act)) told, tells.motor_demands);
        };
    asks = λ reading call i k.
        let own = asked_end t rig before now asked (new.state ≡ old.state) (λ c r. Answers old.state t.machine false c r new.state) reading call i (taken false i.runs k) in
        came_free reading call i k own.0 own.2 own.3 (free_answer old.state new.state t.machine call own.0 own.1);
    drives = λ reading act busy i k.
        let own = drive_end t rig before now asked (new.state ≡ old.state) (λ c r. Answers old.state t.machine busy c r new.state) reading act i (taken busy i.runs k) in
        record {
          asks_nothing = own.1;
          bench = record { opening = k.opening; state = own.0; history = seen_with busy None k own.1 ∙ append-nil old.history };
          side = own.2;
          noted = taken_noted busy None i.runs k own.1;
          demanded = λ runs. let tells = k.motor_demands runs in (tells.act, tells.told ∙ ap (λ a. rig.moves (part_set t rig before.part a tells.act)) own.1, tells.motor_demands);
        };
  }
