-- A turn has the effect that its rows say.
use Rattle.std.proofs.Common.{◌≡◌, ◌∙◌, ap, sym, subst, refl, zero, suc, List, [], Bool, true, false, if◌then◌else◌, ℕ, Option, Some, None, Result, Ok, Err}
use Rattle.std.specs.Prelude.{⊤, ◌||◌}
use Rattle.std.proofs.Math.Bool.{or-true}
use Rattle.cell_rules.specs.Types.{Call, Refusal, Stopped, Refused, Event, Reply, Settled}
use Rattle.cell_sensors.specs.declared.sense.SensorFault.{SensorFault}
use Rattle.cell_rules.specs.Names.{Hears, MovesIn, Reached, ModelState}
use Rattle.cell_rules.specs.declared.heard.LineFault.{LineFault}
use Rattle.cell_rules.specs.declared.heard.Heard.{Heard}
use Rattle.cell_control.specs.declared.fault.CtlFault.TheVariants as fault
use Rattle.cell_control.specs.Names.{fault_of, InStepAfter, Steps, is_while_stopped, waits_out, after_answer, step_after_reply, program_of, Performed, PerformsCall, PerformsSensed, Turned, Turns, at_rest, turned, Says, stops_with, waits_on}
use Rattle.cell_control.proofs.lemmas.StepLemmas.{reached_by, reached_first, reached_carried}
use Rattle.cell_control.specs.Turns.{asked_at}
use Rattle.cell_control.specs.TurnRows.{TurnAnswered, AnswerRows, SilentRows, HeardRows, AsksAlways, ReachedRows, GoingRows, TurnRows}

module _ {S Sense Reading Act : Type 0} (t : Steps S Sense Reading Act) (p : S) (s : Sense) where
  -- the outcome of a turn that asks, by what came back
  asked_call : (o : Option Call) (answered : Result Reply LineFault) (reading : Reading) (r : Performed S Act) → PerformsCall t o ⊥ (λ call x. x ≡ answered) p reading r → r ≡ at_rest (t.rest p) (step_after_reply t p answered)
  asked_call None answered reading r k = absurd k.0
  asked_call (Some call) answered reading r k = k.2 ∙ ap (λ x. at_rest (t.rest p) (step_after_reply t p x)) k.1

  asked_sensed : (sensed : Result Reading SensorFault) (answered : Result Reply LineFault) (r : Performed S Act) → PerformsSensed t sensed ⊥ (λ call x. x ≡ answered) p r → r ≡ at_rest (t.rest p) (step_after_reply t p answered)
  asked_sensed (Err f) answered r k = absurd k.0
  asked_sensed (Ok reading) answered r k = asked_call (t.row p).call answered reading r k

  led_by : (answered : Result Reply LineFault) (w : Turned S Act) → TurnAnswered t p s answered w → w ≡ turned p (at_rest (t.rest p) (step_after_reply t p answered))
  led_by answered w k = k.2 ∙ ap (turned p) (asked_sensed k.1.sensed answered k.0 k.1.performs)

  refused_by : (b : Bool) (r : Refusal) (stamp : ℕ) (w : Turned S Act) → waits_out t p r ≡ b → TurnAnswered t p s (Ok (Settled (Refused r) stamp)) w → w ≡ turned p (at_rest (t.rest p) (if b then Ok p else Err (fault_of r)))
  refused_by b r stamp w e k = led_by _ w k ∙ ap (λ x. turned p (at_rest (t.rest p) (if x then Ok p else Err (fault_of r)))) e

  answers : (w : Turned S Act) → AnswerRows t p s w
  answers w = record {
    done = λ stamp k. led_by _ w k;
    shown = λ owner flag posture stamp k. led_by _ w k;
    waits = λ r stamp e k. refused_by true r stamp w (ap (λ x. x || is_while_stopped r) e) k;
    while_stopped = λ stamp k. refused_by true _ stamp w (or-true (waits_on (t.row p).waits Stopped)) k;
    busy = λ lost stamp k. led_by _ w k;
    not_party = λ stamp e k. refused_by false _ stamp w (ap (λ x. x || false) e) k;
    held = λ m stamp e k. refused_by false _ stamp w (ap (λ x. x || false) e) k;
    already_mine = λ stamp e k. refused_by false _ stamp w (ap (λ x. x || false) e) k;
    shut = λ posture stamp e k. refused_by false _ stamp w (ap (λ x. x || false) e) k;
    not_owner = λ owner stamp e k. refused_by false _ stamp w (ap (λ x. x || false) e) k;
    plate_in_zone = λ zone stamp e k. refused_by false _ stamp w (ap (λ x. x || false) e) k;
    no_plate = λ stamp e k. refused_by false _ stamp w (ap (λ x. x || false) e) k;
    place_full = λ stamp e k. refused_by false _ stamp w (ap (λ x. x || false) e) k;
    wrong_way = λ stamp e k. refused_by false _ stamp w (ap (λ x. x || false) e) k;
    jump = λ stamp e k. refused_by false _ stamp w (ap (λ x. x || false) e) k;
    not_at_work = λ stamp e k. refused_by false _ stamp w (ap (λ x. x || false) e) k;
    no_pose = λ stamp e k. refused_by false _ stamp w (ap (λ x. x || false) e) k;
    in_use = λ stamp e k. refused_by false _ stamp w (ap (λ x. x || false) e) k;
    not_stopped = λ stamp e k. refused_by false _ stamp w (ap (λ x. x || false) e) k;
    worn = λ stamp e k. refused_by false _ stamp w (ap (λ x. x || false) e) k;
    out_of_memory = λ k. led_by _ w k;
  }

  -- a step is performed by what its sensors say
  by_sensors : (same : Type 0) (asks : Call → Result Reply LineFault → Type 0) (sensed said : Result Reading SensorFault) (r : Performed S Act) → sensed ≡ said → PerformsSensed t sensed same asks p r → PerformsSensed t said same asks p r
  by_sensors same asks sensed said r e k = subst (λ x. PerformsSensed t x same asks p r) e k

  by_call : (same : Type 0) (asks : Call → Result Reply LineFault → Type 0) (o : Option Call) (reading : Reading) (r : Performed S Act) → (t.row p).call ≡ o → PerformsCall t (t.row p).call same asks p reading r → PerformsCall t o same asks p reading r
  by_call same asks o reading r e k = subst (λ x. PerformsCall t x same asks p reading r) e k

  -- a step that asks nothing leaves the line as it is, for anything that its sensors say
  no_call : (asks : Call → Result Reply LineFault → Type 0) (sensed : Result Reading SensorFault) (r : Performed S Act) → (t.row p).call ≡ None → PerformsSensed t sensed ⊥ asks p r → ⊥
  no_call asks (Err f) r e k = k.0
  no_call asks (Ok reading) r e k = (by_call ⊥ asks None reading r e k).0

  own_call : (sensed : Result Reading SensorFault) (call other : Call) (r : Performed S Act) → (t.row p).call ≡ Some call → PerformsSensed t sensed ⊥ (λ x y. x ≡ other) p r → other ≡ call
  own_call (Err f) call other r e k = absurd k.0
  own_call (Ok reading) call other r e k = sym (by_call ⊥ (λ x y. x ≡ other) (Some call) reading r e k).1

  -- a turn of a controller that runs, over any line: what it asks, or that the line stays, and the next step
  pub asked_own : (same : Type 0) (asks : Call → Result Reply LineFault → Type 0) (reading : Reading) (call : Call) (w : Turned S Act) → (t.row p).call ≡ Some call → Says t s (Ok reading) → Turns t same asks None p s w
      → (r : Result Reply LineFault) × asks call r × (w ≡ turned p (at_rest (t.rest p) (step_after_reply t p r)))
  asked_own same asks reading call w own says k =
      let led = by_call same asks (Some call) reading k.0 own (by_sensors same asks k.1.sensed (Ok reading) k.0 (says k.1.sensed k.1.senses) k.1.performs) in
      (led.0, led.1, k.2 ∙ ap (turned p) led.2)

  pub drive_own : (same : Type 0) (asks : Call → Result Reply LineFault → Type 0) (reading : Reading) (act : Act) (w : Turned S Act) → (t.row p).call ≡ None → Says t s (Ok reading) → ((other : Act) → t.drives p reading other → other ≡ act)
      → Turns t same asks None p s w → same × (w ≡ turned p (Ok (t.after_drive p reading act, act)))
  drive_own same asks reading act w none says only k =
      let led = by_call same asks None reading k.0 none (by_sensors same asks k.1.sensed (Ok reading) k.0 (says k.1.sensed k.1.senses) k.1.performs) in
      (led.0, k.2 ∙ ap (turned p) (led.1.2 ∙ ap (λ a. Ok (t.after_drive p reading a, a)) (only led.1.0 led.1.1)))

  pub sensor_own : (same : Type 0) (asks : Call → Result Reply LineFault → Type 0) (f : SensorFault) (w : Turned S Act) → Says t s (Err f) → Turns t same asks None p s w → same × (w ≡ stops_with p (fault.Sensor f))
  sensor_own same asks f w says k =
      let led = by_sensors same asks k.1.sensed (Err f) k.0 (says k.1.sensed k.1.senses) k.1.performs in
      (led.0, k.2 ∙ ap (turned p) led.1)

  silent : (w : Turned S Act) → SilentRows t p s w
  silent w = record {
    stopped = λ f k. k.1;
    stopped_asks_nothing = λ f call k. k.0;
    sensor = λ f says k. (sensor_own ⊤ (λ call r. ⊥) f w says k).1;
    sensor_asks_nothing = λ f call says k. (sensor_own ⊥ (λ other r. other ≡ call) f w says k).0;
    drives = λ reading act none says only k. (drive_own ⊤ (λ call r. ⊥) reading act w none says only k).1;
    drive_asks_nothing = λ call none k. no_call (λ other r. other ≡ call) k.1.sensed k.0 none k.1.performs;
    asks = λ reading call own says k. (asked_own ⊤ (λ other r. ⊥) reading call w own says k).1;
    asks_its_call = λ call other own k. own_call k.1.sensed call other k.0 own k.1.performs;
  }

  hears_none : (sensed : Result Reading SensorFault) (before now : Heard) → (t.row p).call ≡ None → Hears (asked_at t sensed p) before now → now ≡ before
  hears_none (Err f) before now e k = k
  hears_none (Ok reading) before now e k = subst (λ o. Hears o before now) e k

  heard : (before now : Heard) → HeardRows t p s before now
  heard before now = record {
    stopped = λ f k. k;
    sensor = λ f says k. subst (λ x. Hears (asked_at t x p) before now) (says k.sensed k.senses) k.hears;
    drives = λ none k. hears_none k.sensed before now none k.hears;
    asks_once = λ reading call own says k. subst (λ o. Hears o before now) own (subst (λ x. Hears (asked_at t x p) before now) (says k.sensed k.senses) k.hears);
  }

  -- if each step asks, no step is passed by driving
  no_moves : AsksAlways t → (n : ℕ) (q r : S) → MovesIn (program_of t) n q r → q ≡ r
  no_moves always zero q r k = k
  no_moves always (suc n) q r k =
      let asks : (t.row q).call ≡ Some (always q).0 = (always q).1 in
      let asks_nothing : (t.row q).call ≡ None = k.1.asks_nothing in
      cc

  reached : (opening : ModelState) (seen : List Event) → ReachedRows t p opening seen
  reached opening seen = record {
    at_first = reached_first t (t.start opening) opening [] refl refl;
    by_none = λ always none k.
        let moved = subst (λ h. Reached (program_of t) k.first h p) none k.come in
        (k.renewals, subst (λ q. InStepAfter t k.renewals q opening) (no_moves always moved.0 k.first p moved.1) k.in_step);
    by_one = λ e always one k.
        let led = subst (λ h. Reached (program_of t) k.first h p) one k.come in
        let first = no_moves always led.2.0 k.first led.0 led.2.1 in
        let last = no_moves always led.5.0 led.1 p led.5.1 in
        (k.first, (k.renewals, k.in_step), ap (λ x. (t.row x).call) first ∙ led.3, ap (λ x. after_answer t x e.answer) first ∙ led.4 ∙ ap (λ x. Ok x) last);
    carried_over = λ opened sound legal same k. reached_carried t p opening opened seen [] sound legal same refl k;
  }

  going : (q : S) (opening : ModelState) (before now : List Event) → GoingRows t p q opening before now
  going q opening before now = record {
    alone = λ on k. reached_by t p q opening before now on k;
    by_controller = λ on k. reached_by t p q opening before now (on refl) k;
    on_its_line = λ on k. reached_by t p q opening before now (on refl) k;
  }

  pub turn-rows : TurnRows t p s
  turn-rows = record { answered = answers; silent = silent; heard = heard; reached = reached; goes_on = going }
