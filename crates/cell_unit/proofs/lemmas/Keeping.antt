-- What holds of one machine's side in every state of a run, for any machine.
use Rattle.std.proofs.Common.{◌≡◌, Bool, true, false, if◌then◌else◌, ◌⊎◌, inl, inr, Option, Some, None, Result, Ok, Err, refl, sym, ap, ◌∙◌, subst}
use Rattle.cell_rules.specs.Types.{Machine, Posture, Call, Done, Shown, Refused, Reply, Settled, Busy, same_machine}
use Rattle.cell_sensors.specs.declared.sense.SensorFault.{SensorFault}
use Rattle.cell_rules.specs.Names.{ModelState, IsSound, event, reply, next, next_by, changed}
use Rattle.cell_rules.specs.declared.heard.LineFault.{LineFault}
use Rattle.cell_control.specs.Names.{fault_of, Rig, Steps, waits_out, step_after_reply, Performed, PerformsCall, PerformsSensed, Turned, Turns, turned, at_rest}
use Rattle.cell_control.specs.declared.fault.CtlFault.{CtlFault}
use Rattle.cell_control.proofs.lemmas.TurnMaps.{turn_either}
use Rattle.cell_notes.specs.Asks.{TurnCall, done_in}
use Rattle.cell_unit.specs.Names.{Side, noting, part_set, act_or_rest, Answers, Takes}

-- a turn, by the state, asks nothing or one call
abbrev pub AsksNothing : ModelState → TurnCall → ModelState → Type 0
AsksNothing z asked y = (y ≡ z) × (asked ≡ None)

abbrev pub AsksOnce : ModelState → Machine → Bool → TurnCall → ModelState → Call → Result Reply LineFault → Type 0
AsksOnce z m busy asked y c r = Answers z m busy c r y × (asked ≡ Some (c, r))

-- A machine's own part of the proof that its side keeps what holds of it: Inv holds between turns; Told holds when the
-- actuators are set, before the part moves.
pub record Keeping {S Sense Reading Act State : Type 0} (t : Steps S Sense Reading Act) (rig : Rig State Sense Act) (Inv Told : ModelState → S → State → Type 0) : Type 0 where
  -- other machines' calls
  pub foreign : (z : ModelState) (p : S) (b : State) (n : Machine) (c : Call) → same_machine n t.machine ≡ false → IsSound z → Inv z p b → Inv (next z n c) p b
  -- actuators at rest; a call that is done; what an inquiry showed; a drive
  pub rests : (z : ModelState) (p : S) (b : State) → Inv z p b → Told z p (rig.set b (t.rest p))
  pub after_done : (z : ModelState) (p : S) (b : State) (c : Call) → (t.row p).call ≡ Some c → reply z t.machine c ≡ Done → IsSound z → Inv z p b → Told (changed z t.machine c) (t.row p).next (rig.set (rig.notes b (event t.machine c Done)) (t.rest p))
  pub after_inquiry : (z : ModelState) (p : S) (b : State) (c : Call) (owner : Option Machine) (flag : Bool) (posture : Posture) → (t.row p).call ≡ Some c → reply z t.machine c ≡ Shown owner flag posture → IsSound z → Inv z p b
      → Told z (t.after_inquiry p owner flag posture) (rig.set b (t.rest p))
  pub after_drive : (z : ModelState) (p : S) (b : State) (s : Sense) (reading : Reading) (act : Act) → (t.row p).call ≡ None → rig.shows b s → t.senses s (Ok reading) → t.drives p reading act → Inv z p b
      → Told z (t.after_drive p reading act) (rig.set b act)
  -- before its part has moved, and after
  pub told : (z : ModelState) (p : S) (b : State) → Told z p b → Inv z p b
  pub moves : (z : ModelState) (p : S) (b : State) → Told z p b → Inv z p (rig.moves b)

module _ {S Sense Reading Act State : Type 0} (t : Steps S Sense Reading Act) (rig : Rig State Sense Act) (Inv Told : ModelState → S → State → Type 0) (keeps : Keeping t rig Inv Told)
    (busy : Bool) (z y : ModelState) (asked : TurnCall) (p : S) (b : State) (i : Inv z p b) where
  abbrev After : Turned S Act → Type 0
  After w = Told y w.progress (part_set t rig b asked (act_or_rest (t.rest p) w.result))

  -- nothing was noted, and the state is as it was
  quiet : (q : S) (act : Act) → y ≡ z → done_in t.machine asked ≡ None → Told z q (rig.set b act) → Told y q (part_set t rig b asked act)
  quiet q act same nothing k = subst (λ x. Told x q (part_set t rig b asked act)) (sym same) (subst (λ e. Told z q (rig.set (noting rig b e) act)) (sym nothing) k)

  stays : (s : Bool) (f : CtlFault) → y ≡ z → done_in t.machine asked ≡ None → After (turned p (at_rest (t.rest p) (if s then Ok p else Err f)))
  stays true f same nothing = quiet p (t.rest p) same nothing (keeps.rests z p b i)
  stays false f same nothing = quiet p (t.rest p) same nothing (keeps.rests z p b i)

  asked_for : (c : Call) (r : Result Reply LineFault) → (t.row p).call ≡ Some c → IsSound z → Answers z t.machine busy c r y → asked ≡ Some (c, r) → After (turned p (at_rest (t.rest p) (step_after_reply t p r)))
  asked_for c (Ok (Settled Done stamp)) e sound k a =
      let done : reply z t.machine c ≡ Done = sym k.1 in
      let is : y ≡ changed z t.machine c = k.3 ∙ ap (λ x. next_by x z t.machine c) done in
      subst (λ x. Told y (t.row p).next (part_set t rig b x (t.rest p))) (sym a)
      (subst (λ x. Told x (t.row p).next (rig.set (rig.notes b (event t.machine c Done)) (t.rest p))) (sym is) (keeps.after_done z p b c e done sound i))
  asked_for c (Ok (Settled (Refused r) stamp)) e sound k a = stays (waits_out t p r) (fault_of r) (k.3 ∙ ap (λ x. next_by x z t.machine c) (sym k.1)) (ap (done_in t.machine) a)
  asked_for c (Ok (Settled (Shown o f q) stamp)) e sound k a =
      quiet (t.after_inquiry p o f q) (t.rest p) (k.3 ∙ ap (λ x. next_by x z t.machine c) (sym k.1)) (ap (done_in t.machine) a) (keeps.after_inquiry z p b c o f q e (sym k.1) sound i)
  asked_for c (Ok (Busy lost stamp)) e sound k a = quiet p (t.rest p) k.3 (ap (done_in t.machine) a) (keeps.rests z p b i)
  asked_for c (Err fault) e sound k a = quiet p (t.rest p) k.1 (ap (done_in t.machine) a) (keeps.rests z p b i)

  module _ (s : Sense) (shows : rig.shows b s) (sound : IsSound z) where
    by_step : (o : Option Call) (reading : Reading) (r : Performed S Act) → (t.row p).call ≡ o → t.senses s (Ok reading) → PerformsCall t o (AsksNothing z asked y) (AsksOnce z t.machine busy asked y) p reading r → After (turned p r)
    by_step None reading r e senses k =
        subst (λ x. After (turned p x)) (sym k.1.2) (quiet (t.after_drive p reading k.1.0) k.1.0 k.0.0 (ap (done_in t.machine) k.0.1) (keeps.after_drive z p b s reading k.1.0 e shows senses k.1.1 i))
    by_step (Some c) reading r e senses k = subst (λ x. After (turned p x)) (sym k.2) (asked_for c k.0 e sound k.1.0 k.1.1)

    by_sensors : (sensed : Result Reading SensorFault) (r : Performed S Act) → t.senses s sensed → PerformsSensed t sensed (AsksNothing z asked y) (AsksOnce z t.machine busy asked y) p r → After (turned p r)
    by_sensors (Err fault) r senses k = subst (λ x. After (turned p x)) (sym k.1) (quiet p (t.rest p) k.0.0 (ap (done_in t.machine) k.0.1) (keeps.rests z p b i))
    by_sensors (Ok reading) r senses k = by_step (t.row p).call reading r refl senses k

    by_row : (stopped : Option CtlFault) (w : Turned S Act) → stopped ≡ None → Turns t (AsksNothing z asked y) (AsksOnce z t.machine busy asked y) stopped p s w → After w
    by_row None w e k = subst After (sym k.2) (by_sensors k.1.sensed k.0 k.1.senses k.1.performs)
    by_row (Some fault) w e k = cc

-- a machine's own turn keeps what holds of its side, and sets its actuators so that a tick keeps it too
pub takes_keeps : {S Sense Reading Act State : Type 0} → (t : Steps S Sense Reading Act) (rig : Rig State Sense Act) (Inv Told : ModelState → S → State → Type 0) → Keeping t rig Inv Told
    → (busy : Bool) (z y : ModelState) (side set : Side S State) (asked : TurnCall) → Takes t rig busy z side asked y set → side.stopped ≡ None → IsSound z → Inv z side.progress side.part → Told y set.progress set.part
takes_keeps t rig Inv Told keeps busy z y side set asked k runs sound i =
    subst (λ x. Told y x.progress x.part) (sym k.is) (by_row t rig Inv Told keeps busy z y asked side.progress side.part i k.sense k.shows sound side.stopped k.turned runs k.row)

-- a turn asks at most once, so the interlock stays or changes by a call of that machine
abbrev pub Changes : ModelState → Machine → ModelState → Type 0
Changes z m y = ((c : Call) × (y ≡ next z m c)) ⊎ (y ≡ z)

by_answer : (z : ModelState) (m : Machine) (busy : Bool) (c : Call) (r : Result Reply LineFault) (y : ModelState) → Answers z m busy c r y → Changes z m y
by_answer z m busy c (Ok (Settled a stamp)) y k = inl (c, k.3)
by_answer z m busy c (Ok (Busy lost stamp)) y k = inr k.3
by_answer z m busy c (Err fault) y k = inr k.1

pub takes_changes : {S Sense Reading Act State : Type 0} → (t : Steps S Sense Reading Act) (rig : Rig State Sense Act) (busy : Bool) (z y : ModelState) (side set : Side S State) (asked : TurnCall)
    → Takes t rig busy z side asked y set → Changes z t.machine y
takes_changes t rig busy z y side set asked k =
    turn_either t (AsksNothing z asked y) (AsksOnce z t.machine busy asked y) (Changes z t.machine y) (λ h. inr h.0) (λ c r h. by_answer z t.machine busy c r y h.0) side.stopped side.progress k.sense k.turned k.row

-- another machine's turn keeps it too
pub by_call : (P : ModelState → Type 0) (z : ModelState) (m : Machine) (y : ModelState) → Changes z m y → P z → ((c : Call) → P (next z m c)) → P y
by_call P z m y (inl k) here called = subst P (sym k.1) (called k.0)
by_call P z m y (inr e) here called = subst P (sym e) here

pub others_keep : {S Sense Reading Act State : Type 0} → (t : Steps S Sense Reading Act) (rig : Rig State Sense Act) (Inv Told : ModelState → S → State → Type 0) → Keeping t rig Inv Told
    → (z y : ModelState) (m : Machine) (p : S) (b : State) → same_machine m t.machine ≡ false → Changes z m y → IsSound z → Inv z p b → Inv y p b
others_keep t rig Inv Told keeps z y m p b apart by sound i = by_call (λ x. Inv x p b) z m y by i (λ c. keeps.foreign z p b m c apart sound i)

-- the actuators' commands in a turn are those of a step that asks or of a step that drives
module _ {S Sense Reading Act : Type 0} (t : Steps S Sense Reading Act) (same : Type 0) (asks : Call → Result Reply LineFault → Type 0) (p : S) (s : Sense) (Q : Act → Type 0) (rests : Q (t.rest p))
    (drives : (reading : Reading) (act : Act) → (t.row p).call ≡ None → t.senses s (Ok reading) → t.drives p reading act → Q act) where
  at_rest_is : (r : Result S CtlFault) → Q (act_or_rest (t.rest p) (turned p (at_rest (t.rest p) r)).result)
  at_rest_is (Ok q) = rests
  at_rest_is (Err f) = rests

  told_by_step : (o : Option Call) (reading : Reading) (r : Performed S Act) → (t.row p).call ≡ o → t.senses s (Ok reading) → PerformsCall t o same asks p reading r → Q (act_or_rest (t.rest p) (turned p r).result)
  told_by_step None reading r e senses k = subst (λ x. Q (act_or_rest (t.rest p) (turned p x).result)) (sym k.1.2) (drives reading k.1.0 e senses k.1.1)
  told_by_step (Some c) reading r e senses k = subst (λ x. Q (act_or_rest (t.rest p) (turned p x).result)) (sym k.2) (at_rest_is (step_after_reply t p k.0))

  told_by_sensors : (sensed : Result Reading SensorFault) (r : Performed S Act) → t.senses s sensed → PerformsSensed t sensed same asks p r → Q (act_or_rest (t.rest p) (turned p r).result)
  told_by_sensors (Err fault) r senses k = subst (λ x. Q (act_or_rest (t.rest p) (turned p x).result)) (sym k.1) rests
  told_by_sensors (Ok reading) r senses k = told_by_step (t.row p).call reading r refl senses k

  -- also if the controller had stopped before
  pub turn_tells : (stopped : Option CtlFault) (w : Turned S Act) → Turns t same asks stopped p s w → Q (act_or_rest (t.rest p) w.result)
  turn_tells None w k = subst (λ x. Q (act_or_rest (t.rest p) x.result)) (sym k.2) (told_by_sensors k.1.sensed k.0 k.1.senses k.1.performs)
  turn_tells (Some fault) w k = subst (λ x. Q (act_or_rest (t.rest p) x.result)) (sym k.1) rests
