-- Cycles of a press with devices of your own.
use Rattle.cell_renewal.proofs.Names.{◌≡◌, ◌≢◌, ℕ, ◌+◌, Bool, true, false, inl, inr, Option, Some, None, Result, Err, refl, sym, ap, subst, ◌∙◌, IsSomeAnd, Press, Call, Reply, Z3, SensorFault, Holds, PressMoves, LineFault, PassAsks, PerformsSensed, Turned, Turns, turned, answered, CtlFault, Commands, press_steps, checked, PressProgress, GateOf, WiredMoment, TakesCycle, WiredPressTurns, told_clash, told_unread}
use Rattle.cell_sensors.specs.declared.sense.PressSense.{PressSense}
use Rattle.cell_sensors.specs.declared.sense.SensorFault.TheVariants.{Clash}
use Rattle.cell_control.specs.declared.fault.CtlFault.TheVariants.{Sensor}
use Rattle.cell_devices.specs.declared.act.PressAct.{PressAct}
use Rattle.cell_devices.specs.declared.motor.Motor.TheVariants.{Off}

clash_by : (middle : Bool) → checked (record { bottom = true; middle = middle; top = true }) ≡ Err Clash
clash_by true = refl
clash_by false = refl

clashes_so : (s : PressSense) → s.bottom ≡ true → s.top ≡ true → checked s ≡ Err Clash
clashes_so s bottom top = (λ i. checked (record { bottom = bottom i; middle = s.middle; top = top i })) ∙ clash_by s.middle

-- a fault that a turn answers is told
told_fault : {Act : Type 0} → (act : Act) (told : Option CtlFault) (fault : CtlFault) → answered act told ≡ Err fault → told ≡ Some fault
told_fault act None fault e = cc
told_fault act (Some other) fault e = let same : other ≡ fault = cc in ap (λ f. Some f) same

-- a turn by sensors that can't be used: nothing is asked
stops_by_sensors : (same : Type 0) (asks : Call → Result Reply LineFault → Type 0) (fault : SensorFault) (p : PressProgress) (s : PressSense) (w : Turned PressProgress PressAct)
    → checked s ≡ Err fault → Turns press_steps same asks None p s w → same × (w ≡ turned p (Err (Sensor fault)))
stops_by_sensors same asks fault p s w e k =
    let performs : PerformsSensed press_steps (Err fault) same asks p k.0 = subst (λ sensed. PerformsSensed press_steps sensed same asks p k.0) (k.1.senses ∙ e) k.1.performs in
    (performs.0, k.2 ∙ ap (turned p) performs.1)

-- a motor that is on is told so in a turn without a fault
drives_so : (told : Commands PressAct) (fault : Option CtlFault) (P : Type 0) → (fault ≡ None → told.act.press ≢ Off → P) → (fault ≢ None → told.act ≡ record { press = Off }) → told.act.press ≢ Off → P
drives_so told None P f rest on = f refl on
drives_so told (Some fault) P f rest on = absurd (on (ap (λ (a : PressAct). a.press) (rest (λ e. cc))))

module _ {D : Type 0} (shows : D → Option PressSense → D → Type 0) (sets : D → Commands PressAct → D → Type 0) (gate : GateOf) where
  abbrev Cycle : ℕ → WiredMoment PressProgress D → WiredMoment PressProgress D → Type 0
  Cycle tries = TakesCycle tries press_steps shows sets gate

  stopped : (tries : ℕ) (before now : WiredMoment PressProgress D) (fault : CtlFault) → before.stopped ≡ Some fault → Cycle tries before now → ⊥
  stopped tries before now fault e (inl k) = let lie : None ≡ Some fault = sym k.runs ∙ e in cc
  stopped tries before now fault e (inr k) = let lie : None ≡ Some fault = sym k.running ∙ e in cc

  kept_out : (tries : ℕ) (before now : WiredMoment PressProgress D) → (gate (before.turns + before.missed) true → ⊥) → Cycle tries before now → ⊥
  kept_out tries before now shut (inl k) = shut k.let_in
  kept_out tries before now shut (inr k) = shut k.begun

  clash : (tries : ℕ) (before now : WiredMoment PressProgress D) → Cycle tries before now
      → ((s : Option PressSense) (d : D) → shows before.devices s d → IsSomeAnd s (λ p. (p.bottom ≡ true) × (p.top ≡ true)))
      → ((d : D) × sets d told_clash now.devices) × (now.stopped ≡ Some (Sensor Clash)) × (now.pass ≡ before.pass)
  clash tries before now (inr k) only = absurd (only None k.read k.shown)
  clash tries before now (inl k) only =
      let on = only (Some k.sense) k.read k.shown in
      let w : Turned PressProgress PressAct = record { result = answered k.told.act k.told.fault; progress = now.progress; stopped = now.stopped } in
      let row : Turns press_steps (now.pass ≡ before.pass) (λ c r. PassAsks tries before.pass c r now.pass) None before.progress k.sense w =
      subst (λ o. Turns press_steps (now.pass ≡ before.pass) (λ c r. PassAsks tries before.pass c r now.pass) o before.progress k.sense w) k.runs k.row in
      let stops = stops_by_sensors (now.pass ≡ before.pass) (λ c r. PassAsks tries before.pass c r now.pass) Clash before.progress k.sense w (clashes_so k.sense on.0 on.1) row in
      let fault : k.told.fault ≡ Some (Sensor Clash) = told_fault k.told.act k.told.fault (Sensor Clash) (ap (λ (x : Turned PressProgress PressAct). x.result) stops.1) in
      let act : k.told.act ≡ record { press = Off } = k.rest (λ none. let lie : None ≡ Some (Sensor Clash) = sym none ∙ fault in cc) in
      let told : k.told ≡ told_clash = λ i. record { act = act i; fault = fault i } in
      ((k.read, subst (λ t. sets k.read t now.devices) told k.set), ap (λ (x : Turned PressProgress PressAct). x.stopped) stops.1, stops.0)

  unread : (tries : ℕ) (before now : WiredMoment PressProgress D) → Cycle tries before now → ((s : Option PressSense) (d : D) → shows before.devices s d → s ≡ None)
      → ((d : D) × sets d told_unread now.devices) × (now.stopped ≡ None) × (now.progress ≡ before.progress) × (now.pass ≡ before.pass) × (now.turns ≡ before.turns)
  unread tries before now (inl k) only = let lie : Some k.sense ≡ None = only (Some k.sense) k.read k.shown in cc
  unread tries before now (inr k) only = (
    (k.read, k.set),
    ap (λ (m : WiredMoment PressProgress D). m.stopped) k.is ∙ k.running,
    ap (λ (m : WiredMoment PressProgress D). m.progress) k.is,
    ap (λ (m : WiredMoment PressProgress D). m.pass) k.is,
    ap (λ (m : WiredMoment PressProgress D). m.turns) k.is,
  )

  pub press_turns : WiredPressTurns shows sets gate
  press_turns =
      record {
        stopped = stopped;
        kept_out = kept_out;
        clash = clash;
        unread = unread;
        drives = λ tries before now k. drives_so k.told k.told.fault (Holds now.pass.opening now.pass.seen Press Z3 × PressMoves now.pass.opening now.pass.seen) (λ none on. k.motor_demands none on) k.rest;
      }
