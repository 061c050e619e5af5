-- Cycles of a worker with devices of your own, whichever its program.
use Rattle.std.proofs.Common.{◌≡◌, ℕ, ◌+◌, true, inl, inr, Option, Some, None, Result, Ok, Err, sym, ap, subst, arith, ◌∙◌}
use Rattle.std.specs.Prelude.{◌⊎◌, IsSomeAnd, ⊤}
use Rattle.cell_rules.specs.Types.{Call, Reply}
use Rattle.cell_rules.specs.declared.heard.LineFault.{LineFault}
use Rattle.cell_sensors.specs.declared.sense.SensorFault.{SensorFault}
use Rattle.cell_interlock.specs.Lines.{PassAsks}
use Rattle.cell_control.specs.Names.{Performed, PerformsCall, PerformsSensed, Steps, Turned, Turns, answered, turned}
use Rattle.cell_control.specs.declared.fault.CtlFault.{CtlFault}
use Rattle.cell_control.specs.declared.fault.CtlFault.TheVariants.{Sensor}
use Rattle.cell_control.specs.declared.commands.Commands.{Commands}
use Rattle.cell_threads.specs.Workers.{GateOf}
use Rattle.cell_renewal.specs.WiredCycles.{WiredCycles}
use Rattle.cell_renewal.specs.WiredWorkers.{TakesCycle, TakesWiredTurn, WiredMoment}

-- what a performed step has done with the line
nothing_asked : {S Sense Reading Act : Type 0} (t : Steps S Sense Reading Act) (same : Type 0) (asks : Call → Result Reply LineFault → Type 0) (p : S) (sensed : Result Reading SensorFault) (r : Performed S Act)
    → (t.row p).call ≡ None → PerformsSensed t sensed same asks p r → same
nothing_asked t same asks p (Err fault) r none k = k.0
nothing_asked t same asks p (Ok reading) r none k = (subst (λ call. PerformsCall t call same asks p reading r) none k).0

asked_once : {S Sense Reading Act : Type 0} (t : Steps S Sense Reading Act) (same : Type 0) (asks : Call → Result Reply LineFault → Type 0) (p : S) (sensed : Result Reading SensorFault) (r : Performed S Act) (call : Call)
    → (t.row p).call ≡ Some call → PerformsSensed t sensed same asks p r → same ⊎ ((x : Result Reply LineFault) × asks call x)
asked_once t same asks p (Err fault) r call some k = inl k.0
asked_once t same asks p (Ok reading) r call some k =
    let asked = subst (λ c. PerformsCall t c same asks p reading r) some k in
    inr (asked.0, asked.1)

-- what a turn leaves is what stopped it
fault_left : {S Act : Type 0} (p : S) (act : Act) (told : Option CtlFault) (r : Performed S Act) (progress : S) (stopped : Option CtlFault)
    → record { result = answered act told; progress = progress; stopped = stopped } ≡ turned p r → stopped ≡ told
fault_left {S = S} {Act = Act} p act None (Ok led) progress stopped e = ap (λ (w : Turned S Act). w.stopped) e
fault_left {S = S} {Act = Act} p act None (Err fault) progress stopped e = let lie : Ok act ≡ Err fault = ap (λ (w : Turned S Act). w.result) e in cc
fault_left {S = S} {Act = Act} p act (Some f) (Ok led) progress stopped e = let lie : Err f ≡ Ok led.1 = ap (λ (w : Turned S Act). w.result) e in cc
fault_left {S = S} {Act = Act} p act (Some f) (Err fault) progress stopped e =
    let same : Err f ≡ Err fault = ap (λ (w : Turned S Act). w.result) e in
    let left : stopped ≡ Some fault = ap (λ (w : Turned S Act). w.stopped) e in
    cc

module _ {S Sense Reading Act D : Type 0} (t : Steps S Sense Reading Act) (shows : D → Option Sense → D → Type 0) (sets : D → Commands Act → D → Type 0) (gate : GateOf) (tries : ℕ) (before now : WiredMoment S D) where
  abbrev Cycle : Type 0
  Cycle = TakesCycle tries t shows sets gate before now

  abbrev Turn : Type 0
  Turn = TakesWiredTurn tries t shows sets gate before now

  -- what a turn has left, as it was taken by a machine that runs
  abbrev left : Turn → Turned S Act
  left k = record { result = answered k.told.act k.told.fault; progress = now.progress; stopped = now.stopped }

  row_of : (k : Turn) → Turns t (now.pass ≡ before.pass) (λ c r. PassAsks tries before.pass c r now.pass) None before.progress k.sense (left k)
  row_of k = subst (λ o. Turns t (now.pass ≡ before.pass) (λ c r. PassAsks tries before.pass c r now.pass) o before.progress k.sense (left k)) k.runs k.row

  stopped : (fault : CtlFault) → before.stopped ≡ Some fault → ¬ Cycle
  stopped fault e (inl k) = let lie : None ≡ Some fault = sym k.runs ∙ e in cc
  stopped fault e (inr k) = let lie : None ≡ Some fault = sym k.running ∙ e in cc

  kept_out : ¬ gate (before.turns + before.missed) true → ¬ Cycle
  kept_out shut (inl k) = shut k.let_in
  kept_out shut (inr k) = shut k.begun

  counted : Cycle → now.turns + now.missed ≡ before.turns + before.missed + 1
  counted (inl k) = let turns = k.counted in let missed = k.as_many_missed in omega (arith, turns, missed)
  counted (inr k) =
      let turns : now.turns ≡ before.turns = ap (λ (m : WiredMoment S D). m.turns) k.is in
      let missed : now.missed ≡ before.missed + 1 = ap (λ (m : WiredMoment S D). m.missed) k.is in
      omega (arith, turns, missed)

  unread : Cycle → ((s : Option Sense) (d : D) → shows before.devices s d → s ≡ None)
      → ((d : D) × sets d (record { act = t.rest before.progress; fault = None }) now.devices) × (now.stopped ≡ None) × (now.progress ≡ before.progress) × (now.pass ≡ before.pass) × (now.turns ≡ before.turns)
  unread (inl k) only = let lie : Some k.sense ≡ None = only (Some k.sense) k.read k.shown in cc
  unread (inr k) only = (
    (k.read, k.set),
    ap (λ (m : WiredMoment S D). m.stopped) k.is ∙ k.running,
    ap (λ (m : WiredMoment S D). m.progress) k.is,
    ap (λ (m : WiredMoment S D). m.pass) k.is,
    ap (λ (m : WiredMoment S D). m.turns) k.is,
  )

  read : Cycle → ((s : Option Sense) (d : D) → shows before.devices s d → IsSomeAnd s (λ sense. ⊤)) → (now.turns ≡ before.turns + 1) × (now.missed ≡ before.missed)
  read (inl k) only = (k.counted, k.as_many_missed)
  read (inr k) only = absurd (only None k.read k.shown)

  unusable : (fault : SensorFault) → Turn → ((s : Sense) (said : Result Reading SensorFault) → t.senses s said → said ≡ Err fault)
      → (now.stopped ≡ Some (Sensor fault)) × (now.progress ≡ before.progress) × (now.pass ≡ before.pass)
  unusable fault k only =
      let row = row_of k in
      let performs : PerformsSensed t (Err fault) (now.pass ≡ before.pass) (λ c r. PassAsks tries before.pass c r now.pass) before.progress row.0 =
      subst (λ sensed. PerformsSensed t sensed (now.pass ≡ before.pass) (λ c r. PassAsks tries before.pass c r now.pass) before.progress row.0) (only k.sense row.1.sensed row.1.senses) row.1.performs in
      let all = row.2 ∙ ap (turned before.progress) performs.1 in
      (ap (λ (w : Turned S Act). w.stopped) all, ap (λ (w : Turned S Act). w.progress) all, performs.0)

  asks_nothing : Cycle → (t.row before.progress).call ≡ None → now.pass ≡ before.pass
  asks_nothing (inl k) none =
      let row = row_of k in
      nothing_asked t (now.pass ≡ before.pass) (λ c r. PassAsks tries before.pass c r now.pass) before.progress row.1.sensed row.0 none row.1.performs
  asks_nothing (inr k) none = ap (λ (m : WiredMoment S D). m.pass) k.is

  asks_once : (call : Call) → Cycle → (t.row before.progress).call ≡ Some call → (now.pass ≡ before.pass) ⊎ ((r : Result Reply LineFault) × PassAsks tries before.pass call r now.pass)
  asks_once call (inl k) some =
      let row = row_of k in
      asked_once t (now.pass ≡ before.pass) (λ c r. PassAsks tries before.pass c r now.pass) before.progress row.1.sensed row.0 call some row.1.performs
  asks_once call (inr k) some = inl (ap (λ (m : WiredMoment S D). m.pass) k.is)

  stopped_by : (k : Turn) → now.stopped ≡ k.told.fault
  stopped_by k = let row = row_of k in fault_left before.progress k.told.act k.told.fault row.0 now.progress now.stopped row.2

pub wired-cycles : {S Sense Reading Act D : Type 0} (t : Steps S Sense Reading Act) (shows : D → Option Sense → D → Type 0) (sets : D → Commands Act → D → Type 0) (gate : GateOf) → WiredCycles t shows sets gate
wired-cycles t shows sets gate = record {
  stopped = λ tries before now fault e. stopped t shows sets gate tries before now fault e;
  kept_out = λ tries before now shut. kept_out t shows sets gate tries before now shut;
  counted = λ tries before now k. counted t shows sets gate tries before now k;
  unread = λ tries before now k only. unread t shows sets gate tries before now k only;
  read = λ tries before now k only. read t shows sets gate tries before now k only;
  unusable = λ tries before now fault k only. unusable t shows sets gate tries before now fault k only;
  asks_nothing = λ tries before now k none. asks_nothing t shows sets gate tries before now k none;
  asks_once = λ tries before now call k some. asks_once t shows sets gate tries before now call k some;
  meets_demands = λ tries before now turn fine. turn.motor_demands fine;
  rests = λ tries before now turn faulty. turn.rest faulty;
  is_set = λ tries before now turn. turn.set;
  is_stopped_by = λ tries before now turn. stopped_by t shows sets gate tries before now turn;
}
