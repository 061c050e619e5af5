-- How a worker with devices of your own ends.
use Rattle.cell_renewal.proofs.Names.{◌≡◌, ◌≢◌, ◌<◌, ◌+◌, ◌⊎◌, inl, inr, ⊎_elim, ℕ, true, false, List, [], ◌∷◌, Option, Some, None, Result, Ok, Err, refl, sym, ap, subst, ◌∙◌, below_more, arith, Call, Reply, LineFault, PassView, Steps, Performed, Turned, Turns, turned, answered, CtlFault, Commands, Status, Fine, GateLimit, Sensor, Refused, Worn, Memory, GateOf, AreTaken, Ends, last_of, all_along, WiredMoment, TakesWiredTurn, TakesCycle, IsWiredResult, wired_moment, AreToldToRest, WiredWorkerEnds}
use Rattle.cell_control.specs.declared.fault.CtlFault.TheVariants as cause
use Rattle.cell_unit.specs.Statuses.{status_of}

-- no turn was taken, or there is a last one
pub last_turn : {M : Type 0} → (Turn : M → M → Type 0) (first : M) (turns : List M) → AreTaken Turn first turns → (last_of first turns ≡ first) ⊎ ((before : M) × Turn before (last_of first turns))
last_turn Turn first [] k = inl refl
last_turn Turn first (now ∷ later) k =
    ⊎_elim (λ e. inr (first, subst (λ m. Turn first m) (sym e) k.0)) (λ t. inr t) (last_turn Turn now later k.1)

-- a fault's status is neither fine nor that of a gate
of_fault : (fault : CtlFault) (s : Status) → s ≡ status_of (Some fault) → (s ≢ Fine) × (s ≢ GateLimit)
of_fault (cause.Sensor why) s e = (λ f. let lie : Sensor ≡ Fine = sym e ∙ f in cc, λ f. let lie : Sensor ≡ GateLimit = sym e ∙ f in cc)
of_fault (cause.Refused why) s e = (λ f. let lie : Refused ≡ Fine = sym e ∙ f in cc, λ f. let lie : Refused ≡ GateLimit = sym e ∙ f in cc)
of_fault cause.Worn s e = (λ f. let lie : Worn ≡ Fine = sym e ∙ f in cc, λ f. let lie : Worn ≡ GateLimit = sym e ∙ f in cc)
of_fault cause.Memory s e = (λ f. let lie : Memory ≡ Fine = sym e ∙ f in cc, λ f. let lie : Memory ≡ GateLimit = sym e ∙ f in cc)
of_fault cause.Stopped s e = (λ f. let lie : Refused ≡ Fine = sym e ∙ f in cc, λ f. let lie : Refused ≡ GateLimit = sym e ∙ f in cc)

module _ {S Act : Type 0} (p : S) (act : Act) (told : Option CtlFault) (q : S) (stopped : Option CtlFault) where
  abbrev Led : Performed S Act → Type 0
  Led r = record { result = answered act told; progress = q; stopped = stopped } ≡ turned p r

  -- a turn that stops its machine tells the fault
  told_so : (r : Performed S Act) → Led r → told ≡ None → stopped ≡ None
  told_so (Ok led) e none = ap (λ (w : Turned S Act). w.stopped) e
  told_so (Err fault) e none =
      let lie : Ok act ≡ Err fault = sym (ap (answered act) none) ∙ ap (λ (w : Turned S Act). w.result) e in cc

module _ {S Sense Reading Act D : Type 0} (tries : ℕ) (t : Steps S Sense Reading Act) (shows : D → Option Sense → D → Type 0) (sets : D → Commands Act → D → Type 0) (gate : GateOf) where
  abbrev Turn : WiredMoment S D → WiredMoment S D → Type 0
  Turn = TakesWiredTurn tries t shows sets gate

  tells_fault : (same : Type 0) (asks : Call → Result Reply LineFault → Type 0) (before : Option CtlFault) (p : S) (s : Sense) (act : Act) (told : Option CtlFault) (q : S) (stopped : Option CtlFault) → before ≡ None
      → Turns t same asks before p s (record { result = answered act told; progress = q; stopped = stopped }) → told ≡ None → stopped ≡ None
  tells_fault same asks None p s act told q stopped runs k none = told_so p act told q stopped k.0 k.2 none
  tells_fault same asks (Some fault) p s act told q stopped runs k none = cc

  -- what the devices are told in the turn that stops their machine
  rests_at : (before now : WiredMoment S D) → Turn before now → now.stopped ≢ None → AreToldToRest t sets now.devices
  rests_at before now k stops =
      let told_fault : k.told.fault ≢ None = λ none. stops (tells_fault _ _ before.stopped before.progress k.sense k.told.act k.told.fault now.progress now.stopped k.runs k.row none) in
      record { progress = before.progress; before = k.read; told = k.told; set = k.set; is_fault = told_fault; rest = k.rest told_fault }

  -- what they are told in the last cycle
  abbrev Cycle : WiredMoment S D → WiredMoment S D → Type 0
  Cycle = TakesCycle tries t shows sets gate

  rests_after : (before now : WiredMoment S D) → Cycle before now → now.stopped ≢ None → AreToldToRest t sets now.devices
  rests_after before now (inl turn) stops = rests_at before now turn stops
  rests_after before now (inr rest) stops = absurd (stops (ap (λ (m : WiredMoment S D). m.stopped) rest.is ∙ rest.running))

  -- the gate let each cycle in
  abbrev cycles : WiredMoment S D → ℕ
  cycles m = m.turns + m.missed

  abbrev LetIn : WiredMoment S D → Type 0
  LetIn m = (cycle : ℕ) → cycle < cycles m → gate cycle true

  one_more : (before now : WiredMoment S D) → cycles now ≡ cycles before + 1 → gate (cycles before) true → LetIn before → LetIn now
  one_more before now e let_in old = subst (λ n. (cycle : ℕ) → cycle < n → gate cycle true) (sym e) (below_more (λ cycle. gate cycle true) (cycles before) old let_in)

  cycle_more : (before now : WiredMoment S D) → Cycle before now → LetIn before → LetIn now
  cycle_more before now (inl turn) old = one_more before now (omega (arith, turn.counted, turn.as_many_missed)) turn.let_in old
  cycle_more before now (inr rest) old =
      let more : cycles now ≡ before.turns + (before.missed + 1) = ap cycles rest.is in
      one_more before now (omega (arith, more)) rest.begun old

  ends_so : (limit : ℕ) (stopped : Option CtlFault) (turns : ℕ) (s : Status) (devices : D) → Ends gate limit stopped turns s → ((turn : ℕ) → turn < turns → gate turn true) → (stopped ≢ None → AreToldToRest t sets devices)
      → WiredWorkerEnds t sets gate limit turns s devices
  ends_so limit None turns s devices k let_in rests =
      ⊎_elim
      (λ (all : (s ≡ Fine) × (turns ≡ limit)). record {
        within = omega (arith, all.1);
        let_in = let_in;
        fine = λ e. all.1;
        kept_out = λ e. let lie : Fine ≡ GateLimit = sym all.0 ∙ e in cc;
        rests = λ f g. absurd (f all.0);
      })
      (λ (shut : (s ≡ GateLimit) × (turns < limit) × gate turns false). record {
        within = omega (arith, shut.1);
        let_in = let_in;
        fine = λ e. let lie : GateLimit ≡ Fine = sym shut.0 ∙ e in cc;
        kept_out = λ e. (shut.1, shut.2);
        rests = λ f g. absurd (g shut.0);
      })
      k
  ends_so limit (Some fault) turns s devices k let_in rests =
      let of = of_fault fault s k.0 in
      record {
        within = k.1;
        let_in = let_in;
        fine = λ e. absurd (of.0 e);
        kept_out = λ e. absurd (of.1 e);
        rests = λ f g. rests (λ e. cc);
      }

  pub ended : (limit : ℕ) (pass kept : PassView) (p : S) (first devices : D) (turns missed : ℕ) (s : Status) → IsWiredResult tries t shows sets gate limit (wired_moment pass p None first 0 0) kept turns missed s devices → WiredWorkerEnds t sets gate limit (turns + missed) s devices
  ended limit pass kept p first devices turns missed s k =
      let begun : WiredMoment S D = wired_moment pass p None first 0 0 in
      let now : WiredMoment S D = wired_moment kept k.progress k.stopped devices turns missed in
      let last : last_of begun k.come.turns ≡ now = k.come.last in
      ends_so limit k.stopped (turns + missed) s devices k.ends
      (all_along Cycle LetIn cycle_more begun now k.come (λ n low. absurd (omega arith)))
      (λ stops. ⊎_elim
      (λ (none : last_of begun k.come.turns ≡ begun). absurd (stops (ap (λ (m : WiredMoment S D). m.stopped) (sym last ∙ none))))
      (λ (cycle : (before : WiredMoment S D) × Cycle before (last_of begun k.come.turns)).
      subst (λ (m : WiredMoment S D). AreToldToRest t sets m.devices) last
      (rests_after cycle.0 (last_of begun k.come.turns) cycle.1 (λ none. stops (ap (λ (m : WiredMoment S D). m.stopped) (sym last) ∙ none))))
      (last_turn Cycle begun k.come.turns k.come.taken))
