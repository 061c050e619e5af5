-- A worker's first turns. With no turns left, or a shut gate, there is none; the first turn is given by the call of its
-- step.
use Rattle.cell_threads.proofs.Names.{◌≡◌, ◌≢◌, ℕ, ◌+◌, ◌*◌, ◌<◌, ◌≤◌, true, false, ◌⊎◌, inl, inr, List, [], ◌∷◌, ◌++◌, map, Option, Some, None, Result, Ok, Err, refl, sym, ap, subst, ◌∙◌, arith, below_more, Machine, Call, Refusal, Done, Shown, Refused, Event, Entry, Reply, Settled, Busy, SensorFault, ModelState, one_if, own_events, noted, event_by, event, LineFault, PassView, PassAsks, Rig, Steps, Performed, PerformsCall, PerformsSensed, Turned, Turns, CtlFault, turn_either, TurnCall}
use Rattle.cell_threads.proofs.Names.{came_back, is_busy_reply, counts_with, Counts, Status, Fine, GateLimit, status_of, passes, GateOf, WorkerMoment, TakesTurn, AreTaken, HasCome, HasEnded, Ends, last_of, answers_in, HasAtMost, HasStatusBy}
use Rattle.std.proofs.Math.Nat.{add-mul}
use Rattle.std.specs.Prelude.{⊤}
use Rattle.cell_rules.proofs.lemmas.Notes.{events_of_noted}
use Rattle.cell_control.specs.declared.fault.CtlFault.TheVariants as fault
use Rattle.cell_notes.specs.declared.status.Status.TheVariants as status
use Rattle.cell_threads.proofs.lemmas.Passes.{by_turn}
use Rattle.cell_threads.proofs.lemmas.Turning.{all_along}

-- ---- how a worker ends

module _ (gate : GateOf) (limit : ℕ) where
  pub within : (stopped : Option CtlFault) (turns : ℕ) (s : Status) → Ends gate limit stopped turns s → turns ≤ limit
  within None turns s (inl h) = omega (arith, h.1)
  within None turns s (inr h) = omega (arith, h.1)
  within (Some fault) turns s h = h.1

  -- the status of a stopped machine is neither
  stopped_so : (P : Type 0) (f : CtlFault) (s : Status) → s ≡ status_of (Some f) → (s ≡ Fine) ⊎ (s ≡ GateLimit) → P
  stopped_so P (fault.Sensor x) s e (inl h) = cc
  stopped_so P (fault.Sensor x) s e (inr h) = cc
  stopped_so P (fault.Refused x) s e (inl h) = cc
  stopped_so P (fault.Refused x) s e (inr h) = cc
  stopped_so P fault.Worn s e (inl h) = cc
  stopped_so P fault.Worn s e (inr h) = cc
  stopped_so P fault.Memory s e (inl h) = cc
  stopped_so P fault.Memory s e (inr h) = cc
  stopped_so P fault.Stopped s e (inl h) = cc
  stopped_so P fault.Stopped s e (inr h) = cc

  pub ends_fine : (stopped : Option CtlFault) (turns : ℕ) (s : Status) → Ends gate limit stopped turns s → s ≡ Fine → turns ≡ limit
  ends_fine None turns s (inl h) e = h.1
  ends_fine None turns s (inr h) e = let lie : Fine ≡ GateLimit = sym e ∙ h.0 in cc
  ends_fine (Some f) turns s h e = stopped_so (turns ≡ limit) f s h.0 (inl e)

  pub ends_kept_out : (stopped : Option CtlFault) (turns : ℕ) (s : Status) → Ends gate limit stopped turns s → s ≡ GateLimit → (turns < limit) × gate turns false
  ends_kept_out None turns s (inl h) e = let lie : Fine ≡ GateLimit = sym h.0 ∙ e in cc
  ends_kept_out None turns s (inr h) e = (h.1, h.2)
  ends_kept_out (Some f) turns s h e = stopped_so ((turns < limit) × gate turns false) f s h.0 (inr e)

  pub has_status_by : (stopped : Option CtlFault) (turns : ℕ) (s : Status) → Ends gate limit stopped turns s → HasStatusBy stopped s
  has_status_by None turns s (inl h) = inl h.0
  has_status_by None turns s (inr h) = inr h.0
  has_status_by (Some (fault.Sensor x)) turns s h = h.0
  has_status_by (Some (fault.Refused x)) turns s h = h.0
  has_status_by (Some fault.Worn) turns s h = h.0
  has_status_by (Some fault.Memory) turns s h = h.0
  has_status_by (Some fault.Stopped) turns s h = h.0

-- the status of a worker that has taken no turn: fine if no turn was allowed, kept out otherwise
pub fine_at_once : (gate : GateOf) (s : Status) → Ends gate 0 None 0 s → s ≡ Fine
fine_at_once gate s (inl h) = h.0
fine_at_once gate s (inr h) = absurd (omega (arith, h.1))

pub shut_at_once : (gate : GateOf) (s : Status) → Ends gate 5 None 0 s → s ≡ GateLimit
shut_at_once gate s (inl h) = absurd (omega (arith, h.1))
shut_at_once gate s (inr h) = h.0

-- a worker ends as refused only if a refusal has stopped its machine
pub ended : (gate : GateOf) (limit turns : ℕ) (stopped : Option CtlFault) (s : Status) → Ends gate limit stopped turns s → ((r : Refusal) → stopped ≡ Some (fault.Refused r) → ⊥) → stopped ≢ Some fault.Stopped → s ≢ status.Refused
ended gate limit turns None s (inl h) not again e = let lie : status.Fine ≡ status.Refused = sym h.0 ∙ e in cc
ended gate limit turns None s (inr h) not again e = let lie : status.GateLimit ≡ status.Refused = sym h.0 ∙ e in cc
ended gate limit turns (Some (fault.Refused r)) s h not again e = not r refl
ended gate limit turns (Some fault.Stopped) s h not again e = again refl
ended gate limit turns (Some (fault.Sensor x)) s h not again e = let lie : status.Sensor ≡ status.Refused = sym h.0 ∙ e in cc
ended gate limit turns (Some fault.Worn) s h not again e = let lie : status.Worn ≡ status.Refused = sym h.0 ∙ e in cc
ended gate limit turns (Some fault.Memory) s h not again e = let lie : status.Memory ≡ status.Refused = sym h.0 ∙ e in cc

-- ---- the reply of a turn

one_answer : (c : Counts) (asked : TurnCall) → answers_in c ≤ c.turns → answers_in (counts_with c asked) ≤ c.turns + 1
one_answer c None k = omega (arith, k)
one_answer c (Some (call, Ok (Settled Done stamp))) k = omega (arith, k)
one_answer c (Some (call, Ok (Settled (Shown owner flag posture) stamp))) k = omega (arith, k)
one_answer c (Some (call, Ok (Settled (Refused refusal) stamp))) k = omega (arith, k)
one_answer c (Some (call, Ok (Busy lost stamp))) k = omega (arith, k)
one_answer c (Some (call, Err fault)) k = omega (arith, k)

-- ---- a turn, by the call of its step

module _ {S Sense Reading Act : Type 0} (t : Steps S Sense Reading Act) (same : Type 0) (asks : Call → Result Reply LineFault → Type 0) (P : Type 0) (o : Option Call) (f : same → P) (g : (c : Call) (r : Result Reply LineFault) → o ≡ Some c → asks c r → P) where
  by_call : (call : Option Call) → call ≡ o → (p : S) (reading : Reading) (r : Performed S Act) → PerformsCall t call same asks p reading r → P
  by_call None e p reading r h = f h.0
  by_call (Some c) e p reading r h = g c h.0 (sym e) h.1

  by_sensed : (sensed : Result Reading SensorFault) (p : S) → (t.row p).call ≡ o → (r : Performed S Act) → PerformsSensed t sensed same asks p r → P
  by_sensed (Err fault) p e r h = f h.0
  by_sensed (Ok reading) p e r h = by_call (t.row p).call e p reading r h

  pub by_step : (stopped : Option CtlFault) (p : S) → (t.row p).call ≡ o → (s : Sense) (w : Turned S Act) → Turns t same asks stopped p s w → P
  by_step (Some fault) p e s w h = f h.0
  by_step None p e s w h = by_sensed h.1.sensed p e h.0 h.1.performs

-- the reply to a call, and how many exchanges it lost
abbrev answered : Result Reply LineFault → TurnCall → Result Reply LineFault
answered r None = r
answered r (Some call) = call.1

abbrev lost_in : Result Reply LineFault → ℕ
lost_in (Ok (Busy lost stamp)) = lost
lost_in _ = 0

all_lost : (tries : ℕ) (v w : PassView) (c : Call) (r : Result Reply LineFault) (lost stamp : ℕ) → PassAsks tries v c r w → r ≡ Ok (Busy lost stamp) → lost ≡ tries
all_lost tries v w c (Ok (Settled a s)) lost stamp k e = cc
all_lost tries v w c (Ok (Busy l s)) lost stamp k e = sym (ap lost_in e) ∙ k.busy.all_lost
all_lost tries v w c (Err fault) lost stamp k e = cc

-- a machine's own events are exactly this call, or there are none
abbrev pub OwnAtMost : Option Call → List Event → Type 0
OwnAtMost o [] = ⊤
OwnAtMost o (x ∷ xs) = (o ≡ Some x.call) × (xs ≡ [])

own_after : (tries : ℕ) (v w : PassView) (o : Option Call) (c : Call) (r : Result Reply LineFault) → v.seen ≡ [] → o ≡ Some c → PassAsks tries v c r w → OwnAtMost o (own_events w.seen v.machine)
own_after tries v w o c (Ok (Settled a stamp)) e is k =
    let own : own_events w.seen v.machine ≡ event v.machine c a ∷ [] = k.seen.0.own ∙ ap (λ h. own_events h v.machine ++ event v.machine c a ∷ []) e in
    subst (OwnAtMost o) (sym own) (is, refl)
own_after tries v w o c (Ok (Busy lost stamp)) e is k = subst (OwnAtMost o) (sym (k.seen.0.own ∙ ap (λ h. own_events h v.machine) e)) tt
own_after tries v w o c (Err fault) e is k = subst (λ h. OwnAtMost o (own_events h v.machine)) (sym (ap (λ x. x.seen) k ∙ e)) tt

none_of_none : (m : Machine) (es : List Entry) → map (event_by m) es ≡ [] → es ≡ []
none_of_none m [] e = refl
none_of_none m (x ∷ xs) e = cc

entries_at_most : (o : Option Call) (m : Machine) (es : List Entry) → OwnAtMost o (map (event_by m) es) → HasAtMost o es
entries_at_most o m [] k = tt
entries_at_most o m (e ∷ es) k = (k.0, none_of_none m es k.1)

-- likewise the machine's notes
pub noted_at_most : (o : Option Call) (s : ModelState) (h : List Event) (m : Machine) → OwnAtMost o (own_events h m) → HasAtMost o (noted s h m)
noted_at_most o s h m k = entries_at_most o m (noted s h m) (subst (OwnAtMost o) (sym (events_of_noted s h m)) k)

module _ {S Sense Reading Act State : Type 0} (tries : ℕ) (t : Steps S Sense Reading Act) (rig : Rig State Sense Act) (gate : GateOf) where
  abbrev Turn : (before now : WorkerMoment PassView S State) → Type 0
  Turn before now = TakesTurn (passes tries) t rig gate before now

  pub busy_lost : (before now : WorkerMoment PassView S State) (turn : Turn before now) (call : Call) (lost stamp : ℕ) → turn.asked ≡ Some (call, Ok (Busy lost stamp)) → lost ≡ tries
  busy_lost before now turn call lost stamp e =
      turn_either t ((now.line ≡ before.line) × (turn.asked ≡ None)) (λ c r. PassAsks tries before.line c r now.line × (turn.asked ≡ Some (c, r))) (lost ≡ tries)
      (λ h. let lie : None ≡ Some (call, Ok (Busy lost stamp)) = sym h.1 ∙ e in cc)
      (λ c r h. all_lost tries before.line now.line c r lost stamp h.0 (ap (answered r) (sym h.1 ∙ e)))
      before.side.stopped before.side.progress turn.row.acts.sense turn.row.acts.turned turn.row.acts.row

  pub busy_counted : (before now : WorkerMoment PassView S State) (turn : Turn before now) (call : Call) (lost stamp : ℕ) → turn.asked ≡ Some (call, Ok (Busy lost stamp)) → now.counts.busy ≡ before.counts.busy + 1
  busy_counted before now turn call lost stamp e = ap (λ (c : Counts). c.busy) turn.counted ∙ ap (λ a. before.counts.busy + one_if (came_back is_busy_reply a)) e

  -- ---- invariants of all turns

  pub answers_along : (first now : WorkerMoment PassView S State) → HasCome (passes tries) t rig gate first now → answers_in first.counts ≤ first.counts.turns → answers_in now.counts ≤ now.counts.turns
  answers_along first now k few =
      all_along (TakesTurn (passes tries) t rig gate) (λ m. answers_in m.counts ≤ m.counts.turns)
      (λ before after turn q. subst (λ c. answers_in c ≤ c.turns) (sym turn.counted) (one_answer before.counts turn.asked q)) first now k few

  pub let_in_along : (first now : WorkerMoment PassView S State) → HasCome (passes tries) t rig gate first now → first.counts.turns ≡ 0 → (turn : ℕ) → turn < now.counts.turns → gate turn true
  let_in_along first now k none =
      all_along (TakesTurn (passes tries) t rig gate) (λ m. (turn : ℕ) → turn < m.counts.turns → gate turn true)
      (λ before after turn q. subst (λ c. (n : ℕ) → n < c.turns → gate n true) (sym turn.counted) (below_more (λ n. gate n true) before.counts.turns q turn.let_in))
      first now k (λ turn less. absurd (omega (arith, less, none)))

  -- ---- no turn, and one

  one_more_turn : (before now : WorkerMoment PassView S State) → Turn before now → now.counts.turns ≡ before.counts.turns + 1
  one_more_turn before now turn = ap (λ (c : Counts). c.turns) turn.counted

  grows : (first : WorkerMoment PassView S State) (turns : List (WorkerMoment PassView S State)) → AreTaken (TakesTurn (passes tries) t rig gate) first turns → first.counts.turns ≤ (last_of first turns).counts.turns
  grows first [] k = omega arith
  grows first (now ∷ later) k = let one = one_more_turn first now k.0 in let more = grows now later k.1 in omega (arith, one, more)

  still_by : (first last : WorkerMoment PassView S State) (turns : List (WorkerMoment PassView S State)) → AreTaken (TakesTurn (passes tries) t rig gate) first turns → last_of first turns ≡ last → last.counts.turns ≤ first.counts.turns → last ≡ first
  still_by first last [] k e few = sym e
  still_by first last (now ∷ later) k e few =
      let one = one_more_turn first now k.0 in
      let more = grows now later k.1 in
      let ends = ap (λ (m : WorkerMoment PassView S State). m.counts.turns) e in
      absurd (omega (arith, one, more, ends, few))

  -- a turn loses at most as many exchanges as a call may
  lost_in_call : (v w : PassView) (c : Call) (r : Result Reply LineFault) → PassAsks tries v c r w → w.exchanges ≤ v.exchanges + tries
  lost_in_call v w c (Ok reply) k = k.few_exchanges
  lost_in_call v w c (Err fault) k = let same = ap (λ (x : PassView). x.exchanges) k in omega (arith, same)

  lost_in_turn : (before now : WorkerMoment PassView S State) → Turn before now → now.line.exchanges ≤ before.line.exchanges + tries
  lost_in_turn before now turn =
      by_turn tries t rig gate (passes tries) before now (now.line.exchanges ≤ before.line.exchanges + tries) turn
      (λ asked same nothing counted. let stays = ap (λ (x : PassView). x.exchanges) same in omega (arith, stays)) (λ asked c r asks is counted. lost_in_call before.line now.line c r asks)

  few_after_turn : (before now : WorkerMoment PassView S State) → Turn before now → before.line.exchanges ≤ before.counts.turns * tries → now.line.exchanges ≤ now.counts.turns * tries
  few_after_turn before now turn few =
      let more = lost_in_turn before now turn in
      let turns : now.counts.turns * tries ≡ before.counts.turns * tries + tries = ap (λ n. n * tries) (one_more_turn before now turn) ∙ add-mul before.counts.turns 1 tries ∙ omega arith in
      omega (arith, few, more, turns)

  pub few_along : (first now : WorkerMoment PassView S State) → HasCome (passes tries) t rig gate first now → first.line.exchanges ≡ 0 → now.line.exchanges ≤ now.counts.turns * tries
  few_along first now k none = all_along (TakesTurn (passes tries) t rig gate) (λ m. m.line.exchanges ≤ m.counts.turns * tries) few_after_turn first now k (omega (arith, none))

  pub still : (first last : WorkerMoment PassView S State) → HasCome (passes tries) t rig gate first last → last.counts.turns ≤ first.counts.turns → last ≡ first
  still first last k few = still_by first last k.turns k.taken k.last few

  -- there are no turns if the gate lets none begin
  shut_by : ((turn : ℕ) → ¬ gate turn true) → (first last : WorkerMoment PassView S State) (turns : List (WorkerMoment PassView S State)) → AreTaken (TakesTurn (passes tries) t rig gate) first turns → last_of first turns ≡ last → last ≡ first
  shut_by never first last [] k e = sym e
  shut_by never first last (now ∷ later) k e = absurd (never first.counts.turns k.0.let_in)

  pub shut_still : ((turn : ℕ) → ¬ gate turn true) → (first last : WorkerMoment PassView S State) → HasCome (passes tries) t rig gate first last → last ≡ first
  shut_still never first last k = shut_by never first last k.turns k.taken k.last

  -- then a worker ends as if it had only begun
  pub ends_begun : (limit : ℕ) (first last : WorkerMoment PassView S State) (s : Status) → last ≡ first → first.side.stopped ≡ None → first.counts.turns ≡ 0 → Ends gate limit last.side.stopped last.counts.turns s → Ends gate limit None 0 s
  ends_begun limit first last s same runs none k =
      subst (λ n. Ends gate limit None n s) none
      (subst (λ o. Ends gate limit o first.counts.turns s) runs (subst (λ (m : WorkerMoment PassView S State). Ends gate limit m.side.stopped m.counts.turns s) same k))

  once_by : (first last : WorkerMoment PassView S State) (turns : List (WorkerMoment PassView S State)) → AreTaken (TakesTurn (passes tries) t rig gate) first turns → last_of first turns ≡ last → last.counts.turns ≤ first.counts.turns + 1 → (last ≡ first) ⊎ Turn first last
  once_by first last [] k e few = inl (sym e)
  once_by first last (now ∷ []) k e few = inr (subst (Turn first) e k.0)
  once_by first last (now ∷ (next ∷ later)) k e few =
      let one = one_more_turn first now k.0 in
      let two = one_more_turn now next k.1.0 in
      let more = grows next later k.1.1 in
      let ends = ap (λ (m : WorkerMoment PassView S State). m.counts.turns) e in
      absurd (omega (arith, one, two, more, ends, few))

  pub once : (first last : WorkerMoment PassView S State) → HasCome (passes tries) t rig gate first last → last.counts.turns ≤ first.counts.turns + 1 → (last ≡ first) ⊎ Turn first last
  once first last k few = once_by first last k.turns k.taken k.last few

  -- a worker may stay where it began, with this status
  pub stays : (limit : ℕ) (first : WorkerMoment PassView S State) (s : Status) → Ends gate limit first.side.stopped first.counts.turns s → HasEnded (passes tries) t rig gate limit first first s
  stays limit first s e = record { come = record { turns = []; taken = tt; last = refl }; ends = e }

  -- in one turn from a step with this call
  pub own_in_turn : (o : Option Call) (before now : WorkerMoment PassView S State) → before.line.seen ≡ [] → (t.row before.side.progress).call ≡ o → Turn before now → OwnAtMost o (own_events now.line.seen before.line.machine)
  own_in_turn o before now e is k =
      by_step t ((now.line ≡ before.line) × (k.asked ≡ None)) (λ c r. PassAsks tries before.line c r now.line × (k.asked ≡ Some (c, r))) _ o
      (λ h. subst (λ x. OwnAtMost o (own_events x before.line.machine)) (sym (ap (λ (v : PassView). v.seen) h.0 ∙ e)) tt)
      (λ c r asked h. own_after tries before.line now.line o c r e asked h.0) before.side.stopped before.side.progress is k.row.acts.sense k.row.acts.turned k.row.acts.row

  pub own_at_first : (o : Option Call) (first last : WorkerMoment PassView S State) (s : Status) → first.line.seen ≡ [] → first.counts.turns ≡ 0 → (t.row first.side.progress).call ≡ o → HasEnded (passes tries) t rig gate 1 first last s
      → OwnAtMost o (own_events last.line.seen first.line.machine)
  own_at_first o first last s e none is k =
      let few = within gate 1 last.side.stopped last.counts.turns s k.ends in
      elim (once first last k.come (omega (arith, few, none))) as (λ _. OwnAtMost o (own_events last.line.seen first.line.machine)) [
        | inl same ↦ subst (λ x. OwnAtMost o (own_events x first.line.machine)) (sym (ap (λ (m : WorkerMoment PassView S State). m.line.seen) same ∙ e)) tt
        | inr turn ↦ own_in_turn o first last e is turn
      ]
