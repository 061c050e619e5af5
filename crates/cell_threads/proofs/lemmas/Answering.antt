-- A worker's turn, by what came back from its call.
use Rattle.cell_threads.proofs.Names.{◌≡◌, ℕ, Option, Some, None, Result, Ok, Err, sym, ap, ◌∙◌, Call, Reply, SensorFault, LineFault, PassView, PassAsks, Rig, Steps, step_after_reply, Performed, PerformsCall, PerformsSensed, Turned, Turns, at_rest, turned, CtlFault, turn_either, TurnCall, Side, Acts, side_set, side_moved, passes, GateOf, WorkerMoment, TakesTurn}

abbrev answered : Result Reply LineFault → TurnCall → Result Reply LineFault
answered r None = r
answered r (Some call) = call.1

nothing_is_asked : (call : Call × Result Reply LineFault) → ¬ (None ≡ Some call)
nothing_is_asked call e = cc

module _ {S Sense Reading Act : Type 0} (t : Steps S Sense Reading Act) (same : Type 0) (asks : Call → Result Reply LineFault → Type 0) (asked : TurnCall) (call : Call) (r : Result Reply LineFault) (is : asked ≡ Some (call, r)) where
  abbrev Same : Type 0
  Same = same × (asked ≡ None)

  abbrev Asks : Call → Result Reply LineFault → Type 0
  Asks c a = asks c a × (asked ≡ Some (c, a))

  abbrev led : S → Performed S Act
  led p = at_rest (t.rest p) (step_after_reply t p r)

  answered_call : (o : Option Call) (p : S) (reading : Reading) (x : Performed S Act) → PerformsCall t o Same Asks p reading x → x ≡ led p
  answered_call None p reading x h = absurd (nothing_is_asked _ (sym h.0.1 ∙ is))
  answered_call (Some c) p reading x h = h.2 ∙ ap (λ a. at_rest (t.rest p) (step_after_reply t p a)) (ap (answered r) (sym h.1.1 ∙ is))

  answered_sensed : (sensed : Result Reading SensorFault) (p : S) (x : Performed S Act) → PerformsSensed t sensed Same Asks p x → x ≡ led p
  answered_sensed (Err fault) p x h = absurd (nothing_is_asked _ (sym h.0.1 ∙ is))
  answered_sensed (Ok reading) p x h = answered_call (t.row p).call p reading x h

  answered_turn : (stopped : Option CtlFault) (p : S) (s : Sense) (w : Turned S Act) → Turns t Same Asks stopped p s w → w ≡ turned p (led p)
  answered_turn (Some fault) p s w h = absurd (nothing_is_asked _ (sym h.0.1 ∙ is))
  answered_turn None p s w h = h.2 ∙ ap (turned p) (answered_sensed h.1.sensed p h.0 h.1.performs)

unchanged : (tries : ℕ) (v w : PassView) (c : Call) (a : Result Reply LineFault) (fault : LineFault) → PassAsks tries v c a w → a ≡ Err fault → w ≡ v
unchanged tries v w c (Ok reply) fault k e = cc
unchanged tries v w c (Err f) fault k e = k

module _ {S Sense Reading Act State : Type 0} (tries : ℕ) (t : Steps S Sense Reading Act) (rig : Rig State Sense Act) (gate : GateOf) (before now : WorkerMoment PassView S State) (turn : TakesTurn (passes tries) t rig gate before now) where
  abbrev Stays : Type 0
  Stays = now.line ≡ before.line

  abbrev Calls : Call → Result Reply LineFault → Type 0
  Calls c a = PassAsks tries before.line c a now.line

  abbrev set : Side S State
  set = turn.row.set

  abbrev acts : Acts t rig Stays Calls before.side turn.asked set
  acts = turn.row.acts

  -- the machine's side after its turn
  pub side_answered : (call : Call) (r : Result Reply LineFault) → turn.asked ≡ Some (call, r)
      → now.side ≡ side_moved rig (side_set t rig before.side (Some (call, r)) (turned before.side.progress (at_rest (t.rest before.side.progress) (step_after_reply t before.side.progress r))))
  side_answered call r is =
      let led = answered_turn t Stays Calls turn.asked call r is before.side.stopped before.side.progress acts.sense acts.turned acts.row in
      turn.row.moved ∙ ap (side_moved rig) (acts.is ∙ (λ i. side_set t rig before.side (is i) (led i)))

  pub line_unchanged : (call : Call) (fault : LineFault) → turn.asked ≡ Some (call, Err fault) → now.line ≡ before.line
  line_unchanged call fault is =
      turn_either t (Stays × (turn.asked ≡ None)) (λ c a. Calls c a × (turn.asked ≡ Some (c, a))) (now.line ≡ before.line)
      (λ h. h.0) (λ c a h. unchanged tries before.line now.line c a fault h.0 (ap (answered (Err fault)) (sym h.1 ∙ is)))
      before.side.stopped before.side.progress acts.sense acts.turned acts.row
