-- In a run at whose end no machine is stopped, no call was out of memory.
use Rattle.cell_plant.proofs.Names.{◌≡◌, Bool, true, false, List, [], ◌∷◌, Option, Some, None, is_none, Result, Ok, Err, refl, sym, ap, ◌∙◌, subst, Machine, Call, Reply, same_machine, one_machine, SensorFault, LineFault, Steps, step_after_reply, Performed, PerformsCall, PerformsSensed, Turned, Turns, at_rest, turned, CtlFault, Memory, TurnCall, Turn, CellScales, CellState, CellGauges, steps_by, HadMemory, Step, TakesTurnBy, LeadsIfBy, goes_on, IsRunBy, end_of}

none_some : {A B : Type 0} → (o : Option A) (x : A) → o ≡ None → o ≡ Some x → B
none_some o x e f = let lie : None ≡ Some x = sym e ∙ f in cc

-- a call that is out of memory stops its machine
module _ {S Sense Reading Act : Type 0} (t : Steps S Sense Reading Act) (same : Type 0) (asks : Call → Result Reply LineFault → Type 0) (asked : TurnCall) (call : Call) (fault : LineFault) (is : asked ≡ Some (call, Err fault)) where
  abbrev Quiet : Type 0
  Quiet = same × (asked ≡ None)

  abbrev Asks : Call → Result Reply LineFault → Type 0
  Asks c r = asks c r × (asked ≡ Some (c, r))

  abbrev reply_or : Result Reply LineFault → TurnCall → Result Reply LineFault
  reply_or other None = other
  reply_or other (Some told) = told.1

  answered_so : (c : Call) (r : Result Reply LineFault) → asked ≡ Some (c, r) → r ≡ Err fault
  answered_so c r e = ap (reply_or r) (sym e ∙ is)

  call_stops : (o : Option Call) (p : S) (reading : Reading) (r : Performed S Act) → PerformsCall t o Quiet Asks p reading r → r ≡ Err Memory
  call_stops None p reading r k = none_some asked (call, Err fault) k.0.1 is
  call_stops (Some c) p reading r k = k.2 ∙ ap (λ x. at_rest (t.rest p) (step_after_reply t p x)) (answered_so c k.0 k.1.1)

  sensed_stops : (sensed : Result Reading SensorFault) (p : S) (r : Performed S Act) → PerformsSensed t sensed Quiet Asks p r → r ≡ Err Memory
  sensed_stops (Err f) p r k = none_some asked (call, Err fault) k.0.1 is
  sensed_stops (Ok reading) p r k = call_stops (t.row p).call p reading r k

  pub turn_stops : (stopped : Option CtlFault) (p : S) (s : Sense) (w : Turned S Act) → Turns t Quiet Asks stopped p s w → w.stopped ≡ Some Memory
  turn_stops (Some f) p s w k = none_some asked (call, Err fault) k.0.1 is
  turn_stops None p s w k = ap (λ x. x.stopped) (k.2 ∙ ap (turned p) (sensed_stops k.1.sensed p k.0 k.1.performs))

module _ (c : CellScales) (gives : CellGauges) where
  stops_taken : (m : Machine) (busy : Bool) (w : CellState) (s : Step) (call : Call) (fault : LineFault) → TakesTurnBy c gives m busy w s → s.asked ≡ Some (call, Err fault) → (s.moved.side m).stopped ≡ Some Memory
  stops_taken m busy w s call fault k is =
      let stops = turn_stops (steps_by c gives m) _ _ s.asked call fault is (w.side m).stopped (w.side m).progress k.takes.sense k.takes.turned k.takes.row in
      ap (λ x. x.stopped) k.moved ∙ ap (λ x. x.stopped) k.takes.is ∙ stops

  stops_if : (b : Bool) (m : Machine) (busy : Bool) (w : CellState) (s : Step) (call : Call) (fault : LineFault) → LeadsIfBy b c gives m busy w s → s.asked ≡ Some (call, Err fault) → (s.moved.side m).stopped ≡ Some Memory
  stops_if true m busy w s call fault k is = stops_taken m busy w s call fault k is
  stops_if false m busy w s call fault k is = none_some s.asked (call, Err fault) k.asked is

  -- a machine that is stopped stays so
  stays_if : (b one : Bool) (m n : Machine) (busy : Bool) (w : CellState) (s : Step) (f : CtlFault) → goes_on w m ≡ b → same_machine m n ≡ one → LeadsIfBy b c gives m busy w s
      → (w.side n).stopped ≡ Some f → (s.moved.side n).stopped ≡ Some f
  stays_if false one m n busy w s f e apart k stopped = ap (λ (x : CellState). (x.side n).stopped) k.moved ∙ stopped
  stays_if true false m n busy w s f e apart k stopped = ap (λ x. x.stopped) (k.others_moved n apart ∙ k.others_set n apart) ∙ stopped
  stays_if true true m n busy w s f e one k stopped =
      let own : (w.side m).stopped ≡ Some f = subst (λ x. (w.side x).stopped ≡ Some f) (sym (one_machine m n one)) stopped in
      let lie : true ≡ false = sym e ∙ ap (λ o. is_none o) own in
      cc

  pub stays : (w : CellState) (turns : List Turn) (steps : List Step) (n : Machine) (f : CtlFault) → IsRunBy c gives w turns steps → (w.side n).stopped ≡ Some f → ((end_of w steps).side n).stopped ≡ Some f
  stays w [] [] n f r stopped = stopped
  stays w (t ∷ ts) (s ∷ ss) n f r stopped = stays s.moved ts ss n f r.1.1 (stays_if (goes_on w t.machine) (same_machine t.machine n) t.machine n t.busy w s f refl refl r.1.0 stopped)
  stays w _ _ n f r stopped = absurd r

  pub had_memory : (w : CellState) (turns : List Turn) (steps : List Step) → IsRunBy c gives w turns steps → ((n : Machine) → ((end_of w steps).side n).stopped ≡ None) → HadMemory steps
  had_memory w [] [] r fine = tt
  had_memory w (t ∷ ts) (s ∷ ss) r fine = (
    λ call fault is. none_some ((end_of s.moved ss).side t.machine).stopped Memory (fine t.machine) (stays s.moved ts ss t.machine Memory r.1.1 (stops_if (goes_on w t.machine) t.machine t.busy w s call fault r.1.0 is)),
    had_memory s.moved ts ss r.1.1 fine,
  )
  had_memory w _ _ r fine = absurd r
