-- Each turn over a line keeps that its machine stands at a step of its program.
use Rattle.cell_team.proofs.Names.{◌≡◌, ◌≢◌, Bool, true, false, if◌then◌else◌, inl, inr, List, [], ◌∷◌, ◌++◌, append_assoc, Option, Some, None, Result, Ok, Err, refl, sym, ap, ◌∙◌, subst, Machine, Call, Refusal, Worn, Done, Shown, Refused, Event, Reply, Settled, Busy, SensorFault, ModelState, own_events, Reached, event, Settles, Waits, SeenAfter, own-push, fault_of, Steps, waits_out, step_after_reply, Performed, PerformsCall, PerformsSensed, Turned, Turns, at_rest, turned, CtlFault, HasCome}
use Rattle.cell_team.proofs.Names.{DrivesOn, program_with_stops, IsStoppedBy}
use Rattle.std.proofs.lemmas.List.{append_cancel_right}
use Rattle.cell_rules.specs.declared.heard.LineFault.{LineFault}
use Rattle.cell_rules.proofs.lemmas.ProgramLemmas.{reached-moves, reached-settles, reached-waits}
use Rattle.cell_control.specs.declared.fault.CtlFault.TheVariants as fault

-- a machine has come to its step by its events; if a refusal has stopped it, then at this step; and it has no later
-- turn
pub record Stands {S Sense Reading Act : Type 0} (t : Steps S Sense Reading Act) (opening : ModelState) (history : List Event) (stopped : Option CtlFault) (p : S) : Type 0 where
  pub come : HasCome t opening history p
  pub stopped_by : (r : Refusal) → stopped ≡ Some (fault.Refused r) → IsStoppedBy t opening history p (fault.Refused r)
  pub not_again : stopped ≢ Some fault.Stopped

-- what a caller has seen of its call, without the stamps
abbrev pub Sees : Machine → Call → Result Reply LineFault → List Event → List Event → Type 0
Sees m c (Ok (Settled a stamp)) before now = Settles m c a before now
Sees m c (Ok (Busy lost stamp)) before now = Waits m before now
Sees m c (Err fault) before now = now ≡ before

pub sees_of : (m : Machine) (c : Call) (r : Result Reply LineFault) (s : ModelState) (before now : List Event) → SeenAfter m c r s before now → Sees m c r before now
sees_of m c (Ok (Settled a stamp)) s before now k = k.0
sees_of m c (Ok (Busy lost stamp)) s before now k = k.0
sees_of m c (Err fault) s before now k = k

the_fault : (a b : CtlFault) → Some a ≡ Some b → a ≡ b
the_fault a b e = cc

-- no refusal gives the fault of a later turn
not_again : (f : CtlFault) (r : Refusal) → f ≡ fault_of r → f ≡ fault.Stopped → ⊥
not_again f Worn e g = cc
not_again f _ e g = cc

module _ {S Sense Reading Act : Type 0} (t : Steps S Sense Reading Act) (o : ModelState) where
  abbrev StandsAs : List Event → Turned S Act → Type 0
  StandsAs h w = Stands t o h w.stopped w.progress

  fine : (h : List Event) (stopped : Option CtlFault) (p : S) → HasCome t o h p → ((r : Refusal) → stopped ≡ Some (fault.Refused r) → ⊥) → (stopped ≡ Some fault.Stopped → ⊥) → Stands t o h stopped p
  fine h stopped p k not again = record { come = k; stopped_by = λ r e. absurd (not r e); not_again = again }

  -- the point before an answered call is one that its machine had come to
  at_point : (p : S) (c : Call) (r : Refusal) (before now : List Event) (s : Settles t.machine c (Refused r) before now) → HasCome t o before p → HasCome t o s.point p
  at_point p c r before now s k =
      let e = event t.machine c (Refused r) in
      let here : own_events now t.machine ≡ own_events s.point t.machine ++ e ∷ [] = ap (λ h. own_events h t.machine) s.ends ∙ own-push s.point t.machine c (Refused r) in
      let same : own_events before t.machine ≡ own_events s.point t.machine = append_cancel_right (own_events before t.machine) (own_events s.point t.machine) (e ∷ []) (sym s.own ∙ here) in
      subst (λ h. Reached (program_with_stops t) (t.start o) h p) same k

  -- a refused call leaves the machine at its step, or stops it there
  refused_by : (b : Bool) (p : S) (c : Call) (r : Refusal) (before now : List Event) → waits_out t p r ≡ b → (t.row p).call ≡ Some c → Settles t.machine c (Refused r) before now → HasCome t o before p
      → StandsAs now (turned p (at_rest (t.rest p) (if b then Ok p else Err (fault_of r))))
  refused_by true p c r before now w e s k =
      fine now None p (reached-settles (program_with_stops t) (t.start o) p p t.machine c (Refused r) before now s k e (inr (refl, refl))) (λ x f. cc) (λ f. cc)
  refused_by false p c r before now w e s k = record {
    come = reached-settles (program_with_stops t) (t.start o) p p t.machine c (Refused r) before now s k e (inr (refl, refl));
    stopped_by = λ x f. record {
      before = s.point;
      rest = [];
      call = c;
      refusal = r;
      split = s.ends;
      come = at_point p c r before now s k;
      asks = e;
      stops = ap (λ b. if b then Ok p else Err (fault_of r)) w ∙ ap (λ x. Err x) (the_fault (fault_of r) (fault.Refused x) f);
    };
    not_again = λ f. not_again (fault_of r) r refl (the_fault (fault_of r) fault.Stopped f);
  }

  answered : (p : S) (c : Call) (r : Result Reply LineFault) (before now : List Event) → (t.row p).call ≡ Some c → Sees t.machine c r before now → HasCome t o before p → StandsAs now (turned p (at_rest (t.rest p) (step_after_reply t p r)))
  answered p c (Ok (Settled Done stamp)) before now e seen k = fine now None (t.row p).next (reached-settles (program_with_stops t) (t.start o) p (t.row p).next t.machine c Done before now seen k e (inl refl)) (λ x f. cc) (λ f. cc)
  answered p c (Ok (Settled (Shown m b q) stamp)) before now e seen k =
      fine now None (t.after_inquiry p m b q) (reached-settles (program_with_stops t) (t.start o) p (t.after_inquiry p m b q) t.machine c (Shown m b q) before now seen k e (inl refl)) (λ x f. cc) (λ f. cc)
  answered p c (Ok (Settled (Refused r) stamp)) before now e seen k = refused_by (waits_out t p r) p c r before now refl e seen k
  answered p c (Ok (Busy lost stamp)) before now e seen k = fine now None p (reached-waits (program_with_stops t) (t.start o) p t.machine before now seen k) (λ x f. cc) (λ f. cc)
  answered p c (Err why) before now e seen k = fine now (Some fault.Memory) p (subst (λ h. HasCome t o h p) (sym seen) k) (λ x f. cc) (λ f. cc)

  -- a turn, by what its line has seen
  module _ (before now : List Event) (same : Type 0) (asks : Call → Result Reply LineFault → Type 0) (stays : same → now ≡ before) (sees : (c : Call) (r : Result Reply LineFault) → asks c r → Sees t.machine c r before now) where
    still : (p : S) → same → HasCome t o before p → HasCome t o now p
    still p s k = subst (λ h. HasCome t o h p) (sym (stays s)) k

    by_call : (call : Option Call) (p : S) (reading : Reading) (r : Performed S Act) → (t.row p).call ≡ call → PerformsCall t call same asks p reading r → HasCome t o before p → StandsAs now (turned p r)
    by_call None p reading r e h k =
        let drives : DrivesOn t p (t.after_drive p reading h.1.0) = record { asks_nothing = e; reading = reading; act = h.1.0; drives = h.1.1; is = refl } in
        subst (λ x. StandsAs now (turned p x)) (sym h.1.2)
        (fine now None (t.after_drive p reading h.1.0) (reached-moves (program_with_stops t) (t.start o) p (t.after_drive p reading h.1.0) (own_events now t.machine) (still p h.0 k) drives) (λ x f. cc) (λ f. cc))
    by_call (Some c) p reading r e h k = subst (λ x. StandsAs now (turned p x)) (sym h.2) (answered p c h.0 before now e (sees c h.0 h.1) k)

    by_sensed : (sensed : Result Reading SensorFault) (p : S) (r : Performed S Act) → PerformsSensed t sensed same asks p r → HasCome t o before p → StandsAs now (turned p r)
    by_sensed (Err f) p r h k = subst (λ x. StandsAs now (turned p x)) (sym h.1) (fine now (Some (fault.Sensor f)) p (still p h.0 k) (λ x f. cc) (λ f. cc))
    by_sensed (Ok reading) p r h k = by_call (t.row p).call p reading r refl h k

    pub stands_on : (p : S) (sense : Sense) (w : Turned S Act) → Turns t same asks None p sense w → HasCome t o before p → StandsAs now w
    stands_on p sense w h k = subst (λ x. StandsAs now x) (sym h.2) (by_sensed h.1.sensed p h.0 h.1.performs k)

-- ---- later

-- what a machine's own events say, a longer history without more of them says too
module _ {S Sense Reading Act : Type 0} (t : Steps S Sense Reading Act) (o : ModelState) (seen history : List Event) (w : Waits t.machine seen history) where
  come_later : (p : S) → HasCome t o seen p → HasCome t o history p
  come_later p k = subst (λ h. Reached (program_with_stops t) (t.start o) h p) (sym w.own) k

  stopped_later : (p : S) (f : CtlFault) → IsStoppedBy t o seen p f → IsStoppedBy t o history p f
  stopped_later p f s = record {
    before = s.before;
    rest = s.rest ++ w.begins.0;
    call = s.call;
    refusal = s.refusal;
    split = w.begins.1 ∙ ap (λ h. h ++ w.begins.0) s.split ∙ append_assoc s.before _ w.begins.0;
    come = s.come;
    asks = s.asks;
    stops = s.stops;
  }

  pub stands_later : (stopped : Option CtlFault) (p : S) → Stands t o seen stopped p → Stands t o history stopped p
  stands_later stopped p k = record { come = come_later p k.come; stopped_by = λ r e. stopped_later p (fault.Refused r) (k.stopped_by r e); not_again = k.not_again }
