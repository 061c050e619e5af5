-- A machine that goes on from a step of its program stands at a step to which it has come from there.
use Rattle.cell_renewal.proofs.Names.{◌≡◌, ℕ, zero, suc, Bool, true, false, ◌||◌, if◌then◌else◌, inl, inr, List, [], ◌∷◌, ◌++◌, Option, Some, None, Result, Ok, Err, refl, sym, ap, ◌∙◌, subst, append_assoc, Machine, Call, Answer, Done, Shown, Refusal, Event, Reply, Settled, Busy, SensorFault, ModelState, after, IsLegal, own_events, Program, MovesIn, Reached, event, Waits, LineFault, PassView, InterlockView, fresh_pass, HasSeenMore, fault_of, Steps, waits_out, step_after_reply, Performed}
use Rattle.cell_renewal.proofs.Names.{PerformsCall, PerformsSensed, Turned, Turns, at_rest, CtlFault, Commands, DrivesOn, LeadsOrStays, HasComeFrom, program_with_stops, is_worn, IsHeeded, IsStoppedBy, Stands, stands_later, GateOf, AreTaken, ComesBy, WiredMoment, TakesCycle, wired_moment}
use Rattle.cell_rules.specs.Types.{Refused, Worn}
use Rattle.cell_rules.proofs.lemmas.SeenLemmas.{legal-right, own-append}
use Rattle.cell_control.specs.declared.fault.CtlFault.TheVariants as fault
use Rattle.cell_renewal.proofs.WiredUnrefused.{wired_stands}

-- the same program, but that it begins at this step
abbrev pub from_step : {S Sense Reading Act : Type 0} → Steps S Sense Reading Act → S → Steps S Sense Reading Act
from_step t first = record t { start = λ opening. first }

-- by the first of its events a program has come to some step
first_part : {S : Type 0} → (p : Program S) (s t : S) (a b : List Event) → Reached p s (a ++ b) t → (u : S) × Reached p s a u
first_part p s t [] b r = (s, (0, refl))
first_part p s t (e ∷ a) b r =
    let rest = first_part p r.1 t a b r.5 in
    (rest.0, (r.0, r.1, r.2, r.3, r.4, rest.1))

-- what waits for more, and for more again
waits_on : (m : Machine) (a b c : List Event) → Waits m a b → Waits m b c → Waits m a c
waits_on m a b c k l =
    record {
      begins = (k.begins.0 ++ l.begins.0, l.begins.1 ∙ ap (λ h. h ++ l.begins.0) k.begins.1 ∙ append_assoc a k.begins.0 l.begins.0);
      own = l.own ∙ k.own;
    }

-- a call that is heeded stops its machine only as worn
worn_fault : (r : Refusal) (x : Refusal) → is_worn r ≡ true → fault_of r ≡ fault.Refused x → ⊥
worn_fault Worn x w e = cc
worn_fault _ x w e = cc

not_stopped : {S : Type 0} → (b : Bool) (p : S) (r x : Refusal) → (b || is_worn r) ≡ true → (if b then Ok p else Err (fault_of r)) ≡ Err (fault.Refused x) → ⊥
not_stopped true p r x h e = cc
not_stopped false p r x h e = let same : fault_of r ≡ fault.Refused x = cc in worn_fault r x h same

module _ {S Sense Reading Act : Type 0} (t : Steps S Sense Reading Act) (first : S) where
  abbrev u : Steps S Sense Reading Act
  u = from_step t first

  -- ---- its turns are the same

  step_from : (p : S) (r : Result Reply LineFault) → step_after_reply u p r ≡ step_after_reply t p r
  step_from p (Ok (Settled Done stamp)) = refl
  step_from p (Ok (Settled (Shown m b q) stamp)) = refl
  step_from p (Ok (Settled (Refused r) stamp)) = refl
  step_from p (Ok (Busy lost stamp)) = refl
  step_from p (Err why) = refl

  module _ (same : Type 0) (asks : Call → Result Reply LineFault → Type 0) where
    call_from : (call : Option Call) (p : S) (reading : Reading) (r : Performed S Act) → PerformsCall t call same asks p reading r → PerformsCall u call same asks p reading r
    call_from None p reading r k = k
    call_from (Some c) p reading r k = (k.0, k.1, k.2 ∙ ap (at_rest (t.rest p)) (sym (step_from p k.0)))

    sensed_from : (sensed : Result Reading SensorFault) (p : S) (r : Performed S Act) → PerformsSensed t sensed same asks p r → PerformsSensed u sensed same asks p r
    sensed_from (Err f) p r k = k
    sensed_from (Ok reading) p r k = call_from (t.row p).call p reading r k

    turns_from : (stopped : Option CtlFault) (p : S) (sense : Sense) (w : Turned S Act) → Turns t same asks stopped p sense w → Turns u same asks stopped p sense w
    turns_from (Some f) p sense w k = k
    turns_from None p sense w k = (k.0, record { sensed = k.1.sensed; senses = k.1.senses; performs = sensed_from k.1.sensed p k.0 k.1.performs }, k.2)

  module _ {D : Type 0} (tries : ℕ) (shows : D → Option Sense → D → Type 0) (sets : D → Commands Act → D → Type 0) (gate : GateOf) where
    cycle_from : (before now : WiredMoment S D) → TakesCycle tries t shows sets gate before now → TakesCycle tries u shows sets gate before now
    cycle_from before now (inl k) =
        inl (record {
          runs = k.runs;
          let_in = k.let_in;
          sense = k.sense;
          read = k.read;
          shown = k.shown;
          told = k.told;
          row = turns_from _ _ before.stopped before.progress k.sense _ k.row;
          rest = k.rest;
          motor_demands = k.motor_demands;
          set = k.set;
          counted = k.counted;
          as_many_missed = k.as_many_missed;
        })
    cycle_from before now (inr k) = inr (record { running = k.running; begun = k.begun; read = k.read; shown = k.shown; set = k.set; is = k.is })

    taken_from : (before : WiredMoment S D) (cycles : List (WiredMoment S D)) → AreTaken (TakesCycle tries t shows sets gate) before cycles → AreTaken (TakesCycle tries u shows sets gate) before cycles
    taken_from before [] k = tt
    taken_from before (now ∷ later) k = (cycle_from before now k.0, taken_from now later k.1)

    -- by its cycles over a new interlock it has come to its step, and stands there after the whole history too
    pub going_stands : (i : InterlockView) (last kept : PassView) (begun devices : D) (turns missed : ℕ) (stopped : Option CtlFault) (p : S) (history : List Event)
        → ComesBy (TakesCycle tries t shows sets gate) (wired_moment (fresh_pass i t.machine) first None begun 0 0) (wired_moment last p stopped devices turns missed)
        → HasSeenMore last kept → Waits t.machine kept.seen history → Stands u i.opening history stopped p
    going_stands i last kept begun devices turns missed stopped p history come more w =
        let from : ComesBy (TakesCycle tries u shows sets gate) (wired_moment (fresh_pass i t.machine) first None begun 0 0) (wired_moment last p stopped devices turns missed) =
        record { turns = come.turns; taken = taken_from _ come.turns come.taken; last = come.last } in
        let now = wired_stands tries u shows sets gate i.opening _ _ from (record { machine = refl; opening = refl; stands = record { come = (0, refl); stopped_by = λ r f. cc; not_again = λ f. cc } }) in
        let whole = waits_on t.machine last.seen kept.seen history (subst (λ m. Waits m last.seen kept.seen) now.machine more.seen) w in
        stands_later u i.opening last.seen history whole stopped p now.stands

  -- ---- and so are its steps

  drives_back : (p q : S) → DrivesOn u p q → DrivesOn t p q
  drives_back p q d = record { asks_nothing = d.asks_nothing; reading = d.reading; act = d.act; drives = d.drives; is = d.is }

  leads_back : (a : Answer) (p q : S) → LeadsOrStays u p a q → LeadsOrStays t p a q
  leads_back Done p q k = k
  leads_back (Refused r) p q k = k
  leads_back (Shown owner flag posture) p q k = k

  moves_back : (n : ℕ) (p q : S) → MovesIn (program_with_stops u) n p q → MovesIn (program_with_stops t) n p q
  moves_back zero p q k = k
  moves_back (suc n) p q k = (k.0, drives_back p k.0 k.1, moves_back n k.0 q k.2)

  reached_back : (events : List Event) (p q : S) → Reached (program_with_stops u) p events q → Reached (program_with_stops t) p events q
  reached_back [] p q k = (k.0, moves_back k.0 p q k.1)
  reached_back (e ∷ events) p q k = (k.0, k.1, (k.2.0, moves_back k.2.0 p k.0 k.2.1), k.3, leads_back e.answer k.0 k.1 k.4, reached_back events k.1 q k.5)

  pub come_back : (h : List Event) (p : S) → Reached (program_with_stops u) first (own_events h t.machine) p → HasComeFrom t first h p
  come_back h p k = reached_back (own_events h t.machine) first p k

  -- at each point of the history it had come to some step
  pub came_before : (before more : List Event) (p : S) → HasComeFrom t first (before ++ more) p → (q : S) × HasComeFrom t first before q
  came_before before more p r =
      first_part (program_with_stops t) first p (own_events before t.machine) (own_events more t.machine)
      (subst (λ h. Reached (program_with_stops t) first h p) (own-append before more t.machine) r)

  -- if its call at this point was heeded, the refusal hasn't stopped it
  pub unstopped : (o : ModelState) (h : List Event) (p : S) (x : Refusal) → IsLegal o h → (s : IsStoppedBy u o h p (fault.Refused x)) → IsHeeded t (after o s.before) p → ⊥
  unstopped o h p x legal s heeded =
      let answer = (legal-right o s.before (event t.machine s.call (Refused s.refusal) ∷ s.rest) (subst (IsLegal o) s.split legal)).0 in
      not_stopped (waits_out t p s.refusal) p s.refusal x (heeded s.call s.refusal s.asks (sym answer)) s.stops
