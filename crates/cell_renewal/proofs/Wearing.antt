-- A worker that goes on is worn only by the last stamp.
use Rattle.cell_renewal.proofs.Names.{◌≡◌, ℕ, suc, ◌+◌, ◌≤◌, ◌<◌, Bool, true, false, cond, if◌then◌else◌, inl, inr, List, [], ◌∷◌, ◌++◌, Option, Some, None, Result, Ok, Err, refl, sym, ap, ◌∙◌, subst, arith, length, length-append, append_assoc, Machine, Feed, Table, Robot, Press, Deposit, Crane, Watch, same_machine, Call, Refusal, Done, Shown, Event, Reply, Settled, Busy, SensorFault, ModelState, last_stamp, one_if, IsSound, reply, after, IsLegal, own_events, is_done, done_count, event}
use Rattle.cell_renewal.proofs.Names.{BeginsWith, LineFault, legal-left, sound-after, stamps_only_wear, PassView, PassAsks, IsSamePass, fault_of, Steps, waits_out, step_after_reply, Performed, PerformsCall, PerformsSensed, Turned, Turns, at_rest, turned, answered, CtlFault, Commands, turn_either, Status, GateOf, ComesBy, Ends, all_along, asks_same, unchanged_pass, WiredMoment, TakesWiredTurn, RestsUnread, TakesCycle}
use Rattle.std.proofs.Math.Nat.{lt_of_not-le}
use Rattle.std.proofs.lemmas.List.Sums.{sum_by-append}
use Rattle.cell_rules.specs.Types.{Worn, Refused}
use Rattle.cell_rules.proofs.lemmas.Stamps.{stamp-after}
use Rattle.cell_control.specs.declared.fault.CtlFault.TheVariants as fault
use Rattle.cell_notes.specs.declared.status.Status.TheVariants as status
use Rattle.cell_renewal.specs.Wearing.{ChangesAreCalls, WearsLast}

-- a machine was refused as worn after some part of what its pass has seen
record WasWorn (m : Machine) (o : ModelState) (seen : List Event) : Type 0 where
  point : List Event
  begins : BeginsWith seen point
  call : Call
  worn : reply (after o point) m call ≡ Refused Worn

the_fault : (a b : CtlFault) → Some a ≡ Some b → a ≡ b
the_fault a b e = cc

fault_is_worn : (r : Refusal) → fault_of r ≡ fault.Worn → r ≡ Worn
fault_is_worn Worn e = refl
fault_is_worn _ e = cc

settled_worn : (m : Machine) (v w : PassView) (tries : ℕ) (c : Call) (r : Refusal) (stamp : ℕ) → v.machine ≡ m → PassAsks tries v c (Ok (Settled (Refused r) stamp)) w → r ≡ Worn → WasWorn m v.opening w.seen
settled_worn m v w tries c r stamp own k is = record {
  point = k.seen.0.point;
  begins = (event v.machine c (Refused r) ∷ [], k.seen.0.ends);
  call = c;
  worn = sym (ap (λ n. reply (after v.opening k.seen.0.point) n c) own) ∙ sym (k.answer k.seen.0.point k.seen.0.ends) ∙ ap (λ x. Refused x) is;
}

module _ {S Sense Reading Act : Type 0} (t : Steps S Sense Reading Act) (tries : ℕ) (v w : PassView) (own : v.machine ≡ t.machine) where
  abbrev Late : Turned S Act → Type 0
  Late x = x.stopped ≡ Some fault.Worn → WasWorn t.machine v.opening w.seen

  by_refusal : (b : Bool) (p : S) (c : Call) (r : Refusal) (stamp : ℕ) → PassAsks tries v c (Ok (Settled (Refused r) stamp)) w → Late (turned p (at_rest (t.rest p) (if b then Ok p else Err (fault_of r))))
  by_refusal true p c r stamp k e = cc
  by_refusal false p c r stamp k e = settled_worn t.machine v w tries c r stamp own k (fault_is_worn r (the_fault (fault_of r) fault.Worn e))

  by_answer : (p : S) (c : Call) (r : Result Reply LineFault) → PassAsks tries v c r w → Late (turned p (at_rest (t.rest p) (step_after_reply t p r)))
  by_answer p c (Ok (Settled Done stamp)) k e = cc
  by_answer p c (Ok (Settled (Shown m b q) stamp)) k e = cc
  by_answer p c (Ok (Settled (Refused r) stamp)) k e = by_refusal (waits_out t p r) p c r stamp k e
  by_answer p c (Ok (Busy lost stamp)) k e = cc
  by_answer p c (Err why) k e = cc

  by_call : (call : Option Call) (p : S) (reading : Reading) (r : Performed S Act) → PerformsCall t call (w ≡ v) (λ c x. PassAsks tries v c x w) p reading r → Late (turned p r)
  by_call None p reading r h = subst (λ x. Late (turned p x)) (sym h.1.2) (λ e. cc)
  by_call (Some c) p reading r h = subst (λ x. Late (turned p x)) (sym h.2) (by_answer p c h.0 h.1)

  by_sensed : (sensed : Result Reading SensorFault) (p : S) (r : Performed S Act) → PerformsSensed t sensed (w ≡ v) (λ c x. PassAsks tries v c x w) p r → Late (turned p r)
  by_sensed (Err f) p r h = subst (λ x. Late (turned p x)) (sym h.1) (λ e. cc)
  by_sensed (Ok reading) p r h = by_call (t.row p).call p reading r h

  late : (p : S) (sense : Sense) (x : Turned S Act) → Turns t (w ≡ v) (λ c r. PassAsks tries v c r w) None p sense x → Late x
  late p sense x h = subst Late (sym h.2) (by_sensed h.1.sensed p h.0 h.1.performs)

  -- a turn makes at most one call
  few_more : (n : ℕ) → length (own_events v.seen t.machine) ≤ n → (c : Call) (r : Result Reply LineFault) → PassAsks tries v c r w → length (own_events w.seen t.machine) ≤ n + 1
  few_more n few c (Ok (Settled a stamp)) k =
      let own_now : own_events w.seen t.machine ≡ own_events v.seen t.machine ++ event v.machine c a ∷ [] = subst (λ m. own_events w.seen m ≡ own_events v.seen m ++ event v.machine c a ∷ []) own k.seen.0.own in
      let more : length (own_events w.seen t.machine) ≡ length (own_events v.seen t.machine) + 1 = ap length own_now ∙ length-append (own_events v.seen t.machine) (event v.machine c a ∷ []) in
      omega arith
  few_more n few c (Ok (Busy lost stamp)) k =
      let same : length (own_events w.seen t.machine) ≡ length (own_events v.seen t.machine) = ap length (subst (λ m. own_events w.seen m ≡ own_events v.seen m) own k.seen.0.own) in
      omega arith
  few_more n few c (Err why) k =
      let same : length (own_events w.seen t.machine) ≡ length (own_events v.seen t.machine) = ap (λ x. length (own_events x.seen t.machine)) k in
      omega arith

module _ {S Sense Reading Act D : Type 0} (tries : ℕ) (t : Steps S Sense Reading Act) (shows : D → Option Sense → D → Type 0) (sets : D → Commands Act → D → Type 0) (gate : GateOf) (o : ModelState) where
  record GoesBy (m : WiredMoment S D) : Type 0 where
    machine : m.pass.machine ≡ t.machine
    opening : m.pass.opening ≡ o
    few : length (own_events m.pass.seen t.machine) ≤ m.turns
    late : m.stopped ≡ Some fault.Worn → WasWorn t.machine o m.pass.seen

  few_same : (v w : PassView) (n : ℕ) → w ≡ v → length (own_events v.seen t.machine) ≤ n → length (own_events w.seen t.machine) ≤ n + 1
  few_same v w n e few =
      let same : length (own_events w.seen t.machine) ≡ length (own_events v.seen t.machine) = ap (λ x. length (own_events x.seen t.machine)) e in
      omega arith

  turn_goes : (before now : WiredMoment S D) → TakesWiredTurn tries t shows sets gate before now → GoesBy before → GoesBy now
  turn_goes before now turn k =
      let v = before.pass in
      let w = now.pass in
      let x : Turned S Act = record { result = answered turn.told.act turn.told.fault; progress = now.progress; stopped = now.stopped } in
      let same : IsSamePass v w = turn_either t (w ≡ v) (λ c r. PassAsks tries v c r w) (IsSamePass v w) (unchanged_pass v w) (asks_same tries v w) before.stopped before.progress turn.sense x turn.row in
      let row = subst (λ s. Turns t (w ≡ v) (λ c r. PassAsks tries v c r w) s before.progress turn.sense x) turn.runs turn.row in
      record {
        machine = same.machine ∙ k.machine;
        opening = same.opening ∙ k.opening;
        few = subst (λ n. length (own_events w.seen t.machine) ≤ n) (sym turn.counted)
            (turn_either t (w ≡ v) (λ c r. PassAsks tries v c r w) (length (own_events w.seen t.machine) ≤ before.turns + 1) (λ e. few_same v w before.turns e k.few) (few_more t tries v w k.machine before.turns k.few) before.stopped before.progress turn.sense x turn.row);
        late = λ e. subst (λ s. WasWorn t.machine s w.seen) k.opening (late t tries v w k.machine before.progress turn.sense x row e);
      }

  rest_goes : (before now : WiredMoment S D) → RestsUnread t shows sets gate before now → GoesBy before → GoesBy now
  rest_goes before now rest k = subst GoesBy (sym rest.is) (record { machine = k.machine; opening = k.opening; few = k.few; late = k.late })

  cycle_goes : (before now : WiredMoment S D) → TakesCycle tries t shows sets gate before now → GoesBy before → GoesBy now
  cycle_goes before now (inl turn) k = turn_goes before now turn k
  cycle_goes before now (inr rest) k = rest_goes before now rest k

  goes_along : (first last : WiredMoment S D) → ComesBy (TakesCycle tries t shows sets gate) first last → first.stopped ≡ None → first.pass.machine ≡ t.machine → first.pass.opening ≡ o → first.pass.seen ≡ [] → first.turns ≡ 0 → GoesBy last
  goes_along first last come runs own opens none zero =
      all_along (TakesCycle tries t shows sets gate) GoesBy cycle_goes first last come
      (record {
        machine = own;
        opening = opens;
        few = subst (λ h. length (own_events h t.machine) ≤ first.turns) (sym none) (subst (λ n. 0 ≤ n) (sym zero) (omega arith));
        late = λ e. let lie : None ≡ Some fault.Worn = sym runs ∙ e in cc;
      })

-- a status of worn is that of a machine that was worn
stopped_by : (gate : GateOf) (limit turns : ℕ) (stopped : Option CtlFault) (s : Status) → Ends gate limit stopped turns s → s ≡ status.Worn → stopped ≡ Some fault.Worn
stopped_by gate limit turns None s (inl h) e = let lie : status.Fine ≡ status.Worn = sym h.0 ∙ e in cc
stopped_by gate limit turns None s (inr h) e = let lie : status.GateLimit ≡ status.Worn = sym h.0 ∙ e in cc
stopped_by gate limit turns (Some (fault.Refused r)) s h e = let lie : status.Refused ≡ status.Worn = sym h.0 ∙ e in cc
stopped_by gate limit turns (Some fault.Stopped) s h e = let lie : status.Refused ≡ status.Worn = sym h.0 ∙ e in cc
stopped_by gate limit turns (Some (fault.Sensor x)) s h e = let lie : status.Sensor ≡ status.Worn = sym h.0 ∙ e in cc
stopped_by gate limit turns (Some fault.Worn) s h e = refl
stopped_by gate limit turns (Some fault.Memory) s h e = let lie : status.Memory ≡ status.Worn = sym h.0 ∙ e in cc

-- a machine is worn only at the last stamp
at_least : (a b : ℕ) → (a < b → ⊥) → b ≤ a
at_least a b never = let l : b < suc a = lt_of_not-le never in omega arith

last_used : (m : Machine) (o : ModelState) (seen more history : List Event) → IsSound o → IsLegal o history → history ≡ seen ++ more → WasWorn m o seen → last_stamp ≤ o.stamp + done_count history
last_used m o seen more history sound legal split k =
    let point = k.point in
    let rest = k.begins.0 ++ more in
    let whole : history ≡ point ++ rest = split ∙ ap (λ h. h ++ more) k.begins.1 ∙ append_assoc point k.begins.0 more in
    let first : IsLegal o point = legal-left o point rest (subst (IsLegal o) whole legal) in
    let z = after o point in
    let full : last_stamp ≤ z.stamp = at_least z.stamp last_stamp (λ l. (stamps_only_wear z).unworn m k.call (sound-after o point sound) l k.worn) in
    let counted : z.stamp ≡ o.stamp + done_count point = stamp-after o point first in
    let longer : done_count history ≡ done_count point + done_count rest = ap done_count whole ∙ sum_by-append (λ e. cond (is_done e) 1 0) point rest in
    omega arith

-- ---- counts

one_of_seven : (n : Machine) → one_if (same_machine n Feed) + one_if (same_machine n Table) + one_if (same_machine n Robot) + one_if (same_machine n Press) + one_if (same_machine n Deposit) + one_if (same_machine n Crane) + one_if (same_machine n Watch) ≡ 1
one_of_seven Feed = refl
one_of_seven Table = refl
one_of_seven Robot = refl
one_of_seven Press = refl
one_of_seven Deposit = refl
one_of_seven Crane = refl
one_of_seven Watch = refl

own_length : (b : Bool) (e : Event) (own : List Event) → length (cond b (e ∷ own) own) ≡ length own + one_if b
own_length true e own = omega arith
own_length false e own = omega arith

at_most_one : (b : Bool) → cond b 1 0 ≤ 1
at_most_one true = omega arith
at_most_one false = omega arith

pub changes-are-calls : ChangesAreCalls
changes-are-calls [] = omega arith
changes-are-calls (e ∷ h) =
    let rest = changes-are-calls h in
    let n = e.machine in
    let feed : length (own_events (e ∷ h) Feed) ≡ length (own_events h Feed) + one_if (same_machine n Feed) = own_length (same_machine n Feed) e (own_events h Feed) in
    let table : length (own_events (e ∷ h) Table) ≡ length (own_events h Table) + one_if (same_machine n Table) = own_length (same_machine n Table) e (own_events h Table) in
    let robot : length (own_events (e ∷ h) Robot) ≡ length (own_events h Robot) + one_if (same_machine n Robot) = own_length (same_machine n Robot) e (own_events h Robot) in
    let press : length (own_events (e ∷ h) Press) ≡ length (own_events h Press) + one_if (same_machine n Press) = own_length (same_machine n Press) e (own_events h Press) in
    let deposit : length (own_events (e ∷ h) Deposit) ≡ length (own_events h Deposit) + one_if (same_machine n Deposit) = own_length (same_machine n Deposit) e (own_events h Deposit) in
    let crane : length (own_events (e ∷ h) Crane) ≡ length (own_events h Crane) + one_if (same_machine n Crane) = own_length (same_machine n Crane) e (own_events h Crane) in
    let watch : length (own_events (e ∷ h) Watch) ≡ length (own_events h Watch) + one_if (same_machine n Watch) = own_length (same_machine n Watch) e (own_events h Watch) in
    let one = one_of_seven n in
    let few = at_most_one (is_done e) in
    let more : done_count (e ∷ h) ≡ (0 + cond (is_done e) 1 0) + done_count h = sum_by-append (λ x. cond (is_done x) 1 0) (e ∷ []) h in
    omega arith

-- ---- the law

pub wears-last : {S Sense Reading Act D : Type 0} (t : Steps S Sense Reading Act) (shows : D → Option Sense → D → Type 0) (sets : D → Commands Act → D → Type 0) (gate : GateOf) → WearsLast t shows sets gate
wears-last t shows sets gate = record {
  worn = λ tries limit first kept turns missed s devices p stopped left history r runs own none zero sound legal w is.
      let o = first.pass.opening in
      let last = goes_along tries t shows sets gate o first _ r.come runs own refl none zero in
      let seen = r.last.seen in
      let split : history ≡ seen ++ (r.more.seen.begins.0 ++ w.begins.0) = w.begins.1 ∙ ap (λ h. h ++ w.begins.0) r.more.seen.begins.1 ∙ append_assoc seen r.more.seen.begins.0 w.begins.0 in
      last_used t.machine o seen (r.more.seen.begins.0 ++ w.begins.0) history sound legal split (last.late (stopped_by gate limit (turns + missed) stopped s r.ended is));
  one_call_each = λ tries limit first kept turns missed s devices p stopped left r runs own none zero.
      let last = goes_along tries t shows sets gate first.pass.opening first _ r.come runs own refl none zero in
      subst (λ h. length h ≤ turns) (sym (subst (λ m. own_events kept.seen m ≡ own_events r.last.seen m) last.machine r.more.seen.own)) last.few;
  changes = changes-are-calls;
}
