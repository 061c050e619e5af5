-- The progress of a simulation: the run so far, and what was noted of it.
use Rattle.cell_plant.proofs.Names.{◌≡◌, ℕ, ◌<◌, ◌≤◌, Bool, true, false, ◌&&◌, cond, List, [], ◌∷◌, ◌++◌, append-nil, length, take, map, count_by, Some, None, Result, Ok, Err, refl, sym, ap, ◌∙◌, subst, if◌then◌else◌, arith, length-take-le, count_by-le-length, Machine, Feed, Table, Robot, Press, Deposit, Crane, Watch, Call, Answer, Event, Entry, Reply, Settled, Busy, all_machines, same_machine, ModelState, noted, entry_of, after, IsLegal}
use Rattle.cell_plant.proofs.Names.{IsStartState, LineFault, after-append, noted-append, legal-append, turn_either, TurnCall, is_done_reply, is_read_reply, is_refused_reply, is_busy_reply, settled_in, Notes, no_notes, HasRoom, counts_with, notes_with, at_machine, in_order, Counts, RunRecord, Turn, entries_in, Answers, CellScales, CellGauges, steps_by, CellState, plant_of, cell_at_start, Step, TakesTurnBy, LeadsIfBy, LeadsBy, goes_on, IsRunBy, end_of}
use Rattle.cell_plant.proofs.Names.{is_turn_of, is_told, counts_in, events_in, positions_in, TellsRun, RunMoment, StepsOn, IsRecordSoFar, first_moment, state_at, statuses_in}
use Rattle.cell_parts.specs.Axes.{AreCellScales}
use Rattle.cell_plant.proofs.lemmas.Gauged.{run_near}
use Rattle.cell_plant.proofs.lemmas.KeptRuns.{own_program_by}
use Rattle.cell_plant.proofs.LongerRuns.{run-push, end-push, run-length, events-push, counts-push}
use Rattle.cell_plant.proofs.SafeRuns.{every_run}

-- the replies of the interlock in a step
pub record IsAnswered (s : ModelState) (m : Machine) (asked : TurnCall) (t : ModelState) : Type 0 where
  pub legal : IsLegal s (settled_in m asked)
  pub reached : t ≡ after s (settled_in m asked)
  pub entries : (n : Machine) → noted s (settled_in m asked) n ≡ (if same_machine m n then entries_in asked else [])

none_noted : (b : Bool) (es : List Entry) → es ≡ [] → es ≡ (if b then es else [])
none_noted true es e = refl
none_noted false es e = e

abbrev entry_at : Call → Answer → ℕ → Entry
entry_at c a n = record { call = c; answer = a; stamp = n }

answered_none : (s : ModelState) (m : Machine) (asked : TurnCall) (t : ModelState) → (t ≡ s) × (asked ≡ None) → IsAnswered s m asked t
answered_none s m asked t k = subst (λ a. IsAnswered s m a t) (sym k.1) (record { legal = tt; reached = k.0; entries = λ n. none_noted (same_machine m n) [] refl })

one_noted : (b : Bool) (s : ModelState) (e : Event) (x : Entry) → entry_of s e ≡ x → cond b (entry_of s e ∷ []) [] ≡ (if b then x ∷ [] else [])
one_noted true s e x k = ap (λ y. y ∷ []) k
one_noted false s e x k = refl

answered_by : (s : ModelState) (m : Machine) (busy : Bool) (c : Call) (r : Result Reply LineFault) (t : ModelState) → Answers s m busy c r t → IsAnswered s m (Some (c, r)) t
answered_by s m busy c (Ok (Settled a stamp)) t k =
    let e : Event = record { machine = m; call = c; answer = a } in
    record {
      legal = (k.1, tt);
      reached = k.3;
      entries = λ n. one_noted (same_machine m n) s e (record { call = c; answer = a; stamp = stamp }) (ap (λ z. entry_at c a z) (ap (λ x. x.stamp) (sym k.3) ∙ sym k.2));
    }
answered_by s m busy c (Ok (Busy lost stamp)) t k = record { legal = tt; reached = k.3; entries = λ n. none_noted (same_machine m n) [] refl }
answered_by s m busy c (Err fault) t k = record { legal = tt; reached = k.1; entries = λ n. none_noted (same_machine m n) [] refl }

answered_once : (s : ModelState) (m : Machine) (busy : Bool) (asked : TurnCall) (t : ModelState) (c : Call) (r : Result Reply LineFault) → Answers s m busy c r t × (asked ≡ Some (c, r)) → IsAnswered s m asked t
answered_once s m busy asked t c r k = subst (λ a. IsAnswered s m a t) (sym k.1) (answered_by s m busy c r t k.0)

answered_taken : (c : CellScales) (gives : CellGauges) (m : Machine) (busy : Bool) (w : CellState) (s : Step) → TakesTurnBy c gives m busy w s → IsAnswered w.interlock m s.asked s.moved.interlock
answered_taken c gives m busy w s k =
    let t = steps_by c gives m in
    let z = w.interlock in
    let y = s.set.interlock in
    subst (λ x. IsAnswered z m s.asked x) (sym k.interlock)
    (subst (λ x. IsAnswered z x s.asked y) (own_program_by c gives m)
    (turn_either t ((y ≡ z) × (s.asked ≡ None)) (λ q r. Answers z t.machine busy q r y × (s.asked ≡ Some (q, r))) (IsAnswered z t.machine s.asked y) (answered_none z t.machine s.asked y) (answered_once z t.machine busy s.asked y) (w.side m).stopped (w.side m).progress
    k.takes.sense k.takes.turned k.takes.row))

answered_if : (b : Bool) (c : CellScales) (gives : CellGauges) (m : Machine) (busy : Bool) (w : CellState) (s : Step) → LeadsIfBy b c gives m busy w s → IsAnswered w.interlock m s.asked s.moved.interlock
answered_if true c gives m busy w s k = answered_taken c gives m busy w s k
answered_if false c gives m busy w s k = answered_none w.interlock m s.asked s.moved.interlock (ap (λ x. x.interlock) k.moved, k.asked)

-- a turn that isn't taken asks nothing
none_asked : (b : Bool) (c : CellScales) (gives : CellGauges) (m : Machine) (busy : Bool) (w : CellState) (s : Step) → LeadsIfBy b c gives m busy w s → s.taken ≡ false → entries_in s.asked ≡ []
none_asked true c gives m busy w s k e = let f : true ≡ false = sym k.taken ∙ e in cc
none_asked false c gives m busy w s k e = ap entries_in k.asked

-- the events of a run are a legal history, which leads to its end
pub run-lawful : (c : CellScales) (gives : CellGauges) (w : CellState) (ts : List Turn) (ss : List Step) → IsRunBy c gives w ts ss → IsLegal w.interlock (events_in ss) × ((end_of w ss).interlock ≡ after w.interlock (events_in ss))
run-lawful c gives w [] [] r = (tt, refl)
run-lawful c gives w (t ∷ ts) (s ∷ ss) r =
    let own = settled_in s.machine s.asked in
    let k = subst (λ m. IsAnswered w.interlock m s.asked s.moved.interlock) (sym r.0) (answered_if (goes_on w t.machine) c gives t.machine t.busy w s r.1.0) in
    let more = run-lawful c gives s.moved ts ss r.1.1 in (
      legal-append w.interlock own (events_in ss) k.legal (subst (λ z. IsLegal z (events_in ss)) k.reached more.0),
      more.1 ∙ ap (λ z. after z (events_in ss)) k.reached ∙ sym (after-append w.interlock own (events_in ss)),
    )
run-lawful c gives w _ _ r = absurd r

-- the run of the turns so far, and what was noted of it
pub record RunSoFar {G : Type 0} (gives : G → CellGauges) (turns : List Turn) (m : RunMoment G) : Type 0 where
  pub steps : List Step
  pub run : IsRunBy m.scales (gives m.gauges) (cell_at_start m.opening) turns steps
  pub is_end : state_at m ≡ end_of (cell_at_start m.opening) steps
  pub history : m.history ≡ events_in steps
  pub reached : m.interlock ≡ after m.opening m.history
  pub counts : (n : Machine) → (at_machine m.notes n).counts ≡ counts_in steps n
  pub journals : (n : Machine) → (at_machine m.notes n).journal ≡ noted m.opening m.history n

no_notes_yet : {G : Type 0} → (c : CellScales) (five : G) (opening : ModelState) (n : Machine) → at_machine (first_moment c five opening).notes n ≡ no_notes
no_notes_yet c five opening Feed = refl
no_notes_yet c five opening _ = refl

pub at_start : {G : Type 0} → (gives : G → CellGauges) (c : CellScales) (five : G) (opening : ModelState) → RunSoFar gives [] (first_moment c five opening)
at_start gives c five opening = record { steps = []; run = tt; is_end = refl; history = refl; reached = refl; counts = λ n. ap (λ (x : Notes). x.counts) (no_notes_yet c five opening n); journals = λ n. ap (λ (x : Notes). x.journal) (no_notes_yet c five opening n) }

journal_more : (b : Bool) (n : Notes) (asked : TurnCall) → (if b then notes_with n asked else n).journal ≡ n.journal ++ (if b then entries_in asked else [])
journal_more true n asked = refl
journal_more false n asked = sym (append-nil n.journal)

counts_more : (b : Bool) (n : Notes) (asked : TurnCall) → (if b then notes_with n asked else n).counts ≡ (if b then counts_with n.counts asked else n.counts)
counts_more true n asked = refl
counts_more false n asked = refl

entries_if : (taken own : Bool) (es : List Entry) → (taken ≡ false → es ≡ []) → (if taken && own then es else []) ≡ (if own then es else [])
entries_if true own es k = refl
entries_if false true es k = sym (k refl)
entries_if false false es k = refl

module _ {G : Type 0} (gives : G → CellGauges) (turns : List Turn) (t : Turn) (before now : RunMoment G) (asked : TurnCall) (g : RunSoFar gives turns before) (o : StepsOn gives t before now asked) where
  abbrev given : CellGauges
  given = gives before.gauges

  abbrev s : Step
  s = o.step

  abbrev start : CellState
  start = cell_at_start before.opening

  answered : IsAnswered before.interlock t.machine s.asked s.moved.interlock
  answered = answered_if (goes_on (state_at before) t.machine) before.scales given t.machine t.busy (state_at before) s o.leads

  count_next : (n : Machine) → (at_machine now.notes n).counts ≡ counts_in (g.steps ++ s ∷ []) n
  count_next n =
      ap (λ (x : Notes). x.counts) (o.notes n)
      ∙ counts_more (s.taken && same_machine t.machine n) (at_machine before.notes n) s.asked
      ∙ ap (λ (x : Counts). if s.taken && same_machine t.machine n then counts_with x s.asked else x) (g.counts n)
      ∙ ap (λ (x : Machine). if s.taken && same_machine x n then counts_with (counts_in g.steps n) s.asked else counts_in g.steps n) (sym o.machine)
      ∙ sym (counts-push g.steps s n)

  journal_next : (n : Machine) → (at_machine now.notes n).journal ≡ noted before.opening (before.history ++ settled_in t.machine s.asked) n
  journal_next n =
      ap (λ (x : Notes). x.journal) (o.notes n)
      ∙ journal_more (s.taken && same_machine t.machine n) (at_machine before.notes n) s.asked
      ∙ ap (λ es. (at_machine before.notes n).journal ++ es) (entries_if s.taken (same_machine t.machine n) (entries_in s.asked) (none_asked (goes_on (state_at before) t.machine) before.scales given t.machine t.busy (state_at before) s o.leads) ∙ sym (answered.entries n))
      ∙ ap (λ es. es ++ noted before.interlock (settled_in t.machine s.asked) n) (g.journals n)
      ∙ ap (λ z. noted before.opening before.history n ++ noted z (settled_in t.machine s.asked) n) g.reached
      ∙ sym (noted-append before.opening before.history (settled_in t.machine s.asked) n)

  -- the same, by the opening, the scales and the gauges of the beginning
  pub next_by : RunSoFar gives (turns ++ t ∷ []) (record now { scales = before.scales; gauges = before.gauges; opening = before.opening })
  next_by =
      record {
        steps = g.steps ++ s ∷ [];
        run = run-push before.scales given start turns g.steps t s g.run o.machine (subst (λ w. LeadsBy before.scales given t.machine t.busy w s) g.is_end o.leads);
        is_end = o.state ∙ sym (end-push start g.steps s);
        history = o.history ∙ ap (λ x. x ++ settled_in t.machine s.asked) g.history ∙ ap (λ m. events_in g.steps ++ settled_in m s.asked) (sym o.machine) ∙ sym (events-push g.steps s);
        reached =
            ap (λ w. w.interlock) o.state
            ∙ answered.reached
            ∙ ap (λ x. after x (settled_in t.machine s.asked)) g.reached
            ∙ sym (after-append before.opening before.history (settled_in t.machine s.asked))
            ∙ ap (after before.opening) (sym o.history);
        counts = count_next;
        journals = λ n. journal_next n ∙ ap (λ h. noted before.opening h n) (sym o.history);
      }

  pub next_steps : next_by.steps ≡ g.steps ++ s ∷ []
  unfolding next_by
  next_steps = refl

-- there is room for one more turn
below : (a b i : ℕ) → a ≤ b → b ≡ i → i < 18446744073709551615 → a < 18446744073709551615
below a b i h e l = omega arith

pub room_left : {G : Type 0} → (gives : G → CellGauges) (turns : List Turn) (m : RunMoment G) (i : ℕ) → RunSoFar gives turns m → length turns ≡ i → i < 18446744073709551615 → (n : Machine) → HasRoom (at_machine m.notes n).counts
room_left gives turns m i g e l n =
    let long = run-length m.scales (gives m.gauges) (cell_at_start m.opening) turns g.steps g.run ∙ e in
    let some = λ (p : Step → Bool). below (count_by p g.steps) (length g.steps) i (count_by-le-length p g.steps) long l in
    subst HasRoom (sym (g.counts n))
    (record { turns = some (is_turn_of n); done = some (is_told is_done_reply n); read = some (is_told is_read_reply n); refused = some (is_told is_refused_reply n); busy = some (is_told is_busy_reply n) })

pub taken-length : (i : ℕ) (ts : List Turn) → i < length ts → length (take i ts) ≡ i
taken-length i ts h = length-take-le i ts (omega arith)

-- the record of a run
by_machine : {A : Type 0} → (f g : Machine → A) → ((n : Machine) → f n ≡ g n) → map f all_machines ≡ map g all_machines
by_machine f g e = rw (e Feed, e Table, e Robot, e Press, e Deposit, e Crane, e Watch) refl

pub tells : {G : Type 0} → (gives : G → CellGauges) (turns : List Turn) (m : RunMoment G) (r : RunRecord) → AreCellScales m.scales → IsStartState m.opening → RunSoFar gives turns m → IsRecordSoFar m m.opening r → TellsRun m.scales (gives m.gauges) m.opening turns r
tells gives turns m r scales start g k =
    let lawful = run-lawful m.scales (gives m.gauges) (cell_at_start m.opening) turns g.steps g.run in
    record {
      steps = g.steps;
      run = g.run;
      told = record {
        start = k.start;
        counts = k.counts ∙ by_machine (λ n. (at_machine m.notes n).counts) (counts_in g.steps) g.counts;
        status = k.status ∙ ap (λ w. in_order (statuses_in w)) g.is_end;
        journals = λ n. k.journals n ∙ g.journals n ∙ ap (λ x. noted m.opening x n) g.history;
        end = k.end ∙ ap (λ (w : CellState). Some w.interlock) g.is_end;
        axes = k.axes ∙ ap (λ (w : CellState). positions_in (plant_of w)) g.is_end;
      };
      safe = every_run m.scales m.opening turns g.steps scales start (run_near m.scales (gives m.gauges) (cell_at_start m.opening) turns g.steps g.run);
      legal = lawful.0;
      reached = lawful.1;
    }

pub told_steps : {G : Type 0} → (gives : G → CellGauges) (turns : List Turn) (m : RunMoment G) (r : RunRecord) (scales : AreCellScales m.scales) (starts : IsStartState m.opening) (g : RunSoFar gives turns m) (k : IsRecordSoFar m m.opening r) → (tells gives turns m r scales starts g k).steps ≡ g.steps
unfolding tells
told_steps gives turns m r scales starts g k = refl
