-- A worker's turns over a line to an interlock, stated for its pass; and their effect on its journal.
use Rattle.cell_threads.proofs.Names.{◌≡◌, ℕ, ◌+◌, Bool, true, false, cond, List, [], ◌∷◌, ◌++◌, map, count_by, Some, None, Result, Ok, Err, refl, sym, ap, subst, ◌∙◌, arith, Call, Answer, Done, Shown, Refused, Entry, Reply, Settled, Busy, one_if, is_done_answer, noted, LineFault, PassView, LineView, LineAsks, PassAsks, Rig, Steps, turn_either, TurnCall, came_back, is_done_reply, is_read_reply, is_refused_reply, no_counts, counts_with, Counts, Status, Acts, Lines, passes, WorkerMoment}
use Rattle.cell_threads.proofs.Names.{worker_moment, GateOf, TakesTurn, AreTaken, HasCome, HasEnded, IsWorkerResult, AreCountsOf, last_of, is_shown_answer, is_refused_answer}
use Rattle.std.proofs.lemmas.List.Sums.{sum_by-append}
use Rattle.cell_interlock.specs.Seen.{IsSamePass}
use Rattle.cell_interlock.proofs.lemmas.Journals.{journal_by, journal-settled, journal-busy}
use Rattle.cell_unit.proofs.lemmas.Turning.{acts_map}
use Rattle.cell_threads.proofs.lemmas.Turning.{all_along}

-- the opening, the history seen and the calls of a worker's line
abbrev pub line_views : Lines LineView
line_views = record { opening = λ l. l.pass.opening; seen = λ l. l.pass.seen; asks = LineAsks }

abbrev pub by_pass : {S State : Type 0} → WorkerMoment LineView S State → WorkerMoment PassView S State
by_pass m = worker_moment m.line.pass m.side m.counts

pub unchanged_pass : (v w : PassView) → w ≡ v → IsSamePass v w
unchanged_pass v w e = record { table = ap (λ x. x.table) e; opening = ap (λ x. x.opening) e; machine = ap (λ x. x.machine) e }

pub same_after : (u v w : PassView) → IsSamePass u v → IsSamePass v w → IsSamePass u w
same_after u v w one two = record { table = two.table ∙ one.table; opening = two.opening ∙ one.opening; machine = two.machine ∙ one.machine }

-- a call leaves its pass the same
pub asks_same : (tries : ℕ) (v w : PassView) (c : Call) (r : Result Reply LineFault) → PassAsks tries v c r w → IsSamePass v w
asks_same tries v w c (Ok reply) k = k.pass
asks_same tries v w c (Err fault) k = unchanged_pass v w k

module _ {S Sense Reading Act State : Type 0} (tries : ℕ) (t : Steps S Sense Reading Act) (rig : Rig State Sense Act) (gate : GateOf) where
  -- a turn asks nothing, or makes one call
  pub by_turn : {L : Type 0} → (lines : Lines L) (before now : WorkerMoment L S State) (P : Type 0) → TakesTurn lines t rig gate before now
      → ((asked : TurnCall) → now.line ≡ before.line → asked ≡ None → now.counts ≡ counts_with before.counts asked → P)
      → ((asked : TurnCall) (c : Call) (r : Result Reply LineFault) → lines.asks before.line c r now.line → asked ≡ Some (c, r) → now.counts ≡ counts_with before.counts asked → P) → P
  by_turn lines before now P k f g =
      turn_either t ((now.line ≡ before.line) × (k.asked ≡ None)) (λ c r. lines.asks before.line c r now.line × (k.asked ≡ Some (c, r))) P
      (λ h. f k.asked h.0 h.1 k.counted) (λ c r h. g k.asked c r h.0 h.1 k.counted) before.side.stopped before.side.progress k.row.acts.sense k.row.acts.turned k.row.acts.row

  -- ---- lines and passes

  acts_by_pass : (before now : WorkerMoment LineView S State) → before.line.tries ≡ tries → (k : TakesTurn line_views t rig gate before now)
      → Acts t rig (now.line.pass ≡ before.line.pass) (λ c r. PassAsks tries before.line.pass c r now.line.pass) before.side k.asked k.row.set
  acts_by_pass before now e k =
      acts_map t rig (now.line ≡ before.line) (now.line.pass ≡ before.line.pass) (λ c r. LineAsks before.line c r now.line) (λ c r. PassAsks tries before.line.pass c r now.line.pass)
      (λ same. ap (λ l. l.pass) same) (λ c r a. subst (λ n. PassAsks n before.line.pass c r now.line.pass) e a.call) before.side k.row.set k.asked k.row.acts

  turn_by_pass : (before now : WorkerMoment LineView S State) → before.line.tries ≡ tries → TakesTurn line_views t rig gate before now → TakesTurn (passes tries) t rig gate (by_pass before) (by_pass now)
  turn_by_pass before now e k =
      record {
        runs = k.runs;
        let_in = k.let_in;
        asked = k.asked;
        row = record { set = k.row.set; acts = acts_by_pass before now e k; moved = k.row.moved };
        motor_demands = k.motor_demands;
        counted = k.counted;
      }

  same_tries : (before now : WorkerMoment LineView S State) → TakesTurn line_views t rig gate before now → now.line.tries ≡ before.line.tries
  same_tries before now k = by_turn line_views before now _ k (λ asked same nothing counted. ap (λ l. l.tries) same) (λ asked c r asks is counted. asks.tries)

  turns_by_pass : (before : WorkerMoment LineView S State) (turns : List (WorkerMoment LineView S State)) → before.line.tries ≡ tries → AreTaken (TakesTurn line_views t rig gate) before turns → AreTaken (TakesTurn (passes tries) t rig gate) (by_pass before) (map by_pass turns)
  turns_by_pass before [] e k = tt
  turns_by_pass before (now ∷ later) e k = (turn_by_pass before now e k.0, turns_by_pass now later (same_tries before now k.0 ∙ e) k.1)

  last_by_pass : (first : WorkerMoment LineView S State) (turns : List (WorkerMoment LineView S State)) → last_of (by_pass first) (map by_pass turns) ≡ by_pass (last_of first turns)
  last_by_pass first [] = refl
  last_by_pass first (now ∷ later) = last_by_pass now later

  pub come_by_pass : (first now : WorkerMoment LineView S State) → first.line.tries ≡ tries → HasCome line_views t rig gate first now → HasCome (passes tries) t rig gate (by_pass first) (by_pass now)
  come_by_pass first now e k = record { turns = map by_pass k.turns; taken = turns_by_pass first k.turns e k.taken; last = last_by_pass first k.turns ∙ ap by_pass k.last }

  -- ---- what all turns keep

  turn_same : (before now : WorkerMoment PassView S State) → TakesTurn (passes tries) t rig gate before now → IsSamePass before.line now.line
  turn_same before now k =
      by_turn (passes tries) before now _ k (λ asked same nothing counted. unchanged_pass before.line now.line same) (λ asked c r asks is counted. asks_same tries before.line now.line c r asks)

  -- the pass remains the same: of its interlock and its machine
  pub come_same : (first now : WorkerMoment PassView S State) → HasCome (passes tries) t rig gate first now → IsSamePass first.line now.line
  come_same first now k =
      all_along (TakesTurn (passes tries) t rig gate) (λ m. IsSamePass first.line m.line) (λ before after step old. same_after first.line before.line after.line old (turn_same before after step))
      first now k (unchanged_pass first.line first.line refl)

-- ---- counts

as_a_test : (b : Bool) (n : ℕ) → n + (0 + cond b 1 0) ≡ n + one_if b
as_a_test true n = refl
as_a_test false n = refl

count-append : {X : Type 0} → (p : X → Bool) (xs : List X) (x : X) → count_by p (xs ++ x ∷ []) ≡ count_by p xs + one_if (p x)
count-append p xs x = sum_by-append (λ y. cond (p y) 1 0) xs (x ∷ []) ∙ as_a_test (p x) (count_by p xs)

one_more : (p : Entry → Bool) (journal now : List Entry) (e : Entry) (k n : ℕ) → now ≡ journal ++ e ∷ [] → n ≡ k + one_if (p e) → k ≡ count_by p journal → n ≡ count_by p now
one_more p journal now e k n is more old = more ∙ ap (λ x. x + one_if (p e)) old ∙ sym (count-append p journal e) ∙ sym (ap (count_by p) is)

-- an answer is counted in the same way as a reply and as an entry
same_done : (c : Call) (a : Answer) (stamp : ℕ) → came_back is_done_reply (Some (c, Ok (Settled a stamp))) ≡ is_done_answer a
same_done c Done stamp = refl
same_done c (Shown owner flag posture) stamp = refl
same_done c (Refused refusal) stamp = refl

same_read : (c : Call) (a : Answer) (stamp : ℕ) → came_back is_read_reply (Some (c, Ok (Settled a stamp))) ≡ is_shown_answer a
same_read c Done stamp = refl
same_read c (Shown owner flag posture) stamp = refl
same_read c (Refused refusal) stamp = refl

same_refused : (c : Call) (a : Answer) (stamp : ℕ) → came_back is_refused_reply (Some (c, Ok (Settled a stamp))) ≡ is_refused_answer a
same_refused c Done stamp = refl
same_refused c (Shown owner flag posture) stamp = refl
same_refused c (Refused refusal) stamp = refl

-- a settled call is counted like its entry
settled_counts : (journal now : List Entry) (c : Call) (a : Answer) (stamp : ℕ) (k n : Counts) → now ≡ journal ++ record { call = c; answer = a; stamp = stamp } ∷ [] → n ≡ counts_with k (Some (c, Ok (Settled a stamp))) → AreCountsOf journal k → AreCountsOf now n
settled_counts journal now c a stamp k n is more old =
    let e : Entry = record { call = c; answer = a; stamp = stamp } in
    record {
      done = one_more (λ x. is_done_answer x.answer) journal now e k.done n.done is (ap (λ x. x.done) more ∙ ap (λ b. k.done + one_if b) (same_done c a stamp)) old.done;
      read = one_more (λ x. is_shown_answer x.answer) journal now e k.read n.read is (ap (λ x. x.read) more ∙ ap (λ b. k.read + one_if b) (same_read c a stamp)) old.read;
      refused = one_more (λ x. is_refused_answer x.answer) journal now e k.refused n.refused is (ap (λ x. x.refused) more ∙ ap (λ b. k.refused + one_if b) (same_refused c a stamp)) old.refused;
    }

-- a turn that settles nothing is counted, but no settled call is
quiet_counts : (journal now : List Entry) (asked : TurnCall) (k n : Counts) → now ≡ journal → n ≡ counts_with k asked → came_back is_done_reply asked ≡ false → came_back is_read_reply asked ≡ false → came_back is_refused_reply asked ≡ false → AreCountsOf journal k → AreCountsOf now n
quiet_counts journal now asked k n is more no_done no_read no_refusal old =
    record {
      done = ap (λ x. x.done) more ∙ ap (λ b. k.done + one_if b) no_done ∙ omega arith ∙ old.done ∙ sym (ap (count_by (λ e. is_done_answer e.answer)) is);
      read = ap (λ x. x.read) more ∙ ap (λ b. k.read + one_if b) no_read ∙ omega arith ∙ old.read ∙ sym (ap (count_by (λ e. is_shown_answer e.answer)) is);
      refused = ap (λ x. x.refused) more ∙ ap (λ b. k.refused + one_if b) no_refusal ∙ omega arith ∙ old.refused ∙ sym (ap (count_by (λ e. is_refused_answer e.answer)) is);
    }

asked_counts : (tries : ℕ) (v w : PassView) (c : Call) (r : Result Reply LineFault) (k n : Counts) → PassAsks tries v c r w → n ≡ counts_with k (Some (c, r)) → AreCountsOf (journal_by v) k → AreCountsOf (journal_by w) n
asked_counts tries v w c (Ok (Settled a stamp)) k n asks more old = settled_counts (journal_by v) (journal_by w) c a stamp k n (journal-settled v w c tries a stamp asks) more old
asked_counts tries v w c (Ok (Busy lost stamp)) k n asks more old = quiet_counts (journal_by v) (journal_by w) (Some (c, Ok (Busy lost stamp))) k n (journal-busy v w c tries lost stamp asks) more refl refl refl old
asked_counts tries v w c (Err fault) k n asks more old = quiet_counts (journal_by v) (journal_by w) (Some (c, Err fault)) k n (ap journal_by asks) more refl refl refl old

module _ {S Sense Reading Act State : Type 0} (tries : ℕ) (t : Steps S Sense Reading Act) (rig : Rig State Sense Act) (gate : GateOf) where
  turn_counts : (before now : WorkerMoment PassView S State) → TakesTurn (passes tries) t rig gate before now → AreCountsOf (journal_by before.line) before.counts → AreCountsOf (journal_by now.line) now.counts
  turn_counts before now k old =
      by_turn tries t rig gate (passes tries) before now _ k
      (λ asked same nothing counted. quiet_counts (journal_by before.line) (journal_by now.line) None before.counts now.counts (ap journal_by same) (counted ∙ ap (counts_with before.counts) nothing) refl refl refl old)
      (λ asked c r asks is counted. asked_counts tries before.line now.line c r before.counts now.counts asks (counted ∙ ap (counts_with before.counts) is) old)

  -- the counts of a worker agree with its journal
  pub come_counts : (first now : WorkerMoment PassView S State) → HasCome (passes tries) t rig gate first now → first.line.seen ≡ [] → first.counts ≡ no_counts → AreCountsOf (journal_by now.line) now.counts
  come_counts first now k seen counts =
      let empty : journal_by first.line ≡ [] = ap (λ h. noted first.line.opening h first.line.machine) seen in
      all_along (TakesTurn (passes tries) t rig gate) (λ m. AreCountsOf (journal_by m.line) m.counts) turn_counts first now k
      (subst (λ j. AreCountsOf j first.counts) (sym empty) (subst (AreCountsOf []) (sym counts) (record { done = refl; read = refl; refused = refl })))

  -- what a worker gives back
  pub gives_back : (limit : ℕ) (first last : WorkerMoment LineView S State) (status : Status) → first.line.tries ≡ tries → first.line.pass.seen ≡ [] → first.counts ≡ no_counts → HasEnded line_views t rig gate limit first last status
      → (pass : PassView) (journal : List Entry) (counts : Counts) (part : State) → pass ≡ last.line.pass → journal ≡ noted pass.opening pass.seen pass.machine → counts ≡ last.counts → part ≡ last.side.part
      → IsWorkerResult tries t rig gate limit (by_pass first) pass journal counts status part
  gives_back limit first last status e seen none worked pass journal counts part is noted_all counted stands =
      let come = come_by_pass tries t rig gate first last e worked.come in
      let same : IsSamePass first.line.pass pass = subst (IsSamePass first.line.pass) (sym is) (come_same tries t rig gate (by_pass first) (by_pass last) come) in
      record {
        last = by_pass last;
        worked = record { come = come; ends = worked.ends };
        pass = sym is;
        same = same;
        counts = sym counted;
        part = sym stands;
        journal_is = noted_all ∙ (λ i. noted (same.opening i) pass.seen (same.machine i));
        counted = subst (λ j. AreCountsOf j counts) (ap journal_by (sym is) ∙ sym noted_all) (subst (AreCountsOf (journal_by last.line.pass)) (sym counted) (come_counts (by_pass first) (by_pass last) come seen none));
      }
