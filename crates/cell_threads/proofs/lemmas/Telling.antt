-- What the turns of a worker say.
use Rattle.cell_threads.proofs.Names.{◌≡◌, ℕ, ◌≤◌, Bool, true, false, inl, inr, Some, None, Ok, Err, refl, sym, ap, subst, ◌∙◌, arith, Busy, noted, Rig, Steps, PassView, Counts, Status, Fine, GateLimit, Side, passes, GateOf, WorkerMoment, Ends, HasEnded, answers_in, gate_by, HadTurns, IsFirst, WorkersTellTurns, WorkersEnd, TurnsAreTaken}
use Rattle.cell_threads.proofs.lemmas.Passes.{come_counts}
use Rattle.cell_threads.proofs.lemmas.Answering.{side_answered, line_unchanged}
use Rattle.cell_threads.proofs.lemmas.FirstSteps.{within, ends_fine, ends_kept_out, has_status_by, fine_at_once, shut_at_once, ends_begun, answers_along, let_in_along, few_along, still, shut_still, stays, once, own_at_first, noted_at_most, busy_lost, busy_counted}

no_turns : {S State : Type 0} → {first : WorkerMoment PassView S State} → IsFirst first → first.counts.turns ≡ 0
no_turns f = ap (λ (c : Counts). c.turns) f.counts

module _ {S Sense Reading Act State : Type 0} (t : Steps S Sense Reading Act) (rig : Rig State Sense Act) where
  module _ (tries : ℕ) (gate : GateOf) (first last : WorkerMoment PassView S State) (s : Status) (runs : first.side.stopped ≡ None) (none : first.counts.turns ≡ 0) where
    -- with no turns left, or never let in, a worker stays at its start
    pub no_turn_left : HasEnded (passes tries) t rig gate 0 first last s → (last ≡ first) × (s ≡ Fine)
    no_turn_left k =
        let few = within gate 0 last.side.stopped last.counts.turns s k.ends in
        let same = still tries t rig gate first last k.come (omega (arith, few, none)) in
        (same, fine_at_once gate s (ends_begun tries t rig gate 0 first last s same runs none k.ends))

    pub never_let_in : ((turn : ℕ) → ¬ gate turn true) → HasEnded (passes tries) t rig gate 5 first last s → (last ≡ first) × (s ≡ GateLimit)
    never_let_in never k =
        let same = shut_still tries t rig gate never first last k.come in
        (same, shut_at_once gate s (ends_begun tries t rig gate 5 first last s same runs none k.ends))

  -- a worker may stay where it was
  stays_there : (tries limit : ℕ) (gate : GateOf) (first last : WorkerMoment PassView S State) (s : Status) → IsFirst first → last ≡ first → Ends gate limit None 0 s → HasEnded (passes tries) t rig gate limit first last s
  stays_there tries limit gate first last s f same k =
      subst (λ m. HasEnded (passes tries) t rig gate limit first m s) (sym same)
      (stays tries t rig gate limit first s (subst (λ n. Ends gate limit first.side.stopped n s) (sym (no_turns f)) (subst (λ o. Ends gate limit o 0 s) (sym f.runs) k)))

  -- the turns of a worker
  had_turns : (tries limit : ℕ) (lets : ℕ → Bool) (first last : WorkerMoment PassView S State) (s : Status) → IsFirst first
      → HasEnded (passes tries) t rig (gate_by lets) limit first last s → HadTurns limit lets last.counts s (noted last.line.opening last.line.seen last.line.machine)
  had_turns tries limit lets first last s f k =
      let gate = gate_by lets in
      let stopped = last.side.stopped in
      record {
        within = within gate limit stopped last.counts.turns s k.ends;
        let_in = λ turn less. sym (let_in_along tries t rig gate first last k.come (no_turns f) turn less);
        fine = ends_fine gate limit stopped last.counts.turns s k.ends;
        kept_out = λ out. let kept = ends_kept_out gate limit stopped last.counts.turns s k.ends out in (kept.0, sym kept.1);
        one_answer_each = answers_along tries t rig gate first last k.come (subst (λ c. answers_in c ≤ c.turns) (sym f.counts) (omega arith));
        counted = come_counts tries t rig gate first last k.come f.seen f.counts;
      }

  pub workers_tell : WorkersTellTurns t rig
  workers_tell =
      record {
        no_turns = λ tries lets first last s f. (
          λ k. no_turn_left tries (gate_by lets) first last s f.runs (no_turns f) k,
          λ h. stays_there tries 0 (gate_by lets) first last s f h.0 (inl (h.1, refl)),
        );
        shut = λ tries first last s f. (
          λ k. never_let_in tries (gate_by (λ turn. false)) first last s f.runs (no_turns f) (λ turn e. cc) k,
          λ h. stays_there tries 5 (gate_by (λ turn. false)) first last s f h.0 (inr (h.1, omega arith, refl)),
        );
        turns = λ tries limit lets first last s f k. had_turns tries limit lets first last s f k;
        exchanges = λ tries limit lets first last s f k. few_along tries t rig (gate_by lets) first last k.come f.unused;
        once = λ tries lets first last s f k.
            let few = within (gate_by lets) 1 last.side.stopped last.counts.turns s k.ends in
            let none = no_turns f in
            once tries t rig (gate_by lets) first last k.come (omega (arith, few, none));
        first = λ tries lets first last s f k.
            let call = (t.row first.side.progress).call in
            noted_at_most call last.line.opening last.line.seen first.line.machine (own_at_first tries t rig (gate_by lets) call first last s f.seen (no_turns f) refl k);
      }

  pub ends : WorkersEnd t rig
  ends =
      record {
        status = λ tries limit lets first last s k. has_status_by (gate_by lets) limit last.side.stopped last.counts.turns s k.ends;
        counted = λ call c. (λ k. (k.done, k.read, k.refused), λ h. record { done = h.0; read = h.1; refused = h.2 });
      }

  pub turns_taken : TurnsAreTaken t rig
  turns_taken =
      record {
        stopped = λ tries lets before now fault e turn. let lie : None ≡ Some fault = sym turn.runs ∙ e in cc;
        kept_out = λ tries lets before now e turn. let lie : true ≡ false = turn.let_in ∙ e in cc;
        busy = λ tries lets before now turn call lost stamp e. (busy_lost tries t rig (gate_by lets) before now turn call lost stamp e, busy_counted tries t rig (gate_by lets) before now turn call lost stamp e);
        waits = λ tries lets before now turn call lost stamp e.
            let is = side_answered tries t rig (gate_by lets) before now turn call (Ok (Busy lost stamp)) e in
            (ap (λ (s : Side S State). s.progress) is, ap (λ (s : Side S State). s.stopped) is);
        no_memory = λ tries lets before now turn call why e.
            let is = side_answered tries t rig (gate_by lets) before now turn call (Err why) e in
            (ap (λ (s : Side S State). s.stopped) is, line_unchanged tries t rig (gate_by lets) before now turn call why e);
        unmet = λ tries lets before now turn never runs. let told = turn.motor_demands runs in never told.act told.motor_demands;
      }
