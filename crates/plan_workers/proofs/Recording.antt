-- A machine's turns over a line that keeps a journal.
use Rattle.std.proofs.Common.{◌≡◌, ℕ, inl, inr, List, [], ◌∷◌, Option, ap, refl, sym, ◌∙◌, subst}
use Rattle.plan_types.specs.declared.call.Call.{Call}
use Rattle.plan_types.specs.declared.answer.Answer.{Answer}
use Rattle.plan_types.specs.declared.answer.Event.{Event}
use Rattle.plan_rules.specs.declared.state.State.{State}
use Rattle.word_interlock.specs.Seen.{IsSamePass}
use Rattle.plan_workers.specs.declared.run.PlanJob.{PlanJob}
use Rattle.plan_workers.specs.declared.journal.PlanEntry.{PlanEntry}
use Rattle.plan_workers.specs.Lines.{PlanPassView}
use Rattle.plan_workers.specs.Works.{AtWork, at_work}
use Rattle.plan_workers.specs.Turning.{GateOf, TakesTurn, AreTaken, HasWorked, last_of}
use Rattle.plan_workers.specs.Journals.{IsJournal}
use Rattle.plan_workers.specs.Recording.{JournalLineView, JournalLineAsks, by_journal}
use Rattle.plan_workers.proofs.Jobs.{at_work_is}
use Rattle.plan_workers.proofs.Passing.{after_turn, same_again, same_on}

-- a line keeps its pass, and what this had seen when it was made
pub record Stays (l d : JournalLineView) : Type 0 where
  pub same : IsSamePass l.line.pass d.line.pass
  pub before : d.before ≡ l.before

pub stays_again : (l : JournalLineView) → Stays l l
stays_again l = record { same = same_again l.line.pass; before = refl }

pub stays_on : (l d e : JournalLineView) → Stays l d → Stays d e → Stays l e
stays_on l d e f g = record { same = same_on l.line.pass d.line.pass e.line.pass f.same g.same; before = g.before ∙ f.before }

pub asked_stays : (l d : JournalLineView) (c : Call) (a : Option Answer) → JournalLineAsks l c a d → Stays l d
asked_stays l d c a (inl n) = record { same = n.line.call.pass; before = n.before }
asked_stays l d c a (inr u) = subst (λ e. Stays l e) (sym u.same) (stays_again l)

module _ {D : Type 0} (reads : D → Option ℕ → D → Type 0) (drives : D → ℕ → D → Type 0) where
  in_turn : (before now : AtWork JournalLineView D) → TakesTurn (by_journal reads drives) before now → Stays before.line now.line
  in_turn before now t =
      after_turn before.control now.control _ _ t.turn.taken.motors (Stays before.line now.line)
      (λ e. subst (λ l. Stays before.line l) (sym e.0) (stays_again before.line)) (λ call a asked. asked_stays before.line now.line call a asked.0) t.turn.sensors t.turns

  in_turns : (first : AtWork JournalLineView D) (turns : List (AtWork JournalLineView D)) → AreTaken (by_journal reads drives) first turns → Stays first.line (last_of first turns).line
  in_turns first [] k = stays_again first.line
  in_turns first (now ∷ later) k = stays_on first.line now.line (last_of now later).line (in_turn first now k.0) (in_turns now later k.1)

  worked_stays : (gate : GateOf) (limit took : ℕ) (first last : AtWork JournalLineView D) → HasWorked (by_journal reads drives) gate limit first last took → Stays first.line last.line
  worked_stays gate limit took first last k = subst (λ (x : AtWork JournalLineView D). Stays first.line x.line) k.come.is_last (in_turns first k.come.turns k.come.taken)

  pub keeps_pass : (gate : GateOf) (limit took : ℕ) (first last : AtWork JournalLineView D) (got back : PlanPassView) → HasWorked (by_journal reads drives) gate limit first last took → first.line.line.pass ≡ got → back ≡ last.line.line.pass
      → IsSamePass got back
  keeps_pass gate limit took first last got back k from to =
      subst (λ v. IsSamePass got v) (sym to) (subst (λ v. IsSamePass v last.line.line.pass) from (worked_stays gate limit took first last k).same)

  -- the journal that it gives back is of all that its pass has seen meanwhile
  pub keeps_journal : (gate : GateOf) (limit took : ℕ) (first last : AtWork JournalLineView D) (got back : PlanPassView) (journal : List PlanEntry) → HasWorked (by_journal reads drives) gate limit first last took → IsSamePass got back
      → first.line.before ≡ got.seen → IsJournal back.opening.stamp back.actor last.line.before back.seen journal → IsJournal got.opening.stamp got.actor got.seen back.seen journal
  keeps_journal gate limit took first last got back journal k same from j =
      let s = worked_stays gate limit took first last k in
      let opened = ap (λ (o : State). o.stamp) same.opening in
      let P : ℕ → ℕ → List Event → Type 0 = λ n m before. IsJournal n m before back.seen journal in
      subst (λ n. P n got.actor got.seen) opened (subst (λ m. P back.opening.stamp m got.seen) same.actor (subst (λ before. P back.opening.stamp back.actor before) (s.before ∙ from) j))

  pub from_where_it_was : (gate : ℕ → GateOf) (limit took : ℕ) (job : PlanJob D) (line : JournalLineView) (w last : AtWork JournalLineView D) → line.line.pass ≡ job.pass
      → w.control ≡ job.controller → w.line ≡ line → w.devices ≡ job.devices
      → HasWorked (by_journal reads drives) (gate w.line.line.pass.actor) limit w last took
      → HasWorked (by_journal reads drives) (gate job.pass.actor) limit (at_work job.controller line job.devices) last took
  from_where_it_was gate limit took job line w last pass begins on with worked =
      let is = at_work_is w job.controller line job.devices begins on with in
      let here = subst (λ (x : AtWork JournalLineView D). HasWorked (by_journal reads drives) (gate x.line.line.pass.actor) limit x last took) is worked in
      subst (λ (m : ℕ). HasWorked (by_journal reads drives) (gate m) limit (at_work job.controller line job.devices) last took) (ap (λ v. v.actor) pass) here
