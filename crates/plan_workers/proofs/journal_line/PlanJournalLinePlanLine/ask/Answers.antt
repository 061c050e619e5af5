use Rattle.std.proofs.Common.{◌++◌, inl, refl, sym, ap, ◌∙◌, subst}
use Rattle.plan_controller.specs.Seen.{SeenAfter}
use Rattle.plan_workers.specs.Recording.{JournalLineView, JournalLineAsks, entries_in}
use Rattle.plan_workers.proofs.Asking.{sees}
use Rattle.plan_workers.proofs.Noting.{noted}
use Rattle.plan_workers.proofs.journal_line.PlanJournalLinePlanLine.ask.Goals as goal

pub invariant_of-self-2 : goal.invariant_of-self-2
invariant_of-self-2 c =
    let l = c.self.inside in
    let asked = c.ask_noted in
    let is = asked.ensures.journal ∙ ap (λ es. es ++ entries_in c.args.call asked.result) c.reserve.ensures.items in
    noted l.line.plan l.line.pass asked.new.line.pass c.args.call l.line.tries asked.result l.begun.seen l.journal.items asked.new.journal.items asked.ensures.call is c.self.invariant

pub returns-clause-asks : goal.returns-clause-asks
returns-clause-asks c =
    let l = c.self.inside in
    let asked = c.ask_noted in
    let is = asked.ensures.journal ∙ ap (λ es. es ++ entries_in c.args.call asked.result) c.reserve.ensures.items in
    let now : JournalLineView = record { line = asked.new.line; before = l.begun.seen; journal = asked.new.journal.items } in
    subst (λ (old : JournalLineView). JournalLineAsks old c.args.call c.answer_in.result now) c.self.view_is
    (inl (record {
      line = record { reply = asked.result; is = c.answer_in.ensures; call = asked.ensures.call; plan = asked.ensures.plan; tries = asked.ensures.tries };
      before = refl;
      journal = is;
    }))

pub returns-clause-seen : goal.returns-clause-seen
returns-clause-seen c =
    let l = c.self.inside in
    let asked = c.ask_noted in
    let seen = sees l.line.plan l.line.pass asked.new.line.pass c.args.call asked.result asked.ensures.call.seen asked.ensures.call.right in
    let answered = subst (λ a. SeenAfter l.line.pass.actor c.args.call a l.line.pass.seen asked.new.line.pass.seen) (sym c.answer_in.ensures) seen in
    subst (λ (old : JournalLineView). SeenAfter old.line.pass.actor c.args.call c.answer_in.result old.line.pass.seen asked.new.line.pass.seen) c.self.view_is answered
