use Rattle.std.proofs.Common.{ap, ◌∙◌, subst}
use Rattle.plan_workers.specs.Journals.{IsJournal}
use Rattle.plan_workers.specs.Recording.{JournalLineView}
use Rattle.plan_workers.proofs.Jobs.{in_place_by}
use Rattle.plan_workers.proofs.Recording.{from_where_it_was, keeps_journal, keeps_pass}
use Rattle.plan_workers.proofs.record.record_by_pass.Goals as goal

pub returns : goal.returns
returns g c =
    let made = c.new-line.ensures in
    let begun = c.going_on-worker.ensures in
    let ended = c.into_parts-controller.ensures in
    let parts = c.into_parts-pass.ensures in
    let reads = g.D.PlanDevices.reads in
    let drives = g.D.PlanDevices.drives in
    let back = c.into_parts-pass.result.0 in
    let worked = from_where_it_was reads drives (g.G.PlanGate.may_answer c.args.gate.now) c.args.turns c.work-turns.result c.args.job c.new-line.result c.going_on-worker.result c.work-turns.new.self
    made.pass begun.control begun.line begun.devices c.work-turns.ensures.worked in
    let plan = ap (λ (l : JournalLineView). l.line.plan) ended.line ∙ (c.work-turns.ensures.table ∙ (ap (λ (l : JournalLineView). l.line.plan) begun.line ∙ made.plan)) in
    let pass_back = parts.pass ∙ ap (λ (l : JournalLineView). l.line.pass) ended.line in
    let same = keeps_pass reads drives _ _ _ _ _ c.args.job.pass back worked made.pass pass_back in
    let journal = subst (λ (l : JournalLineView). IsJournal back.opening.stamp back.actor l.before back.seen c.into_parts-pass.result.1.items) ended.line parts.own in record {
      line = c.new-line.result;
      pass = made.pass;
      plan = made.plan;
      tries = made.tries;
      empty = made.empty;
      last = c.work-turns.new.self;
      worked = worked;
      pass_back = pass_back;
      same = same;
      control = ended.control;
      in_place = in_place_by _ _ c.into_parts-controller.result.1.line.pass back c.into_parts-controller.result.0 ended.own ended.at plan parts.pass;
      off = ended.off;
      stopped = c.stopped_by-stopped_by.ensures ∙ ap (λ x. x.stopped) ended.control;
      journal = keeps_journal reads drives _ _ _ _ _ c.args.job.pass back c.into_parts-pass.result.1.items worked same made.before journal;
    }
