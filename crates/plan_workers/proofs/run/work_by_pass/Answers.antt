use Rattle.std.proofs.Common.{ap, ◌∙◌}
use Rattle.plan_workers.specs.Lines.{LineView}
use Rattle.plan_workers.proofs.Jobs.{from_where_it_was, in_place_by}
use Rattle.plan_workers.proofs.Passing.{keeps_pass}
use Rattle.plan_workers.proofs.run.work_by_pass.Goals as goal

pub returns : goal.returns
returns g c =
    let made = c.new-line.ensures in
    let begun = c.going_on-worker.ensures in
    let ended = c.into_parts-controller.ensures in
    let worked = from_where_it_was g.D.PlanDevices.reads g.D.PlanDevices.drives (g.G.PlanGate.may_answer c.args.gate.now) c.args.turns c.work-turns.result c.args.job c.new-line.result c.going_on-worker.result c.work-turns.new.self
    made.pass begun.control begun.line begun.devices c.work-turns.ensures.worked in
    let plan = ap (λ (l : LineView). l.plan) ended.line ∙ (c.work-turns.ensures.table ∙ (ap (λ (l : LineView). l.plan) begun.line ∙ made.plan)) in
    let back = c.into_pass.ensures ∙ ap (λ (l : LineView). l.pass) ended.line in record {
      line = c.new-line.result;
      pass = made.pass;
      plan = made.plan;
      tries = made.tries;
      last = c.work-turns.new.self;
      worked = worked;
      pass_back = back;
      same = keeps_pass g.D.PlanDevices.reads g.D.PlanDevices.drives _ _ _ _ _ c.args.job.pass c.into_pass.result worked made.pass back;
      control = ended.control;
      in_place = in_place_by _ _ c.into_parts-controller.result.1.pass c.into_pass.result c.into_parts-controller.result.0 ended.own ended.at plan c.into_pass.ensures;
      off = ended.off;
      stopped = c.stopped_by-stopped_by.ensures ∙ ap (λ x. x.stopped) ended.control;
    }
