use Rattle.std.proofs.Common.{sym, subst}
use Rattle.plan_controller.specs.Seen.{SeenAfter}
use Rattle.plan_workers.proofs.Asking.{sees}
use Rattle.plan_workers.proofs.pass_line.PlanPassLinePlanLine.ask.Goals as goal

pub returns-clause-seen : goal.returns-clause-seen
returns-clause-seen c =
    let l = c.args.self.now in
    let asked = c.reply_to in
    let seen = sees l.plan l.pass asked.new.self.pass c.args.call asked.result asked.ensures.call.seen asked.ensures.call.right in
    subst (λ a. SeenAfter l.pass.actor c.args.call a l.pass.seen asked.new.self.pass.seen) (sym c.answer_in.ensures) seen
