use Rattle.plan_controller.proofs.lemmas.Caring.{careful}
use Rattle.plan_controller.proofs.lemmas.Permitting.{running, permitted}
use Rattle.plan_controller.proofs.controller.PlanController.turn.Goals as goal

pub returns-clause-running : goal.returns-clause-running
returns-clause-running g c =
    let l = g.L.PlanLine in
    let line = c.take_turn.new.line in
    running (l.table line) (l.opening line) (l.seen line) c.args.self.now c.take_turn.new.self _ _ c.args.sensors c.take_turn.result.motors c.take_turn.ensures.turn c.take_turn.ensures.at

pub returns-clause-permitted : goal.returns-clause-permitted
returns-clause-permitted g c =
    let l = g.L.PlanLine in
    let line = c.take_turn.new.line in
    permitted c.lawful_histories.ensures (l.table line) (l.opening line) (l.seen line) c.take_turn.new.self c.take_turn.result.motors
    (g.met.L.PlanLine.plan line) (g.met.L.PlanLine.sound line) (returns-clause-running g c)

pub returns-clause-careful : goal.returns-clause-careful
returns-clause-careful g c =
    careful c.args.self.now c.take_turn.new.self _ _ c.args.sensors c.take_turn.result.motors c.take_turn.ensures.turn
