use Rattle.std.proofs.Common.{◌++◌, ◌∙◌, Option, IfSome, ap, sym, subst}
use Rattle.explore_app.specs.declared.step.Step.{Step}
use Rattle.explore_app.specs.Starving.{IsRoundTurn, going_step, going_turns}
use Rattle.explore_app.proofs.Starved.{all_more, going_more}
use Rattle.explore_app.proofs.starve.push_turn.Goals as goal

pub returns-in_ok-push-in-Some-clause-turns : goal.returns-in_ok-push-in-Some-clause-turns
returns-in_ok-push-in-Some-clause-turns c =
    all_more (IsRoundTurn c.args.start.now) c.args.round.now.items c.push.new.self.items c.in-Some.step c.requires
    (subst (λ (o : Option Step). IfSome o (IsRoundTurn c.args.start.now)) c.in-Some.is c.in_ok-step.ensures.turn) c.in_ok-push-in-Some.ensures.items

pub returns-in_ok-push-in-Some-clause-going : goal.returns-in_ok-push-in-Some-clause-going
returns-in_ok-push-in-Some-clause-going c =
    going_more c.args.round.now.items c.push.new.self.items c.in-Some.step c.in_ok-push-in-Some.ensures.items
    ∙ ap (λ l. going_turns c.args.round.now.items ++ l) (sym (ap going_step c.in-Some.is) ∙ c.in_ok-step.ensures.going)
