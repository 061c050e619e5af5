use Rattle.std.proofs.Common.{sym}
use Rattle.explore_app.proofs.Starved.{asks_there, round_turn}
use Rattle.explore_app.proofs.starve.step_after.Goals as goal

pub returns-in-Some-clause-turn : goal.returns-in-Some-clause-turn
returns-in-Some-clause-turn c =
    round_turn c.args.start.now c.args.way.now c.args.machine c.in-Some.call c.args.goes_on c.in_ok-walk.walk c.at-next.result.now
    (record { asks = c.in_ok-walk.ensures.asks; end = c.in_ok-walk.ensures.end; next = c.in_ok-walk.ensures.next })
    c.at-next.ensures c.in-Some.is (sym c.if-is_of_round.ensures)

pub returns-in-Some-clause-going : goal.returns-in-Some-clause-going
returns-in-Some-clause-going c =
    asks_there c.args.start.now c.args.way.now c.args.machine c.in-Some.call c.args.goes_on c.in_ok-walk.walk c.at-next.result.now
    (record { asks = c.in_ok-walk.ensures.asks; end = c.in_ok-walk.ensures.end; next = c.in_ok-walk.ensures.next })
    c.at-next.ensures c.in-Some.is
