use Rattle.word_interlock.proofs.EachCases.{each_laws}
use Rattle.word_interlock.proofs.HistoryCases.{history_examples}
use Rattle.word_interlock.proofs.OrderCases.{order_cases}
use Rattle.word_interlock.proofs.SeatCases.{seat_cases}
use Rattle.word_interlock.proofs.laws.order_is_known.Goals as goal

pub returns-clause-order : goal.returns-clause-order
returns-clause-order g c = order_cases (g.R.Rules.book c.args.rules.now) (g.met.R.Rules.lawful c.args.rules.now) _

pub returns-clause-seats : goal.returns-clause-seats
returns-clause-seats g c = seat_cases (g.R.Rules.book c.args.rules.now) _

pub returns-clause-histories : goal.returns-clause-histories
returns-clause-histories g c = history_examples (g.R.Rules.book c.args.rules.now) (g.met.R.Rules.lawful c.args.rules.now) _

pub returns-clause-each : goal.returns-clause-each
returns-clause-each g c = each_laws g.R.Rules.book c.args.rules.now
