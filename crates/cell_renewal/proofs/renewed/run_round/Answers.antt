use Rattle.cell_renewal.proofs.Names.{refl, Feed, Table, Robot, Press, Deposit, Crane, fresh_pass}
use Rattle.cell_renewal.proofs.Renewing.{all_may_go_on}
use Rattle.cell_renewal.proofs.renewed.run_round.Goals as goal

pub returns-clause-ends : goal.returns-clause-ends
returns-clause-ends g c = record { six = c.in_ok-record.record; told = c.in_ok-record.ensures.work; taken = c.in_default.ensures; is = refl }

pub returns-clause-may_go_on : goal.returns-clause-may_go_on
returns-clause-may_go_on g c =
    let t = c.in_ok-record.ensures.work in
    let ready = c.requires.ready t.interlock t.opened in
    all_may_go_on g.W1.Worker.gives_back g.W2.Worker.gives_back g.W3.Worker.gives_back g.W4.Worker.gives_back g.W5.Worker.gives_back g.W6.Worker.gives_back g.H.Watching.watches
    g.W1.RenewedWorker.machine g.W2.RenewedWorker.machine g.W3.RenewedWorker.machine g.W4.RenewedWorker.machine g.W5.RenewedWorker.machine g.W6.RenewedWorker.machine
    g.W1.RenewedWorker.left g.W2.RenewedWorker.left g.W3.RenewedWorker.left g.W4.RenewedWorker.left g.W5.RenewedWorker.left g.W6.RenewedWorker.left
    c.args.workers c.args.watch c.args.opening c.args.renewal.tries c.args.renewal.turns (g.G.Gate.may_answer c.args.gate.now) c.in_ok-record.record c.in_ok-record.watch t c.states_are_sound.ensures.sound
    (c.leaves.ensures c.args.workers.feed (fresh_pass t.interlock Feed) t.interlock.tries c.args.renewal.turns t.results.feed ready.feed t.given.feed.1)
    (c.leaves-2.ensures c.args.workers.table (fresh_pass t.interlock Table) t.interlock.tries c.args.renewal.turns t.results.table ready.table t.given.table.1)
    (c.leaves-3.ensures c.args.workers.robot (fresh_pass t.interlock Robot) t.interlock.tries c.args.renewal.turns t.results.robot ready.robot t.given.robot.1)
    (c.leaves-4.ensures c.args.workers.press (fresh_pass t.interlock Press) t.interlock.tries c.args.renewal.turns t.results.press ready.press t.given.press.1)
    (c.leaves-5.ensures c.args.workers.deposit (fresh_pass t.interlock Deposit) t.interlock.tries c.args.renewal.turns t.results.deposit ready.deposit t.given.deposit.1)
    (c.leaves-6.ensures c.args.workers.crane (fresh_pass t.interlock Crane) t.interlock.tries c.args.renewal.turns t.results.crane ready.crane t.given.crane.1) c.args.renewal.mark

pub take-requires : goal.take-requires
take-requires g c = c.requires.may_take c.in_ok-record.record c.in_ok-record.watch c.in_ok-record.ensures.work
