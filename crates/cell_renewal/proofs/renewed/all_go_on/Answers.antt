use Rattle.cell_renewal.proofs.Names.{sym, Feed, Table, Robot, Press, Deposit, Crane, fresh_pass}
use Rattle.cell_renewal.proofs.renewed.all_go_on.Goals as goal

pub returns-clause-ready : goal.returns-clause-ready
returns-clause-ready g c = λ i e.
    record {
      feed = c.go_on-feed.ensures.ready (fresh_pass i Feed) (sym c.requires.may_go_on.feed.own) e;
      table = c.go_on-table.ensures.ready (fresh_pass i Table) (sym c.requires.may_go_on.table.own) e;
      robot = c.go_on-robot.ensures.ready (fresh_pass i Robot) (sym c.requires.may_go_on.robot.own) e;
      press = c.go_on-press.ensures.ready (fresh_pass i Press) (sym c.requires.may_go_on.press.own) e;
      deposit = c.go_on-deposit.ensures.ready (fresh_pass i Deposit) (sym c.requires.may_go_on.deposit.own) e;
      crane = c.go_on-crane.ensures.ready (fresh_pass i Crane) (sym c.requires.may_go_on.crane.own) e;
    }
