use Rattle.cell_report.proofs.Names.{List, sym, subst, journal_of, Noted, InOrder, all_noted, in_order}
use Rattle.cell_report.proofs.Puts.{in_order_is}
use Rattle.cell_report.proofs.Traced.{trace_in_order}
use Rattle.cell_report.proofs.audits.trace_of.Goals as goal

pub returns-in-Some : goal.returns-in-Some
returns-in-Some g c =
    let all : List Noted = all_noted (journal_of c.args.journals.now) in
    record { ordered = in_order all; order = in_order_is all; is = (rw c.in-Some.is at c.in_ok-trace.ensures) c.args.least c.new-trace.ensures }

pub returns : goal.returns
returns g c =
    let all : List Noted = all_noted (journal_of c.args.journals.now) in
    trace_in_order _ _ c.args.start.now c.args.least all c.deref.result.now c.new.result c.follow_sorted.result
    (subst (InOrder all) (sym c.deref.ensures.value) c.in_ok-sorted.ensures) c.new.ensures c.follow_sorted.ensures
