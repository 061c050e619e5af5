use Rattle.std.proofs.Common.{◌≡◌, ◌<◌, length, rules, arith}
use Rattle.cell_report.proofs.Reports.{machines_from-more, told_more}
use Rattle.cell_report.proofs.report.push_machines.Goals as goal

pub machines-preserved : goal.machines-preserved
machines-preserved c =
    let counts : length c.args.counts.now ≡ 7 = search rules in
    let status : length c.args.status.now ≡ 7 = search rules in
    let i = c.machines.index in
    let few : i < 7 = search rules in
    told_more _ _ _ _ _ _ c.in_ok-push_machine.ensures (machines_from-more i c.args.counts.now c.args.status.now _ _ _ few (omega arith) (omega arith)) c.machines.invariant
