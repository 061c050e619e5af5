use Rattle.cell_renewal.proofs.Names.{◌∙◌, arith, subst, same_after, TakesCycle, wired_moment}
use Rattle.cell_renewal.proofs.WiredTurning.{wired_comes_by}
use Rattle.cell_renewal.proofs.wired_worker.take_wired_turns.Goals as goal

pub loop-cycle-preserved : goal.loop-cycle-preserved
loop-cycle-preserved g c =
    let old = c.loop-cycle.invariant in
    let start = c.args.wired.now in
    let wired = c.loop-cycle.wired in
    let done = c.loop-cycle.done in
    let now = c.take_cycle-done.new.wired in
    let after = c.take_cycle-done.result in
    let e = c.take_cycle-done.ensures in
    let before = wired_moment wired.line.pass wired.progress wired.stopped c.loop-cycle.devices done.turns done.missed in
    let later = wired_moment now.line.pass now.progress now.stopped c.take_cycle-done.new.devices after.turns after.missed in
    record {
      come = wired_comes_by g.P.Program.steps g.D.Devices.shows g.D.Devices.sets (g.G.Gate.may_answer c.args.gate.now start.line.pass.machine)
          wired.line.tries start.line.tries wired.program start.program old.tries old.program
          (wired_moment start.line.pass start.progress start.stopped c.args.devices.now 0 0) before later old.come
          (subst (λ m. TakesCycle wired.line.tries (g.P.Program.steps wired.program) g.D.Devices.shows g.D.Devices.sets (g.G.Gate.may_answer c.args.gate.now m) before later) old.same.machine e.cycle);
      same = same_after start.line.pass wired.line.pass now.line.pass old.same e.same;
      tries = e.tries ∙ old.tries;
      program = e.program ∙ old.program;
      cycles = omega (arith, e.one_more, old.cycles);
    }
