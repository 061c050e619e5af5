use Rattle.cell_renewal.proofs.Names.{◌≡◌, ◌+◌, IsSamePass, ComesBy, TakesCycle, wired_moment}
use Rattle.cell_renewal.proofs.wired_worker.take_wired_turns.Given as goal

abbrev pub invariant-loop-cycle : goal.invariant-loop-cycle
invariant-loop-cycle g l = record {
  come : ComesBy (TakesCycle l.fn.wired.line.tries (g.P.Program.steps l.fn.wired.program) g.D.Devices.shows g.D.Devices.sets (g.G.Gate.may_answer l.fn.gate l.fn.wired.line.pass.machine))
      (wired_moment l.fn.wired.line.pass l.fn.wired.progress l.fn.wired.stopped l.fn.devices 0 0)
      (wired_moment l.wired.line.pass l.wired.progress l.wired.stopped l.devices l.done.turns l.done.missed);
  same : IsSamePass l.fn.wired.line.pass l.wired.line.pass;
  tries : l.wired.line.tries ≡ l.fn.wired.line.tries;
  program : l.wired.program ≡ l.fn.wired.program;
  cycles : l.done.turns + l.done.missed ≡ l.cycle;
}
