use Rattle.cell_threads.proofs.Names.{◌≡◌, ◌+◌, no_counts, AreBelow, IsReady, side_of, HasCome, worker_moment}
use Rattle.cell_threads.proofs.take_turns.take_turns.Given as goal

abbrev pub invariant-loop-turn : goal.invariant-loop-turn
invariant-loop-turn g l = record {
  come : HasCome (record { opening = g.L.Line.opening; seen = g.L.Line.seen; asks = g.L.Line.asks }) (g.P.Program.steps l.fn.unit.controller.program) (g.B.Part.rig (g.B.Part.make l.fn.unit.part)) (g.G.Gate.may_answer l.fn.gate (g.L.Line.machine l.fn.line))
      (worker_moment l.fn.line (side_of l.fn.unit.controller.progress l.fn.unit.controller.stopped (g.B.Part.state l.fn.unit.part)) no_counts)
      (worker_moment l.line (side_of l.unit.controller.progress l.unit.controller.stopped (g.B.Part.state l.unit.part)) l.counts);
  program : l.unit.controller.program ≡ l.fn.unit.controller.program;
  make : g.B.Part.make l.unit.part ≡ g.B.Part.make l.fn.unit.part;
  own : g.L.Line.machine l.line ≡ g.L.Line.machine l.fn.line;
  opening : g.L.Line.opening l.line ≡ g.L.Line.opening l.fn.line;
  ready : IsReady (g.P.Program.steps l.unit.controller.program) (g.L.Line.opening l.line) (g.L.Line.seen l.line) l.unit.controller.stopped l.unit.controller.progress;
  taken : l.counts.turns ≡ l.turn;
  few : AreBelow (l.turn + 1) l.counts;
}
