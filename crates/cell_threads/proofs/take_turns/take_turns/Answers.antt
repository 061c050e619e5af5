use Rattle.cell_threads.proofs.Names.{◌∙◌, ◌+◌, sym, ap, subst, refl, no_counts, AreBelow, none_below, side_of, worker_moment}
use Rattle.cell_threads.proofs.lemmas.Turning.{has_begun_as, comes_by, few_more, one_turn_more, not_stopped}
use Rattle.cell_threads.proofs.take_turns.take_turns.Goals as goal

pub loop-turn-init : goal.loop-turn-init
loop-turn-init g c =
    let none = c.none-counts.ensures in
    let unit = c.args.unit.now in
    let side = side_of unit.controller.progress unit.controller.stopped (g.B.Part.state unit.part) in
    record {
      come = has_begun_as (record { opening = g.L.Line.opening; seen = g.L.Line.seen; asks = g.L.Line.asks }) (g.P.Program.steps unit.controller.program) (g.B.Part.rig (g.B.Part.make unit.part)) (g.G.Gate.may_answer c.args.gate.now (g.L.Line.machine c.args.line.now))
          c.args.line.now side no_counts c.none-counts.result none;
      program = refl;
      make = refl;
      own = refl;
      opening = refl;
      ready = c.requires.ready;
      taken = ap (λ k. k.turns) none;
      few = subst (AreBelow 1) (sym none) none_below;
    }

pub loop-turn-preserved : goal.loop-turn-preserved
loop-turn-preserved g c =
    let old = c.loop-turn.invariant in
    let unit = c.loop-turn.unit in
    let t = c.turn.ensures in
    let first = worker_moment c.args.line.now (side_of c.args.unit.now.controller.progress c.args.unit.now.controller.stopped (g.B.Part.state c.args.unit.now.part)) no_counts in
    let before = worker_moment c.loop-turn.line (side_of unit.controller.progress unit.controller.stopped (g.B.Part.state unit.part)) c.loop-turn.counts in
    let now = worker_moment c.turn.new.line (side_of c.turn.new.self.controller.progress c.turn.new.self.controller.stopped (g.B.Part.state c.turn.new.self.part)) c.with-counts.result in
    record {
      come = comes_by (record { opening = g.L.Line.opening; seen = g.L.Line.seen; asks = g.L.Line.asks }) g.P.Program.steps g.B.Part.rig (g.G.Gate.may_answer c.args.gate.now (g.L.Line.machine c.args.line.now))
          unit.controller.program c.args.unit.now.controller.program (g.B.Part.make unit.part) (g.B.Part.make c.args.unit.now.part) old.program old.make first before now old.come
          (record {
            runs = not_stopped unit.controller.stopped c.stopped_by.result c.is_some.result c.stopped_by.ensures c.is_some.ensures c.if-is_some.false;
            let_in = rw (old.taken, sym c.machine-machine.ensures) c.if-not-pass.ensures;
            asked = c.turn.result;
            row = t.row;
            motor_demands = t.motor_demands;
            counted = c.with-counts.ensures;
          });
      program = t.program ∙ old.program;
      make = t.make ∙ old.make;
      own = t.own ∙ old.own;
      opening = t.opening ∙ old.opening;
      ready = t.ready;
      taken = one_turn_more c.loop-turn.turn _ c.loop-turn.counts _ c.turn.result refl old.taken c.with-counts.ensures;
      few = few_more (c.loop-turn.turn + 1) _ c.loop-turn.counts _ c.turn.result refl old.few c.with-counts.ensures;
    }
