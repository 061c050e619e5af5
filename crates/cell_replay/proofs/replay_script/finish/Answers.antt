use Rattle.std.proofs.KnownBytes.{Keeps-refl}
use Rattle.std.specs.Io.KnownBytes.{append_known}
use Rattle.cell_replay.proofs.BufferedWrites.{script-cut}
use Rattle.cell_replay.proofs.replay_script.finish.Goals as goal

pub returns-then-eq : goal.returns-then-eq
returns-then-eq g c = record {
  script = λ bytes written.
      let writer = c.args.writer.now in
      let old = append_known (g.O.LentWriter.contents writer.output) writer.waiting in
      script-cut bytes g.K.Origin.written old (g.O.LentWriter.contents writer.output) writer.waiting c.args.answered writer.grown (Keeps-refl old) written;
}

pub returns-in-Err : goal.returns-in-Err
returns-in-Err g c = record {
  script = λ bytes written.
      let old = append_known (g.O.LentWriter.contents c.args.writer.now.output) c.args.writer.now.waiting in
      let new = c.flush_out.new.self in
      script-cut bytes g.K.Origin.written old (g.O.LentWriter.contents new.output) new.waiting c.args.answered new.grown c.flush_out.ensures.kept written;
}
