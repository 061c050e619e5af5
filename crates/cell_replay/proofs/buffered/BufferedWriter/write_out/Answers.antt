use Rattle.cell_replay.proofs.BufferedWrites.{grown-more}
use Rattle.cell_replay.proofs.buffered.BufferedWriter.write_out.Goals as goal

pub invariant_of-self-clause-grown : goal.invariant_of-self-clause-grown
invariant_of-self-clause-grown g c =
    grown-more g.K.Origin.written (g.O.LentWriter.contents c.args.self.now.output) (g.O.LentWriter.contents c.write_on-count.new.self) _ c.args.self.now.grown c.write_on-count.ensures.bytes
