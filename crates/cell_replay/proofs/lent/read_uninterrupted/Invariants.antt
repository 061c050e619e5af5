use Rattle.std.specs.Io.KnownBytes.{Keeps}
use Rattle.cell_replay.proofs.lent.read_uninterrupted.Given as goal

abbrev pub invariant-tries : goal.invariant-tries
invariant-tries g l = Keeps (g.R.Read.remaining l.fn.reader) (g.R.Read.remaining l.reader)
