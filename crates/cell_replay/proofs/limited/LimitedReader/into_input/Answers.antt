use Rattle.cell_replay.specs.Script.{max_bytes_read}
use Rattle.cell_replay.proofs.LimitedReads.{takes-at-most}
use Rattle.cell_replay.proofs.limited.LimitedReader.into_input.Goals as goal

pub returns-clause-taken : goal.returns-clause-taken
returns-clause-taken g c = takes-at-most g.K.Origin.bytes (g.L.LentReader.left c.args.self.input) c.args.self.taken max_bytes_read c.args.self.within c.args.self.left
