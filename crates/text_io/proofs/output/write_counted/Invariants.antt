use Rattle.std.proofs.Common.{◌≤◌, length, take}
use Rattle.std.specs.Io.KnownBytes.{Appends}
use Rattle.text_io.proofs.output.write_counted.Given as goal

abbrev pub invariant-parts : goal.invariant-parts
invariant-parts g l = (l.written ≤ length l.text) × Appends (g.W.Write.contents l.fn.writer) (g.W.Write.contents l.writer) (take l.written l.text)
