use Rattle.std.proofs.Common.{ℕ, ◌≡◌, List, Result, Ok, Err, OnOk, OnErr, Option, length, take, arith, subst}
use Rattle.std.proofs.lemmas.List.{take_all}
use Rattle.std.specs.Io.KnownBytes.{Appends}
use Rattle.text_io.specs.Output.{WrotePrefix}
use Rattle.text_io.proofs.output.write_bytes.Goals as goal

wrote_all : {T E : Type 0} (r : Result T E) (old new : Option (List ℕ)) (text : List ℕ) (n : ℕ) → OnOk r (n ≡ length text) → Appends old new (take n text) → OnOk r (Appends old new text)
wrote_all (Ok x) old new text n all wrote = subst (Appends old new) (take_all n text (omega (arith, all))) wrote
wrote_all (Err x) old new text n all wrote = tt

wrote_part : {T E : Type 0} (r : Result T E) (old new : Option (List ℕ)) (text : List ℕ) (n : ℕ) → Appends old new (take n text) → OnErr r (WrotePrefix old new text)
wrote_part (Ok x) old new text n wrote = tt
wrote_part (Err x) old new text n wrote = (n, wrote)

pub returns-clause-ok : goal.returns-clause-ok
returns-clause-ok g c = wrote_all c.write_counted.result.1 (g.W.Write.contents c.args.writer.now) (g.W.Write.contents c.write_counted.new.writer) c.args.text.now c.write_counted.result.0 c.write_counted.ensures.all c.write_counted.ensures.bytes

pub returns-clause-err : goal.returns-clause-err
returns-clause-err g c = wrote_part c.write_counted.result.1 (g.W.Write.contents c.args.writer.now) (g.W.Write.contents c.write_counted.new.writer) c.args.text.now c.write_counted.result.0 c.write_counted.ensures.bytes
