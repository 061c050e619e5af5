use Rattle.std.proofs.Common.{Result, Ok, Err, OnOk, OnErr, length, arith}
use Rattle.std.proofs.KnownBytes.{Appends-kept}
use Rattle.std.proofs.lemmas.List.{take_all}
use Rattle.text_io.proofs.output.write_text.Goals as goal

on_ok : {T E : Type 0} (r : Result T E) (P : Type 0) → P → OnOk r P
on_ok (Ok x) P h = h
on_ok (Err x) P h = tt

on_err : {T E : Type 0} (r : Result T E) (P : Type 0) → P → OnErr r P
on_err (Ok x) P h = tt
on_err (Err x) P h = h

pub returns-in-Ok-clause-ok : goal.returns-in-Ok-clause-ok
returns-in-Ok-clause-ok g c = on_ok c.flush.result _ (Appends-kept _ _ _ c.args.text.now c.in-Ok.ensures.ok c.flush.ensures)

pub returns-in-Ok-clause-err : goal.returns-in-Ok-clause-err
returns-in-Ok-clause-err g c =
    let text = c.args.text.now in
    on_err c.flush.result _ (length text, rw (take_all (length text) text (omega arith)) (Appends-kept (g.W.Write.contents c.args.writer.now) (g.W.Write.contents c.write_bytes.new.writer) (g.W.Write.contents c.flush.new.writer) text c.in-Ok.ensures.ok c.flush.ensures))
