use Rattle.std.proofs.lemmas.Option.{IfSome_then}
use Rattle.std.proofs.Common.{◌<◌, ◌≤◌, length, subst, sym}
use Rattle.plan_app.specs.Failed.{FailsOfBytes, wrote_of}
use Rattle.plan_app.specs.Input.{byte_limit}
use Rattle.plan_app.specs.Served.{OfBytes, writes_of}
use Rattle.plan_app.proofs.Failures.{together_whole, unread_together}
use Rattle.plan_app.proofs.serve_plant.together_input.Goals as goal

pub returns-in-Ok-clause-well : goal.returns-in-Ok-clause-well
returns-in-Ok-clause-well g c = λ well.
    let old = g.W.Write.contents c.args.writer.now in
    let new = g.W.Write.contents c.together_bytes.new.writer in
    let short : length c.in-Ok.bytes.items ≤ byte_limit = subst (λ bytes. length bytes ≤ byte_limit) c.as_slice.ensures.value (c.together_bytes.ensures.short well) in
    IfSome_then (g.R.Read.remaining c.args.reader.now) (c.in-Ok.ensures.whole short)
    (λ read is. subst (λ bytes. OfBytes (writes_of c.args.task) bytes old new) is
    (subst (λ bytes. OfBytes (writes_of c.args.task) bytes old new) c.as_slice.ensures.value (c.together_bytes.ensures.well well)))

pub returns-in-Ok-clause-failed : goal.returns-in-Ok-clause-failed
returns-in-Ok-clause-failed g c = λ failed.
    let old = g.W.Write.contents c.args.writer.now in
    let new = g.W.Write.contents c.together_bytes.new.writer in
    together_whole c.args.task c.in-Ok.bytes.items (g.R.Read.remaining c.args.reader.now) old new c.in-Ok.ensures.whole c.in-Ok.ensures.long
    (λ many. c.together_bytes.ensures.long (subst (λ bytes. byte_limit < length bytes) (sym c.as_slice.ensures.value) many))
    (subst (λ bytes. FailsOfBytes (wrote_of c.args.task) bytes old new) c.as_slice.ensures.value (c.together_bytes.ensures.failed failed))

pub returns-in-Err-clause-failed : goal.returns-in-Err-clause-failed
returns-in-Err-clause-failed g c = λ failed. unread_together c.args.task _ _ _ c.fail_to_read.ensures.line
