use Rattle.std.proofs.lemmas.Option.{IfSome_then}
use Rattle.std.proofs.Common.{◌<◌, ◌≤◌, length, subst, sym}
use Rattle.plan_app.specs.Failed.{FailsIn}
use Rattle.plan_app.specs.Input.{byte_limit}
use Rattle.plan_app.specs.Served.{AnswersIn, ExploresIn, FindsFreeIn, ReportsIn, WritesHeaderIn, WritesModuleIn, WritesPictureIn, WritesRunIn, WritesRunPageIn}
use Rattle.plan_app.proofs.Failures.{fails_whole, unread_fails}
use Rattle.plan_app.proofs.serve.serve_input.Goals as goal

pub returns-in-Ok-clause-reported : goal.returns-in-Ok-clause-reported
returns-in-Ok-clause-reported g c = λ most request well.
    let short : length c.in-Ok.bytes.items ≤ byte_limit = subst (λ bytes. length bytes ≤ byte_limit) c.as_slice.ensures.value (c.serve_bytes.ensures.short well) in
    IfSome_then (g.R.Read.remaining c.args.reader.now) (c.in-Ok.ensures.whole short)
    (λ read is. subst (λ bytes. ReportsIn c.args.word most bytes (g.W.Write.contents c.args.writer.now) (g.W.Write.contents c.serve_bytes.new.writer)) is
    (subst (λ bytes. ReportsIn c.args.word most bytes (g.W.Write.contents c.args.writer.now) (g.W.Write.contents c.serve_bytes.new.writer)) c.as_slice.ensures.value (c.serve_bytes.ensures.reported most request well)))

pub returns-in-Ok-clause-answered : goal.returns-in-Ok-clause-answered
returns-in-Ok-clause-answered g c = λ request well.
    let short : length c.in-Ok.bytes.items ≤ byte_limit = subst (λ bytes. length bytes ≤ byte_limit) c.as_slice.ensures.value (c.serve_bytes.ensures.short well) in
    IfSome_then (g.R.Read.remaining c.args.reader.now) (c.in-Ok.ensures.whole short)
    (λ read is. subst (λ bytes. AnswersIn c.args.word bytes (g.W.Write.contents c.args.writer.now) (g.W.Write.contents c.serve_bytes.new.writer)) is
    (subst (λ bytes. AnswersIn c.args.word bytes (g.W.Write.contents c.args.writer.now) (g.W.Write.contents c.serve_bytes.new.writer)) c.as_slice.ensures.value (c.serve_bytes.ensures.answered request well)))

pub returns-in-Ok-clause-free : goal.returns-in-Ok-clause-free
returns-in-Ok-clause-free g c = λ most request well.
    let short : length c.in-Ok.bytes.items ≤ byte_limit = subst (λ bytes. length bytes ≤ byte_limit) c.as_slice.ensures.value (c.serve_bytes.ensures.short well) in
    IfSome_then (g.R.Read.remaining c.args.reader.now) (c.in-Ok.ensures.whole short)
    (λ read is. subst (λ bytes. ExploresIn c.args.word bytes (g.W.Write.contents c.args.writer.now) (g.W.Write.contents c.serve_bytes.new.writer)) is
    (subst (λ bytes. ExploresIn c.args.word bytes (g.W.Write.contents c.args.writer.now) (g.W.Write.contents c.serve_bytes.new.writer)) c.as_slice.ensures.value (c.serve_bytes.ensures.free most request well)))

pub returns-in-Ok-clause-paged : goal.returns-in-Ok-clause-paged
returns-in-Ok-clause-paged g c = λ most request well.
    let short : length c.in-Ok.bytes.items ≤ byte_limit = subst (λ bytes. length bytes ≤ byte_limit) c.as_slice.ensures.value (c.serve_bytes.ensures.short well) in
    IfSome_then (g.R.Read.remaining c.args.reader.now) (c.in-Ok.ensures.whole short)
    (λ read is. subst (λ bytes. FindsFreeIn c.args.word bytes (g.W.Write.contents c.args.writer.now) (g.W.Write.contents c.serve_bytes.new.writer)) is
    (subst (λ bytes. FindsFreeIn c.args.word bytes (g.W.Write.contents c.args.writer.now) (g.W.Write.contents c.serve_bytes.new.writer)) c.as_slice.ensures.value (c.serve_bytes.ensures.paged most request well)))

pub returns-in-Ok-clause-header : goal.returns-in-Ok-clause-header
returns-in-Ok-clause-header g c = λ request well.
    let short : length c.in-Ok.bytes.items ≤ byte_limit = subst (λ bytes. length bytes ≤ byte_limit) c.as_slice.ensures.value (c.serve_bytes.ensures.short well) in
    IfSome_then (g.R.Read.remaining c.args.reader.now) (c.in-Ok.ensures.whole short)
    (λ read is. subst (λ bytes. WritesHeaderIn c.args.word bytes (g.W.Write.contents c.args.writer.now) (g.W.Write.contents c.serve_bytes.new.writer)) is
    (subst (λ bytes. WritesHeaderIn c.args.word bytes (g.W.Write.contents c.args.writer.now) (g.W.Write.contents c.serve_bytes.new.writer)) c.as_slice.ensures.value (c.serve_bytes.ensures.header request well)))

pub returns-in-Ok-clause-python : goal.returns-in-Ok-clause-python
returns-in-Ok-clause-python g c = λ request well.
    let short : length c.in-Ok.bytes.items ≤ byte_limit = subst (λ bytes. length bytes ≤ byte_limit) c.as_slice.ensures.value (c.serve_bytes.ensures.short well) in
    IfSome_then (g.R.Read.remaining c.args.reader.now) (c.in-Ok.ensures.whole short)
    (λ read is. subst (λ bytes. WritesModuleIn c.args.word bytes (g.W.Write.contents c.args.writer.now) (g.W.Write.contents c.serve_bytes.new.writer)) is
    (subst (λ bytes. WritesModuleIn c.args.word bytes (g.W.Write.contents c.args.writer.now) (g.W.Write.contents c.serve_bytes.new.writer)) c.as_slice.ensures.value (c.serve_bytes.ensures.python request well)))

pub returns-in-Ok-clause-picture : goal.returns-in-Ok-clause-picture
returns-in-Ok-clause-picture g c = λ request well.
    let short : length c.in-Ok.bytes.items ≤ byte_limit = subst (λ bytes. length bytes ≤ byte_limit) c.as_slice.ensures.value (c.serve_bytes.ensures.short well) in
    IfSome_then (g.R.Read.remaining c.args.reader.now) (c.in-Ok.ensures.whole short)
    (λ read is. subst (λ bytes. WritesPictureIn c.args.word bytes (g.W.Write.contents c.args.writer.now) (g.W.Write.contents c.serve_bytes.new.writer)) is
    (subst (λ bytes. WritesPictureIn c.args.word bytes (g.W.Write.contents c.args.writer.now) (g.W.Write.contents c.serve_bytes.new.writer)) c.as_slice.ensures.value (c.serve_bytes.ensures.picture request well)))

pub returns-in-Ok-clause-ran : goal.returns-in-Ok-clause-ran
returns-in-Ok-clause-ran g c = λ turns request well.
    let short : length c.in-Ok.bytes.items ≤ byte_limit = subst (λ bytes. length bytes ≤ byte_limit) c.as_slice.ensures.value (c.serve_bytes.ensures.short well) in
    IfSome_then (g.R.Read.remaining c.args.reader.now) (c.in-Ok.ensures.whole short)
    (λ read is. subst (λ bytes. WritesRunIn c.args.word turns bytes (g.W.Write.contents c.args.writer.now) (g.W.Write.contents c.serve_bytes.new.writer)) is
    (subst (λ bytes. WritesRunIn c.args.word turns bytes (g.W.Write.contents c.args.writer.now) (g.W.Write.contents c.serve_bytes.new.writer)) c.as_slice.ensures.value (c.serve_bytes.ensures.ran turns request well)))

pub returns-in-Ok-clause-shown : goal.returns-in-Ok-clause-shown
returns-in-Ok-clause-shown g c = λ turns request well.
    let short : length c.in-Ok.bytes.items ≤ byte_limit = subst (λ bytes. length bytes ≤ byte_limit) c.as_slice.ensures.value (c.serve_bytes.ensures.short well) in
    IfSome_then (g.R.Read.remaining c.args.reader.now) (c.in-Ok.ensures.whole short)
    (λ read is. subst (λ bytes. WritesRunPageIn c.args.word turns bytes (g.W.Write.contents c.args.writer.now) (g.W.Write.contents c.serve_bytes.new.writer)) is
    (subst (λ bytes. WritesRunPageIn c.args.word turns bytes (g.W.Write.contents c.args.writer.now) (g.W.Write.contents c.serve_bytes.new.writer)) c.as_slice.ensures.value (c.serve_bytes.ensures.shown turns request well)))

pub returns-in-Ok-clause-failed : goal.returns-in-Ok-clause-failed
returns-in-Ok-clause-failed g c = λ failed.
    let old = g.W.Write.contents c.args.writer.now in
    let new = g.W.Write.contents c.serve_bytes.new.writer in
    fails_whole c.args.word c.args.request c.in-Ok.bytes.items (g.R.Read.remaining c.args.reader.now) old new c.in-Ok.ensures.whole c.in-Ok.ensures.long
    (λ many. c.serve_bytes.ensures.long (subst (λ bytes. byte_limit < length bytes) (sym c.as_slice.ensures.value) many))
    (subst (λ bytes. FailsIn c.args.word c.args.request bytes old new) c.as_slice.ensures.value (c.serve_bytes.ensures.failed failed))

pub returns-in-Err-clause-failed : goal.returns-in-Err-clause-failed
returns-in-Err-clause-failed g c = λ failed. unread_fails c.args.word c.args.request _ _ _ c.fail_to_read.ensures.line
