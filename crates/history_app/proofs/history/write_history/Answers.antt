use Rattle.std.proofs.Common.{◌∙◌, ap, arith}
use Rattle.history_app.specs.Scripts.{script_of}
use Rattle.history_app.proofs.WriteLemmas.{history_of, told_by_writing}
use Rattle.history_app.proofs.history.write_history.Goals as goal

pub returns-clause-told : goal.returns-clause-told
returns-clause-told g c =
    let r = c.args.run.now in
    told_by_writing r c.are_fine.result c.in-Ok.events.items _ c.write_script.result _ _
    (history_of r _ c.in-Ok.events.items c.as_ref.ensures.value c.in-Ok.ensures.ok)
    (omega (arith, c.if-len-gt-MAX_EVENTS.false, c.len.ensures))
    (c.as_bytes.ensures.value ∙ c.in-Ok-script_of.ensures ∙ ap (script_of r.start) c.deref.ensures.value)
    c.are_fine.ensures c.write_script.ensures.written
