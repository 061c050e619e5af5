use Rattle.std.proofs.Common.{◌∙◌, ap, sym}
use Rattle.cell_words.proofs.lemmas.Asked.{no_room}
use Rattle.cell_words.specs.Words.{texts_of}
use Rattle.cell_words.specs.declared.words.RunFlags.{RunFlags}
use Rattle.cell_config.specs.Settings.{max_bytes_read}
use Rattle.program_shell.proofs.lemmas.Serving.{served}
use Rattle.history_app.specs.Recorded.{RecordingFails, WasRecorded}
use Rattle.history_app.proofs.ServeLemmas.{asked_version, no_memory}
use Rattle.history_app.proofs.serve.serve.Goals as goal

pub returns-then-asks_for_version-clause-records : goal.returns-then-asks_for_version-clause-records
returns-then-asks_for_version-clause-records g c = λ turns tries k.
    asked_version (texts_of c.args.words.now) (sym c.asks_for_version.ensures ∙ c.if-asks_for_version.true) k.0

pub returns-in-Ok-clause-records : goal.returns-in-Ok-clause-records
returns-in-Ok-clause-records g c = λ turns tries k.
    let same = c.in-Ok.ensures.flags ∙ k.1 in
    rw (sym (ap (λ (f : RunFlags). f.turns) same), sym (ap (λ (f : RunFlags). f.tries) same))
    (served (WasRecorded c.in-Ok.flags.turns c.in-Ok.flags.tries) (RecordingFails c.in-Ok.flags.turns c.in-Ok.flags.tries) max_bytes_read c.record.result _ c.status-in-Ok.ensures _ _ _ _ c.record.ensures.status c.record.ensures.well c.record.ensures.failed c.record.ensures.read)

pub returns-in-Err-clause-records : goal.returns-in-Err-clause-records
returns-in-Err-clause-records g c = λ turns tries k.
    let none = no_room _ c.in-Err.error c.in-Err.ensures.refused k.0 in
    no_memory turns tries c.refuse_in_own_words.result _ c.status-in-Err.ensures (c.refuse_in_own_words.ensures.memory none) _ _ _ (c.refuse_in_own_words.ensures.line none)
