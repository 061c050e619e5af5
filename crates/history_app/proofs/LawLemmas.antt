-- Proofs of the laws of recordings.
use Rattle.std.proofs.Common.{◌≡◌, ℕ, List, [], ◌∷◌, Some, sym, ap, subst, ◌∙◌}
use Rattle.std.specs.List.{concat}
use Rattle.cell_types.specs.Journals.{journal_of}
use Rattle.cell_rules.specs.Names.{IsStartState, noted}
use Rattle.cell_notes.specs.declared.run_record.RunRecord.{RunRecord}
use Rattle.cell_replay.specs.Script.{event_lines, start_line}
use Rattle.history_app.specs.Answered.{start_of}
use Rattle.history_app.proofs.lemmas.Answering.{histories_answered}
use Rattle.history_app.specs.Laws.{AnswersAs, RecordingsAreAnswered}
use Rattle.history_app.specs.Recorded.{IsHistoryOf, WroteScript}

answered : (r : RunRecord) (script : List ℕ) → IsStartState r.start → WroteScript r (Some []) (Some script) → AnswersAs r script
answered r script start w =
    let a = histories_answered r.start w.history start w.is.legal w.fits in
    subst (AnswersAs r) (sym w.written)
    (record {
      clean = a.clean;
      history = subst (IsHistoryOf r) (sym a.events) w.is;
      journals = λ m. subst (λ h. noted r.start h m ≡ journal_of r.journals m) (sym a.events) (w.is.noted m);
      text = a.text ∙ ap (λ h. concat (start_line (start_of r.start h) ∷ event_lines r.start h)) (sym a.events);
    })

pub recordings_answered : RecordingsAreAnswered
recordings_answered turns tries bytes script k = (k.0, (k.1.0, answered k.0 script k.1.0.start k.1.1.1))
