-- What `serve` says where memory ran out, or words ask for the version.
use Rattle.std.proofs.Common.{◌≡◌, inl, inr, ℕ, List, codes, Option, subst}
use Rattle.clap.specs.Words.{Text}
use Rattle.text_io.specs.Output.{WrotePrefix}
use Rattle.cell_words.specs.Words.{AreTakenAsFlags}
use Rattle.cell_words.proofs.lemmas.Asked.{flags_version_untaken}
use Rattle.cell_config.specs.Settings.{max_bytes_read}
use Rattle.program_shell.specs.Exits.{exit_status}
use Rattle.program_shell.specs.Faults.{fault_line}
use Rattle.program_shell.specs.Versions.{AskForVersion}
use Rattle.program_shell.specs.declared.exit.Exit.{Exit}
use Rattle.program_shell.specs.declared.exit.Exit.TheVariants.{Failed}
use Rattle.program_shell.proofs.lemmas.Serving.{unread}
use Rattle.program_shell.proofs.lemmas.Versions.{version_words}
use Rattle.history_app.specs.Recorded.{RecordingFails, WasRecorded}
use Rattle.history_app.specs.Served.{Records}

-- words that ask for the version aren't taken
pub asked_version : {P : Type 0} → (words : List Text) → AskForVersion words → AreTakenAsFlags words → P
asked_version words asked k =
    let is = version_words words asked in
    flags_version_untaken is.0 (subst AreTakenAsFlags is.1 k)

pub no_memory : (turns tries : ℕ) (e : Exit) (n : ℕ) (is : n ≡ exit_status e) → e ≡ Failed → (input old new : Option (List ℕ)) → WrotePrefix old new (fault_line (codes "memory")) → Records turns tries n input input old new
no_memory turns tries e n is k input old new w = unread (WasRecorded turns tries) (RecordingFails turns tries) max_bytes_read e n is input old new k (λ bytes. inr (inl w))
