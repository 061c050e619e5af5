-- What `serve` says of words, and where memory ran out before a word was read.
use Rattle.std.proofs.Common.{◌≡◌, inl, inr, Bool, false, ℕ, List, codes, Option, arith}
use Rattle.text_io.specs.Input.{TakesAtMost}
use Rattle.text_io.specs.Output.{WrotePrefix}
use Rattle.cell_replay.specs.Script.{max_bytes_read}
use Rattle.cell_config.specs.Settings.{max_bytes_read as config_bytes_read}
use Rattle.program_shell.specs.Exits.{exit_status}
use Rattle.program_shell.specs.Versions.{AskForVersion, asks_for_version}
use Rattle.program_shell.specs.declared.exit.Exit.{Exit}
use Rattle.program_shell.specs.declared.exit.Exit.TheVariants.{Failed}
use Rattle.program_shell.proofs.lemmas.Serving.{unread}
use Rattle.cell_app.specs.Served.{ReplayFails, Replays, RunFails, Runs, SimFails, Simulates, WasReplayed, WasRun, WasSimulated, fault_line}
use Rattle.cell_app.proofs.PrefixLemmas.{told_before}

pub not_asked : {P : Type 0} → (words : List (List ℕ)) (asks : Bool) → asks ≡ asks_for_version words → asks ≡ false → AskForVersion words → P
not_asked words asks is unasked asked = cc

-- a configuration has fewer bytes than a script may have
pub fewer_taken : (old new : Option (List ℕ)) → TakesAtMost old new config_bytes_read → TakesAtMost old new max_bytes_read
fewer_taken old new (bytes, few, taken) = (bytes, omega (arith, few), taken)

module _ (e : Exit) (n : ℕ) (is : n ≡ exit_status e) (k : e ≡ Failed) (input old new : Option (List ℕ)) (w : WrotePrefix old new (fault_line (codes "memory"))) where
  pub replay_unread : Replays n input input old new
  replay_unread = unread WasReplayed ReplayFails max_bytes_read e n is input old new k (told_before old new w)

  pub sim_unread : Simulates n input input old new
  sim_unread = unread WasSimulated SimFails config_bytes_read e n is input old new k (λ bytes. inr (inl w))

  pub run_unread : (turns tries : ℕ) → Runs turns tries n input input old new
  run_unread turns tries = unread (WasRun turns tries) (RunFails turns tries) config_bytes_read e n is input old new k (λ bytes. inr (inl w))
