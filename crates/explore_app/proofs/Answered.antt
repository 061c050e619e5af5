-- What `serve` says of a configuration's start, by how it ends.
use Rattle.std.proofs.Common.{◌≡◌, ◌≢◌, ℕ, ◌⊎◌, inl, inr, Option, Some, None, Ok, IfSome, string_bytes}
use Rattle.std.specs.Io.KnownBytes.{Appends}
use Rattle.text_io.specs.Input.{TakesAtMost}
use Rattle.text_io.specs.Output.{WrotePrefix}
use Rattle.program_shell.specs.Exits.{exit_status}
use Rattle.program_shell.specs.declared.exit.Exit.{Exit}
use Rattle.program_shell.specs.declared.exit.Exit.TheVariants as exit
use Rattle.program_shell.proofs.lemmas.Serving.{served}
use Rattle.cell_config.specs.Configured.{Says, shown}
use Rattle.cell_config.specs.Settings.{Settings, max_bytes_read}
use Rattle.cell_config.specs.declared.configuration.Config.{Config}
use Rattle.explore_app.specs.declared.request.Question.{Question}
use Rattle.explore_app.specs.declared.request.Question.TheVariants.{Standstill, Starving}
use Rattle.explore_app.specs.declared.screen.Screen.{Screen}
use Rattle.explore_app.specs.declared.screen.Screen.TheVariants.{Free, Warning}
use Rattle.explore_app.specs.Bounds.{Text}
use Rattle.explore_app.specs.Screens.{screen_text}
use Rattle.explore_app.specs.Served.{AnswerFails, Answers, IsAnswerFor, IsAnswerTo, TellsWell, Warns, WasAnswered, WroteFree}

-- a screen that is no warning tells that nothing stands still or starves
well_of : (question : Question) (given : Settings) (screen : Screen) (old new : Option Text) → IsAnswerTo question given screen → WroteFree screen old new → (text : Text) × (TellsWell question given text × Appends old new text)
well_of Standstill given (Free text) old new k a = (string_bytes text, (k, a))
well_of Starving given (Free text) old new k a = (string_bytes text, (k, a))
well_of question given (Warning text) old new k a = absurd a

-- and a warning tells that something does
told_of : (question : Question) (given : Settings) (screen : Screen) → IsAnswerTo question given screen → Warns question given (screen_text screen) ⊎ TellsWell question given (screen_text screen)
told_of Standstill given (Free text) k = inr k
told_of Standstill given (Warning text) k = inl k
told_of Starving given (Free text) k = inr k
told_of Starving given (Warning text) k = inl k

told : (Tells : Settings → Text → Type 0) (bytes : Text) (config : Config) (text : Text) → Says bytes (Ok config) → Tells (shown config) text → IsAnswerFor Tells bytes text
told Tells bytes config text said k = record { settings = shown config; said = said; tells = k }

module _ (question : Question) (config : Config) (screen : Screen) (old new : Option Text) (answers : IsAnswerTo question (shown config) screen) where
  whole : (input : Option Text) → IfSome input (λ bytes. Says bytes (Ok config)) → WroteFree screen old new → WasAnswered question input old new
  whole None said wrote = tt
  whole (Some bytes) said wrote =
      let w = well_of question (shown config) screen old new answers wrote in
      (w.0, told (TellsWell question) bytes config w.0 said w.1.0, w.1.1)

  part_of : (bytes : Text) → Says bytes (Ok config) → WrotePrefix old new (screen_text screen) → Warns question (shown config) (screen_text screen) ⊎ TellsWell question (shown config) (screen_text screen) → AnswerFails question bytes old new
  part_of bytes said wrote (inl k) = inr (inr (inr (inl (screen_text screen, (told (Warns question) bytes config (screen_text screen) said k, wrote)))))
  part_of bytes said wrote (inr k) = inr (inr (inr (inr (screen_text screen, (told (TellsWell question) bytes config (screen_text screen) said k, wrote)))))

  part : (input : Option Text) → IfSome input (λ bytes. Says bytes (Ok config)) → WrotePrefix old new (screen_text screen) → IfSome input (λ bytes. AnswerFails question bytes old new)
  part None said wrote = tt
  part (Some bytes) said wrote = part_of bytes said wrote (told_of question (shown config) screen answers)

  pub answered : (e : Exit) (n : ℕ) → n ≡ exit_status e → (input rest : Option Text) → IfSome input (λ bytes. Says bytes (Ok config)) → e ≢ exit.Refused → (e ≡ exit.Well → WroteFree screen old new)
      → (e ≡ exit.Failed → WrotePrefix old new (screen_text screen)) → TakesAtMost input rest max_bytes_read → Answers question n input rest old new
  answered e n is input rest said other well failed taken =
      served (WasAnswered question) (AnswerFails question) max_bytes_read e n is input rest old new other (λ k. whole input said (well k)) (λ k. part input said (failed k)) taken
