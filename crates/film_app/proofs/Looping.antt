-- What an observer that keeps frames has after a run, and what `serve` says of a picture that loops.
use Rattle.std.proofs.Common.{◌≡◌, ℕ, List, [], ◌∷◌, ◌++◌, append-nil, append_assoc, inr, Option, Some, None, Result, Ok, Err, OnOk, IfOk, IfSome, take, sym, ◌∙◌, subst}
use Rattle.std.specs.Io.KnownBytes.{Appends}
use Rattle.std.specs.declared.alloc.AllocError.{AllocError}
use Rattle.text_io.specs.Input.{TakesAtMost}
use Rattle.text_io.specs.Output.{WrotePrefix}
use Rattle.cell_notes.specs.declared.schedule.Turn.{Turn}
use Rattle.cell_notes.specs.declared.run_record.RunRecord.{RunRecord}
use Rattle.cell_rules.specs.ModelState.{ModelState}
use Rattle.cell_sensors.specs.Names.{Pair, Scale}
use Rattle.cell_parts.specs.Axes.{CellScales}
use Rattle.cell_config.specs.Configured.{Says, in_order, shown}
use Rattle.cell_config.specs.Settings.{max_bytes_read}
use Rattle.cell_config.specs.declared.configuration.Config.{Config}
use Rattle.cell_plant.specs.Names.{on_curves, IsShown, SeesRun, frames_of}
use Rattle.cell_plant.specs.declared.frame.Frame.{Frame}
use Rattle.cell_picture.specs.Pictures.{IsPictureOf}
use Rattle.film_app.specs.Loops.{AreFramesOf, IsLoopOf, IsPictureFrom, LoopFails, WasLooped}
use Rattle.film_app.specs.Pages.{max_turns}
use Rattle.film_app.specs.Served.{Loops}
use Rattle.program_shell.specs.Printed.{Prints}
use Rattle.program_shell.proofs.lemmas.Serving.{printed}

-- ---- the frames of a run

-- as it is said of one frame
abbrev pub Keeps : List Frame → Frame → Result (Unit {0}) AllocError → List Frame → Type 0
Keeps old f result new = OnOk result (new ≡ old ++ (f ∷ []))

kept : (w v : List Frame) (frames : List Frame) → IsShown Keeps w frames (Ok tt) v → v ≡ w ++ frames
kept w v [] k = k.1 ∙ sym (append-nil w)
kept w v (f ∷ []) k = k
kept w v (f ∷ g ∷ fs) k =
    subst (λ (u : List Frame). v ≡ u ++ (g ∷ fs)) k.1.0 (kept k.0 v (g ∷ fs) k.1.1) ∙ append_assoc w (f ∷ []) (g ∷ fs)

pub frames_kept : (points : List Scale) (curves : List (List Pair)) (opening : ModelState) (schedule : List Turn) (w v : List Frame) (r : RunRecord) → w ≡ []
    → ((x : CellScales) × ((points ≡ in_order x) × SeesRun Keeps x (on_curves curves) opening (take max_turns schedule) w v r)) → AreFramesOf points curves opening schedule v
frames_kept points curves opening schedule w v r new k =
    let turns = take max_turns schedule in
    let sees = subst (λ x. SeesRun Keeps k.0 (on_curves curves) opening turns x v r) new k.1.1 in
    record {
      scales = k.0;
      fits = k.1.0;
      steps = sees.tells.steps;
      run = sees.tells.run;
      seen = kept [] v (frames_of opening turns sees.tells.steps) sees.seen;
    }

-- ---- the picture of a configuration

pub picture_kept : {S : Type 0} (bytes : S → List ℕ) (points : List Scale) (curves : List (List Pair)) (opening : ModelState) (schedule : List Turn) (given frames : List Frame) (r : Result S AllocError)
    → AreFramesOf points curves opening schedule frames → given ≡ frames → IfOk r (λ text. IsPictureOf given (bytes text))
    → IfOk r (λ text. (x : List Frame) × (AreFramesOf points curves opening schedule x × IsPictureOf x (bytes text)))
picture_kept bytes points curves opening schedule given frames (Ok text) seen same k = (frames, (seen, subst (λ x. IsPictureOf x (bytes text)) same k))
picture_kept bytes points curves opening schedule given frames (Err e) seen same k = tt

loop_of : (bytes : List ℕ) (config : Config) (text : List ℕ) → Says bytes (Ok config) → IsPictureFrom config text → IsLoopOf bytes text
loop_of bytes config text says k = record { settings = shown config; said = says; frames = k.0; seen = k.1.0; picture = k.1.1 }

module _ (o rest old new : Option (List ℕ)) (taken : TakesAtMost o rest max_bytes_read) where
  shown_of : (p : Option (List ℕ)) (config : Config) (text : List ℕ) → IfSome p (λ bytes. Says bytes (Ok config)) → IsPictureFrom config text → Appends old new text → WasLooped p old new
  shown_of None config text says k a = tt
  shown_of (Some bytes) config text says k a = (text, (loop_of bytes config text says k, a))

  part_of : (p : Option (List ℕ)) (config : Config) (text : List ℕ) → IfSome p (λ bytes. Says bytes (Ok config)) → IsPictureFrom config text → WrotePrefix old new text → IfSome p (λ bytes. LoopFails bytes old new)
  part_of None config text says k w = tt
  part_of (Some bytes) config text says k w = inr (inr (text, (loop_of bytes config text says k, w)))

  pub looped : (n : ℕ) (config : Config) (text : List ℕ) → IfSome o (λ bytes. Says bytes (Ok config)) → IsPictureFrom config text → Prints n old new text → Loops n o rest old new
  looped n config text says k p = printed WasLooped LoopFails max_bytes_read n text o rest old new p (shown_of o config text says k) (part_of o config text says k) taken
