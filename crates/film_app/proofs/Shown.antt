-- What a film writer has after the frames of a run.
use Rattle.std.proofs.Common.{◌≡◌, ℕ, List, [], ◌∷◌, ◌++◌, append-nil, append_assoc, Some, Result, Ok, OnOk, take, sym, ap, ◌∙◌, subst}
use Rattle.cell_notes.specs.declared.schedule.Turn.{Turn}
use Rattle.cell_notes.specs.declared.run_record.RunRecord.{RunRecord}
use Rattle.cell_rules.specs.ModelState.{ModelState}
use Rattle.cell_sensors.specs.Names.{Pair, Scale}
use Rattle.cell_parts.specs.Axes.{CellScales}
use Rattle.cell_config.specs.Configured.{in_order}
use Rattle.cell_plant.specs.Names.{CellGauges, on_curves, IsShown, SeesRun, frames_of}
use Rattle.cell_plant.specs.declared.frame.Frame.{Frame}
use Rattle.std.specs.declared.alloc.AllocError.{AllocError}
use Rattle.film_app.specs.Lines.{FilmSoFar, frame_line, lines_after, no_film, said_after, shown_next}
use Rattle.film_app.specs.Pages.{ShowsConfigured, ShowsRun, max_turns}

-- as the film writer says it of one frame
abbrev pub Sees : FilmSoFar → Frame → Result (Unit {0}) AllocError → FilmSoFar → Type 0
Sees old f result new = OnOk result (new ≡ shown_next old f)

has_lines : (s v : FilmSoFar) (frames : List Frame) → IsShown Sees s frames (Ok tt) v → v.lines ≡ s.lines ++ lines_after s.before s.said frames
has_lines s v [] k = ap (λ (x : FilmSoFar). x.lines) k.1 ∙ sym (append-nil s.lines)
has_lines s v (f ∷ []) k = ap (λ (x : FilmSoFar). x.lines) k ∙ ap (λ x. s.lines ++ x) (sym (append-nil (frame_line s.before s.said f)))
has_lines s v (f ∷ g ∷ fs) k =
    subst (λ (u : FilmSoFar). v.lines ≡ u.lines ++ lines_after u.before u.said (g ∷ fs)) k.1.0 (has_lines k.0 v (g ∷ fs) k.1.1)
    ∙ append_assoc s.lines (frame_line s.before s.said f) (lines_after (Some f) (said_after s.said f) (g ∷ fs))

-- what it has seen of a whole run
pub shows_run : (c : CellScales) (gives : CellGauges) (opening : ModelState) (turns : List Turn) (v : FilmSoFar) (r : RunRecord) → SeesRun Sees c gives opening turns no_film v r → ShowsRun c gives opening turns v.lines
shows_run c gives opening turns v r k =
    record { steps = k.tells.steps; run = k.tells.run; shown = has_lines no_film v (frames_of opening turns k.tells.steps) k.seen }

pub shows_configured : (points : List Scale) (curves : List (List Pair)) (opening : ModelState) (schedule : List Turn) (w v : FilmSoFar) (r : RunRecord) (lines : List ℕ) → w ≡ no_film
    → ((x : CellScales) × ((points ≡ in_order x) × SeesRun Sees x (on_curves curves) opening (take max_turns schedule) w v r)) → lines ≡ v.lines → ShowsConfigured points curves opening schedule lines
shows_configured points curves opening schedule w v r lines new k same =
    record {
      scales = k.0;
      fits = k.1.0;
      shown = subst (ShowsRun k.0 (on_curves curves) opening (take max_turns schedule)) (sym same)
          (shows_run k.0 (on_curves curves) opening (take max_turns schedule) v r (subst (λ x. SeesRun Sees k.0 (on_curves curves) opening (take max_turns schedule) x v r) new k.1.1));
    }

-- ---- a page, made part by part

pub page_made : (a b c d head lines cut tail : List ℕ) → a ≡ head → b ≡ a ++ lines → c ≡ b ++ cut → d ≡ c ++ tail → d ≡ head ++ (lines ++ (cut ++ tail))
page_made a b c d head lines cut tail begun lined cutted tailed =
    let whole : ((head ++ lines) ++ cut) ++ tail ≡ head ++ (lines ++ (cut ++ tail)) = simp append_assoc in
    tailed ∙ ap (λ x. x ++ tail) (cutted ∙ ap (λ x. x ++ cut) (lined ∙ ap (λ x. x ++ lines) begun)) ∙ whole
