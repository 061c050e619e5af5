-- The examples of `plant_run_texts_are_told`, and the law `one_word_runs_as_plan`.
use Rattle.std.proofs.Common.{◌≡◌, ◌∙◌, ◌++◌, ◌∷◌, [], ℕ, zero, suc, List, flat_map, get_or, length, option_map, Option, Some, None, ap, refl}
use Rattle.std.proofs.lemmas.List.{append-nil}
use Rattle.std.specs.Fmt.{digits}
use Rattle.std.specs.List.{range_with_len}
use Rattle.plan_types.specs.declared.answer.Refusal.{Refusal}
use Rattle.plan_text.specs.Histories.{script_of}
use Rattle.plan_text.specs.Names.{Text}
use Rattle.plan_document.specs.declared.resolving.ProgrammedPlan.{ProgrammedPlan}
use Rattle.plan_app.specs.PlantRunExamples.{OneWordRunsAsPlan, PlantRunTextsAreTold, on_word_0}
use Rattle.plan_app.specs.PlantRunTexts as plant
use Rattle.plan_app.specs.PlantRunTexts.{plant_run_text, stop_on}
use Rattle.plan_app.specs.RunTexts.{head_line, history_line, machine_line, machine_lines, stop_line}
use Rattle.plan_app.specs.declared.plant_run_text.PlantStop.{PlantStop}

pub plant_run_rows : PlantRunTextsAreTold
unfolding digits plant_run_text
plant_run_rows = λ first second one two. record {
  whole = rw (one, two) refl;
  on_first = rw one refl;
  fine = refl;
  own = rw (one, two) refl;
  foreign = rw (one, two) refl;
}

-- ---- one word

same_lines : (f g : ℕ → Text) → ((m : ℕ) → f m ≡ g m) → (ms : List ℕ) → flat_map f ms ≡ flat_map g ms
same_lines f g same [] = refl
same_lines f g same (m ∷ ms) = ap (λ l. l ++ flat_map f ms) (same m) ∙ ap (λ l. g m ++ l) (same_lines f g same ms)

abbrev on_0 : Refusal → PlantStop
on_0 refusal = record { word = 0; refusal = refusal }

stop_at : (stops : List (Option Refusal)) (m : ℕ) → get_or (on_word_0 stops) m None ≡ option_map on_0 (get_or stops m None)
stop_at [] m = refl
stop_at (s ∷ stops) zero = refl
stop_at (s ∷ stops) (suc m) = stop_at stops m

stop_told : (plan : ProgrammedPlan) (o : Option Refusal) (m : ℕ) → stop_on (plan ∷ []) (option_map on_0 o) m ≡ stop_line plan.named o m
stop_told plan None m = refl
stop_told plan (Some refusal) m = refl

pub one_word : OneWordRunsAsPlan
unfolding plant_run_text
one_word plan turns start history stops =
    let n = plan.named in
    let line : (m : ℕ) → plant.machine_lines (plan ∷ []) n (history ++ []) (on_word_0 stops) m ≡ machine_lines n history stops m =
    λ m. ap (λ h. machine_line n h m ++ stop_on (plan ∷ []) (get_or (on_word_0 stops) m None) m) (append-nil history)
    ∙ ap (λ o. machine_line n history m ++ stop_on (plan ∷ []) o m) (stop_at stops m)
    ∙ ap (λ l. machine_line n history m ++ l) (stop_told plan (get_or stops m None) m) in
    ap (λ l. (head_line turns n.plan.machines ++ l) ++ ((history_line (Some 0) (length history) ++ script_of n start history) ++ []))
    (same_lines (plant.machine_lines (plan ∷ []) n (history ++ []) (on_word_0 stops)) (machine_lines n history stops) line (range_with_len 0 n.plan.machines))
    ∙ ap (λ l. (head_line turns n.plan.machines ++ flat_map (machine_lines n history stops) (range_with_len 0 n.plan.machines)) ++ l)
    (append-nil (history_line (Some 0) (length history) ++ script_of n start history))
