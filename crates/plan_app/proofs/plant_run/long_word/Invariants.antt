use Rattle.std.proofs.Common.{◌<◌, ◌≤◌, ℕ, length, map}
use Rattle.csv_rows.specs.ScriptEnd.{max_records}
use Rattle.plan_app.specs.PlantRunTexts.{history_on}
use Rattle.plan_app.proofs.plant_run.long_word.Given as goal

abbrev pub invariant-loop-word : goal.invariant-loop-word
invariant-loop-word l =
    (word : ℕ) → word < l.word → length (history_on (map (λ h. h.items) l.histories) word) ≤ max_records
