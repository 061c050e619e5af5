use Rattle.std.proofs.Common.{◌≡◌, length, map}
use Rattle.plan_app.proofs.PlantRunning.{HistoriesBelow, IsExplainedOn}
use Rattle.plan_app.proofs.plant_run.histories_of.Given as goal

abbrev pub invariant-loop-word : goal.invariant-loop-word
invariant-loop-word l = record {
  count : length l.histories.items ≡ l.word;
  explained : HistoriesBelow (IsExplainedOn l.plans l.starts l.backs) l.word
      (map (λ history. history.items) l.histories.items);
}
