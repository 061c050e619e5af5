use Rattle.std.proofs.Common.{◌≡◌, length}
use Rattle.plan_workers.specs.PlantStates.{IsStateOn}
use Rattle.plan_workers.proofs.PlantRecording.{HaveTheirs}
use Rattle.plan_workers.proofs.plant_states.survey_words.Given as goal

abbrev pub invariant-rights : goal.invariant-rights
invariant-rights l = record {
  word : l.word ≡ length l.yielded;
  states : HaveTheirs IsStateOn l.interlock l.fn.pass.rights l.states.items l.word;
}
