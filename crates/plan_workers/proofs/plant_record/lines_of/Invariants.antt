use Rattle.std.proofs.Common.{◌≡◌, length}
use Rattle.plan_workers.specs.PlantRecording.{IsNewLine}
use Rattle.plan_workers.proofs.PlantRecording.{HaveTheirs}
use Rattle.plan_workers.proofs.plant_record.lines_of.Given as goal

abbrev pub invariant-rights : goal.invariant-rights
invariant-rights l = record {
  word : l.word ≡ length l.yielded;
  begun : HaveTheirs IsNewLine l.interlock l.fn.pass.rights l.lines.items l.word;
}
