use Rattle.std.proofs.Common.{◌≡◌, map}
use Rattle.plan_interlock.specs.PlantMake.{AreOpened, all_passes}
use Rattle.plan_interlock.proofs.plant_make.open_words.Given as goal

abbrev pub invariant-words : goal.invariant-words
invariant-words l = record {
  opened : AreOpened l.yielded l.tries l.interlocks.items;
  passes : l.passes.items ≡ map all_passes l.interlocks.items;
}
