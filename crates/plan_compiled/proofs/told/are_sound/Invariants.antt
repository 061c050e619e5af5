use Rattle.std.proofs.Common.{◌≡◌, ◌/◌, ◌^◌}
use Rattle.plan_compiled.specs.Ends.{TakenBelow}
use Rattle.plan_word.proofs.lemmas.Shapes.{ends}
use Rattle.plan_compiled.proofs.told.are_sound.Given as goal

abbrev pub invariant-loop-zone : goal.invariant-loop-zone
invariant-loop-zone l = record {
  rest : l.rest ≡ l.word / 2 ^ ends l.plan l.zone;
  taken : TakenBelow l.plan l.word l.zone l.taken;
}
