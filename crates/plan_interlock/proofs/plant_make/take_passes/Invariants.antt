use Rattle.std.proofs.Common.{◌≡◌, ◌-◌, [], ◌∷◌, ◌++◌, map}
use Rattle.std.specs.List.{range_with_len}
use Rattle.plan_types.specs.Table.{watch}
use Rattle.plan_interlock.specs.PlantMake.{new_pass, passes_left}
use Rattle.plan_interlock.proofs.plant_make.take_passes.Given as goal

abbrev pub invariant-loop-actor : goal.invariant-loop-actor
invariant-loop-actor l = record {
  made : l.made.items ≡ map (new_pass l.interlocks) (range_with_len 0 l.actor);
  left : l.passes.items ≡ passes_left l.interlocks (range_with_len l.actor (l.machines - l.actor) ++ watch ∷ []);
}
