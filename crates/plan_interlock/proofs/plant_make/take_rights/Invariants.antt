use Rattle.std.proofs.Common.{◌≡◌, ℕ, List, ◌∷◌, ◌++◌, map, take, drop}
use Rattle.plan_interlock.specs.PlantMake.{new_right, passes_left}
use Rattle.plan_interlock.proofs.plant_make.take_rights.Given as goal

abbrev pub invariant-loop-word : goal.invariant-loop-word
invariant-loop-word l = record {
  rights : l.rights.items ≡ map (new_right l.actor) (take l.word l.interlocks);
  left : (rest : List ℕ) → l.fn.passes.items ≡ passes_left l.interlocks (l.actor ∷ rest)
      → l.passes.items ≡ passes_left (take l.word l.interlocks) rest ++ passes_left (drop l.word l.interlocks) (l.actor ∷ rest);
}
