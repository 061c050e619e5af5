use Rattle.std.proofs.Common.{◌≡◌, Option, Some, ℕ, length, slice_get}
use Rattle.plan_app.specs.OnWords.{IsKeptBy}
use Rattle.plan_app.specs.declared.on_words.Keeper.{Keeper}
use Rattle.plan_app.proofs.on_words.keepers_below.Given as goal

abbrev pub invariant-loop-hazard : goal.invariant-loop-hazard
invariant-loop-hazard l =
    (length l.keepers.items ≡ l.hazard)
    × ((k : ℕ) (keeper : Option Keeper) → slice_get l.keepers.items k ≡ Some keeper → IsKeptBy l.plans k keeper)
