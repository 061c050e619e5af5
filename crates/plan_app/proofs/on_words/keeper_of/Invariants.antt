use Rattle.std.proofs.Common.{◌<◌, ℕ}
use Rattle.plan_app.specs.OnWords.{PermitsBoth}
use Rattle.plan_app.proofs.on_words.keeper_of.Given as goal

abbrev pub invariant-loop-word : goal.invariant-loop-word
invariant-loop-word l = (word : ℕ) → word < l.word → PermitsBoth l.plans l.hazard word
