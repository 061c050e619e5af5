use Rattle.std.proofs.Common.{◌+◌, ◌<◌, length, inl, inr, subst, arith}
use Rattle.plan_document.proofs.LineWords.{second_past}
use Rattle.plan_document.proofs.naming.second_word.Goals as goal

pub returns-in-None : goal.returns-in-None
returns-in-None c = elim c.in-None.ensures.lookup.0 [
  | inl few ↦ second_past c.args.text.now (subst (λ word. length c.args.text.now < length word + 1) c.first_word.ensures few)
  | inr other ↦ absurd (omega (arith, other))
]
