use Rattle.std.proofs.Common.{◌∙◌, ◌++◌, ◌∷◌, [], ap, sym, append-nil, arith}
use Rattle.plan_document.proofs.Parted.{name_found, name_missed}
use Rattle.plan_document.proofs.naming.push_name_at.Goals as goal
use Rattle.plan_document.proofs.naming.push_name_at.Goals.{then-number-len+else-len-ge-MAX_NAMES+in_ok-push_name, else-number-len}

pub returns : goal.returns
returns c = elim c.if-number-len.branch [
  | then-number-len+else-len-ge-MAX_NAMES+in_ok-push_name w ↦
      w.copies-is ∙ w.in_ok-push_name.ensures.name
      ∙ ap (λ name. c.args.copies.now ++ name ∷ []) w.name.ensures
      ∙ ap (λ names. c.args.copies.now ++ names) (name_found c.args.names.now c.args.number (omega (arith, w.if-number-len.true, c.len.ensures.count)))
  | else-number-len w ↦
      w.copies-is ∙ sym (append-nil c.args.copies.now)
      ∙ ap (λ names. c.args.copies.now ++ names) (name_missed c.args.names.now c.args.number (omega (arith, w.if-number-len.false, c.len.ensures.count)))
]
