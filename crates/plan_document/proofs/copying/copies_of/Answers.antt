use Rattle.std.proofs.Common.{◌∙◌, ◌++◌, map, ap, sym, arith, option_to_list, slice_get, get_or, take_all}
use Rattle.plan_document.specs.OnWord.{picked}
use Rattle.plan_document.proofs.Parted.{picked_more}
use Rattle.plan_document.proofs.copying.copies_of.Goals as goal

pub numbers-preserved : goal.numbers-preserved
numbers-preserved g c =
    c.in_ok-push_copy.ensures
    ∙ ap (λ ys. ys ++ option_to_list (slice_get (map g.R.RowCopy.texts c.args.rows.now) (get_or c.args.numbers.now c.numbers.i 0))) c.numbers.invariant
    ∙ sym (picked_more (map g.R.RowCopy.texts c.args.rows.now) c.args.numbers.now c.numbers.i (omega arith))

pub returns : goal.returns
returns g c = c.numbers.invariant ∙ ap (picked (map g.R.RowCopy.texts c.args.rows.now)) (take_all c.numbers.i c.args.numbers.now c.numbers-test.false)
