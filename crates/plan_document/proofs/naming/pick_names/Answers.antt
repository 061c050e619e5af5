use Rattle.std.proofs.Common.{◌∙◌, ◌++◌, ap, sym, arith, get_or, option_to_list, slice_get}
use Rattle.plan_document.proofs.Parted.{picked_more}
use Rattle.plan_document.proofs.naming.pick_names.Goals as goal

pub numbers-preserved : goal.numbers-preserved
numbers-preserved c =
    c.in_ok-push_name_at.ensures
    ∙ ap (λ ys. ys ++ option_to_list (slice_get c.args.names.now (get_or c.args.numbers.now c.numbers.i 0))) c.numbers.invariant
    ∙ sym (picked_more c.args.names.now c.args.numbers.now c.numbers.i (omega arith))
