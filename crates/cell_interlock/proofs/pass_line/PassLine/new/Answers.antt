use Rattle.cell_interlock.proofs.Instance.{legal_here}
use Rattle.cell_interlock.proofs.lemmas.Journals.{line_new}
use Rattle.cell_interlock.proofs.pass_line.PassLine.new.Goals as goal

pub invariant_of-result : goal.invariant_of-result
invariant_of-result c =
    let k = c.passes_see_lawful_histories.ensures in
    (c.requires.own, (line_new _ _ _ c.pass.view_is c.requires.settled_none k.opened (legal_here _ _ k.legal) c.new.ensures.items, tt))
