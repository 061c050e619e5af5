use Rattle.cell_report.proofs.Names.{ap, ◌∙◌, in_order, journal_of}
use Rattle.cell_report.proofs.NextLeast.{all_left}
use Rattle.cell_report.proofs.rests.Merge.new.Goals as goal

pub returns : goal.returns
returns c = λ up. ap in_order (all_left (journal_of c.args.journals.now) c.new.result c.new-2.result c.new-3.result c.new-4.result c.new-5.result c.new-6.result c.new-7.result up c.new.ensures.machine (c.new.ensures.entries ∙ c.deref.ensures.value) c.new-2.ensures.machine (c.new-2.ensures.entries ∙ c.deref-2.ensures.value) c.new-3.ensures.machine (c.new-3.ensures.entries ∙ c.deref-3.ensures.value) c.new-4.ensures.machine (c.new-4.ensures.entries ∙ c.deref-4.ensures.value) c.new-5.ensures.machine (c.new-5.ensures.entries ∙ c.deref-5.ensures.value) c.new-6.ensures.machine (c.new-6.ensures.entries ∙ c.deref-6.ensures.value) c.new-7.ensures.machine (c.new-7.ensures.entries ∙ c.deref-7.ensures.value))
