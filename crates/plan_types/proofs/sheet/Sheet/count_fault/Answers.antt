use Rattle.plan_types.proofs.lemmas.Checked.{count_fault_of_sheet}
use Rattle.plan_types.proofs.sheet.Sheet.count_fault.Goals as goal

pub returns : goal.returns
returns c = rw (c.unless.ensures, c.machines.ensures.machines) (count_fault_of_sheet c.args.self.now c.machines.ensures.fits)
