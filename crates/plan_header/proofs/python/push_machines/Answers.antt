use Rattle.plan_header.proofs.python.push_machines.Goals as goal

pub returns : goal.returns
returns c = rw c.machines.ensures at c.push_names.ensures
