use Rattle.plan_header.proofs.lists.push_machines.Goals as goal

pub returns : goal.returns
returns c = rw c.machines.ensures at c.push_list.ensures
