use Rattle.plan_picture.proofs.zones.push_parties.Goals as goal

pub returns : goal.returns
returns c = rw (c.host-host.ensures, c.guest.ensures, c.plan.ensures, c.plan-2.ensures, c.named_plan.ensures, c.named_plan-2.ensures) at c.push_parties_by.ensures
