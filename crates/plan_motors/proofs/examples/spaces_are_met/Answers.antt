use Rattle.plan_motors.proofs.SpaceRows.{space_causes, space_masks, space_permits, space_faults}
use Rattle.plan_motors.proofs.examples.spaces_are_met.Goals as goal

pub returns-clause-causes : goal.returns-clause-causes
returns-clause-causes c = space_causes

pub returns-clause-masks : goal.returns-clause-masks
returns-clause-masks c = space_masks

pub returns-clause-permits : goal.returns-clause-permits
returns-clause-permits c = space_permits

pub returns-clause-faults : goal.returns-clause-faults
returns-clause-faults c = space_faults
