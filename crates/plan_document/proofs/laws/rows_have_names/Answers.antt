use Rattle.plan_document.proofs.MotorLaws.{endangered, needed}
use Rattle.plan_document.proofs.PlanLaws.{kept, zoned}
use Rattle.plan_document.proofs.PostureLaws.{posed}
use Rattle.plan_document.proofs.laws.rows_have_names.Goals as goal

pub returns-clause-places : goal.returns-clause-places
returns-clause-places c = kept

pub returns-clause-zones : goal.returns-clause-zones
returns-clause-zones c = zoned

pub returns-clause-poses : goal.returns-clause-poses
returns-clause-poses c = posed

pub returns-clause-motors : goal.returns-clause-motors
returns-clause-motors c = needed

pub returns-clause-hazards : goal.returns-clause-hazards
returns-clause-hazards c = endangered
