-- What the cell does, its plan does.
use Rattle.std.proofs.Common.{subst}
use Rattle.cell_types.specs.declared.call.Call.TheVariants.{Claim, Give, Yield, Take, Release, SetPose, Advance, Inquire, Stop, Resume}
use Rattle.plan_types.specs.declared.call.Call.TheVariants.{Claim as DoClaim, Give as DoGive, Yield as DoYield, Take as DoTake, Release as DoRelease, SetPose as DoSetPose, Stop as DoStop, Resume as DoResume}
use Rattle.plan_cell.specs.Numbers.{zone_number, pose_number}
use Rattle.plan_cell.proofs.Alike.{Alike, claim_alike, yield_alike, release_alike, stop_alike, resume_alike}
use Rattle.plan_cell.proofs.Plates.{give_alike, take_alike}
use Rattle.plan_cell.proofs.Posing.{pose_alike}
use Rattle.plan_cell.proofs.Refusing.{unrefused, the_call}
use Rattle.plan_cell.proofs.laws.cell_refuses_more.Goals as goal

pub returns : goal.returns
returns g s m (Claim z) d is e = subst (Alike s m (Claim z)) (the_call (DoClaim (zone_number z)) d is) (claim_alike s m z (unrefused _ e) e)
returns g s m (Give z) d is e = subst (Alike s m (Give z)) (the_call (DoGive (zone_number z)) d is) (give_alike s m z (unrefused _ e) e)
returns g s m (Yield z) d is e = subst (Alike s m (Yield z)) (the_call (DoYield (zone_number z)) d is) (yield_alike s m z (unrefused _ e) e)
returns g s m (Take z) d is e = subst (Alike s m (Take z)) (the_call (DoTake (zone_number z)) d is) (take_alike s m z (unrefused _ e) e)
returns g s m (Release z) d is e = subst (Alike s m (Release z)) (the_call (DoRelease (zone_number z)) d is) (release_alike s m z (unrefused _ e) e)
returns g s m (SetPose p) d is e = subst (Alike s m (SetPose p)) (the_call (DoSetPose (pose_number m p)) d is) (pose_alike s m p (unrefused _ e) e)
returns g s m Advance d is e = cc
returns g s m (Inquire z) d is e = cc
returns g s m Stop d is e = subst (Alike s m Stop) (the_call DoStop d is) (stop_alike s m (unrefused _ e) e)
returns g s m Resume d is e = subst (Alike s m Resume) (the_call DoResume d is) (resume_alike s m (unrefused _ e) e)
