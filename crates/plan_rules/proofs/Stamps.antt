-- A call that is Done had a stamp left.
use Rattle.std.proofs.Common.{◌≡◌, ℕ, ◌<◌}
use Rattle.plan_types.specs.declared.call.Call.{Call}
use Rattle.plan_types.specs.declared.call.Call.TheVariants.{Claim, Give, Yield, Take, Release, SetPose, Inquire, Stop, Resume, Advance}
use Rattle.plan_types.specs.declared.answer.Answer.TheVariants.{Done}
use Rattle.plan_types.specs.Table.{PlanTable}
use Rattle.plan_rules.specs.declared.state.State.{State}
use Rattle.plan_rules.specs.Reply.{reply}
use Rattle.plan_rules.proofs.lemmas.DoneCalls.{claim_done, give_done, yield_done, take_done, release_done, pose_done, advance_done, stop_done, resume_done}
use Rattle.plan_rules.proofs.lemmas.Soundness.{done_none, never_done}

pub stamp_left : (t : PlanTable) (s : State) (m : ℕ) (c : Call) → reply t s m c ≡ Done → s.stamp < 1048575
stamp_left t s m (Claim z) e = (claim_done t s m z (done_none _ _ e)).fresh
stamp_left t s m (Give z) e = (give_done t s m z (done_none _ _ e)).holder.fresh
stamp_left t s m (Yield z) e = (yield_done t s m z (done_none _ _ e)).holder.fresh
stamp_left t s m (Take z) e = (take_done t s m z (done_none _ _ e)).holder.fresh
stamp_left t s m (Release z) e = (release_done t s m z (done_none _ _ e)).holder.fresh
stamp_left t s m (SetPose p) e = (pose_done t s m p (done_none _ _ e)).fresh
stamp_left t s m (Inquire z) e = never_done t s m z e
stamp_left t s m Stop e = (stop_done s m (done_none _ _ e)).fresh
stamp_left t s m Resume e = (resume_done s m (done_none _ _ e)).fresh
stamp_left t s m (Advance p) e = (advance_done t s m p (done_none _ _ e)).fresh
