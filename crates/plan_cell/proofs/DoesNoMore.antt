-- What the plan does, the cell does too, or refuses by a rule of its own.
use Rattle.std.proofs.Common.{inl, refl, sym, ap, subst}
use Rattle.cell_types.specs.declared.call.Call.TheVariants.{Claim, Give, Yield, Take, Release, SetPose, Advance, Inquire, Stop, Resume}
use Rattle.cell_types.specs.declared.answer.Refusal.TheVariants.{PlaceFull, InUse}
use Rattle.cell_rules.specs.Reply.{done_unless}
use Rattle.plan_types.specs.declared.call.Call.TheVariants.{Claim as DoClaim, Give as DoGive, Yield as DoYield, Take as DoTake, Release as DoRelease, SetPose as DoSetPose, Inquire as DoInquire, Stop as DoStop, Resume as DoResume}
use Rattle.plan_cell.specs.Numbers.{zone_number, pose_number}
use Rattle.plan_cell.specs.Laws.{RefusesByItsOwnRules}
use Rattle.plan_cell.proofs.Converse.{claims, gives, yields, takes, releases, poses, stops, resumes, settled, same_call, unshown, plan_does}
use Rattle.plan_cell.proofs.Refusing.{the_call}

pub does_no_more : RefusesByItsOwnRules
does_no_more s m (Claim z) d is e = inl (ap done_unless (claims s m z (same_call s m (DoClaim (zone_number z)) d is e)))
does_no_more s m (Give z) d is e = inl (ap done_unless (gives s m z (same_call s m (DoGive (zone_number z)) d is e)))
does_no_more s m (Yield z) d is e = settled s m (Yield z) InUse _ refl (yields s m z (same_call s m (DoYield (zone_number z)) d is e))
does_no_more s m (Take z) d is e = inl (ap done_unless (takes s m z (same_call s m (DoTake (zone_number z)) d is e)))
does_no_more s m (Release z) d is e = settled s m (Release z) InUse _ refl (releases s m z (same_call s m (DoRelease (zone_number z)) d is e))
does_no_more s m (SetPose p) d is e = settled s m (SetPose p) PlaceFull _ refl (poses s m p (same_call s m (DoSetPose (pose_number m p)) d is e))
does_no_more s m Advance d is e = cc
does_no_more s m (Inquire z) d is e =
    absurd (unshown _ _ _ _ (subst (plan_does s m) (sym (the_call (DoInquire (zone_number z)) d is)) e))
does_no_more s m Stop d is e = inl (ap done_unless (stops s m (same_call s m DoStop d is e)))
does_no_more s m Resume d is e = inl (ap done_unless (resumes s m (same_call s m DoResume d is e)))
