-- Each refusal has its cause, on every sound state.
use Rattle.std.proofs.Common.{◌≡◌, ℕ, Option, Some, None, ap}
use Rattle.plan_types.specs.declared.call.Call.{Call}
use Rattle.plan_types.specs.declared.call.Call.TheVariants.{Claim, Give, Yield, Take, Release, SetPose, Inquire, Stop}
use Rattle.plan_types.specs.declared.call.Call.TheVariants.{Resume, Advance}
use Rattle.plan_types.specs.declared.answer.Refusal.{Refusal}
use Rattle.plan_types.specs.declared.answer.Answer.{Answer}
use Rattle.plan_types.specs.declared.answer.Answer.TheVariants.{Refused}
use Rattle.plan_types.specs.Table.{PlanTable}
use Rattle.plan_rules.specs.declared.state.State.{State}
use Rattle.plan_rules.specs.Sound.{IsSound}
use Rattle.plan_rules.specs.Reply.{reply, refusal, answer_by, accepted}
use Rattle.plan_rules.specs.Causes.{order_of, is_cause}
use Rattle.plan_rules.specs.RefusalLaws.{RefusalsTell}
use Rattle.plan_rules.proofs.Causing.{TellsRight, claim_tells, give_tells, yield_tells, take_tells, release_tells, pose_tells, inquire_tells, stop_tells, resume_tells, advance_tells}

call_tells : (t : PlanTable) (s : State) (m : ℕ) (c : Call) → IsSound t s → TellsRight (is_cause t s m c) (order_of c) (refusal t s m c)
call_tells t s m (Claim z) h = claim_tells t s m z h.stamp_in_range
call_tells t s m (Give z) h = give_tells t s m z h.stamp_in_range
call_tells t s m (Yield z) h = yield_tells t s m z h.stamp_in_range
call_tells t s m (Take z) h = take_tells t s m z h.stamp_in_range
call_tells t s m (Release z) h = release_tells t s m z h.stamp_in_range
call_tells t s m (SetPose p) h = pose_tells t s m p h.stamp_in_range
call_tells t s m (Inquire z) h = inquire_tells t s m z
call_tells t s m Stop h = stop_tells t s m h.stamp_in_range
call_tells t s m Resume h = resume_tells t s m h.stamp_in_range
call_tells t s m (Advance p) h = advance_tells t s m p h.stamp_in_range

-- what nothing refuses is answered by no refusal
never_refused : (s : State) (c : Call) (r : Refusal) → accepted s c ≡ Refused r → ⊥
never_refused s (Inquire z) r e = cc
never_refused s _ r e = cc

refused_some : (o : Option Refusal) (a : Answer) (r : Refusal) → (a ≡ Refused r → ⊥) → answer_by o a ≡ Refused r → o ≡ Some r
refused_some None a r none e = absurd (none e)
refused_some (Some q) a r none e = cc

pub refusal_of_reply : (t : PlanTable) (s : State) (m : ℕ) (c : Call) (r : Refusal) → reply t s m c ≡ Refused r → refusal t s m c ≡ Some r
refusal_of_reply t s m c r e = refused_some (refusal t s m c) (accepted s c) r (never_refused s c r) e

pub refusals_tell : RefusalsTell
refusals_tell = record {
  cause = λ t s m c r h e. (call_tells t s m c h).cause r (refusal_of_reply t s m c r e);
  first = λ t s m c r h k.
      let f = (call_tells t s m c h).first r k in
      record { answered = f.answered; answer = ap (λ o. answer_by o (accepted s c)) f.is; order = f.stands };
}
