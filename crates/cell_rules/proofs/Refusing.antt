-- Each refusal has its cause, on every sound state.
use Rattle.cell_rules.proofs.Names.{◌≡◌, Option, Some, None, ap, Machine, Call, Claim, Give, Yield, Take, Release, SetPose, Advance, Inquire, Stop, Resume, Refusal, Refused, ModelState, IsSound, reply, refusal, done_unless, is_cause, RefusalsTell}
use Rattle.cell_rules.specs.Names.{order_of}
use Rattle.cell_rules.proofs.Causing.{TellsRight, claim_tells, give_tells, yield_tells, take_tells, release_tells, stop_tells, resume_tells}
use Rattle.cell_rules.proofs.Posing.{pose_tells, advance_tells}

call_tells : (s : ModelState) (m : Machine) (c : Call) → IsSound s → TellsRight (is_cause s m c) (order_of c) (refusal s m c)
call_tells s m (Claim z) h = claim_tells s m z h.stamp_in_range
call_tells s m (Give z) h = give_tells s m z h.stamp_in_range
call_tells s m (Yield z) h = yield_tells s m z h.stamp_in_range
call_tells s m (Take z) h = take_tells s m z h.stamp_in_range
call_tells s m (Release z) h = release_tells s m z h.stamp_in_range
call_tells s m (SetPose p) h = pose_tells s m p h.stamp_in_range
call_tells s m Advance h = advance_tells s m h.stamp_in_range
call_tells s m Stop h = stop_tells s m h.stamp_in_range
call_tells s m Resume h = resume_tells s m h.stamp_in_range
call_tells s m (Inquire z) h = record { cause = λ r e. cc; first = λ r k. cc }

refused_some : (o : Option Refusal) (r : Refusal) → done_unless o ≡ Refused r → o ≡ Some r
refused_some None r e = cc
refused_some (Some q) r e = cc

refusal_of_reply : (s : ModelState) (m : Machine) (c : Call) (r : Refusal) → reply s m c ≡ Refused r → refusal s m c ≡ Some r
refusal_of_reply s m (Inquire z) r e = cc
refusal_of_reply s m c r e = refused_some (refusal s m c) r e

reply_of_refusal : (s : ModelState) (m : Machine) (c : Call) (r : Refusal) → refusal s m c ≡ Some r → reply s m c ≡ Refused r
reply_of_refusal s m (Inquire z) r e = cc
reply_of_refusal s m c r e = ap done_unless e

pub refusals_tell : RefusalsTell
refusals_tell = record {
  cause = λ s m c r h e. (call_tells s m c h).cause r (refusal_of_reply s m c r e);
  first = λ s m c r h k. let f = (call_tells s m c h).first r k in record { answered = f.answered; answer = reply_of_refusal s m c f.answered f.is; order = f.stands };
}
