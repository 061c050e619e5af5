-- A call that isn't barred doesn't ask whether the cell is stopped.
use Rattle.cell_rules.proofs.Names.{◌≡◌, true, false, ◌&&◌, refl, sym, ap, ◌∙◌, Machine, Pose, Turning, Travelling, Running, Call, Claim, Give, SetPose, Stop, Resume, Stopped, ModelState, reply, has_call, is_barred, is_cause, is_moving, running, WhatMovesMayStop}
use Rattle.cell_rules.proofs.Refusing.{refusals_tell}
use Rattle.cell_rules.proofs.lemmas.Tables.{never}

posed_same : (s : ModelState) (m : Machine) (p : Pose) → is_barred (SetPose p) ≡ false → reply s m (SetPose p) ≡ reply (running s) m (SetPose p)
posed_same s m Turning k = absurd (never k)
posed_same s m Travelling k = absurd (never k)
posed_same s m Running k = absurd (never k)
posed_same s m _ k = refl

same : (s : ModelState) (m : Machine) (c : Call) → has_call c ≡ true → is_barred c ≡ false → reply s m c ≡ reply (running s) m c
same s m (Claim z) h k = absurd (never k)
same s m (Give z) h k = absurd (never k)
same s m (SetPose p) h k = posed_same s m p k
same s m Stop h k = absurd (never (sym h))
same s m Resume h k = absurd (never (sym h))
same s m _ h k = refl

-- a pose that isn't barred doesn't move
stands : (p : Pose) → is_barred (SetPose p) ≡ false → is_moving p ≡ false
stands Turning k = k
stands _ k = k

no_cause : (s : ModelState) (m : Machine) (c : Call) → has_call c ≡ true → is_barred c ≡ false → is_cause s m c Stopped ≡ false
no_cause s m (Claim z) h k = absurd (never k)
no_cause s m (Give z) h k = absurd (never k)
no_cause s m (SetPose p) h k = ap (λ b. b && s.stopped) (stands p k)
no_cause s m Stop h k = absurd (never (sym h))
no_cause s m Resume h k = absurd (never (sym h))
no_cause s m _ h k = refl

pub what_moves_may_stop : WhatMovesMayStop
what_moves_may_stop s m c sound h k = record {
  same = same s m c h k;
  never_stopped = λ e. let told = refusals_tell.cause s m c Stopped sound e in never (sym told ∙ no_cause s m c h k);
}
