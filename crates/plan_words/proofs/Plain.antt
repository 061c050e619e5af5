-- Where a state has ten zones the large plan is a plan.
use Rattle.std.proofs.Common.{◌≡◌, ℕ, ◌+◌, true, false, length, map, Some, None, refl, ap}
use Rattle.std.specs.List.{range_with_len}
use Rattle.plan_types.specs.declared.call.Call.{Call}
use Rattle.plan_types.specs.declared.call.Call.TheVariants.{Claim, Give, Yield, Take, Release, SetPose, Inquire, Stop, Resume, Advance}
use Rattle.plan_types.specs.declared.answer.Answer.{Answer}
use Rattle.plan_types.specs.declared.answer.Answer.TheVariants.{Done, Shown, Refused}
use Rattle.plan_types.specs.Table.{PlanTable}
use Rattle.plan_rules.specs.declared.state.State.{State}
use Rattle.plan_rules.specs.Reply.{reply, next_by, other_party, handed, posed, zones_after, places_after, stopped_after}
use Rattle.plan_words.specs.Run.{zones_left, left_by, LargeIsPlain}

zones_plain : (t : PlanTable) (s : State) (m : ℕ) (c : Call) → length s.zones ≡ 10 → zones_left t s m c ≡ zones_after t s m c
zones_plain t s m (SetPose p) e = ap (λ n. map (posed t s p) (range_with_len 0 n)) e
zones_plain t s m (Claim z) e = ap (λ n. map (handed t s z (Some m) false) (range_with_len 0 n)) e
zones_plain t s m (Give z) e = ap (λ n. map (handed t s z (Some (other_party t m z)) true) (range_with_len 0 n)) e
zones_plain t s m (Yield z) e = ap (λ n. map (handed t s z (Some (other_party t m z)) false) (range_with_len 0 n)) e
zones_plain t s m (Take z) e = refl
zones_plain t s m (Release z) e = ap (λ n. map (handed t s z None false) (range_with_len 0 n)) e
zones_plain t s m (Inquire z) e = refl
zones_plain t s m Stop e = refl
zones_plain t s m Resume e = refl
zones_plain t s m (Advance p) e = refl

plain_by : (a : Answer) (t : PlanTable) (s : State) (m : ℕ) (c : Call) → length s.zones ≡ 10 → left_by a t s m c ≡ next_by a t s m c
plain_by Done t s m c e = ap (λ zones. let x : State = record { zones = zones; full = places_after t s m c; stamp = s.stamp + 1; stopped = stopped_after s c } in x) (zones_plain t s m c e)
plain_by (Refused r) t s m c e = refl
plain_by (Shown o f q) t s m c e = refl

pub large_is_plain : LargeIsPlain
large_is_plain t s m c e = plain_by (reply t s m c) t s m c e
