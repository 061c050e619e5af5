-- The cell's own rules are these four, and no others.
use Rattle.std.proofs.Common.{◌≡◌, ◌⊎◌, inl, inr, ⊎_elim, Bool, true, false, ◌&&◌, not, refl, sym, ap, subst}
use Rattle.cell_types.specs.declared.machine.Machine.{Machine}
use Rattle.cell_types.specs.declared.machine.Machine.TheVariants.{Feed, Press, Deposit}
use Rattle.cell_types.specs.declared.zone.Zone.TheVariants.{Z1, Z6}
use Rattle.cell_types.specs.declared.place.Place.TheVariants.{FeedEnd}
use Rattle.cell_types.specs.declared.posture.Posture.TheVariants.{Moving}
use Rattle.cell_types.specs.declared.pose.Pose.TheVariants.{Middle, Running}
use Rattle.cell_types.specs.declared.call.Call.{Call}
use Rattle.cell_types.specs.declared.call.Call.TheVariants.{Yield, Release, SetPose}
use Rattle.cell_types.specs.declared.answer.Refusal.{Refusal}
use Rattle.cell_types.specs.declared.answer.Refusal.TheVariants.{PlaceFull, InUse}
use Rattle.cell_types.specs.Same.{same_posture, one_posture}
use Rattle.cell_rules.specs.ModelState.{ModelState, zone_at, is_full}
use Rattle.cell_rules.specs.Refusals.{owns}
use Rattle.plan_cell.specs.Laws.{RefusesByItsOwnRules, is_own_rule, feed_holds_back}
use Rattle.plan_cell.specs.OwnRuleLaws.{FeedStays, FeedStands, DepositStands, PressStays, IsOwnRule, OwnRulesAreThese}

left : (a b : Bool) → (a && b) ≡ true → a ≡ true
left true b e = refl
left false b e = cc

right : (a b : Bool) → (a && b) ≡ true → b ≡ true
right true b e = e
right false b e = cc

both : (a b : Bool) → a ≡ true → b ≡ true → (a && b) ≡ true
both a b e f = rw (e, f) refl

is_not : (b : Bool) → not b ≡ true → b ≡ false
is_not true e = cc
is_not false e = refl

stays : (s : ModelState) (c : Call) → (c ≡ Yield Z1) ⊎ (c ≡ Release Z1) → feed_holds_back s ≡ true → FeedStays s Feed c InUse
stays s c call e =
    let runs = same_posture (zone_at s Z6).posture Moving in
    record { machine = refl; call = call; refusal = refl; runs = one_posture _ _ (left runs (is_full s FeedEnd) e); plate = right runs (is_full s FeedEnd) e }

these : (s : ModelState) (m : Machine) (c : Call) (r : Refusal) → is_own_rule s m c r ≡ true → IsOwnRule s m c r
these s Feed (Yield Z1) InUse e = inl (inl (stays s (Yield Z1) (inl refl) e))
these s Feed (Release Z1) InUse e = inl (inl (stays s (Release Z1) (inr refl) e))
these s Feed (SetPose Running) PlaceFull e =
    let other = not (owns s Feed Z1) in
    inl (inr (record { machine = refl; call = refl; refusal = refl; plate = left (is_full s FeedEnd) other e; not_owner = is_not (owns s Feed Z1) (right (is_full s FeedEnd) other e) }))
these s Deposit (SetPose Running) PlaceFull e = inr (inl (record { machine = refl; call = refl; refusal = refl; plate = e }))
these s Press (SetPose Middle) PlaceFull e = inr (inr (record { machine = refl; call = refl; refusal = refl; plate = e }))
these s m c r e = cc

-- the same machine, call and refusal
moved : (s : ModelState) (m n : Machine) (c d : Call) (r q : Refusal) → m ≡ n → c ≡ d → r ≡ q → is_own_rule s n d q ≡ true → is_own_rule s m c r ≡ true
moved s m n c d r q machine call refusal =
    subst (λ (x : Machine × Call × Refusal). is_own_rule s x.0 x.1 x.2 ≡ true) (λ i. (sym machine i, sym call i, sym refusal i))

feed_stays : (s : ModelState) (m : Machine) (c : Call) (r : Refusal) → FeedStays s m c r → is_own_rule s m c r ≡ true
feed_stays s m c r f =
    let back : feed_holds_back s ≡ true = both (same_posture (zone_at s Z6).posture Moving) (is_full s FeedEnd) (ap (λ q. same_posture q Moving) f.runs) f.plate in
    ⊎_elim (λ yields. moved s m Feed c (Yield Z1) r InUse f.machine yields f.refusal back) (λ releases. moved s m Feed c (Release Z1) r InUse f.machine releases f.refusal back) f.call

feed_stands : (s : ModelState) (m : Machine) (c : Call) (r : Refusal) → FeedStands s m c r → is_own_rule s m c r ≡ true
feed_stands s m c r f = moved s m Feed c (SetPose Running) r PlaceFull f.machine f.call f.refusal (both (is_full s FeedEnd) (not (owns s Feed Z1)) f.plate (ap not f.not_owner))

deposit_stands : (s : ModelState) (m : Machine) (c : Call) (r : Refusal) → DepositStands s m c r → is_own_rule s m c r ≡ true
deposit_stands s m c r f = moved s m Deposit c (SetPose Running) r PlaceFull f.machine f.call f.refusal f.plate

press_stays : (s : ModelState) (m : Machine) (c : Call) (r : Refusal) → PressStays s m c r → is_own_rule s m c r ≡ true
press_stays s m c r f = moved s m Press c (SetPose Middle) r PlaceFull f.machine f.call f.refusal f.plate

pub own_rules_are_these : RefusesByItsOwnRules → OwnRulesAreThese
own_rules_are_these law = record {
  test = λ s m c r. (
    these s m c r,
    ⊎_elim (⊎_elim (feed_stays s m c r) (feed_stands s m c r)) (⊎_elim (deposit_stands s m c r) (press_stays s m c r)),
  );
  refused = λ s m c d is done. ⊎_elim (λ e. inl e) (λ own. inr (own.refusal, own.answer, these s m c own.refusal own.rule)) (law s m c d is done);
}
