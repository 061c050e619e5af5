-- The cell's own rules refuse; each call but Advance is a call by the plan.
use Rattle.std.proofs.Common.{◌≡◌, ◌≢◌, Bool, true, false, ◌&&◌, ◌||◌, not, None, refl, ap}
use Rattle.std.specs.Bool.{then_some}
use Rattle.cell_types.specs.declared.machine.Machine.{Machine}
use Rattle.cell_types.specs.declared.machine.Machine.TheVariants.{Feed, Press, Deposit}
use Rattle.cell_types.specs.declared.zone.Zone.TheVariants.{Z1, Z3}
use Rattle.cell_types.specs.declared.place.Place.TheVariants.{FeedEnd, PressIn, PressOut, DepEnd}
use Rattle.cell_types.specs.declared.posture.Posture.{Posture}
use Rattle.cell_types.specs.declared.posture.Posture.TheVariants.{Closed, Moving, OpenIn, OpenOut}
use Rattle.cell_types.specs.declared.pose.Pose.TheVariants.{Middle, Running}
use Rattle.cell_types.specs.declared.call.Call.{Call}
use Rattle.cell_types.specs.declared.call.Call.TheVariants.{Yield, Release, SetPose, Advance}
use Rattle.cell_types.specs.declared.answer.Refusal.{Refusal}
use Rattle.cell_types.specs.declared.answer.Refusal.TheVariants.{PlaceFull, InUse}
use Rattle.cell_types.specs.Same.{same_posture}
use Rattle.cell_rules.specs.ModelState.{zone_at, is_full}
use Rattle.cell_rules.specs.Refusals as cell
use Rattle.cell_rules.proofs.lemmas.DoneCalls.{none_at, none_then_not, yield_conditions, release_conditions, pose_conditions, no_zone}
use Rattle.plan_cell.specs.Numbers.{plan_call}
use Rattle.plan_cell.specs.Laws.{OwnRulesRefuse, AdvanceAloneIsMissing, feed_holds_back}
use Rattle.plan_cell.proofs.Refusing.{unrefused}

-- a condition that holds refuses
holds_and_refuses : (b : Bool) (r : Refusal) → b ≡ true → then_some b r ≢ None
holds_and_refuses true r rule none = cc
holds_and_refuses false r rule none = cc

moves_not_open : (q : Posture) → same_posture q Moving ≡ true → same_posture q OpenIn ≡ false
moves_not_open Closed e = cc
moves_not_open Moving e = refl
moves_not_open OpenIn e = cc
moves_not_open OpenOut e = cc

-- the press opens for loading out of a movement, with a forged plate in it
opens_onto : (o a b : Bool) → o ≡ false → b ≡ true → ((not o) && (a || b)) ≡ true
opens_onto false true b o k = refl
opens_onto false false b o k = k
opens_onto true a b o k = cc

pub own_rules_refuse : OwnRulesRefuse
own_rules_refuse s Feed (Yield Z1) InUse rule e =
    holds_and_refuses (feed_holds_back s) InUse rule (none_at (yield_conditions s Feed Z1) (unrefused _ e) 4)
own_rules_refuse s Feed (Release Z1) InUse rule e =
    holds_and_refuses (feed_holds_back s) InUse rule (none_at (release_conditions s Feed Z1) (unrefused _ e) 4)
own_rules_refuse s Feed (SetPose Running) PlaceFull rule e =
    holds_and_refuses (is_full s FeedEnd && not (cell.owns s Feed Z1)) PlaceFull rule (none_at (pose_conditions s Feed Running) (unrefused _ e) 6)
own_rules_refuse s Deposit (SetPose Running) PlaceFull rule e =
    holds_and_refuses (is_full s DepEnd || false) PlaceFull (ap (λ b. b || false) rule) (none_at (pose_conditions s Deposit Running) (unrefused _ e) 6)
own_rules_refuse s Press (SetPose Middle) PlaceFull rule e =
    let none = none_at (pose_conditions s Press Middle) (unrefused _ e) in
    let moves : cell.all_move s Press ≡ true = none_then_not _ _ (none 4) in
    let q = (zone_at s Z3).posture in
    let shut = moves_not_open q (moves_by (same_posture q Moving) moves) in
    holds_and_refuses _ PlaceFull (opens_onto (same_posture q OpenIn) (is_full s PressIn) (is_full s PressOut) shut rule) (no_zone (cell.opens_onto_plate s Press Middle) (none 5) Z3)
  where
    moves_by : (b : Bool) → (b && true) ≡ true → b ≡ true
    moves_by true e = refl
    moves_by false e = cc
own_rules_refuse s m c r rule e = cc

missing : (m : Machine) (c : Call) → plan_call m c ≡ None → c ≡ Advance
missing m Advance none = refl
missing m c none = cc

pub advance_alone : AdvanceAloneIsMissing
advance_alone m c = (missing m c, λ is. ap (plan_call m) is)
