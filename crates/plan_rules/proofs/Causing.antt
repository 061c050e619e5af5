-- Each call is refused by the first of its conditions, and these give its causes.
use Rattle.std.proofs.Common.{◌≡◌, ◌≤◌, ℕ, zero, suc, Bool, true, false, ◌&&◌, ◌||◌, not, nat_eq, nat_lt, Option, Some, None, option_map, is_none, is_some, unwrap_or, List, [], ◌∷◌, refl, sym, ap, ◌∙◌, subst, if◌then◌else◌}
use Rattle.std.specs.Bool.{then_some}
use Rattle.std.proofs.lemmas.Option.{same_Some}
use Rattle.std.specs.Option.{option_eq, option_or}
use Rattle.plan_types.specs.declared.posture.Posture.{Posture}
use Rattle.plan_types.specs.declared.posture.Posture.TheVariants.{Closed, Moving, OpenIn, OpenOut}
use Rattle.plan_types.specs.declared.table.Transfer.{Transfer}
use Rattle.plan_types.specs.declared.call.Call.{Call}
use Rattle.plan_types.specs.declared.call.Call.TheVariants.{Claim, Give, Yield, Take, Release, SetPose, Inquire, Stop}
use Rattle.plan_types.specs.declared.call.Call.TheVariants.{Resume, Advance}
use Rattle.plan_types.specs.declared.answer.Refusal.{Refusal}
use Rattle.plan_types.specs.declared.answer.Refusal.TheVariants.{NotParty, AlreadyMine, NotOwner, PlateInZone, NoPlate}
use Rattle.plan_types.specs.declared.answer.Refusal.TheVariants.{PlaceFull, WrongWay, Jump, NoPose, Worn, Stopped}
use Rattle.plan_types.specs.declared.answer.Refusal.TheVariants.{NotStopped}
use Rattle.plan_types.specs.Same.{same_posture}
use Rattle.plan_types.specs.Below.{first_below, any_below}
use Rattle.plan_types.specs.Table.{PlanTable, zone_count, host_of, guest_of, is_party, has_pose, pose_row, posture_of, is_moving_pose, transfer_of, watch, is_source, is_sink, has_end}
use Rattle.plan_rules.specs.declared.state.State.{State}
use Rattle.plan_rules.specs.State.{zone_at, owner_of, posture_at, is_full, space_has_plate}
use Rattle.plan_rules.specs.Refusals as refusals
use Rattle.plan_rules.specs.Refusals.{owns, given_by, is_taken}
use Rattle.plan_rules.specs.Causes.{number_of, order_of, is_cause, claim_cause, give_cause, yield_cause, take_cause, release_cause, pose_cause, inquire_cause, stop_cause, resume_cause, advance_cause, on_way, on_zone, is_other, is_at_stake, is_opened, lacks_room}
use Rattle.plan_rules.proofs.Chains.{Line, line, chain, numbers, Tells, First, is_among, told_by, first_by}
use Rattle.plan_rules.proofs.Tellings.{never, plain, names_owner, names_zone, names_holder, names_posture, names_moving, option_same, worn_at}
use Rattle.plan_rules.proofs.lemmas.Puts.{nat_eq-self}

-- a call's refusal has its cause, and is in the call's order
pub record TellsRight (causes : Refusal → Bool) (order : List ℕ) (o : Option Refusal) : Type 0 where
  pub cause : (r : Refusal) → o ≡ Some r → causes r ≡ true
  pub first : (r : Refusal) → causes r ≡ true → First order o r

-- the order names every refusal that has a cause
abbrev pub AllNamed : (Refusal → Bool) → List ℕ → Type 0
AllNamed causes order = (r : Refusal) → causes r ≡ true → is_among (number_of r) order ≡ true

pub by_lines : (causes : Refusal → Bool) (ls : List (Line causes)) → AllNamed causes (numbers ls) → TellsRight causes (numbers ls) (chain None ls)
by_lines causes ls named = record { cause = told_by causes ls; first = λ r k. first_by causes ls r k (named r k) }

pub named : (t : PlanTable) (s : State) (m : ℕ) (c : Call) → AllNamed (is_cause t s m c) (order_of c)
named t s m (Claim z) NotParty k = refl
named t s m (Give z) NotParty k = refl
named t s m (Yield z) NotParty k = refl
named t s m (Take z) NotParty k = refl
named t s m (Release z) NotParty k = refl
named t s m (SetPose p) NoPose k = refl
named t s m (Inquire z) NotParty k = refl
named t s m Stop NotParty k = refl
named t s m Resume NotParty k = refl
named t s m (Advance p) NotParty k = refl
named t s m _ _ k = cc

-- ---- what is given in a zone

given_if : (b : Bool) (way : Transfer) → is_none (if b then Some way else None) ≡ not (b && true)
given_if true way = refl
given_if false way = refl

wrong : (m : ℕ) (o : Option Transfer) → not (on_way o (λ way. nat_eq way.giver m && true)) ≡ is_none (given_by m o)
wrong m None = refl
wrong m (Some way) = sym (given_if (nat_eq way.giver m) way)

to_give_if : (causes : Refusal → Bool) (s : State) (way : Transfer) (b : Bool) → causes NoPlate ≡ (b && not (is_full s way.from)) → Tells causes (7, refusals.nothing_to_give s (if b then Some way else None))
to_give_if causes s way true same = plain causes NoPlate (not (is_full s way.from)) refl same
to_give_if causes s way false same = plain causes NoPlate false refl same

to_give : (causes : Refusal → Bool) (s : State) (m : ℕ) (o : Option Transfer) → causes NoPlate ≡ on_way o (λ way. nat_eq way.giver m && not (is_full s way.from)) → Tells causes (7, refusals.nothing_to_give s (given_by m o))
to_give causes s m None same = plain causes NoPlate false refl same
to_give causes s m (Some way) same = to_give_if causes s way (nat_eq way.giver m) same

to_fill_if : (causes : Refusal → Bool) (t : PlanTable) (s : State) (way : Transfer) (b : Bool) → causes PlaceFull ≡ (b && is_taken t s way.to) → Tells causes (8, refusals.no_room t s (if b then Some way else None))
to_fill_if causes t s way true same = plain causes PlaceFull (is_taken t s way.to) refl same
to_fill_if causes t s way false same = plain causes PlaceFull false refl same

to_fill : (causes : Refusal → Bool) (t : PlanTable) (s : State) (m : ℕ) (o : Option Transfer) → causes PlaceFull ≡ on_way o (λ way. nat_eq way.giver m && is_taken t s way.to) → Tells causes (8, refusals.no_room t s (given_by m o))
to_fill causes t s m None same = plain causes PlaceFull false refl same
to_fill causes t s m (Some way) same = to_fill_if causes t s way (nat_eq way.giver m) same

-- ---- the zones of a pose

or_map : (R : ℕ → Refusal) (a b : Option ℕ) → option_map R (option_or a b) ≡ option_or (option_map R a) (option_map R b)
or_map R None b = refl
or_map R (Some x) b = refl

then_map : (R : ℕ → Refusal) (b : Bool) (z : ℕ) → option_map R (then_some b z) ≡ then_some b (R z)
then_map R true z = refl
then_map R false z = refl

-- the first refusal of a zone names the lowest zone that passes the test
first_named : (R : ℕ → Refusal) (f g : ℕ → Bool) (n : ℕ) → ((z : ℕ) → g z ≡ f z) → option_map R (first_below (λ z. then_some (g z) z) n) ≡ first_below (λ z. then_some (f z) (R z)) n
first_named R f g zero same = refl
first_named R f g (suc n) same =
    or_map R (first_below (λ z. then_some (g z) z) n) (then_some (g n) n)
    ∙ ap (λ o. option_or o (option_map R (then_some (g n) n))) (first_named R f g n same)
    ∙ ap (λ o. option_or (first_below (λ z. then_some (f z) (R z)) n) o) (then_map R (g n) n ∙ ap (λ b. then_some b (R n)) (same n))

found_first_owner : (causes : Refusal → Bool) (s : State) (found : Option ℕ) → ((o : Option ℕ) → causes (NotOwner o) ≡ on_zone found (λ z. option_eq nat_eq (owner_of s z) o)) → (r : Refusal) → number_of r ≡ 5 → causes r ≡ true
    → is_some (option_map (λ z. NotOwner (owner_of s z)) found) ≡ true
found_first_owner causes s None same (NotOwner o) n k = absurd (never (sym k ∙ same o))
found_first_owner causes s None same _ n k = absurd (never (sym (ap (λ i. nat_eq i 5) n)))
found_first_owner causes s (Some z) same r n k = refl

told_first_owner : (causes : Refusal → Bool) (s : State) (found : Option ℕ) → ((o : Option ℕ) → causes (NotOwner o) ≡ on_zone found (λ z. option_eq nat_eq (owner_of s z) o)) → (r : Refusal) → option_map (λ z. NotOwner (owner_of s z)) found ≡ Some r
    → (number_of r ≡ 5) × (causes r ≡ true)
told_first_owner causes s None same r e = cc
told_first_owner causes s (Some z) same r e =
    let is = same_Some (NotOwner (owner_of s z)) r e in
    (ap number_of (sym is), ap causes (sym is) ∙ same (owner_of s z) ∙ option_same (owner_of s z))

first_owner : (causes : Refusal → Bool) (s : State) (found : Option ℕ) → ((o : Option ℕ) → causes (NotOwner o) ≡ on_zone found (λ z. option_eq nat_eq (owner_of s z) o)) → Tells causes (5, option_map (λ z. NotOwner (owner_of s z)) found)
first_owner causes s found same = record { told = told_first_owner causes s found same; found = found_first_owner causes s found same }

found_first_plate : (causes : Refusal → Bool) (found : Option ℕ) → ((y : ℕ) → causes (PlateInZone y) ≡ on_zone found (λ z. nat_eq y z)) → (r : Refusal) → number_of r ≡ 6 → causes r ≡ true → is_some (option_map (λ z. PlateInZone z) found) ≡ true
found_first_plate causes None same (PlateInZone y) n k = absurd (never (sym k ∙ same y))
found_first_plate causes None same _ n k = absurd (never (sym (ap (λ i. nat_eq i 6) n)))
found_first_plate causes (Some z) same r n k = refl

told_first_plate : (causes : Refusal → Bool) (found : Option ℕ) → ((y : ℕ) → causes (PlateInZone y) ≡ on_zone found (λ z. nat_eq y z)) → (r : Refusal) → option_map (λ z. PlateInZone z) found ≡ Some r → (number_of r ≡ 6) × (causes r ≡ true)
told_first_plate causes None same r e = cc
told_first_plate causes (Some z) same r e =
    let is = same_Some (PlateInZone z) r e in
    (ap number_of (sym is), ap causes (sym is) ∙ same z ∙ nat_eq-self z)

first_plate : (causes : Refusal → Bool) (found : Option ℕ) → ((y : ℕ) → causes (PlateInZone y) ≡ on_zone found (λ z. nat_eq y z)) → Tells causes (6, option_map (λ z. PlateInZone z) found)
first_plate causes found same = record { told = told_first_plate causes found same; found = found_first_plate causes found same }

-- a refusal that names no zone is the same at each
or_then : (r : Refusal) (a b : Bool) → option_or (then_some a r) (then_some b r) ≡ then_some (a || b) r
or_then r true b = refl
or_then r false b = refl

any_first : (r : Refusal) (f g : ℕ → Bool) (n : ℕ) → ((z : ℕ) → g z ≡ f z) → then_some (any_below g n) r ≡ first_below (λ z. then_some (f z) r) n
any_first r f g zero same = refl
any_first r f g (suc n) same =
    sym (or_then r (any_below g n) (g n)) ∙ ap (λ o. option_or o (then_some (g n) r)) (any_first r f g n same) ∙ ap (λ b. option_or (first_below (λ z. then_some (f z) r) n) (then_some b r)) (same n)

another : (given : Option Posture) (now : Posture) → is_other given now ≡ not (same_posture (unwrap_or given now) now)
another None Closed = refl
another None Moving = refl
another None OpenIn = refl
another None OpenOut = refl
another (Some q) now = refl

opened : (given : Option Posture) (now : Posture) → is_opened given now ≡ (same_posture (unwrap_or given now) OpenIn && not (same_posture now OpenIn))
opened None Closed = refl
opened None Moving = refl
opened None OpenIn = refl
opened None OpenOut = refl
opened (Some q) now = refl

onto : (t : PlanTable) (s : State) (o : Option Transfer) → on_way o (λ way. is_taken t s way.to) ≡ refusals.is_onto_taken t s o
onto t s None = refl
onto t s (Some way) = refl

stake : (t : PlanTable) (s : State) (m p z : ℕ) → is_at_stake t s m p z ≡ refusals.is_concerned t s m p z
stake t s m p z = ap (λ b. nat_eq (host_of t z) m && (is_moving_pose t p || b)) (another (posture_of t p z) (posture_at s z))

room : (t : PlanTable) (s : State) (p z : ℕ) → lacks_room t s p z ≡ (same_posture (refusals.posture_with t s p z) OpenIn && not (same_posture (posture_at s z) OpenIn) && refusals.is_onto_taken t s (transfer_of t z OpenIn))
room t s p z =
    ap (λ b. b && on_way (transfer_of t z OpenIn) (λ way. is_taken t s way.to)) (opened (posture_of t p z) (posture_at s z))
    ∙ ap (λ b. same_posture (refusals.posture_with t s p z) OpenIn && not (same_posture (posture_at s z) OpenIn) && b) (onto t s (transfer_of t z OpenIn))

-- ---- the calls

pub claim_tells : (t : PlanTable) (s : State) (m z : ℕ) → s.stamp ≤ 1048575 → TellsRight (claim_cause t s m z) (1 ∷ 14 ∷ 3 ∷ 2 ∷ 4 ∷ 13 ∷ []) (refusals.claim_refusal t s m z)
claim_tells t s m z small =
    let causes = claim_cause t s m z in
    let lines : List (Line causes) =
    line (plain causes NotParty (not (is_party t m z)) refl refl)
    ∷ line (plain causes Stopped s.stopped refl refl)
    ∷ line (plain causes AlreadyMine (owns s m z) refl refl)
    ∷ line (names_holder causes (owner_of s z) m (λ o. refl))
    ∷ line (names_posture causes (posture_at s z) (nat_eq m (guest_of t z)) (λ p. refl))
    ∷ line (plain causes Worn (not (nat_lt s.stamp 1048575)) refl (worn_at s.stamp small))
    ∷ [] in
    by_lines causes lines (named t s m (Claim z))

pub give_tells : (t : PlanTable) (s : State) (m z : ℕ) → s.stamp ≤ 1048575 → TellsRight (give_cause t s m z) (1 ∷ 14 ∷ 5 ∷ 6 ∷ 9 ∷ 7 ∷ 8 ∷ 13 ∷ []) (refusals.give_refusal t s m z)
give_tells t s m z small =
    let causes = give_cause t s m z in
    let way = transfer_of t z (posture_at s z) in
    let lines : List (Line causes) =
    line (plain causes NotParty (not (is_party t m z)) refl refl)
    ∷ line (plain causes Stopped s.stopped refl refl)
    ∷ line (names_owner causes (owner_of s z) (not (owns s m z)) (λ o. refl))
    ∷ line (names_zone causes z (space_has_plate t s z) (λ y. refl))
    ∷ line (plain causes WrongWay (is_none (given_by m way)) refl (wrong m way))
    ∷ line (to_give causes s m way refl)
    ∷ line (to_fill causes t s m way refl)
    ∷ line (plain causes Worn (not (nat_lt s.stamp 1048575)) refl (worn_at s.stamp small))
    ∷ [] in
    by_lines causes lines (named t s m (Give z))

pub yield_tells : (t : PlanTable) (s : State) (m z : ℕ) → s.stamp ≤ 1048575 → TellsRight (yield_cause t s m z) (1 ∷ 5 ∷ 6 ∷ 4 ∷ 13 ∷ []) (refusals.yield_refusal t s m z)
yield_tells t s m z small =
    let causes = yield_cause t s m z in
    let lines : List (Line causes) =
    line (plain causes NotParty (not (is_party t m z)) refl refl)
    ∷ line (names_owner causes (owner_of s z) (not (owns s m z)) (λ o. refl))
    ∷ line (names_zone causes z (space_has_plate t s z) (λ y. refl))
    ∷ line (names_posture causes (posture_at s z) true (λ p. refl))
    ∷ line (plain causes Worn (not (nat_lt s.stamp 1048575)) refl (worn_at s.stamp small))
    ∷ [] in
    by_lines causes lines (named t s m (Yield z))

pub take_tells : (t : PlanTable) (s : State) (m z : ℕ) → s.stamp ≤ 1048575 → TellsRight (take_cause t s m z) (1 ∷ 5 ∷ 7 ∷ 13 ∷ []) (refusals.take_refusal t s m z)
take_tells t s m z small =
    let causes = take_cause t s m z in
    let lines : List (Line causes) =
    line (plain causes NotParty (not (is_party t m z)) refl refl)
    ∷ line (names_owner causes (owner_of s z) (not (owns s m z)) (λ o. refl))
    ∷ line (plain causes NoPlate (not (zone_at s z).flag) refl refl)
    ∷ line (plain causes Worn (not (nat_lt s.stamp 1048575)) refl (worn_at s.stamp small))
    ∷ [] in
    by_lines causes lines (named t s m (Take z))

pub release_tells : (t : PlanTable) (s : State) (m z : ℕ) → s.stamp ≤ 1048575 → TellsRight (release_cause t s m z) (1 ∷ 5 ∷ 6 ∷ 4 ∷ 13 ∷ []) (refusals.release_refusal t s m z)
release_tells t s m z small =
    let causes = release_cause t s m z in
    let lines : List (Line causes) =
    line (plain causes NotParty (not (is_party t m z)) refl refl)
    ∷ line (names_owner causes (owner_of s z) (not (owns s m z)) (λ o. refl))
    ∷ line (names_zone causes z (space_has_plate t s z) (λ y. refl))
    ∷ line (names_moving causes (same_posture (posture_at s z) Moving) refl (refl, refl, refl))
    ∷ line (plain causes Worn (not (nat_lt s.stamp 1048575)) refl (worn_at s.stamp small))
    ∷ [] in
    by_lines causes lines (named t s m (Release z))

pub pose_tells : (t : PlanTable) (s : State) (m p : ℕ) → s.stamp ≤ 1048575 → TellsRight (pose_cause t s m p) (12 ∷ 14 ∷ 5 ∷ 6 ∷ 10 ∷ 8 ∷ 13 ∷ []) (refusals.pose_refusal t s m p)
pose_tells t s m p small =
    let causes = pose_cause t s m p in
    let n = zone_count t in
    let unowned : ℕ → Bool = λ z. is_at_stake t s m p z && not (owns s m z) in
    let covered : ℕ → Bool = λ z. is_at_stake t s m p z && space_has_plate t s z in
    let owners = first_named (λ z. NotOwner (owner_of s z)) (λ z. refusals.is_concerned t s m p z && not (owns s m z)) unowned n (λ z. ap (λ b. b && not (owns s m z)) (stake t s m p z)) in
    let plates = first_named (λ z. PlateInZone z) (λ z. refusals.is_concerned t s m p z && space_has_plate t s z) covered n (λ z. ap (λ b. b && space_has_plate t s z) (stake t s m p z)) in
    let opens : ℕ → Bool = λ z. same_posture (refusals.posture_with t s p z) OpenIn && not (same_posture (posture_at s z) OpenIn) && refusals.is_onto_taken t s (transfer_of t z OpenIn) in
    let rooms = any_first PlaceFull opens (lacks_room t s p) n (room t s p) in
    let lines : List (Line causes) =
    line (plain causes NoPose (not (has_pose t m p)) refl refl)
    ∷ line (plain causes Stopped (is_moving_pose t p && s.stopped) refl refl)
    ∷ line (subst (λ (o : Option Refusal). Tells causes (5, o)) owners (first_owner causes s (first_below (λ z. then_some (unowned z) z) n) (λ o. refl)))
    ∷ line (subst (λ (o : Option Refusal). Tells causes (6, o)) plates (first_plate causes (first_below (λ z. then_some (covered z) z) n) (λ y. refl)))
    ∷ line (plain causes Jump ((pose_row t p).after_moving && any_below (refusals.stands_at t s m) n) refl refl)
    ∷ line (subst (λ (o : Option Refusal). Tells causes (8, o)) rooms (plain causes PlaceFull (any_below (lacks_room t s p) n) refl refl))
    ∷ line (plain causes Worn (not (nat_lt s.stamp 1048575)) refl (worn_at s.stamp small))
    ∷ [] in
    by_lines causes lines (named t s m (SetPose p))

pub inquire_tells : (t : PlanTable) (s : State) (m z : ℕ) → TellsRight (inquire_cause t z) (1 ∷ []) (refusals.inquire_refusal t z)
inquire_tells t s m z =
    let causes = inquire_cause t z in
    let lines : List (Line causes) = line (plain causes NotParty (not (nat_lt z (zone_count t))) refl refl) ∷ [] in
    by_lines causes lines (named t s m (Inquire z))

pub stop_tells : (t : PlanTable) (s : State) (m : ℕ) → s.stamp ≤ 1048575 → TellsRight (stop_cause s m) (1 ∷ 14 ∷ 13 ∷ []) (refusals.stop_refusal s m)
stop_tells t s m small =
    let causes = stop_cause s m in
    let lines : List (Line causes) =
    line (plain causes NotParty (not (nat_eq m watch)) refl refl)
    ∷ line (plain causes Stopped s.stopped refl refl)
    ∷ line (plain causes Worn (not (nat_lt s.stamp 1048575)) refl (worn_at s.stamp small))
    ∷ [] in
    by_lines causes lines (named t s m Stop)

pub resume_tells : (t : PlanTable) (s : State) (m : ℕ) → s.stamp ≤ 1048575 → TellsRight (resume_cause s m) (1 ∷ 15 ∷ 13 ∷ []) (refusals.resume_refusal s m)
resume_tells t s m small =
    let causes = resume_cause s m in
    let lines : List (Line causes) =
    line (plain causes NotParty (not (nat_eq m watch)) refl refl)
    ∷ line (plain causes NotStopped (not s.stopped) refl refl)
    ∷ line (plain causes Worn (not (nat_lt s.stamp 1048575)) refl (worn_at s.stamp small))
    ∷ [] in
    by_lines causes lines (named t s m Resume)

pub advance_tells : (t : PlanTable) (s : State) (m p : ℕ) → s.stamp ≤ 1048575 → TellsRight (advance_cause t s m p) (1 ∷ 14 ∷ 8 ∷ 7 ∷ 13 ∷ []) (refusals.advance_refusal t s m p)
advance_tells t s m p small =
    let causes = advance_cause t s m p in
    let lines : List (Line causes) =
    line (plain causes NotParty (not (has_end t m p)) refl refl)
    ∷ line (plain causes Stopped s.stopped refl refl)
    ∷ line (plain causes PlaceFull (is_source t p && (is_taken t s p && not (is_sink t p && is_full s p))) refl refl)
    ∷ line (plain causes NoPlate (not (is_source t p) && not (is_full s p)) refl refl)
    ∷ line (plain causes Worn (not (nat_lt s.stamp 1048575)) refl (worn_at s.stamp small))
    ∷ [] in
    by_lines causes lines (named t s m (Advance p))
