-- A call is done if each zone, each place and the stop are as it needs them.
use Rattle.std.proofs.Common.{◌≡◌, ℕ, zero, suc, ◌<◌, inl, inr, Bool, true, false, ◌&&◌, ◌||◌, not, nat_eq, nat_lt, Option, Some, None, is_none, is_some, unwrap_or, refl, sym, ap, ◌∙◌, subst, ltb-true, arith}
use Rattle.std.specs.Bool.{then_some}
use Rattle.std.specs.Option.{option_eq}
use Rattle.std.proofs.lemmas.Bool.{eqb-true, lt-ltb, le-ltb, and_parts, not-true, false_from_ne_true, or_left, or_right}
use Rattle.plan_types.specs.declared.posture.Posture.{Posture}
use Rattle.plan_types.specs.declared.posture.Posture.TheVariants.{Moving, OpenIn}
use Rattle.plan_types.specs.declared.table.Transfer.{Transfer}
use Rattle.plan_types.specs.declared.call.Call.{Call}
use Rattle.plan_types.specs.declared.call.Call.TheVariants.{Claim, Give, Yield, Take, Release, SetPose, Inquire, Stop, Resume, Advance}
use Rattle.plan_types.specs.declared.answer.Refusal.{Refusal}
use Rattle.plan_types.specs.declared.answer.Refusal.TheVariants.{NotParty, NoPlate, PlaceFull, Worn, NoPose, NotStopped}
use Rattle.plan_types.specs.declared.answer.Answer.TheVariants.{Done}
use Rattle.plan_types.specs.Same.{same_posture, one_posture}
use Rattle.plan_types.specs.Below.{any_below, sum_below}
use Rattle.plan_types.specs.Table.{PlanTable, zone_count, place_count, host_of, guest_of, is_party, has_pose, pose_row, posture_of, is_moving_pose, transfer_of, watch, keeper_of, is_place_of, is_source, is_sink, has_end}
use Rattle.plan_types.specs.Plan.{IsPlan}
use Rattle.plan_types.proofs.lemmas.Below.{first_below_all, below_next}
use Rattle.plan_rules.specs.declared.state.State.{State}
use Rattle.plan_rules.specs.State.{zone_at, owner_of, posture_at, is_full, one_if, leads_to, is_coming, coming, plates_for, space_has_plate, last_stamp}
use Rattle.plan_rules.specs.Sound.{implies, is_open, is_owned_by}
use Rattle.plan_rules.specs.Refusals as refusals
use Rattle.plan_rules.specs.Refusals.{◌or◌, given_by, transfer_given}
use Rattle.plan_rules.specs.Reply.{reply, answer_by}
use Rattle.plan_rules.proofs.lemmas.Below.{sum_below_same}
use Rattle.plan_rules.proofs.lemmas.Puts.{nat_eq-self}
use Rattle.plan_rules.proofs.lemmas.Zones.{implied, gives_way}
use Rattle.plan_rules.proofs.lemmas.Ways.{way_leads}
use Rattle.plan_compiled.specs.Needs as needs
use Rattle.plan_compiled.specs.Needs.{Fits}
use Rattle.plan_compiled.proofs.PlainPlans.{AreAlone}

-- ---- refusals that don't refuse
or_none : (a b : Option Refusal) → a ≡ None → b ≡ None → (a or b) ≡ None
or_none a b e f = rw (e, f) refl

none_if : (b : Bool) (r : Refusal) → b ≡ false → then_some b r ≡ None
none_if b r e = rw e refl

none_not : (b : Bool) (r : Refusal) → b ≡ true → then_some (not b) r ≡ None
none_not b r e = rw e refl

not_worn : (s : State) → s.stamp < last_stamp → refusals.worn s ≡ None
not_worn s l = none_not (nat_lt s.stamp last_stamp) Worn (lt-ltb s.stamp last_stamp l)

none_is : (o : Option ℕ) → is_none o ≡ true → o ≡ None
none_is None e = refl
none_is (Some m) e = cc

some_is : (o : Option Transfer) → is_some o ≡ true → (way : Transfer) × (o ≡ Some way)
some_is None e = cc
some_is (Some way) e = (way, refl)

not_both : (a b : Bool) → implies a b ≡ true → (a && not b) ≡ false
not_both true true e = refl
not_both true false e = cc
not_both false b e = refl

pub own : (t : PlanTable) (m : ℕ) (c : Call) (room : Bool) (s : State) → Fits t m c room s → (z : ℕ) → z < zone_count t → needs.own_zone_fits t m c room z (zone_at s z) ≡ true
own t m c room s f z l = (and_parts (needs.own_zone_fits t m c room z (zone_at s z)) (not ((zone_at s z).flag && needs.ends_in_need t m c room (transfer_of t z (posture_at s z)))) (f.zones z l)).0

own_is : (z : ℕ) (b : Bool) → implies (nat_eq z z) b ≡ true → b ≡ true
own_is z b e = implied (nat_eq z z) b e (nat_eq-self z)

pub there_of : (t : PlanTable) (m z : ℕ) → is_party t m z ≡ true → z < zone_count t
there_of t m z e = ltb-true z (zone_count t) (and_parts (nat_lt z (zone_count t)) (nat_eq m (host_of t z) || nat_eq m (guest_of t z)) e).0

-- ---- room
nothing_below : (n : ℕ) → sum_below (λ _. 0) n ≡ 0
nothing_below zero = refl
nothing_below (suc n) = let rest = nothing_below n in omega (arith, rest)

quiet : (t : PlanTable) (m : ℕ) (c : Call) (room : Bool) (q : ℕ) (f : Bool) (o : Option Transfer) → not (f && needs.ends_in_need t m c room o) ≡ true → needs.needs_room t m c room q ≡ true
    → (f && leads_to o q) ≡ false
quiet t m c room q false o e n = refl
quiet t m c room q true None e n = refl
quiet t m c room q true (Some way) e n =
    false_from_ne_true (nat_eq way.to q) (λ same. let there : needs.needs_room t m c room way.to ≡ true = subst (λ p. needs.needs_room t m c room p ≡ true) (sym (eqb-true way.to q same)) n in cc)

-- what a place that fits has: room, a plate, and what an advance needs
place_parts : (t : PlanTable) (m : ℕ) (c : Call) (room : Bool) (s : State) → Fits t m c room s → (q : ℕ) → q < place_count t
    → ((implies (needs.needs_room t m c room q) (not (is_full s q)) ≡ true) × (implies (needs.is_emptied t m c q) (is_full s q) ≡ true))
    × (needs.end_fits t c room q (is_full s q) ≡ true)
place_parts t m c room s f q l =
    let a = implies (needs.needs_room t m c room q) (not (is_full s q)) in
    let b = implies (needs.is_emptied t m c q) (is_full s q) in
    let all = and_parts (a && b) (needs.end_fits t c room q (is_full s q)) (f.places q l) in
    (and_parts a b all.0, all.1)

has_room : (t : PlanTable) (m : ℕ) (c : Call) (room : Bool) (s : State) → Fits t m c room s → (q : ℕ) → q < place_count t → needs.needs_room t m c room q ≡ true → refusals.is_taken t s q ≡ false
has_room t m c room s f q l n =
    let none : coming t s q ≡ sum_below (λ _. 0) (zone_count t) =
    sum_below_same (λ _. 0) (λ z. one_if (is_coming t (zone_at s z) q z)) (zone_count t)
    (λ z k. ap one_if (quiet t m c room q (zone_at s z).flag (transfer_of t z (posture_at s z))
    (and_parts (needs.own_zone_fits t m c room z (zone_at s z)) (not ((zone_at s z).flag && needs.ends_in_need t m c room (transfer_of t z (posture_at s z)))) (f.zones z k)).1 n)) in
    let nothing = nothing_below (zone_count t) in
    let fits = (place_parts t m c room s f q l).0 in
    let empty : is_full s q ≡ false = not-true (is_full s q) (implied (needs.needs_room t m c room q) (not (is_full s q)) fits.0 n) in
    let no_plate : one_if (is_full s q) ≡ 0 = ap one_if empty in
    le-ltb 0 (plates_for t s q) (omega (arith, none, nothing, no_plate))

-- ---- the calls about a zone
claims : (t : PlanTable) (s : State) (m z : ℕ) (room : Bool) → Fits t m (Claim z) room s → refusals.claim_refusal t s m z ≡ None
claims t s m z room f =
    let v = zone_at s z in
    let there = there_of t m z f.may in
    let can = and_parts (is_none v.owner) (implies (nat_eq m (guest_of t z)) (is_open v.posture)) (own_is z (needs.can_claim t m z v) (own t m (Claim z) room s f z there)) in
    let free = none_is v.owner can.0 in
    or_none _ _ (or_none _ _ (or_none _ _ (or_none _ _ (or_none _ _
    (none_not (is_party t m z) NotParty f.may)
    (none_if s.stopped _ (not-true s.stopped f.stop)))
    (none_if (refusals.owns s m z) _ (ap (λ o. is_owned_by o m) free)))
    (ap (λ o. refusals.held_by o m) free))
    (none_if (nat_eq m (guest_of t z) && not (is_open v.posture)) _ (not_both (nat_eq m (guest_of t z)) (is_open v.posture) can.1)))
    (not_worn s f.fresh)

-- a caller that owns the zone, with no plate in its space
record Clear (t : PlanTable) (s : State) (m z : ℕ) : Type 0 where
  owns : refusals.not_owner s m z ≡ None
  clear : refusals.plate_in_zone t s z ≡ None

holds_clear : (t : PlanTable) (s : State) (m z : ℕ) → space_has_plate t s z ≡ (zone_at s z).flag → needs.holds_clear m (zone_at s z) ≡ true → Clear t s m z
holds_clear t s m z plate e =
    let h = and_parts (is_owned_by (owner_of s z) m) (not (zone_at s z).flag) e in
    record { owns = none_not (refusals.owns s m z) _ h.0; clear = none_if (space_has_plate t s z) _ (plate ∙ not-true (zone_at s z).flag h.1) }

yields : (t : PlanTable) (s : State) (m z : ℕ) (room : Bool) → AreAlone t s → Fits t m (Yield z) room s → refusals.yield_refusal t s m z ≡ None
yields t s m z room alone f =
    let v = zone_at s z in
    let there = there_of t m z f.may in
    let can = and_parts (needs.holds_clear m v) (is_open v.posture) (own_is z (needs.can_yield m v) (own t m (Yield z) room s f z there)) in
    let held = holds_clear t s m z ((alone z).plate there) can.0 in
    or_none _ _ (or_none _ _ (or_none _ _ (or_none _ _
    (none_not (is_party t m z) NotParty f.may)
    held.owns)
    held.clear)
    (none_not (is_open v.posture) _ can.1))
    (not_worn s f.fresh)

releases : (t : PlanTable) (s : State) (m z : ℕ) (room : Bool) → AreAlone t s → Fits t m (Release z) room s → refusals.release_refusal t s m z ≡ None
releases t s m z room alone f =
    let v = zone_at s z in
    let there = there_of t m z f.may in
    let can = and_parts (needs.holds_clear m v) (not (same_posture v.posture Moving)) (own_is z (needs.can_release m v) (own t m (Release z) room s f z there)) in
    let held = holds_clear t s m z ((alone z).plate there) can.0 in
    or_none _ _ (or_none _ _ (or_none _ _ (or_none _ _
    (none_not (is_party t m z) NotParty f.may)
    held.owns)
    held.clear)
    (none_if (same_posture v.posture Moving) _ (not-true (same_posture v.posture Moving) can.1)))
    (not_worn s f.fresh)

-- what a taker finds
pub record Found (t : PlanTable) (s : State) (m z : ℕ) : Type 0 where
  pub owns : is_owned_by (owner_of s z) m ≡ true
  pub plate : (zone_at s z).flag ≡ true
  pub posture : posture_at s z ≡ needs.taking_posture t m z

pub found : (t : PlanTable) (s : State) (m z : ℕ) (room : Bool) → Fits t m (Take z) room s → Found t s m z
found t s m z room f =
    let v = zone_at s z in
    let q = needs.taking_posture t m z in
    let can = and_parts (is_owned_by v.owner m && v.flag) (same_posture v.posture q) (own_is z (needs.can_take t m z v) (own t m (Take z) room s f z (there_of t m z f.may))) in
    let held = and_parts (is_owned_by v.owner m) v.flag can.0 in
    record { owns = held.0; plate = held.1; posture = one_posture v.posture q can.1 }

takes : (t : PlanTable) (s : State) (m z : ℕ) (room : Bool) → Fits t m (Take z) room s → refusals.take_refusal t s m z ≡ None
takes t s m z room f =
    let h = found t s m z room f in
    or_none _ _ (or_none _ _ (or_none _ _
    (none_not (is_party t m z) NotParty f.may)
    (none_not (refusals.owns s m z) _ h.owns))
    (none_not (zone_at s z).flag NoPlate h.plate))
    (not_worn s f.fresh)

-- what a giver finds
pub record Giver (t : PlanTable) (s : State) (m z : ℕ) : Type 0 where
  pub party : is_party t m z ≡ true
  pub held : needs.holds_clear m (zone_at s z) ≡ true
  pub posture : posture_at s z ≡ needs.giving_posture t m z
  pub way : Transfer
  pub is : needs.given_way t m z ≡ Some way
  pub from : way.from < place_count t
  pub to : way.to < place_count t

pub giver : (t : PlanTable) (s : State) (m z : ℕ) (room : Bool) → IsPlan t → Fits t m (Give z) room s → Giver t s m z
giver t s m z room p f =
    let v = zone_at s z in
    let q = needs.giving_posture t m z in
    let may = and_parts (is_party t m z) (is_some (needs.given_way t m z)) f.may in
    let l = there_of t m z may.0 in
    let can = and_parts (needs.holds_clear m v) (same_posture v.posture q) (own_is z (needs.can_give t m z v) (own t m (Give z) room s f z l)) in
    let way = some_is (needs.given_way t m z) may.1 in
    let g = gives_way t m z q way.0 (p.host_is_not_guest z l) way.1 in
    let leads = way_leads t p z q way.0 l g.is in
    record { party = may.0; held = can.0; posture = one_posture v.posture q can.1; way = way.0; is = way.1; from = leads.from; to = leads.to }

gives : (t : PlanTable) (s : State) (m z : ℕ) (room : Bool) → IsPlan t → AreAlone t s → Fits t m (Give z) room s → refusals.give_refusal t s m z ≡ None
gives t s m z room p alone f =
    let g = giver t s m z room p f in
    let held = holds_clear t s m z ((alone z).plate (there_of t m z g.party)) g.held in
    let is : transfer_given t s m z ≡ Some g.way = ap (λ q. given_by m (transfer_of t z q)) g.posture ∙ g.is in
    let fits = (place_parts t m (Give z) room s f g.way.from g.from).0 in
    let leaves : needs.is_emptied t m (Give z) g.way.from ≡ true = ap (λ o. needs.leads_from o g.way.from) g.is ∙ nat_eq-self g.way.from in
    let full = implied (needs.is_emptied t m (Give z) g.way.from) (is_full s g.way.from) fits.1 leaves in
    let needed : needs.needs_room t m (Give z) room g.way.to ≡ true = ap (λ o. leads_to o g.way.to) g.is ∙ nat_eq-self g.way.to in
    or_none _ _ (or_none _ _ (or_none _ _ (or_none _ _ (or_none _ _ (or_none _ _ (or_none _ _
    (none_not (is_party t m z) NotParty g.party)
    (none_if s.stopped _ (not-true s.stopped f.stop)))
    held.owns)
    held.clear)
    (ap (λ o. refusals.wrong_way o) is))
    (ap (λ o. refusals.nothing_to_give s o) is ∙ none_not (is_full s g.way.from) NoPlate full))
    (ap (λ o. refusals.no_room t s o) is ∙ none_if (refusals.is_taken t s g.way.to) PlaceFull (has_room t m (Give z) room s f g.way.to g.to needed)))
    (not_worn s f.fresh)

-- ---- poses
record Held (a o f : Bool) : Type 0 where
  owned : (a && not o) ≡ false
  clear : (a && f) ≡ false

held_parts : (a o f : Bool) → implies a (o && not f) ≡ true → Held a o f
held_parts false o f e = record { owned = refl; clear = refl }
held_parts true true false e = record { owned = refl; clear = refl }
held_parts true true true e = cc
held_parts true false f e = cc

any_false : (f : ℕ → Bool) (n : ℕ) → ((i : ℕ) → i < n → f i ≡ false) → any_below f n ≡ false
any_false f zero each = refl
any_false f (suc n) each = rw (any_false f n (λ i l. each i (omega arith)), each n (omega arith)) refl

any_true : (f : ℕ → Bool) (n i : ℕ) → i < n → f i ≡ true → any_below f n ≡ true
any_true f zero i l e = absurd (omega arith)
any_true f (suc n) i l e =
    elim (below_next i n l) [
      | inl k ↦ or_left (any_below f n) (f n) (any_true f n i k e)
      | inr k ↦ or_right (any_below f n) (f n) (sym (ap f k) ∙ e)
    ]

no_jump : (a : Bool) (h v : ℕ → Bool) (n : ℕ) → ((i : ℕ) → i < n → implies (a && h i) (v i) ≡ true) → (a && any_below (λ i. h i && not (v i)) n) ≡ false
no_jump false h v n each = refl
no_jump true h v n each = any_false (λ i. h i && not (v i)) n (λ i l. not_both (h i) (v i) (each i l))

record CanPose (t : PlanTable) (s : State) (m p : ℕ) (room : Bool) (z : ℕ) : Type 0 where
  held : Held (refusals.is_concerned t s m p z) (refusals.owns s m z) (zone_at s z).flag
  moves : implies ((pose_row t p).after_moving && nat_eq (host_of t z) m) (same_posture (posture_at s z) Moving) ≡ true
  opens : implies (same_posture (refusals.posture_with t s p z) OpenIn) (room || same_posture (posture_at s z) OpenIn) ≡ true

can_pose : (t : PlanTable) (s : State) (m p : ℕ) (room : Bool) → Fits t m (SetPose p) room s → (z : ℕ) → z < zone_count t → CanPose t s m p room z
can_pose t s m p room f z l =
    let v = zone_at s z in
    let a = implies (needs.concerns t m p z v) (needs.holds_clear m v) in
    let b = implies ((pose_row t p).after_moving && nat_eq (host_of t z) m) (same_posture v.posture Moving) in
    let c = implies (same_posture (needs.posture_by t p z v) OpenIn) (room || same_posture v.posture OpenIn) in
    let h1 = and_parts (a && b) c (own t m (SetPose p) room s f z l) in
    let h0 = and_parts a b h1.0 in
    record { held = held_parts (needs.concerns t m p z v) (is_owned_by v.owner m) v.flag h0.0; moves = h0.1; opens = h1.1 }

-- a zone that gets open is one that the pose gives the posture
opened_by : (o : Option Posture) (q : Posture) → same_posture (unwrap_or o q) OpenIn ≡ true → same_posture q OpenIn ≡ false → option_eq same_posture o (Some OpenIn) ≡ true
opened_by None q e f = cc
opened_by (Some x) q e f = e

onto_room : (t : PlanTable) (s : State) (m p z : ℕ) (room : Bool) → IsPlan t → Fits t m (SetPose p) room s → z < zone_count t → room ≡ true
    → option_eq same_posture (posture_of t p z) (Some OpenIn) ≡ true → (o : Option Transfer) → transfer_of t z OpenIn ≡ o → refusals.is_onto_taken t s o ≡ false
onto_room t s m p z room k f l r opened None is = refl
onto_room t s m p z room k f l r opened (Some way) is =
    let leads = way_leads t k z OpenIn way l is in
    let ends : needs.opens_to t p way.to z ≡ true = rw opened (ap (λ o. leads_to o way.to) is ∙ nat_eq-self way.to) in
    let any : needs.is_end_of_opened t p way.to ≡ true = any_true (needs.opens_to t p way.to) (zone_count t) z l ends in
    has_room t m (SetPose p) room s f way.to leads.to (rw r any)

opens_on : (o a x r : Bool) → implies o (r || a) ≡ true → (o ≡ true → a ≡ false → r ≡ true → x ≡ false) → (o && not a && x) ≡ false
opens_on false a x r e k = refl
opens_on true true x r e k = refl
opens_on true false x true e k = k refl refl refl
opens_on true false x false e k = cc

poses : (t : PlanTable) (s : State) (m p : ℕ) (room : Bool) → IsPlan t → AreAlone t s → Fits t m (SetPose p) room s → refusals.pose_refusal t s m p ≡ None
poses t s m p room k alone f =
    let n = zone_count t in
    or_none _ _ (or_none _ _ (or_none _ _ (or_none _ _ (or_none _ _ (or_none _ _
    (none_not (has_pose t m p) NoPose f.may)
    (none_if (is_moving_pose t p && s.stopped) _ (not-true (is_moving_pose t p && s.stopped) f.stop)))
    (first_below_all (refusals.unowned_by_pose t s m p) n (λ z l. none_if (refusals.is_concerned t s m p z && not (refusals.owns s m z)) _ (can_pose t s m p room f z l).held.owned)))
    (first_below_all (refusals.plate_under_pose t s m p) n (λ z l. none_if (refusals.is_concerned t s m p z && space_has_plate t s z) _ (ap (λ b. refusals.is_concerned t s m p z && b) ((alone z).plate l) ∙ (can_pose t s m p room f z l).held.clear))))
    (none_if ((pose_row t p).after_moving && any_below (refusals.stands_at t s m) n) _
    (no_jump (pose_row t p).after_moving (λ z. nat_eq (host_of t z) m) (λ z. same_posture (posture_at s z) Moving) n (λ z l. (can_pose t s m p room f z l).moves))))
    (first_below_all (refusals.opens_onto_plate t s p) n (λ z l.
    none_if (same_posture (refusals.posture_with t s p z) OpenIn && not (same_posture (posture_at s z) OpenIn) && refusals.is_onto_taken t s (transfer_of t z OpenIn)) _
    (opens_on (same_posture (refusals.posture_with t s p z) OpenIn) (same_posture (posture_at s z) OpenIn) (refusals.is_onto_taken t s (transfer_of t z OpenIn)) room (can_pose t s m p room f z l).opens
    (λ o a r. onto_room t s m p z room k f l r (opened_by (posture_of t p z) (posture_at s z) o a) (transfer_of t z OpenIn) refl)))))
    (not_worn s f.fresh)

-- ---- advances
end_there : (t : PlanTable) (m p : ℕ) → has_end t m p ≡ true → p < place_count t
end_there t m p e =
    let own = and_parts (is_place_of t p m) (is_source t p || is_sink t p) e in
    ltb-true p (place_count t) (and_parts (nat_lt p (place_count t)) (nat_eq (keeper_of t p) m) own.0).0

room_to_come : (source taken goes : Bool) → taken ≡ false → (source && (taken && not goes)) ≡ false
room_to_come true false goes e = refl
room_to_come false taken goes e = refl
room_to_come true true goes e = cc

room_to_go : (source taken sink full : Bool) → sink ≡ true → full ≡ true → (source && (taken && not (sink && full))) ≡ false
room_to_go true true true true e f = refl
room_to_go true false sink full e f = refl
room_to_go false taken sink full e f = refl
room_to_go true true false full e f = cc
room_to_go true true true false e f = cc

plate_or_source : (source full : Bool) → (source || full) ≡ true → (not source && not full) ≡ false
plate_or_source true full e = refl
plate_or_source false true e = refl
plate_or_source false false e = cc

advances_by : (t : PlanTable) (s : State) (m p : ℕ) (room : Bool) → Fits t m (Advance p) room s
    → (is_source t p && (refusals.is_taken t s p && not (refusals.can_go t s p))) ≡ false
    → (not (is_source t p) && not (is_full s p)) ≡ false → refusals.advance_refusal t s m p ≡ None
advances_by t s m p room f free plate =
    or_none _ _ (or_none _ _ (or_none _ _ (or_none _ _
    (none_not (has_end t m p) NotParty f.may)
    (none_if s.stopped _ (not-true s.stopped f.stop)))
    (none_if (is_source t p && (refusals.is_taken t s p && not (refusals.can_go t s p))) PlaceFull free))
    (none_if (not (is_source t p) && not (is_full s p)) NoPlate plate))
    (not_worn s f.fresh)

advances : (t : PlanTable) (s : State) (m p : ℕ) (room : Bool) → Fits t m (Advance p) room s → refusals.advance_refusal t s m p ≡ None
advances t s m p true f =
    let l = end_there t m p f.may in
    let source = own_is p (is_source t p) (place_parts t m (Advance p) true s f p l).1 in
    let free = has_room t m (Advance p) true s f p l (nat_eq-self p) in
    advances_by t s m p true f (room_to_come (is_source t p) (refusals.is_taken t s p) (refusals.can_go t s p) free)
    (plate_or_source (is_source t p) (is_full s p) (or_left (is_source t p) (is_full s p) source))
advances t s m p false f =
    let l = end_there t m p f.may in
    let goes = and_parts (is_sink t p) (is_full s p) (own_is p (is_sink t p && is_full s p) (place_parts t m (Advance p) false s f p l).1) in
    advances_by t s m p false f (room_to_go (is_source t p) (refusals.is_taken t s p) (is_sink t p) (is_full s p) goes.0 goes.1)
    (plate_or_source (is_source t p) (is_full s p) (or_right (is_source t p) (is_full s p) goes.1))

-- ---- the watch
stops : (t : PlanTable) (s : State) (m : ℕ) (room : Bool) → Fits t m Stop room s → refusals.stop_refusal s m ≡ None
stops t s m room f =
    or_none _ _ (or_none _ _ (none_not (nat_eq m watch) NotParty f.may) (none_if s.stopped _ (not-true s.stopped f.stop))) (not_worn s f.fresh)

resumes : (t : PlanTable) (s : State) (m : ℕ) (room : Bool) → Fits t m Resume room s → refusals.resume_refusal s m ≡ None
resumes t s m room f = or_none _ _ (or_none _ _ (none_not (nat_eq m watch) NotParty f.may) (none_not s.stopped NotStopped f.stop)) (not_worn s f.fresh)

pub fits_done : (t : PlanTable) (s : State) (m : ℕ) (c : Call) (room : Bool) → IsPlan t → AreAlone t s → Fits t m c room s → reply t s m c ≡ Done
fits_done t s m (Claim z) room k alone f = ap (λ o. answer_by o Done) (claims t s m z room f)
fits_done t s m (Give z) room k alone f = ap (λ o. answer_by o Done) (gives t s m z room k alone f)
fits_done t s m (Yield z) room k alone f = ap (λ o. answer_by o Done) (yields t s m z room alone f)
fits_done t s m (Take z) room k alone f = ap (λ o. answer_by o Done) (takes t s m z room f)
fits_done t s m (Release z) room k alone f = ap (λ o. answer_by o Done) (releases t s m z room alone f)
fits_done t s m (SetPose p) room k alone f = ap (λ o. answer_by o Done) (poses t s m p room k alone f)
fits_done t s m (Inquire z) room k alone f = let no = f.may in cc
fits_done t s m Stop room k alone f = ap (λ o. answer_by o Done) (stops t s m room f)
fits_done t s m Resume room k alone f = ap (λ o. answer_by o Done) (resumes t s m room f)
fits_done t s m (Advance p) room k alone f = ap (λ o. answer_by o Done) (advances t s m p room f)
