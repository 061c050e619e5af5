-- A call of the plan is answered as the call on its group's word.
use Rattle.std.proofs.Common.{◌≡◌, ℕ, ◌+◌, ◌<◌, inl, inr, Bool, true, false, ◌&&◌, ◌||◌, not, nat_eq, nat_lt, length, List, get_or, Option, Some, None, option_map, refl, sym, subst, ap, ◌∙◌, arith, if◌then◌else◌}
use Rattle.std.proofs.lemmas.Bool.{lt-ltb, eqb-true, cases_order, false_from_ne_true}
use Rattle.std.proofs.lemmas.Option.{cond_some}
use Rattle.std.specs.Bool.{then_some}
use Rattle.plan_types.specs.declared.posture.Posture.{Posture}
use Rattle.plan_types.specs.declared.posture.Posture.TheVariants.{Closed, Moving, OpenIn, OpenOut}
use Rattle.plan_types.specs.declared.table.Way.{Way}
use Rattle.plan_types.specs.declared.table.PlanZone.{PlanZone}
use Rattle.plan_types.specs.declared.table.PlanPlace.{PlanPlace}
use Rattle.plan_types.specs.declared.table.Transfer.{Transfer}
use Rattle.plan_types.specs.declared.answer.Refusal.{Refusal}
use Rattle.plan_types.specs.declared.answer.Refusal.TheVariants.{NotParty, Held, AlreadyMine, Shut, NotOwner, PlateInZone, NoPlate, PlaceFull, Worn, Stopped}
use Rattle.plan_types.specs.Table.{PlanTable, zone_count, place_count, host_of, guest_of, zone_row, transfer_of, transfer_by, is_party, has_end, is_source, is_sink, same_space}
use Rattle.plan_types.specs.Plan.{IsPlan}
use Rattle.plan_types.specs.Same.{same_posture}
use Rattle.plan_types.specs.Below.{any_below, sum_below}
use Rattle.plan_rules.specs.Sound.{is_open, is_owned_by}
use Rattle.plan_rules.specs.declared.state.ZoneState.{ZoneState}
use Rattle.plan_rules.specs.declared.state.State.{State}
use Rattle.plan_rules.specs.State.{zone_at, owner_of, posture_at, is_full, one_if, leads_to, is_coming, plates_for, space_has_plate}
use Rattle.plan_rules.specs.Refusals.{◌or◌, not_party, held_by, shut_to_guest, not_owner, plate_in_zone, transfer_given, given_by, wrong_way, nothing_to_give, no_room, is_onto_taken}
use Rattle.plan_rules.specs.Refusals.{claim_refusal, give_refusal, yield_refusal, release_refusal, advance_refusal, is_taken, can_go}
use Rattle.plan_rules.proofs.lemmas.Puts.{same_or_not, nat_eq-self, nat_eq-apart}
use Rattle.plan_rules.proofs.lemmas.Ways.{way_leads}
use Rattle.plan_words.specs.Group.{Group, zone_out, place_out, Rises, IsGroup, IsTableOf, way_out, zone_row_out, past}
use Rattle.plan_words.specs.Words.{refusal_out, IsIn, seen_by}
use Rattle.plan_words.proofs.Below.{Rising, Misses, sums_alike, tests_alike, map_or}
use Rattle.plan_words.proofs.Spaces.{same_space_out, other_space}

-- what the statement gives, for one zone of the group
pub record Given (t : PlanTable) (g : Group) (u : PlanTable) (s whole : State) : Type 0 where
  pub group : IsGroup t g
  pub table : IsTableOf t g u
  pub plan : IsPlan u
  pub is_in : IsIn g s whole

abbrev pub transfer_out : Group → Transfer → Transfer
transfer_out g w = record { giver = w.giver; receiver = w.receiver; from = place_out g w.from; to = place_out g w.to }

pub record Alike (g : Group) (a b : Option Refusal) : Type 0 where
  pub is : a ≡ option_map (refusal_out g) b

pub either : {g : Group} {a b c d : Option Refusal} → Alike g a c → Alike g b d → Alike g (a or b) (c or d)
either {g} {a} {b} {c} {d} x y = record { is = map_or (refusal_out g) a b c d x.is y.is }

pub then_same : (g : Group) (a b : Bool) (r q : Refusal) → a ≡ b → r ≡ refusal_out g q → Alike g (then_some a r) (then_some b q)
then_same g a true r q e f = record { is = ap (λ x. then_some x r) e ∙ ap (λ x. Some x) f }
then_same g a false r q e f = record { is = ap (λ x. then_some x r) e }

-- a refusal that names no zone
pub fixed : (g : Group) (a b : Bool) (r : Refusal) → a ≡ b → r ≡ refusal_out g r → Alike g (then_some a r) (then_some b r)
fixed g a b r e f = then_same g a b r r e f

-- ---- the rows of a zone

pub host_same : (t : PlanTable) (g : Group) (u : PlanTable) → IsTableOf t g u → (i : ℕ) → i < length g.zones → host_of t (zone_out g i) ≡ host_of u i
host_same t g u k i l = ap (λ (r : PlanZone). r.host) (k.zone i l)

pub guest_same : (t : PlanTable) (g : Group) (u : PlanTable) → IsTableOf t g u → (i : ℕ) → i < length g.zones → guest_of t (zone_out g i) ≡ guest_of u i
guest_same t g u k i l = ap (λ (r : PlanZone). r.guest) (k.zone i l)

by_way_out : (g : Group) (giver receiver : ℕ) (w : Option Way) → transfer_by giver receiver (option_map (way_out g) w) ≡ option_map (transfer_out g) (transfer_by giver receiver w)
by_way_out g giver receiver None = refl
by_way_out g giver receiver (Some w) = refl

transfer_row : (g : Group) (row there : PlanZone) → there ≡ zone_row_out g row → (transfer_by there.guest there.host there.inward ≡ option_map (transfer_out g) (transfer_by row.guest row.host row.inward))
    × (transfer_by there.host there.guest there.outward ≡ option_map (transfer_out g) (transfer_by row.host row.guest row.outward))
transfer_row g row there e = (
  ap (λ (r : PlanZone). transfer_by r.guest r.host r.inward) e ∙ by_way_out g row.guest row.host row.inward,
  ap (λ (r : PlanZone). transfer_by r.host r.guest r.outward) e ∙ by_way_out g row.host row.guest row.outward,
)

pub transfer_same : (t : PlanTable) (g : Group) (u : PlanTable) → IsTableOf t g u → (i : ℕ) (q : Posture) → i < length g.zones
    → transfer_of t (zone_out g i) q ≡ option_map (transfer_out g) (transfer_of u i q)
transfer_same t g u k i Closed l = refl
transfer_same t g u k i Moving l = refl
transfer_same t g u k i OpenIn l = (transfer_row g (zone_row u i) (zone_row t (zone_out g i)) (k.zone i l)).0
transfer_same t g u k i OpenOut l = (transfer_row g (zone_row u i) (zone_row t (zone_out g i)) (k.zone i l)).1

-- ---- places: those of the group are told apart by their numbers

pub rising_apart : (xs : List ℕ) (n i j : ℕ) → Rises xs n → i < length xs → j < length xs → get_or xs i past ≡ get_or xs j past → i ≡ j
rising_apart xs n i j r l m e =
    elim (cases_order i j) [
      | inl s ↦ s
      | inr (inl h) ↦ let x = r.rises i j h m in absurd (omega (arith, x, e))
      | inr (inr h) ↦ let x = r.rises j i h l in absurd (omega (arith, x, e))
    ]

pub number_same : (xs : List ℕ) (n i j : ℕ) → Rises xs n → i < length xs → j < length xs → nat_eq (get_or xs i past) (get_or xs j past) ≡ nat_eq i j
number_same xs n i j r l m =
    elim (same_or_not i j) [
      | inl s ↦ rw (s, nat_eq-self j, nat_eq-self (get_or xs j past)) refl
      | inr ne ↦ nat_eq-apart (get_or xs i past) (get_or xs j past) (λ e. ne (rising_apart xs n i j r l m e)) ∙ sym (nat_eq-apart i j ne)
    ]

leads_by : (g : Group) (n j : ℕ) (w : Option Transfer) → Rises g.places n → j < length g.places → ((way : Transfer) → w ≡ Some way → way.to < length g.places)
    → leads_to (option_map (transfer_out g) w) (place_out g j) ≡ leads_to w j
leads_by g n j None r l in_group = refl
leads_by g n j (Some way) r l in_group = number_same g.places n way.to j r (in_group way refl) l

touching : (w : Option Transfer) (p : ℕ) → leads_to w p ≡ true → (way : Transfer) × (w ≡ Some way) × (way.to ≡ p)
touching None p e = cc
touching (Some way) p e = (way, refl, eqb-true way.to p e)

pub rising_zones : (t : PlanTable) (g : Group) → IsGroup t g → Rising (zone_out g) (length g.zones) (zone_count t)
rising_zones t g k = record { rises = k.zones.rises; below = k.zones.below }

pub ways_in : (t : PlanTable) (g : Group) (u : PlanTable) → IsTableOf t g u → IsPlan u → (i : ℕ) (q : Posture) (way : Transfer) → i < length g.zones → transfer_of u i q ≡ Some way
    → (way.from < length g.places) × (way.to < length g.places)
ways_in t g u b p i q way l is =
    let h = way_leads u p i q way (subst (λ n. i < n) (sym b.zone_count) l) is in
    (subst (λ n. way.from < n) b.place_count h.from, subst (λ n. way.to < n) b.place_count h.to)

coming_same : (t : PlanTable) (g : Group) (u : PlanTable) (v w : ZoneState) (i j : ℕ) → IsGroup t g → IsTableOf t g u → IsPlan u → i < length g.zones → j < length g.places → w ≡ v
    → is_coming t w (place_out g j) (zone_out g i) ≡ is_coming u v j i
coming_same t g u v w i j k b p l m e =
    let there = ap (λ (x : ZoneState). x.flag && leads_to (transfer_of t (zone_out g i) x.posture) (place_out g j)) e in
    let moved = ap (λ x. v.flag && leads_to x (place_out g j)) (transfer_same t g u b i v.posture l) in
    let by = ap (λ x. v.flag && x) (leads_by g (place_count t) j (transfer_of u i v.posture) k.places m (λ way is. (ways_in t g u b p i v.posture way l is).1)) in
    there ∙ (moved ∙ by)

and_false : (a b : Bool) → b ≡ false → (a && b) ≡ false
and_false true b e = e
and_false false b e = refl

not_coming : (t : PlanTable) (g : Group) (v : ZoneState) (z j : ℕ) → IsGroup t g → z < zone_count t → j < length g.places → Misses (zone_out g) (length g.zones) z
    → is_coming t v (place_out g j) z ≡ false
not_coming t g v z j k l m miss =
    and_false v.flag (leads_to (transfer_of t z v.posture) (place_out g j)) (false_from_ne_true (leads_to (transfer_of t z v.posture) (place_out g j)) (λ e.
    let h = touching (transfer_of t z v.posture) (place_out g j) e in
    let has = k.by_place (place_out g j) z (j, m, refl) l (v.posture, h.0, h.1, inr h.2) in
    miss has.0 has.1 has.2))

-- a place of the group has, and has coming, what it has by the group alone
pub plates_same : (t : PlanTable) (g : Group) (u : PlanTable) (s whole : State) → Given t g u s whole → (j : ℕ) → j < length g.places
    → plates_for t (seen_by s whole) (place_out g j) ≡ plates_for u s j
plates_same t g u s whole k j m =
    let f : ℕ → ℕ = λ z. one_if (is_coming t (zone_at whole z) (place_out g j) z) in
    let h : ℕ → ℕ = λ i. one_if (is_coming u (zone_at s i) j i) in
    let sums : sum_below f (zone_count t) ≡ sum_below h (length g.zones) = sums_alike f h (zone_out g) (zone_count t) (length g.zones) (rising_zones t g k.group)
    (λ i l. ap one_if (coming_same t g u (zone_at s i) (zone_at whole (zone_out g i)) i j k.group k.table k.plan l m (k.is_in.zone i l)))
    (λ z l miss. ap one_if (not_coming t g (zone_at whole z) z j k.group l m miss)) in
    let full : one_if (is_full whole (place_out g j)) ≡ one_if (is_full s j) = ap one_if (k.is_in.place j m) in
    ap (λ a. a + sum_below f (zone_count t)) full ∙ ap (λ a. one_if (is_full s j) + a) (sums ∙ ap (sum_below h) (sym k.table.zone_count))

-- ---- the conditions of calls about a zone

pub lt_true : (a b c : ℕ) → a < b → c ≡ b → nat_lt a c ≡ true
lt_true a b c l e = lt-ltb a c (subst (λ n. a < n) (sym e) l)

pub party_same : (t : PlanTable) (g : Group) (u : PlanTable) → IsGroup t g → IsTableOf t g u → (m i : ℕ) → i < length g.zones → is_party t m (zone_out g i) ≡ is_party u m i
party_same t g u k b m i l =
    rw (lt-ltb (zone_out g i) (zone_count t) (k.zones.below i l), lt_true i (length g.zones) (zone_count u) l b.zone_count, host_same t g u b i l, guest_same t g u b i l) refl

pub not_party_same : (t : PlanTable) (g : Group) (u : PlanTable) (s whole : State) → Given t g u s whole → (m i : ℕ) → i < length g.zones
    → Alike g (not_party t m (zone_out g i)) (not_party u m i)
not_party_same t g u s whole k m i l = fixed g _ _ NotParty (ap not (party_same t g u k.group k.table m i l)) refl

held_out : (g : Group) (o : Option ℕ) (m : ℕ) → Alike g (held_by o m) (held_by o m)
held_out g None m = record { is = refl }
held_out g (Some o) m = fixed g _ _ (Held o) refl refl

pub on : {A : Type 0} (g : Group) (f : A → Option Refusal) (a b : A) (r : Option Refusal) → a ≡ b → Alike g (f b) r → Alike g (f a) r
on g f a b r e x = record { is = ap f e ∙ x.is }

given_out : (g : Group) (m : ℕ) (w : Option Transfer) → given_by m (option_map (transfer_out g) w) ≡ option_map (transfer_out g) (given_by m w)
given_out g m None = refl
given_out g m (Some way) = by (nat_eq way.giver m) way
  where
    by : (b : Bool) (way : Transfer) → (if b then Some (transfer_out g way) else None) ≡ option_map (transfer_out g) (if b then Some way else None)
    by true way = refl
    by false way = refl

pub transfer_given_same : (t : PlanTable) (g : Group) (u : PlanTable) (s whole : State) → Given t g u s whole → (m i : ℕ) → i < length g.zones
    → transfer_given t (seen_by s whole) m (zone_out g i) ≡ option_map (transfer_out g) (transfer_given u s m i)
transfer_given_same t g u s whole k m i l =
    ap (λ (v : ZoneState). given_by m (transfer_of t (zone_out g i) v.posture)) (k.is_in.zone i l)
    ∙ (ap (given_by m) (transfer_same t g u k.table i (posture_at s i) l) ∙ given_out g m (transfer_of u i (posture_at s i)))

pub some_given : (m : ℕ) (w : Option Transfer) (way : Transfer) → given_by m w ≡ Some way → w ≡ Some way
some_given m None way e = e
some_given m (Some x) way e = ap (λ (y : Transfer). Some y) (cond_some (nat_eq x.giver m) x way e).1

wrong_same : (g : Group) (w : Option Transfer) → Alike g (wrong_way (option_map (transfer_out g) w)) (wrong_way w)
wrong_same g None = record { is = refl }
wrong_same g (Some way) = record { is = refl }

nothing_same : (t : PlanTable) (g : Group) (u : PlanTable) (s whole : State) → Given t g u s whole → (w : Option Transfer) → ((way : Transfer) → w ≡ Some way → way.from < length g.places)
    → Alike g (nothing_to_give (seen_by s whole) (option_map (transfer_out g) w)) (nothing_to_give s w)
nothing_same t g u s whole k None in_group = record { is = refl }
nothing_same t g u s whole k (Some way) in_group = fixed g _ _ NoPlate (ap not (k.is_in.place way.from (in_group way refl))) refl

pub onto_same : (t : PlanTable) (g : Group) (u : PlanTable) (s whole : State) → Given t g u s whole → (w : Option Transfer) → ((way : Transfer) → w ≡ Some way → way.to < length g.places)
    → is_onto_taken t (seen_by s whole) (option_map (transfer_out g) w) ≡ is_onto_taken u s w
onto_same t g u s whole k None in_group = refl
onto_same t g u s whole k (Some way) in_group = ap (nat_lt 0) (plates_same t g u s whole k way.to (in_group way refl))

pub owner_same : (t : PlanTable) (g : Group) (u : PlanTable) (s whole : State) → Given t g u s whole → (m i : ℕ) → i < length g.zones
    → Alike g (not_owner (seen_by s whole) m (zone_out g i)) (not_owner s m i)
owner_same t g u s whole k m i l = on g (λ (v : ZoneState). then_some (not (is_owned_by v.owner m)) (NotOwner v.owner)) _ _ _ (k.is_in.zone i l) (fixed g _ _ (NotOwner (owner_of s i)) refl refl)

first_false : (a b : Bool) → a ≡ false → (a && b) ≡ false
first_false a b e = ap (λ x. x && b) e

-- a plate is in the space of a zone of the group exactly if one is by the group alone
pub space_plate_same : (t : PlanTable) (g : Group) (u : PlanTable) (s whole : State) → Given t g u s whole → (i : ℕ) → i < length g.zones
    → space_has_plate t (seen_by s whole) (zone_out g i) ≡ space_has_plate u s i
space_plate_same t g u s whole k i l =
    tests_alike (λ y. same_space t y (zone_out g i) && (zone_at whole y).flag) (λ j. same_space u j i && (zone_at s j).flag) (zone_out g) (zone_count t) (length g.zones) (rising_zones t g k.group)
    (λ j m. ap (λ b. b && (zone_at whole (zone_out g j)).flag) (same_space_out t g u k.group k.table j i m l) ∙ ap (λ (v : ZoneState). same_space u j i && v.flag) (k.is_in.zone j m))
    (λ z in_plan miss. first_false (same_space t z (zone_out g i)) (zone_at whole z).flag (other_space t g k.group i z l in_plan miss))
    ∙ ap (any_below (λ j. same_space u j i && (zone_at s j).flag)) (sym k.table.zone_count)

pub plate_same : (t : PlanTable) (g : Group) (u : PlanTable) (s whole : State) → Given t g u s whole → (i : ℕ) → i < length g.zones
    → Alike g (plate_in_zone t (seen_by s whole) (zone_out g i)) (plate_in_zone u s i)
plate_same t g u s whole k i l = then_same g _ _ (PlateInZone (zone_out g i)) (PlateInZone i) (space_plate_same t g u s whole k i l) refl

pub give_same : (t : PlanTable) (g : Group) (u : PlanTable) (s whole : State) → Given t g u s whole → (m i : ℕ) → i < length g.zones
    → Alike g (give_refusal t (seen_by s whole) m (zone_out g i)) (give_refusal u s m i)
give_same t g u s whole k m i l =
    let w = transfer_given u s m i in
    let way = transfer_given_same t g u s whole k m i l in
    let e = k.is_in.zone i l in
    let places : (x : Transfer) → w ≡ Some x → (x.from < length g.places) × (x.to < length g.places) = λ x is. ways_in t g u k.table k.plan i (posture_at s i) x l (some_given m (transfer_of u i (posture_at s i)) x is) in
    either (either (either (either (either (either (either
    (not_party_same t g u s whole k m i l)
    (fixed g s.stopped s.stopped Stopped refl refl))
    (owner_same t g u s whole k m i l))
    (plate_same t g u s whole k i l))
    (on g wrong_way _ _ _ way (wrong_same g w)))
    (on g (nothing_to_give (seen_by s whole)) _ _ _ way (nothing_same t g u s whole k w (λ x is. (places x is).0))))
    (on g (no_room t (seen_by s whole)) _ _ _ way (fixed g _ _ PlaceFull (onto_same t g u s whole k w (λ x is. (places x is).1)) refl)))
    (fixed g _ _ Worn refl refl)

pub claim_same : (t : PlanTable) (g : Group) (u : PlanTable) (s whole : State) → Given t g u s whole → (m i : ℕ) → i < length g.zones
    → Alike g (claim_refusal t (seen_by s whole) m (zone_out g i)) (claim_refusal u s m i)
claim_same t g u s whole k m i l =
    let e = k.is_in.zone i l in
    let guest = guest_same t g u k.table i l in
    let shut_is : Alike g (shut_to_guest t (seen_by s whole) m (zone_out g i)) (shut_to_guest u s m i) =
    on g (λ (v : ZoneState). then_some (nat_eq m (guest_of t (zone_out g i)) && not (is_open v.posture)) (Shut v.posture)) _ _ _ e
    (fixed g _ _ (Shut (posture_at s i)) (ap (λ x. nat_eq m x && not (is_open (posture_at s i))) guest) refl) in
    either (either (either (either (either
    (not_party_same t g u s whole k m i l)
    (fixed g s.stopped s.stopped Stopped refl refl))
    (fixed g _ _ AlreadyMine (ap (λ (v : ZoneState). is_owned_by v.owner m) e) refl))
    (on g (λ (v : ZoneState). held_by v.owner m) _ _ _ e (held_out g (owner_of s i) m)))
    shut_is)
    (fixed g _ _ Worn refl refl)

pub yield_same : (t : PlanTable) (g : Group) (u : PlanTable) (s whole : State) → Given t g u s whole → (m i : ℕ) → i < length g.zones
    → Alike g (yield_refusal t (seen_by s whole) m (zone_out g i)) (yield_refusal u s m i)
yield_same t g u s whole k m i l =
    either (either (either (either
    (not_party_same t g u s whole k m i l)
    (owner_same t g u s whole k m i l))
    (plate_same t g u s whole k i l))
    (on g (λ (v : ZoneState). then_some (not (is_open v.posture)) (Shut v.posture)) _ _ _ (k.is_in.zone i l) (fixed g _ _ (Shut (posture_at s i)) refl refl)))
    (fixed g _ _ Worn refl refl)

pub release_same : (t : PlanTable) (g : Group) (u : PlanTable) (s whole : State) → Given t g u s whole → (m i : ℕ) → i < length g.zones
    → Alike g (release_refusal t (seen_by s whole) m (zone_out g i)) (release_refusal u s m i)
release_same t g u s whole k m i l =
    either (either (either (either
    (not_party_same t g u s whole k m i l)
    (owner_same t g u s whole k m i l))
    (plate_same t g u s whole k i l))
    (fixed g _ _ (Shut Moving) (ap (λ (v : ZoneState). same_posture v.posture Moving) (k.is_in.zone i l)) refl))
    (fixed g _ _ Worn refl refl)

-- ---- a call about a place

end_same : (t : PlanTable) (g : Group) (u : PlanTable) → IsGroup t g → IsTableOf t g u → (m j : ℕ) → j < length g.places → has_end t m (place_out g j) ≡ has_end u m j
end_same t g u k b m j l =
    rw (lt-ltb (place_out g j) (place_count t) (k.places.below j l), lt_true j (length g.places) (place_count u) l b.place_count)
    (ap (λ (r : PlanPlace). nat_eq r.keeper m && (r.source || r.sink)) (b.place j l))

pub advance_same : (t : PlanTable) (g : Group) (u : PlanTable) (s whole : State) → Given t g u s whole → (m j : ℕ) → j < length g.places
    → Alike g (advance_refusal t (seen_by s whole) m (place_out g j)) (advance_refusal u s m j)
advance_same t g u s whole k m j l =
    let row = k.table.place j l in
    let full = k.is_in.place j l in
    let p = place_out g j in
    let taken : is_taken t (seen_by s whole) p ≡ is_taken u s j = ap (nat_lt 0) (plates_same t g u s whole k j l) in
    let go : can_go t (seen_by s whole) p ≡ can_go u s j = ap (λ (r : PlanPlace). r.sink && is_full whole p) row ∙ ap (λ b. is_sink u j && b) full in
    let comes = ap (λ (r : PlanPlace). r.source && (is_taken t (seen_by s whole) p && not (can_go t (seen_by s whole) p))) row
    ∙ (ap (λ b. is_source u j && (b && not (can_go t (seen_by s whole) p))) taken ∙ ap (λ b. is_source u j && (is_taken u s j && not b)) go) in
    let goes = ap (λ (r : PlanPlace). not r.source && not (is_full whole p)) row ∙ ap (λ b. not (is_source u j) && not b) full in
    either (either (either (either
    (fixed g _ _ NotParty (ap not (end_same t g u k.group k.table m j l)) refl)
    (fixed g s.stopped s.stopped Stopped refl refl))
    (fixed g _ _ PlaceFull comes refl))
    (fixed g _ _ NoPlate goes refl))
    (fixed g _ _ Worn refl refl)
