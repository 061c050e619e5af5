-- A call of the cut plan is answered as by the plan, but for plates that aren't lent yet, and entries that are shut.
use Rattle.std.proofs.Common.{◌≡◌, ℕ, zero, suc, ◌+◌, ◌-◌, ◌<◌, ◌≤◌, ◌⊎◌, inl, inr, Bool, true, false, ◌&&◌, ◌||◌, not, nat_eq, nat_lt, nat_le, List, ◌++◌, length, map, get_or, Option, Some, None, option_map, refl, sym, subst, ap, ◌∙◌, arith, if◌then◌else◌, ltb-true}
use Rattle.std.specs.Bool.{then_some}
use Rattle.std.proofs.lemmas.Bool.{lt-ltb, eqb-true, cases_lt, le-leb, and_parts, false_from_ne_true}
use Rattle.std.proofs.lemmas.Option.{cond_some, same_Some}
use Rattle.std.proofs.lemmas.List.{get_or-map, length-map, get_or_past, length-append}
use Rattle.plan_types.specs.declared.posture.Posture.{Posture}
use Rattle.plan_types.specs.declared.posture.Posture.TheVariants.{Closed, Moving, OpenIn, OpenOut}
use Rattle.plan_types.specs.declared.table.Way.{Way}
use Rattle.plan_types.specs.declared.table.PlanZone.{PlanZone}
use Rattle.plan_types.specs.declared.table.PlanPose.{PlanPose}
use Rattle.plan_types.specs.declared.table.PlanPlace.{PlanPlace}
use Rattle.plan_types.specs.declared.table.Transfer.{Transfer}
use Rattle.plan_types.specs.declared.call.Call.{Call}
use Rattle.plan_types.specs.declared.call.Call.TheVariants.{Claim, Give, Yield, Take, Release, SetPose, Inquire, Stop, Resume, Advance}
use Rattle.plan_types.specs.declared.answer.Refusal.{Refusal}
use Rattle.plan_types.specs.declared.answer.Refusal.TheVariants.{NotParty, NotOwner, PlateInZone, NoPlate, PlaceFull, Jump}
use Rattle.plan_types.specs.Same.{same_posture}
use Rattle.plan_types.specs.Below.{first_below, any_below, sum_below}
use Rattle.plan_types.specs.Table.{PlanTable, zone_count, place_count, host_of, guest_of, zone_row, transfer_of, transfer_by, keeper_of, no_zone, pose_row, is_moving_pose, is_place_of, joins, space_of, same_space}
use Rattle.plan_types.specs.Plan.{leads}
use Rattle.plan_rules.specs.declared.state.State.{State}
use Rattle.plan_rules.specs.State.{zone_at, owner_of, posture_at, is_full, one_if, leads_to, is_coming, coming, space_has_plate}
use Rattle.plan_rules.specs.Refusals.{◌or◌, owns, not_party, not_owner, plate_in_zone, shut, shut_while_moving, transfer_given, given_by, wrong_way, nothing_to_give, no_room, is_onto_taken, is_taken, while_stopped, worn}
use Rattle.plan_rules.specs.Refusals.{claim_refusal, give_refusal, yield_refusal, take_refusal, release_refusal, pose_refusal, advance_refusal, inquire_refusal, unowned_by_pose, plate_under_pose, jump, opens_onto_plate, posture_with, stands_at, lacks_pose, moves_while_stopped, first_zone, is_concerned}
use Rattle.plan_rules.specs.Reply.{refusal, accepted, answer_by, reply}
use Rattle.plan_rules.proofs.lemmas.Below.{sum_below_same}
use Rattle.plan_rules.proofs.lemmas.Ways.{Leads}
use Rattle.plan_rules.proofs.lemmas.Puts.{same_or_not, nat_eq-self, nat_eq-apart}
use Rattle.plan_words.specs.Group.{past}
use Rattle.plan_words.specs.Groups.{IsLargePlan}
use Rattle.plan_words.specs.Cut.{Cut, is_cut, place_of, exits_end, IsExit, IsEntry, whole_way, whole_zone, IsCut, StandsFor, is_inner, IsUnlent, IsShut, IsAnsweredFor}
use Rattle.plan_words.proofs.Picked.{any_found}

abbrev pub with_full : State → List Bool → State
with_full s f = record s { full = f }

-- what the statement gives
pub record Cuts (c : Cut) (s : State) (f : List Bool) : Type 0 where
  pub is : IsCut c
  pub large : IsLargePlan c.plan
  pub stands : StandsFor c s (with_full s f)
  -- the place that a plate is on its way to is empty
  pub comes : (z : ℕ) (way : Transfer) → z < zone_count c.cut → (zone_at s z).flag ≡ true → transfer_of c.cut z (posture_at s z) ≡ Some way → is_full s way.to ≡ false

-- ---- rows

pub rows : (c : Cut) → IsCut c → (z : ℕ) → zone_row c.plan z ≡ whole_zone c (zone_row c.cut z)
rows c k z =
    ap (λ zs. get_or zs z no_zone) k.zones ∙ elim (cases_lt z (zone_count c.cut)) [
      | inl l ↦ get_or-map (whole_zone c) c.cut.zones z no_zone no_zone l
      | inr m ↦ let long = length-map c.cut.zones (whole_zone c) in get_or_past (map (whole_zone c) c.cut.zones) z no_zone (omega (arith, m, long)) ∙ sym (ap (whole_zone c) (get_or_past c.cut.zones z no_zone m))
    ]

pub counts : (c : Cut) → IsCut c → zone_count c.cut ≡ zone_count c.plan
counts c k = sym (ap (λ (zs : List PlanZone). length zs) k.zones ∙ length-map c.cut.zones (whole_zone c))

pub hosts : (c : Cut) → IsCut c → (z : ℕ) → host_of c.cut z ≡ host_of c.plan z
hosts c k z = sym (ap (λ (r : PlanZone). r.host) (rows c k z))

pub guests : (c : Cut) → IsCut c → (z : ℕ) → guest_of c.cut z ≡ guest_of c.plan z
guests c k z = sym (ap (λ (r : PlanZone). r.guest) (rows c k z))

abbrev pub whole_transfer : Cut → Transfer → Transfer
whole_transfer c w = record { giver = w.giver; receiver = w.receiver; from = place_of c w.from; to = place_of c w.to }

by_whole : (c : Cut) (giver receiver : ℕ) (w : Option Way) → transfer_by giver receiver (option_map (whole_way c) w) ≡ option_map (whole_transfer c) (transfer_by giver receiver w)
by_whole c giver receiver None = refl
by_whole c giver receiver (Some w) = refl

pub transfers : (c : Cut) → IsCut c → (z : ℕ) (q : Posture) → transfer_of c.plan z q ≡ option_map (whole_transfer c) (transfer_of c.cut z q)
transfers c k z Closed = refl
transfers c k z Moving = refl
transfers c k z OpenIn = ap (λ (r : PlanZone). transfer_by r.guest r.host r.inward) (rows c k z) ∙ by_whole c (guest_of c.cut z) (host_of c.cut z) (zone_row c.cut z).inward
transfers c k z OpenOut = ap (λ (r : PlanZone). transfer_by r.host r.guest r.outward) (rows c k z) ∙ by_whole c (host_of c.cut z) (guest_of c.cut z) (zone_row c.cut z).outward

-- ---- ways of a large plan

leads_by : (t : PlanTable) (g r : ℕ) (w : Option Way) (way : Transfer) → leads t g r w ≡ true → transfer_by g r w ≡ Some way → Leads t way
leads_by t g r None way e is = cc
leads_by t g r (Some w) way e is =
    let x : Transfer = record { giver = g; receiver = r; from = w.from; to = w.to } in
    let both = and_parts (is_place_of t w.from g) (is_place_of t w.to r) e in
    let from = and_parts (nat_lt w.from (place_count t)) (nat_eq (keeper_of t w.from) g) both.0 in
    let to = and_parts (nat_lt w.to (place_count t)) (nat_eq (keeper_of t w.to) r) both.1 in
    let found : Leads t x = record { from = ltb-true _ _ from.0; from_giver = eqb-true _ _ from.1; to = ltb-true _ _ to.0; to_receiver = eqb-true _ _ to.1 } in
    subst (Leads t) (same_Some x way is) found

pub large_leads : (t : PlanTable) → IsLargePlan t → (z : ℕ) (q : Posture) (way : Transfer) → z < zone_count t → transfer_of t z q ≡ Some way → Leads t way
large_leads t p z Closed way l is = cc
large_leads t p z Moving way l is = cc
large_leads t p z OpenIn way l is = leads_by t (guest_of t z) (host_of t z) (zone_row t z).inward way (p.inward_to_host z l) is
large_leads t p z OpenOut way l is = leads_by t (host_of t z) (guest_of t z) (zone_row t z).outward way (p.outward_to_guest z l) is

-- a way of the cut plan, as the plan's
pub cut_leads : (c : Cut) → IsCut c → IsLargePlan c.plan → (z : ℕ) (q : Posture) (way : Transfer) → z < zone_count c.cut → transfer_of c.cut z q ≡ Some way → Leads c.plan (whole_transfer c way)
cut_leads c k p z q way l is = large_leads c.plan p z q (whole_transfer c way) (subst (λ n. z < n) (counts c k) l) (transfers c k z q ∙ ap (option_map (whole_transfer c)) is)

-- ---- exits and entries

pub itself : (c : Cut) (q : ℕ) → q < place_count c.plan → place_of c q ≡ q
itself c q l = ap (λ b. if b then q else get_or (c.exits ++ c.entries) (q - place_count c.plan) past) (lt-ltb q (place_count c.plan) l)

pub owner_cut : (c : Cut) (q : ℕ) → place_count c.plan ≤ q → q < exits_end c + length c.entries → is_cut c (place_of c q) ≡ true
owner_cut c q above below =
    let p = place_of c q in
    let at : get_or (c.exits ++ c.entries) (q - place_count c.plan) past ≡ p =
    sym (ap (λ b. if b then q else get_or (c.exits ++ c.entries) (q - place_count c.plan) past) (false_from_ne_true (nat_lt q (place_count c.plan)) (λ e. let x = ltb-true q (place_count c.plan) e in absurd (omega (arith, x, above))))) in
    let long = length-append c.exits c.entries in
    any_found (nat_eq p) (c.exits ++ c.entries) p (q - place_count c.plan, (omega (arith, above, below, long), at)) (nat_eq-self p)

pub exit_cut : (c : Cut) (q p : ℕ) → IsExit c q p → is_cut c p ≡ true
exit_cut c q p exit = let below = exit.1 in ap (is_cut c) (sym exit.2) ∙ owner_cut c q exit.0 (omega (arith, below))

true_false : {A : Type 0} (b : Bool) → b ≡ true → b ≡ false → A
true_false b e f = let h = sym e ∙ f in cc

-- the one entry of a place that isn't cut
pub entry_uncut : (c : Cut) (e p : ℕ) → IsEntry c e p → is_cut c p ≡ false → e ≡ p
entry_uncut c e p entry uncut = elim (cases_lt e (place_count c.plan)) [
  | inl l ↦ sym (itself c e l) ∙ entry.2
  | inr m ↦ true_false (is_cut c p) (ap (is_cut c) (sym entry.2) ∙ owner_cut c e m entry.1) uncut
]

pub entry_of_itself : (c : Cut) (p : ℕ) → p < place_count c.plan → IsEntry c p p
entry_of_itself c p l = (inl l, omega (arith, l), itself c p l)

pub exit_or_uncut : (c : Cut) (q : ℕ) → q < exits_end c → (q < place_count c.plan) ⊎ IsExit c q (place_of c q)
exit_or_uncut c q l = elim (cases_lt q (place_count c.plan)) [ inl m ↦ inl m | inr m ↦ inr (m, l, refl) ]

-- ---- plates on their way

-- to a place that isn't cut
leads_uncut : (c : Cut) (p : ℕ) (w : Option Transfer) → ((way : Transfer) → w ≡ Some way → IsEntry c way.to (place_of c way.to)) → is_cut c p ≡ false → p < place_count c.plan → leads_to w p ≡ leads_to (option_map (whole_transfer c) w) p
leads_uncut c p None entry uncut l = refl
leads_uncut c p (Some way) entry uncut l = elim (cases_lt way.to (place_count c.plan)) [
  | inl m ↦ ap (λ q. nat_eq q p) (sym (itself c way.to m))
  | inr m ↦
      nat_eq-apart way.to p (λ e. absurd (omega (arith, e, l, m)))
      ∙ sym (nat_eq-apart (place_of c way.to) p (λ e. true_false (is_cut c p) (ap (is_cut c) (sym e) ∙ owner_cut c way.to m (entry way refl).1) uncut))
]

pub coming_uncut : (c : Cut) → IsCut c → (s : State) (f : List Bool) (p : ℕ) → p < place_count c.plan → is_cut c p ≡ false → coming c.cut s p ≡ coming c.plan (with_full s f) p
coming_uncut c k s f p l uncut =
    sum_below_same (λ z. one_if (is_coming c.plan (zone_at s z) p z)) (λ z. one_if (is_coming c.cut (zone_at s z) p z)) (zone_count c.cut) (λ z m.
    ap (λ b. one_if ((zone_at s z).flag && b)) (leads_uncut c p (transfer_of c.cut z (posture_at s z)) (λ way is. k.ends z (posture_at s z) way m is) uncut l
    ∙ ap (λ o. leads_to o p) (sym (transfers c k z (posture_at s z)))))
    ∙ ap (sum_below (λ z. one_if (is_coming c.plan (zone_at s z) p z))) (counts c k)

-- to the entry that is open: no plate is on its way to another one
leads_open : (c : Cut) (s : State) (f : List Bool) → Cuts c s f → (e p z : ℕ) → IsEntry c e p → is_cut c p ≡ true → is_full s e ≡ false → z < zone_count c.cut → (b : Bool) → (zone_at s z).flag ≡ b
    → (w : Option Transfer) → transfer_of c.cut z (posture_at s z) ≡ w → (b && leads_to w e) ≡ (b && leads_to (option_map (whole_transfer c) w) p)
leads_open c s f k e p z entry cut empty l false flag w is = refl
leads_open c s f k e p z entry cut empty l true flag None is = refl
leads_open c s f k e p z entry cut empty l true flag (Some way) is = elim (same_or_not way.to e) [
  | inl same ↦ ap (λ q. nat_eq q e) same ∙ (nat_eq-self e ∙ sym (ap (λ q. nat_eq q p) (ap (place_of c) same ∙ entry.2) ∙ nat_eq-self p))
  | inr ne ↦
      let other = k.is.ends z (posture_at s z) way l is in
      nat_eq-apart way.to e ne
      ∙ sym (nat_eq-apart (place_of c way.to) p (λ same. ne (k.stands.one_open way.to e p cut (other.0, other.1, same) entry (k.comes z way l flag is) empty)))
]

coming_open : (c : Cut) (s : State) (f : List Bool) → Cuts c s f → (e p : ℕ) → IsEntry c e p → is_cut c p ≡ true → is_full s e ≡ false → coming c.cut s e ≡ coming c.plan (with_full s f) p
coming_open c s f k e p entry cut empty =
    sum_below_same (λ z. one_if (is_coming c.plan (zone_at s z) p z)) (λ z. one_if (is_coming c.cut (zone_at s z) e z)) (zone_count c.cut) (λ z l.
    ap one_if (leads_open c s f k e p z entry cut empty l (zone_at s z).flag refl (transfer_of c.cut z (posture_at s z)) refl
    ∙ ap (λ o. (zone_at s z).flag && leads_to o p) (sym (transfers c k.is z (posture_at s z)))))
    ∙ ap (sum_below (λ z. one_if (is_coming c.plan (zone_at s z) p z))) (counts c k.is)

-- ---- the place to which a plate would come

none_full : (full : Bool) (n : ℕ) → nat_lt 0 (one_if full + n) ≡ false → full ≡ false
none_full true n e = let h : nat_lt 0 (1 + n) ≡ true = lt-ltb 0 (1 + n) (omega arith) in true_false (nat_lt 0 (1 + n)) h e
none_full false n e = refl

pub taken_uncut : (c : Cut) (s : State) (f : List Bool) → Cuts c s f → (p : ℕ) → p < place_count c.plan → is_cut c p ≡ false → is_taken c.cut s p ≡ is_taken c.plan (with_full s f) p
taken_uncut c s f k p l uncut = ap (λ b. nat_lt 0 (one_if b + coming c.cut s p)) (k.stands.uncut p l uncut) ∙ ap (λ n. nat_lt 0 (one_if (is_full (with_full s f) p) + n)) (coming_uncut c k.is s f p l uncut)

pub taken_close : (c : Cut) (s : State) (f : List Bool) → Cuts c s f → (e p : ℕ) → p < place_count c.plan → IsEntry c e p
    → (is_taken c.cut s e ≡ is_taken c.plan (with_full s f) p) ⊎ ((is_taken c.cut s e ≡ true) × IsShut c s (with_full s f))
taken_close c s f k e p l entry = by (is_cut c p) refl
  where
    here : is_full s e ≡ true → is_taken c.cut s e ≡ true
    here full = ap (λ b. nat_lt 0 (one_if b + coming c.cut s e)) full ∙ lt-ltb 0 (1 + coming c.cut s e) (omega arith)

    shut : is_cut c p ≡ true → is_full s e ≡ true → (b : Bool) → is_taken c.plan (with_full s f) p ≡ b → (is_taken c.cut s e ≡ is_taken c.plan (with_full s f) p) ⊎ ((is_taken c.cut s e ≡ true) × IsShut c s (with_full s f))
    shut cut full true taken = inl (here full ∙ sym taken)
    shut cut full false taken = inr (here full, record { entry = e; place = p; is = entry; cut = cut; left = none_full (is_full (with_full s f) p) (coming c.plan (with_full s f) p) taken; full = full })

    open_now : is_cut c p ≡ true → is_full s e ≡ false → is_taken c.cut s e ≡ is_taken c.plan (with_full s f) p
    open_now cut empty =
        let none : is_full (with_full s f) p ≡ false = false_from_ne_true (is_full (with_full s f) p) (λ x. true_false (is_full s e) (k.stands.full e p entry x) empty) in
        ap (λ b. nat_lt 0 (one_if b + coming c.cut s e)) empty
        ∙ (ap (λ n. nat_lt 0 (one_if false + n)) (coming_open c s f k e p entry cut empty)
        ∙ ap (λ b. nat_lt 0 (one_if b + coming c.plan (with_full s f) p)) (sym none))

    when_cut : is_cut c p ≡ true → (b : Bool) → is_full s e ≡ b → (is_taken c.cut s e ≡ is_taken c.plan (with_full s f) p) ⊎ ((is_taken c.cut s e ≡ true) × IsShut c s (with_full s f))
    when_cut cut true full = shut cut full (is_taken c.plan (with_full s f) p) refl
    when_cut cut false empty = inl (open_now cut empty)

    by : (b : Bool) → is_cut c p ≡ b → (is_taken c.cut s e ≡ is_taken c.plan (with_full s f) p) ⊎ ((is_taken c.cut s e ≡ true) × IsShut c s (with_full s f))
    by true cut = when_cut cut (is_full s e) refl
    by false uncut = inl (ap (is_taken c.cut s) (entry_uncut c e p entry uncut) ∙ taken_uncut c s f k p l uncut)

-- ---- refusals that are the same, or one of the two

pub data Close (P Q : Type 0) (a b : Option Refusal) : Type 0 where
  Same : a ≡ b → Close P Q a b
  Unlent : a ≡ Some NoPlate → P → Close P Q a b
  Full : a ≡ Some PlaceFull → Q → Close P Q a b

after_same : {P Q : Type 0} (a b c d : Option Refusal) → a ≡ c → Close P Q b d → Close P Q (a or b) (c or d)
after_same a b None d e (Same f) = Same (ap (λ x. x or b) e ∙ f)
after_same a b None d e (Unlent f p) = Unlent (ap (λ x. x or b) e ∙ f) p
after_same a b None d e (Full f q) = Full (ap (λ x. x or b) e ∙ f) q
after_same a b (Some r) d e y = Same (ap (λ x. x or b) e)

both : {P Q : Type 0} {a b c d : Option Refusal} → Close P Q a c → Close P Q b d → Close P Q (a or b) (c or d)
both {P} {Q} {a} {b} {c} {d} (Same e) y = after_same a b c d e y
both {P} {Q} {a} {b} {c} {d} (Unlent e p) y = Unlent (ap (λ x. x or b) e) p
both {P} {Q} {a} {b} {c} {d} (Full e q) y = Full (ap (λ x. x or b) e) q

any_same : (f h : ℕ → Bool) (n : ℕ) → ((i : ℕ) → f i ≡ h i) → any_below f n ≡ any_below h n
any_same f h zero each = refl
any_same f h (suc n) each = ap (λ b. b || f n) (any_same f h n each) ∙ ap (λ b. any_below h n || b) (each n)

abbrev pub CloseIn : (c : Cut) → State → List Bool → ℕ → Option Refusal → Option Refusal → Type 0
CloseIn c s f m a b = Close (IsUnlent c s (with_full s f) m) (IsShut c s (with_full s f)) a b

-- ---- the conditions

party_same : (c : Cut) → IsCut c → (m z : ℕ) → not_party c.cut m z ≡ not_party c.plan m z
party_same c k m z =
    ap (λ n. then_some (not (nat_lt z n && (nat_eq m (host_of c.cut z) || nat_eq m (guest_of c.cut z)))) NotParty) (counts c k)
    ∙ (ap (λ n. then_some (not (nat_lt z (zone_count c.plan) && (nat_eq m n || nat_eq m (guest_of c.cut z)))) NotParty) (hosts c k z)
    ∙ ap (λ n. then_some (not (nat_lt z (zone_count c.plan) && (nat_eq m (host_of c.plan z) || nat_eq m n))) NotParty) (guests c k z))

given_whole : (c : Cut) (m : ℕ) (w : Option Transfer) → given_by m (option_map (whole_transfer c) w) ≡ option_map (whole_transfer c) (given_by m w)
given_whole c m None = refl
given_whole c m (Some way) = by (nat_eq way.giver m)
  where
    by : (b : Bool) → (if b then Some (whole_transfer c way) else None) ≡ option_map (whole_transfer c) (if b then Some way else None)
    by true = refl
    by false = refl

pub given_same : (c : Cut) → IsCut c → (s : State) (f : List Bool) (m z : ℕ) → transfer_given c.plan (with_full s f) m z ≡ option_map (whole_transfer c) (transfer_given c.cut s m z)
given_same c k s f m z = ap (given_by m) (transfers c k z (posture_at s z)) ∙ given_whole c m (transfer_of c.cut z (posture_at s z))

pub some_given : (m : ℕ) (w : Option Transfer) (way : Transfer) → given_by m w ≡ Some way → (w ≡ Some way) × (way.giver ≡ m)
some_given m None way e = cc
some_given m (Some x) way e =
    let h = cond_some (nat_eq x.giver m) x way e in
    (ap (λ (y : Transfer). Some y) h.1, sym (ap (λ (y : Transfer). y.giver) h.1) ∙ eqb-true x.giver m h.0)

wrong_whole : (c : Cut) (w : Option Transfer) → wrong_way w ≡ wrong_way (option_map (whole_transfer c) w)
wrong_whole c None = refl
wrong_whole c (Some way) = refl

-- the plate at the start of a way
plate_close : (c : Cut) (s : State) (f : List Bool) → Cuts c s f → (m : ℕ) (way : Transfer) → Leads c.plan (whole_transfer c way) → way.giver ≡ m → way.from < exits_end c
    → (way.from < place_count c.plan → is_cut c way.from ≡ false)
    → CloseIn c s f m (then_some (not (is_full s way.from)) NoPlate) (then_some (not (is_full (with_full s f) (place_of c way.from))) NoPlate)
plate_close c s f k m way leads giver l uncut = elim (exit_or_uncut c way.from l) [
  | inl below ↦ Same (ap (λ b. then_some (not b) NoPlate) (k.stands.uncut way.from below (uncut below) ∙ ap (is_full (with_full s f)) (sym (itself c way.from below))))
  | inr exit ↦ cases (is_full s way.from) (is_full (with_full s f) (place_of c way.from)) refl refl exit
]
  where
    cases : (a b : Bool) → is_full s way.from ≡ a → is_full (with_full s f) (place_of c way.from) ≡ b → IsExit c way.from (place_of c way.from)
        → CloseIn c s f m (then_some (not (is_full s way.from)) NoPlate) (then_some (not (is_full (with_full s f) (place_of c way.from))) NoPlate)
    cases true true e g exit = Same (ap (λ b. then_some (not b) NoPlate) (e ∙ sym g))
    cases false false e g exit = Same (ap (λ b. then_some (not b) NoPlate) (e ∙ sym g))
    cases true false e g exit = let x = k.stands.lent way.from (place_of c way.from) exit e in cc
    cases false true e g exit = Unlent (ap (λ b. then_some (not b) NoPlate) e) (record { exit = way.from; place = place_of c way.from; is = exit; keeper = leads.from_giver ∙ giver; has = g; empty = e })

nothing_close : (c : Cut) (s : State) (f : List Bool) → Cuts c s f → (m z : ℕ) → z < zone_count c.cut → (w : Option Transfer) → ((way : Transfer) → w ≡ Some way → (transfer_of c.cut z (posture_at s z) ≡ Some way) × (way.giver ≡ m))
    → CloseIn c s f m (nothing_to_give s w) (nothing_to_give (with_full s f) (option_map (whole_transfer c) w))
nothing_close c s f k m z l None given = Same refl
nothing_close c s f k m z l (Some way) given =
    let h = given way refl in
    let starts = k.is.starts z (posture_at s z) way l h.0 in
    plate_close c s f k m way (cut_leads c k.is k.large z (posture_at s z) way l h.0) h.1 starts.0 starts.1

-- the place at the end of a way
pub onto_close : (c : Cut) (s : State) (f : List Bool) → Cuts c s f → (z : ℕ) (q : Posture) → z < zone_count c.cut → (w : Option Transfer) → ((way : Transfer) → w ≡ Some way → transfer_of c.cut z q ≡ Some way)
    → (is_onto_taken c.cut s w ≡ is_onto_taken c.plan (with_full s f) (option_map (whole_transfer c) w)) ⊎ ((is_onto_taken c.cut s w ≡ true) × IsShut c s (with_full s f))
onto_close c s f k z q l None given = inl refl
onto_close c s f k z q l (Some way) given = taken_close c s f k way.to (place_of c way.to) (cut_leads c k.is k.large z q way l (given way refl)).to (k.is.ends z q way l (given way refl))

room_close : (c : Cut) (s : State) (f : List Bool) → Cuts c s f → (m z : ℕ) → z < zone_count c.cut → (w : Option Transfer) → ((way : Transfer) → w ≡ Some way → transfer_of c.cut z (posture_at s z) ≡ Some way)
    → CloseIn c s f m (no_room c.cut s w) (no_room c.plan (with_full s f) (option_map (whole_transfer c) w))
room_close c s f k m z l w given = elim (onto_close c s f k z (posture_at s z) l w given) [
  | inl e ↦ Same (ap (λ b. then_some b PlaceFull) e)
  | inr h ↦ Full (ap (λ b. then_some b PlaceFull) h.0) h.1
]

-- ---- spaces

joins_same : (c : Cut) → IsCut c → (z : ℕ) → joins c.cut z ≡ joins c.plan z
joins_same c k z = sym (ap (λ (r : PlanZone). r.joins) (rows c k z))

pub spaces_same : (c : Cut) → IsCut c → (z : ℕ) → space_of c.cut z ≡ space_of c.plan z
spaces_same c k zero = refl
spaces_same c k (suc z) = ap (λ b. if b then space_of c.cut z else suc z) (joins_same c k (suc z)) ∙ ap (λ n. if joins c.plan (suc z) then n else suc z) (spaces_same c k z)

pub same_spaces : (c : Cut) → IsCut c → (y z : ℕ) → same_space c.cut y z ≡ same_space c.plan y z
same_spaces c k y z = ap (λ n. nat_eq n (space_of c.cut z)) (spaces_same c k y) ∙ ap (λ n. nat_eq (space_of c.plan y) n) (spaces_same c k z)

space_plate : (c : Cut) → IsCut c → (s : State) (f : List Bool) (z : ℕ) → space_has_plate c.cut s z ≡ space_has_plate c.plan (with_full s f) z
space_plate c k s f z =
    any_same (λ y. same_space c.cut y z && (zone_at s y).flag) (λ y. same_space c.plan y z && (zone_at s y).flag) (zone_count c.cut) (λ y. ap (λ b. b && (zone_at s y).flag) (same_spaces c k y z))
    ∙ ap (any_below (λ y. same_space c.plan y z && (zone_at s y).flag)) (counts c k)

plate_same : (c : Cut) → IsCut c → (s : State) (f : List Bool) (z : ℕ) → plate_in_zone c.cut s z ≡ plate_in_zone c.plan (with_full s f) z
plate_same c k s f z = ap (λ b. then_some b (PlateInZone z)) (space_plate c k s f z)

-- ---- calls about a zone

to : {P Q : Type 0} (a b d : Option Refusal) → b ≡ d → Close P Q a b → Close P Q a d
to a b d e x = subst (Close _ _ a) e x

give_close_in : (c : Cut) (s : State) (f : List Bool) → Cuts c s f → (m z : ℕ) → z < zone_count c.cut → CloseIn c s f m (give_refusal c.cut s m z) (give_refusal c.plan (with_full s f) m z)
give_close_in c s f k m z l =
    let w = transfer_given c.cut s m z in
    let way = sym (given_same c k.is s f m z) in
    let some : (x : Transfer) → w ≡ Some x → (transfer_of c.cut z (posture_at s z) ≡ Some x) × (x.giver ≡ m) = λ x e. some_given m (transfer_of c.cut z (posture_at s z)) x e in
    both (both (both (both (both (both (both
    (Same (party_same c k.is m z))
    (Same refl))
    (Same refl))
    (Same (plate_same c k.is s f z)))
    (Same (wrong_whole c w ∙ ap wrong_way way)))
    (to _ _ _ (ap (nothing_to_give (with_full s f)) way) (nothing_close c s f k m z l w some)))
    (to _ _ _ (ap (no_room c.plan (with_full s f)) way) (room_close c s f k m z l w (λ x e. (some x e).0))))
    (Same refl)

-- a zone that isn't there
no_zone_refused : (c : Cut) → IsCut c → (m z : ℕ) → zone_count c.cut ≤ z → (not_party c.cut m z ≡ Some NotParty) × (not_party c.plan m z ≡ Some NotParty)
no_zone_refused c k m z l =
    let here : not_party c.cut m z ≡ Some NotParty = ap (λ b. then_some (not (b && (nat_eq m (host_of c.cut z) || nat_eq m (guest_of c.cut z)))) NotParty) (false_from_ne_true (nat_lt z (zone_count c.cut)) (λ e. let x = ltb-true z (zone_count c.cut) e in absurd (omega (arith, x, l)))) in
    (here, sym (party_same c k m z) ∙ here)

give_close : (c : Cut) (s : State) (f : List Bool) → Cuts c s f → (m z : ℕ) → CloseIn c s f m (give_refusal c.cut s m z) (give_refusal c.plan (with_full s f) m z)
give_close c s f k m z = elim (cases_lt z (zone_count c.cut)) [
  | inl l ↦ give_close_in c s f k m z l
  | inr n ↦ let h = no_zone_refused c k.is m z n in Same (rw (h.0, h.1) refl)
]

claim_same : (c : Cut) → IsCut c → (s : State) (f : List Bool) (m z : ℕ) → claim_refusal c.cut s m z ≡ claim_refusal c.plan (with_full s f) m z
claim_same c k s f m z = rw (party_same c k m z, guests c k z) refl

yield_same : (c : Cut) → IsCut c → (s : State) (f : List Bool) (m z : ℕ) → yield_refusal c.cut s m z ≡ yield_refusal c.plan (with_full s f) m z
yield_same c k s f m z =
    ap (λ r. r or not_owner s m z or plate_in_zone c.cut s z or shut s z or worn s) (party_same c k m z)
    ∙ ap (λ r. not_party c.plan m z or not_owner s m z or r or shut s z or worn s) (plate_same c k s f z)

take_same : (c : Cut) → IsCut c → (s : State) (f : List Bool) (m z : ℕ) → take_refusal c.cut s m z ≡ take_refusal c.plan (with_full s f) m z
take_same c k s f m z = rw (party_same c k m z) refl

release_same : (c : Cut) → IsCut c → (s : State) (f : List Bool) (m z : ℕ) → release_refusal c.cut s m z ≡ release_refusal c.plan (with_full s f) m z
release_same c k s f m z =
    ap (λ r. r or not_owner s m z or plate_in_zone c.cut s z or shut_while_moving s z or worn s) (party_same c k m z)
    ∙ ap (λ r. not_party c.plan m z or not_owner s m z or r or shut_while_moving s z or worn s) (plate_same c k s f z)

inquire_same : (c : Cut) → IsCut c → (z : ℕ) → inquire_refusal c.cut z ≡ inquire_refusal c.plan z
inquire_same c k z = ap (λ n. then_some (not (nat_lt z n)) NotParty) (counts c k)

-- ---- poses

abbrev pub posed_by : PlanTable → List PlanPose → PlanTable
posed_by t ps = record t { poses = ps }

unowned_same : (c : Cut) → IsCut c → (s : State) (f : List Bool) (m p z : ℕ) → unowned_by_pose c.cut s m p z ≡ unowned_by_pose c.plan (with_full s f) m p z
unowned_same c k s f m p z =
    ap (λ ps. unowned_by_pose (posed_by c.cut ps) s m p z) k.poses
    ∙ ap (λ h. then_some ((nat_eq h m && (is_moving_pose c.plan p || not (same_posture (posture_with c.plan s p z) (posture_at s z)))) && not (owns s m z)) (NotOwner (owner_of s z))) (hosts c k z)

plate_under_same : (c : Cut) → IsCut c → (s : State) (f : List Bool) (m p z : ℕ) → plate_under_pose c.cut s m p z ≡ plate_under_pose c.plan (with_full s f) m p z
plate_under_same c k s f m p z =
    ap (λ ps. plate_under_pose (posed_by c.cut ps) s m p z) k.poses
    ∙ (ap (λ h. then_some ((nat_eq h m && (is_moving_pose c.plan p || not (same_posture (posture_with c.plan s p z) (posture_at s z)))) && space_has_plate c.cut s z) (PlateInZone z)) (hosts c k z)
    ∙ ap (λ b. then_some (is_concerned c.plan s m p z && b) (PlateInZone z)) (space_plate c k s f z))

jump_same : (c : Cut) → IsCut c → (s : State) (f : List Bool) (m p : ℕ) → jump c.cut s m p ≡ jump c.plan (with_full s f) m p
jump_same c k s f m p =
    ap (λ (ps : List PlanPose). then_some ((pose_row (posed_by c.cut ps) p).after_moving && any_below (stands_at c.cut s m) (zone_count c.cut)) Jump) k.poses
    ∙ (ap (λ b. then_some ((pose_row c.plan p).after_moving && b) Jump) (any_same (stands_at c.cut s m) (stands_at c.plan (with_full s f) m) (zone_count c.cut) (λ z. ap (λ h. nat_eq h m && not (same_posture (posture_at s z) Moving)) (hosts c k z)))
    ∙ ap (λ n. then_some ((pose_row c.plan p).after_moving && any_below (stands_at c.plan (with_full s f) m) n) Jump) (counts c k))

opens_by : (P Q : Type 0) (a b c d : Bool) → (c ≡ d) ⊎ ((c ≡ true) × Q) → Close P Q (then_some (a && b && c) PlaceFull) (then_some (a && b && d) PlaceFull)
opens_by P Q a b c d (inl e) = Same (ap (λ x. then_some (a && b && x) PlaceFull) e)
opens_by P Q true true c d (inr h) = Full (ap (λ x. then_some x PlaceFull) h.0) h.1
opens_by P Q true false c d (inr h) = Same refl
opens_by P Q false b c d (inr h) = Same refl

opens_close_in : (c : Cut) (s : State) (f : List Bool) → Cuts c s f → (m p z : ℕ) → z < zone_count c.cut → CloseIn c s f m (opens_onto_plate c.cut s p z) (opens_onto_plate c.plan (with_full s f) p z)
opens_close_in c s f k m p z l =
    let there : posture_with c.plan s p z ≡ posture_with c.cut s p z = sym (ap (λ ps. posture_with (posed_by c.cut ps) s p z) k.is.poses) in
    let way = sym (transfers c k.is z OpenIn) in
    to _ _ _ (ap (λ w. then_some (same_posture (posture_with c.cut s p z) OpenIn && not (same_posture (posture_at s z) OpenIn) && is_onto_taken c.plan (with_full s f) w) PlaceFull) way
    ∙ ap (λ q. then_some (same_posture q OpenIn && not (same_posture (posture_at s z) OpenIn) && is_onto_taken c.plan (with_full s f) (transfer_of c.plan z OpenIn)) PlaceFull) (sym there))
    (opens_by _ _ (same_posture (posture_with c.cut s p z) OpenIn) (not (same_posture (posture_at s z) OpenIn)) _ _ (onto_close c s f k z OpenIn l (transfer_of c.cut z OpenIn) (λ way e. e)))

first_close_below : {P Q : Type 0} (f h : ℕ → Option Refusal) (n : ℕ) → ((i : ℕ) → i < n → Close P Q (f i) (h i)) → Close P Q (first_below f n) (first_below h n)
first_close_below f h zero each = Same refl
first_close_below f h (suc n) each = both (first_close_below f h n (λ i l. each i (omega arith))) (each n (omega arith))

zones_close : (c : Cut) (s : State) (f : List Bool) → IsCut c → (m : ℕ) (a b : ℕ → Option Refusal) → ((z : ℕ) → z < zone_count c.cut → CloseIn c s f m (a z) (b z)) → CloseIn c s f m (first_zone c.cut a) (first_zone c.plan b)
zones_close c s f k m a b each = to _ _ _ (ap (first_below b) (counts c k)) (first_close_below a b (zone_count c.cut) each)

pose_close : (c : Cut) (s : State) (f : List Bool) → Cuts c s f → (m p : ℕ) → CloseIn c s f m (pose_refusal c.cut s m p) (pose_refusal c.plan (with_full s f) m p)
pose_close c s f k m p =
    both (both (both (both (both (both
    (Same (ap (λ ps. lacks_pose (posed_by c.cut ps) m p) k.is.poses))
    (Same (ap (λ ps. moves_while_stopped (posed_by c.cut ps) s p) k.is.poses)))
    (zones_close c s f k.is m (unowned_by_pose c.cut s m p) (unowned_by_pose c.plan (with_full s f) m p) (λ z l. Same (unowned_same c k.is s f m p z))))
    (zones_close c s f k.is m (plate_under_pose c.cut s m p) (plate_under_pose c.plan (with_full s f) m p) (λ z l. Same (plate_under_same c k.is s f m p z))))
    (Same (jump_same c k.is s f m p)))
    (zones_close c s f k.is m (opens_onto_plate c.cut s p) (opens_onto_plate c.plan (with_full s f) p) (λ z l. opens_close_in c s f k m p z l)))
    (Same refl)

-- ---- an advance of a place that isn't cut

pub uncut_by : (c : Cut) (q : ℕ) → (nat_le (place_count c.plan) q || is_cut c q) ≡ false → (q < place_count c.plan) × (is_cut c q ≡ false)
uncut_by c q e = parts (nat_le (place_count c.plan) q) (is_cut c q) refl e
  where
    parts : (a b : Bool) → nat_le (place_count c.plan) q ≡ a → (a || b) ≡ false → (q < place_count c.plan) × (b ≡ false)
    parts true b g e = cc
    parts false b g e = (elim (cases_lt q (place_count c.plan)) [ inl l ↦ l | inr m ↦ let h = sym (le-leb (place_count c.plan) q m) ∙ g in cc ], e)

advance_same : (c : Cut) (s : State) (f : List Bool) → Cuts c s f → (m p : ℕ) → p < place_count c.plan → is_cut c p ≡ false → advance_refusal c.cut s m p ≡ advance_refusal c.plan (with_full s f) m p
advance_same c s f k m p l uncut =
    let row = k.is.uncut p l uncut in
    let full = k.stands.uncut p l uncut in
    let more = k.is.places in
    let here : nat_lt p (place_count c.cut) ≡ true = lt-ltb p (place_count c.cut) (omega (arith, l, more)) in
    let there : nat_lt p (place_count c.plan) ≡ true = lt-ltb p (place_count c.plan) l in
    let taken = taken_uncut c s f k p l uncut in
    rw (here, there, taken, full)
    (ap (λ (r : PlanPlace). then_some (not (nat_eq r.keeper m && (r.source || r.sink))) NotParty or while_stopped s
    or then_some (r.source && (is_taken c.plan (with_full s f) p && not (r.sink && is_full (with_full s f) p))) PlaceFull
    or then_some (not r.source && not (is_full (with_full s f) p)) NoPlate or worn s) row)

-- ---- each call

refusal_close : (c : Cut) (s : State) (f : List Bool) → Cuts c s f → (m : ℕ) (x : Call) → is_inner c x ≡ false → CloseIn c s f m (refusal c.cut s m x) (refusal c.plan (with_full s f) m x)
refusal_close c s f k m (Claim z) e = Same (claim_same c k.is s f m z)
refusal_close c s f k m (Give z) e = give_close c s f k m z
refusal_close c s f k m (Yield z) e = Same (yield_same c k.is s f m z)
refusal_close c s f k m (Take z) e = Same (take_same c k.is s f m z)
refusal_close c s f k m (Release z) e = Same (release_same c k.is s f m z)
refusal_close c s f k m (SetPose p) e = pose_close c s f k m p
refusal_close c s f k m (Inquire z) e = Same (inquire_same c k.is z)
refusal_close c s f k m Stop e = Same refl
refusal_close c s f k m Resume e = Same refl
refusal_close c s f k m (Advance p) e = let h = uncut_by c p e in Same (advance_same c s f k m p h.0 h.1)

accepted_same : (s : State) (f : List Bool) (x : Call) → accepted s x ≡ accepted (with_full s f) x
accepted_same s f (Inquire z) = refl
accepted_same s f (Claim z) = refl
accepted_same s f (Give z) = refl
accepted_same s f (Yield z) = refl
accepted_same s f (Take z) = refl
accepted_same s f (Release z) = refl
accepted_same s f (SetPose p) = refl
accepted_same s f Stop = refl
accepted_same s f Resume = refl
accepted_same s f (Advance p) = refl

pub answered : (c : Cut) (s : State) (f : List Bool) → Cuts c s f → (m : ℕ) (x : Call) → is_inner c x ≡ false → IsAnsweredFor c s (with_full s f) m (reply c.cut s m x) (reply c.plan (with_full s f) m x)
answered c s f k m x e = by (refusal_close c s f k m x e)
  where
    by : CloseIn c s f m (refusal c.cut s m x) (refusal c.plan (with_full s f) m x) → IsAnsweredFor c s (with_full s f) m (reply c.cut s m x) (reply c.plan (with_full s f) m x)
    by (Same g) = inl (ap (λ r. answer_by r (accepted s x)) g ∙ ap (answer_by (refusal c.plan (with_full s f) m x)) (accepted_same s f x))
    by (Unlent g p) = inr (inl (ap (λ r. answer_by r (accepted s x)) g, p))
    by (Full g q) = inr (inr (ap (λ r. answer_by r (accepted s x)) g, q))
