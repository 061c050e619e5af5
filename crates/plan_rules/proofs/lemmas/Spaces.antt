-- The zones of one space.
use Rattle.std.proofs.Common.{◌≡◌, ℕ, ◌+◌, ◌<◌, ◌≤◌, inl, inr, Bool, true, false, ◌&&◌, ◌||◌, nat_eq, List, length, get_or, Option, refl, sym, ap, ◌∙◌, arith, eq-eqb, if◌then◌else◌}
use Rattle.std.proofs.lemmas.Bool.{cases_lt, eqb-true, false_from_ne_true}
use Rattle.std.proofs.lemmas.List.{get_or_past}
use Rattle.std.proofs.lemmas.List.FromFn.{get_or-map-range_with_len}
use Rattle.plan_types.specs.declared.posture.Posture.{Posture}
use Rattle.plan_types.specs.declared.posture.Posture.TheVariants.{Moving}
use Rattle.plan_types.specs.declared.table.PlanZone.{PlanZone}
use Rattle.plan_types.specs.Same.{same_posture}
use Rattle.plan_types.specs.Below.{sum_below}
use Rattle.plan_types.specs.Table.{PlanTable, zone_count, no_zone, host_of, guest_of, space_of, same_space, enters}
use Rattle.plan_types.specs.Plan.{IsPlan}
use Rattle.plan_types.proofs.lemmas.Spaces.{first_alone, no_later}
use Rattle.plan_rules.specs.declared.state.ZoneState.{ZoneState}
use Rattle.plan_rules.specs.declared.state.State.{State}
use Rattle.plan_rules.specs.State.{zone_at, owner_of, posture_at, free_zone, space_has_plate}
use Rattle.plan_rules.specs.Sound.{IsSound}
use Rattle.plan_rules.specs.Reply.{handed, with_owner}
use Rattle.plan_rules.proofs.lemmas.Below.{any_below_none, any_below_at, sum_below_changed}
use Rattle.plan_rules.proofs.lemmas.Puts.{same_or_not, nat_eq-self, nat_eq-apart}

-- ---- by numbers

past_alone : (t : PlanTable) (z : ℕ) → zone_count t ≤ z → space_of t z ≡ z
past_alone t z past = first_alone t z (ap (λ (row : PlanZone). row.joins) (get_or_past t.zones z no_zone past))

pub same_inside : (t : PlanTable) (y z : ℕ) → y < zone_count t → space_of t y ≡ space_of t z → z < zone_count t
same_inside t y z l same =
    elim (cases_lt z (zone_count t)) [
      | inl k ↦ k
      | inr past ↦ let alone = past_alone t z past in let before = no_later t y in absurd (omega (arith, l, same, alone, before, past))
    ]

pub first_inside : (t : PlanTable) (z : ℕ) → z < zone_count t → space_of t z < zone_count t
first_inside t z l = let before = no_later t z in omega (arith, l, before)

pub same_by : (t : PlanTable) (y z : ℕ) → space_of t y ≡ space_of t z → same_space t y z ≡ true
same_by t y z same = eq-eqb _ _ same

pub by_same : (t : PlanTable) (y z : ℕ) → same_space t y z ≡ true → space_of t y ≡ space_of t z
by_same t y z e = eqb-true _ _ e

pub apart_by : (t : PlanTable) (y z : ℕ) → same_space t y z ≡ false → nat_eq z y ≡ false
apart_by t y z e = false_from_ne_true (nat_eq z y) (λ yes.
    let same : same_space t y z ≡ true = same_by t y z (sym (ap (space_of t) (eqb-true z y yes))) in
    let clash : true ≡ false = sym same ∙ e in
    cc)

-- ---- by the plan

pub one_host : (t : PlanTable) (y z : ℕ) → IsPlan t → y < zone_count t → z < zone_count t → space_of t y ≡ space_of t z → host_of t y ≡ host_of t z
one_host t y z p l m same = sym (p.one_host_a_space y l) ∙ ap (host_of t) same ∙ p.one_host_a_space z m

pub one_guest : (t : PlanTable) (y z : ℕ) → IsPlan t → y < zone_count t → z < zone_count t → space_of t y ≡ space_of t z → guest_of t y ≡ guest_of t z → y ≡ z
one_guest t y z p l m same guest =
    elim (same_or_not y z) [
      | inl e ↦ e
      | inr ne ↦ elim (cases_lt y z) [
        | inl before ↦ absurd (p.guests_differ y z before m same guest)
        | inr after ↦ absurd (p.guests_differ z y (omega (arith, ne, after)) l (sym same) (sym guest))
      ]
    ]

both_of : (a b : Bool) → a ≡ true → b ≡ true → (a && b) ≡ true
both_of a b e f = rw (e, f) refl

pub party_enters : (t : PlanTable) (m y z : ℕ) → y < zone_count t → space_of t y ≡ space_of t z → (nat_eq m (host_of t y) || nat_eq m (guest_of t y)) ≡ true → enters t m z ≡ true
party_enters t m y z l same party =
    any_below_at (λ x. same_space t x z && (nat_eq m (host_of t x) || nat_eq m (guest_of t x))) y (zone_count t) l
    (both_of (same_space t y z) _ (same_by t y z same) party)

-- ---- by the state

pub shared_owner : (t : PlanTable) (s : State) (y z : ℕ) → IsSound t s → y < zone_count t → z < zone_count t → space_of t y ≡ space_of t z → owner_of s y ≡ owner_of s z
shared_owner t s y z k l m same = (k.zone_is_of_space y l).owner ∙ ap (owner_of s) same ∙ sym (k.zone_is_of_space z m).owner

pub shared_motion : (t : PlanTable) (s : State) (y z : ℕ) → IsSound t s → y < zone_count t → z < zone_count t → space_of t y ≡ space_of t z
    → same_posture (posture_at s y) Moving ≡ same_posture (posture_at s z) Moving
shared_motion t s y z k l m same = (k.zone_is_of_space y l).motion ∙ ap (λ x. same_posture (posture_at s x) Moving) same ∙ sym (k.zone_is_of_space z m).motion

second_none : (a b : Bool) → (a && b) ≡ false → a ≡ true → b ≡ false
second_none true b e f = e
second_none false b e f = cc

-- no plate is in a space: none is in a zone of it
pub clear_zone : (t : PlanTable) (s : State) (z : ℕ) → space_has_plate t s z ≡ false → (y : ℕ) → y < zone_count t → space_of t y ≡ space_of t z → (zone_at s y).flag ≡ false
clear_zone t s z none y l same =
    second_none (same_space t y z) (zone_at s y).flag (any_below_none (λ x. same_space t x z && (zone_at s x).flag) (zone_count t) none y l) (same_by t y z same)

-- ---- zones after a space has got another owner

abbrev pub made : Option ℕ → Bool → Posture → ZoneState
made o f q = record { owner = o; flag = f; posture = q }

and_none : (b : Bool) → (b && false) ≡ false
and_none true = refl
and_none false = refl

module _ (t : PlanTable) (s : State) (z : ℕ) (o : Option ℕ) (plate : Bool) where
  abbrev pub zones : List ZoneState
  zones = with_owner t s z o plate

  pub handed_here : (y : ℕ) → same_space t z y ≡ true → handed t s z o plate y ≡ record { owner = o; flag = (plate && nat_eq y z) || (zone_at s y).flag; posture = posture_at s y }
  handed_here y same = ap (λ b. made (if b then o else owner_of s y) ((plate && nat_eq y z) || (zone_at s y).flag) (posture_at s y)) same

  pub handed_other : (y : ℕ) → same_space t z y ≡ false → handed t s z o plate y ≡ zone_at s y
  handed_other y apart =
      ap (λ b. made (if b then o else owner_of s y) ((plate && nat_eq y z) || (zone_at s y).flag) (posture_at s y)) apart
      ∙ ap (λ b. made (owner_of s y) (b || (zone_at s y).flag) (posture_at s y)) (ap (λ b. plate && b) (apart_by t z y apart) ∙ and_none plate)

  pub zone_at-handed : (y : ℕ) → y < 10 → get_or zones y free_zone ≡ handed t s z o plate y
  zone_at-handed y l = get_or-map-range_with_len (handed t s z o plate) 0 10 y y free_zone l (omega arith)

  pub past-handed : (y : ℕ) → 10 ≤ y → get_or zones y free_zone ≡ free_zone
  past-handed y past = get_or_past zones y free_zone past

  -- a number for each zone, by its plate and its posture
  abbrev Number : Type 0
  Number = ℕ → Bool → Posture → ℕ

  abbrev pub of_zone : Number → ℕ → ZoneState → ℕ
  of_zone number y v = number y v.flag v.posture

  number_at : (number : Number) (y : ℕ) → length s.zones ≡ 10 → nat_eq y z ≡ false → of_zone number y (get_or zones y free_zone) ≡ of_zone number y (zone_at s y)
  number_at number y ten apart =
      elim (cases_lt y 10) [
        | inl l ↦ ap (of_zone number y) (zone_at-handed y l)
            ∙ ap (λ b. number y (b || (zone_at s y).flag) (posture_at s y)) (ap (λ b. plate && b) apart ∙ and_none plate)
        | inr past ↦ ap (of_zone number y) (past-handed y past ∙ sym (get_or_past s.zones y free_zone (omega (arith, ten, past))))
      ]

  and_true : (b : Bool) → (b && true) ≡ b
  and_true true = refl
  and_true false = refl

  -- the sum of these numbers changes by the one zone that may get a plate
  pub handed_sum : (number : Number) (n : ℕ) → length s.zones ≡ 10 → z < n → n ≤ 10
      → sum_below (λ y. of_zone number y (get_or zones y free_zone)) n + number z (zone_at s z).flag (posture_at s z)
      ≡ sum_below (λ y. of_zone number y (zone_at s y)) n + number z (plate || (zone_at s z).flag) (posture_at s z)
  handed_sum number n ten l few =
      let e = sum_below_changed (λ y. of_zone number y (zone_at s y)) (λ y. of_zone number y (get_or zones y free_zone)) z n l
      (λ y ne. number_at number y ten (nat_eq-apart y z ne)) in
      let here : of_zone number z (get_or zones z free_zone) ≡ number z (plate || (zone_at s z).flag) (posture_at s z) =
      ap (of_zone number z) (zone_at-handed z (omega (arith, l, few)))
      ∙ ap (λ b. number z (b || (zone_at s z).flag) (posture_at s z)) (ap (λ b. plate && b) (nat_eq-self z) ∙ and_true plate) in
      e ∙ ap (λ k. sum_below (λ y. of_zone number y (zone_at s y)) n + k) here
