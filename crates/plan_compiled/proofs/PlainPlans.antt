-- Plans in which no zone joins the one before it.
use Rattle.std.proofs.Common.{◌≡◌, ℕ, ◌+◌, ◌<◌, ◌≤◌, ◌^◌, inl, inr, Bool, true, false, ◌||◌, nat_eq, Option, if◌then◌else◌, sym, ap, ◌∙◌, arith}
use Rattle.std.proofs.Math.Nat.{pow-le-pow_right}
use Rattle.std.proofs.lemmas.Bool.{cases_lt, lt-ltb}
use Rattle.std.proofs.lemmas.List.{get_or_past}
use Rattle.std.proofs.lemmas.List.FromFn.{get_or-map-range_with_len}
use Rattle.plan_types.specs.declared.shape.Postures.{Postures}
use Rattle.plan_types.specs.declared.shape.Postures.TheVariants.{Shut, Two, All}
use Rattle.plan_types.specs.declared.table.PlanZone.{PlanZone}
use Rattle.plan_types.specs.Table.{PlanTable, zone_count, no_zone, joins, space_of, same_space, zone_shape, flag_bits, posture_bits, postures_of}
use Rattle.plan_types.specs.Plan.{IsPlan}
use Rattle.plan_types.proofs.lemmas.Spaces.{first_alone, spaces_by_row}
use Rattle.plan_rules.specs.declared.state.ZoneState.{ZoneState}
use Rattle.plan_rules.specs.declared.state.State.{State}
use Rattle.plan_rules.specs.State.{zone_at, free_zone}
use Rattle.plan_rules.specs.Reply.{handed}
use Rattle.plan_rules.specs.PlainLaws.{IsPlain, PlainSpaces}
use Rattle.plan_rules.proofs.lemmas.Puts.{same_or_not, nat_eq-self, nat_eq-apart}
use Rattle.plan_rules.proofs.lemmas.Spaces.{handed_here, handed_other}
use Rattle.plan_word.specs.declared.layout.Field.TheVariants.{Zone}
use Rattle.plan_word.specs.OfPlan.{IsOfPlan}
use Rattle.plan_word.specs.Packed.{zone_code, packed}
use Rattle.plan_word.specs.Reading.{zone_of_code, zone_in_word, state_told}
use Rattle.plan_word.proofs.lemmas.LaidOut.{held_back, zone_in_field}
use Rattle.plan_word.proofs.lemmas.RoundTrip.{told_back}
use Rattle.plan_word.proofs.lemmas.Shapes.{bits_at, bits_are}
use Rattle.plan_compiled.specs.Alone.{zone_alone}
use Rattle.plan_compiled.specs.Ends.{code_at}

-- past the table no zone joins
pub plain_by : (t : PlanTable) → ((z : ℕ) → z < zone_count t → joins t z ≡ false) → IsPlain t
plain_by t each z =
    elim (cases_lt z (zone_count t)) [
      | inl l ↦ each z l
      | inr past ↦ ap (λ (row : PlanZone). row.joins) (get_or_past t.zones z no_zone past)
    ]

-- each zone of a state is one by itself
abbrev pub AreAlone : PlanTable → State → Type 0
AreAlone t s = (z : ℕ) → PlainSpaces t s z

-- ---- a zone's bits tell all of it
few_by : (flag : Bool) (p : Postures) → 2 + flag_bits flag + posture_bits p ≤ 5
few_by true Shut = omega arith
few_by true (Two other) = omega arith
few_by true All = omega arith
few_by false Shut = omega arith
few_by false (Two other) = omega arith
few_by false All = omega arith

pub few_bits : (t : PlanTable) (z : ℕ) → IsPlain t → bits_at t z ≤ 5
few_bits t z plain =
    let is = bits_are t z in
    let own = (spaces_by_row t z).alone plain in
    let few = few_by (zone_shape t z).flag (postures_of (zone_shape t z)) in
    omega (arith, is, own, few)

pub code_below : (t : PlanTable) (z : ℕ) (v : ZoneState) → IsPlain t → zone_code t z v < 32
code_below t z v plain =
    let most : 2 ^ bits_at t z ≤ 2 ^ 5 = pow-le-pow_right (omega arith) (few_bits t z plain) in
    let fits = zone_in_field t z v in
    omega (arith, fits, most)

-- the state that a word tells has of each zone what its own bits tell
pub zone_is : (t : PlanTable) (w z : ℕ) → IsPlan t → IsPlain t → z < zone_count t → zone_at (state_told t w) z ≡ zone_alone t z (code_at t w z)
unfolding state_told
zone_is t w z p plain l =
    let few = p.zones_at_most in
    get_or-map-range_with_len (zone_in_word t w) 0 10 z z free_zone (omega (arith, few, l)) (omega arith)
    ∙ ap (λ b. if b then zone_of_code t z (code_at t w (space_of t z)) (code_at t w z) else free_zone) (lt-ltb z (zone_count t) l)
    ∙ ap (λ f. zone_of_code t z (code_at t w f) (code_at t w z)) (first_alone t z (plain z))

pub alone_back : (t : PlanTable) (s : State) (z : ℕ) → IsPlain t → IsOfPlan t s → z < zone_count t → zone_alone t z (zone_code t z (zone_at s z)) ≡ zone_at s z
alone_back t s z plain o l =
    let back : code_at t (packed t s) z ≡ zone_code t z (zone_at s z) = held_back t s o.sound.stamp_in_range (Zone z) (lt-ltb z (zone_count t) l) in
    sym (ap (zone_alone t z) back) ∙ sym (zone_is t (packed t s) z o.plan plain l) ∙ ap (λ (x : State). zone_at x z) (told_back t s o)

-- ---- another owner is set at the zone alone
abbrev pub with_owner_at : Option ℕ → ZoneState → ZoneState
with_owner_at o v = record v { owner = o }

abbrev pub given_to : Option ℕ → ZoneState → ZoneState
given_to o v = record v { owner = o; flag = true }

module _ (t : PlanTable) (s : State) (y : ℕ) (o : Option ℕ) (z : ℕ) (same : same_space t y z ≡ nat_eq y z) where
  here : z ≡ y → same_space t y z ≡ true
  here e = same ∙ ap (nat_eq y) e ∙ nat_eq-self y

  pub handed_at : handed t s y o false z ≡ (if nat_eq z y then with_owner_at o (zone_at s z) else zone_at s z)
  handed_at =
      elim (same_or_not z y) [
        | inl e ↦ handed_here t s y o false z (here e)
            ∙ sym (ap (λ b. if b then with_owner_at o (zone_at s z) else zone_at s z) (ap (nat_eq z) (sym e) ∙ nat_eq-self z))
        | inr ne ↦ handed_other t s y o false z (same ∙ nat_eq-apart y z (λ e. ne (sym e)))
            ∙ sym (ap (λ b. if b then with_owner_at o (zone_at s z) else zone_at s z) (nat_eq-apart z y ne))
      ]

  pub given_at : handed t s y o true z ≡ (if nat_eq z y then given_to o (zone_at s z) else zone_at s z)
  given_at =
      elim (same_or_not z y) [
        | inl e ↦
            let test : nat_eq z y ≡ true = ap (nat_eq z) (sym e) ∙ nat_eq-self z in
            handed_here t s y o true z (here e)
            ∙ ap (λ (b : Bool). record (zone_at s z) { owner = o; flag = b || (zone_at s z).flag }) test
            ∙ sym (ap (λ b. if b then given_to o (zone_at s z) else zone_at s z) test)
        | inr ne ↦ handed_other t s y o true z (same ∙ nat_eq-apart y z (λ e. ne (sym e)))
            ∙ sym (ap (λ b. if b then given_to o (zone_at s z) else zone_at s z) (nat_eq-apart z y ne))
      ]
