-- A word whose zones and places are lawful is that of the state that it tells.
use Rattle.std.proofs.Common.{◌≡◌, ◌≢◌, ℕ, zero, suc, ◌+◌, ◌*◌, ◌/◌, ◌%◌, ◌-◌, ◌<◌, ◌≤◌, ◌^◌, inl, inr, List, length, get_or, set, replicate, true, false, ◌&&◌, nat_eq, Some, IsTrue, refl, sym, ap, ap₂, ◌∙◌, subst, below_more, ltb-true, arith}
use Rattle.std.specs.Prelude.{bit_and, bit_or}
use Rattle.std.proofs.Math.Nat.{div-eq_of_lt}
use Rattle.std.proofs.lemmas.Bool.{lt-ltb, cases_lt}
use Rattle.std.proofs.lemmas.Nat.{and_shr, and_mod, or_shr, or_mod, or_comm, or_disjoint, mod_below, mod-pow-add, field_of, pow_below, pow-add, shl-shr, shr-shr}
use Rattle.std.proofs.lemmas.List.{get_or-set_same, get_or-set_other, get_or-replicate}
use Rattle.std.proofs.lemmas.List.FromFn.{get_or-map-range_with_len}
use Rattle.plan_types.specs.declared.table.Transfer.{Transfer}
use Rattle.plan_types.specs.declared.posture.Posture.TheVariants.{Moving}
use Rattle.plan_types.specs.Below.{sum_below}
use Rattle.plan_types.specs.Same.{same_posture}
use Rattle.plan_types.specs.Table.{PlanTable, zone_count, place_count, transfer_of}
use Rattle.plan_types.specs.Plan.{IsPlan}
use Rattle.plan_types.proofs.lemmas.Spaces.{first_alone}
use Rattle.plan_rules.specs.declared.state.ZoneState.{ZoneState}
use Rattle.plan_rules.specs.declared.state.State.{State}
use Rattle.plan_rules.specs.State.{zone_at, owner_of, posture_at, is_full, one_if, leads_to, is_coming, coming, plates_for}
use Rattle.plan_rules.specs.Sound.{IsLawfulZone, IsOfSpace}
use Rattle.plan_rules.specs.PlainLaws.{IsPlain}
use Rattle.plan_rules.proofs.lemmas.Below.{sum_below_more, sum_below_same}
use Rattle.plan_rules.proofs.lemmas.Puts.{same_or_not, nat_eq-self, nat_eq-apart}
use Rattle.plan_word.specs.declared.layout.Field.{Field}
use Rattle.plan_word.specs.declared.layout.Field.TheVariants.{Zone, Place, Stamp, Stop}
use Rattle.plan_word.specs.Layout.{counts_of, has, zones_end, start_of, width_of}
use Rattle.plan_word.specs.OfPlan.{IsOfPlan}
use Rattle.plan_word.specs.Packed.{zone_code, held, packed}
use Rattle.plan_word.specs.Reading.{told, place_told, state_told}
use Rattle.plan_word.proofs.lemmas.RoundTrip.{told_is_of_plan}
use Rattle.plan_word.proofs.lemmas.Shapes.{bits_at}
use Rattle.plan_word.proofs.lemmas.Soundness.{sound_by, none_second}
use Rattle.plan_compiled.specs.declared.told.Ends.{Ends}
use Rattle.plan_compiled.specs.Alone.{zone_alone}
use Rattle.plan_compiled.specs.Ends.{IsEnd, AreEnds, IsTable, TakenBelow, code_at}
use Rattle.plan_compiled.proofs.PlainPlans.{zone_is}
use Rattle.plan_compiled.proofs.Words.{whole, none_above}

-- ---- one zone more
bit_below : (x q : ℕ) → x / 2 ^ q % 2 < 2
bit_below x q = mod_below (x / 2 ^ q) 2 (omega arith)

apart_at : (a b q : ℕ) → bit_and a b ≡ 0 → bit_and (a / 2 ^ q % 2) (b / 2 ^ q % 2) ≡ 0
apart_at a b q e = sym (ap (λ m. m % 2 ^ 1) (and_shr a b q) ∙ and_mod (a / 2 ^ q) (b / 2 ^ q) 1) ∙ ap (λ n. n / 2 ^ q % 2) e ∙ none q
  where
    none : (q : ℕ) → 0 / 2 ^ q % 2 ≡ 0
    none q = ap (λ n. n % 2) (zero_over (2 ^ q))
      where
        zero_over : (m : ℕ) → 0 / m ≡ 0
        zero_over zero = refl
        zero_over (suc m) = omega arith

both_at : (a b q : ℕ) → bit_and a b ≡ 0 → bit_or a b / 2 ^ q % 2 ≡ a / 2 ^ q % 2 + b / 2 ^ q % 2
both_at a b q e =
    ap (λ m. m % 2 ^ 1) (or_shr a b q) ∙ or_mod (a / 2 ^ q) (b / 2 ^ q) 1
    ∙ or_disjoint (a / 2 ^ q % 2) (b / 2 ^ q % 2) (apart_at a b q e)

only_one : (a b q : ℕ) → bit_and a b ≡ 0 → a / 2 ^ q % 2 ≡ 1 → b / 2 ^ q % 2 ≡ 0
only_one a b q e one =
    let sum = both_at a b q e in
    let below = bit_below (bit_or a b) q in
    omega (arith, sum, below, one)

pub not_barred : (taken end : ℕ) → taken / 2 ^ 31 % 2 ≡ 1 → bit_and taken end ≡ 0 → end / 2 ^ 31 % 2 ≡ 0
not_barred taken end bar apart = only_one taken end 31 apart bar

pub one_more : (t : PlanTable) (w n taken end : ℕ) → IsPlan t → TakenBelow t w n taken → IsEnd t n (code_at t w n) end → bit_and taken end ≡ 0 → TakenBelow t w (n + 1) (bit_or taken end)
one_more t w n taken end p k h apart =
    let free = not_barred taken end k.barred apart in
    record {
      plain = below_more (λ z. IsPlain t) n k.plain (h.plain free);
      barred = let sum = both_at taken end 31 apart in let bar = k.barred in omega (arith, sum, bar, free);
      lawful = below_more (λ z. IsLawfulZone t z (zone_alone t z (code_at t w z))) n k.lawful (h.lawful free);
      back = below_more (λ z. zone_code t z (zone_alone t z (code_at t w z)) ≡ code_at t w z) n k.back (h.back free);
      plates = λ q l.
          let few = p.places_at_most in
          let sum = both_at taken end q apart in
          let comes = h.comes q (omega arith) free in
          let below = k.plates q l in
          let more = sum_below_more (λ z. one_if (is_coming t (zone_alone t z (code_at t w z)) q z)) n in
          omega (arith, sum, comes, below, more);
    }

-- ---- the first bits, and the table
pow_at : (i q : ℕ) → i ≢ q → 2 ^ i / 2 ^ q % 2 ≡ 0
pow_at i q ne =
    elim (cases_lt i q) [
      | inl l ↦ ap (λ n. n % 2) (div-eq_of_lt (pow_below i q l))
      | inr l ↦
          let k = i - q - 1 in
          let split : i ≡ 1 + k + q = omega arith in
          let over : 2 ^ (1 + k + q) / 2 ^ q ≡ 2 ^ (1 + k) = ap (λ n. n / 2 ^ q) (pow-add 2 (1 + k) q) ∙ shl-shr (2 ^ (1 + k)) q in
          let twice : 2 ^ (1 + k) ≡ 2 ^ 1 * 2 ^ k = pow-add 2 1 k in
          let even : 2 ^ (1 + k) % 2 ≡ 0 = omega (arith, twice) in
          ap (λ x. 2 ^ x / 2 ^ q % 2) split ∙ ap (λ n. n % 2) over ∙ even
    ]

pow_same : (q : ℕ) → 2 ^ q / 2 ^ q % 2 ≡ 1
pow_same q =
    let one : 1 * 2 ^ q ≡ 2 ^ q = omega arith in
    ap (λ n. n / 2 ^ q % 2) (sym one) ∙ ap (λ n. n % 2) (shl-shr 1 q)

or_at : (a b q : ℕ) → bit_or a b / 2 ^ q % 2 ≡ bit_or (a / 2 ^ q % 2) (b / 2 ^ q % 2)
or_at a b q = ap (λ m. m % 2 ^ 1) (or_shr a b q) ∙ or_mod (a / 2 ^ q) (b / 2 ^ q) 1

pub none_taken : (t : PlanTable) (w places : ℕ) → IsPlan t → places < 65536 → ((q : ℕ) → q < place_count t → places / 2 ^ q % 2 ≡ one_if (place_told t w q)) → TakenBelow t w 0 (bit_or places (2 ^ 31))
none_taken t w places p small told_so = record {
  plain = λ z l. absurd (omega arith);
  barred =
      let over : places / 2 ^ 31 % 2 ≡ 0 = omega (arith, small) in
      or_at places (2 ^ 31) 31 ∙ ap₂ bit_or over (pow_same 31);
  lawful = λ z l. absurd (omega arith);
  back = λ z l. absurd (omega arith);
  plates = λ q l.
      let few = p.places_at_most in
      let ne : 31 ≢ q = omega arith in
      let low = told_so q l in
      let bit = or_at places (2 ^ 31) q ∙ ap (bit_or (places / 2 ^ q % 2)) (pow_at 31 q ne) ∙ or_comm (places / 2 ^ q % 2) 0 in
      omega (arith, low, bit);
}

-- the end of a code with a plate that comes to a place
pub end_at : (t : PlanTable) (z n to e : ℕ) (way : Transfer) → IsPlain t → IsLawfulZone t z (zone_alone t z n) → zone_code t z (zone_alone t z n) ≡ n → (zone_alone t z n).flag ≡ true → transfer_of t z (zone_alone t z n).posture ≡ Some way → way.to ≡ to → e ≡ 2 ^ to
    → IsEnd t z n e
end_at t z n to e way plain law back flag is to_is e_is = record {
  plain = λ _. plain;
  lawful = λ _. law;
  back = λ _. back;
  comes = λ q l free.
      let comes : is_coming t (zone_alone t z n) q z ≡ nat_eq to q =
      ap₂ (λ f o. f && leads_to o q) flag is ∙ ap (λ x. nat_eq x q) to_is in
      ap (λ x. x / 2 ^ q % 2) e_is ∙ bit_of to q ∙ sym (ap one_if comes);
}
  where
    bit_of : (i q : ℕ) → 2 ^ i / 2 ^ q % 2 ≡ one_if (nat_eq i q)
    bit_of i q =
        elim (same_or_not i q) [
          | inl same ↦ ap (λ x. 2 ^ x / 2 ^ q % 2) same ∙ pow_same q ∙ sym (ap one_if (ap (λ x. nat_eq x q) same ∙ nat_eq-self q))
          | inr ne ↦ pow_at i q ne ∙ sym (ap one_if (nat_eq-apart i q ne))
        ]

abbrev pub HasEnds : PlanTable → ℕ → Ends → Type 0
HasEnds t z x = AreEnds t z x.ends × (x.bits ≤ 5) × (IsPlain t → x.bits ≡ bits_at t z)

abbrev pub AreEndsBelow : PlanTable → ℕ → List Ends → Type 0
AreEndsBelow t n xs = (z : ℕ) (d : Ends) → z < n → HasEnds t z (get_or xs z d)

pub table_with : (t : PlanTable) (n k : ℕ) (xs : List Ends) (x : Ends) → k ≡ n → n < length xs → AreEndsBelow t n xs → HasEnds t n x → AreEndsBelow t (n + 1) (set xs k x)
table_with t n k xs x is there below h =
    subst (λ i. AreEndsBelow t (n + 1) (set xs i x)) (sym is)
    (λ z d l. below_more (λ y. HasEnds t y (get_or (set xs n x) y d)) n
    (λ y m. let ne : y ≢ n = omega arith in subst (HasEnds t y) (sym (get_or-set_other xs n y x d ne)) (below y d m))
    (subst (HasEnds t n) (sym (get_or-set_same xs n x d there)) h) z l)

-- a table that bars each code
abbrev pub barred : Ends
barred = record { bits = 0; ends = replicate 32 (2 ^ 31) }

barred_ends : (t : PlanTable) (z : ℕ) → (IsPlain t → ⊥) → HasEnds t z barred
barred_ends t z joined = (λ n l. no_end n (get_or barred.ends n 0) (get_or-replicate 32 n (2 ^ 31) 0 l), omega arith, λ plain. absurd (joined plain))
  where
    is_set : (e : ℕ) → e ≡ 2 ^ 31 → e / 2 ^ 31 % 2 ≡ 0 → ⊥
    is_set e is free = let one : 2 ^ 31 / 2 ^ 31 % 2 ≡ 0 = ap (λ x. x / 2 ^ 31 % 2) (sym is) ∙ free in absurd (omega (arith, one))

    no_end : (n e : ℕ) → e ≡ 2 ^ 31 → IsEnd t z n e
    no_end n e is = record {
      plain = λ free. absurd (is_set e is free);
      lawful = λ free. absurd (is_set e is free);
      back = λ free. absurd (is_set e is free);
      comes = λ q l free. absurd (is_set e is free);
    }

pub barred_table : (t : PlanTable) → (IsPlain t → ⊥) → zone_count t ≤ 10 → IsTable t (zone_count t) (replicate 10 barred)
barred_table t joined few =
    let at : AreEndsBelow t (zone_count t) (replicate 10 barred) = λ z d l.
    let ten : z < 10 = omega (arith, l, few) in subst (HasEnds t z) (sym (get_or-replicate 10 z barred d ten)) (barred_ends t z joined) in
    record {
      zones = few;
      ends = λ z d l. (at z d l).0;
      few = λ z d l. (at z d l).1;
      bits = λ z d l. (at z d l).2;
    }

-- ---- bits
bit_back : (n : ℕ) → n < 2 → n ≡ one_if (nat_eq n 1)
bit_back zero l = refl
bit_back (suc zero) l = refl
bit_back (suc (suc n)) l = absurd (omega arith)

-- ---- the state that a word tells
place_is : (t : PlanTable) (w q : ℕ) → q < 16 → is_full (state_told t w) q ≡ place_told t w q
unfolding state_told
place_is t w q l = get_or-map-range_with_len (place_told t w) 0 16 q q false l (omega arith)

each : (t : PlanTable) (w taken : ℕ) → IsPlan t → TakenBelow t w (zone_count t) taken → (f : Field) → IsTrue (has (counts_of t) f) → told (counts_of t) w f ≡ held t (state_told t w) f
unfolding state_told
each t w taken p k (Zone z) h =
    let l = ltb-true z (zone_count t) h in
    sym (ap (zone_code t z) (zone_is t w z p (k.plain z l) l) ∙ k.back z l)
each t w taken p k (Place q) h =
    let l = ltb-true q (place_count t) h in
    let few = p.places_at_most in
    let n = told (counts_of t) w (Place q) in
    bit_back n (bit_below w (start_of (counts_of t) (Place q)))
    ∙ sym (ap (λ b. one_if (b && nat_eq n 1)) h)
    ∙ sym (ap one_if (place_is t w q (omega arith)))
each t w taken p k Stamp h = refl
each t w taken p k Stop h = bit_back (told (counts_of t) w Stop) (bit_below w (start_of (counts_of t) Stop))

plates_few : (t : PlanTable) (w taken q : ℕ) → IsPlan t → TakenBelow t w (zone_count t) taken → q < place_count t → plates_for t (state_told t w) q ≤ 1
plates_few t w taken q p k l =
    let few = p.places_at_most in
    let s = state_told t w in
    let full : one_if (is_full s q) ≡ one_if (place_told t w q) = ap one_if (place_is t w q (omega arith)) in
    let same : coming t s q ≡ sum_below (λ z. one_if (is_coming t (zone_alone t z (code_at t w z)) q z)) (zone_count t) =
    sum_below_same (λ z. one_if (is_coming t (zone_alone t z (code_at t w z)) q z)) (λ z. one_if (is_coming t (zone_at s z) q z)) (zone_count t)
    (λ z m. ap (λ (v : ZoneState). one_if (is_coming t v q z)) (zone_is t w z p (k.plain z m) m)) in
    let sum = k.plates q l in
    let below = bit_below taken q in
    omega (arith, full, same, sum, below)

-- a zone is its own space
of_space : (t : PlanTable) (s : State) (z : ℕ) → IsPlain t → IsOfSpace t s z
of_space t s z plain =
    let first = sym (first_alone t z (plain z)) in
    record { owner = ap (owner_of s) first; motion = ap (λ x. same_posture (posture_at s x) Moving) first }

pub told_state : (t : PlanTable) (w taken : ℕ) → IsPlan t → w < 2 ^ width_of (counts_of t) → TakenBelow t w (zone_count t) taken → (s : State) × IsOfPlan t s × (packed t s ≡ w)
unfolding state_told
told_state t w taken p small k =
    let s = state_told t w in
    let stamp : s.stamp < 1048576 = mod_below (w / 2 ^ start_of (counts_of t) Stamp) 1048576 (omega arith) in
    let sound = sound_by t s p refl refl (omega arith)
    (λ z l. subst (IsLawfulZone t z) (sym (zone_is t w z p (k.plain z l) l)) (k.lawful z l))
    (λ z l. of_space t s z (k.plain z l))
    (none_second t s (λ y z ly lz same _ _. sym (first_alone t y (k.plain y ly y)) ∙ same ∙ first_alone t z (k.plain z lz z)))
    (λ q l. plates_few t w taken q p k l) in
    (s, told_is_of_plan t w p sound, whole t s w small (each t w taken p k))

-- the bits above the zones are those of the places
pub place_bits : (t : PlanTable) (w bit q : ℕ) → bit ≡ zones_end (counts_of t) (zone_count t) → IsPlan t → q < place_count t → w / 2 ^ bit % 65536 / 2 ^ q % 2 ≡ one_if (place_told t w q)
place_bits t w bit q is p l =
    let few = p.places_at_most in
    let m = 15 - q in
    let x = w / 2 ^ bit in
    let y = x / 2 ^ q in
    let n = told (counts_of t) w (Place q) in
    let all : 16 ≡ m + 1 + q = omega arith in
    let field : x % 2 ^ (m + 1 + q) / 2 ^ q ≡ y % 2 ^ (m + 1) = field_of x (m + 1) q in
    let low : y % 2 ^ (m + 1) ≡ (y / 2 ^ 1 % 2 ^ m) * 2 ^ 1 + y % 2 ^ 1 = mod-pow-add y m 1 in
    let same : y % 2 ^ (m + 1) % 2 ≡ y % 2 = omega (arith, low) in
    let told_is : y % 2 ≡ n = ap (λ v. v % 2) (shr-shr w bit q) ∙ ap (λ b. w / 2 ^ (b + q) % 2) is in
    ap (λ k. x % 2 ^ k / 2 ^ q % 2) all ∙ ap (λ v. v % 2) field ∙ same ∙ told_is
    ∙ bit_back n (bit_below w (start_of (counts_of t) (Place q)))
    ∙ sym (ap (λ b. one_if (b && nat_eq n 1)) (lt-ltb q (place_count t) l))

pub told_by : (t : PlanTable) (w bit : ℕ) → IsPlan t → bit ≡ start_of (counts_of t) Stamp → w / 2 ^ bit / 2 ^ 21 ≡ 0 → (taken : ℕ) × TakenBelow t w (zone_count t) taken → (s : State) × IsOfPlan t s × (packed t s ≡ w)
told_by t w bit p is none found =
    let above : w / 2 ^ (bit + 21) ≡ 0 = sym (shr-shr w bit 21) ∙ none in
    let width : bit + 21 ≡ width_of (counts_of t) = omega (arith, is) in
    told_state t w found.0 p (subst (λ k. w < 2 ^ k) width (none_above w (bit + 21) above)) found.1
