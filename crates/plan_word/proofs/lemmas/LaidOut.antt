-- Each number of a state reads back from its field.
use Rattle.std.proofs.Common.{◌≡◌, ℕ, ◌+◌, ◌*◌, ◌/◌, ◌%◌, ◌<◌, ◌≤◌, ◌^◌, Bool, true, false, ◌&&◌, if◌then◌else◌, refl, sym, ap, ◌∙◌, subst, arith, ltb-true, IsTrue}
use Rattle.std.proofs.lemmas.Nat.{pow-add}
use Rattle.plan_types.specs.declared.posture.Posture.{Posture}
use Rattle.plan_types.specs.declared.posture.Posture.TheVariants.{Closed, Moving, OpenIn, OpenOut}
use Rattle.plan_types.specs.declared.shape.Postures.{Postures}
use Rattle.plan_types.specs.declared.shape.Postures.TheVariants.{Shut, Two, All}
use Rattle.plan_types.specs.declared.shape.ZoneShape.{ZoneShape}
use Rattle.plan_types.specs.Same.{same_posture}
use Rattle.plan_types.specs.Table.{postures_of, PlanTable, zone_count, place_count, owner_bits, flag_bits, posture_bits, shape_bits, zone_shape}
use Rattle.plan_rules.specs.declared.state.ZoneState.{ZoneState}
use Rattle.plan_rules.specs.declared.state.State.{State}
use Rattle.plan_rules.specs.State.{zone_at, is_full, one_if}
use Rattle.plan_word.specs.declared.layout.Field.{Field}
use Rattle.plan_word.specs.declared.layout.Field.TheVariants.{Zone, Place, Stamp, Stop}
use Rattle.plan_word.specs.Layout.{counts_of, has, bits_of, width_of}
use Rattle.plan_word.specs.OfPlan.{IsOfPlan}
use Rattle.plan_word.specs.Packed.{owner_part, owner_values, posture_code, code_of, flag_values, rest_in, code_in, zone_code, held, zone_parts, place_parts, packed}
use Rattle.plan_word.specs.Reading.{told}
use Rattle.plan_word.specs.Laws.{IsLaidOut}
use Rattle.plan_word.proofs.lemmas.Guests.{owner_part_fits}
use Rattle.plan_word.proofs.lemmas.Shapes.{bits_at, ends, places_bit, bits_are}
use Rattle.plan_word.proofs.lemmas.Fields.{row, row_below, row_back, row_above, next_bound, back}

-- ---- each number fits
pub flag_fits : (b : Bool) → one_if b < 2
flag_fits true = omega arith
flag_fits false = omega arith

pub posture_fits : (p : Posture) → posture_code p < 4
posture_fits Closed = omega arith
posture_fits Moving = omega arith
posture_fits OpenIn = omega arith
posture_fits OpenOut = omega arith

pub flag_in_field : (flag b : Bool) → one_if (flag && b) < flag_values flag
flag_in_field true b = flag_fits b
flag_in_field false b = omega arith

two_codes : (q : Posture) → (if same_posture q Closed then 0 else 1) < 2
two_codes Closed = omega arith
two_codes Moving = omega arith
two_codes OpenIn = omega arith
two_codes OpenOut = omega arith

pub posture_in_field : (p : Postures) (q : Posture) → code_of p q < 2 ^ posture_bits p
posture_in_field Shut q = omega arith
posture_in_field (Two other) q = two_codes q
posture_in_field All q = posture_fits q

-- the flag and the posture above the owner
rest_by : (flag : Bool) (p : Postures) (f q : ℕ) → f < flag_values flag → q < 2 ^ posture_bits p → f + flag_values flag * q < 2 ^ (flag_bits flag + posture_bits p)
rest_by true Shut f q a b = omega (arith, a, b)
rest_by true (Two other) f q a b = omega (arith, a, b)
rest_by true All f q a b = omega (arith, a, b)
rest_by false Shut f q a b = omega (arith, a, b)
rest_by false (Two other) f q a b = omega (arith, a, b)
rest_by false All f q a b = omega (arith, a, b)

pub rest_fits : (s : ZoneShape) (v : ZoneState) → rest_in s v < 2 ^ (flag_bits s.flag + posture_bits (postures_of s))
rest_fits s v =
    rest_by s.flag (postures_of s) (one_if (s.flag && v.flag)) (code_of (postures_of s) v.posture) (flag_in_field s.flag v.flag) (posture_in_field (postures_of s) v.posture)

pub code_fits : (s : ZoneShape) (o : ℕ) (v : ZoneState) → o < owner_values s → code_in s o v < 2 ^ shape_bits s
code_fits s o v a =
    let above = flag_bits s.flag + posture_bits (postures_of s) in
    let fits : o + rest_in s v * owner_values s < 2 ^ (owner_bits s.guests + above) = next_bound o (rest_in s v) (owner_bits s.guests) above a (rest_fits s v) in
    let bits : owner_bits s.guests + above ≡ shape_bits s = omega arith in
    subst (λ n. code_in s o v < 2 ^ n) bits (omega (arith, fits))

pub zone_in_field : (t : PlanTable) (z : ℕ) (v : ZoneState) → zone_code t z v < 2 ^ bits_at t z
zone_in_field t z v =
    subst (λ k. zone_code t z v < 2 ^ k) (sym (bits_are t z)) (code_fits (zone_shape t z) (owner_part t z v.owner) v (owner_part_fits t z v.owner))

pub held_fits : (t : PlanTable) (s : State) → s.stamp ≤ 1048575 → (f : Field) → held t s f < 2 ^ bits_of (counts_of t) f
held_fits t s small (Zone z) = zone_in_field t z (zone_at s z)
held_fits t s small (Place p) = flag_fits (is_full s p)
held_fits t s small Stamp = omega arith
held_fits t s small Stop = flag_fits s.stopped

-- ---- the lower part of a word stays below the next field
pub zones_below : (t : PlanTable) (s : State) (n : ℕ) → zone_parts t s n < 2 ^ ends t n
zones_below t s n =
    let h : 0 + row (λ z. held t s (Zone z)) (ends t) n < 2 ^ ends t n = row_below (λ z. held t s (Zone z)) (ends t) (bits_at t) 0 n (λ i. refl) (λ i l. zone_in_field t i (zone_at s i)) (omega arith) in
    omega (arith, h)

pub places_below : (t : PlanTable) (s : State) (n : ℕ) → zone_parts t s (zone_count t) + place_parts t s n < 2 ^ (places_bit t + n)
places_below t s n =
    let base : places_bit t ≡ places_bit t + 0 = omega arith in
    row_below (λ p. held t s (Place p)) (λ p. places_bit t + p) (λ p. 1) (zone_parts t s (zone_count t)) n (λ i. omega arith) (λ i l. flag_fits (is_full s i))
    (subst (λ k. zone_parts t s (zone_count t) < 2 ^ k) base (zones_below t s (zone_count t)))

abbrev pub low_parts : PlanTable → State → ℕ
low_parts t s = zone_parts t s (zone_count t) + place_parts t s (place_count t)

abbrev pub stamp_bit : PlanTable → ℕ
stamp_bit t = places_bit t + place_count t

stamp_below : (t : PlanTable) (s : State) → s.stamp ≤ 1048575 → low_parts t s + s.stamp * 2 ^ stamp_bit t < 2 ^ (stamp_bit t + 20)
stamp_below t s small = next_bound (low_parts t s) s.stamp (stamp_bit t) 20 (places_below t s (place_count t)) (omega arith)

word_below : (t : PlanTable) (s : State) → s.stamp ≤ 1048575 → packed t s < 2 ^ width_of (counts_of t)
unfolding packed
word_below t s small =
    let more = next_bound (low_parts t s + s.stamp * 2 ^ stamp_bit t) (one_if s.stopped) (stamp_bit t + 20) 1 (stamp_below t s small) (flag_fits s.stopped) in
    let end : stamp_bit t + 20 + 1 ≡ stamp_bit t + 21 = omega arith in
    subst (λ k. packed t s < 2 ^ k) end more

-- ---- each number reads back
stacked : (z p u v b n k : ℕ) → z + p * 2 ^ b + u * 2 ^ (b + n) + v * 2 ^ (b + n + k) ≡ z + (p + u * 2 ^ n + v * 2 ^ (n + k)) * 2 ^ b
stacked z p u v b n k =
    let one : 2 ^ (b + n) ≡ 2 ^ b * 2 ^ n = pow-add 2 b n in
    let sum : b + n + k ≡ b + (n + k) = omega arith in
    let two : 2 ^ (b + n + k) ≡ 2 ^ b * 2 ^ (n + k) = ap (λ e. 2 ^ e) sum ∙ pow-add 2 b (n + k) in
    rw (one, two) (omega arith)

zone_back : (t : PlanTable) (s : State) (z : ℕ) → z < zone_count t → told (counts_of t) (packed t s) (Zone z) ≡ held t s (Zone z)
unfolding packed
zone_back t s z l =
    let n = zone_count t in
    let m = place_count t in
    let b = places_bit t in
    let bits : ℕ → ℕ = λ p. held t s (Place p) in
    let upper : ℕ = row bits (λ p. p) m + s.stamp * 2 ^ m + one_if s.stopped * 2 ^ (m + 20) in
    let places : place_parts t s m ≡ row bits (λ p. p) m * 2 ^ b = row_above bits b m in
    let whole : packed t s ≡ zone_parts t s n + upper * 2 ^ b =
    ap (λ k. zone_parts t s n + k + s.stamp * 2 ^ (b + m) + one_if s.stopped * 2 ^ (b + m + 20)) places
    ∙ stacked (zone_parts t s n) (row bits (λ p. p) m) s.stamp (one_if s.stopped) b m 20 in
    let same : zone_parts t s n + upper * 2 ^ b ≡ 0 + zone_parts t s n + upper * 2 ^ b = omega arith in
    ap (λ w. w / 2 ^ ends t z % 2 ^ bits_at t z) (whole ∙ same)
    ∙ row_back (λ z. held t s (Zone z)) (ends t) (bits_at t) 0 upper n z l (λ i. refl) (λ i m. zone_in_field t i (zone_at s i)) (omega arith)

above_places : (l u v a : ℕ) → l + u * 2 ^ a + v * 2 ^ (a + 20) ≡ l + (v * 2 ^ 20 + u) * 2 ^ a
above_places l u v a = rw (pow-add 2 a 20) (omega arith)

place_back : (t : PlanTable) (s : State) (p : ℕ) → p < place_count t → told (counts_of t) (packed t s) (Place p) ≡ held t s (Place p)
unfolding packed
place_back t s p l =
    let n = zone_count t in
    let b = places_bit t in
    let upper : ℕ = one_if s.stopped * 2 ^ 20 + s.stamp in
    let base : b ≡ b + 0 = omega arith in
    ap (λ w. w / 2 ^ (b + p) % 2 ^ 1) (above_places (low_parts t s) s.stamp (one_if s.stopped) (stamp_bit t))
    ∙ row_back (λ p. held t s (Place p)) (λ p. b + p) (λ p. 1) (zone_parts t s n) upper (place_count t) p l (λ i. omega arith) (λ i m. flag_fits (is_full s i))
    (subst (λ k. zone_parts t s n < 2 ^ k) base (zones_below t s n))

stamp_back : (t : PlanTable) (s : State) → s.stamp ≤ 1048575 → told (counts_of t) (packed t s) Stamp ≡ s.stamp
unfolding packed
stamp_back t s small =
    ap (λ w. w / 2 ^ stamp_bit t % 2 ^ 20) (above_places (low_parts t s) s.stamp (one_if s.stopped) (stamp_bit t))
    ∙ back (stamp_bit t) 20 (low_parts t s) s.stamp (one_if s.stopped) (places_below t s (place_count t)) (omega arith)

stop_back : (t : PlanTable) (s : State) → s.stamp ≤ 1048575 → told (counts_of t) (packed t s) Stop ≡ one_if s.stopped
unfolding packed
stop_back t s small =
    let low = low_parts t s + s.stamp * 2 ^ stamp_bit t in
    let top : low + one_if s.stopped * 2 ^ (stamp_bit t + 20) ≡ low + (0 * 2 ^ 1 + one_if s.stopped) * 2 ^ (stamp_bit t + 20) = omega arith in
    ap (λ w. w / 2 ^ (stamp_bit t + 20) % 2 ^ 1) top
    ∙ back (stamp_bit t + 20) 1 low (one_if s.stopped) 0 (stamp_below t s small) (flag_fits s.stopped)

pub held_back : (t : PlanTable) (s : State) → s.stamp ≤ 1048575 → (f : Field) → IsTrue (has (counts_of t) f) → told (counts_of t) (packed t s) f ≡ held t s f
held_back t s small (Zone z) there = zone_back t s z (ltb-true z (zone_count t) there)
held_back t s small (Place p) there = place_back t s p (ltb-true p (place_count t) there)
held_back t s small Stamp there = stamp_back t s small
held_back t s small Stop there = stop_back t s small

pub laid_out : (t : PlanTable) (s : State) → IsOfPlan t s → IsLaidOut t s
laid_out t s k =
    let small = k.sound.stamp_in_range in
    record {
      fits = λ f there. held_fits t s small f;
      reads_back = held_back t s small;
      bound = word_below t s small;
    }
