-- What a row says of a word, field by field; and a word that is known by its fields.
use Rattle.std.proofs.Common.{◌≡◌, ℕ, zero, suc, ◌+◌, ◌-◌, ◌*◌, ◌/◌, ◌%◌, ◌<◌, ◌≤◌, ◌^◌, true, nat_eq, IsTrue, refl, sym, ap, ◌∙◌, subst, arith, eq-eqb, mod-eq_of_lt}
use Rattle.std.specs.Prelude.{bit_and, bit_or}
use Rattle.std.proofs.Math.Nat.{add-mul}
use Rattle.std.proofs.lemmas.Bool.{eqb-true, lt-ltb}
use Rattle.std.proofs.lemmas.Nat.{and_shr, and_mod, or_shr, or_mod, shr-shr, mod-pow-add, div-add-mod', mod_below, pow_pos}
use Rattle.plan_types.specs.Table.{PlanTable, zone_count, place_count}
use Rattle.plan_rules.specs.declared.state.State.{State}
use Rattle.plan_rules.specs.State.{one_if}
use Rattle.plan_word.specs.declared.layout.Field.{Field}
use Rattle.plan_word.specs.declared.layout.Field.TheVariants.{Zone, Place, Stamp, Stop}
use Rattle.plan_word.specs.Layout.{Counts, counts_of, has, bits_of, start_of, width_of}
use Rattle.plan_word.specs.Packed.{held, zone_parts, place_parts, packed}
use Rattle.plan_word.specs.Reading.{told}
use Rattle.plan_word.proofs.lemmas.Fields.{row}
use Rattle.plan_word.proofs.lemmas.Shapes.{bits_at, ends, places_bit}
use Rattle.plan_compiled.specs.declared.part.Part.{Part}
use Rattle.plan_compiled.specs.Rows.{matches, written, part_in}

pub told_and : (c : Counts) (a b : ℕ) (f : Field) → told c (bit_and a b) f ≡ bit_and (told c a f) (told c b f)
told_and c a b f = ap (λ m. m % 2 ^ bits_of c f) (and_shr a b (start_of c f)) ∙ and_mod (a / 2 ^ start_of c f) (b / 2 ^ start_of c f) (bits_of c f)

told_or : (c : Counts) (a b : ℕ) (f : Field) → told c (bit_or a b) f ≡ bit_or (told c a f) (told c b f)
told_or c a b f = ap (λ m. m % 2 ^ bits_of c f) (or_shr a b (start_of c f)) ∙ or_mod (a / 2 ^ start_of c f) (b / 2 ^ start_of c f) (bits_of c f)

pub told_written : (c : Counts) (p : Part) (w : ℕ) (f : Field) → told c (written p w) f ≡ written (part_in c p f) (told c w f)
told_written c p w f = told_or c (bit_and w p.keep) p.set f ∙ ap (λ n. bit_or n (told c p.set f)) (told_and c w p.keep f)

pub told_matches : (c : Counts) (p : Part) (w : ℕ) (f : Field) → matches p w ≡ true → matches (part_in c p f) (told c w f) ≡ true
told_matches c p w f e =
    let same : bit_and w p.mask ≡ p.wanted = eqb-true (bit_and w p.mask) p.wanted e in
    eq-eqb (bit_and (told c w f) (told c p.mask f)) (told c p.wanted f) (sym (told_and c w p.mask f) ∙ ap (λ n. told c n f) same)

pub none_above : (n k : ℕ) → n / 2 ^ k ≡ 0 → n < 2 ^ k
none_above n k e =
    let parts = div-add-mod' n (2 ^ k) in
    let none : n / 2 ^ k * 2 ^ k ≡ 0 * 2 ^ k = ap (λ q. q * 2 ^ k) e in
    let rest = mod_below n (2 ^ k) (pow_pos k) in
    omega (arith, parts, none, rest)

-- no bit is set above a width
pub within_width : (n r width : ℕ) → r ≡ width → 21 ≤ width → nat_eq (n / 2 ^ (r - 1) / 2) 0 ≡ true → n < 2 ^ width
within_width n r width is wide e =
    let all : r - 1 + 1 ≡ width = omega arith in
    let none : n / 2 ^ (r - 1) / 2 ^ 1 ≡ 0 = eqb-true (n / 2 ^ (r - 1) / 2) 0 e in
    let none_of : n / 2 ^ (r - 1 + 1) ≡ 0 = sym (shr-shr n (r - 1) 1) ∙ none in
    subst (λ k. n < 2 ^ k) all (none_above n (r - 1 + 1) none_of)

-- the fields of a row are what a word has below the next one
row_rest : (value start width : ℕ → ℕ) (w n : ℕ) → ((i : ℕ) → start (suc i) ≡ width i + start i) → ((i : ℕ) → i < n → w / 2 ^ start i % 2 ^ width i ≡ value i)
    → w % 2 ^ start 0 + row value start n ≡ w % 2 ^ start n
row_rest value start width w zero steps each = omega arith
row_rest value start width w (suc n) steps each =
    let k = width n in
    let rest = row_rest value start width w n steps (λ i l. each i (omega arith)) in
    let here : (w / 2 ^ start n % 2 ^ k) * 2 ^ start n ≡ value n * 2 ^ start n = ap (λ v. v * 2 ^ start n) (each n (omega arith)) in
    let more : w % 2 ^ (k + start n) ≡ (w / 2 ^ start n % 2 ^ k) * 2 ^ start n + w % 2 ^ start n = mod-pow-add w k (start n) in
    subst (λ e. w % 2 ^ start 0 + (row value start n + value n * 2 ^ start n) ≡ w % 2 ^ e) (sym (steps n)) (omega (arith, rest, here, more))

-- a word within the width whose fields hold the numbers of a state is its word
pub whole : (t : PlanTable) (s : State) (w : ℕ) → w < 2 ^ width_of (counts_of t) → ((f : Field) → IsTrue (has (counts_of t) f) → told (counts_of t) w f ≡ held t s f) → packed t s ≡ w
unfolding packed
whole t s w small each =
    let n = zone_count t in
    let m = place_count t in
    let a = places_bit t in
    let b = a + m in
    let zones : w % 2 ^ 0 + zone_parts t s n ≡ w % 2 ^ a = row_rest (λ z. held t s (Zone z)) (ends t) (bits_at t) w n (λ i. omega arith) (λ i l. each (Zone i) (lt-ltb i n l)) in
    let places : w % 2 ^ (a + 0) + place_parts t s m ≡ w % 2 ^ (a + m) = row_rest (λ p. held t s (Place p)) (λ p. a + p) (λ p. 1) w m (λ i. omega arith) (λ i l. each (Place i) (lt-ltb i m l)) in
    let none : w % 2 ^ 0 ≡ 0 = omega arith in
    let base : w % 2 ^ (a + 0) ≡ w % 2 ^ a = ap (λ e. w % 2 ^ e) (let e : a + 0 ≡ a = omega arith in e) in
    let stamp : w % 2 ^ (20 + b) ≡ (w / 2 ^ b % 2 ^ 20) * 2 ^ b + w % 2 ^ b = mod-pow-add w 20 b in
    let stamp_is : (w / 2 ^ b % 2 ^ 20) * 2 ^ b ≡ s.stamp * 2 ^ b = ap (λ v. v * 2 ^ b) (each Stamp refl) in
    let turned : w % 2 ^ (b + 20) ≡ w % 2 ^ (20 + b) = ap (λ e. w % 2 ^ e) (let e : b + 20 ≡ 20 + b = omega arith in e) in
    let stop : w % 2 ^ (1 + (b + 20)) ≡ (w / 2 ^ (b + 20) % 2 ^ 1) * 2 ^ (b + 20) + w % 2 ^ (b + 20) = mod-pow-add w 1 (b + 20) in
    let stop_is : (w / 2 ^ (b + 20) % 2 ^ 1) * 2 ^ (b + 20) ≡ one_if s.stopped * 2 ^ (b + 20) = ap (λ v. v * 2 ^ (b + 20)) (each Stop refl) in
    let width : b + 21 ≡ 1 + (b + 20) = omega arith in
    let top : w % 2 ^ (1 + (b + 20)) ≡ w = mod-eq_of_lt (subst (λ e. w < 2 ^ e) width small) in
    omega (arith, zones, places, none, base, stamp, stamp_is, turned, stop, stop_is, top)

added : (z p n b r : ℕ) → z + p + (n + 1) * b + r ≡ z + p + n * b + r + b
added z p n b r = omega (arith, add-mul n 1 b)

-- the next stamp
pub stamp_up : (t : PlanTable) (s : State) (n : ℕ) → packed t (record s { stamp = n + 1 }) ≡ packed t (record s { stamp = n }) + 2 ^ start_of (counts_of t) Stamp
unfolding packed
stamp_up t s n =
    added (zone_parts t s (zone_count t)) (place_parts t s (place_count t)) n (2 ^ start_of (counts_of t) Stamp) (one_if s.stopped * 2 ^ start_of (counts_of t) Stop)
