-- Rows that are left along the fields of a word.
use Rattle.std.proofs.Common.{◌≡◌, ◌≢◌, ℕ, zero, suc, ◌+◌, ◌*◌, ◌/◌, ◌%◌, ◌<◌, ◌≤◌, ◌^◌, inl, inr, Bool, true, false, IsTrue, List, get_or, refl, sym, ap, ◌∙◌, subst, ltb-true, arith, eq-eqb, mod-eq_of_lt, below_more}
use Rattle.std.specs.Prelude.{bit_and}
use Rattle.std.proofs.lemmas.Bool.{eqb-true, lt-ltb}
use Rattle.std.proofs.lemmas.Nat.{and_shr, and_mod, and_le_l, and_le_r, and_comm, mod-pow-add, mod_below, shr-shr}
use Rattle.plan_types.specs.Table.{PlanTable, zone_count, place_count, shape_bits}
use Rattle.plan_rules.specs.declared.state.State.{State}
use Rattle.plan_rules.specs.State.{zone_at, is_full, one_if}
use Rattle.plan_rules.specs.Sound.{IsLawfulZone}
use Rattle.plan_rules.specs.PlainLaws.{IsPlain}
use Rattle.plan_rules.proofs.lemmas.Puts.{same_or_not}
use Rattle.plan_word.specs.declared.layout.Field.{Field}
use Rattle.plan_word.specs.declared.layout.Field.TheVariants.{Zone, Place, Stamp, Stop}
use Rattle.plan_word.specs.Layout.{Counts, counts_of, shape_at, has, zones_end, width_of}
use Rattle.plan_word.specs.OfPlan.{IsOfPlan}
use Rattle.plan_word.specs.Packed.{zone_code, held, packed}
use Rattle.plan_word.specs.Reading.{told}
use Rattle.plan_word.proofs.lemmas.LaidOut.{held_back, laid_out}
use Rattle.plan_compiled.specs.declared.covering.Span.{Span}
use Rattle.plan_compiled.specs.declared.part.Part.{Part}
use Rattle.plan_compiled.specs.declared.right.Asked.{Asked}
use Rattle.plan_compiled.specs.Row.{Row}
use Rattle.plan_compiled.specs.Alone.{zone_alone}
use Rattle.plan_compiled.specs.Needs as needs
use Rattle.plan_compiled.specs.Needs.{Fits}
use Rattle.plan_compiled.specs.Rows.{matches, part_in}
use Rattle.plan_compiled.specs.Complete.{row_at, FitsNumber, MatchesAt, HasBit, HasSet, Narrows, LooksAtFields, LookAtFields, LeavesRows, Steps, Covers}
use Rattle.plan_compiled.proofs.PlainPlans.{alone_back, code_below}
use Rattle.plan_compiled.proofs.Words.{told_and}

-- ---- bits of sets
one_of : (a b : ℕ) → a < 2 → bit_and a b ≡ 1 → a ≡ 1
one_of a b l e = let least = and_le_l a b in omega (arith, least, e)

bit_of_and : (a b k : ℕ) → bit_and a b / 2 ^ k % 2 ≡ bit_and (a / 2 ^ k % 2) (b / 2 ^ k % 2)
bit_of_and a b k = ap (λ n. n % 2 ^ 1) (and_shr a b k) ∙ and_mod (a / 2 ^ k) (b / 2 ^ k) 1

pub bits_of_both : (a b k : ℕ) → HasBit (bit_and a b) k → HasBit a k × HasBit b k
bits_of_both a b k e =
    let x = a / 2 ^ k % 2 in
    let y = b / 2 ^ k % 2 in
    let all : bit_and x y ≡ 1 = sym (bit_of_and a b k) ∙ e in
    (one_of x y (mod_below (a / 2 ^ k) 2 (omega arith)) all, one_of y x (mod_below (b / 2 ^ k) 2 (omega arith)) (and_comm y x ∙ all))

odd_or_even : (x : ℕ) → x % 2 ≢ 1 → x % 2 ≡ 0
odd_or_even x ne = let l = mod_below x 2 (omega arith) in omega (arith, l, ne)

pub some_bit : (n x : ℕ) → x < 2 ^ n → x ≢ 0 → (k : ℕ) × (k < n) × HasBit x k
some_bit zero x l ne = absurd (omega (arith, ne))
some_bit (suc n) x l ne =
    elim (same_or_not (x % 2) 1) [
      | inl odd ↦ (0, omega arith, let same : x / 2 ^ 0 ≡ x = omega arith in ap (λ y. y % 2) same ∙ odd)
      | inr even ↦
          let none = odd_or_even x even in
          let half : x / 2 < 2 ^ n = omega (arith, l) in
          let more : x / 2 ≢ 0 = omega (arith, none, ne) in
          let rest = some_bit n (x / 2) half more in
          let k = rest.0 in
          let next : suc k ≡ 1 + k = omega arith in
          let here : x / 2 ^ suc k ≡ x / 2 / 2 ^ k = ap (λ j. x / 2 ^ j) next ∙ sym (shr-shr x 1 k) in
          (suc k, omega (arith, rest.1), ap (λ y. y % 2) here ∙ rest.2)
    ]

-- ---- a word by its fields
peel : (a b s k : ℕ) → a % 2 ^ s ≡ b % 2 ^ s → a / 2 ^ s % 2 ^ k ≡ b / 2 ^ s % 2 ^ k → a % 2 ^ (s + k) ≡ b % 2 ^ (s + k)
peel a b s k low high =
    let of_a : a % 2 ^ (k + s) ≡ (a / 2 ^ s % 2 ^ k) * 2 ^ s + a % 2 ^ s = mod-pow-add a k s in
    let of_b : b % 2 ^ (k + s) ≡ (b / 2 ^ s % 2 ^ k) * 2 ^ s + b % 2 ^ s = mod-pow-add b k s in
    let up : (a / 2 ^ s % 2 ^ k) * 2 ^ s ≡ (b / 2 ^ s % 2 ^ k) * 2 ^ s = ap (λ v. v * 2 ^ s) high in
    let turned : k + s ≡ s + k = omega arith in
    subst (λ e. a % 2 ^ e ≡ b % 2 ^ e) turned (omega (arith, of_a, of_b, up, low))

zones_same : (c : Counts) (a b n : ℕ) → n ≤ c.zones → ((f : Field) → IsTrue (has c f) → told c a f ≡ told c b f) → a % 2 ^ zones_end c n ≡ b % 2 ^ zones_end c n
zones_same c a b zero l each = omega arith
zones_same c a b (suc n) l each =
    let rest = zones_same c a b n (omega arith) each in
    peel a b (zones_end c n) (shape_bits (shape_at c n)) rest (each (Zone n) (lt-ltb n c.zones (omega arith)))

places_same : (c : Counts) (a b n : ℕ) → n ≤ c.places → ((f : Field) → IsTrue (has c f) → told c a f ≡ told c b f) → a % 2 ^ (zones_end c c.zones + n) ≡ b % 2 ^ (zones_end c c.zones + n)
places_same c a b zero l each =
    let end = zones_end c c.zones in
    let base : end ≡ end + 0 = omega arith in
    subst (λ e. a % 2 ^ e ≡ b % 2 ^ e) base (zones_same c a b c.zones (omega arith) each)
places_same c a b (suc n) l each =
    let rest = places_same c a b n (omega arith) each in
    let end = zones_end c c.zones in
    let next : end + n + 1 ≡ end + suc n = omega arith in
    subst (λ e. a % 2 ^ e ≡ b % 2 ^ e) next (peel a b (end + n) 1 rest (each (Place n) (lt-ltb n c.places (omega arith))))

-- two words within the width are the same if all their fields are
same_word : (c : Counts) (a b : ℕ) → a < 2 ^ width_of c → b < 2 ^ width_of c → ((f : Field) → IsTrue (has c f) → told c a f ≡ told c b f) → a ≡ b
same_word c a b below_a below_b each =
    let base = zones_end c c.zones + c.places in
    let stamp = peel a b base 20 (places_same c a b c.places (omega arith) each) (each Stamp refl) in
    let stop = peel a b (base + 20) 1 stamp (each Stop refl) in
    let width : base + 20 + 1 ≡ width_of c = omega arith in
    let whole : a % 2 ^ width_of c ≡ b % 2 ^ width_of c = subst (λ e. a % 2 ^ e ≡ b % 2 ^ e) width stop in
    sym (mod-eq_of_lt below_a) ∙ whole ∙ mod-eq_of_lt below_b

and_none : (n : ℕ) → bit_and n 0 ≡ 0
and_none n = let least = and_le_r n 0 in omega (arith, least)

-- a row matches a state's word if it matches the number of each field
record MeetsFields (t : PlanTable) (s : State) (p : Part) : Type 0 where
  looks : LooksAtFields (counts_of t) p
  zone : (z : ℕ) → z < zone_count t → IsTrue (matches (part_in (counts_of t) p (Zone z)) (held t s (Zone z)))
  place : (q : ℕ) → q < place_count t → IsTrue (matches (part_in (counts_of t) p (Place q)) (held t s (Place q)))
  stop : IsTrue (matches (part_in (counts_of t) p Stop) (held t s Stop))

field_met : (t : PlanTable) (s : State) (p : Part) → IsOfPlan t s → (f : Field) → IsTrue (has (counts_of t) f) → IsTrue (matches (part_in (counts_of t) p f) (held t s f))
    → told (counts_of t) (bit_and (packed t s) p.mask) f ≡ told (counts_of t) p.wanted f
field_met t s p o f h e =
    told_and (counts_of t) (packed t s) p.mask f
    ∙ ap (λ n. bit_and n (told (counts_of t) p.mask f)) (held_back t s o.sound.stamp_in_range f h)
    ∙ eqb-true (bit_and (held t s f) (told (counts_of t) p.mask f)) (told (counts_of t) p.wanted f) e

each_met : (t : PlanTable) (s : State) (p : Part) → IsOfPlan t s → MeetsFields t s p → (f : Field) → IsTrue (has (counts_of t) f)
    → told (counts_of t) (bit_and (packed t s) p.mask) f ≡ told (counts_of t) p.wanted f
each_met t s p o k (Zone z) h = field_met t s p o (Zone z) h (k.zone z (ltb-true z (zone_count t) h))
each_met t s p o k (Place q) h = field_met t s p o (Place q) h (k.place q (ltb-true q (place_count t) h))
each_met t s p o k Stop h = field_met t s p o Stop h k.stop
each_met t s p o k Stamp h =
    told_and (counts_of t) (packed t s) p.mask Stamp
    ∙ ap (λ n. bit_and (told (counts_of t) (packed t s) Stamp) n) k.looks.mask
    ∙ and_none (told (counts_of t) (packed t s) Stamp)
    ∙ sym k.looks.wanted

word_met : (t : PlanTable) (s : State) (p : Part) → IsOfPlan t s → MeetsFields t s p → IsTrue (matches p (packed t s))
word_met t s p o k =
    let within = (laid_out t s o).bound in
    let least = and_le_l (packed t s) p.mask in
    eq-eqb (bit_and (packed t s) p.mask) p.wanted (same_word (counts_of t) (bit_and (packed t s) p.mask) p.wanted (omega (arith, within, least)) k.looks.within (each_met t s p o k))

-- ---- one field more
zone_number : (t : PlanTable) (a : Asked) (s : State) (z : ℕ) → IsPlain t → IsOfPlan t s → Fits t a.machine a.call a.room s → z < zone_count t → FitsNumber t a (Zone z) (held t s (Zone z))
zone_number t a s z plain o h l =
    let v = zone_at s z in
    let lawful = o.sound.zone_is_lawful z l in
    let back : zone_alone t z (zone_code t z v) ≡ v = alone_back t s z plain o l in
    (subst (IsLawfulZone t z) (sym back) lawful, ap (zone_code t z) back, subst (λ x. IsTrue (needs.zone_fits t a.machine a.call a.room z x)) (sym back) (h.zones z l))

pub leave_zone : (t : PlanTable) (a : Asked) (rows : List Row) (span : Span) (sets next : List Bool) (n m : ℕ) → IsPlain t → LeavesRows t a rows span sets n m → n < zone_count t
    → Steps t a (counts_of t) rows span (Zone n) sets next → LeavesRows t a rows span next (n + 1) m
leave_zone t a rows span sets next n m plain before l step s o h =
    let set = before s o h in
    let got = step (held t s (Zone n)) (code_below t n (zone_at s n) plain) (zone_number t a s n plain o h l) set.set set.few set.left in
    record {
      set = got.0;
      few = got.1;
      left = got.2;
      zones = λ k b bit.
          let both = got.3 k b bit in
          below_more (λ z. MatchesAt (counts_of t) rows span (Zone z) (held t s (Zone z)) k) n (set.zones k b both.0) both.1;
      places = λ k b bit q j. set.places k b (got.3 k b bit).0 q j;
    }

flag_small : (b : Bool) → one_if b < 32
flag_small true = omega arith
flag_small false = omega arith

pub leave_place : (t : PlanTable) (a : Asked) (rows : List Row) (span : Span) (sets next : List Bool) (n m : ℕ) → LeavesRows t a rows span sets n m → m < place_count t
    → Steps t a (counts_of t) rows span (Place m) sets next → LeavesRows t a rows span next n (m + 1)
leave_place t a rows span sets next n m before l step s o h =
    let set = before s o h in
    let got = step (held t s (Place m)) (flag_small (is_full s m)) (is_full s m, refl, h.places m l) set.set set.few set.left in
    record {
      set = got.0;
      few = got.1;
      left = got.2;
      zones = λ k b bit z j. set.zones k b (got.3 k b bit).0 z j;
      places = λ k b bit.
          let both = got.3 k b bit in
          below_more (λ q. MatchesAt (counts_of t) rows span (Place q) (held t s (Place q)) k) m (set.places k b both.0) both.1;
    }

pub leave_none : (t : PlanTable) (a : Asked) (rows : List Row) (span : Span) (sets : List Bool) → HasSet sets 255 → LeavesRows t a rows span sets 0 0
leave_none t a rows span sets all s o h = record {
  set = 255;
  few = omega arith;
  left = all;
  zones = λ k b bit z l. absurd (omega arith);
  places = λ k b bit q l. absurd (omega arith);
}

not_none : (sets : List Bool) (x : ℕ) → get_or sets 0 false ≡ false → HasSet sets x → x ≢ 0
not_none sets x none has e = let there : get_or sets 0 false ≡ true = subst (λ y. HasSet sets y) e has in cc

pub covered : (t : PlanTable) (a : Asked) (rows : List Row) (span : Span) (sets left : List Bool) → LeavesRows t a rows span sets (zone_count t) (place_count t)
    → Steps t a (counts_of t) rows span Stop sets left → get_or left 0 false ≡ false → LookAtFields (counts_of t) rows span.first span.count → Covers t a rows span
covered t a rows span sets left before step none look s o h =
    let set = before s o h in
    let got = step (held t s Stop) (flag_small s.stopped) (s.stopped, refl, h.stop) set.set set.few set.left in
    let bit = some_bit 8 got.0 got.1 (not_none left got.0 none got.2) in
    let k = bit.0 in
    let here = got.3 k bit.1 bit.2 in
    let p = (row_at rows (span.first + k)).part in
    let meets : MeetsFields t s p = record {
      looks = look k here.1.there;
      zone = λ z l. (set.zones k bit.1 here.0 z l).is_met;
      place = λ q l. (set.places k bit.1 here.0 q l).is_met;
      stop = here.1.is_met;
    } in
    (k, here.1.there, word_met t s p o meets)

-- ---- the sets after a field
pub narrowed : (c : Counts) (rows : List Row) (span : Span) (f : Field) (n set : ℕ) (sets next : List Bool) → ((k : ℕ) → k < 8 → HasBit set k → MatchesAt c rows span f n k)
    → ((x : ℕ) → x < 256 → HasSet sets x → HasSet next (bit_and x set)) → Narrows c rows span f n sets next
narrowed c rows span f n set sets next met left x l has =
    let least = and_le_l x set in
    (bit_and x set, omega (arith, l, least), left x l has, λ k b bit. let both = bits_of_both x set k bit in (both.0, met k b both.1))

pub narrows_more : (c : Counts) (rows : List Row) (span : Span) (f : Field) (n : ℕ) (sets next more : List Bool) → ((x : ℕ) → HasSet next x → HasSet more x) → Narrows c rows span f n sets next
    → Narrows c rows span f n sets more
narrows_more c rows span f n sets next more kept step x l has =
    let got = step x l has in
    (got.0, got.1, kept got.0 got.2, got.3)
