-- The byte of a place, and the places with some bytes.
use Rattle.std.proofs.Common.{◌≡◌, ℕ, zero, suc, ◌+◌, ◌*◌, ◌%◌, ◌<◌, Bool, true, false, nat_le, nat_lt, List, [], ◌∷◌, ◌++◌, length, get_or, map, take, All}
use Rattle.std.proofs.Common.{refl, sym, ◌∙◌, ap₂, arith, subst}
use Rattle.std.proofs.lemmas.Bool.{leb-true, leb-false, ltb-true, ltb-false}
use Rattle.std.proofs.lemmas.List.{get_or_default, get_or_past, map-append, take_more}
use Rattle.std.proofs.lemmas.List.Elements.{All-append}
use mir.Val.{bool_byte}
use Rattle.plan_types.specs.declared.table.PlanPlace.{PlanPlace}
use Rattle.plan_types.specs.Table.{PlanTable, no_place, place_row, keeper_of}
use Rattle.plan_types.specs.Plan.{IsPlan}
use Rattle.plan_types.specs.Bytes.{place_byte, IsNarrow, HasNarrowPlaces}
use Rattle.plan_types.proofs.Reading.{all_head, all_tail}

-- a plan's machines are few
pub narrow_places : (t : PlanTable) → IsPlan t → HasNarrowPlaces t
narrow_places t plan k d below =
    let keeper : keeper_of t k < t.machines = plan.keeper_is_machine k below in
    subst (λ (row : PlanPlace). row.keeper < 64) (get_or_default t.places k no_place d below)
    (omega (arith, keeper, plan.machines_at_most))

narrow_by : (t : PlanTable) → IsPlan t → (p : ℕ) → (b : Bool) → nat_lt p (length t.places) ≡ b
    → (place_row t p).keeper < 64
narrow_by t plan p true e = narrow_places t plan p no_place (ltb-true _ _ e)
narrow_by t plan p false e = rw (get_or_past t.places p no_place (ltb-false _ _ e)) (omega arith)

pub is_narrow : (t : PlanTable) → IsPlan t → (p : ℕ) → (place_row t p).keeper < 64
is_narrow t plan p =
    narrow_by t plan p (nat_lt p (length t.places)) refl

-- a byte is the byte of what it tells
abbrev parts_byte : ℕ → Bool → Bool → ℕ
parts_byte keeper source sink = keeper + 64 * bool_byte source + 128 * bool_byte sink

told_by : (byte : ℕ) (a b : Bool) → byte < 256 → nat_le 64 (byte % 128) ≡ a → nat_le 128 byte ≡ b
    → byte % 64 + 64 * bool_byte a + 128 * bool_byte b ≡ byte
told_by byte true true few ea eb = omega (arith, few, leb-true _ _ ea, leb-true _ _ eb)
told_by byte true false few ea eb = omega (arith, few, leb-true _ _ ea, leb-false _ _ eb)
told_by byte false true few ea eb = omega (arith, few, leb-false _ _ ea, leb-true _ _ eb)
told_by byte false false few ea eb = omega (arith, few, leb-false _ _ ea, leb-false _ _ eb)

pub told_back : (byte : ℕ) → byte < 256 → byte % 64 + 64 * bool_byte (nat_le 64 (byte % 128)) + 128 * bool_byte (nat_le 128 byte) ≡ byte
told_back byte few = told_by byte (nat_le 64 (byte % 128)) (nat_le 128 byte) few refl refl

-- places with the same bytes are the same
place_of : ℕ → Bool → Bool → PlanPlace
place_of keeper source sink = record { keeper = keeper; source = source; sink = sink }

same_parts : (k l : ℕ) (a b c d : Bool) → k < 64 → l < 64 → parts_byte k a b ≡ parts_byte l c d
    → (k ≡ l) × (a ≡ c) × (b ≡ d)
same_parts k l true true true true fk fl e = (omega (arith, e), refl, refl)
same_parts k l true false true false fk fl e = (omega (arith, e), refl, refl)
same_parts k l false true false true fk fl e = (omega (arith, e), refl, refl)
same_parts k l false false false false fk fl e = (omega (arith, e), refl, refl)
same_parts k l true true true false fk fl e = absurd (omega (arith, fk, fl, e))
same_parts k l true true false true fk fl e = absurd (omega (arith, fk, fl, e))
same_parts k l true true false false fk fl e = absurd (omega (arith, fk, fl, e))
same_parts k l true false true true fk fl e = absurd (omega (arith, fk, fl, e))
same_parts k l true false false true fk fl e = absurd (omega (arith, fk, fl, e))
same_parts k l true false false false fk fl e = absurd (omega (arith, fk, fl, e))
same_parts k l false true true true fk fl e = absurd (omega (arith, fk, fl, e))
same_parts k l false true true false fk fl e = absurd (omega (arith, fk, fl, e))
same_parts k l false true false false fk fl e = absurd (omega (arith, fk, fl, e))
same_parts k l false false true true fk fl e = absurd (omega (arith, fk, fl, e))
same_parts k l false false true false fk fl e = absurd (omega (arith, fk, fl, e))
same_parts k l false false false true fk fl e = absurd (omega (arith, fk, fl, e))

one_place : (x y : PlanPlace) → IsNarrow x → IsNarrow y → place_byte x ≡ place_byte y → x ≡ y
one_place x y nx ny e =
    let same = same_parts x.keeper y.keeper x.source x.sink y.source y.sink nx ny e in
    let keeper : x.keeper ≡ y.keeper = same.0 in
    let source : x.source ≡ y.source = same.1 in
    let sink : x.sink ≡ y.sink = same.2 in
    grind arith

pub same_places : (xs ys : List PlanPlace) → All IsNarrow xs → All IsNarrow ys
    → map place_byte xs ≡ map place_byte ys → xs ≡ ys
same_places [] [] ax ay e = refl
same_places [] (y ∷ ys) ax ay e = cc
same_places (x ∷ xs) [] ax ay e = cc
same_places (x ∷ xs) (y ∷ ys) ax ay e =
    let byte : place_byte x ≡ place_byte y = cc in
    let bytes : map place_byte xs ≡ map place_byte ys = cc in
    let first : x ≡ y = one_place x y (all_head IsNarrow x xs ax) (all_head IsNarrow y ys ay) byte in
    let others : xs ≡ ys = same_places xs ys (all_tail IsNarrow x xs ax) (all_tail IsNarrow y ys ay) bytes in
    cc

-- one more place
pub bytes_more : (places : List PlanPlace) (p : PlanPlace) (bytes : List ℕ) (n : ℕ) → n < length bytes
    → map place_byte places ≡ take n bytes → place_byte p ≡ get_or bytes n 0
    → map place_byte (places ++ p ∷ []) ≡ take (n + 1) bytes
bytes_more places p bytes n below before is =
    map-append place_byte places (p ∷ []) ∙ ap₂ (λ xs x. xs ++ x ∷ []) before is ∙ sym (take_more bytes n 0 below)

one_narrow : (p : PlanPlace) → IsNarrow p → All IsNarrow (p ∷ [])
one_narrow p is zero d below = is
one_narrow p is (suc k) d below = absurd (omega (arith, below))

pub narrow_more : (places : List PlanPlace) (p : PlanPlace) → All IsNarrow places → IsNarrow p
    → All IsNarrow (places ++ p ∷ [])
narrow_more places p all is = All-append IsNarrow places (p ∷ []) all (one_narrow p is)
