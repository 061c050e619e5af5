-- A zone has another posture if a bit of its posture differs.
use Rattle.cell_word.proofs.Names.{◌≡◌, ℕ, ◌+◌, Bool, true, false, ◌&&◌, cond, nat_eq, Option, Some, None, is_some, option_map, Result, Ok, Err, List, [], ◌∷◌, map, refl, sym, ap, ap₂, ◌∙◌, bit_and, and_parts, Zone, Transfer, Place, Posture, OpenIn, Refusal, Jump, WrongWay, guest_of, transfer_of, from_zones, zones, postures, places, holds2}
use Rattle.cell_word.proofs.Names.{zone_bit, place_bit, stands, when, posture_is, low_differs, high_differs, anything, guard, first_refusal, unless, checked, machine_of, giving_posture, Party, Host, Guest, Pattern, Guard}
use Rattle.cell_types.specs.Everything.{all_postures as every_posture}
use Rattle.cell_word.specs.Guards as guards
use Rattle.cell_word.proofs.SameAnswer.{same_answer, one_answer}
use Rattle.cell_word.proofs.Windows.{and_zero, blind, first-window, stands-window, all_within, all_values, window_on, from_values}

-- ---- a row whose guards all pass if a pattern matches, and are else as a short row
abbrev but : Pattern → List Guard → ℕ → Option Refusal
but p short w = cond (stands w p) None (first_refusal w short)

abbrev is_inside : ℕ → Pattern → List Guard → List Guard → Bool
is_inside window p row short = nat_eq (bit_and window p.mask) p.mask && (all_within window row && all_within window short)

abbrev is_as : Pattern → List Guard → List Guard → ℕ → Bool
is_as p row short v = same_answer (first_refusal v row) (but p short v)

abbrev turned_test : List (ℕ × ℕ) → Pattern → List Guard → List Guard → Bool
turned_test fields p row short = is_inside (window_on fields 0) p row short && all_values fields (is_as p row short) 0

passed_by : (b : Bool) (o : Option Refusal) → ◌≡◌ {A = Result (Unit {0}) Refusal} (unless (cond b None o) tt) (cond b (Ok tt) (unless o tt))
passed_by true o = refl
passed_by false o = refl

turned : (fields : List (ℕ × ℕ)) (p : Pattern) (row short : List Guard) → turned_test fields p row short ≡ true → (w : ℕ) → checked w row ≡ cond (stands w p) (Ok tt) (checked w short)
turned fields p row short test w =
    let n = window_on fields 0 in
    let v = bit_and w n in
    let tests = and_parts (is_inside n p row short) (all_values fields (is_as p row short) 0) test in
    let inside = and_parts (nat_eq (bit_and n p.mask) p.mask) (all_within n row && all_within n short) tests.0 in
    let rows = and_parts (all_within n row) (all_within n short) inside.1 in
    let same : first_refusal w row ≡ but p short w =
    first-window w n row rows.0
    ∙ one_answer (first_refusal v row) (but p short v) (from_values fields (is_as p row short) w 0 0 (and_zero w) tests.1)
    ∙ ap₂ (λ b o. cond b None o) (sym (stands-window w n p inside.0)) (sym (first-window w n short rows.1)) in
    ap (λ o. unless o tt) same ∙ passed_by (stands w p) (first_refusal w short)

-- what a test leaves of such a row
pub holds : {A : Type 0} {a x : A} {b : Bool} (y : A) → a ≡ cond b x y → b ≡ true → x ≡ a
holds {x = x} y e is = sym (e ∙ ap (λ b. cond b x y) is)

pub fails : {A : Type 0} {a y : A} {b : Bool} (x : A) → a ≡ cond b x y → b ≡ false → y ≡ a
fails {y = y} x e is = sym (e ∙ ap (λ b. cond b x y) is)

-- ---- guards on a zone and its posture
abbrev five : Zone → List (ℕ × ℕ)
five z = (zone_bit z, 5) ∷ []

abbrev posed_test : (Zone → Posture → List Guard) → (Zone → Posture → List Guard) → Zone → Posture → Bool
posed_test row short z q = turned_test (five z) (posture_is z q) (row z q) (short z q)

posed : (row short : Zone → Posture → List Guard) → zones.all (λ z. postures.all (posed_test row short z)) ≡ true → (w : ℕ) (z : Zone) (q : Posture) → checked w (row z q) ≡ cond (stands w (posture_is z q)) (Ok tt) (checked w (short z q))
posed row short table w z q = turned (five z) (posture_is z q) (row z q) (short z q) (holds2 zones postures (posed_test row short) table z q) w

-- a zone that gets another posture has to be its host's
pub require_held_unless_in : (w : ℕ) (z : Zone) (q : Posture) → checked w (guards.owner_guards z q) ≡ cond (stands w (posture_is z q)) (Ok tt) (checked w (guards.unowned z ∷ guards.anothers z (guest_of z) ∷ []))
require_held_unless_in = posed guards.owner_guards (λ z q. guards.unowned z ∷ guards.anothers z (guest_of z) ∷ []) refl

-- and free of plates
pub require_clear_unless_in : (w : ℕ) (z : Zone) (q : Posture) → checked w (guards.plate_guards z q) ≡ cond (stands w (posture_is z q)) (Ok tt) (checked w (guards.plate_in z ∷ []))
require_clear_unless_in = posed guards.plate_guards (λ z q. guards.plate_in z ∷ []) refl

-- if a zone has to have a posture, any other refuses
abbrev either : Bool → Bool → Guard → Guard → Result (Unit {0}) Refusal
either low high g h = unless (option_map (λ (g : Guard). g.refusal) (cond low (Some g) (cond high (Some h) None))) tt

any_refusal : (low high b : Bool) (p q : Pattern) (r : Refusal) → either low high (guard p Jump) (guard q Jump) ≡ cond b (Ok tt) (Err Jump) → either low high (guard p r) (guard q r) ≡ cond b (Ok tt) (Err r)
any_refusal true high true p q r e = cc
any_refusal false true true p q r e = cc
any_refusal false false false p q r e = cc
any_refusal _ _ _ p q r e = refl

pub require_in : (w : ℕ) (z : Zone) (q : Posture) (r : Refusal) → checked w (guards.low_refuses z q r ∷ guards.high_refuses z q r ∷ []) ≡ cond (stands w (posture_is z q)) (Ok tt) (Err r)
require_in w z q r =
    let b = stands w (posture_is z q) in
    let always = guard anything Jump ∷ [] in
    any_refusal (stands w (low_differs z q)) (stands w (high_differs z q)) b (low_differs z q) (high_differs z q) r
    (posed (λ z q. guards.low_refuses z q Jump ∷ guards.high_refuses z q Jump ∷ []) (λ z q. guard anything Jump ∷ []) refl w z q ∙ ap (λ o. cond b (Ok tt) (unless o tt)) (blind w always refl))

-- ---- a zone that becomes open inward, and a place in it
abbrev room_test : Zone → Place → Bool
room_test z p = turned_test ((zone_bit z + 3, 2) ∷ (place_bit p, 1) ∷ []) (posture_is z OpenIn) (guards.room_guards z p) (guards.no_room_at p ∷ [])

pub require_room : (w : ℕ) (z : Zone) (p : Place) → checked w (guards.room_guards z p) ≡ cond (stands w (posture_is z OpenIn)) (Ok tt) (checked w (guards.no_room_at p ∷ []))
require_room w z p = turned ((zone_bit z + 3, 2) ∷ (place_bit p, 1) ∷ []) (posture_is z OpenIn) (guards.room_guards z p) (guards.no_room_at p ∷ []) (holds2 zones places room_test refl z p) w

-- ---- a zone from which a party gives
abbrev way_pattern : Zone → Party → Pattern
way_pattern z s = when (is_some (transfer_of z (giving_posture s))) (posture_is z (giving_posture s))

abbrev wrong_ways : Zone → Party → List Guard
wrong_ways z s = map (guards.wrong_way (machine_of z s) z) every_posture

abbrev wrong_way : List Guard
wrong_way = guard anything WrongWay ∷ []

abbrev way_test : Party → Zone → Bool
way_test s z = turned_test (five z) (way_pattern z s) (wrong_ways z s) wrong_way

ways : (z : Zone) (s : Party) → way_test s z ≡ true
ways z Host = from_zones (way_test Host) refl z
ways z Guest = from_zones (way_test Guest) refl z

way : (w : ℕ) (z : Zone) (s : Party) → checked w (wrong_ways z s) ≡ cond (stands w (way_pattern z s)) (Ok tt) (Err WrongWay)
way w z s = turned (five z) (way_pattern z s) (wrong_ways z s) wrong_way (ways z s) w ∙ ap (λ o. cond (stands w (way_pattern z s)) (Ok tt) (unless o tt)) (blind w wrong_way refl)

pub no_way : (w : ℕ) (z : Zone) (s : Party) → transfer_of z (giving_posture s) ≡ None → checked w (wrong_ways z s) ≡ Err WrongWay
no_way w z s e =
    way w z s
    ∙ ap (λ (row : Option Transfer). cond (stands w (when (is_some row) (posture_is z (giving_posture s)))) (Ok tt) (Err WrongWay)) e
    ∙ ap (λ n. cond (nat_eq n 0x8000000000000000) (Ok tt) (Err WrongWay)) (and_zero w)

pub one_way : (w : ℕ) (z : Zone) (s : Party) (row : Transfer) → transfer_of z (giving_posture s) ≡ Some row → checked w (wrong_ways z s) ≡ cond (stands w (posture_is z (giving_posture s))) (Ok tt) (Err WrongWay)
one_way w z s row e = way w z s ∙ ap (λ (row : Option Transfer). cond (stands w (when (is_some row) (posture_is z (giving_posture s)))) (Ok tt) (Err WrongWay)) e
