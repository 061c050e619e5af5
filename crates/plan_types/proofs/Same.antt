-- Rows with the same bytes are the same.
use Rattle.std.proofs.Common.{◌≡◌, ℕ, ◌+◌, ◌*◌, ◌<◌, List, [], ◌∷◌, length, get_or, map, Bool, true, false}
use Rattle.std.proofs.Common.{Option, Some, None, nat_eq, if◌then◌else◌}
use Rattle.std.proofs.Common.{refl, sym, ◌∙◌, ap, arith}
use Rattle.std.proofs.lemmas.List.{same_lists, get_or-map, length-map, get_or_default}
use mir.Val.{bool_byte}
use Rattle.plan_types.specs.declared.posture.Posture.{Posture}
use Rattle.plan_types.specs.declared.posture.Posture.TheVariants.{Closed, Moving, OpenIn, OpenOut}
use Rattle.plan_types.specs.declared.table.Way.{Way}
use Rattle.plan_types.specs.declared.table.PlanZone.{PlanZone}
use Rattle.plan_types.specs.declared.table.PlanPose.{PlanPose}
use Rattle.plan_types.specs.Bytes.{way_byte, from_byte, to_byte, zone_bytes, posture_byte, pose_bytes, IsForTenZones}

pub same_way : (a b : Option Way) → way_byte a ≡ way_byte b → from_byte a ≡ from_byte b → to_byte a ≡ to_byte b
    → a ≡ b
same_way None None w f t = refl
same_way None (Some b) w f t = cc
same_way (Some a) None w f t = cc
same_way (Some a) (Some b) w f t = grind arith

same_entrance : (a b : Option Way) (i j : Bool) → way_byte a + 2 * bool_byte i ≡ way_byte b + 2 * bool_byte j
    → (way_byte a ≡ way_byte b) × (i ≡ j)
same_entrance None None true true e = (refl, refl)
same_entrance None None false false e = (refl, refl)
same_entrance (Some a) (Some b) true true e = (refl, refl)
same_entrance (Some a) (Some b) false false e = (refl, refl)
same_entrance None None true false e = absurd (omega (arith, e))
same_entrance None None false true e = absurd (omega (arith, e))
same_entrance None (Some b) true true e = absurd (omega (arith, e))
same_entrance None (Some b) true false e = absurd (omega (arith, e))
same_entrance None (Some b) false true e = absurd (omega (arith, e))
same_entrance None (Some b) false false e = absurd (omega (arith, e))
same_entrance (Some a) None true true e = absurd (omega (arith, e))
same_entrance (Some a) None true false e = absurd (omega (arith, e))
same_entrance (Some a) None false true e = absurd (omega (arith, e))
same_entrance (Some a) None false false e = absurd (omega (arith, e))
same_entrance (Some a) (Some b) true false e = absurd (omega (arith, e))
same_entrance (Some a) (Some b) false true e = absurd (omega (arith, e))

pub same_zone : (x y : PlanZone) → zone_bytes x ≡ zone_bytes y → x ≡ y
same_zone x y e =
    let host : x.host ≡ y.host = cc in
    let guest : x.guest ≡ y.guest = cc in
    let entrances : way_byte x.inward + 2 * bool_byte x.joins ≡ way_byte y.inward + 2 * bool_byte y.joins = cc in
    let marks = same_entrance x.inward y.inward x.joins y.joins entrances in
    let enters : way_byte x.inward ≡ way_byte y.inward = marks.0 in
    let joins : x.joins ≡ y.joins = marks.1 in
    let in_from : from_byte x.inward ≡ from_byte y.inward = cc in
    let in_to : to_byte x.inward ≡ to_byte y.inward = cc in
    let leaves : way_byte x.outward ≡ way_byte y.outward = cc in
    let out_from : from_byte x.outward ≡ from_byte y.outward = cc in
    let out_to : to_byte x.outward ≡ to_byte y.outward = cc in
    let inward : x.inward ≡ y.inward = same_way x.inward y.inward enters in_from in_to in
    let outward : x.outward ≡ y.outward = same_way x.outward y.outward leaves out_from out_to in
    grind arith

-- the posture with a byte
abbrev posture_of : ℕ → Option Posture
posture_of n =
    if nat_eq n 0 then None else if nat_eq n 1 then Some Closed else if nat_eq n 2 then Some Moving
    else if nat_eq n 3 then Some OpenIn else Some OpenOut

posture_back : (a : Option Posture) → posture_of (posture_byte a) ≡ a
posture_back None = refl
posture_back (Some Closed) = refl
posture_back (Some Moving) = refl
posture_back (Some OpenIn) = refl
posture_back (Some OpenOut) = refl

pub same_posture : (a b : Option Posture) → posture_byte a ≡ posture_byte b → a ≡ b
same_posture a b e = sym (posture_back a) ∙ ap posture_of e ∙ posture_back b

pub same_gives : (xs ys : List (Option Posture)) → map posture_byte xs ≡ map posture_byte ys → xs ≡ ys
same_gives [] [] e = refl
same_gives [] (y ∷ ys) e = cc
same_gives (x ∷ xs) [] e = cc
same_gives (x ∷ xs) (y ∷ ys) e =
    let byte : posture_byte x ≡ posture_byte y = cc in
    let bytes : map posture_byte xs ≡ map posture_byte ys = cc in
    let first : x ≡ y = same_posture x y byte in
    let others : xs ≡ ys = same_gives xs ys bytes in
    cc

pub same_flag : (a b : Bool) → bool_byte a ≡ bool_byte b → a ≡ b
same_flag true true e = refl
same_flag true false e = cc
same_flag false true e = cc
same_flag false false e = refl

pub same_pose : (x y : PlanPose) → pose_bytes x ≡ pose_bytes y → x ≡ y
same_pose x y e =
    let machine : x.machine ≡ y.machine = cc in
    let flags : bool_byte x.after_moving ≡ bool_byte y.after_moving = cc in
    let rows : map posture_byte x.gives ≡ map posture_byte y.gives = cc in
    let moving : x.after_moving ≡ y.after_moving = same_flag x.after_moving y.after_moving flags in
    let gives : x.gives ≡ y.gives = same_gives x.gives y.gives rows in
    grind arith

-- how long the rows are
pub zone_width : (z : PlanZone) → Unit {0} → length (zone_bytes z) ≡ 8
zone_width z u = refl

pub pose_width : (p : PlanPose) → IsForTenZones p → length (pose_bytes p) ≡ 12
pose_width p ten = omega (arith, ten, length-map p.gives posture_byte)

-- postures whose bytes are a row's, one by one
pub gives_row : (gives : List (Option Posture)) (row : List ℕ) → length gives ≡ length row
    → ((k : ℕ) → k < length row → posture_byte (get_or gives k None) ≡ get_or row k 0) → map posture_byte gives ≡ row
gives_row gives row long each =
    let mapped = length-map gives posture_byte in
    same_lists (map posture_byte gives) row (mapped ∙ long) (λ k d below.
    let at_gives : k < length gives = omega (arith, below, mapped) in
    let at_row : k < length row = omega (arith, at_gives, long) in
    get_or-map posture_byte gives k None d at_gives ∙ each k at_row ∙ get_or_default row k 0 d at_row)

-- what is nothing is not something
pub no_some : {A : Type 0} (r : Option A) (x : A) → r ≡ None → r ≡ Some x → ⊥
no_some r x none some = let clash : None ≡ Some x = sym none ∙ some in cc
