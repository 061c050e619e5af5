-- Two states that the program's `==` finds equal are one.
use Rattle.std.proofs.Common.{◌≡◌, ℕ, ◌&&◌, Bool, true, false, List, [], ◌∷◌, Option, Some, None, refl, ap, subst}
use Rattle.std.specs.Prelude.{eqb}
use mathlib.Core.Bool.{beq}
use Rattle.std.specs.Option.{option_eq}
use Rattle.std.specs.Cmp.{booleans_Decides}
use Rattle.std.specs.Cmp.Lexicographic.{pointwise}
use Rattle.std.proofs.lemmas.Bool.{and_parts, eqb-true, eq-eqb}
use Rattle.plan_types.specs.declared.posture.Posture.{Posture}
use Rattle.plan_types.specs.declared.posture.Posture.TheVariants.{Closed, Moving, OpenIn, OpenOut}
use Rattle.plan_types.specs.Same.{same_posture, one_posture}
use Rattle.plan_rules.specs.declared.state.ZoneState.{ZoneState}
use Rattle.plan_rules.specs.declared.state.State.{State}

abbrev pub same_zone : ZoneState → ZoneState → Bool
same_zone a b = option_eq eqb a.owner b.owner && (beq a.flag b.flag && same_posture a.posture b.posture)

abbrev pub same_state : State → State → Bool
same_state a b = pointwise same_zone a.zones b.zones && (pointwise beq a.full b.full && (eqb a.stamp b.stamp && beq a.stopped b.stopped))

-- ---- what passes is one

one_list : {A : Type 0} (eq : A → A → Bool) → ((x y : A) → eq x y ≡ true → x ≡ y) → (xs ys : List A) → pointwise eq xs ys ≡ true → xs ≡ ys
one_list eq one [] [] h = refl
one_list eq one [] (y ∷ ys) h = absurd (cc)
one_list eq one (x ∷ xs) [] h = absurd (cc)
one_list eq one (x ∷ xs) (y ∷ ys) h = let p = and_parts (eq x y) (pointwise eq xs ys) h in λ i. one x y p.0 i ∷ one_list eq one xs ys p.1 i

one_owner : (a b : Option ℕ) → option_eq eqb a b ≡ true → a ≡ b
one_owner None None h = refl
one_owner None (Some n) h = absurd (cc)
one_owner (Some m) None h = absurd (cc)
one_owner (Some m) (Some n) h = ap Some (eqb-true m n h)

one_flag : (a b : Bool) → beq a b ≡ true → a ≡ b
one_flag a b = (booleans_Decides a b).0

one_zone : (a b : ZoneState) → same_zone a b ≡ true → a ≡ b
one_zone a b h =
    let o = and_parts (option_eq eqb a.owner b.owner) (beq a.flag b.flag && same_posture a.posture b.posture) h in
    let f = and_parts (beq a.flag b.flag) (same_posture a.posture b.posture) o.1 in
    λ i. record { owner = one_owner a.owner b.owner o.0 i; flag = one_flag a.flag b.flag f.0 i; posture = one_posture a.posture b.posture f.1 i }

pub one_state : (a b : State) → same_state a b ≡ true → a ≡ b
one_state a b h =
    let z = and_parts (pointwise same_zone a.zones b.zones) (pointwise beq a.full b.full && (eqb a.stamp b.stamp && beq a.stopped b.stopped)) h in
    let f = and_parts (pointwise beq a.full b.full) (eqb a.stamp b.stamp && beq a.stopped b.stopped) z.1 in
    let s = and_parts (eqb a.stamp b.stamp) (beq a.stopped b.stopped) f.1 in
    λ i. record { zones = one_list same_zone one_zone a.zones b.zones z.0 i; full = one_list beq one_flag a.full b.full f.0 i; stamp = eqb-true a.stamp b.stamp s.0 i; stopped = one_flag a.stopped b.stopped s.1 i }

-- ---- each passes with itself

both : (a b : Bool) → a ≡ true → b ≡ true → (a && b) ≡ true
both true b e f = f
both false b e f = absurd (cc)

flag_alike : (b : Bool) → beq b b ≡ true
flag_alike true = refl
flag_alike false = refl

owner_alike : (o : Option ℕ) → option_eq eqb o o ≡ true
owner_alike None = refl
owner_alike (Some n) = eq-eqb n n refl

posture_alike : (p : Posture) → same_posture p p ≡ true
posture_alike Closed = refl
posture_alike Moving = refl
posture_alike OpenIn = refl
posture_alike OpenOut = refl

zone_alike : (z : ZoneState) → same_zone z z ≡ true
zone_alike z = both _ _ (owner_alike z.owner) (both _ _ (flag_alike z.flag) (posture_alike z.posture))

list_alike : {A : Type 0} (eq : A → A → Bool) → ((x : A) → eq x x ≡ true) → (xs : List A) → pointwise eq xs xs ≡ true
list_alike eq one [] = refl
list_alike eq one (x ∷ xs) = both _ _ (one x) (list_alike eq one xs)

state_alike : (s : State) → same_state s s ≡ true
state_alike s = both _ _ (list_alike same_zone zone_alike s.zones) (both _ _ (list_alike beq flag_alike s.full) (both _ _ (eq-eqb s.stamp s.stamp refl) (flag_alike s.stopped)))

pub alike : (a b : State) → a ≡ b → same_state a b ≡ true
alike a b e = subst (λ s. same_state a s ≡ true) e (state_alike a)
