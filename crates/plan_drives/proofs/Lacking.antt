-- A line runs a motor that lacks something exactly if the line isn't backed.
use Rattle.std.proofs.Common.{◌≡◌, ◌≢◌, ℕ, ◌+◌, ◌<◌, ◌≤◌, ◌⊎◌, inl, inr, zero, suc, Bool, true, false, ◌&&◌, not, nat_eq, nat_lt, if◌then◌else◌, Option, Some, None, List, [], ◌∷◌, length, get_or, take, refl, sym, ap, ◌∙◌, subst, arith}
use Rattle.std.specs.Prelude.{slice_get, option_map}
use Rattle.std.specs.Option.{option_or, option_eq}
use Rattle.std.specs.Bool.{then_some}
use Rattle.std.proofs.lemmas.Bool.{eqb-true, eq-eqb, ltb-true, ltb-false, lt-ltb, and_parts}
use Rattle.std.proofs.lemmas.Option.{slice_get_within, slice_get-get_or}
use Rattle.plan_types.specs.declared.posture.Posture.{Posture}
use Rattle.plan_types.specs.declared.posture.Posture.TheVariants.{Closed, Moving, OpenIn, OpenOut}
use Rattle.plan_types.specs.declared.call.Call.TheVariants.{Claim}
use Rattle.plan_types.specs.Same.{same_posture}
use Rattle.plan_types.specs.Below.{first_below}
use Rattle.plan_types.specs.Table.{PlanTable, zone_count, place_count}
use Rattle.plan_types.proofs.lemmas.Below.{first_below_none, first_below_all}
use Rattle.plan_rules.specs.Sound.{implies}
use Rattle.plan_motors.specs.declared.motor.ZoneNeed.{ZoneNeed}
use Rattle.plan_motors.specs.declared.motor.Motor.{Motor}
use Rattle.plan_motors.specs.Motor.{need_of, place_need}
use Rattle.plan_motors.specs.OfPlan.{motor_at}
use Rattle.plan_motors.specs.MotorPlan.{MotorTables}
use Rattle.plan_drives.specs.declared.line.Line.{Line}
use Rattle.plan_drives.specs.declared.line.Line.TheVariants.{Do, Await, Run}
use Rattle.plan_drives.specs.declared.undriven.Lack.{Lack}
use Rattle.plan_drives.specs.declared.undriven.Lack.TheVariants.{NoSuchMotor, OtherMachine, NotHeld, NotInPosture, NotFilled}
use Rattle.plan_drives.specs.declared.undriven.Undriven.{Undriven}
use Rattle.plan_drives.specs.Facts.{no_facts, facts_after_line, facts_along, facts_at}
use Rattle.plan_drives.specs.Program.{has_bit, runs_motor, Runs, posture_follows, zone_follows, is_known_as, place_follows, Backs, IsBackedAt, IsDriven}
use Rattle.plan_drives.specs.Lacking.{Lacks, IsUndriven, posture_lack, zone_lack, place_lack, zones_lack, places_lack, machine_lack, motor_lack, undriven_motor, undriven_line, undriven_of, undriven_at, undriven}

-- ---- what there is of several

none_both : {A : Type 0} (a b : Option A) → option_or a b ≡ None → (a ≡ None) × (b ≡ None)
none_both None b e = (refl, e)
none_both (Some x) b e = cc

both_none : {A : Type 0} (a b : Option A) → a ≡ None → b ≡ None → option_or a b ≡ None
both_none None b e f = f
both_none (Some x) b e f = cc

some_of : {A : Type 0} (a b : Option A) (x : A) → option_or a b ≡ Some x → (a ≡ Some x) ⊎ (b ≡ Some x)
some_of None b x e = inr e
some_of (Some y) b x e = inl e

some_is : {A : Type 0} (a b : A) → Some a ≡ Some b → a ≡ b
some_is {A} a b e = ap (λ (o : Option A). elim o as (λ _. A) [ None ↦ a | Some x ↦ x ]) e

none_unless : {A : Type 0} (b : Bool) (x : A) → then_some (not b) x ≡ None → b ≡ true
none_unless true x e = refl
none_unless false x e = cc

unless_none : {A : Type 0} (b : Bool) (x : A) → b ≡ true → then_some (not b) x ≡ None
unless_none true x e = refl
unless_none false x e = cc

then_is : {A : Type 0} (b : Bool) (x y : A) → then_some b x ≡ Some y → (b ≡ true) × (x ≡ y)
then_is true x y e = (refl, some_is x y e)
then_is false x y e = cc

first_below_some : {A : Type 0} (f : ℕ → Option A) (n : ℕ) (x : A) → first_below f n ≡ Some x → (i : ℕ) × (i < n) × (f i ≡ Some x)
first_below_some f zero x e = cc
first_below_some f (suc n) x e = elim (some_of (first_below f n) (f n) x e) [
  | inl h ↦ let found = first_below_some f n x h in (found.0, (let l = found.1 in omega (arith, l)), found.2)
  | inr h ↦ (n, omega arith, h)
]

-- ---- postures, zones and places

posture_none : (z : ℕ) (told needed : Option Posture) → posture_lack z told needed ≡ None → posture_follows told needed ≡ true
posture_none z told None e = refl
posture_none z told (Some needed) e = none_unless (posture_follows told (Some needed)) (NotInPosture z needed told) e

none_posture : (z : ℕ) (told needed : Option Posture) → posture_follows told needed ≡ true → posture_lack z told needed ≡ None
none_posture z told None e = refl
none_posture z told (Some needed) e = unless_none (posture_follows told (Some needed)) (NotInPosture z needed told) e

held_none : (need known : Bool) (lack : Lack) → then_some (need && not known) lack ≡ None → implies need known ≡ true
held_none true true lack e = refl
held_none true false lack e = cc
held_none false known lack e = refl

none_held : (need known : Bool) (lack : Lack) → implies need known ≡ true → then_some (need && not known) lack ≡ None
none_held true true lack e = refl
none_held true false lack e = cc
none_held false known lack e = refl

both : (a b : Bool) → a ≡ true → b ≡ true → (a && b) ≡ true
both true true e f = refl
both true false e f = cc
both false b e f = cc

zone_none : (z : ℕ) (known need : ZoneNeed) → zone_lack z known need ≡ None → zone_follows known need ≡ true
zone_none z known need e =
    let h = none_both (then_some (need.holds && not known.holds) (NotHeld z)) (posture_lack z known.posture need.posture) e in
    both (implies need.holds known.holds) (posture_follows known.posture need.posture) (held_none need.holds known.holds (NotHeld z) h.0) (posture_none z known.posture need.posture h.1)

none_zone : (z : ℕ) (known need : ZoneNeed) → zone_follows known need ≡ true → zone_lack z known need ≡ None
none_zone z known need e =
    let h = and_parts (implies need.holds known.holds) (posture_follows known.posture need.posture) e in
    both_none (then_some (need.holds && not known.holds) (NotHeld z)) (posture_lack z known.posture need.posture) (none_held need.holds known.holds (NotHeld z) h.0) (none_posture z known.posture need.posture h.1)

place_none : (p : ℕ) (told needed : Option Bool) → place_lack p told needed ≡ None → place_follows told needed ≡ true
place_none p told None e = refl
place_none p told (Some needed) e = none_unless (is_known_as told needed) (NotFilled p needed told) e

none_place : (p : ℕ) (told needed : Option Bool) → place_follows told needed ≡ true → place_lack p told needed ≡ None
none_place p told None e = refl
none_place p told (Some needed) e = unless_none (is_known_as told needed) (NotFilled p needed told) e

-- ---- a motor

-- what a motor needs is known
abbrev IsKnown : MotorTables → Motor → ℕ → Type 0
IsKnown plan known i = (i < length plan.motors) × Backs plan.plan known (motor_at plan.motors i)

motor_none : (plan : MotorTables) (known : Motor) (i : ℕ) → motor_lack plan known i ≡ None → IsKnown plan known i
motor_none plan known i e =
    let motor = motor_at plan.motors i in
    let t = plan.plan in
    let there = then_some (not (nat_lt i (length plan.motors))) NoSuchMotor in
    let own = machine_lack known motor in
    let zones = zones_lack plan known motor in
    let h3 = none_both (option_or (option_or there own) zones) (places_lack plan known motor) e in
    let h2 = none_both (option_or there own) zones h3.0 in
    let h1 = none_both there own h2.0 in
    let backs : Backs t known motor = record {
      machine = eqb-true motor.machine known.machine (none_unless (nat_eq motor.machine known.machine) (OtherMachine motor.machine) h1.1);
      zones = λ z l. zone_none z (need_of known z) (need_of motor z) (first_below_none (λ y. zone_lack y (need_of known y) (need_of motor y)) (zone_count t) h2.1 z l);
      places = λ p l. place_none p (place_need known p) (place_need motor p) (first_below_none (λ y. place_lack y (place_need known y) (place_need motor y)) (place_count t) h3.1 p l);
    } in
    (ltb-true i (length plan.motors) (none_unless (nat_lt i (length plan.motors)) NoSuchMotor h1.0), backs)

none_motor : (plan : MotorTables) (known : Motor) (i : ℕ) → IsKnown plan known i → motor_lack plan known i ≡ None
none_motor plan known i (l, b) =
    let motor = motor_at plan.motors i in
    let t = plan.plan in
    let there = then_some (not (nat_lt i (length plan.motors))) NoSuchMotor in
    let own = machine_lack known motor in
    let zones = zones_lack plan known motor in
    both_none (option_or (option_or there own) zones) (places_lack plan known motor)
    (both_none (option_or there own) zones
    (both_none there own (unless_none (nat_lt i (length plan.motors)) NoSuchMotor (lt-ltb i (length plan.motors) l)) (unless_none (nat_eq motor.machine known.machine) (OtherMachine motor.machine) (eq-eqb motor.machine known.machine b.machine)))
    (first_below_all (λ y. zone_lack y (need_of known y) (need_of motor y)) (zone_count t) (λ z m. none_zone z (need_of known z) (need_of motor z) (b.zones z m))))
    (first_below_all (λ y. place_lack y (place_need known y) (place_need motor y)) (place_count t) (λ p m. none_place p (place_need known p) (place_need motor p) (b.places p m)))

-- ---- what it lacks

same_self : (q : Posture) → same_posture q q ≡ true
same_self Closed = refl
same_self Moving = refl
same_self OpenIn = refl
same_self OpenOut = refl

not_true : (b : Bool) → not b ≡ true → b ≡ true → ⊥
not_true true e f = cc
not_true false e f = cc

posture_lacks : (plan : MotorTables) (known : Motor) (i z : ℕ) (lack : Lack) (needed : Option Posture) → z < zone_count plan.plan → (need_of (motor_at plan.motors i) z).posture ≡ needed
    → posture_lack z (need_of known z).posture needed ≡ Some lack → Lacks plan known i lack
posture_lacks plan known i z lack None l is e = cc
posture_lacks plan known i z lack (Some needed) l is e =
    let told = (need_of known z).posture in
    let h = then_is (not (posture_follows told (Some needed))) (NotInPosture z needed told) lack e in
    let other : told ≢ Some needed = λ same. not_true (posture_follows told (Some needed)) h.0 (ap (λ o. option_eq same_posture o (Some needed)) same ∙ same_self needed) in
    subst (Lacks plan known i) h.1 (l, is, refl, other)

zone_lacks : (plan : MotorTables) (known : Motor) (i z : ℕ) (lack : Lack) → z < zone_count plan.plan → zone_lack z (need_of known z) (need_of (motor_at plan.motors i) z) ≡ Some lack → Lacks plan known i lack
zone_lacks plan known i z lack l e =
    let need = need_of (motor_at plan.motors i) z in
    let has = need_of known z in
    elim (some_of (then_some (need.holds && not has.holds) (NotHeld z)) (posture_lack z has.posture need.posture) lack e) [
      | inl h ↦
          let is = then_is (need.holds && not has.holds) (NotHeld z) lack h in
          let parts = and_parts need.holds (not has.holds) is.0 in
          subst (Lacks plan known i) is.1 (l, parts.0, not_true has.holds parts.1)
      | inr h ↦ posture_lacks plan known i z lack need.posture l refl h
    ]

known_as_itself : (b : Bool) → is_known_as (Some b) b ≡ true
known_as_itself true = refl
known_as_itself false = refl

place_lacks : (plan : MotorTables) (known : Motor) (i p : ℕ) (lack : Lack) (needed : Option Bool) → p < place_count plan.plan → place_need (motor_at plan.motors i) p ≡ needed
    → place_lack p (place_need known p) needed ≡ Some lack → Lacks plan known i lack
place_lacks plan known i p lack None l is e = cc
place_lacks plan known i p lack (Some needed) l is e =
    let told = place_need known p in
    let h = then_is (not (is_known_as told needed)) (NotFilled p needed told) lack e in
    let other : told ≢ Some needed = λ same. not_true (is_known_as told needed) h.0 (ap (λ o. is_known_as o needed) same ∙ known_as_itself needed) in
    subst (Lacks plan known i) h.1 (l, is, refl, other)

motor_lacks : (plan : MotorTables) (known : Motor) (i : ℕ) (lack : Lack) → motor_lack plan known i ≡ Some lack → Lacks plan known i lack
motor_lacks plan known i lack e =
    let motor = motor_at plan.motors i in
    let t = plan.plan in
    let there = then_some (not (nat_lt i (length plan.motors))) NoSuchMotor in
    let own = machine_lack known motor in
    let zones = zones_lack plan known motor in
    elim (some_of (option_or (option_or there own) zones) (places_lack plan known motor) lack e) [
      | inr h ↦
          let found = first_below_some (λ y. place_lack y (place_need known y) (place_need motor y)) (place_count t) lack h in
          place_lacks plan known i found.0 lack (place_need motor found.0) found.1 refl found.2
      | inl g ↦ elim (some_of (option_or there own) zones lack g) [
        | inr h ↦
            let found = first_below_some (λ y. zone_lack y (need_of known y) (need_of motor y)) (zone_count t) lack h in
            zone_lacks plan known i found.0 lack found.1 found.2
        | inl f ↦ elim (some_of there own lack f) [
          | inl h ↦
              let is = then_is (not (nat_lt i (length plan.motors))) NoSuchMotor lack h in
              subst (Lacks plan known i) is.1 (ltb-false i (length plan.motors) (not_is (nat_lt i (length plan.motors)) is.0))
          | inr h ↦
              let is = then_is (not (nat_eq motor.machine known.machine)) (OtherMachine motor.machine) lack h in
              subst (Lacks plan known i) is.1 (refl, λ same. not_true (nat_eq motor.machine known.machine) is.0 (eq-eqb motor.machine known.machine same))
        ]
      ]
    ]
  where
    not_is : (b : Bool) → not b ≡ true → b ≡ false
    not_is true e = cc
    not_is false e = refl

-- and a motor that lacks something isn't known to have what it needs
lacks_not_known : (plan : MotorTables) (known : Motor) (i : ℕ) (lack : Lack) → Lacks plan known i lack → IsKnown plan known i → ⊥
lacks_not_known plan known i NoSuchMotor x (l, b) = let many : length plan.motors ≤ i = x in absurd (omega (arith, l, many))
lacks_not_known plan known i (OtherMachine n) x (l, b) = x.1 (sym x.0 ∙ b.machine)
lacks_not_known plan known i (NotHeld z) x (l, b) =
    let need = need_of (motor_at plan.motors i) z in
    let has = need_of known z in
    let h = and_parts (implies need.holds has.holds) (posture_follows has.posture need.posture) (b.zones z x.0) in
    x.2 (implied need.holds has.holds h.0 x.1)
  where
    implied : (a b : Bool) → implies a b ≡ true → a ≡ true → b ≡ true
    implied true b e f = e
    implied false b e f = cc
lacks_not_known plan known i (NotInPosture z needed told) x (l, b) =
    let need = need_of (motor_at plan.motors i) z in
    let has = need_of known z in
    let h = and_parts (implies need.holds has.holds) (posture_follows has.posture need.posture) (b.zones z x.0) in
    let is : option_eq same_posture has.posture (Some needed) ≡ true = subst (λ o. posture_follows has.posture o ≡ true) x.1 h.1 in
    x.3 (sym x.2 ∙ is_needed has.posture needed is)
  where
    same : (a b : Posture) → same_posture a b ≡ true → Some a ≡ Some b
    same Closed Closed e = refl
    same Moving Moving e = refl
    same OpenIn OpenIn e = refl
    same OpenOut OpenOut e = refl
    same Closed Moving e = cc
    same Closed OpenIn e = cc
    same Closed OpenOut e = cc
    same Moving Closed e = cc
    same Moving OpenIn e = cc
    same Moving OpenOut e = cc
    same OpenIn Closed e = cc
    same OpenIn Moving e = cc
    same OpenIn OpenOut e = cc
    same OpenOut Closed e = cc
    same OpenOut Moving e = cc
    same OpenOut OpenIn e = cc

    is_needed : (known : Option Posture) (needed : Posture) → option_eq same_posture known (Some needed) ≡ true → known ≡ Some needed
    is_needed None needed e = cc
    is_needed (Some q) needed e = same q needed e
lacks_not_known plan known i (NotFilled p needed told) x (l, b) =
    let is : is_known_as (place_need known p) needed ≡ true = subst (λ o. place_follows (place_need known p) o ≡ true) x.1 (b.places p x.0) in
    x.3 (sym x.2 ∙ is_needed (place_need known p) needed is)
  where
    is_needed : (known : Option Bool) (needed : Bool) → is_known_as known needed ≡ true → known ≡ Some needed
    is_needed None needed e = cc
    is_needed (Some true) true e = refl
    is_needed (Some true) false e = cc
    is_needed (Some false) true e = cc
    is_needed (Some false) false e = refl

-- ---- a line

map_none : {A B : Type 0} (f : A → B) (o : Option A) → option_map f o ≡ None → o ≡ None
map_none f None e = refl
map_none f (Some x) e = cc

none_map : {A B : Type 0} (f : A → B) (o : Option A) → o ≡ None → option_map f o ≡ None
none_map f None e = refl
none_map f (Some x) e = cc

map_some : {A B : Type 0} (f : A → B) (o : Option A) (y : B) → option_map f o ≡ Some y → (x : A) × (o ≡ Some x) × (f x ≡ y)
map_some f None y e = cc
map_some f (Some x) y e = (x, refl, some_is (f x) y e)

if_some : (b : Bool) (o : Option Lack) (x : Lack) → (if b then o else None) ≡ Some x → (b ≡ true) × (o ≡ Some x)
if_some true o x e = (refl, e)
if_some false o x e = cc

if_none : (b : Bool) (o : Option Lack) → b ≡ true → (if b then o else None) ≡ None → o ≡ None
if_none true o e f = f
if_none false o e f = cc

none_if : (b : Bool) (o : Option Lack) → (b ≡ true → o ≡ None) → (if b then o else None) ≡ None
none_if true o f = f refl
none_if false o f = refl

abbrev found : ℕ → ℕ → Lack → Undriven
found k i lack = record { line = k; motor = i; lack = lack }

abbrev IsLineKnown : MotorTables → Motor → Line → Type 0
IsLineKnown plan known line = (i : ℕ) → runs_motor line i ≡ true → IsKnown plan known i

line_none : (plan : MotorTables) (known : Motor) (k : ℕ) (line : Line) → undriven_line plan known k line ≡ None → IsLineKnown plan known line
line_none plan known k (Do c) e i bit = cc
line_none plan known k (Await z) e i bit = cc
line_none plan known k (Run motors) e i bit =
    let few = ltb-true i 64 (and_parts _ _ bit).0 in
    let here = first_below_none (undriven_motor plan known k motors) 64 e i few in
    motor_none plan known i (if_none (has_bit motors i) (motor_lack plan known i) bit (map_none (found k i) _ here))

none_line : (plan : MotorTables) (known : Motor) (k : ℕ) (line : Line) → IsLineKnown plan known line → undriven_line plan known k line ≡ None
none_line plan known k (Do c) all = refl
none_line plan known k (Await z) all = refl
none_line plan known k (Run motors) all =
    first_below_all (undriven_motor plan known k motors) 64 (λ i l. none_map (found k i) _ (none_if (has_bit motors i) (motor_lack plan known i) (λ bit. none_motor plan known i (all i bit))))

-- a line that runs a motor which lacks something
record LineLacks (plan : MotorTables) (known : Motor) (k : ℕ) (line : Line) (u : Undriven) : Type 0 where
  motor : ℕ
  lack : Lack
  is : found k motor lack ≡ u
  bit : runs_motor line motor ≡ true
  lacks : Lacks plan known motor lack

line_lacks : (plan : MotorTables) (known : Motor) (k : ℕ) (line : Line) (u : Undriven) → undriven_line plan known k line ≡ Some u → LineLacks plan known k line u
line_lacks plan known k (Do c) u e = cc
line_lacks plan known k (Await z) u e = cc
line_lacks plan known k (Run motors) u e =
    let one = first_below_some (undriven_motor plan known k motors) 64 u e in
    let i = one.0 in
    let made = map_some (found k i) (if has_bit motors i then motor_lack plan known i else None) u one.2 in
    let is = if_some (has_bit motors i) (motor_lack plan known i) made.0 made.1 in
    record { motor = i; lack = made.0; is = made.2; bit = is.0; lacks = motor_lacks plan known i made.0 is.1 }

-- ---- a line of a program

one_line : (program : List Line) (k : ℕ) (a b : Line) → slice_get program k ≡ Some a → slice_get program k ≡ Some b → a ≡ b
one_line program k a b e f = some_is a b (sym e ∙ f)

pub at_none : (plan : MotorTables) (m : ℕ) (program : List Line) (k : ℕ) → undriven_at plan m program k ≡ None → IsBackedAt plan m program k
at_none plan m program k e = λ i (x : Runs program k i).
    let known = facts_at plan.plan m program k in
    line_none plan known k x.0 (subst (λ o. undriven_of plan known k o ≡ None) x.1 e) i x.2

pub none_at : (plan : MotorTables) (m : ℕ) (program : List Line) (k : ℕ) → IsBackedAt plan m program k → undriven_at plan m program k ≡ None
none_at plan m program k backed = by (slice_get program k) refl
  where
    by : (o : Option Line) → slice_get program k ≡ o → undriven_of plan (facts_at plan.plan m program k) k o ≡ None
    by None is = refl
    by (Some line) is = none_line plan (facts_at plan.plan m program k) k line (λ i bit. backed i (line, is, bit))

pub at_some : (plan : MotorTables) (m : ℕ) (program : List Line) (k : ℕ) (u : Undriven) → undriven_at plan m program k ≡ Some u → (u.line ≡ k) × IsUndriven plan m program u
at_some plan m program k u e = by (slice_get program k) refl e
  where
    known : Motor
    known = facts_at plan.plan m program k

    by : (o : Option Line) → slice_get program k ≡ o → undriven_of plan known k o ≡ Some u → (u.line ≡ k) × IsUndriven plan m program u
    by None is e = cc
    by (Some line) is e =
        let x = line_lacks plan known k line u e in
        let here : IsUndriven plan m program (found k x.motor x.lack) = record { runs = (line, is, x.bit); lacks = x.lacks } in
        (sym (ap (λ (v : Undriven). v.line) x.is), subst (IsUndriven plan m program) x.is here)

pub undriven_not_backed : (plan : MotorTables) (m : ℕ) (program : List Line) (u : Undriven) → IsUndriven plan m program u → IsBackedAt plan m program u.line → ⊥
undriven_not_backed plan m program u x backed =
    lacks_not_known plan (facts_at plan.plan m program u.line) u.motor u.lack x.lacks (backed u.motor x.runs)

-- past the end no line runs anything
pub all_driven : (plan : MotorTables) (m : ℕ) (program : List Line) → ((k : ℕ) → k < length program → undriven_at plan m program k ≡ None) → IsDriven plan m program
all_driven plan m program each = λ k i (x : Runs program k i). at_none plan m program k (each k (slice_get_within program k x.0 x.1)) i x

-- a literal program of which no line lacks anything
pub driven_by : (plan : MotorTables) (m : ℕ) (program : List Line) → undriven plan m program ≡ None → IsDriven plan m program
driven_by plan m program e = all_driven plan m program (first_below_none (undriven_at plan m program) (length program) e)

-- ---- line by line

facts_more : (t : PlanTable) (f : Motor) (program : List Line) (k : ℕ) (line : Line) → slice_get program k ≡ Some line
    → facts_along t f (take (suc k) program) ≡ facts_after_line t (facts_along t f (take k program)) line
facts_more t f [] k line e = cc
facts_more t f (x ∷ xs) zero line e = ap (facts_after_line t f) (some_is x line e)
facts_more t f (x ∷ xs) (suc k) line e = facts_more t (facts_after_line t f x) xs k line e

abbrev pub line_of : List Line → ℕ → Line
line_of program k = get_or program k (Do (Claim 0))

line_there : (program : List Line) (k : ℕ) → k < length program → slice_get program k ≡ Some (line_of program k)
line_there program k l = slice_get-get_or program k (Do (Claim 0)) l

pub facts_there : (t : PlanTable) (m : ℕ) (program : List Line) (k : ℕ) (known : Motor) → k < length program → known ≡ facts_at t m program k
    → facts_after_line t known (line_of program k) ≡ facts_at t m program (k + 1)
facts_there t m program k known l is =
    let one : k + 1 ≡ suc k = omega arith in
    ap (λ x. facts_after_line t x (line_of program k)) is ∙ sym (ap (facts_at t m program) one ∙ facts_more t (no_facts m) program k (line_of program k) (line_there program k l))

pub undriven_here : (plan : MotorTables) (m : ℕ) (program : List Line) (k : ℕ) (known : Motor) → k < length program → known ≡ facts_at plan.plan m program k
    → undriven_line plan known k (line_of program k) ≡ undriven_at plan m program k
undriven_here plan m program k known l is =
    ap (λ x. undriven_line plan x k (line_of program k)) is ∙ sym (ap (undriven_of plan (facts_at plan.plan m program k) k) (line_there program k l))
