-- A place counts a plate exactly if it has one, or one comes to it.
use Rattle.std.proofs.Common.{◌≡◌, inl, inr, ℕ, zero, suc, ◌+◌, ◌<◌, Bool, true, false, Option, Some, None}
use Rattle.std.proofs.Common.{refl, ap, arith, eq-eqb}
use Rattle.std.proofs.lemmas.Bool.{eqb-true}
use Rattle.std.specs.Cmp.{first_so, second_so}
use Rattle.plan_types.specs.declared.table.Transfer.{Transfer}
use Rattle.plan_types.specs.Below.{sum_below}
use Rattle.plan_types.specs.Table.{PlanTable, zone_count, transfer_of}
use Rattle.plan_rules.specs.declared.state.State.{State}
use Rattle.plan_rules.specs.State.{zone_at, posture_at, is_full, one_if, leads_to, is_coming, plates_for}
use Rattle.plan_rules.specs.PlaceLaws.{ComesThrough, HasOrGets}
use Rattle.plan_rules.proofs.lemmas.Below.{sum_below_at_least}

abbrev Passes : (ℕ → Bool) → ℕ → Type 0
Passes test n = (z : ℕ) × (z < n) × (test z ≡ true)

abbrev count : (ℕ → Bool) → ℕ → ℕ
count test n = sum_below (λ z. one_if (test z)) n

last_or_lower : (test : ℕ → Bool) (n : ℕ) (b : Bool) → test n ≡ b → 0 < count test n + one_if (test n)
    → (0 < count test n → Passes test n) → Passes test (suc n)
last_or_lower test n true e some lower = (n, omega arith, e)
last_or_lower test n false e some lower =
    let none : one_if (test n) ≡ 0 = ap one_if e in
    let found = lower (omega (arith, some, none)) in
    let below = found.1 in
    (found.0, omega (arith, below), found.2)

passes : (test : ℕ → Bool) (n : ℕ) → 0 < count test n → Passes test n
passes test zero some = absurd (omega (arith, some))
passes test (suc n) some = last_or_lower test n (test n) refl some (passes test n)

led : (o : Option Transfer) (p : ℕ) → leads_to o p ≡ true → (way : Transfer) × (o ≡ Some way) × (way.to ≡ p)
led None p e = cc
led (Some way) p e = (way, refl, eqb-true way.to p e)

abbrev comes_by : PlanTable → State → ℕ → ℕ → Bool
comes_by t s p z = is_coming t (zone_at s z) p z

comes : (t : PlanTable) (s : State) (p : ℕ) → Passes (comes_by t s p) (zone_count t) → HasOrGets t s p
comes t s p found =
    let z = found.0 in
    let flag = (zone_at s z).flag in
    let leads = leads_to (transfer_of t z (posture_at s z)) p in
    let way = led (transfer_of t z (posture_at s z)) p (second_so flag leads found.2) in
    inr (z, (found.1, first_so flag leads found.2, way.0, way.1, way.2))

has_or_gets : (t : PlanTable) (s : State) (p : ℕ) (b : Bool) → is_full s p ≡ b → 0 < plates_for t s p
    → HasOrGets t s p
has_or_gets t s p true e some = inl e
has_or_gets t s p false e some =
    let none : one_if (is_full s p) ≡ 0 = ap one_if e in
    comes t s p (passes (comes_by t s p) (zone_count t) (omega (arith, some, none)))

pub filled_by : (t : PlanTable) (s : State) (p : ℕ) → 0 < plates_for t s p → HasOrGets t s p
filled_by t s p some = has_or_gets t s p (is_full s p) refl some

it_comes : (t : PlanTable) (s : State) (p z : ℕ) → ComesThrough t s p z → comes_by t s p z ≡ true
it_comes t s p z through = rw (through.1, through.3, eq-eqb _ _ through.4) refl

pub counts_plate : (t : PlanTable) (s : State) (p : ℕ) → HasOrGets t s p → 0 < plates_for t s p
counts_plate t s p (inl full) = let one : one_if (is_full s p) ≡ 1 = ap one_if full in omega (arith, one)
counts_plate t s p (inr found) =
    let z = found.0 in
    let one : one_if (comes_by t s p z) ≡ 1 = ap one_if (it_comes t s p z found.1) in
    let least = sum_below_at_least (λ y. one_if (comes_by t s p y)) z (zone_count t) found.1.0 in
    omega (arith, one, least)
