-- The plates that the press has, or that are on their way into it or out of it: only the robot changes their number.
use Rattle.cell_team.proofs.Names.{◌≡◌, ℕ, ◌+◌, Bool, true, false, ◌&&◌, cond, refl, arith, Machine, Feed, Robot, Press, Zone, Z3, PressIn, PressOut, Call, Give, Take, Advance, Answer, Done, Shown, Refused, same_machine, ModelState, zone_at, is_full, one_if, IsSound, is_party, give_refusal, take_refusal, reply, next, next_by, changed, gives, takes, fills, empties, and_left, give_done, take_done, done_none}
use Rattle.cell_rules.proofs.lemmas.CountedPlates.{place-changed}
use Rattle.cell_rules.proofs.lemmas.Flags.{flag-changed}

abbrev pub inside : ModelState → ℕ
inside z = one_if (is_full z PressIn) + one_if (is_full z PressOut) + one_if (zone_at z Z3).flag

-- the robot brings a plate, or takes one away
abbrev pub brings : Machine → Call → ℕ
brings n c = cond (gives c Z3 && same_machine n Robot) 1 0

abbrev pub takes_away : Machine → Call → ℕ
takes_away n c = cond (takes c Z3 && same_machine n Robot) 1 0

abbrev Balances : Machine → Call → Type 0
Balances n c =
    cond (fills n c PressIn) 1 0 + cond (fills n c PressOut) 1 0 + cond (gives c Z3) 1 0 + takes_away n c
    ≡ cond (empties n c PressIn) 1 0 + cond (empties n c PressOut) 1 0 + cond (takes c Z3) 1 0 + brings n c

give_balances : (n : Machine) (y : Zone) → is_party n y ≡ true → Balances n (Give y)
give_balances Press Z3 party = refl
give_balances Robot Z3 party = refl
give_balances _ Z3 party = cc
give_balances Feed _ party = refl
give_balances _ _ party = refl

take_balances : (n : Machine) (y : Zone) → is_party n y ≡ true → Balances n (Take y)
take_balances Press Z3 party = refl
take_balances Robot Z3 party = refl
take_balances _ Z3 party = cc
take_balances Feed _ party = refl
take_balances _ _ party = refl

work_balances : (n : Machine) → Balances n Advance
work_balances Press = refl
work_balances _ = refl

balances : (z : ModelState) (n : Machine) (c : Call) → reply z n c ≡ Done → Balances n c
balances z n (Give y) d = give_balances n y (and_left _ _ (give_done z n y (done_none (give_refusal z n y) d)).0)
balances z n (Take y) d = take_balances n y (and_left _ _ (take_done z n y (done_none (take_refusal z n y) d)).0)
balances z n Advance d = work_balances n
balances z n _ d = refl

pub inside-changed : (z : ModelState) (n : Machine) (c : Call) → IsSound z → reply z n c ≡ Done → inside z + brings n c ≡ inside (changed z n c) + takes_away n c
inside-changed z n c sound d =
    let first = place-changed PressIn z n c sound d in
    let second = place-changed PressOut z n c sound d in
    let third = flag-changed Z3 z n c sound d in
    let same = balances z n c d in
    omega (arith, first, second, third, same)

stranger : (b t : Bool) → b ≡ false → cond {A = ℕ} (t && b) 1 0 ≡ 0
stranger true t e = cc
stranger false true e = refl
stranger false false e = refl

inside_by : (a : Answer) (z : ModelState) (n : Machine) (c : Call) → reply z n c ≡ a → same_machine n Robot ≡ false → IsSound z → inside (next_by a z n c) ≡ inside z
inside_by Done z n c e apart sound =
    let moved = inside-changed z n c sound e in
    let none = stranger (same_machine n Robot) (gives c Z3) apart in
    let no_other = stranger (same_machine n Robot) (takes c Z3) apart in
    omega (arith, moved, none, no_other)
inside_by (Refused r) z n c e apart sound = refl
inside_by (Shown o f q) z n c e apart sound = refl

pub inside-foreign : (z : ModelState) (n : Machine) (c : Call) → IsSound z → same_machine n Robot ≡ false → inside (next z n c) ≡ inside z
inside-foreign z n c sound apart = inside_by (reply z n c) z n c refl apart sound

-- no plate inside
pub none_inside : (a b c : Bool) → one_if a + one_if b + one_if c ≡ 0 → (a ≡ false) × (b ≡ false) × (c ≡ false)
none_inside false false false e = (refl, refl, refl)
none_inside true b c e = absurd (omega arith)
none_inside false true c e = absurd (omega arith)
none_inside false false true e = absurd (omega arith)
