-- The values for each machine meet the rows.
use Rattle.std.proofs.Common.{◌≡◌, ℕ, refl, arith}
use Rattle.cell_rules.specs.Types.{Machine, Feed, Table, Robot, Press, Deposit, Crane, Watch}
use Rattle.cell_notes.specs.ByMachine.{HoldsOfEach, IsMadeOf, map_machines, with_machine}
use Rattle.cell_notes.specs.ValueRows.{ValueRows, none, numbered, one_at, ten_more}

one_is_not : (m : Machine) → ¬ HoldsOfEach (λ (n : ℕ). n ≡ 0) (one_at m)
one_is_not Feed h = let e : 1 ≡ 0 = h.feed in omega (arith, e)
one_is_not Table h = let e : 1 ≡ 0 = h.table in omega (arith, e)
one_is_not Robot h = let e : 1 ≡ 0 = h.robot in omega (arith, e)
one_is_not Press h = let e : 1 ≡ 0 = h.press in omega (arith, e)
one_is_not Deposit h = let e : 1 ≡ 0 = h.deposit in omega (arith, e)
one_is_not Crane h = let e : 1 ≡ 0 = h.crane in omega (arith, e)
one_is_not Watch h = let e : 1 ≡ 0 = h.watch in omega (arith, e)

made_otherwise : (m : Machine) → ¬ IsMadeOf (λ (a b : ℕ). b ≡ ten_more a) numbered (with_machine (map_machines ten_more numbered) m none)
made_otherwise Feed h = let e : 0 ≡ 11 = h.feed in omega (arith, e)
made_otherwise Table h = let e : 0 ≡ 12 = h.table in omega (arith, e)
made_otherwise Robot h = let e : 0 ≡ 13 = h.robot in omega (arith, e)
made_otherwise Press h = let e : 0 ≡ 14 = h.press in omega (arith, e)
made_otherwise Deposit h = let e : 0 ≡ 15 = h.deposit in omega (arith, e)
made_otherwise Crane h = let e : 0 ≡ 16 = h.crane in omega (arith, e)
made_otherwise Watch h = let e : 0 ≡ 17 = h.watch in omega (arith, e)

pub value-rows : ValueRows
value-rows = record {
  order = refl;
  at = refl;
  put = refl;
  given = refl;
  each = refl;
  mapped = refl;
  small = record { feed = omega arith; table = omega arith; robot = omega arith; press = omega arith; deposit = omega arith; crane = omega arith; watch = omega arith };
  one_is_not = one_is_not;
  made = record { feed = refl; table = refl; robot = refl; press = refl; deposit = refl; crane = refl; watch = refl };
  one_is_made_otherwise = made_otherwise;
  below = record { turns = omega arith; done = omega arith; read = omega arith; refused = omega arith; busy = omega arith };
  turns = λ k. absurd (omega (arith, k.turns));
  done = λ k. absurd (omega (arith, k.done));
  read = λ k. absurd (omega (arith, k.read));
  refused = λ k. absurd (omega (arith, k.refused));
  busy = λ k. absurd (omega (arith, k.busy));
  room = record { turns = omega arith; done = omega arith; read = omega arith; refused = omega arith; busy = omega arith };
  no_room = λ k. absurd (omega (arith, k.busy));
}
