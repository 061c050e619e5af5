-- Each machine of a plan has one pass, and so has the watch.
use Rattle.std.proofs.Common.{◌≡◌, ◌≢◌, ℕ, zero, suc, ◌+◌, ◌<◌, ◌≤◌, min, Bool, true, false, nat_eq, if◌then◌else◌, [], ◌∷◌, ◌++◌, refl, ap, ◌∙◌, arith}
use Rattle.std.proofs.lemmas.Bool.Decides.{nat_tests}
use Rattle.std.specs.List.{range_with_len}
use Rattle.plan_types.specs.Table.{PlanTable, watch}
use Rattle.plan_types.specs.Plan.{IsPlan}
use Rattle.word_interlock.specs.RuleBook.{times}
use Rattle.plan_interlock.specs.BookKept.{one_number, times-append, below-range, past-range}
use Rattle.plan_interlock.specs.Callers.{EveryMachineCalls, passes_of}

apart : (m n : ℕ) → m ≢ n → nat_eq n m ≡ false
apart m n e = grind (arith, nat_tests, e)

abbrev once_if : Bool → ℕ
once_if b = if b then 1 else 0

-- a number of a range stands in it once
in-range : (m a n : ℕ) → a ≤ m → m < a + n → times nat_eq m (range_with_len a n) ≡ 1
in-range m a zero low high = absurd (omega (arith, low, high))
in-range m a (suc n) low high = go (nat_eq a m) refl (in-range m (a + 1) n)
  where
    go : (b : Bool) → nat_eq a m ≡ b → (a + 1 ≤ m → m < a + 1 + n → times nat_eq m (range_with_len (a + 1) n) ≡ 1)
        → times nat_eq m (range_with_len a (suc n)) ≡ 1
    go true e rest =
        let head = ap (λ (b : Bool). (if b then 1 else 0) + times nat_eq m (range_with_len (a + 1) n)) e in
        omega (arith, head, below-range m (a + 1) n (omega (arith, one_number a m e)))
    go false e rest =
        let head = ap (λ (b : Bool). (if b then 1 else 0) + times nat_eq m (range_with_len (a + 1) n)) e in
        let above : a + 1 ≤ m = grind (arith, nat_tests, low, e) in
        omega (arith, head, rest above (omega (arith, high)))

pub all-machines : (n : ℕ) → n ≤ 30 → min n 30 ≡ n
all-machines n few = grind (arith, few)

-- the watch stands at the end alone
at-the-end : (m n : ℕ) → times nat_eq m (range_with_len 0 n ++ watch ∷ []) ≡ times nat_eq m (range_with_len 0 n) + once_if (nat_eq 30 m)
at-the-end m n = omega (arith, times-append m (range_with_len 0 n) (watch ∷ []))

among : (t : PlanTable) (m : ℕ) → IsPlan t → passes_of t m ≡ times nat_eq m (range_with_len 0 t.machines) + once_if (nat_eq 30 m)
among t m is =
    ap (λ n. times nat_eq m (range_with_len 0 n ++ watch ∷ [])) (all-machines t.machines is.machines_at_most)
    ∙ at-the-end m t.machines

pub every_machine_calls : (t : PlanTable) → IsPlan t → EveryMachineCalls t
every_machine_calls t is = record {
  each_machine = λ m low.
      let other = ap once_if (apart m 30 (below low)) in
      omega (arith, among t m is, in-range m 0 t.machines (omega arith) (omega (arith, low)), other);
  the_watch = omega (arith, among t watch is, past-range watch 0 t.machines few);
  nobody_else = λ m high other.
      let last = ap once_if (apart m 30 other) in
      omega (arith, among t m is, past-range m 0 t.machines (omega (arith, high)), last);
}
  where
    few : 0 + t.machines ≤ 30
    few = omega (arith, is.machines_at_most)

    below : {m : ℕ} → m < t.machines → m ≢ 30
    below {m} low e = omega (arith, low, e, is.machines_at_most)
