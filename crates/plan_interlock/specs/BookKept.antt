-- The rules of a plan owe what an interlock on a word asks of rules.
use Rattle.std.proofs.Common.{◌≡◌, ℕ, zero, suc, ◌+◌, ◌<◌, ◌≤◌, min, Bool, true, false, nat_eq, if◌then◌else◌, List}
use Rattle.std.proofs.Common.{[], ◌∷◌, ◌++◌, refl, ap, arith}
use Rattle.std.proofs.lemmas.Bool.Decides.{nat_tests}
use Rattle.std.specs.List.{range_with_len}
use Rattle.plan_types.specs.declared.call.Call.{Call}
use Rattle.plan_types.specs.declared.answer.Answer.{Answer}
use Rattle.plan_types.specs.declared.answer.Answer.TheVariants.{Done, Shown, Refused}
use Rattle.plan_types.specs.Table.{PlanTable, watch}
use Rattle.plan_rules.specs.declared.state.State.{State}
use Rattle.plan_rules.specs.Reply.{reply, next_by}
use Rattle.plan_rules.specs.History.{is_done_answer}
use Rattle.plan_word.proofs.lemmas.Staying.{next_stays}
use Rattle.word_interlock.specs.RuleBook.{IsRuleBook, times}
use Rattle.plan_interlock.specs.Book.{plan_book}

quiet_by : (a : Answer) (t : PlanTable) (s : State) (m : ℕ) (c : Call) → is_done_answer a ≡ false
    → next_by a t s m c ≡ s
quiet_by Done t s m c e = cc
quiet_by (Shown o f p) t s m c e = refl
quiet_by (Refused r) t s m c e = refl

counts_by : (a : Answer) (t : PlanTable) (s : State) (m : ℕ) (c : Call) → is_done_answer a ≡ true
    → (next_by a t s m c).stamp ≡ s.stamp + 1
counts_by Done t s m c e = refl
counts_by (Shown o f p) t s m c e = cc
counts_by (Refused r) t s m c e = cc

itself : (m : ℕ) → nat_eq m m ≡ true
itself m = grind (arith, nat_tests)

pub one_number : (m n : ℕ) → nat_eq m n ≡ true → m ≡ n
one_number m n e = grind (arith, nat_tests, e)

other_number : (m n : ℕ) → m < n → (nat_eq n m ≡ false) × (nat_eq m n ≡ false)
other_number m n less = (grind (arith, nat_tests, less), grind (arith, nat_tests, less))

pub times-append : (m : ℕ) (xs ys : List ℕ) → times nat_eq m (xs ++ ys) ≡ times nat_eq m xs + times nat_eq m ys
times-append m [] ys = omega arith
times-append m (x ∷ xs) ys = omega (arith, times-append m xs ys)

-- a number below a range isn't in it, nor one past its end; one within is in it once
pub below-range : (m a n : ℕ) → m < a → times nat_eq m (range_with_len a n) ≡ 0
below-range m a zero less = refl
below-range m a (suc n) less =
    let rest = below-range m (a + 1) n (omega (arith, less)) in
    let head = ap (λ (b : Bool). (if b then 1 else 0) + times nat_eq m (range_with_len (a + 1) n))
    (other_number m a less).0 in
    omega (arith, head, rest)

pub past-range : (m a n : ℕ) → a + n ≤ m → times nat_eq m (range_with_len a n) ≡ 0
past-range m a zero past = refl
past-range m a (suc n) past =
    let rest = past-range m (a + 1) n (omega (arith, past)) in
    let head = ap (λ (b : Bool). (if b then 1 else 0) + times nat_eq m (range_with_len (a + 1) n))
    (other_number a m (omega (arith, past))).1 in
    omega (arith, head, rest)

once-in-range : (m a n : ℕ) → times nat_eq m (range_with_len a n) ≤ 1
once-in-range m a zero = omega arith
once-in-range m a (suc n) = go (nat_eq a m) refl (once-in-range m (a + 1) n)
  where
    go : (b : Bool) → nat_eq a m ≡ b → times nat_eq m (range_with_len (a + 1) n) ≤ 1
        → (if b then 1 else 0) + times nat_eq m (range_with_len (a + 1) n) ≤ 1
    go true e rest = omega (arith, below-range m (a + 1) n (omega (arith, one_number a m e)))
    go false e rest = omega (arith, rest)

once-among : (m n : ℕ) → n ≤ 30 → times nat_eq m (range_with_len 0 n ++ watch ∷ []) ≤ 1
once-among m n few = go (nat_eq 30 m) refl
  where
    both : times nat_eq m (range_with_len 0 n ++ watch ∷ [])
        ≡ times nat_eq m (range_with_len 0 n) + times nat_eq m (watch ∷ [])
    both = times-append m (range_with_len 0 n) (watch ∷ [])

    go : (b : Bool) → nat_eq 30 m ≡ b → times nat_eq m (range_with_len 0 n ++ watch ∷ []) ≤ 1
    go true e =
        let last : times nat_eq m (watch ∷ []) ≡ 1 = ap (λ (b : Bool). (if b then 1 else 0) + 0) e in
        omega (arith, both, last, past-range m 0 n (omega (arith, one_number 30 m e, few)))
    go false e =
        let last : times nat_eq m (watch ∷ []) ≡ 0 = ap (λ (b : Bool). (if b then 1 else 0) + 0) e in
        omega (arith, both, last, once-in-range m 0 n)

few_machines : (n : ℕ) → min n 30 ≤ 30
few_machines n = grind arith

pub plan_is_rule_book : (t : PlanTable) → IsRuleBook (plan_book t)
plan_is_rule_book t = record {
  keeps = λ s m c k. (k.0, next_stays t s m c k.0 k.1);
  quiet = λ s m c e. quiet_by (reply t s m c) t s m c e;
  counts = λ s m c e. counts_by (reply t s m c) t s m c e;
  itself = itself;
  one = one_number;
  once = λ m. once-among m (min t.machines 30) (few_machines t.machines);
  actor = λ m c a. refl;
  call = λ m c a. refl;
  answer = λ m c a. refl;
}
