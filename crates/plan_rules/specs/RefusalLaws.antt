-- Laws of refusals, on every sound state of every plan.
use Rattle.std.specs.Prelude.{◌≡◌, ◌↔◌, ℕ, ◌<◌, ◌≤◌, Bool, cond, nat_eq, List, [], ◌∷◌, length, get_or, IsTrue}
use Rattle.std.specs.List.{list_any}
use Rattle.plan_types.specs.declared.call.Call.{Call}
use Rattle.plan_types.specs.declared.answer.Refusal.{Refusal}
use Rattle.plan_types.specs.declared.answer.Answer.TheVariants.{Refused}
use Rattle.plan_types.specs.Table.{PlanTable}
use Rattle.plan_rules.specs.declared.state.State.{State}
use Rattle.plan_rules.specs.Sound.{IsSound}
use Rattle.plan_rules.specs.Reply.{reply}
use Rattle.plan_rules.specs.Causes.{number_of, order_of, is_cause}

-- the rest of an order from one of its numbers on
abbrev pub from_on : ℕ → List ℕ → List ℕ
from_on n [] = []
from_on n (k ∷ ks) = cond (nat_eq k n) (k ∷ ks) (from_on n ks)

-- in an order a number is the same as another, or comes before it
abbrev pub is_no_later : List ℕ → ℕ → ℕ → Bool
is_no_later order n k = list_any (λ x. nat_eq x k) (from_on n order)

-- the answer is a refusal, this one or one that comes before it in the call's order
pub record IsRefusedBy (t : PlanTable) (s : State) (m : ℕ) (c : Call) (r : Refusal) : Type 0 where
  pub answered : Refusal
  pub answer : reply t s m c ≡ Refused answered
  pub order : IsTrue (is_no_later (order_of c) (number_of answered) (number_of r))

-- each refusal has its cause; and if a cause holds, the call is refused for it or for one that comes before it
pub record RefusalsTell : Type 0 where
  pub cause : (t : PlanTable) (s : State) (m : ℕ) (c : Call) (r : Refusal) → IsSound t s
      → reply t s m c ≡ Refused r → IsTrue (is_cause t s m c r)
  pub first : (t : PlanTable) (s : State) (m : ℕ) (c : Call) (r : Refusal) → IsSound t s
      → IsTrue (is_cause t s m c r) → IsRefusedBy t s m c r

-- in an order one number stands somewhere, and another stands there or later
pub record StandsNoLater (order : List ℕ) (n k : ℕ) : Type 0 where
  pub first : ℕ
  pub second : ℕ
  pub no_later : first ≤ second
  pub within : second < length order
  pub first_is : get_or order first 0 ≡ n
  pub second_is : get_or order second 0 ≡ k

abbrev pub OrdersAreKept : Type 0
OrdersAreKept = (order : List ℕ) (n k : ℕ) → IsTrue (is_no_later order n k) ↔ StandsNoLater order n k
