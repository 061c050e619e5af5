-- Laws of refusals, on every sound state and along every legal history.
use Rattle.std.specs.Prelude.{◌≡◌, ℕ, Bool, cond, nat_eq, List, [], ◌∷◌, ◌++◌, IsTrue}
use Rattle.std.specs.List.{list_any}
use Rattle.cell_rules.specs.Types.{Machine, Call, Refusal, Refused, Event, number_of}
use Rattle.cell_rules.specs.ModelState.{ModelState}
use Rattle.cell_rules.specs.Sound.{IsSound}
use Rattle.cell_rules.specs.Reply.{reply}
use Rattle.cell_rules.specs.History.{after}
use Rattle.cell_rules.specs.Causes.{order_of, is_cause}

-- the rest of an order from one of its numbers on
abbrev pub from_on : ℕ → List ℕ → List ℕ
from_on n [] = []
from_on n (k ∷ ks) = cond (nat_eq k n) (k ∷ ks) (from_on n ks)

-- in an order a number is the same as another, or comes before it
abbrev pub is_no_later : List ℕ → ℕ → ℕ → Bool
is_no_later order n k = list_any (λ x. nat_eq x k) (from_on n order)

-- the answer is a refusal, this one or one that comes before it in the call's order
pub record IsRefusedBy (s : ModelState) (m : Machine) (c : Call) (r : Refusal) : Type 0 where
  pub answered : Refusal
  pub answer : reply s m c ≡ Refused answered
  pub order : IsTrue (is_no_later (order_of c) (number_of answered) (number_of r))

-- each refusal has its cause; and if a cause holds, the call is refused for it or for one that comes before it
pub record RefusalsTell : Type 0 where
  pub cause : (s : ModelState) (m : Machine) (c : Call) (r : Refusal) → IsSound s → reply s m c ≡ Refused r
      → IsTrue (is_cause s m c r)
  pub first : (s : ModelState) (m : Machine) (c : Call) (r : Refusal) → IsSound s
      → IsTrue (is_cause s m c r) → IsRefusedBy s m c r

abbrev pub refused : Machine → Call → Refusal → Event
refused m c r = record { machine = m; call = c; answer = Refused r }

-- each refusal in a history has its cause in the state at that point
abbrev pub RefusalsTellAlong : ModelState → List Event → Type 0
RefusalsTellAlong s h =
    (before rest : List Event) (m : Machine) (c : Call) (r : Refusal) → h ≡ before ++ refused m c r ∷ rest
    → IsTrue (is_cause (after s before) m c r)
