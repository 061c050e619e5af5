-- A literal history is legal if its answers compute to the replies.
use Rattle.std.proofs.Common.{◌≡◌, List, [], ◌∷◌, ap}
use Rattle.plan_types.specs.declared.answer.Answer.{Answer}
use Rattle.plan_types.specs.declared.answer.Event.{Event}
use Rattle.plan_types.specs.Table.{PlanTable}
use Rattle.plan_rules.specs.declared.state.State.{State}
use Rattle.plan_rules.specs.Reply.{reply, next}
use Rattle.plan_rules.specs.History.{IsLegal}

-- what a list of calls is answered
abbrev pub answers_to : PlanTable → State → List Event → List Answer
answers_to t s [] = []
answers_to t s (e ∷ h) = reply t s e.machine e.call ∷ answers_to t (next t s e.machine e.call) h

abbrev pub answers_in : List Event → List Answer
answers_in [] = []
answers_in (e ∷ h) = e.answer ∷ answers_in h

pub legal_by : (t : PlanTable) (s : State) (h : List Event) → answers_in h ≡ answers_to t s h → IsLegal t s h
legal_by t s [] e = tt
legal_by t s (e ∷ h) same = (
  ap (λ (xs : List Answer). elim xs as (λ _. Answer) [ [] ↦ e.answer | x ∷ xs ↦ x ]) same,
  legal_by t (next t s e.machine e.call) h (ap (λ (xs : List Answer). elim xs as (λ _. List Answer) [ [] ↦ [] | x ∷ xs ↦ xs ]) same),
)
