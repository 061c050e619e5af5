-- Prefixes of histories, and the states after them.
use Rattle.std.proofs.Common.{◌≡◌, ℕ, List, [], ◌∷◌, ◌++◌, refl, sym, subst}
use Rattle.plan_types.specs.declared.call.Call.{Call}
use Rattle.plan_types.specs.declared.answer.Answer.TheVariants.{Done}
use Rattle.plan_types.specs.declared.answer.Event.{Event}
use Rattle.plan_types.specs.Table.{PlanTable}
use Rattle.plan_types.specs.Plan.{IsPlan}
use Rattle.plan_rules.specs.declared.state.State.{State}
use Rattle.plan_rules.specs.Sound.{IsSound}
use Rattle.plan_rules.specs.Reply.{reply, next}
use Rattle.plan_rules.specs.History.{after, IsLegal}
use Rattle.plan_rules.specs.Laws.{Throughout, done}
use Rattle.plan_rules.proofs.lemmas.Soundness.{next_keeps}

pub after-append : (t : PlanTable) (s : State) (a b : List Event) → after t s (a ++ b) ≡ after t (after t s a) b
after-append t s [] b = refl
after-append t s (e ∷ a) b = after-append t (next t s e.machine e.call) a b

pub legal-left : (t : PlanTable) (s : State) (a b : List Event) → IsLegal t s (a ++ b) → IsLegal t s a
legal-left t s [] b l = tt
legal-left t s (e ∷ a) b l = (l.0, legal-left t (next t s e.machine e.call) a b l.1)

-- a law of legal histories holds of each prefix of one
pub throughout : (t : PlanTable) (s : State) (Law : List Event → Type 0) → ((h : List Event) → IsLegal t s h → Law h) → (h : List Event) → IsLegal t s h → Throughout Law h
throughout t s Law each h l before more e = each before (legal-left t s before more (subst (IsLegal t s) e l))

pub sound-after : (t : PlanTable) (s : State) (h : List Event) → IsPlan t → IsSound t s → IsSound t (after t s h)
sound-after t s [] p k = k
sound-after t s (e ∷ h) p k = sound-after t (next t s e.machine e.call) h p (next_keeps t s e.machine e.call p k)

-- an event's answer is the reply at the state before it
legal_at : (t : PlanTable) (s : State) (before : List Event) (e : Event) (rest : List Event) → IsLegal t s (before ++ e ∷ rest) → e.answer ≡ reply t (after t s before) e.machine e.call
legal_at t s [] e rest l = l.0
legal_at t s (x ∷ before) e rest l = legal_at t (next t s x.machine x.call) before e rest l.1

pub replies_done : (t : PlanTable) (s : State) (h before : List Event) (m : ℕ) (c : Call) (rest : List Event) → IsLegal t s h → h ≡ before ++ done m c ∷ rest → reply t (after t s before) m c ≡ Done
replies_done t s h before m c rest l e = sym (legal_at t s before (done m c) rest (subst (IsLegal t s) e l))
