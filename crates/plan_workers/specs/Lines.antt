-- A line by a pass: what contracts see of it, and what a call does to it.
use Rattle.std.specs.Prelude.{◌≡◌, ℕ, List, [], ◌∷◌, Option, Some, None}
use Rattle.plan_types.specs.declared.call.Call.{Call}
use Rattle.plan_types.specs.declared.answer.Answer.{Answer}
use Rattle.plan_types.specs.declared.answer.Event.{Event}
use Rattle.plan_types.specs.Table.{PlanTable}
use Rattle.plan_rules.specs.declared.state.State.{State}
use Rattle.plan_rules.specs.Reply.{next}
use Rattle.plan_rules.specs.History.{IsLegal}
use Rattle.word_interlock.specs.declared.reply.Reply.{Reply}
use Rattle.word_interlock.specs.declared.reply.Reply.TheVariants.{Settled, Busy}
use Rattle.word_interlock.specs.History.{IsLegal as IsLegalBy, IsLawful}
use Rattle.word_interlock.specs.Views.{PassView}
use Rattle.word_interlock.specs.Asked.{Asked}
use Rattle.plan_interlock.specs.declared.rules.PlanRules.{PlanRules}
use Rattle.plan_interlock.specs.Book.{plan_book}

abbrev pub PlanPassView : Type 0
PlanPassView = PassView PlanRules State ℕ Event

-- a line: its pass, the plan, how many exchanges a call may lose; and what the pass has seen is a legal history by this
-- plan, from a sound opening
pub record LineView : Type 0 where
  pub pass : PlanPassView
  pub plan : PlanTable
  pub tries : ℕ
  pub kept : ∥ IsLawful (plan_book plan) pass.opening pass.seen ∥₁

-- a Busy call wasn't made
abbrev pub answer_in : Reply Answer → Option Answer
answer_in (Settled answer stamp) = Some answer
answer_in (Busy lost stamp) = None

-- a call of a line is one of the interlock, by its pass, with all that the interlock promises of it; the plan stays,
-- and a later call may lose as many exchanges
pub record LineAsks (l : LineView) (c : Call) (answer : Option Answer) (d : LineView) : Type 0 where
  pub reply : Reply Answer
  pub is : answer ≡ answer_in reply
  pub call : Asked (plan_book l.plan) [] l.pass c l.tries reply d.pass
  pub plan : d.plan ≡ l.plan
  pub tries : d.tries ≡ l.tries

-- a legal history of the interlock's rules is one of the plan
pub legal_here : (t : PlanTable) (s : State) (h : List Event) → IsLegalBy (plan_book t) s h → IsLegal t s h
legal_here t s [] l = tt
legal_here t s (e ∷ h) l = (l.0, legal_here t (next t s e.machine e.call) h l.1)
