-- The journals of the passes of an interlock that has ended.
use Rattle.std.specs.Prelude.{◌≡◌, ◌⊎◌, ⊤, ℕ, List, [], ◌∷◌, Some}
use Rattle.plan_types.specs.declared.answer.Event.{Event}
use Rattle.plan_types.specs.Table.{PlanTable}
use Rattle.plan_rules.specs.declared.state.State.{State}
use Rattle.plan_rules.specs.History.{own_events}
use Rattle.word_interlock.specs.declared.views.ActorView.{ActorView}
use Rattle.word_interlock.specs.Bunches.{IsEnd}
use Rattle.plan_interlock.specs.declared.rules.PlanRules.{PlanRules}
use Rattle.plan_interlock.specs.Book.{plan_book}
use Rattle.plan_workers.specs.Journals.{IsJournal}
use Rattle.plan_workers.specs.Audited.{AreByCallers, IsAudited, Journals}

-- the passes that came back at the end of an interlock
abbrev pub Passes : Type 0
Passes = List (ActorView PlanRules State ℕ Event)

abbrev pub IsOneOf : ℕ → Passes → Type 0
IsOneOf m [] = ⊥
IsOneOf m (p ∷ rest) = (p.actor ≡ m) ⊎ IsOneOf m rest

-- the journal of each is its machine's, of all that its pass has seen
abbrev pub AreKept : ℕ → Passes → Journals → Type 0
AreKept opening [] journals = ⊤
AreKept opening (p ∷ rest) journals =
    IsJournal opening p.actor [] p.seen (journals p.actor) × AreKept opening rest journals

-- nobody else has called, or has a journal
pub record NobodyElse (passes : Passes) (journals : Journals) (history : List Event) : Type 0 where
  pub callers : AreByCallers history
  pub events : (m : ℕ) → ¬ IsOneOf m passes → own_events history m ≡ []
  pub empty : (m : ℕ) → ¬ IsOneOf m passes → journals m ≡ []

-- An interlock has ended; these passes came back, each with its journal, and nobody else has called. Then its history
-- explains the journals, and ends in the state that the interlock left
abbrev pub ClosedJournalsAreExplained : Type 0
ClosedJournalsAreExplained =
    (t : PlanTable) (opening s : State) (passes : Passes) (journals : Journals)
    (end : IsEnd (plan_book t) opening passes s)
    → AreKept opening.stamp passes journals → NobodyElse passes journals end.history
    → IsAudited t opening journals (Some s) end.history
