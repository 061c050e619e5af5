-- What the laws of plans say of all that a pass sees.
use Rattle.std.specs.Prelude.{◌≡◌, ℕ, List, [], ◌++◌}
use Rattle.plan_types.specs.declared.answer.Event.{Event}
use Rattle.plan_types.specs.Table.{PlanTable}
use Rattle.plan_rules.specs.declared.state.State.{State}
use Rattle.plan_rules.specs.History.{after, own_events}
use Rattle.plan_rules.specs.Laws.{Throughout, Lawful, RightLasts}
use Rattle.word_interlock.specs.History.{after as after_by, IsLawful, Waits}
use Rattle.plan_interlock.specs.Book.{plan_book}

-- what a pass has seen keeps every law of plans, in each prefix; and the state after it is the plan's
pub record SeesLaws (t : PlanTable) (opening : State) (seen : List Event) : Type 0 where
  pub laws : Throughout (Lawful t opening) seen
  pub state : after_by (plan_book t) opening seen ≡ after t opening seen

-- what lasts for a machine from what it has seen to the point of its next call: what it holds, with posture and flag,
-- its own places, and the postures of the zones that it hosts (`RightLasts`)
pub record Lasts (t : PlanTable) (opening : State) (m : ℕ) (seen point : List Event) : Type 0 where
  pub more : List Event
  pub is : point ≡ seen ++ more
  pub foreign : own_events more m ≡ []
  pub right : RightLasts t opening seen more

abbrev pub EveryPassSeesLaws : PlanTable → Type 0
EveryPassSeesLaws t =
    (opening : State) (seen : List Event) → IsLawful (plan_book t) opening seen → SeesLaws t opening seen

abbrev pub RightsLast : PlanTable → Type 0
RightsLast t =
    (opening : State) (m : ℕ) (seen point : List Event) → IsLawful (plan_book t) opening point
    → Waits (plan_book t) m seen point → Lasts t opening m seen point
