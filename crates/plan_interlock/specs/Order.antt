-- What the engine says of the order of calls, by a plan.
use Rattle.std.specs.Prelude.{ℕ, ◌*◌, ◌≤◌, List}
use Rattle.plan_types.specs.declared.call.Call.{Call}
use Rattle.plan_types.specs.declared.answer.Answer.{Answer}
use Rattle.plan_types.specs.declared.answer.Event.{Event}
use Rattle.plan_types.specs.Table.{PlanTable}
use Rattle.plan_rules.specs.declared.state.State.{State}
use Rattle.plan_rules.specs.State.{last_stamp}
use Rattle.word_interlock.specs.History.{IsLawful}
use Rattle.word_interlock.specs.One.{HistoryIsSeen, MomentsAreShown}
use Rattle.word_interlock.specs.Receipts.{ReceiptsComeFirst}
use Rattle.word_interlock.specs.Run.{CallsFollowReceipts, RunsKeepOrder}
use Rattle.word_interlock.specs.Settling.{BusyIsPaid, MadeCall, MakesCalls, times_busy}
use Rattle.word_interlock.specs.Views.{PassView}
use Rattle.plan_interlock.specs.declared.rules.PlanRules.{PlanRules}
use Rattle.plan_interlock.specs.Book.{plan_book, plan_of}

-- in a run calls that don't overlap keep their order, and a call that is asked after a receipt begins after each call
-- that was answered before it was taken
pub record CallsKeepOrder (t : PlanTable) : Type 0 where
  pub runs : RunsKeepOrder (plan_book t)
  pub receipts : CallsFollowReceipts PlanRules (plan_book t)

-- At every time the history is empty, or one of the callers has seen it whole; likewise the moments. What receipts tell
-- comes before what later loads add to both.
pub record HistoryIsOne (rules : PlanRules) : Type 0 where
  pub seen : HistoryIsSeen (plan_book (plan_of rules)) rules (Unit {0})
  pub shown : MomentsAreShown (plan_book (plan_of rules)) rules (Unit {0})
  pub receipts : ReceiptsComeFirst (plan_book (plan_of rules)) rules (Unit {0})

-- each Busy call is paid for by `tries` changes of others, so over one interlock there are few
pub record BusyCallsAreFew (t : PlanTable) (tries : ℕ) : Type 0 where
  pub paid : BusyIsPaid PlanRules (plan_book t) tries
  pub few : (v w : PassView PlanRules State ℕ Event) (calls : List (MadeCall PlanRules State ℕ Call Answer Event))
      → MakesCalls (plan_book t) tries v calls w → IsLawful (plan_book t) v.opening w.seen
      → times_busy calls * tries ≤ last_stamp
