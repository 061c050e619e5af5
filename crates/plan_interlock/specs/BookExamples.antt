-- The rules of two machines at a press, on literal states and calls; and what the laws of order say, each by itself.
use Rattle.std.specs.Prelude.{◌≡◌, ℕ, ◌*◌, ◌≤◌, true, false, List, [], ◌∷◌, replicate, Some, None}
use Rattle.plan_types.specs.declared.posture.Posture.TheVariants.{Closed}
use Rattle.plan_types.specs.declared.call.Call.{Call}
use Rattle.plan_types.specs.declared.call.Call.TheVariants.{Claim, Inquire}
use Rattle.plan_types.specs.declared.answer.Answer.{Answer}
use Rattle.plan_types.specs.declared.answer.Answer.TheVariants.{Done, Shown, Refused}
use Rattle.plan_types.specs.declared.answer.Refusal.TheVariants.{Shut}
use Rattle.plan_types.specs.declared.answer.Event.{Event}
use Rattle.plan_types.specs.Table.{PlanTable, plan_table}
use Rattle.plan_types.specs.Examples.{press_table, zone}
use Rattle.plan_rules.specs.declared.state.State.{State}
use Rattle.plan_rules.specs.State.{last_stamp, start_state}
use Rattle.plan_rules.specs.Examples.{event, press_start, full_press}
use Rattle.word_interlock.specs.RuleBook.{RuleBook}
use Rattle.word_interlock.specs.History.{IsLawful}
use Rattle.word_interlock.specs.One.{HistoryIsSeen, MomentsAreShown}
use Rattle.word_interlock.specs.Receipts.{ReceiptsComeFirst}
use Rattle.word_interlock.specs.Run.{CallsFollowReceipts, RunsKeepOrder}
use Rattle.word_interlock.specs.Settling.{BusyIsPaid, MadeCall, MakesCalls, times_busy}
use Rattle.word_interlock.specs.Views.{PassView}
use Rattle.plan_interlock.specs.declared.rules.PlanRules.{PlanRules}
use Rattle.plan_interlock.specs.Book.{plan_book, plan_of}
use Rattle.plan_interlock.specs.Order.{CallsKeepOrder, HistoryIsOne, BusyCallsAreFew}

abbrev pub press_book : RuleBook State ℕ Call Answer Event
press_book = plan_book press_table

abbrev pub shut : Event
shut = event 0 (Claim 0) (Refused (Shut Closed))

pub record BookExamples : Type 0 where
  pub refuses : press_book.reply press_start 0 (Claim 0) ≡ Refused (Shut Closed)
  pub does : press_book.reply press_start 1 (Claim 0) ≡ Done
  pub counts : press_book.stamp (press_book.next press_start 1 (Claim 0)) ≡ 1
  pub last : press_book.stamp full_press ≡ 1048575
  pub done : press_book.is_done Done ≡ true
  pub shown : press_book.is_done (Shown (Some 1) true Closed) ≡ false
  pub refused : press_book.is_done (Refused (Shut Closed)) ≡ false
  pub word : press_book.packed full_press ≡ 0x7FFFFF2
  pub same : press_book.same 7 7 ≡ true
  pub other : press_book.same 7 8 ≡ false
  pub event_of : press_book.event 0 (Claim 0) (Refused (Shut Closed)) ≡ shut
  pub actor : press_book.actor_of (event 2 (Inquire 1) Done) ≡ 2
  pub call : press_book.call_of (event 2 (Inquire 1) Done) ≡ Inquire 1
  pub answer : press_book.answer_of shut ≡ Refused (Shut Closed)
  -- no word has a plate past the plan's places; and no state is sound by tables with a fault
  pub third_place : ¬ press_book.is_sound (start_state (false ∷ false ∷ true ∷ replicate 13 false) 0)
  pub no_plan : ¬ (plan_book (plan_table 2 (zone 1 1 None None ∷ []) [] [])).is_sound press_start
  -- the machines of the largest plan, and the watch
  pub most : (plan_book (plan_table 30 [] [] [])).actors
      ≡ 0 ∷ 1 ∷ 2 ∷ 3 ∷ 4 ∷ 5 ∷ 6 ∷ 7 ∷ 8 ∷ 9 ∷ 10 ∷ 11 ∷ 12 ∷ 13 ∷ 14 ∷ 15 ∷ 16 ∷ 17 ∷ 18 ∷ 19
      ∷ 20 ∷ 21 ∷ 22 ∷ 23 ∷ 24 ∷ 25 ∷ 26 ∷ 27 ∷ 28 ∷ 29 ∷ 30 ∷ []

pub record OrderTells : Type 0 where
  pub runs : (t : PlanTable) → CallsKeepOrder t → RunsKeepOrder (plan_book t)
  pub asked : (t : PlanTable) → CallsKeepOrder t → CallsFollowReceipts PlanRules (plan_book t)
  pub seen : (r : PlanRules) → HistoryIsOne r → HistoryIsSeen (plan_book (plan_of r)) r (Unit {0})
  pub moments : (r : PlanRules) → HistoryIsOne r → MomentsAreShown (plan_book (plan_of r)) r (Unit {0})
  pub receipts : (r : PlanRules) → HistoryIsOne r → ReceiptsComeFirst (plan_book (plan_of r)) r (Unit {0})
  pub paid : (t : PlanTable) → BusyCallsAreFew t 8 → BusyIsPaid PlanRules (plan_book t) 8
  pub few : (t : PlanTable) → BusyCallsAreFew t 8 → (v w : PassView PlanRules State ℕ Event)
      → (calls : List (MadeCall PlanRules State ℕ Call Answer Event)) → MakesCalls (plan_book t) 8 v calls w
      → IsLawful (plan_book t) v.opening w.seen → times_busy calls * 8 ≤ last_stamp
