-- Examples of what a call of the press may leave of its pass, and of what it may not: each of these is wrong in one
-- thing. The press claims z3, which is open inward and free in the opening. A call may lose two exchanges.
use Rattle.std.specs.Prelude.{◌≡◌, ◌≢◌, ℕ, ◌+◌, ◌↔◌, Bool, true, false, IsTrue, List, [], ◌∷◌, None, Ok, Err}
use Rattle.atomic_table.specs.Seated.{TableId}
use Rattle.cell_types.specs.declared.machine.Machine.TheVariants.{Feed, Table, Robot, Press, Deposit, Crane, Watch}
use Rattle.cell_types.specs.declared.zone.Zone.TheVariants.{Z1, Z3, Z6}
use Rattle.cell_types.specs.declared.posture.Posture.TheVariants.{OpenIn}
use Rattle.cell_types.specs.declared.call.Call.{Call}
use Rattle.cell_types.specs.declared.call.Call.TheVariants.{Claim, Release, Inquire, Stop}
use Rattle.cell_types.specs.declared.answer.Answer.{Answer}
use Rattle.cell_types.specs.declared.answer.Answer.TheVariants.{Done, Shown, Refused}
use Rattle.cell_types.specs.declared.answer.Refusal.TheVariants.{NotOwner, NotParty, Worn, Stopped}
use Rattle.cell_types.specs.declared.answer.Event.{Event}
use Rattle.cell_types.specs.declared.reply.Reply.{Reply}
use Rattle.cell_types.specs.declared.reply.Reply.TheVariants.{Settled, Busy}
use Rattle.cell_rules.specs.ZoneMap.{free_zone, everywhere, put_zone}
use Rattle.cell_rules.specs.PlaceSet.{empty}
use Rattle.cell_rules.specs.ModelState.{ModelState, model_state}
use Rattle.cell_rules.specs.Start.{start_state}
use Rattle.cell_rules.specs.Journal.{noted}
use Rattle.cell_rules.specs.Seen.{event}
use Rattle.cell_rules.specs.declared.heard.LineFault.TheVariants.{Memory}
use Rattle.word_interlock.specs.declared.reply.Reply.TheVariants.{Settled as EngineSettled, Busy as EngineBusy}
use Rattle.word_interlock.specs.declared.views.Moment.TheVariants.{Begins, Answered}
use Rattle.cell_interlock.specs.Timing.{told_by, IsInTime, IsRun, IsLookTimed, IsAttemptTimed}
use Rattle.cell_interlock.specs.Settling.{MadeCall, MakesCalls, times_busy, IsPaidFor}
use Rattle.cell_interlock.specs.Views.{PassView, InterlockView, TryView, receipt_of}
use Rattle.cell_interlock.specs.Fresh.{AreFresh}
use Rattle.cell_interlock.specs.Seen.{AnswersAtItsPoint, LastingRight, HasSeenMore, HasChanges}
use Rattle.cell_interlock.specs.Calls.{IfSettled, IfBusy, stamp_in, IsStampedAfter}
use Rattle.cell_interlock.specs.Book.{cell_book}
use Rattle.cell_interlock.specs.Ends.{pass_in, journals_by, HasPart, IsEnd}
use Rattle.cell_interlock.specs.Engine.{pass_from, pass_to, interlock_from, receipt_from, try_from, reply_from}
use Rattle.cell_interlock.specs.EachLaws.{EachLaws}
use Rattle.cell_interlock.specs.Order.{StandsBefore}
use Rattle.cell_interlock.specs.Tries.{Looked, Attempted, after_look, after_attempt}
use Rattle.cell_interlock.specs.Lines.{IsLine, Replied, PassAsks, LineView, LineAsks, LineSurveys}
use Rattle.cell_interlock.specs.declared.pass.Passes.{Passes}
use Rattle.cell_interlock.specs.declared.tries.Look.TheVariants.{Settled as LookSettled, Pending}
use Rattle.cell_interlock.specs.declared.tries.Tried.TheVariants.{Settled as TriedSettled, Lost, Busy as TriedBusy}

abbrev pub opened : ModelState
opened = model_state (put_zone (everywhere free_zone) Z3 (record free_zone { posture = OpenIn })) empty 0 false

abbrev pub claim : Call
claim = Claim Z3

-- what the press does, and what it reads of z3 while that is free
abbrev pub claimed : Event
claimed = event Press claim Done

abbrev pub released : Event
released = event Press (Release Z3) Done

abbrev pub read : Event
read = event Press (Inquire Z3) (Shown None false OpenIn)

-- calls of others: feed claims z6 and releases it, the table claims z1, the robot claims z3
abbrev pub by_feed : Event
by_feed = event Feed (Claim Z6) Done

abbrev pub again_by_feed : Event
again_by_feed = event Feed (Release Z6) Done

abbrev pub by_table : Event
by_table = event Table (Claim Z1) Done

abbrev pub by_robot : Event
by_robot = event Robot claim Done

-- the watch stops the cell, and so the press is refused
abbrev pub by_watch : Event
by_watch = event Watch Stop Done

abbrev pub barred : Event
barred = event Press claim (Refused Stopped)

-- a refusal of another machine, which changes nothing
abbrev pub feed_refused : Event
feed_refused = event Feed claim (Refused NotParty)

-- the press's pass
abbrev pub press_pass : TableId → List Event → List Event → ℕ → ℕ → PassView
press_pass t seen since loads exchanges = record {
  table = t;
  opening = opened;
  machine = Press;
  seen = seen;
  since = since;
  loads = loads;
  exchanges = exchanges;
  moments = [];
}

-- the pass before the call; after a claim that is Done; after a look that leaves it pending; after its first lost
-- exchange; after its second
abbrev pub before : TableId → PassView
before t = press_pass t [] [] 3 5

abbrev pub after_claim : TableId → PassView
after_claim t = record (press_pass t (claimed ∷ []) [] 4 6) { moments = Begins Press ∷ Answered claimed ∷ [] }

abbrev pub looked : TableId → PassView
looked t = press_pass t [] [] 4 5

-- (the same pass as `looked`, with its moments)
abbrev pub begun : TableId → PassView
begun t = record (looked t) { moments = Begins Press ∷ [] }

abbrev pub lost_one : TableId → PassView
lost_one t = press_pass t (by_feed ∷ []) [] 4 6

abbrev pub lost_both : TableId → PassView
lost_both t =
    record (press_pass t (by_feed ∷ again_by_feed ∷ []) [] 4 7) {
      moments = Begins Press ∷ Begins Feed ∷ Answered by_feed ∷ Begins Feed ∷ Answered again_by_feed ∷ [];
    }

-- the watch's pass
abbrev pub watch_pass : TableId → List Event → ℕ → ℕ → PassView
watch_pass t seen loads exchanges = record (press_pass t seen [] loads exchanges) { machine = Watch }

-- ---- a whole call

abbrev pub Claims : PassView → Reply → PassView → Type 0
Claims v reply w = Replied [] v claim 2 reply w

pub record AskExamples (t : TableId) : Type 0 where
  pub done : Claims (before t) (Settled Done 1) (after_claim t)
  pub other_table : (u : TableId) → u ≢ t → ¬ Claims (before t) (Settled Done 1) (record (after_claim t) { table = u })
  pub other_opening : ¬ Claims (before t) (Settled Done 1) (record (after_claim t) { opening = start_state empty 7 })
  pub other_machine : ¬ Claims (before t) (Settled Done 1) (record (after_claim t) { machine = Robot })
  pub unlawful : ¬ Claims (before t) (Settled Done 1) (record (after_claim t) { seen = again_by_feed ∷ claimed ∷ [] })
  pub not_last : ¬ Claims (before t) (Settled Done 2) (record (after_claim t) { seen = claimed ∷ by_feed ∷ [] })
  pub forgets : ¬ Claims (press_pass t (by_feed ∷ []) [] 3 5) (Settled Done 1) (after_claim t)
  pub two_events : ¬ Claims (before t) (Settled Done 1) (record (after_claim t) { seen = read ∷ claimed ∷ [] })
  pub other_stamp : ¬ Claims (before t) (Settled Done 2) (after_claim t)
  pub no_load : ¬ Claims (before t) (Settled Done 1) (record (after_claim t) { loads = 3 })
  pub two_loads : ¬ Claims (before t) (Settled Done 1) (record (after_claim t) { loads = 5 })
  pub three_exchanges : ¬ Claims (before t) (Settled Done 1) (record (after_claim t) { exchanges = 8 })
  pub stops :
      Replied [] (watch_pass t [] 3 5) Stop 2 (Settled Done 1)
      (record (watch_pass t (by_watch ∷ []) 4 6) { moments = Begins Watch ∷ Answered by_watch ∷ [] })
  pub no_beginning : ¬ Claims (before t) (Settled Done 1) (record (after_claim t) { moments = Answered claimed ∷ [] })
  pub begun_by_another :
      ¬ Claims (before t) (Settled Done 1) (record (after_claim t) { moments = Begins Feed ∷ Answered claimed ∷ [] })
  pub busy : Claims (before t) (Busy 2 2) (lost_both t)
  pub busy_with_other_stamp : ¬ Claims (before t) (Busy 2 1) (lost_both t)
  pub busy_with_an_event :
      ¬ Claims (before t) (Busy 2 2) (record (lost_both t) { seen = by_feed ∷ again_by_feed ∷ read ∷ [] })
  pub busy_after_one_exchange : ¬ Claims (before t) (Busy 2 2) (record (lost_both t) { exchanges = 6 })
  pub busy_having_lost_one : ¬ Claims (before t) (Busy 1 2) (record (lost_both t) { exchanges = 6 })
  pub busy_though_refused : ¬ Claims (before t) (Busy 2 2) (record (lost_both t) { seen = by_feed ∷ by_robot ∷ [] })
  pub busy_by_changes_seen_before : ¬ Claims (press_pass t (by_feed ∷ []) [] 3 5) (Busy 2 2) (lost_both t)
  pub busy_without_a_beginning :
      ¬ Claims (before t) (Busy 2 2)
      (record (lost_both t) { moments = Begins Feed ∷ Answered by_feed ∷ Begins Feed ∷ Answered again_by_feed ∷ [] })
  pub busy_by_changes_before_its_load : ¬ Claims (before t) (Busy 2 2) (record (lost_both t) { since = by_feed ∷ [] })

-- ---- single steps

abbrev pub under_way : PassView → ℕ → TryView
under_way p lost = record { pass = p; call = claim; lost = lost; tries = 2 }

pub record LookExamples (t : TableId) : Type 0 where
  pub pending : Looked (before t) claim 2 (Pending (under_way (looked t) 0))
  pub settles_done : ¬ Looked (before t) claim 2 (LookSettled Done 1 (after_claim t))
  pub has_own_event : ¬ Looked (before t) claim 2 (Pending (under_way (press_pass t (read ∷ []) (read ∷ []) 4 5) 0))
  pub though_refused :
      ¬ Looked (before t) claim 2 (Pending (under_way (press_pass t (by_robot ∷ []) (by_robot ∷ []) 4 5) 0))
  pub other_call : ¬ Looked (before t) claim 2 (Pending (record (under_way (looked t) 0) { call = Release Z3 }))
  pub other_tries : ¬ Looked (before t) claim 2 (Pending (record (under_way (looked t) 0) { tries = 3 }))
  pub has_lost_one : ¬ Looked (before t) claim 2 (Pending (under_way (looked t) 1))
  pub seen_since : ¬ Looked (before t) claim 2 (Pending (under_way (press_pass t (by_feed ∷ []) [] 4 5) 0))
  pub begun : IsLookTimed [] (before t) claim (Pending (under_way (begun t) 0))
  pub not_begun : ¬ IsLookTimed [] (before t) claim (Pending (under_way (looked t) 0))
  pub pass_of_pending : after_look (Pending (under_way (looked t) 0)) ≡ looked t
  pub pass_of_settled : after_look (LookSettled Done 1 (after_claim t)) ≡ after_claim t

pub record AttemptExamples (t : TableId) : Type 0 where
  pub lost : Attempted (under_way (looked t) 0) (Lost (under_way (lost_one t) 1))
  pub has_own_event :
      ¬ Attempted (under_way (looked t) 0) (Lost (under_way (record (lost_one t) { seen = by_feed ∷ read ∷ [] }) 1))
  pub though_refused :
      ¬ Attempted (under_way (looked t) 0) (Lost (under_way (record (lost_one t) { seen = by_robot ∷ [] }) 1))
  pub other_call : ¬ Attempted (under_way (looked t) 0) (Lost (record (under_way (lost_one t) 1) { call = Release Z3 }))
  pub other_tries : ¬ Attempted (under_way (looked t) 0) (Lost (record (under_way (lost_one t) 1) { tries = 3 }))
  pub other_since :
      ¬ Attempted (under_way (looked t) 0) (Lost (under_way (record (lost_one t) { since = by_feed ∷ [] }) 1))
  pub lost_none : ¬ Attempted (under_way (looked t) 0) (Lost (under_way (lost_one t) 0))
  pub lost_two :
      ¬ Attempted (record (under_way (looked t) 0) { tries = 4 })
      (Lost (record (under_way (lost_one t) 2) { tries = 4 }))
  pub lost_last : ¬ Attempted (under_way (lost_one t) 1) (Lost (under_way (lost_both t) 2))
  pub no_change : ¬ Attempted (under_way (looked t) 0) (Lost (under_way (record (lost_one t) { seen = [] }) 1))
  pub busy : Attempted (under_way (lost_one t) 1) (TriedBusy 2 2 (lost_both t))
  pub busy_with_other_stamp : ¬ Attempted (under_way (lost_one t) 1) (TriedBusy 2 1 (lost_both t))
  pub busy_early : ¬ Attempted (under_way (looked t) 0) (TriedBusy 2 2 (lost_both t))
  pub busy_having_lost_one : ¬ Attempted (under_way (lost_one t) 1) (TriedBusy 1 2 (lost_both t))
  pub busy_though_refused :
      ¬ Attempted (under_way (lost_one t) 1) (TriedBusy 2 2 (record (lost_both t) { seen = by_feed ∷ by_robot ∷ [] }))
  pub busy_by_changes_before_its_look :
      ¬ Attempted (under_way (record (lost_one t) { since = by_feed ∷ [] }) 1) (TriedBusy 2 2 (lost_both t))
  pub busy_forgets :
      ¬ Attempted (under_way (lost_one t) 1) (TriedBusy 2 2 (record (lost_both t) { seen = by_table ∷ by_feed ∷ [] }))
  pub settled : Attempted (under_way (looked t) 0) (TriedSettled Done 1 (after_claim t))
  pub settled_with_other_stamp : ¬ Attempted (under_way (looked t) 0) (TriedSettled Done 2 (after_claim t))
  pub stopped :
      Attempted (under_way (looked t) 0)
      (TriedSettled (Refused Stopped) 1 (press_pass t (by_watch ∷ barred ∷ []) [] 4 6))
  pub done_while_stopped :
      ¬ Attempted (under_way (looked t) 0)
      (TriedSettled Done 2 (press_pass t (by_watch ∷ claimed ∷ []) [] 4 6))
  pub lost_while_stopped :
      ¬ Attempted (under_way (looked t) 0) (Lost (under_way (record (lost_one t) { seen = by_watch ∷ [] }) 1))
  pub settled_without_its_event :
      ¬ IsAttemptTimed (under_way (begun t) 0)
      (TriedSettled Done 1 (record (after_claim t) { moments = Begins Press ∷ [] }))
  pub lost_without_its_beginning : ¬ IsAttemptTimed (under_way (begun t) 0) (Lost (under_way (lost_one t) 1))
  pub pass_of_lost : after_attempt (Lost (under_way (lost_one t) 1)) ≡ lost_one t
  pub pass_of_busy : after_attempt (TriedBusy 2 2 (lost_both t)) ≡ lost_both t
  pub pass_of_settled : after_attempt (TriedSettled Done 1 (after_claim t)) ≡ after_claim t

-- ---- effects of calls

-- a pass may see more events of other machines, but no new one of its own
pub record MoreExamples (t : TableId) : Type 0 where
  pub more : HasSeenMore (before t) (lost_one t)
  pub other_table : (u : TableId) → u ≢ t → ¬ HasSeenMore (before t) (record (lost_one t) { table = u })
  pub other_opening : ¬ HasSeenMore (before t) (record (lost_one t) { opening = start_state empty 7 })
  pub other_machine : ¬ HasSeenMore (before t) (record (lost_one t) { machine = Robot })
  pub unlawful : ¬ HasSeenMore (before t) (record (lost_one t) { seen = again_by_feed ∷ [] })
  pub forgets : ¬ HasSeenMore (lost_one t) (before t)
  pub own_event : ¬ HasSeenMore (before t) (after_claim t)

-- the number of changes by others
pub record ChangeExamples : Type 0 where
  pub one : HasChanges Press [] (by_feed ∷ []) 1
  pub one_only : ¬ HasChanges Press [] (by_feed ∷ []) 2
  pub own : ¬ HasChanges Press [] (claimed ∷ []) 1
  pub refused : ¬ HasChanges Press [] (feed_refused ∷ []) 1
  pub seen_earlier : ¬ HasChanges Press (by_feed ∷ []) (by_feed ∷ []) 1
  pub other_beginning : ¬ HasChanges Press (by_feed ∷ []) (by_table ∷ by_feed ∷ []) 1
  pub three : HasChanges Press (by_feed ∷ []) (by_feed ∷ by_table ∷ claimed ∷ again_by_feed ∷ by_robot ∷ []) 3
  pub any_own : (c : Call) → ¬ HasChanges Press [] (event Press c Done ∷ []) 1
  pub any_of_the_watch : (c : Call) → HasChanges Press [] (event Watch c Done ∷ []) 1

-- the answer is the sequential interlock's; a machine that holds a zone keeps it
pub record AnswerExamples (t : TableId) : Type 0 where
  pub other_answer :
      ¬ AnswersAtItsPoint (before t) claim (Refused Worn) (press_pass t (event Press claim (Refused Worn) ∷ []) [] 4 5)
  pub loses_what_it_held :
      ¬ LastingRight (after_claim t) claim Done (press_pass t (claimed ∷ released ∷ claimed ∷ []) [] 5 7)
  pub is_disowned : ¬ LastingRight (after_claim t) (Release Z3) (Refused (NotOwner None)) (after_claim t)

-- ---- calls in order

-- an event stands before the last one, and is new
pub record OrderExamples : Type 0 where
  pub before : StandsBefore (by_table ∷ []) claimed by_feed (by_table ∷ claimed ∷ by_robot ∷ by_feed ∷ [])
  pub after : ¬ StandsBefore [] claimed by_feed (by_feed ∷ claimed ∷ [])
  pub missing : ¬ StandsBefore [] claimed by_feed (by_table ∷ by_feed ∷ [])
  pub forgets : ¬ StandsBefore (by_table ∷ []) claimed by_feed (claimed ∷ by_feed ∷ [])
  pub seen_earlier : ¬ StandsBefore (claimed ∷ []) claimed by_feed (claimed ∷ by_feed ∷ [])

-- no lower stamp, and a higher one if the call is Done
pub record StampExamples : Type 0 where
  pub done : IsStampedAfter 1 (Settled Done 2)
  pub done_with_same_stamp : (told : ℕ) → ¬ IsStampedAfter told (Settled Done told)
  pub refused : IsStampedAfter 2 (Settled (Refused Stopped) 2)
  pub answered_with_lower_stamp : (told : ℕ) (a : Answer) → ¬ IsStampedAfter (told + 1) (Settled a told)
  pub busy : IsStampedAfter 2 (Busy 1 2)
  pub busy_with_lower_stamp : (told lost : ℕ) → ¬ IsStampedAfter (told + 1) (Busy lost told)

-- a receipt tells all that its pass has seen, and its moments
pub record ReceiptExamples (t : TableId) : Type 0 where
  pub seen : receipt_of (after_claim t) ≡ record {
    table = t;
    opening = opened;
    seen = claimed ∷ [];
    moments = Begins Press ∷ Answered claimed ∷ [];
  }
  pub tells : told_by (receipt_of (after_claim t)) ≡ record {
    opening = opened;
    seen = claimed ∷ [];
    moments = Begins Press ∷ Answered claimed ∷ [];
  }

-- ---- a run, and what Busy costs

-- the press's pass was shown a prefix of the moments, with all of the press; in a run it began before it was answered
pub record RunExamples (t : TableId) : Type 0 where
  pub in_time : IsInTime (Begins Press ∷ Answered claimed ∷ Begins Feed ∷ []) Press (after_claim t)
  pub another_call : ¬ IsInTime (Begins Press ∷ Answered claimed ∷ Begins Press ∷ []) Press (after_claim t)
  pub other_beginning : ¬ IsInTime (Begins Feed ∷ Begins Press ∷ Answered claimed ∷ []) Press (after_claim t)
  pub never_began : (p : Passes) (s : ModelState)
      → p.press ≡ record (after_claim t) { moments = Answered claimed ∷ [] } → ¬ IsRun opened p s
  pub unlawful : (p : Passes) (s : ModelState)
      → p.press ≡ press_pass t (again_by_feed ∷ []) [] 4 5 → ¬ IsRun opened p s

-- a claim that came back so
abbrev pub made : TableId → Reply → MadeCall
made t reply = record { before = before t; call = claim; reply = reply; after = after_claim t }

-- a call that was Busy raises the stamp by two, since it may lose two exchanges
pub record PaidExamples (t : TableId) : Type 0 where
  pub at_once : IsPaidFor 2 0 (before t) 1 (after_claim t)
  pub busy_once : IsPaidFor 2 1 (before t) 3 (record (after_claim t) { loads = 5 })
  pub unpaid : ¬ IsPaidFor 2 1 (before t) 1 (record (after_claim t) { loads = 5 })
  pub free_loads : ¬ IsPaidFor 2 0 (before t) 1 (record (after_claim t) { loads = 5 })
  pub free_exchanges : ¬ IsPaidFor 2 0 (before t) 1 (record (after_claim t) { exchanges = 8 })
  pub one_busy : MakesCalls 2 (before t) (record (made t (Busy 2 2)) { after = lost_both t } ∷ []) (lost_both t)
  pub twice : times_busy (made t (Busy 2 2) ∷ made t (Settled Done 3) ∷ made t (Busy 2 5) ∷ []) ≡ 2
  pub each : (lost stamp : ℕ) → times_busy (made t (Busy lost stamp) ∷ []) ≡ 1
  pub none : (a : Answer) (stamp : ℕ) → times_busy (made t (Settled a stamp) ∷ []) ≡ 0
  pub called_nothing : MakesCalls 2 (before t) [] (lost_both t)
  pub forgets : ¬ MakesCalls 2 (lost_both t) [] (before t)
  pub called_by_another : ¬ MakesCalls 2 (watch_pass t [] 3 5) [] (before t)
  pub lost_one_alone :
      ¬ MakesCalls 2 (before t) (record (made t (Busy 1 2)) { after = lost_both t } ∷ []) (lost_both t)
  pub busy_with_another_stamp :
      ¬ MakesCalls 2 (before t) (record (made t (Busy 2 3)) { after = lost_both t } ∷ []) (lost_both t)

-- ---- a new interlock

-- each field has its machine's pass, and the passes have made no step
pub record FreshExamples (i : InterlockView) (p : Passes) : Type 0 where
  pub feed : p.feed.machine ≡ Feed
  pub table : p.table.machine ≡ Table
  pub robot : p.robot.machine ≡ Robot
  pub press :
      p.press ≡ record {
        table = i.table;
        opening = i.opening;
        machine = Press;
        seen = [];
        since = [];
        loads = 0;
        exchanges = 0;
        moments = [];
      }
  pub deposit : p.deposit.machine ≡ Deposit
  pub crane : p.crane.machine ≡ Crane
  pub watch : p.watch.machine ≡ Watch

-- ---- a line

pub record LineExamples (t : TableId) : Type 0 where
  pub no_memory : PassAsks 2 (before t) claim (Err Memory) (before t)
  pub asks : PassAsks 2 (before t) claim (Ok (Busy 2 2)) (lost_both t)
  pub asks_with_other_tries : ¬ PassAsks 3 (before t) claim (Ok (Busy 2 2)) (lost_both t)
  pub loads_without_memory : ¬ PassAsks 2 (before t) claim (Err Memory) (looked t)
  pub other_tries : (l d : LineView) → d.tries ≢ l.tries → ¬ LineAsks l claim (Err Memory) d
  pub survey_with_other_tries : (l d : LineView) → d.tries ≢ l.tries → ¬ LineSurveys l d
  pub survey_forgets : (l d : LineView) → l.pass ≡ lost_one t → d.pass ≡ before t → ¬ LineSurveys l d

-- ---- views, and what replies tell by cases

pub record ViewExamples (t : TableId) : Type 0 where
  pub there_and_back : (v : PassView) → pass_from (pass_to v) ≡ v
  pub interlock :
      interlock_from (record { table = t; rules = record {}; opening = opened; tries = 2 })
      ≡ record { table = t; opening = opened; tries = 2 }
  pub receipt :
      receipt_from (record { table = t; opening = opened; seen = claimed ∷ []; moments = Begins Press ∷ [] })
      ≡ record { table = t; opening = opened; seen = claimed ∷ []; moments = Begins Press ∷ [] }
  pub pending : try_from (record { pass = pass_to (lost_one t); call = Release Z3; lost = 1; tries = 2 })
      ≡ record { pass = lost_one t; call = Release Z3; lost = 1; tries = 2 }
  pub settled : (a : Answer) (stamp : ℕ) → reply_from (EngineSettled a stamp) ≡ Settled a stamp
  pub busy : (lost stamp : ℕ) → reply_from (EngineBusy lost stamp) ≡ Busy lost stamp

pub record CaseExamples : Type 0 where
  pub settled : (a : Answer) (stamp : ℕ) (test : Answer → Bool)
      → IfSettled (Settled a stamp) (λ x. IsTrue (test x)) ↔ IsTrue (test a)
  pub settled_is_not_busy : (a : Answer) (stamp : ℕ) → IfBusy (Settled a stamp) (λ lost. ⊥)
  pub busy : (lost stamp : ℕ) (test : ℕ → Bool)
      → IfBusy (Busy lost stamp) (λ x. IsTrue (test x)) ↔ IsTrue (test lost)
  pub busy_is_not_settled : (lost stamp : ℕ) → IfSettled (Busy lost stamp) (λ a. ⊥)
  pub stamp_of_settled : (a : Answer) (stamp : ℕ) → stamp_in (Settled a stamp) ≡ stamp
  pub stamp_of_busy : (lost stamp : ℕ) → stamp_in (Busy lost stamp) ≡ stamp

-- each machine's field
pub record FieldExamples (p : Passes) : Type 0 where
  pub feed : pass_in p Feed ≡ p.feed
  pub table : pass_in p Table ≡ p.table
  pub robot : pass_in p Robot ≡ p.robot
  pub press : pass_in p Press ≡ p.press
  pub deposit : pass_in p Deposit ≡ p.deposit
  pub crane : pass_in p Crane ≡ p.crane
  pub watch : pass_in p Watch ≡ p.watch
  -- the journals that an audit takes are of what these passes have seen
  pub journal_of_press : p.press.seen ≡ by_feed ∷ claimed ∷ []
      → journals_by opened p Press ≡ noted opened (by_feed ∷ claimed ∷ []) Press
  pub journal_of_watch : p.watch.seen ≡ by_watch ∷ barred ∷ []
      → journals_by opened p Watch ≡ noted opened (by_watch ∷ barred ∷ []) Watch

-- ---- the rules, what a pass has of a history, and a line's journal

pub record BookExamples : Type 0 where
  pub done : cell_book.is_done Done ≡ true
  pub shown : cell_book.is_done (Shown None false OpenIn) ≡ false
  pub refused : cell_book.is_done (Refused Stopped) ≡ false
  pub stamp : cell_book.stamp (start_state empty 7) ≡ 7
  pub claimed_here : cell_book.reply opened Press claim ≡ Done
  pub stamped : cell_book.stamp (cell_book.next opened Press claim) ≡ 1
  pub actors : cell_book.actors ≡ Feed ∷ Table ∷ Robot ∷ Press ∷ Deposit ∷ Crane ∷ Watch ∷ []
  pub one_machine : cell_book.same Robot Robot ≡ true
  pub two_machines : cell_book.same Robot Crane ≡ false
  pub event : cell_book.event Press claim Done ≡ claimed
  pub actor : cell_book.actor_of by_robot ≡ Robot
  pub call : cell_book.call_of released ≡ Release Z3
  pub answer : cell_book.answer_of barred ≡ Refused Stopped

pub record PartExamples (t : TableId) : Type 0 where
  pub part : HasPart opened (claimed ∷ by_feed ∷ []) Press (after_claim t)
  pub other_opening : ¬ HasPart (start_state empty 7) (claimed ∷ by_feed ∷ []) Press (after_claim t)
  pub missing : ¬ HasPart opened (by_feed ∷ []) Press (after_claim t)
  pub unseen_own_event : ¬ HasPart opened (claimed ∷ released ∷ []) Press (after_claim t)
  pub of_another_opening : (p : Passes) (s : ModelState) → p.crane.opening ≡ start_state empty 7 → ¬ IsEnd opened p s
  pub saw_an_unlawful_event : (p : Passes) (s : ModelState)
      → p.press ≡ press_pass t (again_by_feed ∷ []) [] 4 5 → ¬ IsEnd opened p s

pub record JournalExamples (t : TableId) : Type 0 where
  pub line : IsLine (after_claim t) (noted opened (claimed ∷ []) Press)
  pub no_entry : ¬ IsLine (after_claim t) []
  pub unlawful : ¬ IsLine (press_pass t (again_by_feed ∷ []) [] 3 5) []

pub record OutcomeExamples : Type 0 where
  pub ask : (t : TableId) → AskExamples t
  pub look : (t : TableId) → LookExamples t
  pub attempt : (t : TableId) → AttemptExamples t
  pub more : (t : TableId) → MoreExamples t
  pub changes : ChangeExamples
  pub answers : (t : TableId) → AnswerExamples t
  pub order : OrderExamples
  pub stamps : StampExamples
  pub receipts : (t : TableId) → ReceiptExamples t
  pub runs : (t : TableId) → RunExamples t
  pub paid : (t : TableId) → PaidExamples t
  pub fresh : (i : InterlockView) (p : Passes) → AreFresh i p → FreshExamples i p
  pub lines : (t : TableId) → LineExamples t
  pub views : (t : TableId) → ViewExamples t
  pub cases : CaseExamples
  pub fields : (p : Passes) → FieldExamples p
  pub book : BookExamples
  pub parts : (t : TableId) → PartExamples t
  pub journals : (t : TableId) → JournalExamples t
  pub each : EachLaws
