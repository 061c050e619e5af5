-- Calls in the order of the steps on the word: what comes before a call began comes before its event. Moments are the
-- beginnings of calls, each by its load, and their answers, each an event, in that order, the oldest first.
use Rattle.std.specs.Prelude.{◌≡◌, List, [], ◌∷◌, Some}
use Rattle.cell_types.specs.declared.machine.Machine.{Machine}
use Rattle.cell_types.specs.declared.call.Call.{Call}
use Rattle.cell_types.specs.declared.answer.Event.{Event}
use Rattle.cell_types.specs.declared.reply.Reply.{Reply}
use Rattle.cell_types.specs.declared.reply.Reply.TheVariants.{Settled, Busy}
use Rattle.cell_rules.specs.ModelState.{ModelState}
use Rattle.cell_rules.specs.History.{after}
use Rattle.cell_rules.specs.Laws.{LawfulThroughout}
use Rattle.cell_rules.specs.Audited.{IsAudited}
use Rattle.cell_rules.specs.Seen.{event}
use Rattle.word_interlock.specs.History.{BeginsWith}
use Rattle.word_interlock.specs.Moments.{events_of, own_moments, AreCalls}
use Rattle.word_interlock.specs.Timing as engine
use Rattle.word_interlock.specs.declared.views.HistoryView.{HistoryView}
use Rattle.word_interlock.specs.declared.views.Moment.{Moment}
use Rattle.word_interlock.specs.declared.views.Moment.TheVariants.{Answered}
use Rattle.cell_interlock.specs.Book.{cell_book}
use Rattle.cell_interlock.specs.Views.{PassView, ReceiptView, TryView}
use Rattle.cell_interlock.specs.Engine.{pass_to}
use Rattle.cell_interlock.specs.Ends.{pass_in, journals_by, HasPart}
use Rattle.cell_interlock.specs.declared.pass.Passes.{Passes}
use Rattle.cell_interlock.specs.declared.tries.Look.{Look}
use Rattle.cell_interlock.specs.declared.tries.Look.TheVariants.{Settled as LookSettled, Pending}
use Rattle.cell_interlock.specs.declared.tries.Tried.{Tried}
use Rattle.cell_interlock.specs.declared.tries.Tried.TheVariants.{Settled as TriedSettled, Lost, Busy as TriedBusy}

abbrev pub Moments : Type 0
Moments = List (Moment Machine Event)

-- what receipts tell
abbrev pub Told : Type 0
Told = List (HistoryView ModelState Machine Event)

abbrev pub told_by : ReceiptView → HistoryView ModelState Machine Event
told_by r = record { opening = r.opening; seen = r.seen; moments = r.moments }

-- A call of a pass's machine began after all moments so far. They have all that the pass had seen and that these
-- receipts tell, and no new moment of its machine. Then came moments of others, and then these last ones
-- (`word_interlock`).
abbrev pub Lasts : Told → PassView → Moments → PassView → Type 0
Lasts heard v last w = engine.Lasts cell_book heard (pass_to v) last (pass_to w)

-- a whole call: it began, and its event came last; if it is Busy, none came
abbrev pub IsTimed : Told → PassView → Call → Reply → PassView → Type 0
IsTimed heard v c (Settled a stamp) w = Lasts heard v (Answered (event v.machine c a) ∷ []) w
IsTimed heard v c (Busy lost stamp) w = Lasts heard v [] w

-- likewise the first step of a call
abbrev pub IsLookTimed : Told → PassView → Call → Look → Type 0
IsLookTimed heard v c (LookSettled a stamp w) = Lasts heard v (Answered (event v.machine c a) ∷ []) w
IsLookTimed heard v c (Pending t) = Lasts heard v [] t.pass

-- a call that lasts since this pass was seen goes on
abbrev pub GoesOn : TryView → (PassView → Moments) → PassView → Type 0
GoesOn t last w =
    (heard : Told) (v : PassView) → t.pass.machine ≡ v.machine → Lasts heard v [] t.pass → Lasts heard v (last v) w

-- likewise a further step
abbrev pub IsAttemptTimed : TryView → Tried → Type 0
IsAttemptTimed t (TriedSettled a stamp w) = GoesOn t (λ v. Answered (event v.machine t.call a) ∷ []) w
IsAttemptTimed t (Lost u) = GoesOn t (λ v. []) u.pass
IsAttemptTimed t (TriedBusy lost stamp w) = GoesOn t (λ v. []) w

-- a pass's steps have shown it a prefix of the moments, with all of its machine
pub record IsInTime (moments : Moments) (m : Machine) (p : PassView) : Type 0 where
  pub begins : BeginsWith moments p.moments
  pub own : own_moments cell_book moments m ≡ own_moments cell_book p.moments m

-- The state is the one after the events of all moments. These are lawful throughout, and each comes after the
-- beginning of its call. Each of the seven passes was shown a prefix of the moments, with all of its machine, and has
-- seen a prefix of the events. An audit accepts the journals of the seven passes by these events.
pub record IsRun (opening : ModelState) (p : Passes) (s : ModelState) : Type 0 where
  pub moments : Moments
  pub calls : AreCalls cell_book moments
  pub lawful : LawfulThroughout opening (events_of moments)
  pub reached : s ≡ after opening (events_of moments)
  pub in_time : (m : Machine) → IsInTime moments m (pass_in p m)
  pub passes : (m : Machine) → HasPart opening (events_of moments) m (pass_in p m)
  pub audited : IsAudited opening (journals_by opening p) (Some s) (events_of moments)
