-- A line by a pass: what contracts see of it, and the effect of its calls.
use Rattle.std.specs.Prelude.{◌≡◌, ℕ, ◌+◌, ◌≤◌, List, [], Result, Ok, Err}
use Rattle.cell_types.specs.declared.call.Call.{Call}
use Rattle.cell_types.specs.declared.reply.Reply.{Reply}
use Rattle.cell_types.specs.declared.journal.Entry.{Entry}
use Rattle.cell_rules.specs.declared.heard.LineFault.{LineFault}
use Rattle.cell_rules.specs.declared.heard.Heard.{Heard}
use Rattle.cell_rules.specs.Sound.{IsSound}
use Rattle.cell_rules.specs.History.{IsLegal}
use Rattle.cell_rules.specs.Laws.{LawfulThroughout}
use Rattle.cell_rules.specs.Journal.{noted}
use Rattle.cell_rules.specs.Seen.{SeenAfter}
use Rattle.cell_interlock.specs.Views.{PassView}
use Rattle.cell_interlock.specs.Seen.{IsSamePass, HasSeenMore, AnswersAtItsPoint, LastingRight, HasChanges, IsOvertaken}
use Rattle.cell_interlock.specs.Calls.{IfSettled, IfBusy}
use Rattle.cell_interlock.specs.Timing.{Told, IsTimed}

-- a pass has seen a legal history from a sound opening, and the journal has an entry for each call that it settled
pub record IsLine (v : PassView) (journal : List Entry) : Type 0 where
  pub sound : IsSound v.opening
  pub legal : IsLegal v.opening v.seen
  pub noted_all : journal ≡ noted v.opening v.seen v.machine

-- a line: its pass, the entries of the calls that the pass settled, the outcome of the last call, and how many
-- exchanges a call may lose
pub record LineView : Type 0 where
  pub pass : PassView
  pub journal : List Entry
  pub heard : Heard
  pub tries : ℕ
  pub kept : ∥ IsLine pass journal ∥₁

-- the effect of a call on its pass: the clauses of `ask`; and it began after all that these receipts tell
pub record Replied (heard : Told) (v : PassView) (c : Call) (tries : ℕ) (reply : Reply) (w : PassView) : Type 0 where
  pub pass : IsSamePass v w
  pub lawful : LawfulThroughout v.opening w.seen
  pub seen : SeenAfter v.machine c (Ok reply) v.opening v.seen w.seen
  pub answer : IfSettled reply (λ answer. AnswersAtItsPoint v c answer w)
  pub right : IfSettled reply (λ answer. LastingRight v c answer w)
  pub busy : IfBusy reply (λ lost. IsOvertaken v v.seen c tries lost w)
  pub one_load : w.loads ≡ v.loads + 1
  pub few_exchanges : w.exchanges ≤ v.exchanges + tries
  pub all_lost : IfBusy reply (λ n. w.exchanges ≡ v.exchanges + n)
  pub since : IfBusy reply (HasChanges v.machine w.since w.seen)
  pub real_time : IsTimed heard v c reply w

-- the interlock's reply came back; or there was no room for an entry, and no call was made
abbrev pub PassAsks : ℕ → PassView → Call → Result Reply LineFault → PassView → Type 0
PassAsks tries v c (Ok reply) w = Replied [] v c tries reply w
PassAsks tries v c (Err fault) w = w ≡ v

-- a line's call: it is made by its pass, and a later one may lose as many exchanges
pub record LineAsks (l : LineView) (c : Call) (r : Result Reply LineFault) (d : LineView) : Type 0 where
  pub call : PassAsks l.tries l.pass c r d.pass
  pub tries : d.tries ≡ l.tries

-- a line's survey: its pass has seen more, and a later call may lose as many exchanges
pub record LineSurveys (l d : LineView) : Type 0 where
  pub more : HasSeenMore l.pass d.pass
  pub tries : d.tries ≡ l.tries
