-- Busy calls are paid for by changes. A call that is made again until it is answered.
use Rattle.std.specs.Prelude.{◌≡◌, ℕ, ◌+◌, ◌*◌, ◌≤◌, List, [], ◌∷◌, Ok}
use Rattle.cell_types.specs.declared.call.Call.{Call}
use Rattle.cell_types.specs.declared.answer.Answer.{Answer}
use Rattle.cell_types.specs.declared.reply.Reply.{Reply}
use Rattle.cell_types.specs.declared.reply.Reply.TheVariants.{Settled, Busy}
use Rattle.cell_rules.specs.History.{after}
use Rattle.cell_rules.specs.Laws.{LawfulThroughout}
use Rattle.cell_rules.specs.Seen.{BeginsWith, SeenAfter}
use Rattle.word_interlock.specs.Settling as engine
use Rattle.cell_interlock.specs.Book.{cell_book}
use Rattle.cell_interlock.specs.Views.{PassView}
use Rattle.cell_interlock.specs.Engine.{pass_to}
use Rattle.cell_interlock.specs.Seen.{IsSamePass, HasChanges, IsOvertaken}
use Rattle.cell_interlock.specs.Calls.{IfBusy}

-- a call that was made: the pass before it, the call, what came back, and the pass after it
pub record MadeCall : Type 0 where
  pub before : PassView
  pub call : Call
  pub reply : Reply
  pub after : PassView

abbrev pub once_busy : Reply → ℕ
once_busy (Settled a stamp) = 0
once_busy (Busy lost stamp) = 1

-- how many of these calls were Busy
abbrev pub times_busy : List MadeCall → ℕ
times_busy [] = 0
times_busy (x ∷ rest) = once_busy x.reply + times_busy rest

-- a call was made as `ask` says: its clauses `pass`, `seen` and `busy`
pub record IsMade (tries : ℕ) (x : MadeCall) : Type 0 where
  pub pass : IsSamePass x.before x.after
  pub seen : SeenAfter x.before.machine x.call (Ok x.reply) x.before.opening x.before.seen x.after.seen
  pub busy : IfBusy x.reply (λ lost. IsOvertaken x.before x.before.seen x.call tries lost x.after)

-- the same pass later, after whatever else it has seen
pub record IsLater (v w : PassView) : Type 0 where
  pub pass : IsSamePass v w
  pub seen : BeginsWith w.seen v.seen

-- one pass made these calls, one after another
abbrev pub MakesCalls : ℕ → PassView → List MadeCall → PassView → Type 0
MakesCalls tries v [] w = IsLater v w
MakesCalls tries v (x ∷ rest) w = IsLater v x.before × IsMade tries x × MakesCalls tries x.after rest w

-- For each of these calls that was Busy, other machines made `tries` changes after what the pass had seen, no change
-- counted twice (`changes`). Each of them raises the stamp (`stamps`), which is at most 1,048,575 (`few`).
pub record BusyIsPaid : Type 0 where
  pub changes : (tries : ℕ) (v w : PassView) (calls : List MadeCall) → MakesCalls tries v calls w
      → HasChanges v.machine v.seen w.seen (times_busy calls * tries)
  pub stamps : (tries : ℕ) (v w : PassView) (calls : List MadeCall) → MakesCalls tries v calls w
      → LawfulThroughout v.opening w.seen
      → (after v.opening v.seen).stamp + times_busy calls * tries ≤ (after v.opening w.seen).stamp
  pub few : (tries : ℕ) (v w : PassView) (calls : List MadeCall) → MakesCalls tries v calls w
      → LawfulThroughout v.opening w.seen → times_busy calls * tries ≤ 1048575

-- A call was Busy this many times, and was then answered with this stamp. Each time the stamp has risen by as many
-- exchanges as a call may lose. Each ask took one load, and no more exchanges than a call may lose.
pub record IsPaidFor (tries busy : ℕ) (v : PassView) (stamp : ℕ) (w : PassView) : Type 0 where
  pub loads : w.loads ≡ v.loads + busy + 1
  pub exchanges : w.exchanges ≤ v.exchanges + (busy + 1) * tries
  pub risen : (after v.opening v.seen).stamp + busy * tries ≤ stamp

-- By the last ask the call was answered. Before it the pass had seen no less, and had left a beginning by each ask that
-- was Busy, and nothing else (`word_interlock`).
abbrev pub IsAnsweredAtLast : ℕ → PassView → Call → Answer → PassView → Type 0
IsAnsweredAtLast busy v c a w = engine.IsAnsweredAtLast cell_book busy (pass_to v) c a (pass_to w)

-- a call was asked until it was answered
pub record IsAskedUntilAnswered (tries : ℕ) (v : PassView) (c : Call) (a : Answer) (stamp : ℕ) (w : PassView)
    : Type 0 where
  pub busy : ℕ
  pub paid : IsPaidFor tries busy v stamp w
  pub last : IsAnsweredAtLast busy v c a w
