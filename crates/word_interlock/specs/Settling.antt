-- Busy calls are paid for by changes. A call that is made again until it is answered.
use Rattle.std.specs.Prelude.{◌≡◌, ℕ, ◌+◌, ◌*◌, ◌<◌, ◌≤◌, ◌^◌, List, [], ◌∷◌, ◌++◌, replicate}
use Rattle.word_interlock.specs.RuleBook.{RuleBook}
use Rattle.word_interlock.specs.History.{after, IsLegal, BeginsWith, Waits}
use Rattle.word_interlock.specs.declared.reply.Reply.{Reply}
use Rattle.word_interlock.specs.declared.reply.Reply.TheVariants.{Settled, Busy}
use Rattle.word_interlock.specs.declared.views.Moment.TheVariants.{Begins, Answered}
use Rattle.word_interlock.specs.Views.{PassView}
use Rattle.word_interlock.specs.Seen.{IsSamePass, HasChanges, IsOvertaken}
use Rattle.word_interlock.specs.Calls.{IfBusy, SeenAfter}
use Rattle.word_interlock.specs.Moments.{own_moments}
use Rattle.word_interlock.specs.Timing.{Lasts}

-- a call that was made: the pass before it, the call, what came back, and the pass after it
pub record MadeCall (R S M C A E : Type 0) : Type 0 where
  pub before : PassView R S M E
  pub call : C
  pub reply : Reply A
  pub after : PassView R S M E

abbrev pub once_busy : {A : Type 0} → Reply A → ℕ
once_busy (Settled a stamp) = 0
once_busy (Busy lost stamp) = 1

module _ {R S M C A E : Type 0} where
  -- how many of these calls were Busy
  abbrev pub times_busy : List (MadeCall R S M C A E) → ℕ
  times_busy [] = 0
  times_busy (x ∷ rest) = once_busy x.reply + times_busy rest

module _ {R S M C A E : Type 0} (b : RuleBook S M C A E) (tries : ℕ) where
  -- a call was made as `ask` says: its clauses `pass`, `seen` and `busy`
  pub record IsMade (x : MadeCall R S M C A E) : Type 0 where
    pub pass : IsSamePass x.before x.after
    pub seen : SeenAfter b x.before.actor x.call x.reply x.before.opening x.before.seen x.after.seen
    pub busy : IfBusy x.reply (λ lost. IsOvertaken b x.before x.before.seen x.call tries lost x.after)

  -- the same pass later, after whatever else it has seen
  pub record IsLater (v w : PassView R S M E) : Type 0 where
    pub pass : IsSamePass v w
    pub seen : BeginsWith w.seen v.seen

  -- one pass made these calls, one after another
  abbrev pub MakesCalls : PassView R S M E → List (MadeCall R S M C A E) → PassView R S M E → Type 0
  MakesCalls v [] w = IsLater v w
  MakesCalls v (x ∷ rest) w = IsLater v x.before × IsMade x × MakesCalls x.after rest w

-- For each of these calls that was Busy, other actors made `tries` changes after what the pass had seen, no change
-- counted twice (`changes`). Each of them raises the stamp (`stamps`).
pub record BusyIsPaid (R : Type 0) {S M C A E : Type 0} (b : RuleBook S M C A E) (tries : ℕ) : Type 0 where
  pub changes : (v w : PassView R S M E) (calls : List (MadeCall R S M C A E)) → MakesCalls b tries v calls w
      → HasChanges b v.actor v.seen w.seen (times_busy calls * tries)
  pub stamps : (v w : PassView R S M E) (calls : List (MadeCall R S M C A E)) → MakesCalls b tries v calls w
      → IsLegal b v.opening w.seen
      → b.stamp (after b v.opening v.seen) + times_busy calls * tries ≤ b.stamp (after b v.opening w.seen)

module _ {R S M C A E : Type 0} (b : RuleBook S M C A E) where
  -- A call was Busy this many times, and was then answered with this stamp. Each time the stamp has risen by as many
  -- exchanges as a call may lose. Each ask took one load, and no more exchanges than a call may lose.
  pub record IsPaidFor (tries busy : ℕ) (v : PassView R S M E) (stamp : ℕ) (w : PassView R S M E) : Type 0 where
    pub loads : w.loads ≡ v.loads + busy + 1
    pub exchanges : w.exchanges ≤ v.exchanges + (busy + 1) * tries
    pub risen : b.stamp (after b v.opening v.seen) + busy * tries ≤ stamp

  -- By the last ask the call was answered. Before it the pass had seen no less, and had left a beginning by each ask
  -- that was Busy, and nothing else.
  pub record IsAnsweredAtLast (busy : ℕ) (v : PassView R S M E) (c : C) (a : A) (w : PassView R S M E) : Type 0 where
    pub before : PassView R S M E
    pub pass : IsSamePass v before
    pub seen : BeginsWith before.seen v.seen
    pub moments : BeginsWith before.moments v.moments
    pub own : own_moments b before.moments v.actor ≡ own_moments b v.moments v.actor ++ replicate busy (Begins v.actor)
    pub lasts : Lasts b [] before (Answered (b.event v.actor c a) ∷ []) w

  -- a call was asked until it was answered
  pub record IsAskedUntilAnswered (tries : ℕ) (v : PassView R S M E) (c : C) (a : A) (stamp : ℕ) (w : PassView R S M E)
      : Type 0 where
    pub busy : ℕ
    pub paid : IsPaidFor tries busy v stamp w
    pub last : IsAnsweredAtLast busy v c a w

  -- a call was Busy n times, and isn't answered yet
  pub record IsStillBusy (tries n : ℕ) (v w : PassView R S M E) : Type 0 where
    pub pass : IsSamePass v w
    pub seen : Waits b v.actor v.seen w.seen
    pub moments : BeginsWith w.moments v.moments
    pub own : own_moments b w.moments v.actor ≡ own_moments b v.moments v.actor ++ replicate n (Begins v.actor)
    pub loads : w.loads ≡ v.loads + n
    pub exchanges : w.exchanges ≡ v.exchanges + n * tries
    pub risen : b.stamp (after b v.opening v.seen) + n * tries ≤ b.stamp (after b v.opening w.seen)
    pub counted : n ≤ b.stamp (after b v.opening w.seen)
    pub few : n < 2 ^ 32
