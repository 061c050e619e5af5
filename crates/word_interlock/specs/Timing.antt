-- Calls in the order of the steps on the word: what comes before a call began comes before its event.
use Rattle.std.specs.Prelude.{◌≡◌, ◌⊎◌, List, [], ◌∷◌, ◌++◌}
use Rattle.word_interlock.specs.RuleBook.{RuleBook}
use Rattle.word_interlock.specs.History.{BeginsWith}
use Rattle.word_interlock.specs.declared.reply.Reply.{Reply}
use Rattle.word_interlock.specs.declared.reply.Reply.TheVariants.{Settled, Busy}
use Rattle.word_interlock.specs.declared.views.HistoryView.{HistoryView}
use Rattle.word_interlock.specs.declared.views.Moment.{Moment}
use Rattle.word_interlock.specs.declared.views.Moment.TheVariants.{Begins, Answered}
use Rattle.word_interlock.specs.declared.tries.Look.{Look}
use Rattle.word_interlock.specs.declared.tries.Look.TheVariants.{Settled as LookSettled, Pending}
use Rattle.word_interlock.specs.declared.tries.Tried.{Tried}
use Rattle.word_interlock.specs.declared.tries.Tried.TheVariants.{Settled as TriedSettled, Lost, Busy as TriedBusy}
use Rattle.word_interlock.specs.Views.{PassView, TryView}
use Rattle.word_interlock.specs.Moments.{events_of, own_moments}
use Rattle.word_interlock.specs.Rule.{AllTell, AllShow}

module _ {R S M C A E : Type 0} (b : RuleBook S M C A E) where
  -- A call of a pass's actor began after all moments so far, `first`. They have all that the pass had seen, all that
  -- these receipts tell, and no new moment of its actor. Then came the moments `between`, none of its actor, and then
  -- these last ones. What the pass has seen now is the events of them all. Its load showed it the events of `first`,
  -- and its own where the load answered the call.
  pub record Lasts (heard : List (HistoryView S M E)) (v : PassView R S M E) (last : List (Moment M E))
      (w : PassView R S M E) : Type 0 where
    pub first : List (Moment M E)
    pub between : List (Moment M E)
    pub is : w.moments ≡ first ++ Begins v.actor ∷ between ++ last
    pub begins : BeginsWith first v.moments
    pub had_seen : BeginsWith (events_of first) v.seen
    pub told : AllTell v.opening (events_of first) heard
    pub shown : AllShow first heard
    pub own_first : own_moments b first v.actor ≡ own_moments b v.moments v.actor
    pub own_between : own_moments b between v.actor ≡ []
    pub seen : w.seen ≡ events_of w.moments
    pub load : (w.since ≡ events_of first) ⊎ ((between ≡ []) × (w.since ≡ w.seen))

  -- a whole call: it began, and its event came last; if it is Busy, none came
  abbrev pub IsTimed : List (HistoryView S M E) → PassView R S M E → C → Reply A → PassView R S M E → Type 0
  IsTimed heard v c (Settled a stamp) w = Lasts heard v (Answered (b.event v.actor c a) ∷ []) w
  IsTimed heard v c (Busy lost stamp) w = Lasts heard v [] w

  -- likewise the first step of a call
  abbrev pub IsLookTimed : List (HistoryView S M E) → PassView R S M E → C → Look R S M C A E → Type 0
  IsLookTimed heard v c (LookSettled a stamp w) = Lasts heard v (Answered (b.event v.actor c a) ∷ []) w
  IsLookTimed heard v c (Pending t) = Lasts heard v [] t.pass

  -- a call that lasts since this pass was seen goes on
  abbrev pub GoesOn : TryView R S M C E → (PassView R S M E → List (Moment M E)) → PassView R S M E → Type 0
  GoesOn t last w =
      (heard : List (HistoryView S M E)) (v : PassView R S M E) → t.pass.actor ≡ v.actor → Lasts heard v [] t.pass
      → Lasts heard v (last v) w

  -- likewise a further step
  abbrev pub IsAttemptTimed : TryView R S M C E → Tried R S M C A E → Type 0
  IsAttemptTimed t (TriedSettled a stamp w) = GoesOn t (λ v. Answered (b.event v.actor t.call a) ∷ []) w
  IsAttemptTimed t (Lost u) = GoesOn t (λ v. []) u.pass
  IsAttemptTimed t (TriedBusy lost stamp w) = GoesOn t (λ v. []) w

-- among the moments an event stands before the last beginning of an actor's call
pub record BeginsAfter {M E : Type 0} (e : E) (m : M) (moments : List (Moment M E)) : Type 0 where
  pub before : List (Moment M E)
  pub between : List (Moment M E)
  pub rest : List (Moment M E)
  pub is : moments ≡ before ++ Answered e ∷ between ++ Begins m ∷ rest
  pub last : (earlier later : List (Moment M E)) → ¬ (rest ≡ earlier ++ Begins m ∷ later)
