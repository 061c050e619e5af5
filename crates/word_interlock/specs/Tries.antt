-- What `look` and `attempt` answer, and the pass after them.
use Rattle.std.specs.Prelude.{◌≡◌, ℕ, ◌+◌, ◌<◌, false}
use Rattle.word_interlock.specs.RuleBook.{RuleBook}
use Rattle.word_interlock.specs.History.{after}
use Rattle.word_interlock.specs.Views.{PassView, TryView}
use Rattle.word_interlock.specs.Seen.{IsSettled, IsUnmade, HasSeenMore, HasChanges, IsOvertaken}
use Rattle.word_interlock.specs.declared.tries.Look.{Look}
use Rattle.word_interlock.specs.declared.tries.Look.TheVariants.{Settled as LookSettled, Pending}
use Rattle.word_interlock.specs.declared.tries.Tried.{Tried}
use Rattle.word_interlock.specs.declared.tries.Tried.TheVariants.{Settled as TriedSettled, Lost, Busy}

module _ {R S M C A E : Type 0} (b : RuleBook S M C A E) where
  -- a call that would be done and has lost no exchange; its pass has only now looked
  pub record IsPending (v : PassView R S M E) (c : C) (most : ℕ) (t : TryView R S M C E) : Type 0 where
    pub unmade : IsUnmade b v c t.pass
    pub call : t.call ≡ c
    pub tries : t.tries ≡ most
    pub lost : t.lost ≡ 0
    pub since : t.pass.since ≡ t.pass.seen

  -- a look settles only calls that change nothing
  abbrev pub Looked : PassView R S M E → C → ℕ → Look R S M C A E → Type 0
  Looked v c tries (LookSettled a stamp w) = IsSettled b v c a stamp w × (b.is_done a ≡ false)
  Looked v c tries (Pending t) = IsPending v c tries t

  -- the same call has lost one more exchange, because another actor changed the word; it may lose another one
  pub record IsLost (t u : TryView R S M C E) : Type 0 where
    pub unmade : IsUnmade b t.pass t.call u.pass
    pub call : u.call ≡ t.call
    pub tries : u.tries ≡ t.tries
    pub since : u.pass.since ≡ t.pass.since
    pub lost : u.lost ≡ t.lost + 1
    pub room : u.lost < u.tries
    pub changed : HasChanges b t.pass.actor t.pass.seen u.pass.seen 1

  -- the last exchange that the call may lose is lost, too
  pub record IsBusy (t : TryView R S M C E) (lost stamp : ℕ) (w : PassView R S M E) : Type 0 where
    pub more : HasSeenMore b t.pass w
    pub stamped : stamp ≡ b.stamp (after b t.pass.opening w.seen)
    pub last : t.lost + 1 ≡ t.tries
    pub overtaken : IsOvertaken b t.pass t.pass.since t.call t.tries lost w

  abbrev pub Attempted : TryView R S M C E → Tried R S M C A E → Type 0
  Attempted t (TriedSettled a stamp w) = IsSettled b t.pass t.call a stamp w
  Attempted t (Lost u) = IsLost t u
  Attempted t (Busy lost stamp w) = IsBusy t lost stamp w

module _ {R S M C A E : Type 0} where
  -- the pass after a look, and after an attempt
  abbrev pub after_look : Look R S M C A E → PassView R S M E
  after_look (LookSettled a stamp w) = w
  after_look (Pending t) = t.pass

  abbrev pub after_attempt : Tried R S M C A E → PassView R S M E
  after_attempt (TriedSettled a stamp w) = w
  after_attempt (Lost u) = u.pass
  after_attempt (Busy lost stamp w) = w
