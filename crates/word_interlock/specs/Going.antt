-- The invariant of a call that is under way.
use Rattle.std.specs.Prelude.{◌≡◌, ℕ, ◌<◌, ◌≤◌}
use Rattle.word_interlock.specs.RuleBook.{RuleBook}
use Rattle.word_interlock.specs.History.{after, IsLawful}
use Rattle.word_interlock.specs.Views.{PassView}
use Rattle.word_interlock.specs.Steps.{IsReady}
use Rattle.word_interlock.specs.Seen.{HasChanges}
use Rattle.word_interlock.specs.Moments.{HasBegun}

module _ {R S M C A E : Type 0} (b : RuleBook S M C A E) where
  -- the word last found is that of the state after what was seen; the call would be done there with this answer and
  -- leave the new word; for each exchange that it has lost, another actor has made a change since its first load; it
  -- has begun, and isn't answered
  pub record IsUnderWay (v : PassView R S M E) (c : C) (a : A) (old new lost : ℕ) : Type 0 where
    pub lawful : IsLawful b v.opening v.seen
    pub found : b.packed (after b v.opening v.seen) ≡ old
    pub ready : IsReady b v.actor c a old new
    pub evidence : HasChanges b v.actor v.since v.seen lost
    pub begun : HasBegun b v.moments v.actor

  -- likewise for a call that waits for its next exchange
  pub record IsTry (v : PassView R S M E) (c : C) (a : A) (old new lost tries : ℕ) : Type 0 where
    pub under_way : IsUnderWay v c a old new lost
    pub room : lost < tries
    pub few : tries ≤ 64
