-- The effect of a call on its pass, in terms of the rules.
use Rattle.std.specs.Prelude.{◌≡◌, ℕ, ◌≤◌, true, List, [], ◌∷◌, ◌++◌}
use Rattle.word_interlock.specs.RuleBook.{RuleBook}
use Rattle.word_interlock.specs.History.{after, changes_by_others, IsLawful, Settles, Waits}
use Rattle.word_interlock.specs.Views.{PassView}

-- it is the same pass: of the same interlock and actor
pub record IsSamePass {R S M E : Type 0} (v w : PassView R S M E) : Type 0 where
  pub table : w.table ≡ v.table
  pub rules : w.rules ≡ v.rules
  pub opening : w.opening ≡ v.opening
  pub actor : w.actor ≡ v.actor

module _ {S M C A E : Type 0} (b : RuleBook S M C A E) where
  -- after what was seen earlier, at least n changes by other actors have now been seen
  pub record HasChanges (m : M) (earlier now : List E) (n : ℕ) : Type 0 where
    pub more : List E
    pub is : now ≡ earlier ++ more
    pub many : n ≤ changes_by_others b more m

module _ {R S M C A E : Type 0} (b : RuleBook S M C A E) where
  -- The point of a call is the history before its event, which is the last that its caller sees. There the rules give
  -- this answer.
  abbrev pub AnswersAtItsPoint : PassView R S M E → C → A → PassView R S M E → Type 0
  AnswersAtItsPoint v c a w =
      (point : List E) → w.seen ≡ point ++ b.event v.actor c a ∷ [] → a ≡ b.reply (after b v.opening point) v.actor c

  -- At the point of its call an actor has made no other call since. So it still has there what, by the rules, only its
  -- own calls take from it.
  abbrev pub WaitsToItsPoint : PassView R S M E → C → A → PassView R S M E → Type 0
  WaitsToItsPoint v c a w =
      (point : List E) → w.seen ≡ point ++ b.event v.actor c a ∷ [] → Waits b v.actor v.seen point

  -- a call was answered
  pub record IsSettled (v : PassView R S M E) (c : C) (a : A) (stamp : ℕ) (w : PassView R S M E) : Type 0 where
    pub pass : IsSamePass v w
    pub lawful : IsLawful b v.opening w.seen
    pub seen : Settles b v.actor c a v.seen w.seen
    pub stamped : stamp ≡ b.stamp (after b v.opening w.seen)
    pub answer : AnswersAtItsPoint v c a w
    pub right : WaitsToItsPoint v c a w

  -- a pass has seen more, and nothing new of its own
  pub record HasSeenMore (v w : PassView R S M E) : Type 0 where
    pub pass : IsSamePass v w
    pub lawful : IsLawful b v.opening w.seen
    pub seen : Waits b v.actor v.seen w.seen

  -- a call would be done after what a pass has now seen
  abbrev pub WouldBeDone : PassView R S M E → C → PassView R S M E → Type 0
  WouldBeDone v c w = b.is_done (b.reply (after b v.opening w.seen) v.actor c) ≡ true

  -- a call wasn't made, but would be done
  pub record IsUnmade (v : PassView R S M E) (c : C) (w : PassView R S M E) : Type 0 where
    pub more : HasSeenMore v w
    pub ready : WouldBeDone v c w

  -- a call that would be done has lost as many exchanges as it may, and other actors made at least as many changes
  -- after what was seen earlier
  pub record IsOvertaken (v : PassView R S M E) (earlier : List E) (c : C) (tries lost : ℕ) (w : PassView R S M E)
      : Type 0 where
    pub all_lost : lost ≡ tries
    pub ready : WouldBeDone v c w
    pub changed : HasChanges b v.actor earlier w.seen tries
