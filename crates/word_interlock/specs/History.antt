-- Histories: lists of events, the oldest first; and what an actor has seen of one.
use Rattle.std.specs.Prelude.{◌≡◌, ℕ, Bool, ◌&&◌, not, List, [], ◌∷◌, ◌++◌, filter, count_by, ⊤}
use Rattle.word_interlock.specs.RuleBook.{RuleBook}

-- what is seen now begins with what was seen before
abbrev pub BeginsWith : {E : Type 0} → List E → List E → Type 0
BeginsWith {E} now before = (more : List E) × (now ≡ before ++ more)

module _ {S M C A E : Type 0} (b : RuleBook S M C A E) where
  -- the state after a history that begins with a state
  abbrev pub after : S → List E → S
  after s [] = s
  after s (e ∷ history) = after (b.next s (b.actor_of e) (b.call_of e)) history

  -- every event has the answer that `reply` gives in the state before it
  abbrev pub IsLegal : S → List E → Type 0
  IsLegal s [] = ⊤
  IsLegal s (e ∷ history) =
      (b.answer_of e ≡ b.reply s (b.actor_of e) (b.call_of e))
      × IsLegal (b.next s (b.actor_of e) (b.call_of e)) history

  -- an actor's events, in order
  abbrev pub own_events : List E → M → List E
  own_events history m = filter (λ e. b.same (b.actor_of e) m) history

  -- an event that has changed the state
  abbrev pub is_change : E → Bool
  is_change e = b.is_done (b.answer_of e)

  -- how many changes of a history are of actors other than one
  abbrev pub changes_by_others : List E → M → ℕ
  changes_by_others history m = count_by (λ e. is_change e && not (b.same (b.actor_of e) m)) history

  -- a legal history from a sound state: what holds of all such histories of these rules holds of it
  pub record IsLawful (opening : S) (history : List E) : Type 0 where
    pub opened : b.is_sound opening
    pub legal : IsLegal opening history

  -- a call was answered: the caller sees at least what it saw, then this call's event, the only new one of its own
  pub record Settles (m : M) (c : C) (a : A) (before now : List E) : Type 0 where
    pub point : List E
    pub begins : BeginsWith point before
    pub ends : now ≡ point ++ b.event m c a ∷ []
    pub own : own_events now m ≡ own_events before m ++ b.event m c a ∷ []

  -- no call was made: the caller sees at least what it saw, and nothing new of its own
  pub record Waits (m : M) (before now : List E) : Type 0 where
    pub begins : BeginsWith now before
    pub own : own_events now m ≡ own_events before m
