-- Moments: the beginnings and the answers of calls, in the order of the steps on the word, the oldest first. A call
-- begins with its load. Its answer is its event, and comes with the step that answers it: its load, or an exchange.
use Rattle.std.specs.Prelude.{◌≡◌, ◌≤◌, List, [], ◌∷◌, ◌++◌, filter, ⊤}
use Rattle.word_interlock.specs.RuleBook.{RuleBook, times}
use Rattle.word_interlock.specs.History.{BeginsWith}
use Rattle.word_interlock.specs.declared.views.ActorView.{ActorView}
use Rattle.word_interlock.specs.declared.views.Moment.{Moment}
use Rattle.word_interlock.specs.declared.views.Moment.TheVariants.{Begins, Answered}

-- the events among moments, in order
abbrev pub events_of : {M E : Type 0} → List (Moment M E) → List E
events_of [] = []
events_of (Begins m ∷ rest) = events_of rest
events_of (Answered e ∷ rest) = e ∷ events_of rest

module _ {S M C A E : Type 0} (b : RuleBook S M C A E) where
  -- whose call begins or is answered
  abbrev pub actor_at : Moment M E → M
  actor_at (Begins m) = m
  actor_at (Answered e) = b.actor_of e

  -- an actor's moments, in order
  abbrev pub own_moments : List (Moment M E) → M → List (Moment M E)
  own_moments moments m = filter (λ x. b.same (actor_at x) m) moments

  -- an actor's last moment is the beginning of a call
  pub record HasBegun (moments : List (Moment M E)) (m : M) : Type 0 where
    pub earlier : List (Moment M E)
    pub is : own_moments moments m ≡ earlier ++ Begins m ∷ []

  -- Each event comes after the beginning of its call: before it, its actor's last moment is a beginning. So no
  -- beginning is answered twice. That of a call that was Busy or abandoned isn't answered.
  abbrev pub AreCalls : List (Moment M E) → Type 0
  AreCalls moments =
      (earlier : List (Moment M E)) (e : E) (later : List (Moment M E)) → moments ≡ earlier ++ Answered e ∷ later
      → HasBegun earlier (b.actor_of e)

  -- each moment is of an actor who has a pass
  abbrev pub AreOfPasses : List (Moment M E) → Type 0
  AreOfPasses moments =
      (earlier : List (Moment M E)) (x : Moment M E) (later : List (Moment M E)) → moments ≡ earlier ++ x ∷ later
      → 1 ≤ times b.same (actor_at x) b.actors

  -- an actor's steps have shown it a prefix of the moments, with all its own
  pub record IsInTime {R : Type 0} (moments : List (Moment M E)) (p : ActorView R S M E) : Type 0 where
    pub begins : BeginsWith moments p.moments
    pub own : own_moments moments p.actor ≡ own_moments p.moments p.actor

  abbrev pub AreInTime : {R : Type 0} → List (Moment M E) → List (ActorView R S M E) → Type 0
  AreInTime moments [] = ⊤
  AreInTime moments (p ∷ rest) = IsInTime moments p × AreInTime moments rest
