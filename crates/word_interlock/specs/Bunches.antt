-- Several passes in one: those of a new interlock, and those that have come back at its end.
use Rattle.std.specs.Prelude.{◌≡◌, List, [], ◌∷◌, map, ⊤}
use Rattle.atomic_table.specs.Table.{Me}
use Rattle.word_interlock.specs.RuleBook.{RuleBook}
use Rattle.word_interlock.specs.History.{after, IsLawful, Waits}
use Rattle.word_interlock.specs.declared.views.ActorView.{ActorView}
use Rattle.word_interlock.specs.declared.views.SeatView.{SeatView}
use Rattle.word_interlock.specs.Views.{InterlockView, PassesView}
use Rattle.word_interlock.specs.Rule.{new_view}

-- all passes of an interlock, each of an actor that has seen nothing and made no step yet
abbrev pub fresh_passes : {R S M E : Type 0} → InterlockView R S → List M → PassesView R S M E
fresh_passes i actors = record { table = i.table; actors = map (new_view i.rules i.opening) actors }

module _ {R S M E : Type 0} where
  -- the first actor of several
  abbrev pub IsNext : M → List (ActorView R S M E) → Type 0
  IsNext m [] = ⊥
  IsNext m (p ∷ rest) = p.actor ≡ m

  -- a seat of these actors, and of no receipt
  abbrev pub bunch : List (ActorView R S M E) → SeatView R S M E
  bunch actors = record { actors = actors; receipts = [] }

-- each actor of several has seen a legal history from a sound opening
abbrev pub AllLawful : {R S M C A E : Type 0} → (R → RuleBook S M C A E) → List (ActorView R S M E) → Type 0
AllLawful book [] = ⊤
AllLawful book (p ∷ rest) = IsLawful (book p.rules) p.opening p.seen × AllLawful book rest

module _ {R S M C A E T : Type 0} (book : R → RuleBook S M C A E) where
  -- a seat of several actors alone
  pub record IsBunch (me : Me T (SeatView R S M E)) : Type 0 where
    pub alone : me ≡ (bunch me.0.actors, [])
    pub lawful : AllLawful book me.0.actors

module _ {R S M C A E : Type 0} (b : RuleBook S M C A E) where
  -- an actor has seen a prefix of the history, with all its own events
  pub record HasPart (opening : S) (history : List E) (p : ActorView R S M E) : Type 0 where
    pub opened : p.opening ≡ opening
    pub seen : Waits b p.actor p.seen history

  abbrev pub AllHavePart : S → List E → List (ActorView R S M E) → Type 0
  AllHavePart opening history [] = ⊤
  AllHavePart opening history (p ∷ rest) = HasPart opening history p × AllHavePart opening history rest

  -- the state is the one after a legal history from the opening; each of these actors has seen a prefix of it, with all
  -- its own events
  pub record IsEnd (opening : S) (actors : List (ActorView R S M E)) (s : S) : Type 0 where
    pub history : List E
    pub lawful : IsLawful b opening history
    pub reached : s ≡ after b opening history
    pub parts : AllHavePart opening history actors
