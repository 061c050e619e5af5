-- The history of the rule is what one of the actors has seen. So it is one for all, and it grows as what they have
-- seen.
use Rattle.std.specs.Prelude.{◌≡◌, ◌⊎◌, List, [], ◌∷◌, ◌++◌}
use Rattle.atomic_table.specs.Table.{State}
use Rattle.word_interlock.specs.RuleBook.{RuleBook}
use Rattle.word_interlock.specs.declared.views.ActorView.{ActorView}
use Rattle.word_interlock.specs.declared.views.SeatView.{SeatView}
use Rattle.word_interlock.specs.declared.views.Moment.{Moment}
use Rattle.word_interlock.specs.Moments.{actor_at}
use Rattle.word_interlock.specs.Rule.{WordTellsHistory}

module _ {R S M E : Type 0} where
  -- this actor of a seat has seen exactly this history; likewise of any seat
  abbrev pub IsSeenOn : M → List E → List (ActorView R S M E) → Type 0
  IsSeenOn m history [] = ⊥
  IsSeenOn m history (p ∷ ps) = ((p.actor ≡ m) × (p.seen ≡ history)) ⊎ IsSeenOn m history ps

  abbrev pub IsSeen : M → List E → List (SeatView R S M E) → Type 0
  IsSeen m history [] = ⊥
  IsSeen m history (view ∷ views) = IsSeenOn m history view.actors ⊎ IsSeen m history views

  -- the steps of this actor of a seat have shown it exactly these moments; likewise of any seat
  abbrev pub AreShownOn : M → List (Moment M E) → List (ActorView R S M E) → Type 0
  AreShownOn m moments [] = ⊥
  AreShownOn m moments (p ∷ ps) = ((p.actor ≡ m) × (p.moments ≡ moments)) ⊎ AreShownOn m moments ps

  abbrev pub AreShown : M → List (Moment M E) → List (SeatView R S M E) → Type 0
  AreShown m moments [] = ⊥
  AreShown m moments (view ∷ views) = AreShownOn m moments view.actors ⊎ AreShown m moments views

-- who made the last event of the rule's history has seen it whole
abbrev pub HistoryIsSeen : {R S M C A E : Type 0} → RuleBook S M C A E → R → Type 0 → Type 0
HistoryIsSeen {R} {S} {M} {C} {A} {E} b rules T =
    (opening : S) (table : State T (SeatView R S M E)) (k : WordTellsHistory b rules opening table)
    (init : List E) (e : E) → k.history ≡ init ++ e ∷ [] → IsSeen (b.actor_of e) k.history table.views

-- likewise who made the rule's last moment has been shown all of them
abbrev pub MomentsAreShown : {R S M C A E : Type 0} → RuleBook S M C A E → R → Type 0 → Type 0
MomentsAreShown {R} {S} {M} {C} {A} {E} b rules T =
    (opening : S) (table : State T (SeatView R S M E)) (k : WordTellsHistory b rules opening table)
    (init : List (Moment M E)) (x : Moment M E) → k.moments ≡ init ++ x ∷ []
    → AreShown (actor_at b x) k.moments table.views
