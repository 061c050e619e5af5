-- What receipts tell comes first: by the rule of the word, and by the steps that it allows.
use Rattle.std.specs.Prelude.{◌≡◌, ℕ, List, [], ◌∷◌, ◌++◌}
use mathlib.Core.Option.{some}
use lib.ListN.{get_elem?}
use Rattle.atomic_table.specs.Table.{State, Me}
use Rattle.word_interlock.specs.RuleBook.{RuleBook}
use Rattle.word_interlock.specs.declared.views.ActorView.{ActorView}
use Rattle.word_interlock.specs.declared.views.HistoryView.{HistoryView}
use Rattle.word_interlock.specs.declared.views.SeatView.{SeatView}
use Rattle.word_interlock.specs.declared.views.Moment.{Moment}
use Rattle.word_interlock.specs.declared.views.Moment.TheVariants.{Answered}
use Rattle.word_interlock.specs.Rule.{WordTellsHistory, AllTell, AllShow, actor_alone, receipts_of, looked, exchanged}
use Rattle.word_interlock.specs.Timing.{BeginsAfter}

-- the one actor of a seat was shown these moments
pub record Shows {R S M E T : Type 0} (me : Me T (SeatView R S M E)) (moments : List (Moment M E)) : Type 0 where
  pub actor : ActorView R S M E
  pub alone : me ≡ (actor_alone actor, [])
  pub shown : actor.moments ≡ moments

module _ {R S M C A E : Type 0} (b : RuleBook S M C A E) (rules : R) (T : Type 0) where
  -- At every time what receipts tell is a prefix of the one history, and of its moments (`prefixes`). A load for a call
  -- comes after each event that the receipt tells: the call begins after it (`order`). So of two calls: one is done by
  -- an exchange, its seat's receipt is taken, and the other is loaded after that: it begins after the first one's event
  -- (`calls`).
  pub record ReceiptsComeFirst : Type 0 where
    pub prefixes : (opening : S) (table : State T (SeatView R S M E)) (k : WordTellsHistory b rules opening table)
        (i : ℕ) (view : SeatView R S M E) → get_elem? table.views i ≡ some view
        → AllTell opening k.history view.receipts × AllShow k.moments view.receipts
    pub order : (told : HistoryView S M E) (before after : List (Moment M E)) (e : E) (d : C) (q : ActorView R S M E)
        (word : ℕ) (me : Me T (SeatView R S M E)) → told.moments ≡ before ++ Answered e ∷ after
        → looked b rules d (told ∷ []) q word me
        → (moments : List (Moment M E)) × Shows me moments × BeginsAfter e q.actor moments
    pub calls : (c d : C) (p q : ActorView R S M E) (old word : ℕ) (me next : Me T (SeatView R S M E))
        → exchanged b rules c old p old me → looked b rules d (receipts_of me.0).receipts q word next
        → (a : A) × (moments : List (Moment M E)) × Shows next moments
        × BeginsAfter (b.event p.actor c a) q.actor moments
