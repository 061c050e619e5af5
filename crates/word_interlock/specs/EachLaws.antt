-- What is said of several passes or receipts is said of each of them, wherever it stands; and of a call that is made,
-- and of calls one after another.
use Rattle.std.specs.Prelude.{◌≡◌, ◌↔◌, ℕ, List, [], ◌∷◌, ◌++◌}
use Rattle.atomic_table.specs.Table.{Me}
use Rattle.word_interlock.specs.RuleBook.{RuleBook}
use Rattle.word_interlock.specs.History.{after, IsLawful, BeginsWith, Waits}
use Rattle.word_interlock.specs.declared.reply.Reply.{Reply}
use Rattle.word_interlock.specs.declared.views.ActorView.{ActorView}
use Rattle.word_interlock.specs.declared.views.HistoryView.{HistoryView}
use Rattle.word_interlock.specs.declared.views.SeatView.{SeatView}
use Rattle.word_interlock.specs.declared.views.Moment.{Moment}
use Rattle.word_interlock.specs.Views.{PassView}
use Rattle.word_interlock.specs.Moments.{own_moments, AreInTime}
use Rattle.word_interlock.specs.Rule.{AllFit, AllShow, AllTell, TellFirst, WordMoment, WordMomentOfAll}
use Rattle.word_interlock.specs.Bunches.{AllHavePart, IsBunch, IsEnd}
use Rattle.word_interlock.specs.Asked.{Asked}
use Rattle.word_interlock.specs.Seen.{HasSeenMore}
use Rattle.word_interlock.specs.Settling.{MadeCall, MakesCalls}

-- this holds of each element of a list
abbrev pub OfEach : {X : Type 0} → List X → (X → Type 0) → Type 0
OfEach {X} xs holds = (before : List X) (x : X) (rest : List X) → xs ≡ before ++ x ∷ rest → holds x

module _ {R S M C A E : Type 0} (b : RuleBook S M C A E) (rules : R) where
  -- each of several passes, by what it has seen and was shown
  pub record EachPass (passes : List (ActorView R S M E)) : Type 0 where
    pub part : (opening : S) (history : List E) → AllHavePart b opening history passes
        ↔ OfEach passes (λ p. (p.opening ≡ opening) × Waits b p.actor p.seen history)
    pub fit : (opening : S) (history : List E) → AllFit b rules opening history passes
        ↔ OfEach passes (λ p. (p.rules ≡ rules) × (p.opening ≡ opening) × Waits b p.actor p.seen history)
    pub in_time : (moments : List (Moment M E)) → AreInTime b moments passes
        ↔ OfEach passes (λ p. BeginsWith moments p.moments
        × (own_moments b moments p.actor ≡ own_moments b p.moments p.actor))
    pub found : (word : ℕ) (history : List E) → WordMomentOfAll b rules passes word history
        → OfEach passes (λ p. WordMoment b rules p word history)
    pub no_other_end : (opening s : S) → ((history : List E) → ¬ (s ≡ after b opening history))
        → ¬ IsEnd b opening passes s

-- each of several receipts; and those of a seat, to its first actor
pub record EachReceipt (R : Type 0) {S M E : Type 0} (receipts : List (HistoryView S M E)) : Type 0 where
  pub tell : (opening : S) (history : List E) → AllTell opening history receipts
      ↔ OfEach receipts (λ told. (told.opening ≡ opening) × BeginsWith history told.seen)
  pub show : (moments : List (Moment M E)) → AllShow moments receipts
      ↔ OfEach receipts (λ told. BeginsWith moments told.moments)
  pub tell_first : (p : ActorView R S M E) (others : List (ActorView R S M E)) (history : List E)
      → TellFirst (p ∷ others) history receipts
      ↔ OfEach receipts (λ told. (told.opening ≡ p.opening) × BeginsWith history told.seen)

-- a seat of several actors alone has no receipt and has taken no slot, and each of its actors has seen a lawful history
abbrev pub BunchesAreAlone : {R S M C A E : Type 0} → (R → RuleBook S M C A E) → Type 0
BunchesAreAlone {R} {S} {M} {C} {A} {E} book =
    (me : Me (Unit {0}) (SeatView R S M E)) → IsBunch book me
    ↔ ((me.0.receipts ≡ []) × (me.1 ≡ []) × OfEach me.0.actors (λ p. IsLawful (book p.rules) p.opening p.seen))

-- each call that `ask` made counts, at whatever pass; and calls of a pass, and then others of it, are calls of it
pub record CallsAddUp (R : Type 0) {S M C A E : Type 0} (b : RuleBook S M C A E) (tries : ℕ) : Type 0 where
  pub asked : (heard : List (HistoryView S M E)) (v w : PassView R S M E) (c : C) (reply : Reply A)
      → Asked b heard v c tries reply w
      → MakesCalls b tries v (record { before = v; call = c; reply = reply; after = w } ∷ []) w
  pub saw_more : (v w : PassView R S M E) → HasSeenMore b v w → MakesCalls b tries v [] w
  pub joined : (v u w : PassView R S M E) (some others : List (MadeCall R S M C A E)) → MakesCalls b tries v some u
      → MakesCalls b tries u others w → MakesCalls b tries v (some ++ others) w
  pub forgets_nothing : (v w : PassView R S M E) (calls : List (MadeCall R S M C A E)) → MakesCalls b tries v calls w
      → BeginsWith w.seen v.seen × (w.actor ≡ v.actor)

-- what holds of all of several, of any rules
pub record EachLaws {R S M C A E : Type 0} (book : R → RuleBook S M C A E) (rules : R) : Type 0 where
  pub passes : (passes : List (ActorView R S M E)) → EachPass (book rules) rules passes
  pub receipts : (receipts : List (HistoryView S M E)) → EachReceipt R receipts
  pub bunches : BunchesAreAlone book
  pub calls : (tries : ℕ) → CallsAddUp R (book rules) tries
