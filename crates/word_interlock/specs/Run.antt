-- The whole run of an interlock: all moments, from its making to its end.
use Rattle.std.specs.Prelude.{◌≡◌, List, [], ◌∷◌, ◌++◌}
use Rattle.word_interlock.specs.RuleBook.{RuleBook}
use Rattle.word_interlock.specs.History.{after, IsLawful, BeginsWith, Settles}
use Rattle.word_interlock.specs.declared.views.ActorView.{ActorView}
use Rattle.word_interlock.specs.declared.views.HistoryView.{HistoryView}
use Rattle.word_interlock.specs.declared.views.Moment.{Moment}
use Rattle.word_interlock.specs.declared.views.Moment.TheVariants.{Begins, Answered}
use Rattle.word_interlock.specs.Views.{PassView}
use Rattle.word_interlock.specs.Moments.{events_of, own_moments, HasBegun, AreCalls, AreInTime}
use Rattle.word_interlock.specs.Bunches.{AllHavePart, IsEnd}
use Rattle.word_interlock.specs.Timing.{Lasts}

module _ {R S M C A E : Type 0} (b : RuleBook S M C A E) where
  -- The state is the one after the events of all moments. These are legal, and each comes after the beginning of its
  -- call. Each of these actors was shown a prefix of the moments, with all its own, and has seen a prefix of the
  -- events.
  pub record IsRun (opening : S) (actors : List (ActorView R S M E)) (s : S) : Type 0 where
    pub moments : List (Moment M E)
    pub calls : AreCalls b moments
    pub lawful : IsLawful b opening (events_of moments)
    pub reached : s ≡ after b opening (events_of moments)
    pub in_time : AreInTime b moments actors
    pub parts : AllHavePart b opening (events_of moments) actors

module _ {S M C A E : Type 0} (b : RuleBook S M C A E) where
  -- an answered call among the moments: it began, and then its event came; between them stands no moment of its actor
  pub record AnsweredCall (moments : List (Moment M E)) : Type 0 where
    pub before : List (Moment M E)
    pub between : List (Moment M E)
    pub event : E
    pub rest : List (Moment M E)
    pub is : moments ≡ before ++ Begins (b.actor_of event) ∷ between ++ Answered event ∷ rest
    pub own : own_moments b between (b.actor_of event) ≡ []

  module _ {moments : List (Moment M E)} where
    -- the point of a call: the events before its own
    abbrev pub point_of : AnsweredCall moments → List E
    point_of call = events_of call.before ++ events_of call.between

    -- a call was answered before another one began
    abbrev pub EndsBefore : AnsweredCall moments → AnsweredCall moments → Type 0
    EndsBefore call later =
        BeginsWith later.before
        (call.before ++ Begins (b.actor_of call.event) ∷ call.between ++ Answered call.event ∷ [])

  -- In a run each event is that of an answered call, whose point is the history before it (`each`), and of one alone
  -- (`one`). Of two calls that don't overlap, the earlier one stands first in the history (`order`).
  pub record RunsKeepOrder : Type 0 where
    pub each : (moments earlier : List (Moment M E)) (e : E) (later : List (Moment M E)) → AreCalls b moments
        → moments ≡ earlier ++ Answered e ∷ later
        → (call : AnsweredCall moments) × (call.event ≡ e) × (call.rest ≡ later) × (point_of call ≡ events_of earlier)
    pub one : (moments : List (Moment M E)) (call other : AnsweredCall moments) → call.rest ≡ other.rest
        → call.before ≡ other.before
    pub point : (moments : List (Moment M E)) (call : AnsweredCall moments)
        → events_of moments ≡ point_of call ++ call.event ∷ events_of call.rest
    pub order : (moments : List (Moment M E)) (call later : AnsweredCall moments) → EndsBefore call later
        → BeginsWith (point_of later) (point_of call ++ call.event ∷ [])

-- The state that a run ends with is the one after its legal history, of which each actor has seen a part.
abbrev pub RunsAreEnds : {S M C A E : Type 0} → Type 0 → RuleBook S M C A E → Type 0
RunsAreEnds {S} {M} {C} {A} {E} R b =
    (opening : S) (actors : List (ActorView R S M E)) (s : S) → IsRun b opening actors s → IsEnd b opening actors s

-- A call was answered, and then its caller, or one who knew of it by receipts, took a receipt. A call that is asked
-- after this receipt begins after the first call's event (`asked`). So does one whose caller had accepted the receipt
-- before (`accepted`).
pub record CallsFollowReceipts {S M C A E : Type 0} (R : Type 0) (b : RuleBook S M C A E) : Type 0 where
  pub asked : (m : M) (c : C) (a : A) (seen answered : List E) (receipt : HistoryView S M E) (v w : PassView R S M E)
      (last : List (Moment M E))
      → Settles b m c a seen answered → BeginsWith receipt.seen answered
      → (call : Lasts b (receipt ∷ []) v last w)
      → (point : List E) × (answered ≡ point ++ b.event m c a ∷ [])
      × BeginsWith (events_of call.first) (point ++ b.event m c a ∷ [])
  pub accepted : (m : M) (c : C) (a : A) (seen answered told : List E) (heard : List (HistoryView S M E))
      (v w : PassView R S M E) (last : List (Moment M E))
      → Settles b m c a seen answered → BeginsWith told answered → BeginsWith v.seen told
      → (call : Lasts b heard v last w)
      → (point : List E) × (answered ≡ point ++ b.event m c a ∷ [])
      × BeginsWith (events_of call.first) (point ++ b.event m c a ∷ [])

-- After a call was answered, its actor has no call that has begun. So no exchange is allowed to it before its next
-- load.
abbrev pub AnsweredCallsAreOver : {S M C A E : Type 0} → Type 0 → RuleBook S M C A E → Type 0
AnsweredCallsAreOver {S} {M} {C} {A} {E} R b =
    (heard : List (HistoryView S M E)) (v w : PassView R S M E) (c : C) (a : A)
    → Lasts b heard v (Answered (b.event v.actor c a) ∷ []) w → ¬ HasBegun b w.moments v.actor
