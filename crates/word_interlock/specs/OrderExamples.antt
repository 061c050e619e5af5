-- Literal cases of what stands before what, of who has seen what, of a call that was Busy once, and of stamps: by two
-- actors, and an event of each.
use Rattle.std.specs.Prelude.{◌≡◌, ℕ, ◌+◌, true, false, List, [], ◌∷◌, ◌++◌}
use Rattle.word_interlock.specs.RuleBook.{RuleBook}
use Rattle.word_interlock.specs.declared.reply.Reply.TheVariants.{Settled, Busy}
use Rattle.word_interlock.specs.declared.views.ActorView.{ActorView}
use Rattle.word_interlock.specs.declared.views.HistoryView.{HistoryView}
use Rattle.word_interlock.specs.declared.views.Moment.{Moment}
use Rattle.word_interlock.specs.declared.views.Moment.TheVariants.{Begins, Answered}
use Rattle.word_interlock.specs.Views.{PassView}
use Rattle.word_interlock.specs.Calls.{IsStampedAfter}
use Rattle.word_interlock.specs.Rule.{new_view}
use Rattle.word_interlock.specs.Timing.{BeginsAfter}
use Rattle.word_interlock.specs.Run.{AnsweredCall, EndsBefore}
use Rattle.word_interlock.specs.One.{IsSeenOn, AreShownOn}
use Rattle.word_interlock.specs.Settling.{IsAnsweredAtLast}
use Rattle.word_interlock.specs.MomentExamples.{AreTwoActors, pass_with}
use Rattle.word_interlock.specs.SeatExamples.{SeatCases, ViewCases, FreshCases, ToldCases, ReplyCases, StepCases}
use Rattle.word_interlock.specs.SeatExamples.{FoundCases}

module _ {S M C A E : Type 0} (b : RuleBook S M C A E) (m n : M) (e f : E) where
  pub record OrderCases : Type 0 where
    pub one_after_another : (first second : AnsweredCall b (Begins m ∷ Answered e ∷ Begins n ∷ Answered f ∷ []))
        × EndsBefore b first second
    pub overlapping : (first second : AnsweredCall b (Begins m ∷ Begins n ∷ Answered e ∷ Answered f ∷ []))
        → ¬ EndsBefore b first second
    pub begun_after : BeginsAfter f m (Begins n ∷ Answered f ∷ Begins m ∷ [])
    pub begun_before : ¬ BeginsAfter f m (Begins m ∷ Begins n ∷ Answered f ∷ [])

  -- an actor that has seen this, and was shown this
  abbrev pub view_with : {R : Type 0} → R → S → M → List E → List (Moment M E) → ActorView R S M E
  view_with rules opening k seen moments = record (new_view rules opening k) { seen = seen; moments = moments }

  pub record SeenCases {R : Type 0} (rules : R) (opening : S) : Type 0 where
    pub has_seen : IsSeenOn m (e ∷ []) (view_with rules opening m (e ∷ []) [] ∷ [])
    pub has_seen_nothing : ¬ IsSeenOn m (e ∷ []) (view_with rules opening m [] [] ∷ [])
    pub another_has_seen : ¬ IsSeenOn m (e ∷ []) (view_with rules opening n (e ∷ []) [] ∷ [])
    pub was_shown : AreShownOn m (Begins m ∷ []) (view_with rules opening m [] (Begins m ∷ []) ∷ [])
    pub was_shown_nothing : ¬ AreShownOn m (Begins m ∷ []) (view_with rules opening m [] [] ∷ [])
    pub another_was_shown : ¬ AreShownOn m (Begins m ∷ []) (view_with rules opening n [] (Begins m ∷ []) ∷ [])

-- a call of m that was Busy once, and was then answered e
module _ {R S M C A E : Type 0} (b : RuleBook S M C A E) (m n : M) (c : C) (a : A) (f : E) (v : PassView R S M E) where
  abbrev pub answered_after : List (Moment M E) → PassView R S M E
  answered_after moments =
      let e : E = b.event m c a in pass_with b m n e f v (e ∷ []) (e ∷ []) (moments ++ Answered e ∷ [])

  pub record SettledCases : Type 0 where
    pub busy_once : IsAnsweredAtLast b 1 (pass_with b m n (b.event m c a) f v [] [] []) c a
        (answered_after (Begins m ∷ Begins m ∷ []))
    pub one_beginning : ¬ IsAnsweredAtLast b 1 (pass_with b m n (b.event m c a) f v [] [] []) c a
        (answered_after (Begins m ∷ []))
    pub not_busy : ¬ IsAnsweredAtLast b 0 (pass_with b m n (b.event m c a) f v [] [] []) c a
        (answered_after (Begins m ∷ Begins m ∷ []))

-- replies to a caller that was told a stamp
module _ {S M C A E : Type 0} (b : RuleBook S M C A E) (a : A) where
  pub record StampCases : Type 0 where
    pub done_with_the_next : IsStampedAfter b 3 (Settled a 4)
    pub done_with_the_same : b.is_done a ≡ true → (told : ℕ) → ¬ IsStampedAfter b told (Settled a told)
    pub refused_with_the_same : b.is_done a ≡ false → IsStampedAfter b 3 (Settled a 3)
    pub answered_with_a_lower_one : (told : ℕ) → ¬ IsStampedAfter b (told + 1) (Settled a told)
    pub busy_with_the_same : (lost : ℕ) → IsStampedAfter b 3 (Busy lost 3)
    pub busy_with_a_lower_one : (lost told : ℕ) → ¬ IsStampedAfter b (told + 1) (Busy lost told)

abbrev pub OrderExamples : {S M C A E : Type 0} → Type 0 → RuleBook S M C A E → Type 0
OrderExamples {S} {M} {C} {A} {E} R b =
    (m n : M) (c : C) (a : A) (f : E) (rules : R) (opening : S) (v : PassView R S M E)
    → AreTwoActors b m n (b.event m c a) f
    → OrderCases b m n (b.event m c a) f × SeenCases b m n (b.event m c a) f rules opening
    × SettledCases b m n c a f v × StampCases b a

-- Literal cases of seats, of passes and receipts, of what replies tell and of what steps show.
pub record SeatExamples {S M C A E : Type 0} (R : Type 0) (b : RuleBook S M C A E) : Type 0 where
  pub seats : (p q : ActorView R S M E) (told other : HistoryView S M E) (e f : E) → SeatCases p q told other e f
  pub views : (p q : ActorView R S M E) (told other : HistoryView S M E) (e f : E) (v : PassView R S M E)
      → ViewCases p q told other e f v
  pub fresh : (rules : R) (opening : S) (m n : M) → FreshCases E rules opening m n
  pub told : (opening : S) (m n : M) (e f : E) → ToldCases opening m n e f
  pub replies : ReplyCases A
  pub steps : (c : C) (p : ActorView R S M E) (moments : List (Moment M E)) → StepCases b c p moments
  pub found : (p q : ActorView R S M E) (e : E) → FoundCases p q e
