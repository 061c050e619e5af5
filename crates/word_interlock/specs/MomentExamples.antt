-- Lists of moments that say, by two actors and an event of each, what calls in order are and what isn't one.
use Rattle.std.specs.Prelude.{◌≡◌, false, List, [], ◌∷◌}
use Rattle.word_interlock.specs.RuleBook.{RuleBook}
use Rattle.word_interlock.specs.declared.views.HistoryView.{HistoryView}
use Rattle.word_interlock.specs.declared.views.Moment.{Moment}
use Rattle.word_interlock.specs.declared.views.Moment.TheVariants.{Begins, Answered}
use Rattle.word_interlock.specs.Views.{PassView}
use Rattle.word_interlock.specs.Moments.{AreCalls}
use Rattle.word_interlock.specs.Timing.{Lasts}

module _ {S M C A E : Type 0} (b : RuleBook S M C A E) (m n : M) (e f : E) where
  -- e is an event of m, f one of n
  pub record AreTwoActors : Type 0 where
    pub first : b.actor_of e ≡ m
    pub second : b.actor_of f ≡ n
    pub apart : b.same m n ≡ false

  pub record CallExamples : Type 0 where
    pub one_call : AreCalls b (Begins m ∷ Answered e ∷ [])
    pub two_that_overlap : AreCalls b (Begins m ∷ Begins n ∷ Answered f ∷ Answered e ∷ [])
    pub the_first_was_busy : AreCalls b (Begins m ∷ Begins m ∷ Answered e ∷ [])
    pub none_began : ¬ AreCalls b (Answered e ∷ [])
    pub began_after_its_answer : ¬ AreCalls b (Answered e ∷ Begins m ∷ [])
    pub answered_twice : ¬ AreCalls b (Begins m ∷ Answered e ∷ Answered e ∷ [])
    pub another_began : ¬ AreCalls b (Begins n ∷ Answered e ∷ [])

module _ {R S M C A E : Type 0} (b : RuleBook S M C A E) (m n : M) (e f : E) where
  -- a pass of m, which has seen this, also at its last load, and whose steps have shown it these moments
  abbrev pub pass_with : PassView R S M E → List E → List E → List (Moment M E) → PassView R S M E
  pass_with v seen since moments = record v { actor = m; seen = seen; since = since; moments = moments }

  -- a receipt that tells this
  abbrev pub receipt_with : PassView R S M E → List E → List (Moment M E) → HistoryView S M E
  receipt_with v seen moments = record { opening = v.opening; seen = seen; moments = moments }

  -- A call of m is answered e. Each of those that aren't calls is wrong in one thing.
  pub record LastsExamples (v : PassView R S M E) : Type 0 where
    pub after_what_it_had_seen : Lasts b [] (pass_with v (f ∷ []) [] []) (Answered e ∷ [])
        (pass_with v (f ∷ e ∷ []) (f ∷ e ∷ []) (Begins n ∷ Answered f ∷ Begins m ∷ Answered e ∷ []))
    pub before_what_it_had_seen : ¬ Lasts b [] (pass_with v (f ∷ []) [] []) (Answered e ∷ [])
        (pass_with v (f ∷ e ∷ []) [] (Begins n ∷ Begins m ∷ Answered f ∷ Answered e ∷ []))
    pub before_a_beginning_that_it_was_shown : ¬ Lasts b [] (pass_with v [] [] (Begins n ∷ [])) (Answered e ∷ [])
        (pass_with v (e ∷ []) [] (Begins m ∷ Begins n ∷ Answered e ∷ []))
    pub sees_less : ¬ Lasts b [] (pass_with v [] [] []) (Answered e ∷ [])
        (pass_with v (e ∷ []) (e ∷ []) (Begins n ∷ Answered f ∷ Begins m ∷ Answered e ∷ []))
    -- a call that was Busy has begun; the next one begins anew
    pub anew_after_busy : Lasts b [] (pass_with v [] [] (Begins m ∷ [])) (Answered e ∷ [])
        (pass_with v (e ∷ []) (e ∷ []) (Begins m ∷ Begins m ∷ Answered e ∷ []))
    pub not_anew_after_busy : ¬ Lasts b [] (pass_with v [] [] (Begins m ∷ [])) (Answered e ∷ [])
        (pass_with v (e ∷ []) (e ∷ []) (Begins m ∷ Answered e ∷ []))
    pub begun_twice : ¬ Lasts b [] (pass_with v [] [] []) (Answered e ∷ [])
        (pass_with v (e ∷ []) [] (Begins m ∷ Begins m ∷ Answered e ∷ []))
    -- its load saw no event, so it began before f
    pub by_its_load : Lasts b [] (pass_with v [] [] []) (Answered e ∷ [])
        (pass_with v (f ∷ e ∷ []) [] (Begins n ∷ Begins m ∷ Answered f ∷ Answered e ∷ []))
    pub after_its_load : ¬ Lasts b [] (pass_with v [] [] []) (Answered e ∷ [])
        (pass_with v (f ∷ e ∷ []) [] (Begins n ∷ Answered f ∷ Begins m ∷ Answered e ∷ []))
    pub before_its_load : ¬ Lasts b [] (pass_with v [] [] []) (Answered e ∷ [])
        (pass_with v (f ∷ e ∷ []) (f ∷ []) (Begins n ∷ Begins m ∷ Answered f ∷ Answered e ∷ []))
    pub answered_late_by_its_load : ¬ Lasts b [] (pass_with v [] [] []) (Answered e ∷ [])
        (pass_with v (f ∷ e ∷ []) (f ∷ e ∷ []) (Begins n ∷ Begins m ∷ Answered f ∷ Answered e ∷ []))
    -- a receipt tells f, and the call that made it
    pub after_a_receipt : Lasts b (receipt_with v (f ∷ []) (Begins n ∷ Answered f ∷ []) ∷ [])
        (pass_with v [] [] []) (Answered e ∷ [])
        (pass_with v (f ∷ e ∷ []) (f ∷ e ∷ []) (Begins n ∷ Answered f ∷ Begins m ∷ Answered e ∷ []))
    pub before_what_a_receipt_tells : ¬ Lasts b (receipt_with v (f ∷ []) [] ∷ [])
        (pass_with v [] [] []) (Answered e ∷ [])
        (pass_with v (f ∷ e ∷ []) [] (Begins n ∷ Begins m ∷ Answered f ∷ Answered e ∷ []))
    pub before_a_beginning_that_a_receipt_tells :
        ¬ Lasts b (receipt_with v [] (Begins n ∷ []) ∷ []) (pass_with v [] [] []) (Answered e ∷ [])
        (pass_with v (e ∷ []) [] (Begins m ∷ Begins n ∷ Answered e ∷ []))
    -- its event comes last
    pub answered_before_another : ¬ Lasts b [] (pass_with v [] [] []) (Answered e ∷ [])
        (pass_with v (e ∷ f ∷ []) [] (Begins n ∷ Begins m ∷ Answered e ∷ Answered f ∷ []))

abbrev pub MomentExamples : {S M C A E : Type 0} → Type 0 → RuleBook S M C A E → Type 0
MomentExamples {S} {M} {C} {A} {E} R b =
    (m n : M) (e f : E) (v : PassView R S M E) → AreTwoActors b m n e f
    → CallExamples b m n e f × LastsExamples b m n e f v
