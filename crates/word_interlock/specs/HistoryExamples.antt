-- Literal cases of histories, of calls that were Busy, and of what an actor has seen: by two actors and an event of
-- each.
use Rattle.std.specs.Prelude.{◌≡◌, ◌≢◌, ◌+◌, true, false, [], ◌∷◌}
use Rattle.atomic_table.specs.Seated.{TableId}
use Rattle.word_interlock.specs.RuleBook.{RuleBook, times}
use Rattle.word_interlock.specs.History.{after, IsLegal, own_events, changes_by_others, Waits}
use Rattle.word_interlock.specs.declared.reply.Reply.{Reply}
use Rattle.word_interlock.specs.declared.reply.Reply.TheVariants.{Settled, Busy}
use Rattle.word_interlock.specs.declared.views.Moment.TheVariants.{Begins}
use Rattle.word_interlock.specs.Views.{PassView}
use Rattle.word_interlock.specs.Moments.{AreOfPasses}
use Rattle.word_interlock.specs.MomentExamples.{AreTwoActors}
use Rattle.word_interlock.specs.Seen.{IsSamePass}
use Rattle.word_interlock.specs.Settling.{MadeCall, times_busy, IsPaidFor}

module _ {S M C A E : Type 0} (b : RuleBook S M C A E) (m n : M) (e f : E) where
  pub record HistoryCases : Type 0 where
    pub after_two : (s : S) → after b s (e ∷ f ∷ [])
        ≡ b.next (b.next s (b.actor_of e) (b.call_of e)) (b.actor_of f) (b.call_of f)
    pub second_is_illegal : (s : S)
        → b.answer_of f ≢ b.reply (b.next s (b.actor_of e) (b.call_of e)) (b.actor_of f) (b.call_of f)
        → ¬ IsLegal b s (e ∷ f ∷ [])
    pub own : own_events b (e ∷ f ∷ e ∷ []) m ≡ e ∷ e ∷ []
    pub two_changes : b.is_done (b.answer_of f) ≡ true → changes_by_others b (f ∷ e ∷ f ∷ []) m ≡ 2
    pub no_change : b.is_done (b.answer_of f) ≡ false → changes_by_others b (f ∷ e ∷ f ∷ []) m ≡ 0
    pub stands_twice : times b.same m (m ∷ n ∷ m ∷ []) ≡ 2
    pub sees_another : Waits b m (e ∷ []) (e ∷ f ∷ [])
    pub sees_its_own : ¬ Waits b m [] (e ∷ [])
    pub forgets : ¬ Waits b m (f ∷ []) []
    pub has_no_pass : times b.same m b.actors ≡ 0 → ¬ AreOfPasses b (Begins n ∷ Begins m ∷ [])

module _ {R S M C A E : Type 0} (b : RuleBook S M C A E) (c : C) (a : A) (e : E) (v : PassView R S M E) where
  -- a call that came back so
  abbrev pub made : Reply A → MadeCall R S M C A E
  made reply = record { before = v; call = c; reply = reply; after = v }

  -- calls that may lose two exchanges each; one was Busy three times, and then answered
  pub record BusyCases : Type 0 where
    pub twice : times_busy (made (Busy 2 5) ∷ made (Settled a 7) ∷ made (Busy 2 9) ∷ []) ≡ 2
    pub paid : IsPaidFor b 2 3 v (b.stamp (after b v.opening v.seen) + 6)
        (record v { loads = v.loads + 4; exchanges = v.exchanges + 8 })
    pub one_load_less : ¬ IsPaidFor b 2 3 v (b.stamp (after b v.opening v.seen) + 6)
        (record v { loads = v.loads + 3; exchanges = v.exchanges + 8 })
    pub one_exchange_more : ¬ IsPaidFor b 2 3 v (b.stamp (after b v.opening v.seen) + 6)
        (record v { loads = v.loads + 4; exchanges = v.exchanges + 9 })
    pub one_change_less : ¬ IsPaidFor b 2 3 v (b.stamp (after b v.opening v.seen) + 5)
        (record v { loads = v.loads + 4; exchanges = v.exchanges + 8 })

  pub record PassCases : Type 0 where
    pub steps : IsSamePass v (record v { seen = []; since = e ∷ []; loads = 7; exchanges = 9; moments = [] })
    pub other_table : (u : TableId) → u ≢ v.table → ¬ IsSamePass v (record v { table = u })
    pub other_rules : (u : R) → u ≢ v.rules → ¬ IsSamePass v (record v { rules = u })
    pub other_opening : (u : S) → u ≢ v.opening → ¬ IsSamePass v (record v { opening = u })
    pub other_actor : (u : M) → u ≢ v.actor → ¬ IsSamePass v (record v { actor = u })

abbrev pub HistoryExamples : {S M C A E : Type 0} → Type 0 → RuleBook S M C A E → Type 0
HistoryExamples {S} {M} {C} {A} {E} R b =
    (m n : M) (c : C) (a : A) (e f : E) (v : PassView R S M E) → AreTwoActors b m n e f
    → HistoryCases b m n e f × BusyCases b c a e v × PassCases b c a e v
