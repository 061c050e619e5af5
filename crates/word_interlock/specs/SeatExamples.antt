-- Literal cases of seats: of two actors and two receipts, and what steps show them. Each of those that are wrong is
-- wrong in the second one.
use Rattle.std.specs.Prelude.{◌≡◌, ◌↔◌, ℕ, ◌+◌, Bool, true, false, IsTrue, List, [], ◌∷◌}
use Rattle.atomic_table.specs.Seated.{TableId}
use Rattle.word_interlock.specs.RuleBook.{RuleBook}
use Rattle.word_interlock.specs.declared.reply.Reply.TheVariants.{Settled, Busy}
use Rattle.word_interlock.specs.declared.views.ActorView.{ActorView}
use Rattle.word_interlock.specs.declared.views.HistoryView.{HistoryView}
use Rattle.word_interlock.specs.declared.views.Moment.{Moment}
use Rattle.word_interlock.specs.declared.views.Moment.TheVariants.{Begins, Answered}
use Rattle.word_interlock.specs.Views.{pass_of, view_of, receipt_of, receipt_with, told_by, PassView}
use Rattle.word_interlock.specs.Bunches.{IsNext, bunch, fresh_passes}
use Rattle.word_interlock.specs.Calls.{IfSettled, IfBusy, stamp_in}
use Rattle.word_interlock.specs.Moments.{events_of}
use Rattle.word_interlock.specs.One.{IsSeen, AreShown}
use Rattle.word_interlock.specs.Rule.{spent, actor_alone, receipt_alone, actor_with, first_off, others_of}
use Rattle.word_interlock.specs.Rule.{receipts_of, together, all_views, after_exchange, after_gathering}
use Rattle.word_interlock.specs.Rule.{AllTell, AllShow, seen_at, seen_by, moments_at, moments_by, with_begin}
use Rattle.word_interlock.specs.Settling.{once_busy}

module _ {R S M E : Type 0} (p q : ActorView R S M E) (told other : HistoryView S M E) (e f : E) where
  pub record SeatCases : Type 0 where
    pub first_alone : first_off (record { actors = p ∷ q ∷ []; receipts = told ∷ [] }) ≡ actor_alone p
    pub all_others : others_of (record { actors = p ∷ q ∷ p ∷ []; receipts = told ∷ other ∷ [] })
        ≡ record { actors = q ∷ p ∷ []; receipts = told ∷ other ∷ [] }
    pub receipts_first_of_actors : receipts_of (record { actors = p ∷ q ∷ []; receipts = told ∷ [] })
        ≡ record {
          actors = [];
          receipts = record { opening = p.opening; seen = p.seen; moments = p.moments }
              ∷ record { opening = q.opening; seen = q.seen; moments = q.moments } ∷ told ∷ [];
        }
    pub the_others_first : together (actor_with p (told ∷ [])) (actor_with q (other ∷ []))
        ≡ record { actors = q ∷ p ∷ []; receipts = other ∷ told ∷ [] }
    pub gathered : after_gathering (e ∷ f ∷ []) (record { actors = p ∷ q ∷ []; receipts = told ∷ [] })
        ≡ record {
          actors = record p { seen = e ∷ f ∷ []; since = e ∷ f ∷ []; loads = p.loads + 1 }
              ∷ record q { seen = e ∷ f ∷ []; since = e ∷ f ∷ []; loads = q.loads + 1 } ∷ [];
          receipts = [];
        }
    pub exchanged : after_exchange p (e ∷ f ∷ []) ≡ record p { seen = e ∷ f ∷ []; exchanges = p.exchanges + 1 }
    pub in_one : bunch (p ∷ q ∷ p ∷ []) ≡ record { actors = p ∷ q ∷ p ∷ []; receipts = [] }
    pub receipt : receipt_alone {R = R} other ≡ record { actors = []; receipts = other ∷ [] }
    pub first_is_next : IsNext p.actor (p ∷ q ∷ [])
    pub none_is_next : ¬ IsNext {R = R} {S = S} {E = E} p.actor []

  -- a pass's view and its table, a receipt's view and its table: nothing is lost
  pub record ViewCases (v : PassView R S M E) : Type 0 where
    pub pass : pass_of v.table (view_of v) ≡ v
    pub receipt : receipt_with {M = M} v.table (told_by (receipt_of v)) ≡ receipt_of v

module _ (E : Type 0) {R S M : Type 0} (rules : R) (opening : S) (m n : M) where
  -- the view of an actor that has seen nothing, and made no step
  abbrev pub unseen : M → ActorView R S M E
  unseen k = record {
    rules = rules;
    opening = opening;
    actor = k;
    seen = [];
    since = [];
    loads = 0;
    exchanges = 0;
    moments = [];
  }

  pub record FreshCases : Type 0 where
    pub passes : (table : TableId) (tries : ℕ)
        → fresh_passes (record { table = table; rules = rules; opening = opening; tries = tries }) (m ∷ n ∷ [])
        ≡ record { table = table; actors = unseen m ∷ unseen n ∷ [] }
    pub views : all_views rules opening (n ∷ m ∷ [])
        ≡ record { actors = unseen n ∷ unseen m ∷ []; receipts = [] }

module _ {S M E : Type 0} (opening : S) (m n : M) (e f : E) where
  -- a receipt that tells this
  abbrev pub tells : List E → List (Moment M E) → HistoryView S M E
  tells seen moments = record { opening = opening; seen = seen; moments = moments }

  pub record ToldCases : Type 0 where
    pub tell : AllTell opening (e ∷ f ∷ []) (tells (e ∷ []) [] ∷ tells (e ∷ f ∷ []) [] ∷ [])
    pub second_tells_more : ¬ AllTell opening (e ∷ []) (tells (e ∷ []) [] ∷ tells (e ∷ f ∷ []) [] ∷ [])
    pub show : AllShow (Begins m ∷ Begins n ∷ []) (tells [] (Begins m ∷ []) ∷ tells [] (Begins m ∷ Begins n ∷ []) ∷ [])
    pub second_shows_more : ¬ AllShow (Begins m ∷ []) (tells [] [] ∷ tells [] (Begins m ∷ Begins n ∷ []) ∷ [])
    pub events : events_of (Begins m ∷ Answered e ∷ Begins n ∷ Begins m ∷ Answered f ∷ Answered e ∷ [])
        ≡ e ∷ f ∷ e ∷ []

module _ (A : Type 0) where
  -- what replies tell by cases
  pub record ReplyCases : Type 0 where
    pub settled : (a : A) (stamp : ℕ) (test : A → Bool)
        → IfSettled (Settled a stamp) (λ x. IsTrue (test x)) ↔ IsTrue (test a)
    pub settled_is_not_busy : (a : A) (stamp : ℕ) → IfBusy (Settled a stamp) (λ lost. ⊥)
    pub busy : (lost stamp : ℕ) (test : ℕ → Bool)
        → IfBusy {A = A} (Busy lost stamp) (λ x. IsTrue (test x)) ↔ IsTrue (test lost)
    pub busy_is_not_settled : (lost stamp : ℕ) → IfSettled {A = A} (Busy lost stamp) (λ a. ⊥)
    pub stamp_of_settled : (a : A) (stamp : ℕ) → stamp_in (Settled a stamp) ≡ stamp
    pub stamp_of_busy : (lost stamp : ℕ) → stamp_in {A = A} (Busy lost stamp) ≡ stamp
    pub once : (lost stamp : ℕ) → once_busy {A = A} (Busy lost stamp) ≡ 1
    pub not_once : (a : A) (stamp : ℕ) → once_busy (Settled a stamp) ≡ 0

module _ {R S M C A E : Type 0} (b : RuleBook S M C A E) (c : C) (p : ActorView R S M E)
    (moments : List (Moment M E)) where
  -- the event of a call at the opening
  abbrev pub its_event : E
  its_event = b.event p.actor c (b.reply p.opening p.actor c)

  -- a call that changes nothing is answered by a load, or by an exchange that is lost; any call by one that is won
  pub record StepCases : Type 0 where
    pub load_answers : b.is_done (b.reply p.opening p.actor c) ≡ false
        → (seen_at b c p [] ≡ its_event ∷ []) × (moments_at b c p [] [] ≡ Answered its_event ∷ [])
    pub load_leaves_open : b.is_done (b.reply p.opening p.actor c) ≡ true
        → (seen_at b c p [] ≡ []) × (moments_at b c p [] moments ≡ moments)
    pub won : (seen_by b c p 5 5 [] ≡ its_event ∷ []) × (moments_by b c p 5 5 [] [] ≡ Answered its_event ∷ [])
    pub lost_answers : b.is_done (b.reply p.opening p.actor c) ≡ false
        → (seen_by b c p 5 6 [] ≡ its_event ∷ []) × (moments_by b c p 5 6 [] [] ≡ Answered its_event ∷ [])
    pub lost_leaves_open : b.is_done (b.reply p.opening p.actor c) ≡ true
        → (seen_by b c p 5 6 [] ≡ []) × (moments_by b c p 5 6 [] moments ≡ moments)
    pub begins : with_begin b p (Answered its_event ∷ []) ≡ Answered its_event ∷ Begins p.actor ∷ []

-- in the second seat, and there by the second actor
module _ {R S M E : Type 0} (p q : ActorView R S M E) (e : E) where
  pub record FoundCases : Type 0 where
    pub seen : IsSeen q.actor q.seen (actor_alone p ∷ bunch (p ∷ q ∷ []) ∷ [])
    pub shown : AreShown q.actor q.moments (actor_alone p ∷ bunch (p ∷ q ∷ []) ∷ [])
    pub none_has_seen : ¬ IsSeen p.actor (e ∷ []) (spent {R = R} {S = S} ∷ bunch [] ∷ [])
    pub none_was_shown : ¬ AreShown p.actor (Answered e ∷ []) (spent {R = R} {S = S} ∷ bunch [] ∷ [])
