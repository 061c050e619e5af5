-- What two passes have seen after they met, and one after it looked.
use Rattle.std.proofs.Common.{◌≡◌, ℕ, ◌+◌, List, [], ◌∷◌, refl, sym, ap, ◌∙◌, subst}
use Rattle.atomic_table.specs.Table.{Me}
use Rattle.word_interlock.specs.RuleBook.{RuleBook}
use Rattle.word_interlock.specs.declared.views.ActorView.{ActorView}
use Rattle.word_interlock.specs.declared.views.HistoryView.{HistoryView}
use Rattle.word_interlock.specs.declared.views.SeatView.{SeatView}
use Rattle.word_interlock.specs.Views.{PassView, view_of}
use Rattle.word_interlock.specs.Rule.{actor_alone, receipt_alone, after_load, first_off, others_of, together, WordMoment, WordMomentOfAll, after_gathering, gathered, IsSeat}
use Rattle.word_interlock.specs.Steps.{with_load}
use Rattle.word_interlock.specs.Seen.{HasSeenMore}
use Rattle.word_interlock.proofs.Seats.{lawful_at}

-- one more load, and no exchange
abbrev pub LoadsOnce : {R S M E : Type 0} → PassView R S M E → PassView R S M E → Type 0
LoadsOnce v w = (w.loads ≡ v.loads + 1) × (w.exchanges ≡ v.exchanges)

module _ {R S M C A E : Type 0} (b : RuleBook S M C A E) (rules : R) where
  -- a pass that has seen the history so far
  pub more_at : (v w : PassView R S M E) (word : ℕ) (h : List E) → WordMoment b rules (view_of v) word h → w ≡ with_load v h → HasSeenMore b v w × LoadsOnce v w
  more_at v w word h at is =
      subst (λ (x : PassView R S M E). HasSeenMore b v x × LoadsOnce v x) (sym is) (
        record {
          pass = record { table = refl; rules = refl; opening = refl; actor = refl };
          lawful = record { opened = at.opened; legal = at.legal };
          seen = record { begins = at.begins; own = at.own };
        },
        (refl, refl),
      )

  -- two seats were joined, all their actors saw the history, and the first actor was split off again
  module _ {T : Type 0} (p q : ActorView R S M E) (l r j j' ll rr : Me T (SeatView R S M E)) (word : ℕ) (is_l : l ≡ (actor_alone p, [])) (is_r : r ≡ (actor_alone q, [])) (joined : j ≡ (together l.0 r.0, l.1)) (told : gathered b rules j word j') (left : ll ≡ (others_of j'.0, j'.1)) (right : rr ≡ (first_off j'.0, [])) where
    abbrev two : Me T (SeatView R S M E)
    two = (record { actors = q ∷ p ∷ []; receipts = [] }, [])

    both : j ≡ two
    both = joined ∙ (λ i. (together (is_l i).0 (is_r i).0, (is_l i).1))

    at : WordMomentOfAll b rules (q ∷ p ∷ []) word told.0
    at = subst (λ (x : Me T (SeatView R S M E)). WordMomentOfAll b rules x.0.actors word told.0) both told.1

    seen : j' ≡ (after_gathering told.0 two.0, [])
    seen = told.3 ∙ ap (λ (x : Me T (SeatView R S M E)). (after_gathering told.0 x.0, x.1)) both

    pub left_seat : ll ≡ (actor_alone (after_load p told.0), [])
    left_seat = left ∙ ap (λ (x : Me T (SeatView R S M E)). (others_of x.0, x.1)) seen

    pub right_seat : rr ≡ (actor_alone (after_load q told.0), [])
    right_seat = right ∙ ap (λ (x : Me T (SeatView R S M E)). (first_off x.0, [])) seen

    pub left_at : WordMoment b rules p word told.0
    left_at = at.1.0

    pub right_at : WordMoment b rules q word told.0
    right_at = at.0

  -- a receipt's seat was joined to that of a pass, which then saw the history
  module _ {T : Type 0} (p : ActorView R S M E) (told_by : HistoryView S M E) (me r j j' : Me T (SeatView R S M E)) (word : ℕ) (is_me : me ≡ (actor_alone p, [])) (is_r : r ≡ (receipt_alone told_by, [])) (joined : j ≡ (together me.0 r.0, me.1)) (told : gathered b rules j word j') where
    abbrev with_receipt : Me T (SeatView R S M E)
    with_receipt = (record { actors = p ∷ []; receipts = told_by ∷ [] }, [])

    handed : j ≡ with_receipt
    handed = joined ∙ (λ i. (together (is_me i).0 (is_r i).0, (is_me i).1))

    pub heard : WordMoment b rules p word told.0
    heard = (subst (λ (x : Me T (SeatView R S M E)). WordMomentOfAll b rules x.0.actors word told.0) handed told.1).0

    pub accepted : j' ≡ (actor_alone (after_load p told.0), [])
    accepted = told.3 ∙ ap (λ (x : Me T (SeatView R S M E)). (after_gathering told.0 x.0, x.1)) handed

module _ {R S M C A E : Type 0} (book : R → RuleBook S M C A E) where
  -- the seat of a pass that has seen the history so far
  pub seat_at : {T : Type 0} (r : R) (m : M) (p : ActorView R S M E) (me : Me T (SeatView R S M E)) (word : ℕ) (h : List E) → WordMoment (book r) r p word h → me ≡ (actor_alone (after_load p h), []) → p.actor ≡ m → IsSeat (book p.rules) p.rules m (after_load p h) me
  seat_at r m p me word h at alone named =
      record { alone = alone; actor = named; lawful = lawful_at book p.rules r p.opening h at.rules_are record { opened = at.opened; legal = at.legal } }
