-- What one step on the word shows a pass.
use Rattle.std.specs.Prelude.{◌≡◌, ℕ, true, List}
use Rattle.word_interlock.specs.RuleBook.{RuleBook}
use Rattle.word_interlock.specs.Views.{PassView, pass_of, view_of}
use Rattle.word_interlock.specs.declared.views.HistoryView.{HistoryView}
use Rattle.word_interlock.specs.declared.views.Moment.{Moment}
use Rattle.word_interlock.specs.Rule.{WordMoment, seen_at, seen_by, after_load, after_exchange, AllTell, AllShow}
use Rattle.word_interlock.specs.Rule.{moments_at, moments_by, with_begin}

module _ {R S M E : Type 0} where
  -- a pass that has seen this after one more load; and after one more exchange
  abbrev pub with_load : PassView R S M E → List E → PassView R S M E
  with_load v seen = pass_of v.table (after_load (view_of v) seen)

  abbrev pub with_exchange : PassView R S M E → List E → PassView R S M E
  with_exchange v seen = pass_of v.table (after_exchange (view_of v) seen)

  -- a pass at whose step these were the moments so far
  abbrev pub at_moments : PassView R S M E → List (Moment M E) → PassView R S M E
  at_moments v moments = record v { moments = moments }

module _ {S M C A E : Type 0} (b : RuleBook S M C A E) where
  -- in each sound state of the old word the call is done with this answer and leads to the new word
  pub record IsReady (m : M) (c : C) (a : A) (old new : ℕ) : Type 0 where
    pub done : b.is_done a ≡ true
    pub leads : (s : S) → b.is_sound s → b.packed s ≡ old → (b.reply s m c ≡ a) × (b.packed (b.next s m c) ≡ new)

module _ {R S M C A E : Type 0} (b : RuleBook S M C A E) (rules : R) where
  -- a load for a call found a word, after all that these receipts tell
  abbrev pub Loaded : C → List (HistoryView S M E) → PassView R S M E → ℕ → PassView R S M E → Type 0
  Loaded c heard v word w =
      (history : List E) × (at : WordMoment b rules (view_of v) word history)
      × (w ≡ at_moments (with_load v (seen_at b c (view_of v) history))
      (moments_at b c (view_of v) history (with_begin b (view_of v) at.moments)))
      × AllTell v.opening history heard × AllShow at.moments heard

  -- an exchange for a call found a word; it was won if that is the old one
  abbrev pub Exchanged : C → PassView R S M E → ℕ → ℕ → PassView R S M E → Type 0
  Exchanged c v old word w =
      (history : List E) × (at : WordMoment b rules (view_of v) word history)
      × (w ≡ at_moments (with_exchange v (seen_by b c (view_of v) old word history))
      (moments_by b c (view_of v) old word history at.moments))
