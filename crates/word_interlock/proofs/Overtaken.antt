-- If the word has changed, another actor changed it; such changes are counted.
use Rattle.std.proofs.Common.{◌≡◌, ◌≢◌, ℕ, zero, suc, ◌+◌, ◌≤◌, List, ◌++◌, refl, sym, ap, ◌∙◌, subst, arith, append_assoc}
use Rattle.word_interlock.specs.RuleBook.{RuleBook, IsRuleBook}
use Rattle.word_interlock.specs.History.{after, IsLegal, changes_by_others, BeginsWith}
use Rattle.word_interlock.specs.Views.{PassView, view_of}
use Rattle.word_interlock.specs.Rule.{WordMoment}
use Rattle.word_interlock.specs.Seen.{HasChanges}
use Rattle.word_interlock.proofs.lemmas.Histories.{after-append, legal-right, waits-foreign, changes-append, unchanged}

module _ {S M C A E : Type 0} (b : RuleBook S M C A E) where
  pub changes-trans : (m : M) (x y z : List E) (i j : ℕ) → HasChanges b m x y i → HasChanges b m y z j → HasChanges b m x z (i + j)
  changes-trans m x y z i j f g =
      record {
        more = f.more ++ g.more;
        is = g.is ∙ (ap (λ (l : List E). l ++ g.more) f.is ∙ append_assoc x f.more g.more);
        many = omega (arith, changes-append b m f.more g.more, f.many, g.many);
      }

  -- changes after a later history are changes after an earlier one
  pub changes-before : (m : M) (x y z : List E) (n : ℕ) → BeginsWith y x → HasChanges b m y z n → HasChanges b m x z n
  changes-before m x y z n begins f =
      let g = changes-trans m x y z 0 n (record { more = begins.0; is = begins.1; many = omega arith }) f in record { more = g.more; is = g.is; many = omega (arith, g.many) }

pub overtaken : {R S M C A E : Type 0} (b : RuleBook S M C A E) (law : IsRuleBook b) (rules : R) (v : PassView R S M E) (word : ℕ) (h : List E) (old : ℕ) → WordMoment b rules (view_of v) word h → b.packed (after b v.opening v.seen) ≡ old → word ≢ old → HasChanges b v.actor v.seen h 1
overtaken {R} {S} {M} {C} {A} {E} b law rules v word h old at found apart =
    let more : List E = at.begins.0 in let e : h ≡ v.seen ++ more = at.begins.1 in
    let legal = legal-right b v.opening v.seen more (subst (IsLegal b v.opening) e at.legal) in
    let quiet = waits-foreign b v.actor v.seen h (record { begins = at.begins; own = at.own }) in
    record {
      more = more;
      is = e;
      many =
          some_of (changes_by_others b more v.actor) refl (λ none_of.
          let s = ap (after b v.opening) e ∙ (after-append b v.opening v.seen more ∙ unchanged b law v.actor (after b v.opening v.seen) more legal quiet none_of) in apart (sym at.found ∙ (ap b.packed s ∙ found)));
    }
  where
    some_of : (k : ℕ) → changes_by_others b at.begins.0 v.actor ≡ k → (changes_by_others b at.begins.0 v.actor ≡ 0 → ⊥) → 1 ≤ changes_by_others b at.begins.0 v.actor
    some_of zero f isnt = absurd (isnt f)
    some_of (suc k) f isnt = omega (arith, f)
