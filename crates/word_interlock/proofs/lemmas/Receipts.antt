-- What receipts tell comes first.
use Rattle.std.proofs.Common.{◌≡◌, ℕ, Bool, true, false, if◌then◌else◌, List, [], ◌∷◌, ◌++◌, refl, ap, ◌∙◌, subst, append_assoc, eq-eqb}
use Rattle.atomic_table.specs.Table.{Me}
use Rattle.word_interlock.specs.RuleBook.{RuleBook, IsRuleBook}
use Rattle.word_interlock.specs.History.{after}
use Rattle.word_interlock.specs.declared.views.ActorView.{ActorView}
use Rattle.word_interlock.specs.declared.views.HistoryView.{HistoryView}
use Rattle.word_interlock.specs.declared.views.SeatView.{SeatView}
use Rattle.word_interlock.specs.declared.views.Moment.{Moment}
use Rattle.word_interlock.specs.declared.views.Moment.TheVariants.{Begins, Answered}
use Rattle.word_interlock.specs.Rule.{looked, exchanged, receipts_of, seen_by_actor, with_moments, after_exchange, seen_by, moments_by, moments_at, with_answer}
use Rattle.word_interlock.specs.Timing.{BeginsAfter}
use Rattle.word_interlock.specs.Receipts.{Shows, ReceiptsComeFirst}
use Rattle.word_interlock.proofs.lemmas.Moments.{no_end, none_answered}

module _ {R S M C A E : Type 0} (b : RuleBook S M C A E) (law : IsRuleBook b) (rules : R) (T : Type 0) where
  -- a call begins after an event, and then comes its own, or none
  begins_last : (m : M) (e f : E) (moments before between : List (Moment M E)) (done : Bool) → moments ≡ before ++ Answered e ∷ between
      → BeginsAfter e m (if done then moments ++ Begins m ∷ [] else (moments ++ Begins m ∷ []) ++ Answered f ∷ [])
  begins_last m e f moments before between true is = record {
    before = before;
    between = between;
    rest = [];
    is = ap (λ (l : List (Moment M E)). l ++ Begins m ∷ []) is;
    last = λ earlier later nothing. no_end earlier (Begins m) later nothing;
  }
  begins_last m e f moments before between false is = record {
    before = before;
    between = between;
    rest = Answered f ∷ [];
    is = append_assoc moments (Begins m ∷ []) (Answered f ∷ []) ∙ ap (λ (l : List (Moment M E)). l ++ Begins m ∷ Answered f ∷ []) is;
    last = none_answered b law m [] f refl;
  }

  order : (told : HistoryView S M E) (before later : List (Moment M E)) (e : E) (d : C) (q : ActorView R S M E) (word : ℕ) (me : Me T (SeatView R S M E)) → told.moments ≡ before ++ Answered e ∷ later → looked b rules d (told ∷ []) q word me
      → (moments : List (Moment M E)) × Shows me moments × BeginsAfter e q.actor moments
  order told before later e d q word me is l =
      let at = l.1 in let more : List (Moment M E) = l.4.0.0 in
      let a : A = b.reply (after b q.opening l.0) q.actor d in
      let all : at.moments ≡ before ++ Answered e ∷ (later ++ more) = l.4.0.1 ∙ (ap (λ (h : List (Moment M E)). h ++ more) is ∙ append_assoc before (Answered e ∷ later) more) in
      (_, record { actor = _; alone = l.2; shown = refl }, begins_last q.actor e (b.event q.actor d a) at.moments before (later ++ more) (b.is_done a) all)

  calls : (c d : C) (p q : ActorView R S M E) (old word : ℕ) (me next : Me T (SeatView R S M E)) → exchanged b rules c old p old me → looked b rules d (receipts_of me.0).receipts q word next
      → (a : A) × (moments : List (Moment M E)) × Shows next moments × BeginsAfter (b.event p.actor c a) q.actor moments
  calls c d p q old word me next x l =
      let at = x.1 in
      let a : A = b.reply (after b p.opening x.0) p.actor c in
      let w : ActorView R S M E = with_moments (after_exchange p (seen_by b c p old old x.0)) (moments_by b c p old old x.0 at.moments) in
      let won : w.moments ≡ at.moments ++ Answered (b.event p.actor c a) ∷ [] = ap (λ (t : Bool). if t then with_answer b c p x.0 at.moments else moments_at b c p x.0 at.moments) (eq-eqb old old refl) in
      let taken : (receipts_of me.0).receipts ≡ seen_by_actor w ∷ [] = ap (λ (z : Me T (SeatView R S M E)). (receipts_of z.0).receipts) x.2 in
      let t = order (seen_by_actor w) at.moments [] (b.event p.actor c a) d q word next won (subst (λ (h : List (HistoryView S M E)). looked b rules d h q word next) taken l) in
      (a, t.0, t.1, t.2)

  pub receipts_come_first : ReceiptsComeFirst b rules T
  receipts_come_first = record {
    prefixes = λ opening table k i view f. ((k.views i view f).1, (k.in_time i view f).1);
    order = order;
    calls = calls;
  }
