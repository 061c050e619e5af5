-- Two calls in order: the second is asked after a receipt of the first.
use Rattle.std.proofs.Common.{◌≡◌, List, [], ◌∷◌, ◌++◌, refl, sym, ap, ◌∙◌, subst, append-nil, append_assoc}
use Rattle.std.proofs.lemmas.List.{append_cancel_right}
use Rattle.word_interlock.specs.RuleBook.{RuleBook, IsRuleBook}
use Rattle.word_interlock.specs.History.{BeginsWith, IsLawful}
use Rattle.word_interlock.specs.declared.reply.Reply.{Reply}
use Rattle.word_interlock.specs.declared.reply.Reply.TheVariants.{Settled, Busy}
use Rattle.word_interlock.specs.declared.views.HistoryView.{HistoryView}
use Rattle.word_interlock.specs.declared.views.Moment.{Moment}
use Rattle.word_interlock.specs.declared.views.Moment.TheVariants.{Begins, Answered}
use Rattle.word_interlock.specs.Views.{PassView, ReceiptView, receipt_of, told_by}
use Rattle.word_interlock.specs.Moments.{events_of}
use Rattle.word_interlock.specs.Calls.{IfSettled, SeenAfter, IsStampedAfter, stamp_in}
use Rattle.word_interlock.specs.Order.{StandsBefore}
use Rattle.word_interlock.specs.Timing.{Lasts, IsTimed, BeginsAfter}
use Rattle.word_interlock.proofs.lemmas.Histories.{begins-more}
use Rattle.word_interlock.proofs.lemmas.Moments.{events-append, none_begun, none_answered}
use Rattle.word_interlock.proofs.lemmas.Ordering.{in_order, KnewAt, stamped_known, stamp_seen}

module _ {R S M C A E : Type 0} (b : RuleBook S M C A E) (heard : List (HistoryView S M E)) (v w : PassView R S M E) (last : List (Moment M E)) (k : Lasts b heard v last w) where
  -- what a call sees: the events of the moments at its beginning, those after it, and its own
  pub sees : w.seen ≡ (events_of k.first ++ events_of k.between) ++ events_of last
  sees =
      k.seen ∙ (ap events_of k.is ∙ (events-append (k.first ++ Begins v.actor ∷ k.between) last ∙ ap (λ (l : List E). l ++ events_of last) (events-append k.first (Begins v.actor ∷ k.between))))

module _ {R S M C A E : Type 0} (b : RuleBook S M C A E) (law : IsRuleBook b) (r : HistoryView S M E) (v w : PassView R S M E) where
  -- it knew what its receipt tells
  pub knew_told : (n : M) (d : C) (y : Reply A) (o : S) (before : List E) → n ≡ v.actor → IsTimed b (r ∷ []) v d y w → (it : SeenAfter b n d y o before w.seen) → KnewAt b law n d y o r.seen before w.seen it
  knew_told n d (Settled x t) o before who k it =
      let e : E = b.event v.actor d x in let p : List E = events_of k.first ++ events_of k.between in
      let same : it.0.point ++ e ∷ [] ≡ p ++ e ∷ [] = ap (λ (m : M). it.0.point ++ b.event m d x ∷ []) (sym who) ∙ (sym it.0.ends ∙ sees b (r ∷ []) v w (Answered e ∷ []) k) in
      subst (λ (l : List E). BeginsWith l r.seen) (sym (append_cancel_right it.0.point p (e ∷ []) same)) (begins-more (events_of k.first) (events_of k.between) r.seen k.told.0.begins)
  knew_told n d (Busy lost t) o before who k it =
      subst (λ (l : List E). BeginsWith l r.seen) (sym (sees b (r ∷ []) v w [] k ∙ append-nil (events_of k.first ++ events_of k.between))) (begins-more (events_of k.first) (events_of k.between) r.seen k.told.0.begins)

-- the first caller's pass before its call and after it, and the second one's
module _ {R S M C A E : Type 0} (b : RuleBook S M C A E) (law : IsRuleBook b) (v answered u w : PassView R S M E) (r : ReceiptView S M E) (c d : C) (took : r ≡ receipt_of answered) where
  abbrev told : HistoryView S M E
  told = told_by (receipt_of answered)

  timed : (y : Reply A) → IsTimed b (told_by r ∷ []) u d y w → IsTimed b (told ∷ []) u d y w
  timed y k = subst (λ (x : ReceiptView S M E). IsTimed b (told_by x ∷ []) u d y w) took k

  pub told_in_order : (x y : Reply A) → SeenAfter b v.actor c x v.opening v.seen answered.seen → SeenAfter b u.actor d y u.opening u.seen w.seen → IsTimed b (told_by r ∷ []) u d y w
      → IfSettled x (λ p. IfSettled y (λ q. StandsBefore b v.seen (b.event v.actor c p) (b.event u.actor d q) w.seen))
  told_in_order (Settled p s) (Settled q t) first second k =
      in_order b law v.actor u.actor c d p q v.seen answered.seen u.seen w.seen first.0 second.0 (knew_told b law told u w u.actor d (Settled q t) u.opening u.seen refl (timed (Settled q t) k) second)
  told_in_order (Settled p s) (Busy l t) first second k = tt
  told_in_order (Busy l s) y first second k = tt

  -- the receipt's opening is that of both passes
  opens : (y : Reply A) → IsTimed b (told_by r ∷ []) u d y w → answered.opening ≡ u.opening
  opens (Settled q t) k = (timed (Settled q t) k).told.0.opening_is
  opens (Busy l t) k = (timed (Busy l t) k).told.0.opening_is

  pub told_stamps : (x y : Reply A) → SeenAfter b v.actor c x v.opening v.seen answered.seen → answered.opening ≡ v.opening → SeenAfter b u.actor d y u.opening u.seen w.seen → IsTimed b (told_by r ∷ []) u d y w → IsLawful b u.opening w.seen → IsStampedAfter b (stamp_in x) y
  told_stamps x y first kept second k lawful =
      let from : v.opening ≡ u.opening = sym kept ∙ opens y k in
      subst (λ (s : _). IsStampedAfter b s y) (sym (stamp_seen b law v.actor c x u.opening v.seen answered.seen (subst (λ (o : S). SeenAfter b v.actor c x o v.seen answered.seen) from first)))
      (stamped_known b law u.opening u.actor d y answered.seen u.seen w.seen second (knew_told b law told u w u.actor d y u.opening u.seen refl (timed y k) second) lawful.legal)

  -- ---- the second call begins after the first one's event

  began : (e : E) (before last : List (Moment M E)) (k : Lasts b (told ∷ []) u last w) → answered.moments ≡ before ++ Answered e ∷ [] → ((earlier later : List (Moment M E)) → ¬ (k.between ++ last ≡ earlier ++ Begins u.actor ∷ later)) → BeginsAfter e u.actor w.moments
  began e before last k ends none =
      let more : List (Moment M E) = k.shown.0.0 in record {
        before = before;
        between = more;
        rest = k.between ++ last;
        is = k.is ∙ (append_assoc k.first (Begins u.actor ∷ k.between) last ∙ ap (λ (l : List (Moment M E)). l ++ (Begins u.actor ∷ (k.between ++ last))) (k.shown.0.1 ∙ (ap (λ (l : List (Moment M E)). l ++ more) ends ∙ append_assoc before (Answered e ∷ []) more)));
        last = none;
      }

  begins_after : (e : E) (before : List (Moment M E)) (y : Reply A) → IsTimed b (told ∷ []) u d y w → answered.moments ≡ before ++ Answered e ∷ [] → BeginsAfter e u.actor w.moments
  begins_after e before (Settled q t) k ends = began e before (Answered (b.event u.actor d q) ∷ []) k ends (none_answered b law u.actor k.between (b.event u.actor d q) k.own_between)
  begins_after e before (Busy l t) k ends =
      began e before [] k ends (λ earlier later is. none_begun b law u.actor k.between k.own_between earlier later (sym (append-nil k.between) ∙ is))

  pub told_began : (x y : Reply A) → IsTimed b [] v c x answered → IsTimed b (told_by r ∷ []) u d y w → IfSettled x (λ p. BeginsAfter (b.event v.actor c p) u.actor w.moments)
  told_began (Settled p s) y first k = begins_after (b.event v.actor c p) (first.first ++ Begins v.actor ∷ first.between) y (timed y k) first.is
  told_began (Busy l s) y first k = tt
