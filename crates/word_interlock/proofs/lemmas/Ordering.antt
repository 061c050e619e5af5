-- Receipts put calls in order.
use Rattle.std.proofs.Common.{◌≡◌, ℕ, ◌+◌, ◌≤◌, List, [], ◌∷◌, ◌++◌, true, sym, ap, ◌∙◌, subst, arith, append_assoc}
use Rattle.std.proofs.lemmas.List.{append_cancel_right}
use Rattle.word_interlock.specs.RuleBook.{RuleBook, IsRuleBook}
use Rattle.word_interlock.specs.History.{after, IsLegal, own_events, BeginsWith, Settles}
use Rattle.word_interlock.specs.declared.reply.Reply.{Reply}
use Rattle.word_interlock.specs.declared.reply.Reply.TheVariants.{Settled, Busy}
use Rattle.word_interlock.specs.Calls.{SeenAfter, IsStampedAfter, stamp_in}
use Rattle.word_interlock.specs.Order.{StandsBefore, ReceiptsOrderCalls, ReceiptsRaiseStamps}
use Rattle.word_interlock.specs.Seen.{HasChanges}
use Rattle.std.specs.Prelude.{Bool, false, ◌&&◌, not, count_by, cond}
use Rattle.std.proofs.lemmas.List.Sums.{sum_by-cons}
use Rattle.word_interlock.specs.History.{is_change, changes_by_others}
use Rattle.word_interlock.proofs.lemmas.Histories.{begins-trans, after-append, after-push, legal-left, legal-right, own-push, stamp-after}

module _ {S M C A E : Type 0} (b : RuleBook S M C A E) (law : IsRuleBook b) where
  -- the point of the later call begins with what the first saw after its own
  pub in_order : (m n : M) (c d : C) (x y : A) (seen answered heard now : List E) → Settles b m c x seen answered → (second : Settles b n d y heard now) → BeginsWith second.point answered → StandsBefore b seen (b.event m c x) (b.event n d y) now
  in_order m n c d x y seen answered heard now first second between =
      let e : E = b.event m c x in let f : E = b.event n d y in
      let new : own_events b first.point m ≡ own_events b seen m = append_cancel_right (own_events b first.point m) (own_events b seen m) (e ∷ []) (sym (own-push b law first.point m c x) ∙ (sym (ap (λ (l : List E). own_events b l m) first.ends) ∙ first.own)) in
      record {
        point = first.point;
        between = between.0;
        is = second.ends ∙ (ap (λ (l : List E). l ++ f ∷ []) (between.1 ∙ (ap (λ (l : List E). l ++ between.0) first.ends ∙ append_assoc first.point (e ∷ []) between.0)));
        begins = first.begins;
        new = subst (λ (k : M). own_events b first.point k ≡ own_events b seen k) (sym (law.actor m c x)) new;
      }

  pub receipts_order_calls : ReceiptsOrderCalls b
  receipts_order_calls m n c d x y seen answered receipt accepted heard now first took took_in later second =
      in_order m n c d x y seen answered heard now first second
      (begins-trans answered heard second.point (begins-trans answered accepted heard (begins-trans answered receipt accepted took took_in) later) second.begins)

  -- ---- stamps

  stamp_grows : (o : S) (h now : List E) → BeginsWith now h → IsLegal b o now → b.stamp (after b o h) ≤ b.stamp (after b o now)
  stamp_grows o h now begins l =
      omega (arith, ap b.stamp (ap (after b o) begins.1 ∙ after-append b o h begins.0), stamp-after b law (after b o h) begins.0 (legal-right b o h begins.0 (subst (IsLegal b o) begins.1 l)))

  done_raises : (o : S) (h : List E) (m : M) (c : C) (x : A) → b.is_done x ≡ true → IsLegal b o (h ++ b.event m c x ∷ []) → b.stamp (after b o (h ++ b.event m c x ∷ [])) ≡ b.stamp (after b o h) + 1
  done_raises o h m c x done l =
      let right = (legal-right b o h (b.event m c x ∷ []) l).0 in
      let same : x ≡ b.reply (after b o h) m c = sym (law.answer m c x) ∙ (right ∙ (λ i. b.reply (after b o h) (law.actor m c x i) (law.call m c x i))) in
      ap b.stamp (after-push b law o h m c x) ∙ law.counts (after b o h) m c (ap b.is_done (sym same) ∙ done)

  pub stamp_seen : (m : M) (c : C) (x : Reply A) (o : S) (seen now : List E) → SeenAfter b m c x o seen now → stamp_in x ≡ b.stamp (after b o now)
  stamp_seen m c (Settled a s) o seen now it = it.1
  stamp_seen m c (Busy l s) o seen now it = it.1

  -- what was known to the caller of a call is in its point, or in what it sees if it is Busy
  abbrev pub KnewAt : (n : M) (d : C) (y : Reply A) (o : S) (known heard now : List E) → SeenAfter b n d y o heard now → Type 0
  KnewAt n d (Settled x t) o known heard now it = BeginsWith it.0.point known
  KnewAt n d (Busy lost t) o known heard now it = BeginsWith now known

  knew : (n : M) (d : C) (y : Reply A) (o : S) (known heard now : List E) → BeginsWith heard known → (it : SeenAfter b n d y o heard now) → KnewAt n d y o known heard now it
  knew n d (Settled x t) o known heard now f it = begins-trans known heard it.0.point f it.0.begins
  knew n d (Busy lost t) o known heard now f it = begins-trans known heard now f it.0.begins

  -- a call of one who knows a history gets no lower stamp than that history's
  pub stamped_known : (o : S) (n : M) (d : C) (y : Reply A) (known heard now : List E) → (it : SeenAfter b n d y o heard now) → KnewAt n d y o known heard now it → IsLegal b o now → IsStampedAfter b (b.stamp (after b o known)) y
  stamped_known o n d (Settled x t) known heard now it g l =
      let legal_at : IsLegal b o (it.0.point ++ b.event n d x ∷ []) = subst (IsLegal b o) it.0.ends l in
      let point_least = stamp_grows o known it.0.point g (legal-left b o it.0.point (b.event n d x ∷ []) legal_at) in
      let least = stamp_grows o it.0.point now (b.event n d x ∷ [], it.0.ends) l in (
        omega (arith, point_least, least, it.1),
        λ done. omega (arith, point_least, it.1, ap (λ (k : List E). b.stamp (after b o k)) it.0.ends, done_raises o it.0.point n d x done legal_at),
      )
  stamped_known o n d (Busy lost t) known heard now it g l = omega (arith, stamp_grows o known now g l, it.1)

  pub stamped_after : (o : S) (n : M) (d : C) (y : Reply A) (known heard now : List E) → BeginsWith heard known → SeenAfter b n d y o heard now → IsLegal b o now → IsStampedAfter b (b.stamp (after b o known)) y
  stamped_after o n d y known heard now f it l = stamped_known o n d y known heard now it (knew n d y o known heard now f it) l

  pub receipts_raise_stamps : ReceiptsRaiseStamps b
  receipts_raise_stamps o m n c d x y seen answered receipt accepted heard now first took took_in later second legal =
      subst (λ (s : ℕ). IsStampedAfter b s y) (sym (stamp_seen m c x o seen answered first)) (stamped_after o n d y answered heard now
      (begins-trans answered accepted heard (begins-trans answered receipt accepted took took_in) later) second legal)

  less : (d own : Bool) → cond (d && not own) 1 0 ≤ cond d 1 0
  less true true = omega arith
  less true false = omega arith
  less false own = omega arith

  others_are_changes : (m : M) (h : List E) → changes_by_others b h m ≤ count_by (is_change b) h
  others_are_changes m [] = omega arith
  others_are_changes m (e ∷ h) =
      omega (
        arith,
        others_are_changes m h,
        less (is_change b e) (b.same (b.actor_of e) m),
        sum_by-cons (λ (x : E). cond (is_change b x && not (b.same (b.actor_of x) m)) 1 0) e h,
        sum_by-cons (λ (x : E). cond (is_change b x) 1 0) e h,
      )

  -- changes that were seen raise the stamp
  pub changes_raise : (o : S) (m : M) (earlier now : List E) (n : ℕ) → IsLegal b o now → HasChanges b m earlier now n → b.stamp (after b o earlier) + n ≤ b.stamp (after b o now)
  changes_raise o m earlier now n l it =
      omega (arith, it.many, others_are_changes m it.more, ap b.stamp (ap (after b o) it.is ∙ after-append b o earlier it.more), stamp-after b law (after b o earlier) it.more (legal-right b o earlier it.more (subst (IsLegal b o) it.is l)))
