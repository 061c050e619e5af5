-- Busy calls are paid for by changes. A call that is made again until it is answered.
use Rattle.std.proofs.Common.{◌≡◌, ℕ, ◌+◌, ◌*◌, ◌<◌, ◌≤◌, ◌^◌, true, List, [], ◌∷◌, ◌++◌, replicate, refl, sym, ap, ◌∙◌, subst, arith, append-nil, append_assoc, add-mul}
use Rattle.std.proofs.lemmas.List.{replicate_more}
use Rattle.word_interlock.specs.RuleBook.{RuleBook, IsRuleBook}
use Rattle.word_interlock.specs.History.{after, IsLegal, IsLawful, BeginsWith, Settles, Waits}
use Rattle.word_interlock.specs.declared.reply.Reply.{Reply}
use Rattle.word_interlock.specs.declared.reply.Reply.TheVariants.{Settled, Busy}
use Rattle.word_interlock.specs.declared.views.Moment.{Moment}
use Rattle.word_interlock.specs.declared.views.Moment.TheVariants.{Begins, Answered}
use Rattle.word_interlock.specs.Views.{PassView}
use Rattle.word_interlock.specs.Seen.{IsSamePass, HasChanges, IsSettled, IsOvertaken, AnswersAtItsPoint, WaitsToItsPoint}
use Rattle.word_interlock.specs.Calls.{IfBusy, SeenAfter}
use Rattle.word_interlock.specs.Moments.{own_moments}
use Rattle.word_interlock.specs.Timing.{Lasts}
use Rattle.word_interlock.specs.Settling.{MadeCall, once_busy, times_busy, MakesCalls, BusyIsPaid, IsPaidFor, IsAnsweredAtLast, IsStillBusy}
use Rattle.word_interlock.proofs.lemmas.Histories.{begins-trans, begins-more, waits-after, legal-left}
use Rattle.word_interlock.proofs.lemmas.Moments.{own-append, own-one}
use Rattle.word_interlock.proofs.Overtaken.{changes-trans, changes-before}
use Rattle.word_interlock.proofs.Answered.{same_after, settled}
use Rattle.word_interlock.proofs.lemmas.Ordering.{changes_raise}

-- what is seen later has no fewer changes
no_fewer : {S M C A E : Type 0} (b : RuleBook S M C A E) (m : M) (x y : List E) → BeginsWith y x → HasChanges b m x y 0
no_fewer b m x y f = record { more = f.0; is = f.1; many = omega arith }

module _ {R S M C A E : Type 0} (b : RuleBook S M C A E) (law : IsRuleBook b) (tries : ℕ) where
  -- a call adds as many changes as it had to lose exchanges, if it was Busy
  by_call : (m : M) (c : C) (y : Reply A) (o : S) (v w : PassView R S M E) → SeenAfter b m c y o v.seen w.seen → IfBusy y (λ lost. IsOvertaken b v v.seen c tries lost w) → v.actor ≡ m → HasChanges b m v.seen w.seen (once_busy y * tries)
  by_call m c (Settled a stamp) o v w seen busy who =
      let e : List E = b.event m c a ∷ [] in
      let begins : BeginsWith w.seen v.seen = subst (λ (l : List E). BeginsWith l v.seen) (sym seen.0.ends) (begins-more seen.0.point e v.seen seen.0.begins) in
      let none : 0 * tries ≡ 0 = omega arith in
      subst (HasChanges b m v.seen w.seen) (sym none) (no_fewer b m v.seen w.seen begins)
  by_call m c (Busy lost stamp) o v w seen busy who =
      let one : 1 * tries ≡ tries = omega arith in
      subst (λ (x : M). HasChanges b x v.seen w.seen (1 * tries)) who (subst (HasChanges b v.actor v.seen w.seen) (sym one) busy.changed)

  all_calls : (v w : PassView R S M E) (calls : List (MadeCall R S M C A E)) → MakesCalls b tries v calls w → HasChanges b v.actor v.seen w.seen (times_busy calls * tries)
  all_calls v w [] k = let none : 0 * tries ≡ 0 = omega arith in subst (HasChanges b v.actor v.seen w.seen) (sym none) (no_fewer b v.actor v.seen w.seen k.seen)
  all_calls v w (x ∷ rest) k =
      let here = by_call v.actor x.call x.reply x.before.opening x.before x.after (subst (λ (m : M). SeenAfter b m x.call x.reply x.before.opening x.before.seen x.after.seen) k.0.pass.actor k.1.seen) k.1.busy k.0.pass.actor in
      let later = subst (λ (m : M). HasChanges b m x.after.seen w.seen (times_busy rest * tries)) (k.1.pass.actor ∙ k.0.pass.actor) (all_calls x.after w rest k.2) in
      let sum : once_busy x.reply * tries + times_busy rest * tries ≡ (once_busy x.reply + times_busy rest) * tries = sym (add-mul (once_busy x.reply) (times_busy rest) tries) in
      subst (HasChanges b v.actor v.seen w.seen) sum
      (changes-before b v.actor v.seen x.before.seen w.seen (once_busy x.reply * tries + times_busy rest * tries) k.0.seen
      (changes-trans b v.actor x.before.seen x.after.seen w.seen (once_busy x.reply * tries) (times_busy rest * tries) here later))

  pub busy_is_paid : BusyIsPaid R b tries
  busy_is_paid = record {
    changes = all_calls;
    stamps = λ v w calls k legal. changes_raise b law v.opening v.actor v.seen w.seen (times_busy calls * tries) legal (all_calls v w calls k);
  }

  lasts_begins : (u w : PassView R S M E) (last : List (Moment M E)) → Lasts b [] u last w → BeginsWith w.moments u.moments
  lasts_begins u w last k =
      let f : List (Moment M E) = k.first ++ Begins u.actor ∷ k.between in
      subst (λ (x : List (Moment M E)). BeginsWith x u.moments) (sym k.is) (begins-more f last u.moments (begins-more k.first (Begins u.actor ∷ k.between) u.moments k.begins))

  -- a call that was Busy adds its beginning to its actor's moments
  own_begun : (u w : PassView R S M E) → Lasts b [] u [] w → own_moments b w.moments u.actor ≡ own_moments b u.moments u.actor ++ Begins u.actor ∷ []
  own_begun u w k =
      let m : M = u.actor in
      let whole : own_moments b w.moments m ≡ own_moments b (k.first ++ Begins m ∷ k.between) m = ap (λ (l : List (Moment M E)). own_moments b l m) (k.is ∙ append-nil (k.first ++ Begins m ∷ k.between)) in
      let mine : own_moments b (Begins m ∷ k.between) m ≡ Begins m ∷ [] = own-append b (Begins m ∷ []) k.between m ∙ (ap (λ (l : List (Moment M E)). l ++ own_moments b k.between m) (own-one b (Begins m) m true (law.itself m)) ∙ ap (λ (l : List (Moment M E)). Begins m ∷ l) k.own_between) in
      whole ∙ (own-append b k.first (Begins m ∷ k.between) m ∙ ((λ i. k.own_first i ++ own_moments b (Begins m ∷ k.between) m) ∙ ap (λ (l : List (Moment M E)). own_moments b u.moments m ++ l) mine))

  pub still_first : (v : PassView R S M E) → IsStillBusy b tries 0 v v
  still_first v = record {
    pass = record { table = refl; rules = refl; opening = refl; actor = refl };
    seen = record { begins = ([], sym (append-nil v.seen)); own = refl };
    moments = ([], sym (append-nil v.moments));
    own = sym (append-nil (own_moments b v.moments v.actor));
    loads = omega arith;
    exchanges = omega arith;
    risen = omega arith;
    counted = omega arith;
    few = omega arith;
  }

  pub still_after : (n : ℕ) (v u w : PassView R S M E) (c : C) (lost stamp : ℕ) → 1 ≤ tries → IsStillBusy b tries n v u → stamp < 2 ^ 32 → IsSamePass u w → IsLawful b u.opening w.seen → Waits b u.actor u.seen w.seen × (stamp ≡ b.stamp (after b u.opening w.seen))
      → IsOvertaken b u u.seen c tries lost w → w.loads ≡ u.loads + 1 → w.exchanges ≡ u.exchanges + lost → Lasts b [] u [] w → IsStillBusy b tries (n + 1) v w
  still_after n v u w c lost stamp some_tries k room same lawful seen overtaken load exchanged lasts =
      let o = k.pass.opening in
      let paid : b.stamp (after b v.opening u.seen) + tries ≤ b.stamp (after b v.opening w.seen) = subst (λ (x : S). b.stamp (after b x u.seen) + tries ≤ b.stamp (after b x w.seen)) o (changes_raise b law u.opening u.actor u.seen w.seen tries lawful.legal overtaken.changed) in
      let stamped : stamp ≡ b.stamp (after b v.opening w.seen) = subst (λ (x : S). stamp ≡ b.stamp (after b x w.seen)) o seen.1 in
      let times : (n + 1) * tries ≡ n * tries + tries = add-mul n 1 tries ∙ omega arith in
      let begun : own_moments b w.moments v.actor ≡ own_moments b u.moments v.actor ++ Begins v.actor ∷ [] = subst (λ (m : M). own_moments b w.moments m ≡ own_moments b u.moments m ++ Begins m ∷ []) k.pass.actor (own_begun u w lasts) in
      let own : own_moments b w.moments v.actor ≡ own_moments b v.moments v.actor ++ replicate (n + 1) (Begins v.actor) =
      begun ∙ (ap (λ (l : List (Moment M E)). l ++ Begins v.actor ∷ []) k.own ∙ (append_assoc (own_moments b v.moments v.actor) (replicate n (Begins v.actor)) (Begins v.actor ∷ []) ∙ ap (λ (l : List (Moment M E)). own_moments b v.moments v.actor ++ l) (replicate_more n (Begins v.actor)))) in
      let risen = k.risen in let counted = k.counted in let loads = k.loads in let exchanges = k.exchanges in let all_lost = overtaken.all_lost in record {
        own = own;
        pass = same_after v u w k.pass same;
        seen = waits-after b v.actor v.seen u.seen w.seen k.seen (subst (λ (x : M). Waits b x u.seen w.seen) k.pass.actor seen.0);
        moments = begins-trans v.moments u.moments w.moments k.moments (lasts_begins u w [] lasts);
        loads = omega (arith, loads, load);
        exchanges = omega (arith, exchanges, exchanged, all_lost, times);
        risen = omega (arith, risen, paid, times);
        counted = omega (arith, counted, paid, some_tries);
        few = omega (arith, counted, paid, some_tries, stamped, room);
      }

  module _ (n : ℕ) (v u w : PassView R S M E) (c : C) (a : A) (stamp : ℕ) (k : IsStillBusy b tries n v u) (lawful : IsLawful b u.opening w.seen) (seen : Settles b u.actor c a u.seen w.seen × (stamp ≡ b.stamp (after b u.opening w.seen))) where
    pub settled_at_last : IsSamePass u w → AnswersAtItsPoint b u c a w → WaitsToItsPoint b u c a w → IsSettled b v c a stamp w
    settled_at_last same answer right =
        let o = k.pass.opening in let m = k.pass.actor in let h : List E = seen.0.point in
        settled b law v w c a stamp h
        (subst b.is_sound o lawful.opened)
        (subst (λ (x : S). IsLegal b x h) o (legal-left b u.opening h (b.event u.actor c a ∷ []) (subst (IsLegal b u.opening) seen.0.ends lawful.legal)))
        (waits-after b v.actor v.seen u.seen h k.seen (subst (λ (x : M). Waits b x u.seen h) m (right h seen.0.ends)))
        (same_after v u w k.pass same)
        (subst (λ (x : M). w.seen ≡ h ++ b.event x c a ∷ []) m seen.0.ends)
        (subst (λ (x : S × M). a ≡ b.reply (after b x.0 h) x.1 c) (λ i. (o i, m i)) (answer h seen.0.ends))
        (subst (λ (x : S). stamp ≡ b.stamp (after b x w.seen)) o seen.1)

    pub paid_for : w.loads ≡ u.loads + 1 → w.exchanges ≤ u.exchanges + tries → IsPaidFor b tries n v stamp w
    paid_for load few =
        let o = k.pass.opening in
        let on : BeginsWith w.seen u.seen = subst (λ (x : List E). BeginsWith x u.seen) (sym seen.0.ends) (begins-more seen.0.point (b.event u.actor c a ∷ []) u.seen seen.0.begins) in
        let up : b.stamp (after b v.opening u.seen) + 0 ≤ b.stamp (after b v.opening w.seen) = subst (λ (x : S). b.stamp (after b x u.seen) + 0 ≤ b.stamp (after b x w.seen)) o (changes_raise b law u.opening u.actor u.seen w.seen 0 lawful.legal record { more = on.0; is = on.1; many = omega arith }) in
        let stamped : stamp ≡ b.stamp (after b v.opening w.seen) = subst (λ (x : S). stamp ≡ b.stamp (after b x w.seen)) o seen.1 in
        let times : (n + 1) * tries ≡ n * tries + tries = add-mul n 1 tries ∙ omega arith in
        let risen = k.risen in let loads = k.loads in let exchanges = k.exchanges in record {
          loads = omega (arith, loads, load);
          exchanges = omega (arith, exchanges, few, times);
          risen = omega (arith, risen, up, stamped);
        }

    pub answered_at_last : Lasts b [] u (Answered (b.event u.actor c a) ∷ []) w → IsAnsweredAtLast b n v c a w
    answered_at_last lasts = record {
      before = u;
      pass = k.pass;
      seen = k.seen.begins;
      moments = k.moments;
      own = k.own;
      lasts = subst (λ (x : M). Lasts b [] u (Answered (b.event x c a) ∷ []) w) k.pass.actor lasts;
    }
