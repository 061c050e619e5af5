-- Who made the last event of the rule's history has seen all of it.
use Rattle.std.proofs.Common.{◌≡◌, ℕ, zero, suc, ◌≤◌, Bool, true, false, List, [], ◌∷◌, ◌++◌, inl, inr, ⊎_elim, refl, sym, ap, ◌∙◌, subst, arith, append-nil, append_assoc}
use mathlib.Core.Option.{some}
use lib.ListN.{get_elem?}
use Rattle.atomic_table.specs.Table.{State}
use Rattle.std.proofs.lemmas.List.{append_cancel_left}
use Rattle.word_interlock.specs.RuleBook.{RuleBook, IsRuleBook, times}
use Rattle.word_interlock.specs.History.{own_events, BeginsWith}
use Rattle.word_interlock.specs.declared.views.ActorView.{ActorView}
use Rattle.word_interlock.specs.declared.views.SeatView.{SeatView}
use Rattle.word_interlock.specs.Rule.{WordTellsHistory, AllFit, SeatFits, SeatIsInTime, times_in, times_in_all}
use Rattle.word_interlock.specs.declared.views.Moment.{Moment}
use Rattle.word_interlock.specs.declared.views.Moment.TheVariants.{Answered}
use Rattle.word_interlock.specs.Moments.{events_of, actor_at, own_moments, AreInTime}
use Rattle.word_interlock.specs.One.{IsSeenOn, IsSeen, HistoryIsSeen, AreShownOn, AreShown, MomentsAreShown}
use Rattle.word_interlock.proofs.lemmas.Histories.{last_caller_has_seen_all}
use Rattle.word_interlock.proofs.lemmas.Moments.{no_end, event_at, own-append, own-one, between-foreign, begins_last}

module _ {R S M C A E : Type 0} (b : RuleBook S M C A E) (law : IsRuleBook b) (rules : R) (o : S) (init : List E) (e : E) where
  seen_on : (ps : List (ActorView R S M E)) → AllFit b rules o (init ++ e ∷ []) ps → 1 ≤ times_in b (b.actor_of e) ps → IsSeenOn (b.actor_of e) (init ++ e ∷ []) ps
  seen_on [] fit some_of = absurd (omega (arith, some_of))
  seen_on (p ∷ ps) fit some_of = go (b.same p.actor (b.actor_of e)) refl (seen_on ps fit.1)
    where
      go : (d : Bool) → b.same p.actor (b.actor_of e) ≡ d → (1 ≤ times_in b (b.actor_of e) ps → IsSeenOn (b.actor_of e) (init ++ e ∷ []) ps) → IsSeenOn (b.actor_of e) (init ++ e ∷ []) (p ∷ ps)
      go true f again =
          let own : own_events b (init ++ e ∷ []) (b.actor_of e) ≡ own_events b p.seen (b.actor_of e) = subst (λ (m : M). own_events b (init ++ e ∷ []) m ≡ own_events b p.seen m) (law.one p.actor (b.actor_of e) f) fit.0.own in
          inl (law.one p.actor (b.actor_of e) f, last_caller_has_seen_all b law init p.seen e fit.0.begins own)
      go false f again = inr (again (grind (arith, f, some_of)))

  seen : (vs : List (SeatView R S M E)) → ((i : ℕ) (v : SeatView R S M E) → get_elem? vs i ≡ some v → SeatFits b rules o (init ++ e ∷ []) v) → 1 ≤ times_in_all b (b.actor_of e) vs → IsSeen (b.actor_of e) (init ++ e ∷ []) vs
  seen [] fit some_of = absurd (omega (arith, some_of))
  seen (v ∷ vs) fit some_of = go (times_in b (b.actor_of e) v.actors) refl (seen vs (λ i u f. fit (suc i) u f))
    where
      go : (k : ℕ) → times_in b (b.actor_of e) v.actors ≡ k → (1 ≤ times_in_all b (b.actor_of e) vs → IsSeen (b.actor_of e) (init ++ e ∷ []) vs) → IsSeen (b.actor_of e) (init ++ e ∷ []) (v ∷ vs)
      go zero f again = inr (again (omega (arith, f, some_of)))
      go (suc k) f again = inl (seen_on v.actors (fit 0 v refl).0 (omega (arith, f)))

module _ {R S M C A E : Type 0} (b : RuleBook S M C A E) (law : IsRuleBook b) (rules : R) where
  -- who made the last event has a pass
  has_pass : {T : Type 0} {opening : S} {table : State T (SeatView R S M E)} (k : WordTellsHistory b rules opening table) (init : List E) (e : E) → events_of k.moments ≡ init ++ e ∷ [] → 1 ≤ times b.same (b.actor_of e) b.actors
  has_pass k init e is = let t = event_at k.moments init [] e is in k.callers t.0 (Answered e) t.1 t.2

  pub history_is_seen : (T : Type 0) → HistoryIsSeen b rules T
  history_is_seen T opening table k init e is =
      subst (λ h. IsSeen (b.actor_of e) h table.views) (sym is) (seen b law rules opening init e table.views (λ i v g. subst (λ h. SeatFits b rules opening h v) is (k.views i v g)) (omega (arith, has_pass k init e (k.events ∙ is), k.apart (b.actor_of e))))

-- lists that begin with one another are the same
none_more : {X : Type 0} (xs ys : List X) → xs ++ ys ≡ [] → ys ≡ []
none_more [] ys e = e
none_more (x ∷ xs) ys e = absurd (no_end [] x (xs ++ ys) (sym e))

same_lists : {X : Type 0} (x y a c : List X) → x ≡ y ++ a → y ≡ x ++ c → x ≡ y
same_lists {X} x y a c f g =
    let twice : x ++ (c ++ a) ≡ x ++ [] = sym (append_assoc x c a) ∙ (ap (λ (l : List X). l ++ a) (sym g) ∙ (sym f ∙ sym (append-nil x))) in
    f ∙ (ap (λ (l : List X). y ++ l) (none_more c a (append_cancel_left x (c ++ a) [] twice)) ∙ append-nil y)

module _ {S M C A E : Type 0} (b : RuleBook S M C A E) (law : IsRuleBook b) (init : List (Moment M E)) (x : Moment M E) where
  -- who made the last moment has been shown all
  last_mover : (ms : List (Moment M E)) → BeginsWith (init ++ x ∷ []) ms → own_moments b (init ++ x ∷ []) (actor_at b x) ≡ own_moments b ms (actor_at b x) → ms ≡ init ++ x ∷ []
  last_mover ms f own =
      let m : M = actor_at b x in
      ⊎_elim (λ (g : BeginsWith init ms).
      let more : List (Moment M E) = g.0 ++ x ∷ [] in
      let is : init ++ x ∷ [] ≡ ms ++ more = ap (λ (l : List (Moment M E)). l ++ x ∷ []) g.1 ∙ append_assoc ms g.0 (x ∷ []) in
      let quiet : own_moments b more m ≡ [] = between-foreign b m ms (init ++ x ∷ []) more is own in
      let mine : own_moments b more m ≡ own_moments b g.0 m ++ x ∷ [] = own-append b g.0 (x ∷ []) m ∙ ap (λ (l : List (Moment M E)). own_moments b g.0 m ++ l) (own-one b x m true (law.itself m)) in
      absurd (no_end (own_moments b g.0 m) x [] (sym quiet ∙ mine)))
      (λ (g : BeginsWith ms (init ++ x ∷ [])). same_lists ms (init ++ x ∷ []) g.0 f.0 g.1 f.1) (begins_last init x ms f.0 f.1)

module _ {R S M C A E : Type 0} (b : RuleBook S M C A E) (law : IsRuleBook b) (init : List (Moment M E)) (x : Moment M E) where
  shown_on : (ps : List (ActorView R S M E)) → AreInTime b (init ++ x ∷ []) ps → 1 ≤ times_in b (actor_at b x) ps → AreShownOn (actor_at b x) (init ++ x ∷ []) ps
  shown_on [] fit some_of = absurd (omega (arith, some_of))
  shown_on (p ∷ ps) fit some_of = go (b.same p.actor (actor_at b x)) refl (shown_on ps fit.1)
    where
      go : (d : Bool) → b.same p.actor (actor_at b x) ≡ d → (1 ≤ times_in b (actor_at b x) ps → AreShownOn (actor_at b x) (init ++ x ∷ []) ps) → AreShownOn (actor_at b x) (init ++ x ∷ []) (p ∷ ps)
      go true f again =
          let own : own_moments b (init ++ x ∷ []) (actor_at b x) ≡ own_moments b p.moments (actor_at b x) = subst (λ (m : M). own_moments b (init ++ x ∷ []) m ≡ own_moments b p.moments m) (law.one p.actor (actor_at b x) f) fit.0.own in
          inl (law.one p.actor (actor_at b x) f, last_mover b law init x p.moments fit.0.begins own)
      go false f again = inr (again (grind (arith, f, some_of)))

  shown : (vs : List (SeatView R S M E)) → ((i : ℕ) (v : SeatView R S M E) → get_elem? vs i ≡ some v → SeatIsInTime b (init ++ x ∷ []) v) → 1 ≤ times_in_all b (actor_at b x) vs → AreShown (actor_at b x) (init ++ x ∷ []) vs
  shown [] fit some_of = absurd (omega (arith, some_of))
  shown (v ∷ vs) fit some_of = go (times_in b (actor_at b x) v.actors) refl (shown vs (λ i u f. fit (suc i) u f))
    where
      go : (k : ℕ) → times_in b (actor_at b x) v.actors ≡ k → (1 ≤ times_in_all b (actor_at b x) vs → AreShown (actor_at b x) (init ++ x ∷ []) vs) → AreShown (actor_at b x) (init ++ x ∷ []) (v ∷ vs)
      go zero f again = inr (again (omega (arith, f, some_of)))
      go (suc k) f again = inl (shown_on v.actors (fit 0 v refl).0 (omega (arith, f)))

module _ {R S M C A E : Type 0} (b : RuleBook S M C A E) (law : IsRuleBook b) (rules : R) where
  pub moments_are_shown : (T : Type 0) → MomentsAreShown b rules T
  moments_are_shown T opening table k init x is =
      subst (λ (l : List (Moment M E)). AreShown (actor_at b x) l table.views) (sym is) (shown b law init x table.views (λ i v g. subst (λ (l : List (Moment M E)). SeatIsInTime b l v) is (k.in_time i v g)) (omega (arith, k.callers init x [] is, k.apart (actor_at b x))))
