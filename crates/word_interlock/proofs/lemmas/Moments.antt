-- Lists of moments: what one more moment adds.
use Rattle.std.proofs.Common.{◌≡◌, ◌≤◌, Bool, true, false, cond, List, [], ◌∷◌, ◌++◌, ◌⊎◌, inl, inr, ⊎_elim, map, refl, sym, ap, ◌∙◌, subst, arith, append-nil}
use Rattle.std.proofs.lemmas.List.{append_cancel_left}
use Rattle.std.proofs.lemmas.List.Elements.{filter-append}
use Rattle.word_interlock.specs.RuleBook.{RuleBook, IsRuleBook, times}
use Rattle.word_interlock.specs.History.{BeginsWith}
use Rattle.word_interlock.specs.declared.views.ActorView.{ActorView}
use Rattle.word_interlock.specs.declared.views.HistoryView.{HistoryView}
use Rattle.word_interlock.specs.declared.views.Moment.{Moment}
use Rattle.word_interlock.specs.declared.views.Moment.TheVariants.{Begins, Answered}
use Rattle.word_interlock.specs.Moments.{events_of, actor_at, own_moments, HasBegun, AreCalls, AreOfPasses, IsInTime, AreInTime}
use Rattle.word_interlock.specs.Rule.{new_view, first_only, but_first, all_see, seen_in, times_in, AllShow}
use Rattle.word_interlock.proofs.lemmas.Histories.{begins-trans, begins-more, apart_back}

abbrev pub head_or : {X : Type 0} → X → List X → X
head_or d [] = d
head_or d (x ∷ xs) = x

abbrev pub rest_of : {X : Type 0} → List X → List X
rest_of [] = []
rest_of (x ∷ xs) = xs

pub no_end : {X : Type 0} (zs : List X) (x : X) (later : List X) → [] ≡ zs ++ x ∷ later → ⊥
no_end [] x later e = cc
no_end (z ∷ zs) x later e = cc

-- what holds at each of a list holds at each after one more
each_push : {X E : Type 0} (f : E → X) (P : List X → E → Type 0) (xs : List X) (y : X) → ((before : List X) (e : E) (later : List X) → xs ≡ before ++ f e ∷ later → P before e) → ((e : E) → y ≡ f e → P xs e)
    → (before : List X) (e : E) (later : List X) → xs ++ y ∷ [] ≡ before ++ f e ∷ later → P before e
each_push f P [] y all here [] e later q = here e (ap (head_or y) q)
each_push f P [] y all here (z ∷ zs) e later q = absurd (no_end zs (f e) later (ap rest_of q))
each_push f P (x ∷ xs) y all here [] e later q = all [] e xs (ap (λ h. h ∷ xs) (ap (head_or x) q))
each_push {X} {E} f P (x ∷ xs) y all here (z ∷ zs) e later q =
    subst (λ (h : X). P (h ∷ zs) e) (ap (head_or x) q)
    (each_push f (λ (l : List X) (d : E). P (x ∷ l) d) xs y (λ l d k g. all (x ∷ l) d k (ap (λ (t : List X). x ∷ t) g)) here zs e later (ap rest_of q))

pub events-append : {M E : Type 0} (xs ys : List (Moment M E)) → events_of (xs ++ ys) ≡ events_of xs ++ events_of ys
events-append [] ys = refl
events-append (Begins m ∷ xs) ys = events-append xs ys
events-append {M} {E} (Answered e ∷ xs) ys = ap (λ (l : List E). e ∷ l) (events-append xs ys)

-- the moments that receipts tell, of a list that grows, of two seats, and of the actors of a seat
pub show-more : {S M E : Type 0} (h k : List (Moment M E)) (rs : List (HistoryView S M E)) → AllShow h rs → AllShow (h ++ k) rs
show-more h k [] a = tt
show-more h k (r ∷ rs) a = (begins-more h k r.moments a.0, show-more h k rs a.1)

pub show-begins : {S M E : Type 0} (h k : List (Moment M E)) (rs : List (HistoryView S M E)) → BeginsWith k h → AllShow h rs → AllShow k rs
show-begins h k [] f a = tt
show-begins h k (r ∷ rs) f a = (begins-trans r.moments h k a.0 f, show-begins h k rs f a.1)

pub show-both : {S M E : Type 0} (h : List (Moment M E)) (rs qs : List (HistoryView S M E)) → AllShow h rs → AllShow h qs → AllShow h (rs ++ qs)
show-both h [] qs a c = c
show-both h (r ∷ rs) qs a c = (a.0, show-both h rs qs a.1 c)

-- an event among those of a list is a moment of it
pub event_at : {M E : Type 0} (ms : List (Moment M E)) (init rest : List E) (e : E) → events_of ms ≡ init ++ e ∷ rest → (earlier : List (Moment M E)) × (later : List (Moment M E)) × (ms ≡ earlier ++ Answered e ∷ later)
event_at [] init rest e is = absurd (no_end init e rest is)
event_at (Begins m ∷ ms) init rest e is = let t = event_at ms init rest e is in (Begins m ∷ t.0, t.1, λ i. Begins m ∷ t.2 i)
event_at (Answered d ∷ ms) [] rest e is = ([], ms, λ i. Answered (ap (head_or d) is i) ∷ ms)
event_at (Answered d ∷ ms) (x ∷ init) rest e is = let t = event_at ms init rest e (ap rest_of is) in (Answered d ∷ t.0, t.1, λ i. Answered d ∷ t.2 i)

module _ {S M C A E : Type 0} (b : RuleBook S M C A E) where
  pub show-seen : {R : Type 0} (h : List (Moment M E)) (ps : List (ActorView R S M E)) → AreInTime b h ps → AllShow h (seen_in ps)
  show-seen h [] a = tt
  show-seen h (p ∷ ps) a = (a.0.begins, show-seen h ps a.1)

  pub own-append : (h k : List (Moment M E)) (m : M) → own_moments b (h ++ k) m ≡ own_moments b h m ++ own_moments b k m
  own-append h k m = filter-append (λ x. b.same (actor_at b x) m) h k

  pub own-more : (m : M) (h k seen : List (Moment M E)) → own_moments b k m ≡ [] → own_moments b h m ≡ own_moments b seen m → own_moments b (h ++ k) m ≡ own_moments b seen m
  own-more m h k seen none_of e = own-append h k m ∙ (ap (λ (x : List (Moment M E)). own_moments b h m ++ x) none_of ∙ (append-nil (own_moments b h m) ∙ e))

  -- the moments between are of others
  pub between-foreign : (m : M) (before now more : List (Moment M E)) → now ≡ before ++ more → own_moments b now m ≡ own_moments b before m → own_moments b more m ≡ []
  between-foreign m before now more f own =
      append_cancel_left (own_moments b before m) (own_moments b more m) []
      (sym (own-append before more m) ∙ (ap (λ (h : List (Moment M E)). own_moments b h m) (sym f) ∙ own) ∙ sym (append-nil (own_moments b before m)))

  pub own-one : (x : Moment M E) (m : M) (d : Bool) → b.same (actor_at b x) m ≡ d → own_moments b (x ∷ []) m ≡ cond d (x ∷ []) []
  own-one x m d e = ap (λ t. cond t (x ∷ []) []) e

  -- a beginning
  pub begun-as : (m : M) (h k : List (Moment M E)) → own_moments b h m ≡ own_moments b k m → HasBegun b k m → HasBegun b h m
  begun-as m h k e t = record { earlier = t.earlier; is = e ∙ t.is }

module _ {S M C A E : Type 0} (b : RuleBook S M C A E) (law : IsRuleBook b) where
  pub begun : (h : List (Moment M E)) (m : M) → HasBegun b (h ++ Begins m ∷ []) m
  begun h m = record {
    earlier = own_moments b h m;
    is = own-append b h (Begins m ∷ []) m ∙ ap (λ (l : List (Moment M E)). own_moments b h m ++ l) (own-one b (Begins m) m true (law.itself m));
  }

  -- a moment of an actor who has a pass
  pub passes-push : (h : List (Moment M E)) (x : Moment M E) → AreOfPasses b h → 1 ≤ times b.same (actor_at b x) b.actors → AreOfPasses b (h ++ x ∷ [])
  passes-push h x all has = each_push (λ (y : Moment M E). y) (λ l y. 1 ≤ times b.same (actor_at b y) b.actors) h x all (λ y q. subst (λ (z : Moment M E). 1 ≤ times b.same (actor_at b z) b.actors) q has)

  pub calls-begin : (h : List (Moment M E)) (m : M) → AreCalls b h → AreCalls b (h ++ Begins m ∷ [])
  calls-begin h m all = each_push (λ (e : E). Answered e) (λ l e. HasBegun b l (b.actor_of e)) h (Begins m) all (λ e q. cc)

  pub calls-answer : (h : List (Moment M E)) (e : E) → AreCalls b h → HasBegun b h (b.actor_of e) → AreCalls b (h ++ Answered e ∷ [])
  calls-answer h e all has = each_push (λ (d : E). Answered d) (λ l d. HasBegun b l (b.actor_of d)) h (Answered e) all (λ d q. subst (λ (x : Moment M E). HasBegun b h (actor_at b x)) q has)

  -- a moment of another actor
  pub not_own : (x : Moment M E) (m : M) → b.same m (actor_at b x) ≡ false → own_moments b (x ∷ []) m ≡ []
  not_own x m apart = own-one b x m false (apart_back b law (actor_at b x) m apart)

module _ {R S M C A E : Type 0} (b : RuleBook S M C A E) (law : IsRuleBook b) where
  pub in_time-whole : (p : ActorView R S M E) → IsInTime b p.moments p
  in_time-whole p = record { begins = ([], sym (append-nil p.moments)); own = refl }

  -- those who aren't its actor
  pub in_time-more : (h : List (Moment M E)) (x : Moment M E) (ps : List (ActorView R S M E)) → times_in b (actor_at b x) ps ≡ 0 → AreInTime b h ps → AreInTime b (h ++ x ∷ []) ps
  in_time-more h x [] z t = tt
  in_time-more h x (p ∷ ps) z t = go (b.same p.actor (actor_at b x)) refl (in_time-more h x ps)
    where
      go : (d : Bool) → b.same p.actor (actor_at b x) ≡ d → (times_in b (actor_at b x) ps ≡ 0 → AreInTime b h ps → AreInTime b (h ++ x ∷ []) ps) → AreInTime b (h ++ x ∷ []) (p ∷ ps)
      go true e again = absurd (grind (arith, e, z))
      go false e again = (record { begins = begins-more h (x ∷ []) p.moments t.0.begins; own = own-more b p.actor h (x ∷ []) p.moments (not_own b law x p.actor e) t.0.own }, again (grind (arith, e, z)) t.1)

  pub in_time-first : (h : List (Moment M E)) (ps : List (ActorView R S M E)) → AreInTime b h ps → AreInTime b h (first_only ps)
  in_time-first h [] a = tt
  in_time-first h (p ∷ ps) a = (a.0, tt)

  pub in_time-others : (h : List (Moment M E)) (ps : List (ActorView R S M E)) → AreInTime b h ps → AreInTime b h (but_first ps)
  in_time-others h [] a = tt
  in_time-others h (p ∷ ps) a = a.1

  pub in_time-both : (h : List (Moment M E)) (ps qs : List (ActorView R S M E)) → AreInTime b h ps → AreInTime b h qs → AreInTime b h (ps ++ qs)
  in_time-both h [] qs a c = c
  in_time-both h (p ∷ ps) qs a c = (a.0, in_time-both h ps qs a.1 c)

  pub in_time-all_see : (h : List (Moment M E)) (seen : List E) (ps : List (ActorView R S M E)) → AreInTime b h ps → AreInTime b h (all_see seen ps)
  in_time-all_see h seen [] a = tt
  in_time-all_see h seen (p ∷ ps) a = (record { begins = a.0.begins; own = a.0.own }, in_time-all_see h seen ps a.1)

  pub in_time-new : (rules : R) (o : S) (ms : List M) → AreInTime b [] (map (new_view rules o) ms)
  in_time-new rules o [] = tt
  in_time-new rules o (m ∷ ms) = (record { begins = ([], refl); own = refl }, in_time-new rules o ms)

module _ {S M C A E : Type 0} (b : RuleBook S M C A E) (law : IsRuleBook b) where
  -- an actor with no moment has begun nothing
  pub none_begun : (m : M) (l : List (Moment M E)) → own_moments b l m ≡ [] → (earlier later : List (Moment M E)) → ¬ (l ≡ earlier ++ Begins m ∷ later)
  none_begun m l quiet earlier later is =
      let own : own_moments b l m ≡ own_moments b earlier m ++ own_moments b (Begins m ∷ later) m = ap (λ (x : List (Moment M E)). own_moments b x m) is ∙ own-append b earlier (Begins m ∷ later) m in
      let mine : own_moments b (Begins m ∷ later) m ≡ Begins m ∷ own_moments b later m = ap (λ (t : Bool). cond t (Begins m ∷ own_moments b later m) (own_moments b later m)) (law.itself m) in
      no_end (own_moments b earlier m) (Begins m) (own_moments b later m) (sym quiet ∙ (own ∙ ap (λ (x : List (Moment M E)). own_moments b earlier m ++ x) mine))

  -- nor has it before an answer
  pub none_answered : (m : M) (l : List (Moment M E)) (e : E) → own_moments b l m ≡ [] → (earlier later : List (Moment M E)) → ¬ (l ++ Answered e ∷ [] ≡ earlier ++ Begins m ∷ later)
  none_answered m l e quiet earlier later is =
      let own : own_moments b (l ++ Answered e ∷ []) m ≡ own_moments b earlier m ++ own_moments b (Begins m ∷ later) m = ap (λ (x : List (Moment M E)). own_moments b x m) is ∙ own-append b earlier (Begins m ∷ later) m in
      let mine : own_moments b (Begins m ∷ later) m ≡ Begins m ∷ own_moments b later m = ap (λ (t : Bool). cond t (Begins m ∷ own_moments b later m) (own_moments b later m)) (law.itself m) in
      let only : own_moments b (l ++ Answered e ∷ []) m ≡ own_moments b (Answered e ∷ []) m = own-append b l (Answered e ∷ []) m ∙ ap (λ (x : List (Moment M E)). x ++ own_moments b (Answered e ∷ []) m) quiet in
      answer (b.same (b.actor_of e) m) (own_moments b earlier m) (own_moments b later m) (sym only ∙ (own ∙ ap (λ (x : List (Moment M E)). own_moments b earlier m ++ x) mine))
    where
      answer : (t : Bool) (xs ys : List (Moment M E)) → cond t (Answered e ∷ []) [] ≡ xs ++ Begins m ∷ ys → ⊥
      answer true [] ys f = cc
      answer true (x ∷ xs) ys f = absurd (no_rest xs ys f)
        where
          no_rest : (zs ks : List (Moment M E)) → Answered e ∷ [] ≡ x ∷ zs ++ Begins m ∷ ks → ⊥
          no_rest [] ks g = cc
          no_rest (z ∷ zs) ks g = cc
      answer false xs ys f = no_end xs (Begins m) ys f

-- ---- prefixes

-- a prefix of a list with one more is one of the list, or the whole
pub begins_last : {X : Type 0} (x : List X) (y : X) (w s : List X) → x ++ y ∷ [] ≡ w ++ s → BeginsWith x w ⊎ BeginsWith w (x ++ y ∷ [])
begins_last [] y [] s e = inl ([], refl)
begins_last [] y (a ∷ w) s e = inr (w, λ i. sym (ap (head_or y) e) i ∷ w)
begins_last (c ∷ x) y [] s e = inl (c ∷ x, refl)
begins_last (c ∷ x) y (a ∷ w) s e =
    let head : c ≡ a = ap (head_or c) e in
    ⊎_elim (λ (f : BeginsWith x w). inl (f.0, λ i. head i ∷ f.1 i)) (λ (f : BeginsWith w (x ++ y ∷ [])). inr (f.0, λ i. sym head i ∷ f.1 i)) (begins_last x y w s (ap rest_of e))
