-- Each step keeps the rule.
use Rattle.std.proofs.Common.{◌≡◌, ◌≢◌, ℕ, zero, suc, ◌+◌, ◌<◌, ◌≤◌, eqb, Bool, true, false, if◌then◌else◌, List, [], ◌∷◌, ◌++◌, map, set, get_or, refl, sym, ap, ◌∙◌, subst, ⊎_elim, arith, append-nil, length-set, get_or-set_same, eq-eqb, ne_eqb}
use mathlib.Core.Logic.{dite}
use mathlib.Core.Option.{some, some-ne-none, some-injective}
use native.Mathlib.Decide.{ℕ_discrete}
use lib.ListN.{get_elem?}
use prog.Atomic.{either}
use Rattle.atomic_table.specs.Table.{State, Me, keeps, stepped, Allows, Splits, Joins, opening}
use Rattle.atomic_table.proofs.Lists.{at_set, at_snoc}
use Rattle.word_interlock.specs.RuleBook.{RuleBook, IsRuleBook, times}
use Rattle.word_interlock.specs.History.{after, IsLegal, own_events}
use Rattle.word_interlock.specs.declared.views.ActorView.{ActorView}
use Rattle.word_interlock.specs.declared.views.HistoryView.{HistoryView}
use Rattle.word_interlock.specs.declared.views.SeatView.{SeatView}
use Rattle.word_interlock.specs.declared.views.Moment.{Moment}
use Rattle.word_interlock.specs.declared.views.Moment.TheVariants.{Begins, Answered}
use Rattle.word_interlock.specs.Moments.{events_of, HasBegun, AreCalls, AreOfPasses, IsInTime, AreInTime}
use Rattle.word_interlock.specs.Rule.{new_view, spent, actor_alone, actor_with, SeatIsInTime, first_only, but_first, first_off, others_of, seen_in, receipts_of, together, all_views, Fits, AllFit, AllTell, TellFirst, SeatFits, times_in, times_in_all, WordTellsHistory, WordMoment, with_event, seen_at, with_answer, moments_at, with_moments, after_load, after_exchange, looked, exchanged, WordMomentOfAll, all_see, after_gathering, gathered}
use Rattle.word_interlock.specs.Steps.{IsReady}
use Rattle.word_interlock.proofs.lemmas.Histories.{begins-more, legal-append, after-push, own-more, sound-after, legal-event, not_own, apart_back}
use Rattle.word_interlock.proofs.lemmas.Moments.{no_end, events-append, begun-as, begun, calls-begin, calls-answer, passes-push, in_time-whole, in_time-more, in_time-first, in_time-others, in_time-both, in_time-all_see, in_time-new, show-more, show-both, show-seen}

-- a step that tells more than another one is allowed where that is
pub allows_more : {T V : Type 0} (holds : State T V → Type 0) (slots id : ℕ) (me : Me T V) (i : ℕ) (f : ℕ → ℕ) (one other : ℕ → Me T V → Type 0) → ((n : ℕ) (me' : Me T V) → one n me' → other n me') → Allows holds slots id me i f one → Allows holds slots id me i f other
allows_more holds slots id me i f one other more allowed s kept count at fits =
    let r = allowed s kept count at fits in (r.0, r.1, r.2, r.3, more _ _ r.4)

module _ {R S M E : Type 0} where
  -- a view after a step
  abbrev now : ActorView R S M E → List E → List E → ℕ → ℕ → List (Moment M E) → ActorView R S M E
  now p seen since loads exchanges moments = record p { seen = seen; since = since; loads = loads; exchanges = exchanges; moments = moments }

  stay : (P : SeatView R S M E → Type 0) (vs : List (SeatView R S M E)) (id : ℕ) (w : SeatView R S M E) → P w → ((j : ℕ) (u : SeatView R S M E) → j ≢ id → get_elem? vs j ≡ some u → P u)
      → (j : ℕ) (u : SeatView R S M E) → get_elem? (set vs id w) j ≡ some u → P u
  stay P vs id w here others j u e = ⊎_elim (λ (t : (j ≡ id) × (w ≡ u)). subst P t.1 here) (λ (t : (j ≢ id) × (get_elem? vs j ≡ some u)). others j u t.0 t.1) (at_set vs id j w u e)

module _ {R S M C A E : Type 0} (b : RuleBook S M C A E) (rules : R) where
  -- an actor that has seen the whole history
  fits_whole : (o : S) (p : ActorView R S M E) → p.rules ≡ rules → p.opening ≡ o → Fits b rules o p.seen p
  fits_whole o p r e = record { rules_are = r; opening_is = e; begins = ([], sym (append-nil p.seen)); own = refl }

  fit-more : (o : S) (h k : List E) (m : M) → ((n : M) → b.same n m ≡ false → own_events b k n ≡ []) → (ps : List (ActorView R S M E)) → times_in b m ps ≡ 0 → AllFit b rules o h ps → AllFit b rules o (h ++ k) ps
  fit-more o h k m quiet [] z t = tt
  fit-more o h k m quiet (p ∷ ps) z t = go (b.same p.actor m) refl (fit-more o h k m quiet ps)
    where
      go : (d : Bool) → b.same p.actor m ≡ d → (times_in b m ps ≡ 0 → AllFit b rules o h ps → AllFit b rules o (h ++ k) ps) → AllFit b rules o (h ++ k) (p ∷ ps)
      go true e again = absurd (grind (arith, e, z))
      go false e again = (record { rules_are = t.0.rules_are; opening_is = t.0.opening_is; begins = begins-more h k p.seen t.0.begins; own = own-more b p.actor h k p.seen (quiet p.actor e) t.0.own }, again (grind (arith, e, z)) t.1)

  fit-first : (o : S) (h : List E) (ps : List (ActorView R S M E)) → AllFit b rules o h ps → AllFit b rules o h (first_only ps)
  fit-first o h [] a = tt
  fit-first o h (p ∷ ps) a = (a.0, tt)

  fit-others : (o : S) (h : List E) (ps : List (ActorView R S M E)) → AllFit b rules o h ps → AllFit b rules o h (but_first ps)
  fit-others o h [] a = tt
  fit-others o h (p ∷ ps) a = a.1

  fit-both : (o : S) (h : List E) (ps qs : List (ActorView R S M E)) → AllFit b rules o h ps → AllFit b rules o h qs → AllFit b rules o h (ps ++ qs)
  fit-both o h [] qs a c = c
  fit-both o h (p ∷ ps) qs a c = (a.0, fit-both o h ps qs a.1 c)

  -- receipts tell prefixes of a history that grows
  tell-more : (o : S) (h k : List E) (rs : List (HistoryView S M E)) → AllTell o h rs → AllTell o (h ++ k) rs
  tell-more o h k [] a = tt
  tell-more o h k (r ∷ rs) a = (record { opening_is = a.0.opening_is; begins = begins-more h k r.seen a.0.begins }, tell-more o h k rs a.1)

  tell-both : (o : S) (h : List E) (rs qs : List (HistoryView S M E)) → AllTell o h rs → AllTell o h qs → AllTell o h (rs ++ qs)
  tell-both o h [] qs a c = c
  tell-both o h (r ∷ rs) qs a c = (a.0, tell-both o h rs qs a.1 c)

  -- what the actors of a seat have seen
  tell-seen : (o : S) (h : List E) (ps : List (ActorView R S M E)) → AllFit b rules o h ps → AllTell o h (seen_in ps)
  tell-seen o h [] a = tt
  tell-seen o h (p ∷ ps) a = (record { opening_is = a.0.opening_is; begins = a.0.begins }, tell-seen o h ps a.1)

  -- what receipts tell an actor
  tell-actor : (o : S) (h : List E) (p : ActorView R S M E) (rs : List (HistoryView S M E)) → p.opening ≡ o → AllTell o h rs → AllTell p.opening h rs
  tell-actor o h p rs e t = subst (λ (z : S). AllTell z h rs) (sym e) t

  -- a seat's actors have its opening
  tell-first : (o : S) (h : List E) (ps : List (ActorView R S M E)) (rs : List (HistoryView S M E)) → AllFit b rules o h ps → AllTell o h rs → TellFirst ps h rs
  tell-first o h [] rs a c = tt
  tell-first o h (p ∷ ps) rs a c = tell-actor o h p rs a.0.opening_is c

  fit-all_see : (o : S) (h : List E) (ps : List (ActorView R S M E)) → AllFit b rules o h ps → AllFit b rules o h (all_see h ps)
  fit-all_see o h [] a = tt
  fit-all_see o h (p ∷ ps) a = (fits_whole o (after_load p h) a.0.rules_are a.0.opening_is, fit-all_see o h ps a.1)

  times-all_see : (m : M) (h : List E) (ps : List (ActorView R S M E)) → times_in b m (all_see h ps) ≡ times_in b m ps
  times-all_see m h [] = refl
  times-all_see m h (p ∷ ps) = ap (λ n. (if b.same p.actor m then 1 else 0) + n) (times-all_see m h ps)

  times-append : (m : M) (ps qs : List (ActorView R S M E)) → times_in b m (ps ++ qs) ≡ times_in b m ps + times_in b m qs
  times-append m [] qs = omega arith
  times-append m (p ∷ ps) qs = omega (arith, times-append m ps qs)

  times-cut : (m : M) (ps : List (ActorView R S M E)) → times_in b m (first_only ps) + times_in b m (but_first ps) ≡ times_in b m ps
  times-cut m [] = refl
  times-cut m (p ∷ ps) = omega arith

  total-set : (m : M) (vs : List (SeatView R S M E)) (i : ℕ) (v w : SeatView R S M E) → get_elem? vs i ≡ some v → times_in_all b m (set vs i w) + times_in b m v.actors ≡ times_in_all b m vs + times_in b m w.actors
  total-set m [] i v w e = absurd (some-ne-none v (sym e))
  total-set m (x ∷ xs) zero v w e = let f : times_in b m x.actors ≡ times_in b m v.actors = ap (λ (z : SeatView R S M E). times_in b m z.actors) (some-injective x v e) in omega arith
  total-set m (x ∷ xs) (suc i) v w e = omega (arith, total-set m xs i v w e)

  total-snoc : (m : M) (vs : List (SeatView R S M E)) (w : SeatView R S M E) → times_in_all b m (vs ++ w ∷ []) ≡ times_in_all b m vs + times_in b m w.actors
  total-snoc m [] w = omega arith
  total-snoc m (x ∷ xs) w = omega (arith, total-snoc m xs w)

  total-one : (m : M) (vs : List (SeatView R S M E)) (i : ℕ) (v : SeatView R S M E) → get_elem? vs i ≡ some v → times_in b m v.actors ≤ times_in_all b m vs
  total-one m [] i v e = absurd (some-ne-none v (sym e))
  total-one m (x ∷ xs) zero v e = let f : times_in b m x.actors ≡ times_in b m v.actors = ap (λ (z : SeatView R S M E). times_in b m z.actors) (some-injective x v e) in omega arith
  total-one m (x ∷ xs) (suc i) v e = omega (arith, total-one m xs i v e)

  total-two : (m : M) (vs : List (SeatView R S M E)) (i j : ℕ) (v w : SeatView R S M E) → j ≢ i → get_elem? vs i ≡ some v → get_elem? vs j ≡ some w → times_in b m v.actors + times_in b m w.actors ≤ times_in_all b m vs
  total-two m [] i j v w n e f = absurd (some-ne-none v (sym e))
  total-two m (x ∷ xs) zero zero v w n e f = absurd (n refl)
  total-two m (x ∷ xs) zero (suc j) v w n e f = let g : times_in b m x.actors ≡ times_in b m v.actors = ap (λ (z : SeatView R S M E). times_in b m z.actors) (some-injective x v e) in omega (arith, total-one m xs j w f)
  total-two m (x ∷ xs) (suc i) zero v w n e f = let g : times_in b m x.actors ≡ times_in b m w.actors = ap (λ (z : SeatView R S M E). times_in b m z.actors) (some-injective x w f) in omega (arith, total-one m xs i v e)
  total-two m (x ∷ xs) (suc i) (suc j) v w n e f = omega (arith, total-two m xs i j v w (λ h. n (ap suc h)) e f)

  views-stay : (o : S) (h : List E) (vs : List (SeatView R S M E)) (id : ℕ) (w : SeatView R S M E) → SeatFits b rules o h w → ((j : ℕ) (u : SeatView R S M E) → j ≢ id → get_elem? vs j ≡ some u → SeatFits b rules o h u)
      → (j : ℕ) (u : SeatView R S M E) → get_elem? (set vs id w) j ≡ some u → SeatFits b rules o h u
  views-stay o h vs id w here others j u e = ⊎_elim (λ (t : (j ≡ id) × (w ≡ u)). subst (SeatFits b rules o h) t.1 here) (λ (t : (j ≢ id) × (get_elem? vs j ≡ some u)). others j u t.0 t.1) (at_set vs id j w u e)

  -- all actors of a list begin with nothing seen
  all_new : (o : S) (ms : List M) → AllFit b rules o [] (map (new_view rules o) ms)
  all_new o [] = tt
  all_new o (m ∷ ms) = (record { rules_are = refl; opening_is = refl; begins = ([], refl); own = refl }, all_new o ms)

  times-new : (o : S) (m : M) (ms : List M) → times_in b m (map (new_view rules o) ms) ≡ times b.same m ms
  times-new o m [] = refl
  times-new o m (n ∷ ms) = ap (λ k. (if b.same n m then 1 else 0) + k) (times-new o m ms)

module _ {R S M C A E : Type 0} (b : RuleBook S M C A E) (law : IsRuleBook b) (rules : R) {T : Type 0} (o : S) where
  abbrev Rule : State T (SeatView R S M E) → Type 0
  Rule = WordTellsHistory b rules o

  -- the moments after a step of seat id, as far as they aren't about this seat
  record Timely (s : State T (SeatView R S M E)) (id : ℕ) (ms : List (Moment M E)) (h : List E) : Type 0 where
    events : events_of ms ≡ h
    calls : AreCalls b ms
    callers : AreOfPasses b ms
    others : (j : ℕ) (u : SeatView R S M E) → j ≢ id → get_elem? s.views j ≡ some u → SeatIsInTime b ms u

  timely_now : (s : State T (SeatView R S M E)) (r : Rule s) (id : ℕ) → Timely s id r.moments r.history
  timely_now s r id = record { events = r.events; calls = r.calls; callers = r.callers; others = λ j u _ e. r.in_time j u e }

  -- no other seat has the actor of seat id
  not_there : (s : State T (SeatView R S M E)) (r : Rule s) (id : ℕ) (p : ActorView R S M E) (rs : List (HistoryView S M E)) → get_elem? s.views id ≡ some (actor_with p rs) → (j : ℕ) (u : SeatView R S M E) → j ≢ id → get_elem? s.views j ≡ some u → times_in b p.actor u.actors ≡ 0
  not_there s r id p rs at j u apart f =
      let mine_one : times_in b p.actor (p ∷ []) ≡ 1 = ap (λ (d : Bool). (if d then 1 else 0) + 0) (law.itself p.actor) in
      omega (arith, mine_one, total-two b rules p.actor s.views id j (actor_with p rs) u apart at f, r.apart p.actor, law.once p.actor)

  -- the actor of a seat has a pass
  has_pass : (s : State T (SeatView R S M E)) (r : Rule s) (id : ℕ) (p : ActorView R S M E) (rs : List (HistoryView S M E)) → get_elem? s.views id ≡ some (actor_with p rs) → 1 ≤ times b.same p.actor b.actors
  has_pass s r id p rs at =
      let mine_one : times_in b p.actor (p ∷ []) ≡ 1 = ap (λ (d : Bool). (if d then 1 else 0) + 0) (law.itself p.actor) in
      omega (arith, mine_one, total-one b rules p.actor s.views id (actor_with p rs) at, r.apart p.actor)

  timely_begin : (s : State T (SeatView R S M E)) (r : Rule s) (id : ℕ) (p : ActorView R S M E) (rs : List (HistoryView S M E)) → get_elem? s.views id ≡ some (actor_with p rs) → Timely s id (r.moments ++ Begins p.actor ∷ []) r.history
  timely_begin s r id p rs at = record {
    events = events-append r.moments (Begins p.actor ∷ []) ∙ (append-nil (events_of r.moments) ∙ r.events);
    calls = calls-begin b law r.moments p.actor r.calls;
    callers = passes-push b law r.moments (Begins p.actor) r.callers (has_pass s r id p rs at);
    others = λ j u apart e. let t = r.in_time j u e in (in_time-more b law r.moments (Begins p.actor) u.actors (not_there s r id p rs at j u apart e) t.0, show-more r.moments (Begins p.actor ∷ []) u.receipts t.1);
  }

  timely_answer : (s : State T (SeatView R S M E)) (r : Rule s) (id : ℕ) (p : ActorView R S M E) (rs : List (HistoryView S M E)) → get_elem? s.views id ≡ some (actor_with p rs) → (ms : List (Moment M E)) (h : List E) (e : E) → b.actor_of e ≡ p.actor → HasBegun b ms p.actor → Timely s id ms h
      → Timely s id (ms ++ Answered e ∷ []) (h ++ e ∷ [])
  timely_answer s r id p rs at ms h e is has t = record {
    events = events-append ms (Answered e ∷ []) ∙ ap (λ (l : List E). l ++ e ∷ []) t.events;
    calls = calls-answer b law ms e t.calls (subst (HasBegun b ms) (sym is) has);
    callers = passes-push b law ms (Answered e) t.callers (subst (λ (m : M). 1 ≤ times b.same m b.actors) (sym is) (has_pass s r id p rs at));
    others = λ j u apart f. let k = t.others j u apart f in (in_time-more b law ms (Answered e) u.actors (subst (λ (m : M). times_in b m u.actors ≡ 0) (sym is) (not_there s r id p rs at j u apart f)) k.0, show-more ms (Answered e ∷ []) u.receipts k.1);
  }

  -- seat id has a new view of the same actors, and the word may have changed
  moved : (s : State T (SeatView R S M E)) (r : Rule s) (id : ℕ) (v w : SeatView R S M E) → get_elem? s.views id ≡ some v → (h : List E) → IsLegal b o h → (n : ℕ) → n ≡ b.packed (after b o h) → SeatFits b rules o h w
      → ((j : ℕ) (u : SeatView R S M E) → j ≢ id → get_elem? s.views j ≡ some u → SeatFits b rules o h u) → ((m : M) → times_in b m w.actors ≡ times_in b m v.actors) → (ms : List (Moment M E)) → Timely s id ms h → SeatIsInTime b ms w → Rule (stepped s 0 n id [] w keeps)
  moved s r id v w at h legal n is here others count ms timely timed = record {
    history = h;
    has_word = subst (λ (z : ℕ). 0 < z) (sym (length-set s.words 0 n)) r.has_word;
    sound = r.sound;
    legal = legal;
    word = get_or-set_same s.words 0 n 0 r.has_word ∙ is;
    views = views-stay b rules o h s.views id w here others;
    apart = λ m. omega (arith, total-set b rules m s.views id v w at, count m, r.apart m);
    moments = ms;
    events = timely.events;
    calls = timely.calls;
    callers = timely.callers;
    in_time = stay (SeatIsInTime b ms) s.views id w timed timely.others;
  }

  -- no event, and the word stays
  stayed : (s : State T (SeatView R S M E)) (r : Rule s) (id : ℕ) (v w : SeatView R S M E) → get_elem? s.views id ≡ some v → SeatFits b rules o r.history w → ((m : M) → times_in b m w.actors ≡ times_in b m v.actors)
      → (ms : List (Moment M E)) → Timely s id ms r.history → SeatIsInTime b ms w → Rule (stepped s 0 (get_or s.words 0 0) id [] w keeps)
  stayed s r id v w at here count ms timely timed = moved s r id v w at r.history r.legal (get_or s.words 0 0) r.word here (λ j u _ e. r.views j u e) count ms timely timed

  -- one event of the actor whose seat it is
  called : (s : State T (SeatView R S M E)) (r : Rule s) (id : ℕ) (p : ActorView R S M E) (rs : List (HistoryView S M E)) → get_elem? s.views id ≡ some (actor_with p rs) → (c : C) (n : ℕ) → n ≡ b.packed (b.next (after b o r.history) p.actor c) → (since : List E) (l x : ℕ) (ms : List (Moment M E)) → Timely s id ms r.history → HasBegun b ms p.actor
      → Rule (stepped s 0 n id [] (actor_alone (now p (r.history ++ b.event p.actor c (b.reply (after b o r.history) p.actor c) ∷ []) since l x (ms ++ Answered (b.event p.actor c (b.reply (after b o r.history) p.actor c)) ∷ []))) keeps)
  called s r id p rs at c n is since l x ms timely has =
      let h : List E = r.history in let a : A = b.reply (after b o h) p.actor c in let k : List E = b.event p.actor c a ∷ [] in
      let t = r.views id (actor_with p rs) at in
      let quiet : (m : M) → b.same m p.actor ≡ false → own_events b k m ≡ [] = λ m f. not_own b law p.actor c a m (apart_back b law p.actor m f) in
      let e : E = b.event p.actor c a in
      let q : ActorView R S M E = now p (h ++ k) since l x (ms ++ Answered e ∷ []) in
      moved s r id (actor_with p rs) (actor_alone q) at (h ++ k) (legal-append b o h k r.legal (legal-event b law (after b o h) p.actor c a refl)) n (is ∙ ap b.packed (sym (after-push b law o h p.actor c a)))
      ((fits_whole b rules o q t.0.0.rules_are t.0.0.opening_is, tt), tt)
      (λ j u apart f. (fit-more b rules o h k p.actor quiet u.actors (not_there s r id p rs at j u apart f) (r.views j u f).0, tell-more b rules o h k u.receipts (r.views j u f).1))
      (λ m. refl)
      (ms ++ Answered e ∷ []) (timely_answer s r id p rs at ms h e (law.actor p.actor c a) has timely) ((in_time-whole b law q, tt), tt)

  point : (s : State T (SeatView R S M E)) (r : Rule s) (p : ActorView R S M E) → Fits b rules o r.history p → IsInTime b r.moments p → WordMoment b rules p (get_or s.words 0 0) r.history
  point s r p t u = record {
    rules_are = t.rules_are;
    opened = subst b.is_sound (sym t.opening_is) r.sound;
    sound = subst (λ (z : S). b.is_sound (after b z r.history)) (sym t.opening_is) (sound-after b law o r.history r.sound);
    legal = subst (λ (z : S). IsLegal b z r.history) (sym t.opening_is) r.legal;
    begins = t.begins;
    own = t.own;
    found = subst (λ (z : S). b.packed (after b z r.history) ≡ get_or s.words 0 0) (sym t.opening_is) (sym r.word);
    moments = r.moments;
    events = r.events;
    since = u.begins;
    own_since = u.own;
  }

  -- the load finds the word; the call's event is added if the call changes nothing
  looks_at : (s : State T (SeatView R S M E)) (r : Rule s) (id : ℕ) (p : ActorView R S M E) (rs : List (HistoryView S M E)) → get_elem? s.views id ≡ some (actor_with p rs) → (c : C) (since : List E) (l x : ℕ) (ms : List (Moment M E)) → Timely s id ms r.history → HasBegun b ms p.actor
      → Rule (stepped s 0 (get_or s.words 0 0) id [] (actor_alone (now p (seen_at b c p r.history) since l x (moments_at b c p r.history ms))) keeps)
  looks_at s r id p rs at c since l x ms timely has =
      let h : List E = r.history in let t = r.views id (actor_with p rs) at in
      subst (λ (z : S). Rule (stepped s 0 (get_or s.words 0 0) id [] (actor_alone (now p (if b.is_done (b.reply (after b z h) p.actor c) then h else h ++ b.event p.actor c (b.reply (after b z h) p.actor c) ∷ []) since l x (if b.is_done (b.reply (after b z h) p.actor c) then ms else ms ++ Answered (b.event p.actor c (b.reply (after b z h) p.actor c)) ∷ []))) keeps)) (sym t.0.0.opening_is)
      (go (b.is_done (b.reply (after b o h) p.actor c)) refl)
    where
      go : (d : Bool) → b.is_done (b.reply (after b o r.history) p.actor c) ≡ d
          → Rule (stepped s 0 (get_or s.words 0 0) id [] (actor_alone (now p (if d then r.history else r.history ++ b.event p.actor c (b.reply (after b o r.history) p.actor c) ∷ []) since l x (if d then ms else ms ++ Answered (b.event p.actor c (b.reply (after b o r.history) p.actor c)) ∷ []))) keeps)
      go true e =
          let t = r.views id (actor_with p rs) at in let q : ActorView R S M E = now p r.history since l x ms in
          stayed s r id (actor_with p rs) (actor_alone q) at ((fits_whole b rules o q t.0.0.rules_are t.0.0.opening_is, tt), tt) (λ m. refl) ms timely ((in_time-whole b law q, tt), tt)
      go false e = called s r id p rs at c (get_or s.words 0 0) (r.word ∙ ap b.packed (sym (law.quiet (after b o r.history) p.actor c e))) since l x ms timely has

  pub looks : (slots id : ℕ) (p : ActorView R S M E) (heard : List (HistoryView S M E)) (c : C) → Allows Rule slots id (actor_with p heard, []) 0 (λ n. n) (looked b rules {T = T} c heard p)
  unfolding point
  looks slots id p heard c s r _ at _ =
      let t = r.views id (actor_with p heard) at in let u = r.in_time id (actor_with p heard) at in let ms : List (Moment M E) = r.moments ++ Begins p.actor ∷ [] in (
        actor_alone (with_moments (after_load p (seen_at b c p r.history)) (moments_at b c p r.history ms)),
        keeps,
        tt,
        looks_at s r id p heard at c _ _ _ ms (timely_begin s r id p heard at) (begun b law r.moments p.actor),
        (r.history, point s r p t.0.0 u.0.0, refl, tell-actor b rules o r.history p heard t.0.0.opening_is t.1, u.1),
      )

  pub looks_as : (slots id : ℕ) (me : Me T (SeatView R S M E)) (p : ActorView R S M E) (heard : List (HistoryView S M E)) (c : C) → me ≡ (actor_with p heard, []) → Allows Rule slots id me 0 (λ n. n) (looked b rules {T = T} c heard p)
  looks_as slots id me p heard c e = subst (λ (z : Me T (SeatView R S M E)). Allows Rule slots id z 0 (λ n. n) (looked b rules {T = T} c heard p)) (sym e) (looks slots id p heard c)

  -- the exchange is won if the word is still the one for which the call was looked up
  pub exchanges : (slots id : ℕ) (p : ActorView R S M E) (c : C) (a : A) (old new : ℕ) → (p.rules ≡ rules → IsReady b p.actor c a old new) → (p.rules ≡ rules → HasBegun b p.moments p.actor)
      → Allows Rule slots id (actor_alone p, []) 0 (λ n. either (eqb n old) new n) (exchanged b rules {T = T} c old p)
  unfolding point
  exchanges slots id p c a old new is_ready has_begun s r _ at _ =
      let h : List E = r.history in let x : ℕ = get_or s.words 0 0 in let t = r.views id (actor_alone p) at in let u = r.in_time id (actor_alone p) at in
      let ready = is_ready t.0.0.rules_are in let ms : List (Moment M E) = r.moments in
      let timely = timely_now s r id in let has = begun-as b p.actor ms p.moments u.0.0.own (has_begun t.0.0.rules_are) in
      let pick : Bool → SeatView R S M E = λ d. actor_alone (with_moments (after_exchange p (if d then with_event b c p h else seen_at b c p h)) (if d then with_answer b c p h ms else moments_at b c p h ms)) in
      dite (ℕ_discrete x old)
      (λ hit. let f = ready.leads (after b o h) (sound-after b law o h r.sound) (sym r.word ∙ hit) in (
        pick (eqb x old),
        keeps,
        tt,
        subst (λ (d : Bool). Rule (stepped s 0 (either d new x) id [] (pick d) keeps)) (sym (eq-eqb x old hit))
            (subst (λ (z : S). Rule (stepped s 0 new id [] (actor_alone (with_moments (after_exchange p (h ++ b.event p.actor c (b.reply (after b z h) p.actor c) ∷ [])) (ms ++ Answered (b.event p.actor c (b.reply (after b z h) p.actor c)) ∷ []))) keeps)) (sym t.0.0.opening_is) (called s r id p [] at c new (sym f.1) _ _ _ ms timely has)),
        (h, point s r p t.0.0 u.0.0, refl),
      ))
      (λ miss. (
        pick (eqb x old),
        keeps,
        tt,
        subst (λ (d : Bool). Rule (stepped s 0 (either d new x) id [] (pick d) keeps)) (sym (ne_eqb x old miss)) (looks_at s r id p [] at c _ _ _ ms timely has),
        (h, point s r p t.0.0 u.0.0, refl),
      ))

  pub exchanges_as : (slots id : ℕ) (me : Me T (SeatView R S M E)) (p : ActorView R S M E) (c : C) (a : A) (old new : ℕ) → me ≡ (actor_alone p, []) → (p.rules ≡ rules → IsReady b p.actor c a old new) → (p.rules ≡ rules → HasBegun b p.moments p.actor)
      → Allows Rule slots id me 0 (λ n. either (eqb n old) new n) (exchanged b rules {T = T} c old p)
  exchanges_as slots id me p c a old new e ready has = subst (λ (z : Me T (SeatView R S M E)). Allows Rule slots id z 0 (λ n. either (eqb n old) new n) (exchanged b rules {T = T} c old p)) (sym e) (exchanges slots id p c a old new ready has)

  points : (s : State T (SeatView R S M E)) (r : Rule s) (ps : List (ActorView R S M E)) → AllFit b rules o r.history ps → AreInTime b r.moments ps → WordMomentOfAll b rules ps (get_or s.words 0 0) r.history
  points s r [] t u = tt
  points s r (p ∷ ps) t u = (point s r p t.0 u.0, points s r ps t.1 u.1)

  gathers : (slots id : ℕ) (v : SeatView R S M E) → Allows Rule slots id (v, []) 0 (λ n. n) (gathered b rules {T = T} (v, []))
  gathers slots id v s r _ at _ =
      let h : List E = r.history in let t = r.views id v at in let u = r.in_time id v at in
      (after_gathering h v, keeps, tt, stayed s r id v (after_gathering h v) at (fit-all_see b rules o h v.actors t.0, tt) (λ m. times-all_see b rules m h v.actors) r.moments (timely_now s r id) (in_time-all_see b law r.moments h v.actors u.0, tt), (h, points s r v.actors t.0 u.0, tell-first b rules o h v.actors v.receipts t.0 t.1, refl))

  pub gathers_as : (slots id : ℕ) (me : Me T (SeatView R S M E)) → me.1 ≡ [] → Allows Rule slots id me 0 (λ n. n) (gathered b rules {T = T} me)
  gathers_as slots id me e = subst (λ x. Allows Rule slots id (me.0, x) 0 (λ n. n) (gathered b rules {T = T} (me.0, x))) (sym e) (gathers slots id me.0)

  pub joins : (id : ℕ) (v : SeatView R S M E) (other : ℕ) (w : SeatView R S M E) → Joins {S = T} Rule id v other w (together v w) spent
  joins id v other w s r at apart there =
      let all = set s.views id (together v w) in
      let was : get_elem? s.views other ≡ some w = ⊎_elim (λ (t : (other ≡ id) × (together v w ≡ w)). absurd (apart t.0)) (λ (t : (other ≢ id) × (get_elem? s.views other ≡ some w)). t.1) (at_set s.views id other (together v w) w there) in
      let tw = r.views other w was in
      let tv = r.views id v at in
      let mw = r.in_time other w was in let mv = r.in_time id v at in
      let in_both : SeatIsInTime b r.moments (together v w) = (in_time-both b law r.moments w.actors v.actors mw.0 mv.0, show-both r.moments w.receipts v.receipts mw.1 mv.1) in
      let t : SeatFits b rules o r.history (together v w) = (fit-both b rules o r.history w.actors v.actors tw.0 tv.0, tell-both b rules o r.history w.receipts v.receipts tw.1 tv.1) in record {
        history = r.history;
        has_word = r.has_word;
        sound = r.sound;
        legal = r.legal;
        word = r.word;
        views = views-stay b rules o r.history all other spent (tt, tt) (λ j u _ e. views-stay b rules o r.history s.views id (together v w) t (λ i x _ f. r.views i x f) j u e);
        apart = λ m. omega (arith, total-set b rules m all other w spent there, total-set b rules m s.views id v (together v w) at, times-append b rules m w.actors v.actors, r.apart m);
        moments = r.moments;
        events = r.events;
        calls = r.calls;
        callers = r.callers;
        in_time = let P : SeatView R S M E → Type 0 = SeatIsInTime b r.moments in stay P all other spent (tt, tt) (λ j u _ e. stay P s.views id (together v w) in_both (λ i x _ f. r.in_time i x f) j u e);
      }

  -- a seat is split into two that have seen no more, and no other actor
  cuts : (id : ℕ) (v left right : SeatView R S M E) → ((h : List E) → SeatFits b rules o h v → SeatFits b rules o h left × SeatFits b rules o h right) → ((m : M) → times_in b m right.actors + times_in b m left.actors ≡ times_in b m v.actors)
      → ((ms : List (Moment M E)) → SeatIsInTime b ms v → SeatIsInTime b ms left × SeatIsInTime b ms right) → Splits {S = T} Rule id v left right
  cuts id v left right fit count times s r at = let t = fit r.history (r.views id v at) in let z = times r.moments (r.in_time id v at) in record {
    history = r.history;
    has_word = r.has_word;
    sound = r.sound;
    legal = r.legal;
    word = r.word;
    views = λ j u e. ⊎_elim (views-stay b rules o r.history s.views id left t.0 (λ i x _ f. r.views i x f) j u)
        (λ (same : right ≡ u). subst (SeatFits b rules o r.history) same t.1) (at_snoc (set s.views id left) right u j e);
    apart = λ m. omega (arith, total-snoc b rules m (set s.views id left) right, total-set b rules m s.views id v left at, count m, r.apart m);
    moments = r.moments;
    events = r.events;
    calls = r.calls;
    callers = r.callers;
    in_time = λ j u e. ⊎_elim (stay (SeatIsInTime b r.moments) s.views id left z.0 (λ i x _ f. r.in_time i x f) j u)
        (λ (same : right ≡ u). subst (SeatIsInTime b r.moments) same z.1) (at_snoc (set s.views id left) right u j e);
  }

  pub splits : (id : ℕ) (v : SeatView R S M E) → Splits {S = T} Rule id v (others_of v) (first_off v)
  splits id v = cuts id v (others_of v) (first_off v) (λ h t. ((fit-others b rules o h v.actors t.0, t.1), (fit-first b rules o h v.actors t.0, tt))) (λ m. times-cut b rules m v.actors) (λ ms t. ((in_time-others b law ms v.actors t.0, t.1), (in_time-first b law ms v.actors t.0, tt)))

  pub receipts : (id : ℕ) (v : SeatView R S M E) → Splits {S = T} Rule id v v (receipts_of v)
  receipts id v = cuts id v v (receipts_of v) (λ h t. (t, (tt, tell-both b rules o h (seen_in v.actors) v.receipts (tell-seen b rules o h v.actors t.0) t.1))) (λ m. omega arith) (λ ms t. (t, (tt, show-both ms (seen_in v.actors) v.receipts (show-seen b ms v.actors t.0) t.1)))

  pub opens : (n : ℕ) (xs : List T) → n ≡ b.packed o → b.is_sound o → Rule (opening (n ∷ []) xs (all_views rules o b.actors))
  opens n xs is sound = record {
    history = [];
    has_word = omega arith;
    sound = sound;
    legal = tt;
    word = is;
    views = first;
    apart = λ m. omega (arith, times-new b rules o m b.actors);
    moments = [];
    events = refl;
    calls = λ earlier e later q. absurd (no_end earlier (Answered e) later q);
    callers = λ earlier x later q. absurd (no_end earlier x later q);
    in_time = timed;
  }
    where
      first : (i : ℕ) (v : SeatView R S M E) → get_elem? (all_views rules o b.actors ∷ []) i ≡ some v → SeatFits b rules o [] v
      first zero v e = subst (SeatFits b rules o []) (some-injective (all_views rules o b.actors) v e) (all_new b rules o b.actors, tt)
      first (suc i) v e = absurd (some-ne-none v (sym e))

      timed : (i : ℕ) (v : SeatView R S M E) → get_elem? (all_views rules o b.actors ∷ []) i ≡ some v → SeatIsInTime b [] v
      timed zero v e = subst (SeatIsInTime b []) (some-injective (all_views rules o b.actors) v e) (in_time-new b law rules o b.actors, tt)
      timed (suc i) v e = absurd (some-ne-none v (sym e))
