-- Lists of moments: what calls in order are, and what isn't one.
use Rattle.std.proofs.Common.{◌≡◌, true, false, List, [], ◌∷◌, ◌++◌, inl, inr, ⊎_elim, refl, sym, ap, ◌∙◌, length, subst, arith, append_assoc}
use Rattle.std.proofs.lemmas.List.{same_from_push}
use Rattle.word_interlock.specs.RuleBook.{RuleBook, IsRuleBook}
use Rattle.word_interlock.specs.declared.views.HistoryView.{HistoryView}
use Rattle.word_interlock.specs.declared.views.Moment.{Moment}
use Rattle.word_interlock.specs.declared.views.Moment.TheVariants.{Begins, Answered}
use Rattle.word_interlock.specs.Views.{PassView}
use Rattle.word_interlock.specs.Moments.{events_of, actor_at, own_moments, HasBegun, AreCalls}
use Rattle.word_interlock.specs.Timing.{Lasts}
use Rattle.word_interlock.specs.MomentExamples.{AreTwoActors, CallExamples, LastsExamples, MomentExamples, receipt_with}
use Rattle.word_interlock.proofs.lemmas.Moments.{no_end, own-append, calls-begin, calls-answer, begun, begun-as, own-one, own-more, not_own, none_begun, none_answered, head_or, rest_of}

module _ {S M C A E : Type 0} (b : RuleBook S M C A E) (law : IsRuleBook b) where
  none_yet : AreCalls b []
  none_yet earlier e later is = absurd (no_end earlier (Answered e) later is)

  -- nothing has begun where an actor has no moment, or where its last is an answer
  not_begun : (h : List (Moment M E)) (m : M) → own_moments b h m ≡ [] → ¬ HasBegun b h m
  not_begun h m quiet t = no_end t.earlier (Begins m) [] (sym quiet ∙ t.is)

  not_after_answer : (h : List (Moment M E)) (e : E) → ¬ HasBegun b (h ++ Answered e ∷ []) (b.actor_of e)
  not_after_answer h e t =
      let m : M = b.actor_of e in
      let own : own_moments b (h ++ Answered e ∷ []) m ≡ own_moments b h m ++ Answered e ∷ [] = own-append b h (Answered e ∷ []) m ∙ ap (λ (l : List (Moment M E)). own_moments b h m ++ l) (own-one b (Answered e) m true (law.itself m)) in
      let last : Answered e ≡ Begins m = (same_from_push (own_moments b h m) t.earlier (Answered e) (Begins m) (sym own ∙ t.is)).1 in cc

  -- an actor begins one call in a list: what stands before it
  one_place : (m : M) (p q first rest : List (Moment M E)) → ((earlier later : List (Moment M E)) → ¬ (p ≡ earlier ++ Begins m ∷ later)) → ((earlier later : List (Moment M E)) → ¬ (q ≡ earlier ++ Begins m ∷ later)) → p ++ Begins m ∷ q ≡ first ++ Begins m ∷ rest → first ≡ p
  one_place m [] q [] rest before after is = refl
  one_place m [] q (x ∷ first) rest before after is = absurd (after first rest (ap rest_of is))
  one_place m (y ∷ p) q [] rest before after is = absurd (before [] p (ap (λ (h : Moment M E). h ∷ p) (ap (head_or y) is)))
  one_place m (y ∷ p) q (x ∷ first) rest before after is =
      let tails : first ≡ p = one_place m p q first rest (λ earlier later f. before (y ∷ earlier) later (ap (λ (l : List (Moment M E)). y ∷ l) f)) after (ap rest_of is) in
      (λ i. sym (ap (head_or y) is) i ∷ tails i)

module _ {S M C A E : Type 0} (b : RuleBook S M C A E) (law : IsRuleBook b) (m n : M) (e f : E) (two : AreTwoActors b m n e f) where
  -- moments of n aren't m's
  begin_foreign : own_moments b (Begins n ∷ []) m ≡ []
  begin_foreign = not_own b law (Begins n) m two.apart

  answer_foreign : own_moments b (Answered f ∷ []) m ≡ []
  answer_foreign = not_own b law (Answered f) m (subst (λ (k : M). b.same m k ≡ false) (sym two.second) two.apart)

  call_foreign : own_moments b (Begins n ∷ Answered f ∷ []) m ≡ []
  call_foreign = own-append b (Begins n ∷ []) (Answered f ∷ []) m ∙ (λ i. begin_foreign i ++ answer_foreign i)

  mine : (h : List (Moment M E)) → HasBegun b h m → HasBegun b h (b.actor_of e)
  mine h = subst (HasBegun b h) (sym two.first)

  pub call_examples : CallExamples b m n e f
  call_examples = record {
    one_call = calls-answer b law (Begins m ∷ []) e (calls-begin b law [] m (none_yet b law)) (mine (Begins m ∷ []) (begun b law [] m));
    two_that_overlap = calls-answer b law (Begins m ∷ Begins n ∷ Answered f ∷ []) e
        (calls-answer b law (Begins m ∷ Begins n ∷ []) f (calls-begin b law (Begins m ∷ []) n (calls-begin b law [] m (none_yet b law))) (subst (HasBegun b (Begins m ∷ Begins n ∷ [])) (sym two.second) (begun b law (Begins m ∷ []) n)))
        (mine (Begins m ∷ Begins n ∷ Answered f ∷ []) (begun-as b m (Begins m ∷ Begins n ∷ Answered f ∷ []) (Begins m ∷ []) (own-more b m (Begins m ∷ []) (Begins n ∷ Answered f ∷ []) (Begins m ∷ []) call_foreign refl) (begun b law [] m)));
    the_first_was_busy = calls-answer b law (Begins m ∷ Begins m ∷ []) e (calls-begin b law (Begins m ∷ []) m (calls-begin b law [] m (none_yet b law))) (mine (Begins m ∷ Begins m ∷ []) (begun b law (Begins m ∷ []) m));
    none_began = λ calls. not_begun b law [] (b.actor_of e) refl (calls [] e [] refl);
    began_after_its_answer = λ calls. not_begun b law [] (b.actor_of e) refl (calls [] e (Begins m ∷ []) refl);
    answered_twice = λ calls. not_after_answer b law (Begins m ∷ []) e (calls (Begins m ∷ Answered e ∷ []) e [] refl);
    another_began = λ calls. not_begun b law (Begins n ∷ []) m begin_foreign (subst (HasBegun b (Begins n ∷ [])) two.first (calls (Begins n ∷ []) e [] refl));
  }

module _ {R S M C A E : Type 0} (b : RuleBook S M C A E) (law : IsRuleBook b) (m n : M) (e f : E) (two : AreTwoActors b m n e f) (v : PassView R S M E) where
  -- a call begins where its only beginning stands
  pub first_is : (heard : List (HistoryView S M E)) (before : PassView R S M E) (w : PassView R S M E) (k : Lasts b heard before (Answered e ∷ []) w) (p l : List (Moment M E)) → before.actor ≡ m → w.moments ≡ p ++ Begins m ∷ (l ++ Answered e ∷ []) → own_moments b p m ≡ [] → own_moments b l m ≡ [] → k.first ≡ p
  first_is heard before w k p l who is none_before none_after =
      let whole : w.moments ≡ k.first ++ Begins m ∷ (k.between ++ Answered e ∷ []) =
      k.is ∙ (append_assoc k.first (Begins before.actor ∷ k.between) (Answered e ∷ []) ∙ ap (λ (x : M). k.first ++ Begins x ∷ (k.between ++ Answered e ∷ [])) who) in
      one_place b law m p (l ++ Answered e ∷ []) k.first (k.between ++ Answered e ∷ []) (none_begun b law m p none_before) (none_answered b law m l e none_after) (sym is ∙ whole)

  -- of two beginnings one is before the other one's call, or during it
  pub begins_once : (first between : List (Moment M E)) → Begins m ∷ Begins m ∷ [] ≡ first ++ Begins m ∷ between → own_moments b first m ≡ [] → own_moments b between m ≡ [] → ⊥
  begins_once [] between is none_first none_after =
      let one : own_moments b (Begins m ∷ []) m ≡ Begins m ∷ [] = own-one b (Begins m) m true (law.itself m) in
      let has : Begins m ∷ [] ≡ [] = sym one ∙ (ap (λ (l : List (Moment M E)). own_moments b l m) (ap rest_of is) ∙ none_after) in cc
  begins_once (x ∷ first) between is none_first none_after =
      let same : x ≡ Begins m = sym (ap (head_or x) is) in
      let mine : own_moments b (x ∷ []) m ≡ x ∷ [] = own-one b x m true (ap (λ (y : Moment M E). b.same (actor_at b y) m) same ∙ law.itself m) in
      let has : x ∷ own_moments b first m ≡ [] = sym (own-append b (x ∷ []) first m ∙ ap (λ (l : List (Moment M E)). l ++ own_moments b first m) mine) ∙ none_first in cc

  -- f isn't e
  apart_events : ¬ (f ≡ e)
  apart_events same =
      let one : n ≡ m = sym two.second ∙ (ap b.actor_of same ∙ two.first) in
      let yes : b.same m n ≡ true = ap (b.same m) one ∙ law.itself m in let no = two.apart in cc

  pub lasts_examples : LastsExamples b m n e f v
  lasts_examples = record {
    after_what_it_had_seen = record {
      first = Begins n ∷ Answered f ∷ [];
      between = [];
      is = refl;
      begins = (Begins n ∷ Answered f ∷ [], refl);
      had_seen = ([], refl);
      told = tt;
      shown = tt;
      own_first = call_foreign b law m n e f two;
      own_between = refl;
      seen = refl;
      load = inr (refl, refl);
    };
    before_what_it_had_seen = λ k.
        let at : k.first ≡ Begins n ∷ [] = first_is [] _ _ k (Begins n ∷ []) (Answered f ∷ []) refl refl (begin_foreign b law m n e f two) (answer_foreign b law m n e f two) in
        let has : [] ≡ f ∷ k.had_seen.0 = sym (ap events_of at) ∙ k.had_seen.1 in cc;
    anew_after_busy = record {
      first = Begins m ∷ [];
      between = [];
      is = refl;
      begins = ([], refl);
      had_seen = ([], refl);
      told = tt;
      shown = tt;
      own_first = refl;
      own_between = refl;
      seen = refl;
      load = inr (refl, refl);
    };
    not_anew_after_busy = λ k.
        let at : k.first ≡ [] = first_is [] _ _ k [] [] refl refl refl refl in
        let has : [] ≡ Begins m ∷ k.begins.0 = sym at ∙ k.begins.1 in cc;
    before_a_beginning_that_it_was_shown = λ k.
        let at : k.first ≡ [] = first_is [] _ _ k [] (Begins n ∷ []) refl refl refl (begin_foreign b law m n e f two) in
        let has : [] ≡ Begins n ∷ k.begins.0 = sym at ∙ k.begins.1 in cc;
    sees_less = λ k. let has : e ∷ [] ≡ f ∷ e ∷ [] = k.seen in cc;
    begun_twice = λ k.
        let whole = same_from_push (Begins m ∷ Begins m ∷ []) (k.first ++ Begins m ∷ k.between) (Answered e) (Answered e) k.is in
        begins_once k.first k.between whole.0 k.own_first k.own_between;
    by_its_load = record {
      first = Begins n ∷ [];
      between = Answered f ∷ [];
      is = refl;
      begins = (Begins n ∷ [], refl);
      had_seen = ([], refl);
      told = tt;
      shown = tt;
      own_first = begin_foreign b law m n e f two;
      own_between = answer_foreign b law m n e f two;
      seen = refl;
      load = inl refl;
    };
    after_its_load = λ k.
        let at : k.first ≡ Begins n ∷ Answered f ∷ [] = first_is [] _ _ k (Begins n ∷ Answered f ∷ []) [] refl refl (call_foreign b law m n e f two) refl in
        ⊎_elim (λ (g : [] ≡ events_of k.first). let has : [] ≡ f ∷ [] = g ∙ ap events_of at in cc) (λ g. let has : [] ≡ f ∷ e ∷ [] = g.1 in cc) k.load;
    before_its_load = λ k.
        let at : k.first ≡ Begins n ∷ [] = first_is [] _ _ k (Begins n ∷ []) (Answered f ∷ []) refl refl (begin_foreign b law m n e f two) (answer_foreign b law m n e f two) in
        ⊎_elim (λ (g : f ∷ [] ≡ events_of k.first). let has : f ∷ [] ≡ [] = g ∙ ap events_of at in cc) (λ g. let has : f ∷ [] ≡ f ∷ e ∷ [] = g.1 in cc) k.load;
    answered_late_by_its_load = λ k.
        let at : k.first ≡ Begins n ∷ [] = first_is [] _ _ k (Begins n ∷ []) (Answered f ∷ []) refl refl (begin_foreign b law m n e f two) (answer_foreign b law m n e f two) in
        ⊎_elim (λ (g : f ∷ e ∷ [] ≡ events_of k.first). let has : f ∷ e ∷ [] ≡ [] = g ∙ ap events_of at in cc)
        (λ g. let has : 4 ≡ 3 = ap length (k.is ∙ (λ i. (at i ++ Begins m ∷ g.0 i) ++ Answered e ∷ [])) in omega arith)
        k.load;
    after_a_receipt = record {
      first = Begins n ∷ Answered f ∷ [];
      between = [];
      is = refl;
      begins = (Begins n ∷ Answered f ∷ [], refl);
      had_seen = (f ∷ [], refl);
      told = (record { opening_is = refl; begins = ([], refl) }, tt);
      shown = (([], refl), tt);
      own_first = call_foreign b law m n e f two;
      own_between = refl;
      seen = refl;
      load = inr (refl, refl);
    };
    before_what_a_receipt_tells = λ k.
        let at : k.first ≡ Begins n ∷ [] = first_is (receipt_with b m n e f v (f ∷ []) [] ∷ []) _ _ k (Begins n ∷ []) (Answered f ∷ []) refl refl (begin_foreign b law m n e f two) (answer_foreign b law m n e f two) in
        let has : [] ≡ f ∷ k.told.0.begins.0 = sym (ap events_of at) ∙ k.told.0.begins.1 in cc;
    before_a_beginning_that_a_receipt_tells = λ k.
        let at : k.first ≡ [] = first_is (receipt_with b m n e f v [] (Begins n ∷ []) ∷ []) _ _ k [] (Begins n ∷ []) refl refl refl (begin_foreign b law m n e f two) in
        let has : [] ≡ Begins n ∷ k.shown.0.0 = sym at ∙ k.shown.0.1 in cc;
    answered_before_another = λ k.
        let last : Answered f ≡ Answered e = (same_from_push (Begins n ∷ Begins m ∷ Answered e ∷ []) (k.first ++ Begins m ∷ k.between) (Answered f) (Answered e) k.is).1 in
        let same : f ≡ e = cc in absurd (apart_events same);
  }

pub moment_examples : {S M C A E : Type 0} (b : RuleBook S M C A E) (law : IsRuleBook b) (R : Type 0) → MomentExamples R b
moment_examples b law R m n e f v two = (call_examples b law m n e f two, lasts_examples b law m n e f two v)
