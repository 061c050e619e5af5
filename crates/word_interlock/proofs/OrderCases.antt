-- Literal cases of order, of what was seen, of a call that was Busy once, and of stamps.
use Rattle.std.proofs.Common.{◌≡◌, ◌+◌, ◌<◌, ◌≤◌, true, false, arith, List, [], ◌∷◌, ◌++◌, inl, inr, ⊎_elim, refl, sym, ap, ◌∙◌, subst, append_assoc}
use Rattle.std.proofs.lemmas.List.{same_from_push}
use Rattle.word_interlock.specs.RuleBook.{RuleBook, IsRuleBook}
use Rattle.word_interlock.specs.declared.views.Moment.{Moment}
use Rattle.word_interlock.specs.declared.views.Moment.TheVariants.{Begins, Answered}
use Rattle.word_interlock.specs.Views.{PassView}
use Rattle.word_interlock.specs.Moments.{own_moments}
use Rattle.word_interlock.specs.Run.{AnsweredCall, EndsBefore}
use Rattle.word_interlock.specs.MomentExamples.{AreTwoActors, pass_with}
use Rattle.word_interlock.specs.OrderExamples.{OrderCases, SeenCases, SettledCases, StampCases, OrderExamples}
use Rattle.word_interlock.proofs.lemmas.Moments.{head_or, rest_of, no_end, own-one}
use Rattle.word_interlock.proofs.Examples.{first_is, begins_once}

module _ {S M C A E : Type 0} (b : RuleBook S M C A E) (law : IsRuleBook b) (m n : M) (e f : E) (two : AreTwoActors b m n e f) where
  -- no beginning stands after an answer in these lists
  none_later : (x : E) (p q rest : List (Moment M E)) (k : M) → Begins m ∷ Begins n ∷ Answered e ∷ Answered f ∷ [] ≡ (p ++ Answered x ∷ q) ++ Begins k ∷ rest → ⊥
  none_later x [] q rest k is = let has : Begins m ≡ Answered x = ap (head_or (Begins m)) is in cc
  none_later x (z ∷ []) q rest k is = let has : Begins n ≡ Answered x = ap (head_or (Begins m)) (ap rest_of is) in cc
  none_later x (z ∷ w ∷ []) [] rest k is = let has : Answered f ≡ Begins k = ap (head_or (Begins m)) (ap rest_of (ap rest_of (ap rest_of is))) in cc
  none_later x (z ∷ w ∷ []) (t ∷ q) rest k is = no_end q (Begins k) rest (ap rest_of (ap rest_of (ap rest_of (ap rest_of is))))
  none_later x (z ∷ w ∷ t ∷ []) q rest k is = no_end q (Begins k) rest (ap rest_of (ap rest_of (ap rest_of (ap rest_of is))))
  none_later x (z ∷ w ∷ t ∷ u ∷ p) q rest k is = no_end (p ++ Answered x ∷ q) (Begins k) rest (ap rest_of (ap rest_of (ap rest_of (ap rest_of is))))

  none_after : (p q rest : List (Moment M E)) → Begins m ∷ Begins n ∷ Answered f ∷ [] ≡ (p ++ Answered f ∷ q) ++ Begins m ∷ rest → ⊥
  none_after [] q rest is = let has : Begins m ≡ Answered f = ap (head_or (Begins m)) is in cc
  none_after (z ∷ []) q rest is = let has : Begins n ≡ Answered f = ap (head_or (Begins m)) (ap rest_of is) in cc
  none_after (z ∷ w ∷ []) q rest is = no_end q (Begins m) rest (ap rest_of (ap rest_of (ap rest_of is)))
  none_after (z ∷ w ∷ t ∷ p) q rest is = no_end (p ++ Answered f ∷ q) (Begins m) rest (ap rest_of (ap rest_of (ap rest_of is)))

  apart_actors : ¬ (n ≡ m)
  apart_actors same = let yes : b.same m n ≡ true = ap (b.same m) same ∙ law.itself m in let no = two.apart in cc

  overlapping : (first second : AnsweredCall b (Begins m ∷ Begins n ∷ Answered e ∷ Answered f ∷ [])) → ¬ EndsBefore b first second
  overlapping first second ends =
      let p : List (Moment M E) = first.before ++ Begins (b.actor_of first.event) ∷ first.between in
      let rest : List (Moment M E) = second.between ++ Answered second.event ∷ second.rest in
      let split : second.before ≡ p ++ Answered first.event ∷ ends.0 = ends.1 ∙ append_assoc p (Answered first.event ∷ []) ends.0 in
      none_later first.event p ends.0 rest (b.actor_of second.event)
      (second.is ∙ (append_assoc second.before (Begins (b.actor_of second.event) ∷ second.between) (Answered second.event ∷ second.rest) ∙ ap (λ (l : List (Moment M E)). l ++ Begins (b.actor_of second.event) ∷ rest) split))

  order_cases_of : OrderCases b m n e f
  order_cases_of = record {
    one_after_another = (
      record { before = []; between = []; event = e; rest = Begins n ∷ Answered f ∷ []; is = ap (λ (k : M). Begins k ∷ Answered e ∷ Begins n ∷ Answered f ∷ []) (sym two.first); own = refl },
      record { before = Begins m ∷ Answered e ∷ []; between = []; event = f; rest = []; is = ap (λ (k : M). Begins m ∷ Answered e ∷ Begins k ∷ Answered f ∷ []) (sym two.second); own = refl },
      ([], ap (λ (k : M). Begins k ∷ Answered e ∷ []) (sym two.first)),
    );
    overlapping = overlapping;
    begun_after = record { before = Begins n ∷ []; between = []; rest = []; is = refl; last = λ earlier later nothing. no_end earlier (Begins m) later nothing };
    begun_before = λ k. none_after k.before k.between k.rest k.is;
  }

  seen_cases_of : {R : Type 0} (rules : R) (opening : S) → SeenCases b m n e f rules opening
  seen_cases_of rules opening = record {
    has_seen = inl (refl, refl);
    has_seen_nothing = λ k. ⊎_elim (λ g. let has : [] ≡ e ∷ [] = g.1 in cc) (λ g. g) k;
    another_has_seen = λ k. ⊎_elim (λ g. apart_actors g.0) (λ g. g) k;
    was_shown = inl (refl, refl);
    was_shown_nothing = λ k. ⊎_elim (λ g. let has : [] ≡ Begins m ∷ [] = g.1 in cc) (λ g. g) k;
    another_was_shown = λ k. ⊎_elim (λ g. apart_actors g.0) (λ g. g) k;
  }

module _ {R S M C A E : Type 0} (b : RuleBook S M C A E) (law : IsRuleBook b) (m n : M) (c : C) (a : A) (f : E) (two : AreTwoActors b m n (b.event m c a) f) (v : PassView R S M E) where
  abbrev e : E
  e = b.event m c a

  begun_alone : own_moments b (Begins m ∷ []) m ≡ Begins m ∷ []
  begun_alone = own-one b (Begins m) m true (law.itself m)

  settled_cases_of : SettledCases b m n c a f v
  settled_cases_of = record {
    busy_once = record {
      before = pass_with b m n e f v [] [] (Begins m ∷ []);
      pass = record { table = refl; rules = refl; opening = refl; actor = refl };
      seen = ([], refl);
      moments = (Begins m ∷ [], refl);
      own = begun_alone;
      lasts = record {
        first = Begins m ∷ [];
        between = [];
        is = refl;
        begins = ([], refl);
        had_seen = ([], refl);
        told = tt;
        shown = tt;
        own_first = refl;
        own_between = refl;
        seen = refl;
        load = inr (refl, refl);
      };
    };
    one_beginning = λ k.
        let at : k.lasts.first ≡ [] = first_is b law m n e f two v [] k.before _ k.lasts [] [] k.pass.actor refl refl refl in
        let has : [] ≡ Begins m ∷ [] = subst (λ (x : M). [] ≡ own_moments b k.before.moments x) k.pass.actor (sym (ap (λ (l : List (Moment M E)). own_moments b l k.before.actor) at) ∙ k.lasts.own_first) ∙ k.own in cc;
    not_busy = λ k.
        let whole = same_from_push (Begins m ∷ Begins m ∷ []) (k.lasts.first ++ Begins k.before.actor ∷ k.lasts.between) (Answered e) (Answered e) k.lasts.is in
        begins_once b law m n e f two v k.lasts.first k.lasts.between (subst (λ (x : M). Begins m ∷ Begins m ∷ [] ≡ k.lasts.first ++ Begins x ∷ k.lasts.between) k.pass.actor whole.0)
        (subst (λ (x : M). own_moments b k.lasts.first x ≡ own_moments b k.before.moments x) k.pass.actor k.lasts.own_first ∙ k.own) (subst (λ (x : M). own_moments b k.lasts.between x ≡ []) k.pass.actor k.lasts.own_between);
  }

stamp_cases_of : {S M C A E : Type 0} (b : RuleBook S M C A E) (a : A) → StampCases b a
stamp_cases_of b a = record {
  done_with_the_next = (omega arith, λ yes. omega arith);
  done_with_the_same = λ yes told k. let higher : told < told = k.1 yes in omega (arith, higher);
  refused_with_the_same = λ no. (omega arith, λ yes. absurd (let f : true ≡ false = sym yes ∙ no in cc));
  answered_with_a_lower_one = λ told k. let same : told + 1 ≤ told = k.0 in omega (arith, same);
  busy_with_the_same = λ lost. omega arith;
  busy_with_a_lower_one = λ lost told k. let same : told + 1 ≤ told = k in omega (arith, same);
}

pub order_cases : {S M C A E : Type 0} (b : RuleBook S M C A E) (law : IsRuleBook b) (R : Type 0) → OrderExamples R b
order_cases b law R m n c a f rules opening v two =
    (order_cases_of b law m n (b.event m c a) f two, seen_cases_of b law m n (b.event m c a) f two rules opening, settled_cases_of b law m n c a f two v, stamp_cases_of b a)
