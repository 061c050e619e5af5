-- Literal cases of histories, of calls that were Busy, and of passes.
use Rattle.std.proofs.Common.{◌≡◌, ◌+◌, Bool, true, false, cond, ◌&&◌, not, [], ◌∷◌, refl, sym, ap, ◌∙◌, arith}
use Rattle.word_interlock.specs.RuleBook.{RuleBook, IsRuleBook, times}
use Rattle.word_interlock.specs.History.{own_events, is_change, changes_by_others}
use Rattle.word_interlock.specs.declared.views.Moment.TheVariants.{Begins}
use Rattle.word_interlock.specs.Views.{PassView}
use Rattle.word_interlock.specs.MomentExamples.{AreTwoActors}
use Rattle.word_interlock.specs.HistoryExamples.{HistoryCases, BusyCases, PassCases, HistoryExamples}

module _ {S M C A E : Type 0} (b : RuleBook S M C A E) (law : IsRuleBook b) (m n : M) (e f : E) (two : AreTwoActors b m n e f) where
  mine : b.same (b.actor_of e) m ≡ true
  mine = ap (λ (k : M). b.same k m) two.first ∙ law.itself m

  both : (x : Bool) → b.same n m ≡ x → x ≡ false
  both false is = refl
  both true is = let same : n ≡ m = law.one n m is in let yes : b.same m n ≡ true = ap (b.same m) same ∙ law.itself m in let no = two.apart in cc

  other : b.same n m ≡ false
  other = both (b.same n m) refl

  theirs : b.same (b.actor_of f) m ≡ false
  theirs = ap (λ (k : M). b.same k m) two.second ∙ other

  own_of : own_events b (e ∷ f ∷ e ∷ []) m ≡ e ∷ e ∷ []
  own_of = simp (mine, theirs)

  twice : times b.same m (m ∷ n ∷ m ∷ []) ≡ 2
  twice = simp (law.itself m, other)

  mine_off : (x : Bool) → (x && not (b.same (b.actor_of e) m)) ≡ false
  mine_off false = refl
  mine_off true = ap not mine

  theirs_as : (x d : Bool) → x ≡ d → (x && not (b.same (b.actor_of f) m)) ≡ d
  theirs_as x false is = ap (λ (y : Bool). y && not (b.same (b.actor_of f) m)) is
  theirs_as x true is = (λ i. is i && not (theirs i))

  changes : (d : Bool) → b.is_done (b.answer_of f) ≡ d
      → changes_by_others b (f ∷ e ∷ f ∷ []) m ≡ 0 + cond d 1 0 + 0 + cond d 1 0
  changes d is =
      let theirs_is : (is_change b f && not (b.same (b.actor_of f) m)) ≡ d = theirs_as (is_change b f) d is in
      let mine_is : (is_change b e && not (b.same (b.actor_of e) m)) ≡ false = mine_off (is_change b e) in
      (λ i. 0 + cond (theirs_is i) 1 0 + cond (mine_is i) 1 0 + cond (theirs_is i) 1 0)

  own_one : own_events b (e ∷ []) m ≡ e ∷ []
  own_one = simp mine

  own_waits : own_events b (e ∷ f ∷ []) m ≡ own_events b (e ∷ []) m
  own_waits = simp (mine, theirs)

  history_cases : HistoryCases b m n e f
  history_cases = record {
    after_two = λ s. refl;
    second_is_illegal = λ s no l. no l.1.0;
    own = own_of;
    two_changes = changes true;
    no_change = changes false;
    stands_twice = twice;
    sees_another = record { begins = (f ∷ [], refl); own = own_waits };
    sees_its_own = λ w. let has : e ∷ [] ≡ [] = sym own_one ∙ w.own in cc;
    forgets = λ w. let has = w.begins.1 in cc;
    has_no_pass = λ none all. let one = all (Begins n ∷ []) (Begins m) [] refl in omega (arith, none, one);
  }

module _ {R S M C A E : Type 0} (b : RuleBook S M C A E) (c : C) (a : A) (e : E) (v : PassView R S M E) where
  busy_cases : BusyCases b c a e v
  busy_cases = record {
    twice = refl;
    paid = record { loads = omega arith; exchanges = omega arith; risen = omega arith };
    one_load_less = λ f. let is = f.loads in omega (arith, is);
    one_exchange_more = λ f. let is = f.exchanges in omega (arith, is);
    one_change_less = λ f. let is = f.risen in omega (arith, is);
  }

  pass_cases : PassCases b c a e v
  pass_cases = record {
    steps = record { table = refl; rules = refl; opening = refl; actor = refl };
    other_table = λ u apart s. apart s.table;
    other_rules = λ u apart s. apart s.rules;
    other_opening = λ u apart s. apart s.opening;
    other_actor = λ u apart s. apart s.actor;
  }

pub history_examples : {S M C A E : Type 0} (b : RuleBook S M C A E) (law : IsRuleBook b) (R : Type 0) → HistoryExamples R b
history_examples b law R m n c a e f v two = (history_cases b law m n e f two, busy_cases b c a e v, pass_cases b c a e v)
