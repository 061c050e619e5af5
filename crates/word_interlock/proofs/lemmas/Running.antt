-- In a run calls keep their order.
use Rattle.std.proofs.Common.{◌≡◌, Bool, true, false, cond, List, [], ◌∷◌, ◌++◌, refl, sym, ap, ◌∙◌, subst, append_assoc}
use Rattle.std.proofs.lemmas.List.{append_cancel_right, same_from_push}
use Rattle.word_interlock.specs.RuleBook.{RuleBook, IsRuleBook}
use Rattle.word_interlock.specs.History.{BeginsWith}
use Rattle.word_interlock.specs.declared.views.Moment.{Moment}
use Rattle.word_interlock.specs.declared.views.Moment.TheVariants.{Begins, Answered}
use Rattle.word_interlock.specs.Moments.{events_of, actor_at, own_moments, AreCalls}
use Rattle.word_interlock.specs.Run.{AnsweredCall, point_of, EndsBefore, RunsKeepOrder, RunsAreEnds, CallsFollowReceipts, AnsweredCallsAreOver}
use Rattle.word_interlock.proofs.lemmas.Histories.{begins-trans}
use Rattle.word_interlock.proofs.lemmas.Moments.{head_or, rest_of, no_end, events-append, own-append, own-one, none_begun}

module _ {S M C A E : Type 0} (b : RuleBook S M C A E) (m : M) where
  -- the last beginning of an actor's call, if it is its last moment
  record Begun (l : List (Moment M E)) : Type 0 where
    before : List (Moment M E)
    between : List (Moment M E)
    is : l ≡ before ++ Begins m ∷ between
    own : own_moments b between m ≡ []

  begun_at : (l xs : List (Moment M E)) → own_moments b l m ≡ xs ++ Begins m ∷ [] → Begun l
  begun_at [] xs e = absurd (no_end xs (Begins m) [] e)
  begun_at (x ∷ l) xs e = go (b.same (actor_at b x) m) refl xs e (begun_at l)
    where
      later : Begun l → Begun (x ∷ l)
      later t = record { before = x ∷ t.before; between = t.between; is = ap (λ (k : List (Moment M E)). x ∷ k) t.is; own = t.own }

      go : (d : Bool) → b.same (actor_at b x) m ≡ d → (xs : List (Moment M E)) → own_moments b (x ∷ l) m ≡ xs ++ Begins m ∷ [] → ((ys : List (Moment M E)) → own_moments b l m ≡ ys ++ Begins m ∷ [] → Begun l) → Begun (x ∷ l)
      go false f xs e again = later (again xs (sym (ap (λ (t : Bool). cond t (x ∷ own_moments b l m) (own_moments b l m)) f) ∙ e))
      go true f [] e again =
          let is : x ∷ own_moments b l m ≡ Begins m ∷ [] = sym (ap (λ (t : Bool). cond t (x ∷ own_moments b l m) (own_moments b l m)) f) ∙ e in
          record { before = []; between = l; is = ap (λ (h : Moment M E). h ∷ l) (ap (head_or x) is); own = ap rest_of is }
      go true f (y ∷ ys) e again =
          let is : x ∷ own_moments b l m ≡ y ∷ (ys ++ Begins m ∷ []) = sym (ap (λ (t : Bool). cond t (x ∷ own_moments b l m) (own_moments b l m)) f) ∙ e in
          later (again ys (ap rest_of is))

module _ {S M C A E : Type 0} (b : RuleBook S M C A E) where
  each : (moments earlier : List (Moment M E)) (e : E) (later : List (Moment M E)) → AreCalls b moments → moments ≡ earlier ++ Answered e ∷ later
      → (call : AnsweredCall b moments) × (call.event ≡ e) × (call.rest ≡ later) × (point_of b call ≡ events_of earlier)
  each moments earlier e later calls is =
      let has = calls earlier e later is in let t = begun_at b (b.actor_of e) earlier has.earlier has.is in (
        record { before = t.before; between = t.between; event = e; rest = later; is = is ∙ ap (λ (l : List (Moment M E)). l ++ Answered e ∷ later) t.is; own = t.own },
        refl,
        refl,
        sym (ap events_of t.is ∙ events-append t.before (Begins (b.actor_of e) ∷ t.between)),
      )

  point : (moments : List (Moment M E)) (call : AnsweredCall b moments) → events_of moments ≡ point_of b call ++ call.event ∷ events_of call.rest
  point moments call =
      ap events_of call.is ∙ (events-append (call.before ++ Begins (b.actor_of call.event) ∷ call.between) (Answered call.event ∷ call.rest)
      ∙ ap (λ (l : List E). l ++ call.event ∷ events_of call.rest) (events-append call.before (Begins (b.actor_of call.event) ∷ call.between)))

  -- of two lists that end in the same rest, what stands before it is the same
  same_before : {X : Type 0} (p q rest : List X) (x y : X) → p ++ x ∷ rest ≡ q ++ y ∷ rest → (p ≡ q) × (x ≡ y)
  same_before p q rest x y is =
      let pushed : p ++ x ∷ [] ≡ q ++ y ∷ [] = append_cancel_right (p ++ x ∷ []) (q ++ y ∷ []) rest (append_assoc p (x ∷ []) rest ∙ (is ∙ sym (append_assoc q (y ∷ []) rest))) in
      same_from_push p q x y pushed

  order : (moments : List (Moment M E)) (call later : AnsweredCall b moments) → EndsBefore b call later → BeginsWith (point_of b later) (point_of b call ++ call.event ∷ [])
  order moments call later ends =
      let p : List E = point_of b call ++ call.event ∷ [] in
      let begun : List (Moment M E) = call.before ++ Begins (b.actor_of call.event) ∷ call.between in
      let here : events_of (begun ++ Answered call.event ∷ []) ≡ p = events-append begun (Answered call.event ∷ []) ∙ ap (λ (l : List E). l ++ call.event ∷ []) (events-append call.before (Begins (b.actor_of call.event) ∷ call.between)) in
      let there : events_of later.before ≡ p ++ events_of ends.0 = ap events_of ends.1 ∙ (events-append (begun ++ Answered call.event ∷ []) ends.0 ∙ ap (λ (l : List E). l ++ events_of ends.0) here) in
      (events_of ends.0 ++ events_of later.between, ap (λ (l : List E). l ++ events_of later.between) there ∙ append_assoc p (events_of ends.0) (events_of later.between))

  -- an actor's last beginning stands at one place
  last_place : (m : M) (p q r s : List (Moment M E)) → ((earlier later : List (Moment M E)) → ¬ (q ≡ earlier ++ Begins m ∷ later)) → ((earlier later : List (Moment M E)) → ¬ (s ≡ earlier ++ Begins m ∷ later)) → p ++ Begins m ∷ q ≡ r ++ Begins m ∷ s → p ≡ r
  last_place m [] q [] s after_p after_r is = refl
  last_place m [] q (x ∷ r) s after_p after_r is = absurd (after_p r s (ap rest_of is))
  last_place m (x ∷ p) q [] s after_p after_r is = absurd (after_r p q (sym (ap rest_of is)))
  last_place m (x ∷ p) q (y ∷ r) s after_p after_r is =
      let tails : p ≡ r = last_place m p q r s after_p after_r (ap rest_of is) in (λ i. ap (head_or x) is i ∷ tails i)

module _ {S M C A E : Type 0} (b : RuleBook S M C A E) (law : IsRuleBook b) where
  one : (moments : List (Moment M E)) (call other : AnsweredCall b moments) → call.rest ≡ other.rest → call.before ≡ other.before
  one moments call other same =
      let m : M = b.actor_of call.event in let k : M = b.actor_of other.event in
      let p : List (Moment M E) = call.before ++ Begins m ∷ call.between in let q : List (Moment M E) = other.before ++ Begins k ∷ other.between in
      let is : p ++ Answered call.event ∷ call.rest ≡ q ++ Answered other.event ∷ call.rest = sym call.is ∙ (other.is ∙ ap (λ (l : List (Moment M E)). q ++ Answered other.event ∷ l) (sym same)) in
      let cut = same_before b p q call.rest (Answered call.event) (Answered other.event) is in
      let who : k ≡ m = sym (ap (actor_at b) cut.1) in
      let here : p ≡ other.before ++ Begins m ∷ other.between = cut.0 ∙ ap (λ (n : M). other.before ++ Begins n ∷ other.between) who in
      last_place b m call.before call.between other.before other.between (none_begun b law m call.between call.own) (none_begun b law m other.between (subst (λ (n : M). own_moments b other.between n ≡ []) who other.own)) here

  pub runs_keep_order : RunsKeepOrder b
  runs_keep_order = record { each = each b; one = one; point = point b; order = order b }

module _ {S M C A E : Type 0} (b : RuleBook S M C A E) where
  pub calls_follow_receipts : (R : Type 0) → CallsFollowReceipts R b
  calls_follow_receipts R = record {
    asked = λ m c a seen answered receipt v w last first took call.
        (first.point, first.ends, subst (λ (l : List E). BeginsWith (events_of call.first) l) first.ends (begins-trans answered receipt.seen (events_of call.first) took call.told.0.begins));
    accepted = λ m c a seen answered told heard v w last first took had call.
        (first.point, first.ends, subst (λ (l : List E). BeginsWith (events_of call.first) l) first.ends (begins-trans answered v.seen (events_of call.first) (begins-trans answered told v.seen took had) call.had_seen));
  }

  pub runs_are_ends : (R : Type 0) → RunsAreEnds R b
  runs_are_ends R opening actors s run = record { history = events_of run.moments; lawful = run.lawful; reached = run.reached; parts = run.parts }

module _ {S M C A E : Type 0} (b : RuleBook S M C A E) (law : IsRuleBook b) where
  pub answered_calls_are_over : (R : Type 0) → AnsweredCallsAreOver R b
  answered_calls_are_over R heard v w c a k has =
      let m : M = v.actor in
      let e : Moment M E = Answered (b.event m c a) in
      let p : List (Moment M E) = k.first ++ Begins m ∷ k.between in
      let mine : own_moments b (e ∷ []) m ≡ e ∷ [] = own-one b e m true (ap (λ (x : M). b.same x m) (law.actor m c a) ∙ law.itself m) in
      let own : own_moments b w.moments m ≡ own_moments b p m ++ e ∷ [] = ap (λ (h : List (Moment M E)). own_moments b h m) k.is ∙ (own-append b p (e ∷ []) m ∙ ap (λ (l : List (Moment M E)). own_moments b p m ++ l) mine) in
      let last : e ≡ Begins m = (same_from_push (own_moments b p m) has.earlier e (Begins m) (sym own ∙ has.is)).1 in cc
