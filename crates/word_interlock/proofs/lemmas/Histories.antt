-- Prefixes of histories, the states after them, and what an event adds.
use Rattle.std.proofs.Common.{◌≡◌, ℕ, ◌+◌, Bool, true, false, ◌&&◌, not, cond, List, [], ◌∷◌, ◌++◌, refl, sym, ap, ◌∙◌, subst, arith, append-nil, append_assoc}
use Rattle.std.specs.Prelude.{count_by}
use Rattle.std.proofs.lemmas.Bool.{false_from_ne_true}
use Rattle.std.proofs.lemmas.List.{append_cancel_left}
use Rattle.std.proofs.lemmas.List.Elements.{filter-append}
use Rattle.std.proofs.lemmas.List.Sums.{sum_by-cons, sum_by-append}
use Rattle.word_interlock.specs.RuleBook.{RuleBook, IsRuleBook}
use Rattle.word_interlock.specs.History.{after, IsLegal, own_events, is_change, changes_by_others, BeginsWith, Waits}

pub begins-trans : {E : Type 0} (x y z : List E) → BeginsWith y x → BeginsWith z y → BeginsWith z x
begins-trans {E} x y z f g = (f.0 ++ g.0, g.1 ∙ (ap (λ (l : List E). l ++ g.0) f.1 ∙ append_assoc x f.0 g.0))

pub begins-more : {E : Type 0} (h k seen : List E) → BeginsWith h seen → BeginsWith (h ++ k) seen
begins-more {E} h k seen f = (f.0 ++ k, ap (λ (x : List E). x ++ k) f.1 ∙ append_assoc seen f.0 k)

-- an event of another actor isn't one's own
head_apart : {E : Type 0} (t : Bool) (e : E) (rest : List E) → cond t (e ∷ rest) rest ≡ [] → (t ≡ false) × (rest ≡ [])
head_apart true e rest f = cc
head_apart false e rest f = (refl, f)

-- if the first event is another actor's and there are no changes, it isn't one
quiet_head : (d own : Bool) (n k : ℕ) → own ≡ false → k ≡ cond (d && not own) 1 0 + n → k ≡ 0 → (d ≡ false) × (n ≡ 0)
quiet_head d true n k e f z = cc
quiet_head true false n k e f z = absurd (grind (arith, f, z))
quiet_head false false n k e f z = (refl, omega (arith, f, z))

module _ {S M C A E : Type 0} (b : RuleBook S M C A E) where
  pub after-append : (s : S) (h k : List E) → after b s (h ++ k) ≡ after b (after b s h) k
  after-append s [] k = refl
  after-append s (e ∷ h) k = after-append (b.next s (b.actor_of e) (b.call_of e)) h k

  pub legal-left : (s : S) (h k : List E) → IsLegal b s (h ++ k) → IsLegal b s h
  legal-left s [] k l = tt
  legal-left s (e ∷ h) k l = (l.0, legal-left (b.next s (b.actor_of e) (b.call_of e)) h k l.1)

  pub legal-append : (s : S) (h k : List E) → IsLegal b s h → IsLegal b (after b s h) k → IsLegal b s (h ++ k)
  legal-append s [] k l r = r
  legal-append s (e ∷ h) k l r = (l.0, legal-append (b.next s (b.actor_of e) (b.call_of e)) h k l.1 r)

  pub legal-right : (s : S) (h k : List E) → IsLegal b s (h ++ k) → IsLegal b (after b s h) k
  legal-right s [] k l = l
  legal-right s (e ∷ h) k l = legal-right (b.next s (b.actor_of e) (b.call_of e)) h k l.1

  pub own-append : (h k : List E) (m : M) → own_events b (h ++ k) m ≡ own_events b h m ++ own_events b k m
  own-append h k m = filter-append (λ e. b.same (b.actor_of e) m) h k

  pub own-more : (m : M) (h k seen : List E) → own_events b k m ≡ [] → own_events b h m ≡ own_events b seen m → own_events b (h ++ k) m ≡ own_events b seen m
  own-more m h k seen none_of e = own-append h k m ∙ (ap (λ (x : List E). own_events b h m ++ x) none_of ∙ (append-nil (own_events b h m) ∙ e))

  -- the events between what was seen before and the actor's next event are of others
  pub waits-foreign : (m : M) (before now : List E) (w : Waits b m before now) → own_events b w.begins.0 m ≡ []
  waits-foreign m before now w =
      append_cancel_left (own_events b before m) (own_events b w.begins.0 m) []
      (sym (own-append before w.begins.0 m) ∙ (ap (λ h. own_events b h m) (sym w.begins.1) ∙ w.own) ∙ sym (append-nil (own_events b before m)))

  pub waits-after : (m : M) (x y z : List E) → Waits b m x y → Waits b m y z → Waits b m x z
  waits-after m x y z f g = record { begins = begins-trans x y z f.begins g.begins; own = g.own ∙ f.own }

  abbrev counts : M → E → ℕ
  counts m e = cond (is_change b e && not (b.same (b.actor_of e) m)) 1 0

  pub changes-append : (m : M) (h k : List E) → changes_by_others b (h ++ k) m ≡ changes_by_others b h m + changes_by_others b k m
  changes-append m h k = sum_by-append (counts m) h k

module _ {S M C A E : Type 0} (b : RuleBook S M C A E) (law : IsRuleBook b) where
  pub sound-after : (s : S) (h : List E) → b.is_sound s → b.is_sound (after b s h)
  sound-after s [] k = k
  sound-after s (e ∷ h) k = sound-after (b.next s (b.actor_of e) (b.call_of e)) h (law.keeps s (b.actor_of e) (b.call_of e) k)

  -- the state after one more event
  pub next-event : (s : S) (m : M) (c : C) (a : A) → b.next s (b.actor_of (b.event m c a)) (b.call_of (b.event m c a)) ≡ b.next s m c
  next-event s m c a = λ i. b.next s (law.actor m c a i) (law.call m c a i)

  pub after-push : (s : S) (h : List E) (m : M) (c : C) (a : A) → after b s (h ++ b.event m c a ∷ []) ≡ b.next (after b s h) m c
  after-push s h m c a = after-append b s h (b.event m c a ∷ []) ∙ next-event (after b s h) m c a

  -- the reply makes a legal event
  pub legal-event : (s : S) (m : M) (c : C) (a : A) → a ≡ b.reply s m c → IsLegal b s (b.event m c a ∷ [])
  legal-event s m c a right =
      (law.answer m c a ∙ (right ∙ sym (λ i. b.reply s (law.actor m c a i) (law.call m c a i))), tt)

  pub own-event : (m : M) (c : C) (a : A) → own_events b (b.event m c a ∷ []) m ≡ b.event m c a ∷ []
  own-event m c a =
      ap (λ t. cond t (b.event m c a ∷ []) []) (ap (λ x. b.same x m) (law.actor m c a) ∙ law.itself m)

  pub own-push : (h : List E) (m : M) (c : C) (a : A) → own_events b (h ++ b.event m c a ∷ []) m ≡ own_events b h m ++ b.event m c a ∷ []
  own-push h m c a =
      own-append b h (b.event m c a ∷ []) m ∙ ap (λ (own : List E). own_events b h m ++ own) (own-event m c a)

  pub apart_back : (m n : M) → b.same n m ≡ false → b.same m n ≡ false
  apart_back m n e =
      false_from_ne_true (b.same m n) (λ f. let back : b.same n m ≡ true = ap (λ x. b.same n x) (law.one m n f) ∙ law.itself n in cc)

  -- an event of another actor
  pub not_own : (n : M) (c : C) (a : A) (m : M) → b.same n m ≡ false → own_events b (b.event n c a ∷ []) m ≡ []
  not_own n c a m apart =
      ap (λ t. cond t (b.event n c a ∷ []) []) (ap (λ x. b.same x m) (law.actor n c a) ∙ apart)

  -- if an actor did nothing and no other changed the state, it is the same
  pub unchanged : (m : M) (s : S) (h : List E) → IsLegal b s h → own_events b h m ≡ [] → changes_by_others b h m ≡ 0 → after b s h ≡ s
  unchanged m s [] l q z = refl
  unchanged m s (e ∷ h) l q z =
      let others = head_apart (b.same (b.actor_of e) m) e (own_events b h m) q in
      let quiet = quiet_head (is_change b e) (b.same (b.actor_of e) m) (changes_by_others b h m) (changes_by_others b (e ∷ h) m) others.0 (sum_by-cons (counts b m) e h) z in
      let still = law.quiet s (b.actor_of e) (b.call_of e) (ap b.is_done (sym l.0) ∙ quiet.0) in
      ap (λ (t : S). after b t h) still ∙ unchanged m s h (subst (λ (t : S). IsLegal b t h) still l.1) others.1 quiet.1

  stamp-next : (s : S) (m : M) (c : C) → b.stamp (b.next s m c) ≡ cond (b.is_done (b.reply s m c)) 1 0 + b.stamp s
  stamp-next s m c = go (b.is_done (b.reply s m c)) refl
    where
      go : (d : Bool) → b.is_done (b.reply s m c) ≡ d → b.stamp (b.next s m c) ≡ cond d 1 0 + b.stamp s
      go true e = omega (arith, law.counts s m c e)
      go false e = omega (arith, ap b.stamp (law.quiet s m c e))

  -- the stamp counts the changes
  pub stamp-after : (s : S) (h : List E) → IsLegal b s h → b.stamp (after b s h) ≡ b.stamp s + count_by (is_change b) h
  stamp-after s [] l = omega arith
  stamp-after s (e ∷ h) l =
      let rest = stamp-after (b.next s (b.actor_of e) (b.call_of e)) h l.1 in
      let here = stamp-next s (b.actor_of e) (b.call_of e) in
      let count : A → ℕ = λ a. cond (b.is_done a) 1 0 in
      let same = ap count l.0 in
      let more = sum_by-cons (λ (x : E). cond (is_change b x) 1 0) e h in
      omega (arith, rest, here, same, more)

  -- ---- the last event

  abbrev last_of : E → List E → E
  last_of d [] = d
  last_of d (x ∷ xs) = last_of x xs

  last-append : (d x : E) (ys xs : List E) → last_of d (ys ++ x ∷ xs) ≡ last_of x xs
  last-append d x [] xs = refl
  last-append d x (y ∷ ys) xs = last-append y x ys xs

  last_is_foreign : (m : M) (x : E) (xs : List E) → own_events b (x ∷ xs) m ≡ [] → b.same (b.actor_of (last_of x xs)) m ≡ false
  last_is_foreign m x [] q = (head_apart (b.same (b.actor_of x) m) x [] q).0
  last_is_foreign m x (y ∷ ys) q = last_is_foreign m y ys (head_apart (b.same (b.actor_of x) m) x (own_events b (y ∷ ys) m) q).1

  -- who made the last event of a history has seen all of it
  pub last_caller_has_seen_all : (h seen : List E) (e : E) → BeginsWith (h ++ e ∷ []) seen → own_events b (h ++ e ∷ []) (b.actor_of e) ≡ own_events b seen (b.actor_of e) → seen ≡ h ++ e ∷ []
  last_caller_has_seen_all h seen e begins own = by_rest begins.0 begins.1 (waits-foreign b (b.actor_of e) seen (h ++ e ∷ []) (record { begins = begins; own = own }))
    where
      by_rest : (more : List E) → h ++ e ∷ [] ≡ seen ++ more → own_events b more (b.actor_of e) ≡ [] → seen ≡ h ++ e ∷ []
      by_rest [] f q = sym (f ∙ append-nil seen)
      by_rest (x ∷ xs) f q =
          let same_last : e ≡ last_of x xs = sym (last-append e e h []) ∙ (ap (last_of e) f ∙ last-append e x seen xs) in
          let no : b.same (b.actor_of e) (b.actor_of e) ≡ false = subst (λ (y : E). b.same (b.actor_of y) (b.actor_of e) ≡ false) (sym same_last) (last_is_foreign (b.actor_of e) x xs q) in
          let yes : b.same (b.actor_of e) (b.actor_of e) ≡ true = law.itself (b.actor_of e) in cc
