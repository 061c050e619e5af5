-- A step on one word of a table adds its event to the one history of all words.
use Rattle.std.proofs.Common.{◌≡◌, ◌≢◌, ℕ, ◌<◌, inl, inr, Bool, true, false, nat_eq, List, [], ◌∷◌, ◌++◌, map, filter, get_or, set, refl, sym, subst, ap, ◌∙◌, if◌then◌else◌}
use Rattle.std.proofs.lemmas.List.{get_or-set_same, get_or-set_other, length-set, append-nil}
use Rattle.plan_types.specs.declared.answer.Event.{Event}
use Rattle.plan_types.specs.Table.{PlanTable}
use Rattle.plan_types.specs.Plan.{IsPlan}
use Rattle.plan_rules.specs.declared.state.State.{State}
use Rattle.plan_rules.specs.Reply.{reply, next}
use Rattle.plan_rules.specs.History.{after, IsLegal}
use Rattle.plan_rules.proofs.lemmas.Puts.{same_or_not, nat_eq-self, nat_eq-apart}
use Rattle.plan_word.specs.OfPlan.{IsOfPlan}
use Rattle.plan_word.specs.Packed.{packed}
use Rattle.plan_word.proofs.lemmas.Staying.{next_stays}
use Rattle.plan_words.specs.Run.{Word, WordEvent, events_of}
use Rattle.plan_words.specs.Table.{word_event, StepsTellOneHistory}

events_then : (h : List WordEvent) (x : WordEvent) (n : ℕ) → filter (λ (y : WordEvent). nat_eq y.word n) (h ++ x ∷ []) ≡ filter (λ (y : WordEvent). nat_eq y.word n) h ++ (if nat_eq x.word n then x ∷ [] else [])
events_then [] x n = refl
events_then (y ∷ h) x n = by (nat_eq y.word n) (filter (λ (z : WordEvent). nat_eq z.word n) h) (events_then h x n)
  where
    by : (b : Bool) (rest : List WordEvent) → filter (λ (z : WordEvent). nat_eq z.word n) (h ++ x ∷ []) ≡ rest ++ (if nat_eq x.word n then x ∷ [] else [])
        → (if b then y ∷ filter (λ (z : WordEvent). nat_eq z.word n) (h ++ x ∷ []) else filter (λ (z : WordEvent). nat_eq z.word n) (h ++ x ∷ []))
        ≡ (if b then y ∷ rest else rest) ++ (if nat_eq x.word n then x ∷ [] else [])
    by true rest e = ap (λ es. y ∷ es) e
    by false rest e = e

map_then : (a b : List WordEvent) → map (λ (z : WordEvent). z.event) (a ++ b) ≡ map (λ (z : WordEvent). z.event) a ++ map (λ (z : WordEvent). z.event) b
map_then [] b = refl
map_then (y ∷ a) b = ap (λ es. y.event ∷ es) (map_then a b)

pub own_then : (h : List WordEvent) (x : WordEvent) (n : ℕ) → n ≡ x.word → events_of (h ++ x ∷ []) n ≡ events_of h n ++ x.event ∷ []
own_then h x n e =
    let is : nat_eq x.word n ≡ true = ap (nat_eq x.word) e ∙ nat_eq-self x.word in
    ap (map (λ (y : WordEvent). y.event)) (events_then h x n ∙ ap (λ b. filter (λ (y : WordEvent). nat_eq y.word n) h ++ (if b then x ∷ [] else [])) is)
    ∙ map_then (filter (λ (y : WordEvent). nat_eq y.word n) h) (x ∷ [])

other_then : (h : List WordEvent) (x : WordEvent) (n : ℕ) → n ≢ x.word → events_of (h ++ x ∷ []) n ≡ events_of h n
other_then h x n ne =
    let isnt : nat_eq x.word n ≡ false = nat_eq-apart x.word n (λ e. ne (sym e)) in
    ap (map (λ (y : WordEvent). y.event)) (events_then h x n ∙ (ap (λ b. filter (λ (y : WordEvent). nat_eq y.word n) h ++ (if b then x ∷ [] else [])) isnt ∙ append-nil (filter (λ (y : WordEvent). nat_eq y.word n) h)))

after_then : (t : PlanTable) (s : State) (h : List Event) (e : Event) → after t s (h ++ e ∷ []) ≡ next t (after t s h) e.machine e.call
after_then t s [] e = refl
after_then t s (x ∷ h) e = after_then t (next t s x.machine x.call) h e

legal_then : (t : PlanTable) (s : State) (h : List Event) (e : Event) → IsLegal t s h → e.answer ≡ reply t (after t s h) e.machine e.call → IsLegal t s (h ++ e ∷ [])
legal_then t s [] e l a = (a, tt)
legal_then t s (x ∷ h) e l a = (l.0, legal_then t (next t s x.machine x.call) h e l.1 a)

stays : (t : PlanTable) (s : State) (h : List Event) → IsPlan t → IsOfPlan t s → IsOfPlan t (after t s h)
stays t s [] p k = k
stays t s (e ∷ h) p k = stays t (next t s e.machine e.call) h p (next_stays t s e.machine e.call p k)

pub steps_tell : (count : ℕ) (words : ℕ → Word) → StepsTellOneHistory count words
steps_tell count words states h cells n m c a new k l step =
    let x = word_event n m c a in
    let u = (words n).table in
    let s = after u (states n) (events_of h n) in
    let now = step s (stays u (states n) (events_of h n) (k.plans n l) (k.opened n l)) (sym (k.each n l)) in
    record {
      long = length-set cells n new ∙ k.long;
      plans = k.plans;
      opened = k.opened;
      legal = λ j b. elim (same_or_not j n) [
        | inl e ↦ subst (IsLegal (words j).table (states j)) (sym (own_then h x j e))
            (subst (λ y. IsLegal (words y).table (states y) (events_of h y ++ x.event ∷ [])) (sym e) (legal_then u (states n) (events_of h n) x.event (k.legal n l) now.0))
        | inr ne ↦ subst (IsLegal (words j).table (states j)) (sym (other_then h x j ne)) (k.legal j b)
      ];
      each = λ j b. elim (same_or_not j n) [
        | inl e ↦ subst (λ es. get_or (set cells n new) j 0 ≡ packed (words j).table (after (words j).table (states j) es)) (sym (own_then h x j e))
            (subst (λ y. get_or (set cells n new) y 0 ≡ packed (words y).table (after (words y).table (states y) (events_of h y ++ x.event ∷ []))) (sym e)
            (get_or-set_same cells n new 0 (subst (λ y. n < y) (sym k.long) l) ∙ (now.1 ∙ ap (packed u) (sym (after_then u (states n) (events_of h n) x.event)))))
        | inr ne ↦ subst (λ es. get_or (set cells n new) j 0 ≡ packed (words j).table (after (words j).table (states j) es)) (sym (other_then h x j ne))
            (get_or-set_other cells n j new 0 ne ∙ k.each j b)
      ];
    }
