-- Histories of the words are one history of the large plan.
use Rattle.std.proofs.Common.{◌≡◌, ◌≢◌, ℕ, ◌<◌, inl, inr, nat_eq, List, [], ◌∷◌, map, filter, sym, subst, ap, ◌∙◌, if◌then◌else◌}
use Rattle.plan_types.specs.Table.{PlanTable}
use Rattle.plan_rules.specs.declared.state.State.{State}
use Rattle.plan_rules.specs.Sound.{IsSound}
use Rattle.plan_rules.specs.Reply.{reply, next}
use Rattle.plan_rules.specs.History.{IsLegal}
use Rattle.plan_rules.proofs.lemmas.Puts.{same_or_not, nat_eq-self, nat_eq-apart}
use Rattle.plan_rules.proofs.lemmas.Soundness.{next_keeps}
use Rattle.plan_words.specs.Words.{call_out, IsCallOf, answer_out, IsIn, seen_by}
use Rattle.plan_words.specs.Run.{left, left_by, Word, WordEvent, IsLaidOut, put, states_after, events_of, IsWhole, WordsAreOnePlan}
use Rattle.plan_words.proofs.Answers.{Given}
use Rattle.plan_words.proofs.Poses.{answered_alike}
use Rattle.plan_words.proofs.States.{Room, Apart, own_left, other_left, left_long}

-- what holds of each word, after one word's state is put
pub put_each : (P : ℕ → State → Type 0) (states : ℕ → State) (w : ℕ) (s : State) → P w s → ((n : ℕ) → n ≢ w → P n (states n)) → (n : ℕ) → P n (put states w s n)
put_each P states w s here other n =
    elim (same_or_not n w) [
      | inl e ↦
          let is : put states w s n ≡ s = ap (λ b. if b then s else states n) (ap (λ x. nat_eq x w) e ∙ nat_eq-self w) in
          subst (P n) (sym is) (subst (λ x. P x s) (sym e) here)
      | inr ne ↦
          let is : put states w s n ≡ states n = ap (λ b. if b then s else states n) (nat_eq-apart n w ne) in
          subst (P n) (sym is) (other n ne)
    ]

pub events_here : (x : WordEvent) (h : List WordEvent) → events_of (x ∷ h) x.word ≡ x.event ∷ events_of h x.word
events_here x h =
    let rest = filter (λ (y : WordEvent). nat_eq y.word x.word) h in
    ap (λ b. map (λ (y : WordEvent). y.event) (if b then x ∷ rest else rest)) (nat_eq-self x.word)

pub events_elsewhere : (x : WordEvent) (h : List WordEvent) (n : ℕ) → n ≢ x.word → events_of (x ∷ h) n ≡ events_of h n
events_elsewhere x h n ne =
    let rest = filter (λ (y : WordEvent). nat_eq y.word n) h in
    ap (λ b. map (λ (y : WordEvent). y.event) (if b then x ∷ rest else rest)) (nat_eq-apart x.word n (λ e. ne (sym e)))

pub apart : (t : PlanTable) (count : ℕ) (words : ℕ → Word) → IsLaidOut t count words → (n k : ℕ) → n < count → k < count → k ≢ n → Apart (words n).group (words k).group
apart t count words is n k l m ne = record {
  zones = λ z one two. ne (sym (is.one_word_a_zone n k z l m one two));
  places = λ p one two. ne (sym (is.one_word_a_place n k p l m one two));
}

given : (t : PlanTable) (count : ℕ) (words : ℕ → Word) (states : ℕ → State) (whole : State) → IsLaidOut t count words → IsWhole t count words states whole → (n : ℕ) → n < count
    → Given t (words n).group (words n).table (states n) whole
given t count words states whole is w n l = record { group = is.group n l; table = is.table n l; plan = is.plan n l; is_in = w.is_in n l }

-- a call of a word leaves a state of the large plan
pub stays_whole : (t : PlanTable) (count : ℕ) (words : ℕ → Word) (states : ℕ → State) (whole : State) (x : WordEvent) → IsLaidOut t count words → IsWhole t count words states whole
    → x.word < count → IsCallOf (words x.word).group x.event.call
    → IsWhole t count words (states_after words states x) (left t (seen_by (states x.word) whole) x.event.machine (call_out (words x.word).group x.event.call))
stays_whole t count words states whole x is w l of =
    let g = (words x.word).group in
    let u = (words x.word).table in
    let s = states x.word in
    let m = x.event.machine in
    let c = x.event.call in
    let there = call_out g c in
    let k = given t count words states whole is w x.word l in
    let alike = answered_alike t g u (is.group x.word l) (is.table x.word l) (is.plan x.word l) s whole m c (w.is_in x.word l) of in
    let now : State = left t (seen_by s whole) m there in
    let by : now ≡ left_by (answer_out g (reply u s m c)) t (seen_by s whole) m there = ap (λ a. left_by a t (seen_by s whole) m there) alike in
    let r : Room t u s whole = record { zones = w.zones; places = w.places; sound = w.sound x.word l } in
    let long = left_long t (seen_by s whole) m there (reply t (seen_by s whole) m there) in
    record {
      zones = long.0 ∙ w.zones;
      places = long.1 ∙ w.places;
      is_in = put_each (λ n y. n < count → IsIn (words n).group y now) states x.word (next u s m c)
          (λ _. subst (IsIn g (next u s m c)) (sym by) (own_left t g u s whole k r m c of (reply u s m c)))
          (λ n ne below. subst (IsIn (words n).group (states n)) (sym by)
          (other_left t g (words n).group u s (states n) whole k (is.group n below) (apart t count words is x.word n l below ne) w.zones (w.is_in n below) m c of (reply u s m c)));
      sound = put_each (λ n y. n < count → IsSound (words n).table y) states x.word (next u s m c)
          (λ _. next_keeps u s m c (is.plan x.word l) (w.sound x.word l))
          (λ n ne below. w.sound n below);
    }

pub words_are_one : (t : PlanTable) (count : ℕ) (words : ℕ → Word) → IsLaidOut t count words → WordsAreOnePlan t count words
words_are_one t count words is states whole [] w of legal = tt
words_are_one t count words is states whole (x ∷ h) w of legal =
    let g = (words x.word).group in
    let u = (words x.word).table in
    let s = states x.word in
    let m = x.event.machine in
    let c = x.event.call in
    let l = of.0.0 in
    let own = subst (IsLegal u s) (events_here x h) (legal x.word l) in
    let alike = answered_alike t g u (is.group x.word l) (is.table x.word l) (is.plan x.word l) s whole m c (w.is_in x.word l) of.0.1 in (
      ap (answer_out g) own.0 ∙ sym alike,
      words_are_one t count words is (states_after words states x) (left t (seen_by s whole) m (call_out g c)) h
          (stays_whole t count words states whole x is w l of.0.1) of.1
          (put_each (λ n y. n < count → IsLegal (words n).table y (events_of h n)) states x.word (next u s m c)
          (λ _. own.1)
          (λ n ne below. subst (IsLegal (words n).table (states n)) (events_elsewhere x h n ne) (legal n below))),
    )
