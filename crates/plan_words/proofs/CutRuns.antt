-- Histories of words with cut places are histories of the plan.
use Rattle.std.proofs.Common.{◌≡◌, ℕ, ◌<◌, inl, inr, Bool, true, false, List, [], ◌∷◌, refl, sym, subst, ap, ◌∙◌, if◌then◌else◌}
use Rattle.plan_types.specs.declared.call.Call.{Call}
use Rattle.plan_types.specs.declared.call.Call.TheVariants.{Claim, Give, Yield, Take, Release, SetPose, Inquire, Stop, Resume, Advance}
use Rattle.plan_types.specs.declared.answer.Answer.{Answer}
use Rattle.plan_types.specs.declared.answer.Answer.TheVariants.{Done, Shown, Refused}
use Rattle.plan_types.specs.Table.{place_count}
use Rattle.std.proofs.lemmas.Option.{same_Some}
use Rattle.plan_types.specs.declared.table.Transfer.{Transfer}
use Rattle.plan_rules.specs.declared.state.State.{State}
use Rattle.plan_rules.specs.declared.state.ZoneState.{ZoneState}
use Rattle.plan_rules.specs.State.{is_full}
use Rattle.plan_rules.specs.Reply.{reply, next}
use Rattle.plan_rules.specs.History.{IsLegal, after}
use Rattle.plan_words.specs.Group.{Group}
use Rattle.plan_words.specs.Groups.{IsLargePlan}
use Rattle.plan_words.specs.Words.{answer_out, seen_by}
use Rattle.plan_words.specs.Run.{left, left_by, Word, WordEvent, IsLaidOut, events_of, IsWhole}
use Rattle.plan_words.specs.Cut.{Cut, IsEntry, IsCut, StandsFor, IsInTurn, is_inner, IsAnsweredFor}
use Rattle.plan_words.specs.CutRun.{Moment, call_of, next_moment, last_moment, IsRun, WordsArePlan, IsFullOnWord, PlatesAreLentInTurn}
use Rattle.plan_words.proofs.Poses.{answered_alike}
use Rattle.plan_words.proofs.Runs.{put_each, events_here, events_elsewhere, stays_whole}
use Rattle.plan_words.proofs.CutAnswers.{Cuts, with_full, answered}
use Rattle.plan_words.proofs.CutStates.{outer_stands, inner_stands}
use Rattle.plan_words.proofs.CutComing.{all_come}

-- ---- a word's stamp and stop change nothing here

pub seen_stands : (c : Cut) (s there whole : State) → StandsFor c there whole → StandsFor c (seen_by s there) (with_full (seen_by s there) whole.full)
seen_stands c s there whole k = record { zones = refl; there_long = k.there_long; whole_long = k.whole_long; uncut = k.uncut; full = k.full; one_open = k.one_open; lent = k.lent; one_lent = k.one_lent }

pub seen_whole : (c : Cut) (s there whole : State) → StandsFor c there whole → with_full (seen_by s there) whole.full ≡ seen_by s whole
seen_whole c s there whole k = ap (λ (zones : List ZoneState). let x : State = record { zones = zones; full = whole.full; stamp = s.stamp; stopped = s.stopped } in x) k.zones

-- what is known of a moment's cut plan
pub seen_cuts : (c : Cut) (count : ℕ) (words : ℕ → Word) → IsCut c → IsLargePlan c.plan → IsLaidOut c.cut count words → (states : ℕ → State) (s there whole : State) → IsWhole c.cut count words states there → StandsFor c there whole
    → Cuts c (seen_by s there) whole.full
seen_cuts c count words k p out states s there whole w n = record {
  is = k;
  large = p;
  stands = seen_stands c s there whole n;
  comes = λ z way l flag is.
      let here = all_come c.cut count words out states there w z l flag in
      let same : here.way ≡ way = same_Some here.way way (sym here.is ∙ is) in
      ap (λ (v : Transfer). is_full there v.to) (sym same) ∙ here.empty;
}

seen_turn : (c : Cut) (s there whole : State) (x : Call) → IsInTurn c there whole x → IsInTurn c (seen_by s there) (with_full (seen_by s there) whole.full) x
seen_turn c s there whole (Advance q) t = (λ p m e. let h = t.0 p m e in record { has = h.has; lent_nowhere = h.lent_nowhere }, λ p m cut e. let h = t.1 p m cut e in record { left = h.left; others_shut = h.others_shut })
seen_turn c s there whole (Claim z) t = tt
seen_turn c s there whole (Give z) t = tt
seen_turn c s there whole (Yield z) t = tt
seen_turn c s there whole (Take z) t = tt
seen_turn c s there whole (Release z) t = tt
seen_turn c s there whole (SetPose p) t = tt
seen_turn c s there whole (Inquire z) t = tt
seen_turn c s there whole Stop t = tt
seen_turn c s there whole Resume t = tt

unseen_answer : (c : Cut) (s there whole : State) (m : ℕ) (a b : Answer) → IsAnsweredFor c (seen_by s there) (with_full (seen_by s there) whole.full) m a b → IsAnsweredFor c there whole m a b
unseen_answer c s there whole m a b (inl e) = inl e
unseen_answer c s there whole m a b (inr (inl (e, h))) = inr (inl (e, record { exit = h.exit; place = h.place; is = h.is; keeper = h.keeper; has = h.has; empty = h.empty }))
unseen_answer c s there whole m a b (inr (inr (e, h))) = inr (inr (e, record { entry = h.entry; place = h.place; is = h.is; cut = h.cut; left = h.left; full = h.full }))

out_done : (g : Group) (a : Answer) → answer_out g a ≡ Done → a ≡ Done
out_done g Done e = refl
out_done g (Refused r) e = cc
out_done g (Shown o f q) e = cc

-- ---- one event

-- what the statement gives
pub record Plant (c : Cut) (count : ℕ) (words : ℕ → Word) : Type 0 where
  pub is : IsCut c
  pub large : IsLargePlan c.plan
  pub laid_out : IsLaidOut c.cut count words

-- the cut plan's answer is the word's
pub answer_is : (c : Cut) (count : ℕ) (words : ℕ → Word) (at : Moment) (x : WordEvent) (h : List WordEvent) → Plant c count words → IsRun c count words at (x ∷ h)
    → reply c.cut (seen_by (at.states x.word) at.there) x.event.machine (call_of words x) ≡ answer_out (words x.word).group x.event.answer
answer_is c count words at x h k run =
    let g = (words x.word).group in
    let u = (words x.word).table in
    let l = run.calls.0.0 in
    let own = subst (IsLegal u (at.states x.word)) (events_here x h) (run.legal x.word l) in
    answered_alike c.cut g u (k.laid_out.group x.word l) (k.laid_out.table x.word l) (k.laid_out.plan x.word l) (at.states x.word) at.there x.event.machine x.event.call (run.words_are_whole.is_in x.word l) run.calls.0.1
    ∙ ap (answer_out g) (sym own.0)

pub legal_now : (c : Cut) (count : ℕ) (words : ℕ → Word) (at : Moment) (x : WordEvent) (h : List WordEvent) → Plant c count words → IsRun c count words at (x ∷ h) → is_inner c (call_of words x) ≡ false
    → IsAnsweredFor c at.there at.whole x.event.machine (answer_out (words x.word).group x.event.answer) (reply c.plan (seen_by (at.states x.word) at.whole) x.event.machine (call_of words x))
legal_now c count words at x h k run outer =
    let s = at.states x.word in
    let m = x.event.machine in
    let y = call_of words x in
    let found = answered c (seen_by s at.there) at.whole.full (seen_cuts c count words k.is k.large k.laid_out at.states s at.there at.whole run.words_are_whole run.stands) m y outer in
    let here : IsAnsweredFor c at.there at.whole m (reply c.cut (seen_by s at.there) m y) (reply c.plan (with_full (seen_by s at.there) at.whole.full) m y) =
    unseen_answer c s at.there at.whole m _ _ found in
    subst (λ a. IsAnsweredFor c at.there at.whole m a (reply c.plan (seen_by s at.whole) m y)) (answer_is c count words at x h k run)
    (subst (λ w. IsAnsweredFor c at.there at.whole m (reply c.cut (seen_by s at.there) m y) (reply c.plan w m y)) (seen_whole c s at.there at.whole run.stands) here)

stands_next : (c : Cut) (count : ℕ) (words : ℕ → Word) (at : Moment) (x : WordEvent) (h : List WordEvent) → Plant c count words → IsRun c count words at (x ∷ h)
    → StandsFor c (next_moment c words at x).there (next_moment c words at x).whole
stands_next c count words at x h k run = by (is_inner c (call_of words x)) refl
  where
    s : State
    s = at.states x.word

    m : ℕ
    m = x.event.machine

    y : Call
    y = call_of words x

    a : Answer
    a = answer_out (words x.word).group x.event.answer

    given : Cuts c (seen_by s at.there) at.whole.full
    given = seen_cuts c count words k.is k.large k.laid_out at.states s at.there at.whole run.words_are_whole run.stands

    same : reply c.cut (seen_by s at.there) m y ≡ a
    same = answer_is c count words at x h k run

    there : left_by a c.cut (seen_by s at.there) m y ≡ left c.cut (seen_by s at.there) m y
    there = ap (λ b. left_by b c.cut (seen_by s at.there) m y) (sym same)

    by : (b : Bool) → is_inner c y ≡ b → StandsFor c (left c.cut (seen_by s at.there) m y) (if b then at.whole else left_by a c.plan (seen_by s at.whole) m y)
    by true inner =
        let n = inner_stands c (seen_by s at.there) at.whole.full given m y inner a same (λ d. seen_turn c s at.there at.whole y (run.in_turn.0 (out_done (words x.word).group x.event.answer d))) in
        subst (λ w. StandsFor c w at.whole) there
        (record { zones = n.zones ∙ run.stands.zones; there_long = n.there_long; whole_long = n.whole_long; uncut = n.uncut; full = n.full; one_open = n.one_open; lent = n.lent; one_lent = n.one_lent })
    by false outer =
        let n = outer_stands c (seen_by s at.there) at.whole.full given m y outer a same in
        subst (λ w. StandsFor c w (left_by a c.plan (seen_by s at.whole) m y)) there
        (subst (λ w. StandsFor c (left_by a c.cut (seen_by s at.there) m y) (left_by a c.plan w m y)) (seen_whole c s at.there at.whole run.stands) n)

pub run_next : (c : Cut) (count : ℕ) (words : ℕ → Word) (at : Moment) (x : WordEvent) (h : List WordEvent) → Plant c count words → IsRun c count words at (x ∷ h) → IsRun c count words (next_moment c words at x) h
run_next c count words at x h k run =
    let u = (words x.word).table in
    let s = at.states x.word in
    let l = run.calls.0.0 in
    let own = subst (IsLegal u s) (events_here x h) (run.legal x.word l) in
    record {
      words_are_whole = stays_whole c.cut count words at.states at.there x k.laid_out run.words_are_whole l run.calls.0.1;
      stands = stands_next c count words at x h k run;
      calls = run.calls.1;
      legal = put_each (λ n y. n < count → IsLegal (words n).table y (events_of h n)) at.states x.word (next u s x.event.machine x.event.call)
          (λ _. own.1)
          (λ n ne below. subst (IsLegal (words n).table (at.states n)) (events_elsewhere x h n ne) (run.legal n below));
      in_turn = run.in_turn.1;
    }

pub words_are_plan : (c : Cut) (count : ℕ) (words : ℕ → Word) → Plant c count words → WordsArePlan c count words
words_are_plan c count words k at [] run = tt
words_are_plan c count words k at (x ∷ h) run = (legal_now c count words at x h k run, words_are_plan c count words k (next_moment c words at x) h (run_next c count words at x h k run))

-- ---- after a history

pub run_last : (c : Cut) (count : ℕ) (words : ℕ → Word) → Plant c count words → (at : Moment) (h : List WordEvent) → IsRun c count words at h → IsRun c count words (last_moment c words at h) []
run_last c count words k at [] run = run
run_last c count words k at (x ∷ h) run = run_last c count words k (next_moment c words at x) h (run_next c count words at x h k run)

pub last_states : (c : Cut) (words : ℕ → Word) (at : Moment) (h : List WordEvent) (n : ℕ) → (last_moment c words at h).states n ≡ after (words n).table (at.states n) (events_of h n)
last_states c words at [] n = refl
last_states c words at (x ∷ h) n =
    last_states c words (next_moment c words at x) h n
    ∙ put_each (λ k y. after (words k).table y (events_of h k) ≡ after (words k).table (at.states k) (events_of (x ∷ h) k)) at.states x.word (next (words x.word).table (at.states x.word) x.event.machine x.event.call)
    (sym (ap (after (words x.word).table (at.states x.word)) (events_here x h)))
    (λ k ne. sym (ap (after (words k).table (at.states k)) (events_elsewhere x h k ne))) n

-- a place on its word is as in the cut plan
from_word : (c : Cut) (count : ℕ) (words : ℕ → Word) (at : Moment) (h : List WordEvent) → IsRun c count words (last_moment c words at h) [] → (q : ℕ) → IsFullOnWord c count words at h q → is_full (last_moment c words at h).there q ≡ true
from_word c count words at h run q on =
    let there = (last_moment c words at h).there in
    sym (ap (is_full there) on.out) ∙ (run.words_are_whole.is_in on.word on.is_word).place on.place on.is_place
    ∙ (ap (λ (s : State). is_full s on.place) (last_states c words at h on.word) ∙ on.full)

to_word : (c : Cut) (count : ℕ) (words : ℕ → Word) → Plant c count words → (at : Moment) (h : List WordEvent) → IsRun c count words (last_moment c words at h) [] → (p : ℕ) → p < place_count c.cut
    → is_full (last_moment c words at h).there p ≡ true → IsFullOnWord c count words at h p
to_word c count words k at h run p l full =
    let at_word = k.laid_out.place_somewhere p l in
    let n = at_word.0 in
    let j = at_word.2.0 in
    record {
      word = n;
      place = j;
      is_word = at_word.1;
      is_place = at_word.2.1;
      out = at_word.2.2;
      full = sym (ap (λ (s : State). is_full s j) (last_states c words at h n)) ∙ (sym ((run.words_are_whole.is_in n at_word.1).place j at_word.2.1) ∙ (ap (is_full (last_moment c words at h).there) at_word.2.2 ∙ full));
    }

pub plates_are_lent : (c : Cut) (count : ℕ) (words : ℕ → Word) → Plant c count words → PlatesAreLentInTurn c count words
plates_are_lent c count words k at h run =
    let last = run_last c count words k at h run in
    let n = last.stands in
    let shut : (e p : ℕ) → IsEntry c e p → is_full (last_moment c words at h).whole p ≡ true → IsFullOnWord c count words at h e = λ e p entry full.
    to_word c count words k at h last e (subst (λ y. e < y) (sym k.is.places) entry.1) (n.full e p entry full) in
    record {
      while_full = λ q e p exit entry on. shut e p entry (n.lent q p exit (from_word c count words at h last q on));
      to_one = λ q r p one two on also. n.one_lent q r p one two (from_word c count words at h last q on) (from_word c count words at h last r also);
      has = λ q p exit on. n.lent q p exit (from_word c count words at h last q on);
      shut = shut;
    }
