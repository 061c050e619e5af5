-- Plates of the plan are counted, whatever is lent and freed.
use Rattle.std.proofs.Common.{◌≡◌, ◌≢◌, ℕ, zero, suc, ◌+◌, ◌<◌, inl, inr, Bool, true, false, ◌&&◌, ◌||◌, not, List, [], ◌∷◌, length, map, get_or, set, Option, Some, None, option_map, refl, sym, subst, ap, ◌∙◌, arith, if◌then◌else◌}
use Rattle.std.specs.List.{range_with_len}
use Rattle.std.proofs.lemmas.Bool.{false_from_ne_true, cases_lt}
use Rattle.std.proofs.lemmas.List.{get_or_past}
use Rattle.std.proofs.lemmas.List.FromFn.{get_or-map-range_with_len}
use Rattle.plan_types.specs.declared.call.Call.{Call}
use Rattle.plan_types.specs.declared.call.Call.TheVariants.{Claim, Give, Yield, Take, Release, SetPose, Inquire, Stop, Resume, Advance}
use Rattle.plan_types.specs.declared.answer.Refusal.{Refusal}
use Rattle.plan_types.specs.declared.answer.Answer.{Answer}
use Rattle.plan_types.specs.declared.answer.Answer.TheVariants.{Done, Shown, Refused}
use Rattle.plan_types.specs.Below.{sum_below}
use Rattle.plan_types.specs.Table.{PlanTable, zone_count, place_count, transfer_of}
use Rattle.plan_rules.specs.declared.state.ZoneState.{ZoneState}
use Rattle.plan_rules.specs.declared.state.State.{State}
use Rattle.plan_rules.specs.State.{zone_at, posture_at, is_full, one_if, plates_for, plates_of, free_zone}
use Rattle.plan_rules.specs.Reply.{reply, refusal, accepted, answer_by, other_party, handed, posed, emptied, filled}
use Rattle.plan_rules.specs.DoneLaws.{HasGift}
use Rattle.plan_rules.specs.History.{is_done, is_done_answer, fills, empties}
use Rattle.plan_rules.proofs.lemmas.Puts.{nat_eq-self, nat_eq-apart}
use Rattle.plan_rules.proofs.lemmas.Spaces.{clear_zone}
use Rattle.plan_rules.proofs.lemmas.Below.{sum_below_same, sum_below_changed}
use Rattle.plan_rules.proofs.lemmas.Plates.{zones_put, places_put, no_plates}
use Rattle.plan_rules.proofs.lemmas.DoneCalls.{give_done, take_done, advance_done}
use Rattle.plan_words.specs.Group.{Group}
use Rattle.plan_words.specs.Groups.{IsLargePlan}
use Rattle.plan_words.specs.Words.{answer_out, seen_by}
use Rattle.plan_words.proofs.States.{owner_long}
use Rattle.plan_words.specs.Run.{left_by, owner_left, Word, WordEvent}
use Rattle.plan_words.specs.Cut.{Cut, place_of, is_inner, StandsFor}
use Rattle.plan_words.specs.CutRun.{Moment, call_of, whole_left, next_moment, last_moment, IsRun, come_in, go_out, shut, GivesAreThePlans, PlatesOfWordsAreCounted}
use Rattle.plan_words.proofs.CutComing.{Comes, all_come}
use Rattle.plan_words.proofs.CutAnswers.{entry_of_itself, counts, transfers, whole_transfer, some_given, large_leads}
use Rattle.plan_words.proofs.CutStates.{done_none}
use Rattle.plan_words.proofs.CutRuns.{Plant, legal_now, run_next, run_last}

-- ---- a plate on its way, in the plan

pub whole_comes : (c : Cut) (count : ℕ) (words : ℕ → Word) (at : Moment) (h : List WordEvent) → Plant c count words → IsRun c count words at h → (z : ℕ) → z < zone_count c.plan → (zone_at at.whole z).flag ≡ true → Comes c.plan at.whole z
whole_comes c count words at h k run z l flag =
    let same : zone_at at.there z ≡ zone_at at.whole z = ap (λ zs. get_or zs z free_zone) run.stands.zones in
    let here = all_come c.cut count words k.laid_out at.states at.there run.words_are_whole z (subst (λ n. z < n) (sym (counts c k.is)) l) (ap (λ (v : ZoneState). v.flag) same ∙ flag) in
    let way = whole_transfer c here.way in
    let entry = k.is.ends z (posture_at at.there z) here.way (subst (λ n. z < n) (sym (counts c k.is)) l) here.is in
    record {
      way = way;
      is = ap (λ (v : ZoneState). transfer_of c.plan z v.posture) (sym same) ∙ (transfers c k.is z (posture_at at.there z) ∙ ap (option_map (whole_transfer c)) here.is);
      owner = ap (λ (v : ZoneState). v.owner) (sym same) ∙ here.owner;
      empty = false_from_ne_true (is_full at.whole way.to) (λ e. let x = sym (run.stands.full here.way.to (place_of c here.way.to) entry e) ∙ here.empty in cc);
    }

-- ---- a call of a plan of any size

pub record Ready (t : PlanTable) (s : State) : Type 0 where
  pub zones : length s.zones ≡ zone_count t
  pub places : length s.full ≡ place_count t
  pub comes : (z : ℕ) → z < zone_count t → (zone_at s z).flag ≡ true → Comes t s z

zone_is : (t : PlanTable) (s : State) → Ready t s → (z : ℕ) → z < zone_count t → z < length s.zones
zone_is t s k z l = subst (λ n. z < n) (sym k.zones) l

place_is : (t : PlanTable) (s : State) → Ready t s → (p : ℕ) → p < place_count t → p < length s.full
place_is t s k p l = subst (λ n. p < n) (sym k.places) l

flags_put : (t : PlanTable) (s : State) → Ready t s → (y : ℕ) (v : ZoneState) → y < zone_count t
    → sum_below (λ z. one_if (get_or (set s.zones y v) z free_zone).flag) (zone_count t) + one_if (zone_at s y).flag ≡ sum_below (λ z. one_if (zone_at s z).flag) (zone_count t) + one_if v.flag
flags_put t s k y v l = zones_put (λ _ u. one_if u.flag) s.zones v y (zone_count t) l (zone_is t s k y l)

full_put : (t : PlanTable) (s : State) → Ready t s → (q : ℕ) (b : Bool) → q < place_count t
    → sum_below (λ z. one_if (get_or (set s.full q b) z false)) (place_count t) + one_if (is_full s q) ≡ sum_below (λ z. one_if (is_full s z)) (place_count t) + one_if b
full_put t s k q b l = places_put one_if s.full b q (place_count t) l (place_is t s k q l)

-- a space is handed over without a plate
same_flags : (t : PlanTable) (s : State) → Ready t s → (y : ℕ) (o : Option ℕ)
    → sum_below (λ z. one_if (is_full s z)) (place_count t) + sum_below (λ z. one_if (get_or (owner_left t s y o false) z free_zone).flag) (zone_count t) ≡ plates_of t s
same_flags t s k y o =
    ap (λ n. sum_below (λ z. one_if (is_full s z)) (place_count t) + n)
    (sum_below_same (λ z. one_if (zone_at s z).flag) (λ z. one_if (get_or (owner_left t s y o false) z free_zone).flag) (zone_count t)
    (λ z l. ap (λ (v : ZoneState). one_if v.flag) (get_or-map-range_with_len (handed t s y o false) 0 (length s.zones) z z free_zone (zone_is t s k z l) (omega arith))))

-- and with one, which is in the one zone
given_flag : (t : PlanTable) (s : State) (y : ℕ) (o : Option ℕ) (z : ℕ) → z ≢ y → one_if (get_or (owner_left t s y o true) z free_zone).flag ≡ one_if (zone_at s z).flag
given_flag t s y o z ne = elim (cases_lt z (length s.zones)) [
  | inl l ↦
      ap (λ (v : ZoneState). one_if v.flag) (get_or-map-range_with_len (handed t s y o true) 0 (length s.zones) z z free_zone l (omega arith))
      ∙ ap (λ b. one_if (b || (zone_at s z).flag)) (nat_eq-apart z y ne)
  | inr past ↦
      let long = owner_long t s y o true in
      ap (λ (v : ZoneState). one_if v.flag) (get_or_past (owner_left t s y o true) z free_zone (omega (arith, past, long)) ∙ sym (get_or_past s.zones z free_zone past))
]

flags_given : (t : PlanTable) (s : State) → Ready t s → (y : ℕ) (o : Option ℕ) → y < zone_count t
    → sum_below (λ z. one_if (get_or (owner_left t s y o true) z free_zone).flag) (zone_count t) + one_if (zone_at s y).flag ≡ sum_below (λ z. one_if (zone_at s z).flag) (zone_count t) + 1
flags_given t s k y o l =
    let put = sum_below_changed (λ z. one_if (zone_at s z).flag) (λ z. one_if (get_or (owner_left t s y o true) z free_zone).flag) y (zone_count t) l (given_flag t s y o) in
    let here : one_if (get_or (owner_left t s y o true) y free_zone).flag ≡ 1 =
    ap (λ (v : ZoneState). one_if v.flag) (get_or-map-range_with_len (handed t s y o true) 0 (length s.zones) y y free_zone (zone_is t s k y l) (omega arith))
    ∙ ap (λ b. one_if (b || (zone_at s y).flag)) (nat_eq-self y) in
    put ∙ ap (λ n. sum_below (λ z. one_if (zone_at s z).flag) (zone_count t) + n) here

abbrev pub Counted : PlanTable → State → ℕ → Call → Type 0
Counted t s m x = plates_of t (left_by Done t s m x) + one_if (empties s x) ≡ plates_of t s + one_if (fills s x)

never_done : {A : Type 0} (r : Option Refusal) (a : Answer) → (a ≡ Done → A) → answer_by r a ≡ Done → A
never_done None a f e = f e
never_done (Some r) a f e = cc

plates_left : (t : PlanTable) (s : State) (m : ℕ) (x : Call) → IsLargePlan t → Ready t s → reply t s m x ≡ Done → Counted t s m x
plates_left t s m (Claim y) p k e = ap (λ n. n + 0) (same_flags t s k y (Some m))
plates_left t s m (Yield y) p k e = ap (λ n. n + 0) (same_flags t s k y (Some (other_party t m y)))
plates_left t s m (Release y) p k e = ap (λ n. n + 0) (same_flags t s k y None)
plates_left t s m (Give y) p k e =
    let d = give_done t s m y (done_none _ Done e) in
    let l = d.holder.caller.there in
    let leads = large_leads t p y (posture_at s y) d.way l (some_given m (transfer_of t y (posture_at s y)) d.way d.is).0 in
    let places = ap (λ o. sum_below (λ z. one_if (get_or (emptied s.full o) z false)) (place_count t)) d.is in
    let out = full_put t s k d.way.from false leads.from in
    let in_zone = flags_given t s k y (Some (other_party t m y)) l in
    omega (arith, places, out, in_zone, ap one_if d.plate, ap one_if (clear_zone t s y d.clear y l refl))
plates_left t s m (Take y) p k e =
    let d = take_done t s m y (done_none _ Done e) in
    let l = d.holder.caller.there in
    let c = k.comes y l d.plate in
    let leads = large_leads t p y (posture_at s y) c.way l c.is in
    let places = ap (λ o. sum_below (λ z. one_if (get_or (filled s.full o) z false)) (place_count t)) c.is in
    let to_place = full_put t s k c.way.to true leads.to in
    let from_zone = flags_put t s k y (record (zone_at s y) { flag = false }) l in
    omega (arith, places, to_place, from_zone, ap one_if d.plate, ap one_if c.empty)
plates_left t s m (SetPose q) p k e =
    let same = sum_below_same (λ z. one_if (zone_at s z).flag) (λ z. one_if (get_or (map (posed t s q) (range_with_len 0 (length s.zones))) z free_zone).flag) (zone_count t)
    (λ z l. ap (λ (v : ZoneState). one_if v.flag) (get_or-map-range_with_len (posed t s q) 0 (length s.zones) z z free_zone (zone_is t s k z l) (omega arith))) in
    ap (λ n. sum_below (λ z. one_if (is_full s z)) (place_count t) + n + 0) same
plates_left t s m (Inquire y) p k e = never_done (refusal t s m (Inquire y)) (accepted s (Inquire y)) (λ x. cc) e
plates_left t s m Stop p k e = refl
plates_left t s m Resume p k e = refl
plates_left t s m (Advance q) p k e =
    let d = advance_done t s m q (done_none _ Done e) in
    let put = full_put t s k q (not (is_full s q)) d.there in
    omega (arith, put)

-- ---- one event

ready : (c : Cut) (count : ℕ) (words : ℕ → Word) (at : Moment) (h : List WordEvent) → Plant c count words → IsRun c count words at h → (s : State) → Ready c.plan (seen_by s at.whole)
ready c count words at h k run s = record {
  zones = sym (ap (λ (zs : List ZoneState). length zs) run.stands.zones) ∙ (run.words_are_whole.zones ∙ counts c k.is);
  places = run.stands.whole_long;
  comes = λ z l e. let x = whole_comes c count words at h k run z l e in record { way = x.way; is = x.is; empty = x.empty; owner = x.owner };
}

pub done_for : (c : Cut) (count : ℕ) (words : ℕ → Word) (at : Moment) (x : WordEvent) (h : List WordEvent) → Plant c count words → IsRun c count words at (x ∷ h) → is_inner c (call_of words x) ≡ false → answer_out (words x.word).group x.event.answer ≡ Done
    → reply c.plan (seen_by (at.states x.word) at.whole) x.event.machine (call_of words x) ≡ Done
done_for c count words at x h k run outer e = elim (legal_now c count words at x h k run outer) [
  | inl same ↦ sym same ∙ e
  | inr (inl (is, _)) ↦ let d = sym e ∙ is in cc
  | inr (inr (is, _)) ↦ let d = sym e ∙ is in cc
]

out_is_done : (g : Group) (a : Answer) → is_done_answer a ≡ is_done_answer (answer_out g a)
out_is_done g Done = refl
out_is_done g (Refused r) = refl
out_is_done g (Shown o f q) = refl

counted_by : (t : PlanTable) (s : State) (m : ℕ) (x : Call) (a : Answer) → (a ≡ Done → Counted t s m x) → plates_of t (left_by a t s m x) + one_if (is_done_answer a && empties s x) ≡ plates_of t s + one_if (is_done_answer a && fills s x)
counted_by t s m x Done k = k refl
counted_by t s m x (Refused r) k = refl
counted_by t s m x (Shown o f q) k = refl

seen_fills : (s w : State) (x : Call) → (fills (seen_by s w) x ≡ fills w x) × (empties (seen_by s w) x ≡ empties w x)
seen_fills s w (Advance p) = (refl, refl)
seen_fills s w (Claim z) = (refl, refl)
seen_fills s w (Give z) = (refl, refl)
seen_fills s w (Yield z) = (refl, refl)
seen_fills s w (Take z) = (refl, refl)
seen_fills s w (Release z) = (refl, refl)
seen_fills s w (SetPose z) = (refl, refl)
seen_fills s w (Inquire z) = (refl, refl)
seen_fills s w Stop = (refl, refl)
seen_fills s w Resume = (refl, refl)

event_counted : (c : Cut) (count : ℕ) (words : ℕ → Word) (at : Moment) (x : WordEvent) (h : List WordEvent) → Plant c count words → IsRun c count words at (x ∷ h)
    → plates_of c.plan (whole_left c words at x) + one_if (is_done x.event && (not (is_inner c (call_of words x)) && empties at.whole (call_of words x)))
    ≡ plates_of c.plan at.whole + one_if (is_done x.event && (not (is_inner c (call_of words x)) && fills at.whole (call_of words x)))
event_counted c count words at x h k run = by (is_inner c (call_of words x)) refl
  where
    s : State
    s = at.states x.word

    y : Call
    y = call_of words x

    a : Answer
    a = answer_out (words x.word).group x.event.answer

    seen : State
    seen = seen_by s at.whole

    none : (b : Bool) → one_if (b && false) ≡ 0
    none true = refl
    none false = refl

    by : (b : Bool) → is_inner c y ≡ b → plates_of c.plan (if b then at.whole else left_by a c.plan seen x.event.machine y) + one_if (is_done x.event && (not b && empties at.whole y))
        ≡ plates_of c.plan at.whole + one_if (is_done x.event && (not b && fills at.whole y))
    by true inner = refl
    by false outer =
        let now = counted_by c.plan seen x.event.machine y a (λ e. plates_left c.plan seen x.event.machine y k.large (ready c count words at (x ∷ h) k run s) (done_for c count words at x h k run outer e)) in
        let done = out_is_done (words x.word).group x.event.answer in
        let gone : one_if (is_done x.event && empties at.whole y) ≡ one_if (is_done_answer a && empties seen y) = ap (λ b. one_if (b && empties at.whole y)) done ∙ ap (λ b. one_if (is_done_answer a && b)) (sym (seen_fills s at.whole y).1) in
        let come : one_if (is_done x.event && fills at.whole y) ≡ one_if (is_done_answer a && fills seen y) = ap (λ b. one_if (b && fills at.whole y)) done ∙ ap (λ b. one_if (is_done_answer a && b)) (sym (seen_fills s at.whole y).0) in
        omega (arith, now, gone, come)

-- ---- a history

all_counted : (c : Cut) (count : ℕ) (words : ℕ → Word) → Plant c count words → (at : Moment) (h : List WordEvent) → IsRun c count words at h
    → plates_of c.plan (last_moment c words at h).whole + go_out c words at h ≡ plates_of c.plan at.whole + come_in c words at h
all_counted c count words k at [] run = refl
all_counted c count words k at (x ∷ h) run =
    let here = event_counted c count words at x h k run in
    let rest = all_counted c count words k (next_moment c words at x) h (run_next c count words at x h k run) in
    omega (arith, here, rest)

-- ---- the places that are full on their words

sum_both : (f g e : ℕ → ℕ) (n : ℕ) → ((i : ℕ) → i < n → f i ≡ g i + e i) → sum_below f n ≡ sum_below g n + sum_below e n
sum_both f g e zero each = refl
sum_both f g e (suc n) each =
    let rest = sum_both f g e n (λ i l. each i (omega arith)) in
    let here = each n (omega arith) in
    omega (arith, rest, here)

one_more : (a b : Bool) → (b ≡ true → a ≡ true) → one_if a ≡ one_if b + one_if (a && not b)
one_more true true k = refl
one_more true false k = refl
one_more false false k = refl
one_more false true k = let x = k refl in cc

on_words : (c : Cut) (there whole : State) → StandsFor c there whole → plates_of c.plan there ≡ plates_of c.plan whole + shut c there whole
on_words c there whole k =
    let places = sum_both (λ p. one_if (is_full there p)) (λ p. one_if (is_full whole p)) (λ p. one_if (is_full there p && not (is_full whole p))) (place_count c.plan) (λ p l. one_more (is_full there p) (is_full whole p) (k.full p p (entry_of_itself c p l))) in
    let zones = ap (λ zs. sum_below (λ z. one_if (get_or zs z free_zone).flag) (zone_count c.plan)) k.zones in
    omega (arith, places, zones)

pub plates_are_counted : (c : Cut) (count : ℕ) (words : ℕ → Word) → Plant c count words → PlatesOfWordsAreCounted c count words
plates_are_counted c count words k at h run =
    let last = last_moment c words at h in
    record { counted = all_counted c count words k at h run; on_words = on_words c last.there last.whole (run_last c count words k at h run).stands }

-- ---- a give that is done

gift : (t : PlanTable) (s w : State) (m z : ℕ) → reply t (seen_by s w) m (Give z) ≡ Done → HasGift t w m z
gift t s w m z e =
    let d = give_done t (seen_by s w) m z (done_none (refusal t (seen_by s w) m (Give z)) Done e) in
    let is = some_given m (transfer_of t z (posture_at w z)) d.way d.is in
    record { way = d.way; is = is.0; giver = is.1; plate = d.plate; room = no_plates (plates_for t w d.way.to) d.room }

pub gives_are_the_plans : (c : Cut) (count : ℕ) (words : ℕ → Word) → Plant c count words → GivesAreThePlans c count words
gives_are_the_plans c count words k at x z run call answer =
    let outer : is_inner c (call_of words x) ≡ false = ap (is_inner c) call in
    let now = done_for c count words at x [] k run outer (ap (answer_out (words x.word).group) answer) in
    gift c.plan (at.states x.word) at.whole x.event.machine z (ap (reply c.plan (seen_by (at.states x.word) at.whole) x.event.machine) (sym call) ∙ now)
