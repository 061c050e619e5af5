-- What decides a keeper's turn changes by its own calls alone; and its calls in turn are done.
use Rattle.std.proofs.Common.{◌≡◌, ◌≢◌, ℕ, zero, suc, ◌+◌, ◌<◌, Bool, true, false, ◌&&◌, ◌||◌, not, nat_eq, nat_lt, List, [], ◌∷◌, get_or, Option, Some, None, option_map, refl, sym, subst, ap, ◌∙◌, arith, if◌then◌else◌}
use Rattle.std.proofs.lemmas.Bool.{lt-ltb}
use Rattle.std.proofs.lemmas.Option.{same_Some}
use Rattle.std.proofs.lemmas.List.{get_or-set_other}
use Rattle.plan_types.specs.declared.table.Transfer.{Transfer}
use Rattle.plan_types.specs.declared.call.Call.{Call}
use Rattle.plan_types.specs.declared.call.Call.TheVariants.{Claim, Give, Yield, Take, Release, SetPose, Inquire, Stop, Resume, Advance}
use Rattle.plan_types.specs.declared.answer.Answer.{Answer}
use Rattle.plan_types.specs.declared.answer.Answer.TheVariants.{Done, Shown, Refused}
use Rattle.plan_types.specs.Below.{sum_below}
use Rattle.plan_types.specs.Table.{PlanTable, zone_count, place_count, transfer_of, keeper_of, is_source, is_sink}
use Rattle.plan_rules.specs.declared.state.ZoneState.{ZoneState}
use Rattle.plan_rules.specs.declared.state.State.{State}
use Rattle.plan_rules.specs.State.{zone_at, posture_at, is_full, one_if, leads_to, is_coming, coming, free_zone, last_stamp}
use Rattle.plan_rules.specs.Refusals.{transfer_given, is_taken}
use Rattle.plan_rules.specs.Reply.{reply, refusal, places_after, emptied, filled}
use Rattle.plan_rules.proofs.lemmas.Puts.{nat_eq-self, nat_eq-apart}
use Rattle.plan_rules.proofs.lemmas.DoneCalls.{give_done, take_done, advance_done}
use Rattle.plan_words.specs.Words.{answer_out, seen_by}
use Rattle.plan_words.specs.Run.{left, left_by, Word, WordEvent}
use Rattle.plan_words.specs.Cut.{Cut, place_of, IsExit, IsEntry, IsCut, is_inner}
use Rattle.plan_words.specs.CutRun.{Moment, call_of, IsRun, TurnsAreTheKeepers, TurnsAreDone}
use Rattle.plan_words.proofs.CutAnswers.{counts, transfers, whole_transfer, cut_leads, large_leads, itself, some_given, given_same, uncut_by}
use Rattle.plan_words.proofs.CutStates.{done_none, exit_no_entry}
use Rattle.plan_words.proofs.CutRuns.{Plant, answer_is, seen_whole}
use Rattle.plan_words.proofs.CutPlates.{whole_comes}

-- ---- places that are another keeper's

-- a call of a machine leaves a place, or a part, that it doesn't keep
left_alone : (c : Cut) (count : ℕ) (words : ℕ → Word) (at : Moment) (x : WordEvent) (h : List WordEvent) → Plant c count words → IsRun c count words at (x ∷ h) → (m : ℕ) (y : Call) (r : ℕ) → keeper_of c.plan (place_of c r) ≢ m
    → reply c.cut (seen_by (at.states x.word) at.there) m y ≡ Done → get_or (places_after c.cut (seen_by (at.states x.word) at.there) m y) r false ≡ is_full at.there r
left_alone c count words at x h k run m (Give z) r ne e =
    let s = seen_by (at.states x.word) at.there in
    let d = give_done c.cut s m z (done_none (refusal c.cut s m (Give z)) Done e) in
    let is = some_given m (transfer_of c.cut z (posture_at s z)) d.way d.is in
    let leads = cut_leads c k.is k.large z (posture_at s z) d.way d.holder.caller.there is.0 in
    ap (λ w. get_or (emptied s.full w) r false) d.is ∙ get_or-set_other s.full d.way.from r false false (λ same. ne (ap (λ q. keeper_of c.plan (place_of c q)) same ∙ (leads.from_giver ∙ is.1)))
left_alone c count words at x h k run m (Take z) r ne e =
    let s = seen_by (at.states x.word) at.there in
    let d = take_done c.cut s m z (done_none (refusal c.cut s m (Take z)) Done e) in
    let l = subst (λ n. z < n) (counts c k.is) d.holder.caller.there in
    let same : zone_at at.there z ≡ zone_at at.whole z = ap (λ zs. get_or zs z free_zone) run.stands.zones in
    let comes = whole_comes c count words at (x ∷ h) k run z l (sym (ap (λ (v : ZoneState). v.flag) same) ∙ d.plate) in
    let leads = large_leads c.plan k.large z (posture_at at.whole z) comes.way l comes.is in
    let taker : comes.way.receiver ≡ m = same_Some comes.way.receiver m (sym comes.owner ∙ (sym (ap (λ (v : ZoneState). v.owner) same) ∙ d.holder.owner)) in
    by (transfer_of c.cut z (posture_at s z)) (transfers c k.is z (posture_at s z)) (ap (λ (v : ZoneState). transfer_of c.plan z v.posture) same ∙ comes.is) (leads.to_receiver ∙ taker)
  where
    by : {way : Transfer} (w : Option Transfer) → transfer_of c.plan z (posture_at at.there z) ≡ option_map (whole_transfer c) w → transfer_of c.plan z (posture_at at.there z) ≡ Some way → keeper_of c.plan way.to ≡ m
        → get_or (filled at.there.full w) r false ≡ is_full at.there r
    by None f g keeps = refl
    by {way} (Some v) f g keeps =
        let to : place_of c v.to ≡ way.to = ap (λ (a : Transfer). a.to) (same_Some (whole_transfer c v) way (sym f ∙ g)) in
        get_or-set_other at.there.full v.to r true false (λ same. ne (ap (λ q. keeper_of c.plan (place_of c q)) same ∙ (ap (keeper_of c.plan) to ∙ keeps)))
left_alone c count words at x h k run m (Advance q) r ne e =
    let s = seen_by (at.states x.word) at.there in
    let d = advance_done c.cut s m q (done_none (refusal c.cut s m (Advance q)) Done e) in
    get_or-set_other s.full q r (not (is_full s q)) false (λ same. ne (ap (λ y. keeper_of c.plan (place_of c y)) same ∙ (sym (k.is.keeper q d.there) ∙ d.keeper)))
left_alone c count words at x h k run m (Claim z) r ne e = refl
left_alone c count words at x h k run m (Yield z) r ne e = refl
left_alone c count words at x h k run m (Release z) r ne e = refl
left_alone c count words at x h k run m (SetPose z) r ne e = refl
left_alone c count words at x h k run m (Inquire z) r ne e = refl
left_alone c count words at x h k run m Stop r ne e = refl
left_alone c count words at x h k run m Resume r ne e = refl

-- and so of the plan
whole_alone : (c : Cut) (count : ℕ) (words : ℕ → Word) (at : Moment) (x : WordEvent) (h : List WordEvent) → Plant c count words → IsRun c count words at (x ∷ h) → (m : ℕ) (y : Call) (p : ℕ) → p < place_count c.plan → keeper_of c.plan p ≢ m
    → is_inner c y ≡ false → reply c.cut (seen_by (at.states x.word) at.there) m y ≡ Done → get_or (places_after c.plan (seen_by (at.states x.word) at.whole) m y) p false ≡ is_full at.whole p
whole_alone c count words at x h k run m (Give z) p l ne outer e =
    let s = seen_by (at.states x.word) at.there in
    let d = give_done c.cut s m z (done_none (refusal c.cut s m (Give z)) Done e) in
    let is = some_given m (transfer_of c.cut z (posture_at s z)) d.way d.is in
    let leads = cut_leads c k.is k.large z (posture_at s z) d.way d.holder.caller.there is.0 in
    let there : transfer_given c.plan (seen_by (at.states x.word) at.whole) m z ≡ Some (whole_transfer c d.way) =
    ap (λ w. transfer_given c.plan w m z) (sym (seen_whole c (at.states x.word) at.there at.whole run.stands)) ∙ (given_same c k.is s at.whole.full m z ∙ ap (option_map (whole_transfer c)) d.is) in
    ap (λ w. get_or (emptied at.whole.full w) p false) there ∙ get_or-set_other at.whole.full (place_of c d.way.from) p false false (λ same. ne (ap (keeper_of c.plan) same ∙ (leads.from_giver ∙ is.1)))
whole_alone c count words at x h k run m (Take z) p l ne outer e =
    let s = seen_by (at.states x.word) at.there in
    let d = take_done c.cut s m z (done_none (refusal c.cut s m (Take z)) Done e) in
    let in_plan = subst (λ n. z < n) (counts c k.is) d.holder.caller.there in
    let same : zone_at at.there z ≡ zone_at at.whole z = ap (λ zs. get_or zs z free_zone) run.stands.zones in
    let comes = whole_comes c count words at (x ∷ h) k run z in_plan (sym (ap (λ (v : ZoneState). v.flag) same) ∙ d.plate) in
    let leads = large_leads c.plan k.large z (posture_at at.whole z) comes.way in_plan comes.is in
    let taker : comes.way.receiver ≡ m = same_Some comes.way.receiver m (sym comes.owner ∙ (sym (ap (λ (v : ZoneState). v.owner) same) ∙ d.holder.owner)) in
    ap (λ w. get_or (filled at.whole.full w) p false) comes.is ∙ get_or-set_other at.whole.full comes.way.to p true false (λ s. ne (ap (keeper_of c.plan) s ∙ (leads.to_receiver ∙ taker)))
whole_alone c count words at x h k run m (Advance q) p l ne outer e =
    let s = seen_by (at.states x.word) at.there in
    let d = advance_done c.cut s m q (done_none (refusal c.cut s m (Advance q)) Done e) in
    let u = uncut_by c q outer in
    get_or-set_other at.whole.full q p (not (is_full at.whole q)) false (λ same. ne (ap (keeper_of c.plan) (same ∙ sym (itself c q u.0)) ∙ (sym (k.is.keeper q d.there) ∙ d.keeper)))
whole_alone c count words at x h k run m (Claim z) p l ne outer e = refl
whole_alone c count words at x h k run m (Yield z) p l ne outer e = refl
whole_alone c count words at x h k run m (Release z) p l ne outer e = refl
whole_alone c count words at x h k run m (SetPose z) p l ne outer e = refl
whole_alone c count words at x h k run m (Inquire z) p l ne outer e = refl
whole_alone c count words at x h k run m Stop p l ne outer e = refl
whole_alone c count words at x h k run m Resume p l ne outer e = refl

after_by : (t : PlanTable) (s : State) (m : ℕ) (y : Call) (r : ℕ) (a : Answer) → (a ≡ Done → get_or (places_after t s m y) r false ≡ is_full s r) → is_full (left_by a t s m y) r ≡ is_full s r
after_by t s m y r Done k = k refl
after_by t s m y r (Refused x) k = refl
after_by t s m y r (Shown o f q) k = refl

pub turns_are_the_keepers : (c : Cut) (count : ℕ) (words : ℕ → Word) → Plant c count words → TurnsAreTheKeepers c count words
turns_are_the_keepers c count words k at x p run l ne =
    let s = seen_by (at.states x.word) at.there in
    let m = x.event.machine in
    let y = call_of words x in
    let there : (r : ℕ) → place_of c r ≡ p → is_full (left c.cut s m y) r ≡ is_full at.there r = λ r e.
    after_by c.cut s m y r (reply c.cut s m y) (left_alone c count words at x [] k run m y r (λ own. ne (sym (ap (keeper_of c.plan) e) ∙ own))) in
    (by (is_inner c y) refl, there)
  where
    by : (b : Bool) → is_inner c (call_of words x) ≡ b
        → is_full (if b then at.whole else left_by (answer_out (words x.word).group x.event.answer) c.plan (seen_by (at.states x.word) at.whole) x.event.machine (call_of words x)) p ≡ is_full at.whole p
    by true inner = refl
    by false outer =
        after_by c.plan (seen_by (at.states x.word) at.whole) x.event.machine (call_of words x) p (answer_out (words x.word).group x.event.answer) (λ d.
        whole_alone c count words at x [] k run x.event.machine (call_of words x) p l ne outer (answer_is c count words at x [] k run ∙ d))

-- ---- calls in turn

no_sum : (f : ℕ → ℕ) (n : ℕ) → ((i : ℕ) → i < n → f i ≡ 0) → sum_below f n ≡ 0
no_sum f zero each = refl
no_sum f (suc n) each =
    let rest = no_sum f n (λ i l. each i (omega arith)) in
    let here = each n (omega arith) in
    omega (arith, rest, here)

-- nothing comes to an exit
none_leads : (c : Cut) (q p : ℕ) (w : Option Transfer) → IsExit c q p → ((way : Transfer) → w ≡ Some way → IsEntry c way.to (place_of c way.to)) → leads_to w q ≡ false
none_leads c q p None exit entry = refl
none_leads c q p (Some way) exit entry = nat_eq-apart way.to q (exit_no_entry c q way.to p (place_of c way.to) exit (entry way refl))

and_false : (a b : Bool) → b ≡ false → (a && b) ≡ false
and_false true b e = e
and_false false b e = refl

none_coming : (c : Cut) → IsCut c → (s : State) (q p : ℕ) → IsExit c q p → coming c.cut s q ≡ 0
none_coming c k s q p exit =
    no_sum (λ z. one_if (is_coming c.cut (zone_at s z) q z)) (zone_count c.cut)
    (λ z l. ap one_if (and_false (zone_at s z).flag (leads_to (transfer_of c.cut z (posture_at s z)) q) (none_leads c q p (transfer_of c.cut z (posture_at s z)) exit (λ way is. k.ends z (posture_at s z) way l is))))

and_or_none : (a b : Bool) → b ≡ true → (a && not b) ≡ false
and_or_none true b e = ap not e
and_or_none false b e = refl

or_true : (a b : Bool) → b ≡ true → (a || b) ≡ true
or_true true b e = refl
or_true false b e = e

keeps_it : (c : Cut) → IsCut c → (q p : ℕ) → q < place_count c.cut → place_of c q ≡ p → nat_eq (keeper_of c.cut q) (keeper_of c.plan p) ≡ true
keeps_it c k q p l e = ap (λ n. nat_eq n (keeper_of c.plan p)) (k.keeper q l ∙ ap (keeper_of c.plan) e) ∙ nat_eq-self (keeper_of c.plan p)

pub exit_there : (c : Cut) → IsCut c → (q p : ℕ) → IsExit c q p → q < place_count c.cut
exit_there c k q p exit = let below = exit.1 in let more = k.places in omega (arith, below, more)

pub entry_there : (c : Cut) → IsCut c → (q p : ℕ) → IsEntry c q p → q < place_count c.cut
entry_there c k q p entry = subst (λ n. q < n) (sym k.places) entry.1

pub turns_are_done : (c : Cut) → IsCut c → TurnsAreDone c
turns_are_done c k = record {
  lends = λ s there whole q p exit may runs fresh.
      let w = seen_by s there in
      let l = exit_there c k q p exit in
      let below : nat_lt q (place_count c.cut) ≡ true = lt-ltb q (place_count c.cut) l in
      let keeps = keeps_it c k q p l exit.2 in
      let source = k.exit q p exit in
      let empty : is_taken c.cut w q ≡ false = ap (λ b. nat_lt 0 (one_if b + coming c.cut w q)) (may.lent_nowhere q exit) ∙ ap (λ n. nat_lt 0 (one_if false + n)) (none_coming c k w q p exit) in
      let stamp : nat_lt s.stamp last_stamp ≡ true = lt-ltb s.stamp last_stamp fresh in
      rw (below, keeps, source, empty, runs, stamp) refl;
  opens = λ s there q p entry cut full runs fresh.
      let w = seen_by s there in
      let l = entry_there c k q p entry in
      let below : nat_lt q (place_count c.cut) ≡ true = lt-ltb q (place_count c.cut) l in
      let keeps = keeps_it c k q p l entry.2 in
      let sink = k.entry q p entry cut in
      let ends : (is_source c.cut q || is_sink c.cut q) ≡ true = or_true (is_source c.cut q) (is_sink c.cut q) sink in
      let room : (is_source c.cut q && (is_taken c.cut w q && not (is_sink c.cut q && is_full there q))) ≡ false =
      and_false (is_source c.cut q) _ (and_or_none (is_taken c.cut w q) (is_sink c.cut q && is_full there q) (ap (λ b. b && is_full there q) sink ∙ full)) in
      let plate : (not (is_source c.cut q) && not (is_full there q)) ≡ false = and_or_none (not (is_source c.cut q)) (is_full there q) full in
      let stamp : nat_lt s.stamp last_stamp ≡ true = lt-ltb s.stamp last_stamp fresh in
      rw (below, keeps, ends, room, plate, runs, stamp) refl;
  shuts = λ s there q p entry several none runs fresh.
      let w = seen_by s there in
      let l = entry_there c k q p entry in
      let below : nat_lt q (place_count c.cut) ≡ true = lt-ltb q (place_count c.cut) l in
      let keeps = keeps_it c k q p l entry.2 in
      let source = k.several q p entry several in
      let empty : is_taken c.cut w q ≡ false = ap (nat_lt 0) none in
      let stamp : nat_lt s.stamp last_stamp ≡ true = lt-ltb s.stamp last_stamp fresh in
      rw (below, keeps, source, empty, runs, stamp) refl;
}
