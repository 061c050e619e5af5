-- The states that calls of a cut plan leave stand for those of the plan.
use Rattle.std.proofs.Common.{◌≡◌, ◌≢◌, ℕ, ◌+◌, ◌<◌, ◌⊎◌, inl, inr, Bool, true, false, ◌&&◌, ◌||◌, not, nat_eq, nat_le, List, [], ◌∷◌, length, map, get_or, set, Option, Some, None, option_map, refl, sym, subst, ap, ◌∙◌, arith, if◌then◌else◌}
use Rattle.std.specs.List.{range_with_len}
use Rattle.std.proofs.lemmas.Bool.{leb-true, cases_lt, false_from_ne_true}
use Rattle.std.proofs.lemmas.List.{get_or-set_same, get_or-set_other, length-set}
use Rattle.plan_types.specs.declared.table.Transfer.{Transfer}
use Rattle.plan_types.specs.declared.call.Call.{Call}
use Rattle.plan_types.specs.declared.call.Call.TheVariants.{Claim, Give, Yield, Take, Release, SetPose, Inquire, Stop, Resume, Advance}
use Rattle.plan_types.specs.declared.answer.Refusal.{Refusal}
use Rattle.plan_types.specs.declared.answer.Answer.{Answer}
use Rattle.plan_types.specs.declared.answer.Answer.TheVariants.{Done, Shown, Refused}
use Rattle.plan_types.specs.Table.{zone_count, place_count, host_of, guest_of, transfer_of}
use Rattle.plan_rules.specs.declared.state.State.{State}
use Rattle.plan_rules.specs.State.{is_full, zone_at, posture_at}
use Rattle.plan_rules.specs.Refusals.{transfer_given}
use Rattle.plan_rules.specs.Reply.{reply, refusal, answer_by, other_party, handed, posed, places_after, emptied, filled}
use Rattle.plan_rules.proofs.lemmas.Puts.{same_or_not}
use Rattle.plan_rules.proofs.lemmas.DoneCalls.{give_done, take_done, advance_done}
use Rattle.plan_words.specs.Run.{owner_left, zones_left, left_by}
use Rattle.plan_words.proofs.States.{handed_by}
use Rattle.plan_words.specs.Cut.{Cut, is_cut, place_of, exits_end, IsExit, IsEntry, IsCut, StandsFor, IsInTurn, is_inner}
use Rattle.plan_words.proofs.CutAnswers.{Cuts, with_full, posed_by, hosts, guests, transfers, whole_transfer, cut_leads, itself, owner_cut, exit_cut, entry_uncut, exit_or_uncut, given_same, some_given, uncut_by, same_spaces}

-- ---- how full places are, as lists

pub record Stands (c : Cut) (a f : List Bool) : Type 0 where
  pub there_long : length a ≡ exits_end c + length c.entries
  pub whole_long : length f ≡ place_count c.plan
  pub uncut : (p : ℕ) → p < place_count c.plan → is_cut c p ≡ false → get_or a p false ≡ get_or f p false
  pub full : (e p : ℕ) → IsEntry c e p → get_or f p false ≡ true → get_or a e false ≡ true
  pub one_open : (e g p : ℕ) → is_cut c p ≡ true → IsEntry c e p → IsEntry c g p → get_or a e false ≡ false → get_or a g false ≡ false → e ≡ g
  pub lent : (q p : ℕ) → IsExit c q p → get_or a q false ≡ true → get_or f p false ≡ true
  pub one_lent : (q r p : ℕ) → IsExit c q p → IsExit c r p → get_or a q false ≡ true → get_or a r false ≡ true → q ≡ r

pub as_lists : (c : Cut) (s w : State) → StandsFor c s w → Stands c s.full w.full
as_lists c s w k = record { there_long = k.there_long; whole_long = k.whole_long; uncut = k.uncut; full = k.full; one_open = k.one_open; lent = k.lent; one_lent = k.one_lent }

pub as_states : (c : Cut) (s w : State) → s.zones ≡ w.zones → Stands c s.full w.full → StandsFor c s w
as_states c s w e k = record { zones = e; there_long = k.there_long; whole_long = k.whole_long; uncut = k.uncut; full = k.full; one_open = k.one_open; lent = k.lent; one_lent = k.one_lent }

-- what was full still, after a place is emptied; and what was empty still, after one is filled
still_full : (xs : List Bool) (i j : ℕ) → i < length xs → get_or (set xs i false) j false ≡ true → (j ≢ i) × (get_or xs j false ≡ true)
still_full xs i j l e = elim (same_or_not j i) [
  | inl s ↦ let h = sym (get_or-set_same xs i false false l) ∙ (ap (λ n. get_or (set xs i false) n false) (sym s) ∙ e) in cc
  | inr ne ↦ (ne, sym (get_or-set_other xs i j false false ne) ∙ e)
]

still_empty : (xs : List Bool) (i j : ℕ) → i < length xs → get_or (set xs i true) j false ≡ false → (j ≢ i) × (get_or xs j false ≡ false)
still_empty xs i j l e = elim (same_or_not j i) [
  | inl s ↦ let h = sym (get_or-set_same xs i true false l) ∙ (ap (λ n. get_or (set xs i true) n false) (sym s) ∙ e) in cc
  | inr ne ↦ (ne, sym (get_or-set_other xs i j true false ne) ∙ e)
]

off : (xs : List Bool) (i j : ℕ) (v b : Bool) → j ≢ i → get_or xs j false ≡ b → get_or (set xs i v) j false ≡ b
off xs i j v b ne e = get_or-set_other xs i j v false ne ∙ e

on : (xs : List Bool) (i j : ℕ) (v : Bool) → i < length xs → j ≡ i → get_or (set xs i v) j false ≡ v
on xs i j v l s = ap (λ y. get_or (set xs i v) y false) s ∙ get_or-set_same xs i v false l

back : (xs : List Bool) (i j : ℕ) (v b : Bool) → j ≢ i → get_or (set xs i v) j false ≡ b → get_or xs j false ≡ b
back xs i j v b ne e = sym (get_or-set_other xs i j v false ne) ∙ e

-- an exit is no entry
pub exit_no_entry : (c : Cut) (q e p r : ℕ) → IsExit c q p → IsEntry c e r → e ≢ q
exit_no_entry c q e p r exit entry s =
    let above = exit.0 in
    let below = exit.1 in
    elim entry.0 [ inl l ↦ absurd (omega (arith, s, l, above)) | inr m ↦ absurd (omega (arith, s, m, below)) ]

exit_no_place : (c : Cut) (q p x : ℕ) → IsExit c q p → x < place_count c.plan → x ≢ q
exit_no_place c q p x exit l s = let above = exit.0 in absurd (omega (arith, s, l, above))

cut_apart : (c : Cut) (p x : ℕ) → is_cut c p ≡ true → is_cut c x ≡ false → x ≢ p
cut_apart c p x cut uncut s = let h = sym cut ∙ (ap (is_cut c) (sym s) ∙ uncut) in cc

-- a plate leaves a place, or an exit of it
not_false : (b : Bool) → (b ≡ false → ⊥) → b ≡ true
not_false true f = refl
not_false false f = absurd (f refl)

give_places : (c : Cut) (a f : List Bool) → Stands c a f → (q : ℕ) → q < exits_end c → (q < place_count c.plan → is_cut c q ≡ false) → place_of c q < place_count c.plan → get_or a q false ≡ true
    → Stands c (set a q false) (set f (place_of c q) false)
give_places c a f n q l uncut below full =
    let long = n.there_long in
    let here : q < length a = omega (arith, l, long) in
    let whole = n.whole_long in
    let there : place_of c q < length f = omega (arith, below, whole) in
    let own = exit_or_uncut c q l in
    record {
      there_long = length-set a q false ∙ n.there_long;
      whole_long = length-set f (place_of c q) false ∙ n.whole_long;
      uncut = λ p m e. elim (same_or_not p q) [
        | inl s ↦ on a q p false here s ∙ sym (on f (place_of c q) p false there (s ∙ sym (itself c q (subst (λ y. y < place_count c.plan) s m))))
        | inr ne ↦ off a q p false _ ne (n.uncut p m e ∙ sym (get_or-set_other f (place_of c q) p false false (λ s. elim own [ inl x ↦ ne (s ∙ itself c q x) | inr exit ↦ cut_apart c (place_of c q) p (exit_cut c q (place_of c q) exit) e s ])))
      ];
      full = λ e p entry g.
          let h = still_full f (place_of c q) p there g in
          off a q e false true (λ s. h.0 (sym entry.2 ∙ ap (place_of c) s)) (n.full e p entry h.1);
      one_open = λ e g p cut one two x y.
          let not_own : (i : ℕ) → IsEntry c i p → i ≢ q = λ i entry s. elim own [
            | inl m ↦ cut_apart c p q cut (uncut m) (sym (itself c q m) ∙ (ap (place_of c) (sym s) ∙ entry.2))
            | inr exit ↦ exit_no_entry c q i (place_of c q) p exit entry s
          ] in
          n.one_open e g p cut one two (back a q e false false (not_own e one) x) (back a q g false false (not_own g two) y);
      lent = λ r p exit e.
          let h = still_full a q r here e in
          off f (place_of c q) p false true (λ s. elim own [
            | inl x ↦ cut_apart c p q (exit_cut c r p exit) (uncut x) (sym (itself c q x) ∙ sym s)
            | inr own_exit ↦ h.0 (n.one_lent r q p exit (own_exit.0, own_exit.1, sym s) h.1 full)
          ]) (n.lent r p exit h.1);
      one_lent = λ r v p one two e g. n.one_lent r v p one two (still_full a q r here e).1 (still_full a q v here g).1;
    }

-- a plate comes to an entry, which was open
take_places : (c : Cut) (a f : List Bool) → Stands c a f → (e p : ℕ) → p < place_count c.plan → IsEntry c e p → get_or a e false ≡ false → Stands c (set a e true) (set f p true)
take_places c a f n e p l entry empty =
    let long = n.there_long in
    let within = entry.1 in
    let here : e < length a = omega (arith, within, long) in
    let whole = n.whole_long in
    let there : p < length f = omega (arith, l, whole) in
    let by_cut : (b : Bool) → is_cut c p ≡ b → (x : ℕ) → IsEntry c x p → x ≢ e → get_or a x false ≡ true = λ b is x other ne.
    not_false (get_or a x false) (λ y. elim b as (λ d. is_cut c p ≡ d → ⊥) [ true ↦ λ cut. ne (n.one_open x e p cut other entry y empty) | false ↦ λ un. ne (entry_uncut c x p other un ∙ sym (entry_uncut c e p entry un)) ] is) in
    record {
      there_long = length-set a e true ∙ n.there_long;
      whole_long = length-set f p true ∙ n.whole_long;
      uncut = λ x m un. elim (same_or_not x e) [
        | inl s ↦ on a e x true here s ∙ sym (on f p x true there (sym (itself c x m) ∙ (ap (place_of c) s ∙ entry.2)))
        | inr ne ↦ off a e x true _ ne (n.uncut x m un ∙ sym (get_or-set_other f p x true false (λ s. ne (s ∙ sym (entry_uncut c e p entry (ap (is_cut c) (sym s) ∙ un))))))
      ];
      full = λ x y other g. elim (same_or_not x e) [
        | inl s ↦ on a e x true here s
        | inr ne ↦ elim (same_or_not y p) [
          | inl t ↦ off a e x true true ne (by_cut (is_cut c p) refl x (other.0, other.1, other.2 ∙ t) ne)
          | inr apart ↦ off a e x true true ne (n.full x y other (back f p y true true apart g))
        ]
      ];
      one_open = λ x g y cut one two i j. n.one_open x g y cut one two (still_empty a e x here i).1 (still_empty a e g here j).1;
      lent = λ r x exit g.
          let was = n.lent r x exit (back a e r true true (λ s. exit_no_entry c r e x p exit entry (sym s)) g) in
          elim (same_or_not x p) [ inl s ↦ on f p x true there s | inr ne ↦ off f p x true true ne was ];
      one_lent = λ r v x one two i j. n.one_lent r v x one two (back a e r true true (λ s. exit_no_entry c r e x p one entry (sym s)) i) (back a e v true true (λ s. exit_no_entry c v e x p two entry (sym s)) j);
    }

-- a place that isn't cut is advanced
uncut_places : (c : Cut) (a f : List Bool) → Stands c a f → (q : ℕ) (v : Bool) → q < place_count c.plan → is_cut c q ≡ false → Stands c (set a q v) (set f q v)
uncut_places c a f n q v l uncut =
    let long = n.there_long in
    let whole = n.whole_long in
    let here : q < length a = omega (arith, l, long) in
    let there : q < length f = omega (arith, l, whole) in
    let not_own : (i p : ℕ) → is_cut c p ≡ true → IsEntry c i p → i ≢ q = λ i p cut entry s. cut_apart c p q cut uncut (sym (itself c q l) ∙ (ap (place_of c) (sym s) ∙ entry.2)) in
    record {
      there_long = length-set a q v ∙ n.there_long;
      whole_long = length-set f q v ∙ n.whole_long;
      uncut = λ p m e. elim (same_or_not p q) [
        | inl s ↦ on a q p v here s ∙ sym (on f q p v there s)
        | inr ne ↦ off a q p v _ ne (n.uncut p m e ∙ sym (get_or-set_other f q p v false ne))
      ];
      full = λ e p entry g. elim (same_or_not p q) [
        | inl s ↦
            let same : e ≡ q = entry_uncut c e q (entry.0, entry.1, entry.2 ∙ s) uncut in
            on a q e v here same ∙ (sym (on f q p v there s) ∙ g)
        | inr ne ↦ off a q e v true (λ s. ne (sym entry.2 ∙ (ap (place_of c) s ∙ itself c q l))) (n.full e p entry (back f q p v true ne g))
      ];
      one_open = λ e g p cut one two x y. n.one_open e g p cut one two (back a q e v false (not_own e p cut one) x) (back a q g v false (not_own g p cut two) y);
      lent = λ r p exit e.
          let was = n.lent r p exit (back a q r v true (λ s. exit_no_place c r p q exit l (sym s)) e) in
          off f q p v true (λ s. cut_apart c p q (exit_cut c r p exit) uncut (sym s)) was;
      one_lent = λ r x p one two e g. n.one_lent r x p one two (back a q r v true (λ s. exit_no_place c r p q one l (sym s)) e) (back a q x v true (λ s. exit_no_place c x p q two l (sym s)) g);
    }

-- a keeper fills an exit, or empties it
lend_places : (c : Cut) (a f : List Bool) → Stands c a f → (q p : ℕ) → IsExit c q p → get_or f p false ≡ true → ((r : ℕ) → IsExit c r p → get_or a r false ≡ false) → Stands c (set a q true) f
lend_places c a f n q p exit has nowhere =
    let below = exit.1 in
    let long = n.there_long in
    let here : q < length a = omega (arith, below, long) in
    let other : (r x : ℕ) → IsExit c r x → get_or (set a q true) r false ≡ true → (r ≡ q) ⊎ (get_or a r false ≡ true) = λ r x at e. elim (same_or_not r q) [
      | inl s ↦ inl s
      | inr ne ↦ inr (back a q r true true ne e)
    ] in
    let none : (r : ℕ) → IsExit c r p → get_or a r false ≡ true → ⊥ = λ r at e. let h = sym e ∙ nowhere r at in cc in
    record {
      there_long = length-set a q true ∙ n.there_long;
      whole_long = n.whole_long;
      uncut = λ x m e. off a q x true _ (exit_no_place c q p x exit m) (n.uncut x m e);
      full = λ e x entry g. off a q e true true (exit_no_entry c q e p x exit entry) (n.full e x entry g);
      one_open = λ e g x cut one two i j. n.one_open e g x cut one two (back a q e true false (exit_no_entry c q e p x exit one) i) (back a q g true false (exit_no_entry c q g p x exit two) j);
      lent = λ r x at e. elim (other r x at e) [
        | inl s ↦ subst (λ y. get_or f y false ≡ true) (sym exit.2 ∙ (ap (place_of c) (sym s) ∙ at.2)) has
        | inr h ↦ n.lent r x at h
      ];
      one_lent = λ r v x one two e g. elim (other r x one e) [
        | inl s ↦ elim (other v x two g) [
          | inl w ↦ s ∙ sym w
          | inr h ↦ absurd (none v (two.0, two.1, two.2 ∙ (sym one.2 ∙ (ap (place_of c) s ∙ exit.2))) h)
        ]
        | inr i ↦ elim (other v x two g) [
          | inl w ↦ absurd (none r (one.0, one.1, one.2 ∙ (sym two.2 ∙ (ap (place_of c) w ∙ exit.2))) i)
          | inr h ↦ n.one_lent r v x one two i h
        ]
      ];
    }

back_places : (c : Cut) (a f : List Bool) → Stands c a f → (q p : ℕ) → IsExit c q p → Stands c (set a q false) f
back_places c a f n q p exit =
    let below = exit.1 in
    let long = n.there_long in
    let here : q < length a = omega (arith, below, long) in
    record {
      there_long = length-set a q false ∙ n.there_long;
      whole_long = n.whole_long;
      uncut = λ x m e. off a q x false _ (exit_no_place c q p x exit m) (n.uncut x m e);
      full = λ e x entry g. off a q e false true (exit_no_entry c q e p x exit entry) (n.full e x entry g);
      one_open = λ e g x cut one two i j. n.one_open e g x cut one two (back a q e false false (exit_no_entry c q e p x exit one) i) (back a q g false false (exit_no_entry c q g p x exit two) j);
      lent = λ r x at e. n.lent r x at (still_full a q r here e).1;
      one_lent = λ r v x one two e g. n.one_lent r v x one two (still_full a q r here e).1 (still_full a q v here g).1;
    }

-- a keeper shuts an entry, or opens it
entry_uncut_apart : (c : Cut) (q p x : ℕ) → IsEntry c q p → is_cut c p ≡ true → x < place_count c.plan → is_cut c x ≡ false → x ≢ q
entry_uncut_apart c q p x entry cut l uncut s = cut_apart c p x cut uncut (sym (itself c x l) ∙ (ap (place_of c) s ∙ entry.2))

shut_places : (c : Cut) (a f : List Bool) → Stands c a f → (q p : ℕ) → IsEntry c q p → is_cut c p ≡ true → Stands c (set a q true) f
shut_places c a f n q p entry cut =
    let within = entry.1 in
    let long = n.there_long in
    let here : q < length a = omega (arith, within, long) in
    record {
      there_long = length-set a q true ∙ n.there_long;
      whole_long = n.whole_long;
      uncut = λ x m e. off a q x true _ (entry_uncut_apart c q p x entry cut m e) (n.uncut x m e);
      full = λ e x other g. elim (same_or_not e q) [ inl s ↦ on a q e true here s | inr ne ↦ off a q e true true ne (n.full e x other g) ];
      one_open = λ e g x is one two i j. n.one_open e g x is one two (still_empty a q e here i).1 (still_empty a q g here j).1;
      lent = λ r x at e. n.lent r x at (back a q r true true (λ s. exit_no_entry c r q x p at entry (sym s)) e);
      one_lent = λ r v x one two e g. n.one_lent r v x one two (back a q r true true (λ s. exit_no_entry c r q x p one entry (sym s)) e) (back a q v true true (λ s. exit_no_entry c v q x p two entry (sym s)) g);
    }

open_places : (c : Cut) (a f : List Bool) → Stands c a f → (q p : ℕ) → IsEntry c q p → is_cut c p ≡ true → get_or f p false ≡ false → ((e : ℕ) → IsEntry c e p → ¬ (e ≡ q) → get_or a e false ≡ true) → Stands c (set a q false) f
open_places c a f n q p entry cut left others =
    let within = entry.1 in
    let long = n.there_long in
    let here : q < length a = omega (arith, within, long) in
    -- an entry that is empty now is this one, or was so before
    let was : (e x : ℕ) → IsEntry c e x → get_or (set a q false) e false ≡ false → (e ≡ q) ⊎ ((e ≢ q) × (get_or a e false ≡ false)) = λ e x at i. elim (same_or_not e q) [ inl s ↦ inl s | inr ne ↦ inr (ne, back a q e false false ne i) ] in
    let none : (e x : ℕ) → IsEntry c e x → x ≡ p → e ≢ q → get_or a e false ≡ false → ⊥ = λ e x at t ne i. let h = sym (others e (at.0, at.1, at.2 ∙ t) ne) ∙ i in cc in
    record {
      there_long = length-set a q false ∙ n.there_long;
      whole_long = n.whole_long;
      uncut = λ x m e. off a q x false _ (entry_uncut_apart c q p x entry cut m e) (n.uncut x m e);
      full = λ e x other g. off a q e false true (λ s. let h = sym left ∙ (ap (λ y. get_or f y false) (sym entry.2 ∙ (ap (place_of c) (sym s) ∙ other.2)) ∙ g) in cc) (n.full e x other g);
      one_open = λ e g x is one two i j. elim (was e x one i) [
        | inl s ↦ elim (was g x two j) [
          | inl t ↦ s ∙ sym t
          | inr h ↦ absurd (none g x two (sym one.2 ∙ (ap (place_of c) s ∙ entry.2)) h.0 h.1)
        ]
        | inr h ↦ elim (was g x two j) [
          | inl t ↦ absurd (none e x one (sym two.2 ∙ (ap (place_of c) t ∙ entry.2)) h.0 h.1)
          | inr y ↦ n.one_open e g x is one two h.1 y.1
        ]
      ];
      lent = λ r x at e. n.lent r x at (still_full a q r here e).1;
      one_lent = λ r v x one two e g. n.one_lent r v x one two (still_full a q r here e).1 (still_full a q v here g).1;
    }

-- ---- the zones that a call leaves are the same

other_same : (c : Cut) → IsCut c → (m z : ℕ) → other_party c.cut m z ≡ other_party c.plan m z
other_same c k m z = ap (λ h. if nat_eq m h then guest_of c.cut z else h) (hosts c k z) ∙ ap (λ g. if nat_eq m (host_of c.plan z) then g else host_of c.plan z) (guests c k z)

map_alike : {A B : Type 0} (f h : A → B) (xs : List A) → ((x : A) → f x ≡ h x) → map f xs ≡ map h xs
map_alike f h [] each = refl
map_alike f h (x ∷ xs) each = ap (λ y. y ∷ map f xs) (each x) ∙ ap (λ ys. h x ∷ ys) (map_alike f h xs each)

owner_same : (c : Cut) → IsCut c → (s : State) (f : List Bool) (z : ℕ) (o : Option ℕ) (plate : Bool) → owner_left c.cut s z o plate ≡ owner_left c.plan s z o plate
owner_same c k s f z o plate =
    map_alike (handed c.cut s z o plate) (handed c.plan s z o plate) (range_with_len 0 (length s.zones)) (λ y.
    ap (λ b. handed_by b o (plate && nat_eq y z) (zone_at s y)) (same_spaces c k z y))

zones_same : (c : Cut) → IsCut c → (s : State) (f : List Bool) (m : ℕ) (x : Call) → zones_left c.cut s m x ≡ zones_left c.plan (with_full s f) m x
zones_same c k s f m (Claim z) = owner_same c k s f z (Some m) false
zones_same c k s f m (Give z) = owner_same c k s f z (Some (other_party c.cut m z)) true ∙ ap (λ n. owner_left c.plan s z (Some n) true) (other_same c k m z)
zones_same c k s f m (Yield z) = owner_same c k s f z (Some (other_party c.cut m z)) false ∙ ap (λ n. owner_left c.plan s z (Some n) false) (other_same c k m z)
zones_same c k s f m (Release z) = owner_same c k s f z None false
zones_same c k s f m (SetPose p) = ap (λ ps. map (posed (posed_by c.cut ps) s p) (range_with_len 0 (length s.zones))) k.poses
zones_same c k s f m (Take z) = refl
zones_same c k s f m (Inquire z) = refl
zones_same c k s f m Stop = refl
zones_same c k s f m Resume = refl
zones_same c k s f m (Advance p) = refl

-- ---- the places

pub done_none : (r : Option Refusal) (a : Answer) → answer_by r a ≡ Done → r ≡ None
done_none None a e = refl
done_none (Some r) a e = cc

given_places : (c : Cut) (s : State) (f : List Bool) → Cuts c s f → (m z : ℕ) → reply c.cut s m (Give z) ≡ Done
    → Stands c (emptied s.full (transfer_given c.cut s m z)) (emptied f (transfer_given c.plan (with_full s f) m z))
given_places c s f k m z e =
    let h = give_done c.cut s m z (done_none (refusal c.cut s m (Give z)) Done e) in
    let is = some_given m (transfer_of c.cut z (posture_at s z)) h.way h.is in
    let leads = cut_leads c k.is k.large z (posture_at s z) h.way h.holder.caller.there is.0 in
    let starts = k.is.starts z (posture_at s z) h.way h.holder.caller.there is.0 in
    let there : transfer_given c.plan (with_full s f) m z ≡ Some (whole_transfer c h.way) = given_same c k.is s f m z ∙ ap (option_map (whole_transfer c)) h.is in
    subst (λ w. Stands c (emptied s.full w) (emptied f (transfer_given c.plan (with_full s f) m z))) (sym h.is)
    (subst (λ w. Stands c (set s.full h.way.from false) (emptied f w)) (sym there)
    (give_places c s.full f (as_lists c s (with_full s f) k.stands) h.way.from starts.0 starts.1 leads.from h.plate))

taken_by : (c : Cut) (s : State) (f : List Bool) → Cuts c s f → (z : ℕ) → z < zone_count c.cut → (zone_at s z).flag ≡ true → (w : Option Transfer) → transfer_of c.cut z (posture_at s z) ≡ w
    → Stands c (filled s.full w) (filled f (option_map (whole_transfer c) w))
taken_by c s f k z l flag None e = as_lists c s (with_full s f) k.stands
taken_by c s f k z l flag (Some way) e =
    take_places c s.full f (as_lists c s (with_full s f) k.stands) way.to (place_of c way.to) (cut_leads c k.is k.large z (posture_at s z) way l e).to (k.is.ends z (posture_at s z) way l e) (k.comes z way l flag e)

taken_places : (c : Cut) (s : State) (f : List Bool) → Cuts c s f → (m z : ℕ) → reply c.cut s m (Take z) ≡ Done
    → Stands c (filled s.full (transfer_of c.cut z (posture_at s z))) (filled f (transfer_of c.plan z (posture_at s z)))
taken_places c s f k m z e =
    let h = take_done c.cut s m z (done_none (refusal c.cut s m (Take z)) Done e) in
    subst (λ w. Stands c (filled s.full (transfer_of c.cut z (posture_at s z))) (filled f w)) (sym (transfers c k.is z (posture_at s z)))
    (taken_by c s f k z h.holder.caller.there h.plate (transfer_of c.cut z (posture_at s z)) refl)

places_stand : (c : Cut) (s : State) (f : List Bool) → Cuts c s f → (m : ℕ) (x : Call) → is_inner c x ≡ false → reply c.cut s m x ≡ Done
    → Stands c (places_after c.cut s m x) (places_after c.plan (with_full s f) m x)
places_stand c s f k m (Give z) e d = given_places c s f k m z d
places_stand c s f k m (Take z) e d = taken_places c s f k m z d
places_stand c s f k m (Advance p) e d =
    let h = uncut_by c p e in
    let same = k.stands.uncut p h.0 h.1 in
    subst (λ b. Stands c (set s.full p (not b)) (set f p (not (is_full (with_full s f) p)))) (sym same)
    (uncut_places c s.full f (as_lists c s (with_full s f) k.stands) p (not (is_full (with_full s f) p)) h.0 h.1)
places_stand c s f k m (Claim z) e d = as_lists c s (with_full s f) k.stands
places_stand c s f k m (Yield z) e d = as_lists c s (with_full s f) k.stands
places_stand c s f k m (Release z) e d = as_lists c s (with_full s f) k.stands
places_stand c s f k m (SetPose z) e d = as_lists c s (with_full s f) k.stands
places_stand c s f k m (Inquire z) e d = as_lists c s (with_full s f) k.stands
places_stand c s f k m Stop e d = as_lists c s (with_full s f) k.stands
places_stand c s f k m Resume e d = as_lists c s (with_full s f) k.stands

-- ---- a call that the plan knows

pub outer_stands : (c : Cut) (s : State) (f : List Bool) → Cuts c s f → (m : ℕ) (x : Call) → is_inner c x ≡ false → (a : Answer) → reply c.cut s m x ≡ a
    → StandsFor c (left_by a c.cut s m x) (left_by a c.plan (with_full s f) m x)
outer_stands c s f k m x e Done d = as_states c _ _ (zones_same c k.is s f m x) (places_stand c s f k m x e d)
outer_stands c s f k m x e (Refused r) d = k.stands
outer_stands c s f k m x e (Shown o g q) d = k.stands

-- ---- a call that it doesn't

exit_or_entry : (c : Cut) (q : ℕ) → q < exits_end c + length c.entries → (nat_le (place_count c.plan) q || is_cut c q) ≡ true → IsExit c q (place_of c q) ⊎ (IsEntry c q (place_of c q) × (is_cut c (place_of c q) ≡ true))
exit_or_entry c q l e = elim (cases_lt q (place_count c.plan)) [
  | inl below ↦
      let cut : is_cut c q ≡ true = sym (ap (λ b. b || is_cut c q) (false_from_ne_true (nat_le (place_count c.plan) q) (λ g. let x = leb-true (place_count c.plan) q g in absurd (omega (arith, x, below))))) ∙ e in
      inr ((inl below, l, refl), ap (is_cut c) (itself c q below) ∙ cut)
  | inr above ↦ elim (cases_lt q (exits_end c)) [
    | inl m ↦ inl (above, m, refl)
    | inr m ↦ inr ((inr m, l, refl), owner_cut c q above l)
  ]
]

turned : (c : Cut) (s : State) (f : List Bool) → Cuts c s f → (q : ℕ) → q < place_count c.cut → IsInTurn c s (with_full s f) (Advance q)
    → (nat_le (place_count c.plan) q || is_cut c q) ≡ true → Stands c (set s.full q (not (is_full s q))) f
turned c s f k q l turn e = by (as_lists c s (with_full s f) k.stands) (exit_or_entry c q (subst (λ n. q < n) k.is.places l) e) (is_full s q) refl
  where
    p : ℕ
    p = place_of c q

    by : Stands c s.full f → IsExit c q p ⊎ (IsEntry c q p × (is_cut c p ≡ true)) → (b : Bool) → is_full s q ≡ b → Stands c (set s.full q (not b)) f
    by n (inl exit) true g = back_places c s.full f n q p exit
    by n (inl exit) false g = let may = turn.0 p exit g in lend_places c s.full f n q p exit may.has may.lent_nowhere
    by n (inr (entry, cut)) true g = let may = turn.1 p entry cut g in open_places c s.full f n q p entry cut may.left may.others_shut
    by n (inr (entry, cut)) false g = shut_places c s.full f n q p entry cut

inner_done : (c : Cut) (s : State) (f : List Bool) → Cuts c s f → (m : ℕ) (x : Call) → is_inner c x ≡ true → reply c.cut s m x ≡ Done → IsInTurn c s (with_full s f) x
    → StandsFor c (left_by Done c.cut s m x) (with_full s f)
inner_done c s f k m (Advance q) e d turn =
    let h = advance_done c.cut s m q (done_none (refusal c.cut s m (Advance q)) Done d) in
    as_states c (left_by Done c.cut s m (Advance q)) (with_full s f) refl (turned c s f k q h.there turn e)
inner_done c s f k m (Claim z) e d turn = cc
inner_done c s f k m (Give z) e d turn = cc
inner_done c s f k m (Yield z) e d turn = cc
inner_done c s f k m (Take z) e d turn = cc
inner_done c s f k m (Release z) e d turn = cc
inner_done c s f k m (SetPose z) e d turn = cc
inner_done c s f k m (Inquire z) e d turn = cc
inner_done c s f k m Stop e d turn = cc
inner_done c s f k m Resume e d turn = cc

pub inner_stands : (c : Cut) (s : State) (f : List Bool) → Cuts c s f → (m : ℕ) (x : Call) → is_inner c x ≡ true → (a : Answer) → reply c.cut s m x ≡ a → (a ≡ Done → IsInTurn c s (with_full s f) x)
    → StandsFor c (left_by a c.cut s m x) (with_full s f)
inner_stands c s f k m x e Done d turn = inner_done c s f k m x e d (turn refl)
inner_stands c s f k m x e (Refused r) d turn = k.stands
inner_stands c s f k m x e (Shown o g q) d turn = k.stands
