-- What is counted along a history: a place has a plate as often as it had one at first and got one, minus how often it
-- lost one.
use Rattle.cell_rules.proofs.Names.{◌≡◌, ℕ, ◌+◌, Bool, true, false, cond, ◌&&◌, Option, Some, None, option_map, List, [], ◌∷◌, refl, sym, ap, ◌∙◌, subst, arith, option_eq, count_by, sum_by-cons, Machine, Zone, Place, Transfer, Posture, Call, Give, Take, Advance, Inquire, Done, Event, transfer_of, same_machine, same_place, one_place, PlaceSet, has, put_place, ModelState, is_full, one_if, IsSound, implies, give_refusal, take_refusal}
use Rattle.cell_rules.proofs.Names.{advance_refusal, posture_at, given_by, reply, next, changed, emptied, filled, worked, after, IsLegal, is_done, fills, empties, given_place, taken_place, is_place, is_filled_by, is_emptied_by}
use Rattle.cell_rules.proofs.lemmas.Tables.{machines, zones, postures, holds3, implied}
use Rattle.cell_rules.proofs.lemmas.Puts.{has-put}
use Rattle.cell_rules.proofs.lemmas.Plates.{false_by}
use Rattle.cell_rules.proofs.lemmas.Transfers.{give_finds, take_finds, advance_finds}
use Rattle.cell_rules.proofs.lemmas.Soundness.{done_none, next_keeps, event_cases}

-- ---- a number of the state, which a Done call may raise by one and lower by one

abbrev pub Balanced : (ModelState → ℕ) → (Machine → Call → Bool) → (Machine → Call → Bool) → ModelState → Machine → Call → Type 0
Balanced number adds drops s n c = number s + cond (adds n c) 1 0 ≡ number (changed s n c) + cond (drops n c) 1 0

abbrev pub each_done : (Machine → Call → Bool) → Event → Bool
each_done test e = is_done e && test e.machine e.call

pub counted : (number : ModelState → ℕ) (adds drops : Machine → Call → Bool) → ((s : ModelState) (n : Machine) (c : Call) → IsSound s → reply s n c ≡ Done → Balanced number adds drops s n c)
    → (s : ModelState) (h : List Event) → IsSound s → IsLegal s h → number s + count_by (each_done adds) h ≡ number (after s h) + count_by (each_done drops) h
counted number adds drops balanced s [] k l = refl
counted number adds drops balanced s (e ∷ h) k l =
    let n = e.machine in
    let c = e.call in
    let here = event_cases (λ b t. number s + cond (b && adds n c) 1 0 ≡ number t + cond (b && drops n c) 1 0) s e l.0 (balanced s n c k) refl in
    let rest = counted number adds drops balanced (next s n c) h (next_keeps s n c k) l.1 in
    let more = sum_by-cons (λ (x : Event). cond (each_done adds x) 1 0) e h in
    let less = sum_by-cons (λ (x : Event). cond (each_done drops x) 1 0) e h in
    omega (arith, here, rest, more, less)

-- ---- a full place q becomes empty, and an empty one full

bit_out : (t b : Bool) → (t ≡ true → b ≡ true) → one_if b + 0 ≡ one_if (cond t false b) + cond t 1 0
bit_out true b full = omega (arith, ap one_if (full refl))
bit_out false b full = refl

one_emptied : (full : PlaceSet) (q p : Place) → has full q ≡ true → one_if (has full p) + 0 ≡ one_if (has (put_place full q false) p) + cond (same_place q p) 1 0
one_emptied full q p there =
    bit_out (same_place q p) (has full p) (λ e. sym (ap (has full) (one_place q p e)) ∙ there) ∙ ap (λ b. one_if b + cond (same_place q p) 1 0) (sym (has-put full false q p))

bit_in : (t b : Bool) → (t ≡ true → b ≡ false) → one_if b + cond t 1 0 ≡ one_if (cond t true b) + 0
bit_in true b empty = omega (arith, ap one_if (empty refl))
bit_in false b empty = refl

one_filled : (full : PlaceSet) (q p : Place) → has full q ≡ false → one_if (has full p) + cond (same_place q p) 1 0 ≡ one_if (has (put_place full q true) p) + 0
one_filled full q p room = bit_in (same_place q p) (has full p) (λ e. sym (ap (has full) (one_place q p e)) ∙ room) ∙ ap (λ b. one_if b + 0) (sym (has-put full true q p))

pub room-left : (full : PlaceSet) (q p : Place) → has full p ≡ false → has (put_place full q false) p ≡ false
room-left full q p room = has-put full false q p ∙ false_by (same_place q p) (has full p) room

one_moved : (full : PlaceSet) (way : Place × Place) (p : Place) → has full way.0 ≡ true → has full way.1 ≡ false
    → one_if (has full p) + cond (same_place way.1 p) 1 0 ≡ one_if (has (put_place (put_place full way.0 false) way.1 true) p) + cond (same_place way.0 p) 1 0
one_moved full way p there room =
    let leaves = one_emptied full way.0 p there in
    let comes = one_filled (put_place full way.0 false) way.1 p (room-left full way.0 way.1 room) in
    omega (arith, leaves, comes)

-- ---- the place that a machine gives from, and the one that it takes to

abbrev is_start : Option Place → Option Transfer → Bool
is_start place None = true
is_start place (Some row) = option_eq same_place place (Some row.from)

abbrev is_end : Machine → Option Place → Option Transfer → Bool
is_end m place None = true
is_end m place (Some row) = implies (same_machine m row.receiver) (option_eq same_place place (Some row.to))

one_option : (o : Option Place) (p : Place) → option_eq same_place o (Some p) ≡ true → o ≡ Some p
one_option None p e = cc
one_option (Some q) p e = ap Some (one_place q p e)

given-place : (m : Machine) (z : Zone) (q : Posture) (row : Transfer) → given_by m (transfer_of z q) ≡ Some row → given_place m z ≡ Some row.from
given-place m z q row way =
    let T : Option Transfer → Type 0 = λ t. is_start (given_place m z) t ≡ true in
    one_option (given_place m z) row.from (subst T way (holds3 machines zones postures (λ m z q. is_start (given_place m z) (given_by m (transfer_of z q))) refl m z q))

taken-place : (m : Machine) (z : Zone) (q : Posture) (row : Transfer) → transfer_of z q ≡ Some row → same_machine m row.receiver ≡ true → taken_place m z ≡ Some row.to
taken-place m z q row way mine =
    let T : Option Transfer → Type 0 = λ t. is_end m (taken_place m z) t ≡ true in
    one_option (taken_place m z) row.to (implied (same_machine m row.receiver) _ (subst T way (holds3 machines zones postures (λ m z q. is_end m (taken_place m z) (transfer_of z q)) refl m z q)) mine)

-- ---- a call that is Done

pub place-changed : (p : Place) (s : ModelState) (n : Machine) (c : Call) → IsSound s → reply s n c ≡ Done → Balanced (λ x. one_if (is_full x p)) (λ m d. fills m d p) (λ m d. empties m d p) s n c
place-changed p s n (Give y) h e =
    let found = give_finds s n y (done_none (give_refusal s n y) e) in
    let row = found.row in
    let T : Option Transfer → Type 0 = λ t. one_if (is_full s p) + 0 ≡ one_if (has (emptied s.full t) p) + cond (is_place (given_place n y) p) 1 0 in
    let P : Option Place → Type 0 = λ o. one_if (is_full s p) + 0 ≡ one_if (has (put_place s.full row.from false) p) + cond (is_place o p) 1 0 in
    subst T (sym found.way) (subst P (sym (given-place n y (posture_at s y) row found.way)) (one_emptied s.full row.from p found.there))
place-changed p s n (Take y) h e =
    let found = take_finds s n y h (done_none (take_refusal s n y) e) in
    let row = found.row in
    let T : Option Transfer → Type 0 = λ t. one_if (is_full s p) + cond (is_place (taken_place n y) p) 1 0 ≡ one_if (has (filled s.full t) p) + 0 in
    let P : Option Place → Type 0 = λ o. one_if (is_full s p) + cond (is_place o p) 1 0 ≡ one_if (has (put_place s.full row.to true) p) + 0 in
    subst T (sym found.way) (subst P (sym (taken-place n y (posture_at s y) row found.way found.receiver)) (one_filled s.full row.to p found.room))
place-changed p s n Advance h e =
    let found = advance_finds s n (done_none (advance_refusal s n) e) in
    let W : Option (Place × Place) → Type 0 = λ w.
    one_if (is_full s p) + cond (is_place (option_map (λ (way : Place × Place). way.1) w) p) 1 0
    ≡ one_if (has (worked s.full w) p) + cond (is_place (option_map (λ (way : Place × Place). way.0) w) p) 1 0 in
    subst W (sym found.work) (one_moved s.full found.way p found.there found.room)
place-changed p s n (Inquire y) h e = cc
place-changed p s n _ h e = refl

pub places-counted : (s : ModelState) (h : List Event) (p : Place) → IsSound s → IsLegal s h → one_if (is_full s p) + count_by (is_filled_by p) h ≡ one_if (is_full (after s h) p) + count_by (is_emptied_by p) h
places-counted s h p k l = counted (λ x. one_if (is_full x p)) (λ m d. fills m d p) (λ m d. empties m d p) (place-changed p) s h k l
