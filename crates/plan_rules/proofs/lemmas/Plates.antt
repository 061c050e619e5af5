-- Plates: those of a place and those on their way to it, and all of a state, after a change.
use Rattle.std.proofs.Common.{◌≡◌, ℕ, ◌+◌, ◌<◌, ◌≤◌, inl, inr, Bool, true, false, ◌&&◌, ◌||◌, nat_eq, nat_lt, List, length, get_or, set, Some, sym, ap, ◌∙◌, arith}
use Rattle.std.proofs.lemmas.Bool.{lt-ltb}
use Rattle.std.proofs.lemmas.List.{get_or-set_same, get_or-set_other}
use Rattle.plan_types.specs.declared.table.Transfer.{Transfer}
use Rattle.plan_types.specs.Table.{PlanTable, zone_count, transfer_of}
use Rattle.plan_types.specs.Below.{sum_below}
use Rattle.plan_rules.specs.declared.state.ZoneState.{ZoneState}
use Rattle.plan_rules.specs.declared.state.State.{State}
use Rattle.plan_rules.specs.State.{zone_at, one_if, leads_to, is_coming, coming, plates_for, free_zone}
use Rattle.plan_rules.proofs.lemmas.Below.{sum_below_changed}
use Rattle.plan_rules.proofs.lemmas.Puts.{same_or_not, nat_eq-self, nat_eq-apart}

-- ---- a number for each zone or place, summed, after one is set

pub zones_put : (f : ℕ → ZoneState → ℕ) (xs : List ZoneState) (v : ZoneState) (y n : ℕ) → y < n → y < length xs
    → sum_below (λ z. f z (get_or (set xs y v) z free_zone)) n + f y (get_or xs y free_zone) ≡ sum_below (λ z. f z (get_or xs z free_zone)) n + f y v
zones_put f xs v y n l m =
    let e = sum_below_changed (λ z. f z (get_or xs z free_zone)) (λ z. f z (get_or (set xs y v) z free_zone)) y n l (λ j ne. ap (f j) (get_or-set_other xs y j v free_zone ne)) in
    let here = ap (f y) (get_or-set_same xs y v free_zone m) in
    e ∙ ap (λ k. sum_below (λ z. f z (get_or xs z free_zone)) n + k) here

pub places_put : (f : Bool → ℕ) (xs : List Bool) (v : Bool) (y n : ℕ) → y < n → y < length xs
    → sum_below (λ z. f (get_or (set xs y v) z false)) n + f (get_or xs y false) ≡ sum_below (λ z. f (get_or xs z false)) n + f v
places_put f xs v y n l m =
    let e = sum_below_changed (λ z. f (get_or xs z false)) (λ z. f (get_or (set xs y v) z false)) y n l (λ j ne. ap f (get_or-set_other xs y j v false ne)) in
    let here = ap f (get_or-set_same xs y v false m) in
    e ∙ ap (λ k. sum_below (λ z. f (get_or xs z false)) n + k) here

-- ---- one place

one_if_at_most : (b : Bool) → one_if b ≤ 1
one_if_at_most true = omega arith
one_if_at_most false = omega arith

-- a place that is emptied
emptied_at_most : (xs : List Bool) (q p : ℕ) → q < length xs → one_if (get_or (set xs q false) p false) ≤ one_if (get_or xs p false)
emptied_at_most xs q p l =
    elim (same_or_not p q) [
      | inl e ↦ let here = ap one_if (ap (λ x. get_or (set xs q false) x false) e ∙ get_or-set_same xs q false false l) in omega (arith, here)
      | inr ne ↦ let here = ap one_if (get_or-set_other xs q p false false ne) in omega (arith, here)
    ]

pub no_plates : (n : ℕ) → nat_lt 0 n ≡ false → n ≡ 0
no_plates n e =
    elim (same_or_not n 0) [
      | inl z ↦ z
      | inr ne ↦ let some : nat_lt 0 n ≡ true = lt-ltb 0 n (omega arith) in cc
    ]

-- the plates on their way to a place, by the zones
abbrev pub coming_in : PlanTable → List ZoneState → ℕ → ℕ
coming_in t zones p = sum_below (λ z. one_if (is_coming t (get_or zones z free_zone) p z)) (zone_count t)

-- a zone whose plate goes to a place
pub comes : (t : PlanTable) (v : ZoneState) (z p : ℕ) (way : Transfer) → v.flag ≡ true → transfer_of t z v.posture ≡ Some way → one_if (is_coming t v p z) ≡ one_if (nat_eq way.to p)
comes t v z p way flag is = ap (λ b. one_if (b && leads_to (transfer_of t z v.posture) p)) flag ∙ ap (λ o. one_if (leads_to o p)) is

comes_not : (t : PlanTable) (v : ZoneState) (z p : ℕ) → v.flag ≡ false → one_if (is_coming t v p z) ≡ 0
comes_not t v z p clear = ap (λ b. one_if (b && leads_to (transfer_of t z v.posture) p)) clear

-- a plate leaves a place, for one that has none and none coming: the sum of what comes changes by the one zone's plate
pub plates_given : (t : PlanTable) (s : State) (y p : ℕ) (zones : List ZoneState) (way : Transfer) → way.from < length s.full
    → coming_in t zones p + one_if ((zone_at s y).flag && leads_to (transfer_of t y (zone_at s y).posture) p)
    ≡ coming t s p + one_if ((true || (zone_at s y).flag) && leads_to (transfer_of t y (zone_at s y).posture) p)
    → (zone_at s y).flag ≡ false → transfer_of t y (zone_at s y).posture ≡ Some way → plates_for t s way.to ≡ 0 → plates_for t s p ≤ 1
    → one_if (get_or (set s.full way.from false) p false) + coming_in t zones p ≤ 1
plates_given t s y p zones way n put clear is room most =
    let old : one_if ((zone_at s y).flag && leads_to (transfer_of t y (zone_at s y).posture) p) ≡ 0 = comes_not t (zone_at s y) y p clear in
    let new : one_if ((true || (zone_at s y).flag) && leads_to (transfer_of t y (zone_at s y).posture) p) ≡ one_if (nat_eq way.to p) = ap (λ o. one_if (leads_to o p)) is in
    let least = emptied_at_most s.full way.from p n in
    elim (same_or_not p way.to) [
      | inl e ↦ let none : plates_for t s p ≡ 0 = ap (plates_for t s) e ∙ room in let one = one_if_at_most (nat_eq way.to p) in omega (arith, put, old, new, least, none, one)
      | inr ne ↦ let away = ap one_if (nat_eq-apart way.to p (λ x. ne (sym x))) in omega (arith, put, old, new, least, away, most)
    ]

-- a plate that was on its way comes to its place
pub plates_taken : (t : PlanTable) (s : State) (y p : ℕ) (v : ZoneState) (way : Transfer) → y < zone_count t → y < length s.zones
    → (zone_at s y).flag ≡ true → v.flag ≡ false → transfer_of t y (zone_at s y).posture ≡ Some way → plates_for t s p ≤ 1
    → one_if (get_or (set s.full way.to true) p false) + coming_in t (set s.zones y v) p ≤ 1
plates_taken t s y p v way l m flag clear is most =
    let put = zones_put (λ x u. one_if (is_coming t u p x)) s.zones v y (zone_count t) l m in
    let old = comes t (zone_at s y) y p way flag is in
    let new = comes_not t v y p clear in
    elim (same_or_not p way.to) [
      | inl e ↦
          let here : one_if (nat_eq way.to p) ≡ 1 = ap one_if (ap (nat_eq way.to) e ∙ nat_eq-self way.to) in
          let one = one_if_at_most (get_or (set s.full way.to true) p false) in
          omega (arith, put, old, new, here, one, most)
      | inr ne ↦ let still = ap one_if (get_or-set_other s.full way.to p true false ne) in omega (arith, put, old, new, still, most)
    ]

-- a plate comes from outside, or goes there
pub plates_advanced : (t : PlanTable) (s : State) (p q : ℕ) (b : Bool) → p < length s.full → plates_for t s q ≤ 1 → one_if b + coming t s p ≤ 1
    → one_if (get_or (set s.full p b) q false) + coming t s q ≤ 1
plates_advanced t s p q b l most room =
    elim (same_or_not q p) [
      | inl e ↦
          let here = ap one_if (ap (λ x. get_or (set s.full p b) x false) e ∙ get_or-set_same s.full p b false l) in
          let same = ap (coming t s) e in
          omega (arith, here, same, room)
      | inr ne ↦ let still = ap one_if (get_or-set_other s.full p q b false ne) in omega (arith, still, most)
    ]
