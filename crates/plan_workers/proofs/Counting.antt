-- How many entries journals have, together.
use Rattle.std.proofs.Common.{◌≡◌, ◌≢◌, ℕ, zero, suc, ◌+◌, ◌<◌, ◌≤◌, inl, inr, length, refl, sym, ap, subst, arith}
use Rattle.std.proofs.lemmas.Bool.{cases_eq, cases_order}
use Rattle.plan_types.specs.Table.{PlanTable, watch}
use Rattle.plan_rules.specs.declared.state.State.{State}
use Rattle.plan_workers.specs.declared.journal.PlanEntry.{PlanEntry}
use Rattle.plan_workers.specs.Audited.{Journals}
use Rattle.plan_workers.specs.Replays.{Reads}

abbrev pub count_below : ℕ → Journals → ℕ
count_below zero js = 0
count_below (suc n) js = length (js n) + count_below n js

abbrev pub count_in : Journals → ℕ
count_in js = count_below 31 js

same_below : (n m : ℕ) (js ks : Journals) → n ≤ m → ((k : ℕ) → k ≢ m → ks k ≡ js k) → count_below n ks ≡ count_below n js
same_below zero m js ks past same = refl
same_below (suc n) m js ks past same =
    let here = ap length (same n (λ is. omega (arith, is, past))) in
    let rest = same_below n m js ks (omega (arith, past)) same in omega (arith, here, rest)

below_other : (n m : ℕ) → m < suc n → n ≢ m → m < n
below_other n m below isnt = elim (cases_order n m) [ inl is ↦ absurd (isnt is) | inr other ↦ elim other [ inl less ↦ absurd (omega (arith, below, less)) | inr more ↦ more ] ]

fewer_below : (n m : ℕ) (js ks : Journals) → m < n → length (ks m) < length (js m) → ((k : ℕ) → k ≢ m → ks k ≡ js k) → count_below n ks < count_below n js
fewer_below zero m js ks below less same = absurd (omega (arith, below))
fewer_below (suc n) m js ks below less same =
    elim (cases_eq n m) [
      | inl is ↦
          let here = subst (λ k. length (ks k) < length (js k)) (sym is) less in
          let rest = same_below n m js ks (omega (arith, is)) same in omega (arith, here, rest)
      | inr isnt ↦
          let here = ap length (same n isnt) in
          let rest = fewer_below n m js ks (below_other n m below isnt) less same in omega (arith, here, rest)
    ]

-- one fewer is left after an entry is read
pub fewer : (t : PlanTable) (m : ℕ) (x : PlanEntry) (s now : State) (before later : Journals) → m ≤ watch → Reads t m x s now before later → count_in later < count_in before
fewer t m x s now before later caller r = fewer_below 31 m before later (omega (arith, caller)) (subst (λ j. length (later m) < length j) (sym r.own) (omega arith)) r.others
