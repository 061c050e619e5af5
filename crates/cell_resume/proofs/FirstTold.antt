-- Of several machines whose numbers are wrong the first is told.
use Rattle.cell_resume.proofs.Names.{◌≡◌, ◌≤◌, ◌<◌, ℕ, List, Bool, false, Option, Some, None, Result, Ok, Err, arith, refl, sym, ap, ◌∙◌, subst, slice_get, Machine, ModelState, Team, Checkpoint, ResumeFault, NoState, NoStep, NotInStep, NamesNoStep, NamesStepAstray, IsWrong, IsFirst, place_of, place_of_fault, then_test, team_in}
use Rattle.std.proofs.Common.{◌⊎◌, inl, inr, suc, [], ◌∷◌}
use Rattle.cell_types.specs.declared.machine.Machine.TheVariants as machine
use Rattle.cell_resume.specs.Testing.{tested}
use Rattle.cell_resume.proofs.TeamTested.{Cause, failed, tested_err, tested_ok}

-- ---- one machine has each place

in_order : List Machine
in_order = machine.Feed ∷ machine.Table ∷ machine.Robot ∷ machine.Press ∷ machine.Deposit ∷ machine.Crane ∷ machine.Watch ∷ []

found : (m : Machine) → slice_get in_order (place_of m) ≡ Some m
unfolding in_order
found machine.Feed = refl
found _ = refl

some_same : (a b : Machine) → Some a ≡ Some b → a ≡ b
some_same a b e = cc

one_place : (a b : Machine) → place_of a ≡ place_of b → a ≡ b
one_place a b e = some_same a b (sym (found a) ∙ ap (slice_get in_order) e ∙ found b)

-- ---- the machines before a place

module _ (c : Checkpoint) (s : ModelState) where
  -- nothing is wrong with a machine's number
  abbrev pub IsRight : Machine → Type 0
  IsRight m = (¬ NamesNoStep c s m) × (¬ NamesStepAstray c s m)

  abbrev pub AreRightBefore : ℕ → Type 0
  AreRightBefore n = (m : Machine) → place_of m < n → IsRight m

  none_before : AreRightBefore 0
  none_before m before = absurd (omega (arith, before))

  at_or_before : (k m : Machine) → place_of k < suc (place_of m) → (place_of k < place_of m) ⊎ (place_of k ≡ place_of m)
  at_or_before k m before = grind arith

  by_place : (m k : Machine) → AreRightBefore (place_of m) → IsRight m → (place_of k < place_of m) ⊎ (place_of k ≡ place_of m) → IsRight k
  by_place m k earlier right (inl before) = earlier k before
  by_place m k earlier right (inr same) = subst IsRight (sym (one_place k m same)) right

  and_this : (m : Machine) → AreRightBefore (place_of m) → IsRight m → AreRightBefore (suc (place_of m))
  and_this m earlier right k before = by_place m k earlier right (at_or_before k m before)

  not_before : (n k : ℕ) → ¬ (k < n) → n ≤ k
  not_before n k none = grind arith

  past : (n : ℕ) (other : ResumeFault) → AreRightBefore n → IsWrong c s other → n ≤ place_of_fault other
  past n NoState right wrong = absurd wrong
  past n (NoStep m) right wrong = not_before n (place_of m) (λ before. (right m before).0 wrong)
  past n (NotInStep m) right wrong = not_before n (place_of m) (λ before. (right m before).1 wrong)

  -- ---- one test after another

  placed : {P : Type 0} → (m : Machine) (g : P → Bool) (o : Option P) (x : ResumeFault) → Cause m g o x → place_of_fault x ≡ place_of m
  placed m g o NoState k = absurd k
  placed m g o (NoStep n) k = ap place_of k.0
  placed m g o (NotInStep n) k = ap place_of k.0

  first_here : {P : Type 0} → (m : Machine) (g : P → Bool) (o : Option P) (x : ResumeFault) → AreRightBefore (place_of m) → tested m o g ≡ Err x → IsFirst c s x
  first_here m g o x earlier e other wrong =
      subst (λ n. n ≤ place_of_fault other) (sym (placed m g o x (tested_err m g o x e))) (past (place_of m) other earlier wrong)

  right_by : {P : Type 0} → (m : Machine) (g : P → Bool) (o : Option P) (p : P) → (NamesNoStep c s m → o ≡ None) → (NamesStepAstray c s m → (q : P) × (o ≡ Some q) × (g q ≡ false)) → tested m o g ≡ Ok p → IsRight m
  right_by m g o p none astray e =
      let t = tested_ok m g o p e in (
        λ k. (let is_none = none k in let is_some = t.0 in cc),
        λ k. (let q = astray k in let named = q.1 in let out = q.2 in let is_some = t.0 in let «in» = t.1 in cc),
      )

  -- the fault of this machine's test, or of a later one's
  from_here : {P : Type 0} → (m : Machine) (o : Option P) (g : P → Bool) (later : P → Result Team ResumeFault) (x : ResumeFault) → AreRightBefore (place_of m) → (NamesNoStep c s m → o ≡ None) → (NamesStepAstray c s m → (q : P) × (o ≡ Some q) × (g q ≡ false)) → (AreRightBefore (suc (place_of m)) → (p : P) → later p ≡ Err x → IsFirst c s x) → then_test (tested m o g) later ≡ Err x → IsFirst c s x
  from_here m o g later x earlier none astray others =
      failed (tested m o g) later x (IsFirst c s x) (first_here m g o x earlier) (λ p ok. others (and_this m earlier (right_by m g o p none astray ok)) p)

  pub tested_first : (x : ResumeFault) → team_in c s ≡ Err x → IsFirst c s x
  tested_first x =
      from_here machine.Feed _ _ _ x none_before (λ k. k) (λ k. k) (λ table f.
      from_here machine.Table _ _ _ x table (λ k. k) (λ k. k) (λ robot t.
      from_here machine.Robot _ _ _ x robot (λ k. k) (λ k. k) (λ press r.
      from_here machine.Press _ _ _ x press (λ k. k) (λ k. k) (λ deposit p.
      from_here machine.Deposit _ _ _ x deposit (λ k. k) (λ k. k) (λ crane d.
      from_here machine.Crane _ _ _ x crane (λ k. k) (λ k. k) (λ none h e. cc))))))
