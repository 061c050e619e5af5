-- What the test of six machines tells.
use Rattle.cell_resume.proofs.Names.{◌≡◌, Bool, true, false, if◌then◌else◌, Option, Some, None, Result, Ok, Err, refl, sym, ap, ◌∙◌, subst, Machine, ModelState, Team, Checkpoint, ResumeFault, NoState, NoStep, NotInStep, AreInStep, AreNumbersOf, NamesNoStep, NamesStepAstray, IsWrong, then_test, team_in}
use Rattle.cell_types.specs.declared.machine.Machine.TheVariants as machine
use Rattle.cell_resume.specs.Testing.{tested}

-- ---- the test of one machine

module _ {P : Type 0} (m : Machine) (g : P → Bool) where
  by_test : (b : Bool) (q p : P) → g q ≡ b → (if b then Ok q else Err (NotInStep m)) ≡ Ok p → (Some q ≡ Some p) × (g p ≡ true)
  by_test true q p h e =
      let same : q ≡ p = cc in
      (ap (λ x. Some x) same, subst (λ x. g x ≡ true) same h)
  by_test false q p h e = cc

  pub tested_ok : (o : Option P) (p : P) → tested m o g ≡ Ok p → (o ≡ Some p) × (g p ≡ true)
  tested_ok None p e = cc
  tested_ok (Some q) p e = by_test (g q) q p refl e

  pub ok_tested : (o : Option P) (p : P) → o ≡ Some p → g p ≡ true → tested m o g ≡ Ok p
  ok_tested o p e h = ap (λ x. tested m x g) e ∙ ap (λ b. if b then Ok p else Err (NotInStep m)) h

  -- why the test fails
  abbrev pub Cause : Option P → ResumeFault → Type 0
  Cause o NoState = ⊥
  Cause o (NoStep n) = (n ≡ m) × (o ≡ None)
  Cause o (NotInStep n) = (n ≡ m) × ((p : P) × (o ≡ Some p) × (g p ≡ false))

  by_fault : (b : Bool) (q : P) (x : ResumeFault) → g q ≡ b → (if b then Ok q else Err (NotInStep m)) ≡ Err x → Cause (Some q) x
  by_fault true q x h e = cc
  by_fault false q NoState h e = cc
  by_fault false q (NoStep n) h e = cc
  by_fault false q (NotInStep n) h e = (cc, (q, refl, h))

  pub tested_err : (o : Option P) (x : ResumeFault) → tested m o g ≡ Err x → Cause o x
  tested_err None NoState e = cc
  tested_err None (NoStep n) e = (cc, refl)
  tested_err None (NotInStep n) e = cc
  tested_err (Some q) x e = by_fault (g q) q x refl e

  named : (c : Checkpoint) (s : ModelState) (o : Option P) → (o ≡ None → NamesNoStep c s m) → ((p : P) × (o ≡ Some p) × (g p ≡ false) → NamesStepAstray c s m) → (x : ResumeFault) → Cause o x → IsWrong c s x
  named c s o none astray NoState k = k
  named c s o none astray (NoStep n) k = subst (NamesNoStep c s) (sym k.0) (none k.1)
  named c s o none astray (NotInStep n) k = subst (NamesStepAstray c s) (sym k.0) (astray k.1)

  wrong_by : (c : Checkpoint) (s : ModelState) (o : Option P) (x : ResumeFault) → (o ≡ None → NamesNoStep c s m) → ((p : P) × (o ≡ Some p) × (g p ≡ false) → NamesStepAstray c s m) → tested m o g ≡ Err x → IsWrong c s x
  wrong_by c s o x none astray e = named c s o none astray x (tested_err o x e)

-- ---- one test after another

fault_same : {Q : Type 0} → (a b : ResumeFault) → ◌≡◌ {A = Result Q ResumeFault} (Err a) (Err b) → a ≡ b
fault_same a b e = cc

module _ {P Q : Type 0} where
  went : (r : Result P ResumeFault) (f : P → Result Q ResumeFault) (w : Q) → then_test r f ≡ Ok w → (p : P) × (r ≡ Ok p) × (f p ≡ Ok w)
  went (Ok p) f w e = (p, refl, e)
  went (Err x) f w e = cc

  goes : (r : Result P ResumeFault) (p : P) (f : P → Result Q ResumeFault) (w : Result Q ResumeFault) → r ≡ Ok p → f p ≡ w → then_test r f ≡ w
  goes r p f w e k = ap (λ x. then_test x f) e ∙ k

  pub failed : (r : Result P ResumeFault) (f : P → Result Q ResumeFault) (x : ResumeFault) (W : Type 0) → (r ≡ Err x → W) → ((p : P) → r ≡ Ok p → f p ≡ Err x → W) → then_test r f ≡ Err x → W
  failed (Ok p) f x W one others e = others p refl e
  failed (Err y) f x W one others e = one (ap (λ z. Err z) (fault_same y x e))

ok_same : (a b : Team) → ◌≡◌ {A = Result Team ResumeFault} (Ok a) (Ok b) → a ≡ b
ok_same a b e = cc

abbrev Both : Checkpoint → ModelState → Team → Type 0
Both c s team = AreNumbersOf c s team × AreInStep team s

pub team_tested : (c : Checkpoint) (s : ModelState) (team : Team) → team_in c s ≡ Ok team → AreNumbersOf c s team × AreInStep team s
team_tested c s team e =
    let f = went _ _ team e in
    let t = went _ _ team f.2 in
    let r = went _ _ team t.2 in
    let p = went _ _ team r.2 in
    let d = went _ _ team p.2 in
    let h = went _ _ team d.2 in
    let feed = tested_ok machine.Feed _ _ f.0 f.1 in
    let table = tested_ok machine.Table _ _ t.0 t.1 in
    let robot = tested_ok machine.Robot _ _ r.0 r.1 in
    let press = tested_ok machine.Press _ _ p.0 p.1 in
    let deposit = tested_ok machine.Deposit _ _ d.0 d.1 in
    let crane = tested_ok machine.Crane _ _ h.0 h.1 in
    subst (Both c s) (ok_same _ team h.2) (
      record { feed = feed.0; table = table.0; robot = robot.0; press = press.0; deposit = deposit.0; crane = crane.0 },
      record { feed = feed.1; table = table.1; robot = robot.1; press = press.1; deposit = deposit.1; crane = crane.1 },
    )

pub tested_team : (c : Checkpoint) (s : ModelState) (team : Team) → AreNumbersOf c s team → AreInStep team s → team_in c s ≡ Ok team
tested_team c s team n i =
    goes _ team.feed _ _ (ok_tested machine.Feed _ _ _ n.feed i.feed)
    (goes _ team.table _ _ (ok_tested machine.Table _ _ _ n.table i.table)
    (goes _ team.robot _ _ (ok_tested machine.Robot _ _ _ n.robot i.robot)
    (goes _ team.press _ _ (ok_tested machine.Press _ _ _ n.press i.press)
    (goes _ team.deposit _ _ (ok_tested machine.Deposit _ _ _ n.deposit i.deposit)
    (goes _ team.crane _ _ (ok_tested machine.Crane _ _ _ n.crane i.crane) refl)))))

pub tested_wrong : (c : Checkpoint) (s : ModelState) (x : ResumeFault) → team_in c s ≡ Err x → IsWrong c s x
tested_wrong c s x =
    failed _ _ x (IsWrong c s x) (wrong_by machine.Feed _ c s _ x (λ k. k) (λ k. k)) (λ f ok.
    failed _ _ x (IsWrong c s x) (wrong_by machine.Table _ c s _ x (λ k. k) (λ k. k)) (λ t ok.
    failed _ _ x (IsWrong c s x) (wrong_by machine.Robot _ c s _ x (λ k. k) (λ k. k)) (λ r ok.
    failed _ _ x (IsWrong c s x) (wrong_by machine.Press _ c s _ x (λ k. k) (λ k. k)) (λ p ok.
    failed _ _ x (IsWrong c s x) (wrong_by machine.Deposit _ c s _ x (λ k. k) (λ k. k)) (λ d ok.
    failed _ _ x (IsWrong c s x) (wrong_by machine.Crane _ c s _ x (λ k. k) (λ k. k)) (λ h ok e. cc))))))
