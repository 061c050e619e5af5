-- What it means to take a checkpoint back.
use Rattle.cell_resume.proofs.Names.{◌≡◌, ◌≢◌, ◌↔◌, Some, Result, Ok, Err, refl, sym, ap, ◌∙◌, subst, ModelState, IsSound, Team, Checkpoint, ResumeFault, NoState, Stood, stood, IsCheckpointOf, IsFirst, IsWrong, team_in}
use Rattle.cell_word.specs.Layout.{packed}
use Rattle.cell_resume.proofs.TeamTested.{team_tested, tested_team, tested_wrong}
use Rattle.cell_resume.proofs.FirstTold.{tested_first}

one_state : (a b : ModelState) → Some a ≡ Some b → a ≡ b
one_state a b e = cc

one_team : (a b : Team) → ◌≡◌ {A = Result Team ResumeFault} (Ok a) (Ok b) → a ≡ b
one_team a b e = cc

pub one_fault : {T : Type 0} → (a b : ResumeFault) → ◌≡◌ {A = Result T ResumeFault} (Err a) (Err b) → a ≡ b
one_fault a b e = cc

pub one_cell : (a b : Stood) → ◌≡◌ {A = Result Stood ResumeFault} (Ok a) (Ok b) → a ≡ b
one_cell a b e = cc

-- a word that is the word of the state z alone
module _ (c : Checkpoint) (z : ModelState) (alone : (s : ModelState) → (Some z ≡ Some s) ↔ (IsSound s × (packed s ≡ c.word))) where
  pub taken : (got : Team) → team_in c z ≡ Ok got → (s : ModelState) (team : Team) → stood z got ≡ stood s team → IsCheckpointOf c s team
  taken got t s team e =
      let both = team_tested c z got t in
      let own = (alone z).0 refl in
      subst (λ w. IsCheckpointOf c w.state w.team) e (record { sound = own.0; word = own.1; numbers = both.0; in_step = both.1 })

  pub given : (got : Team) → team_in c z ≡ Ok got → (s : ModelState) (team : Team) → IsCheckpointOf c s team → stood z got ≡ stood s team
  given got t s team k =
      let same : z ≡ s = one_state z s ((alone s).1 (k.sound, k.word)) in
      let again : team_in c z ≡ Ok team = subst (λ x. team_in c x ≡ Ok team) (sym same) (tested_team c s team k.numbers k.in_step) in
      ap (λ x. stood x got) same ∙ ap (λ x. stood s x) (one_team got team (sym t ∙ again))

  pub refused : (x : ResumeFault) → team_in c z ≡ Err x → (s : ModelState) → IsSound s → packed s ≡ c.word → IsWrong c s x
  refused x t s sound word =
      let same : z ≡ s = one_state z s ((alone s).1 (sound, word)) in
      subst (λ y. IsWrong c y x) same (tested_wrong c z x t)

  pub first_refused : (x : ResumeFault) → team_in c z ≡ Err x → (s : ModelState) → IsSound s → packed s ≡ c.word → IsFirst c s x
  first_refused x t s sound word =
      let same : z ≡ s = one_state z s ((alone s).1 (sound, word)) in
      subst (λ y. IsFirst c y x) same (tested_first c z x t)

  pub is_state : (x : ResumeFault) → team_in c z ≡ Err x → x ≡ NoState → ⊥
  is_state x t e = subst (λ y. IsWrong c z y) e (tested_wrong c z x t)

  pub has_state : ((s : ModelState) → IsSound s → packed s ≢ c.word) → ⊥
  has_state none = let own = (alone z).0 refl in none z own.0 own.1
