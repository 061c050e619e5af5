-- The test of six machines, one after another, in figures: which machine's number is wrong, and how.
use Rattle.std.specs.Prelude.{◌≡◌, ℕ, true, false, [], ◌∷◌, Some, None, Result, Ok, Err}
use Rattle.std.specs.Int.{w64, from_le_bytes}
use Rattle.cell_types.specs.declared.machine.Machine.TheVariants as machine
use Rattle.cell_rules.specs.ModelState.{ModelState}
use Rattle.cell_belts_crane.specs.Names.{feed_steps}
use Rattle.cell_belts_crane.specs.declared.feed.FeedProgress.{FeedProgress}
use Rattle.cell_control.specs.Names.{Steps}
use Rattle.cell_team.specs.Names.{Team}
use Rattle.cell_resume.specs.declared.checkpoint.Checkpoint.{Checkpoint}
use Rattle.cell_resume.specs.declared.fault.ResumeFault.{ResumeFault}
use Rattle.cell_resume.specs.declared.fault.ResumeFault.TheVariants.{NoState, NoStep, NotInStep}
use Rattle.cell_resume.specs.Checkpoints.{AreNumbersOf, IsWrong, NamesNoStep, NamesStepAstray, checkpoint_in}
use Rattle.cell_resume.specs.Figures.{start_bytes, start_state, start_team, full_bytes, full_state, full_team}
use Rattle.cell_resume.specs.Figures.{forged_bytes, forged_state, forged_team}
use Rattle.cell_resume.specs.Resuming.{resumed_steps}
use Rattle.cell_resume.specs.TeamTest.{team_in, then_test}
use Rattle.cell_resume.specs.Teams.{AreInStep}
use Rattle.cell_resume.specs.Testing.{tested}

-- one machine's number
pub record TestedExamples : Type 0 where
  pub no_step : tested {P = ℕ} machine.Table None (λ p. true) ≡ Err (NoStep machine.Table)
  pub astray : tested {P = ℕ} machine.Crane (Some 3) (λ p. false) ≡ Err (NotInStep machine.Crane)
  pub in_step : tested {P = ℕ} machine.Press (Some 3) (λ p. true) ≡ Ok 3
  pub goes_on : then_test {P = ℕ} {Q = ℕ} (Ok 3) (λ p. Ok 5) ≡ Ok 5
  pub ends : then_test {P = ℕ} {Q = ℕ} (Err (NoStep machine.Feed)) (λ p. Ok 5) ≡ Err (NoStep machine.Feed)

-- the numbers of a start; each machine's may be one that names no step, or a step that isn't in step with the start
abbrev pub at_start : Checkpoint
at_start = checkpoint_in start_bytes

abbrev pub Test : Checkpoint → Result Team ResumeFault → Type 0
Test checkpoint result = team_in checkpoint start_state ≡ result

pub record TeamExamples : Type 0 where
  pub start : Test at_start (Ok start_team)
  pub full : team_in (checkpoint_in full_bytes) full_state ≡ Ok full_team
  pub forged : team_in (checkpoint_in forged_bytes) forged_state ≡ Ok forged_team
  pub no_feed : Test (record at_start { feed = 12 }) (Err (NoStep machine.Feed))
  pub no_table : Test (record at_start { table = 12 }) (Err (NoStep machine.Table))
  pub no_robot : Test (record at_start { robot = 28 }) (Err (NoStep machine.Robot))
  pub no_press : Test (record at_start { press = 30 }) (Err (NoStep machine.Press))
  pub no_deposit : Test (record at_start { deposit = 12 }) (Err (NoStep machine.Deposit))
  pub no_crane : Test (record at_start { crane = 14 }) (Err (NoStep machine.Crane))
  pub feed_astray : Test (record at_start { feed = 3 }) (Err (NotInStep machine.Feed))
  pub table_astray : Test (record at_start { table = 7 }) (Err (NotInStep machine.Table))
  pub robot_astray : Test (record at_start { robot = 5 }) (Err (NotInStep machine.Robot))
  pub press_astray : Test (record at_start { press = 12 }) (Err (NotInStep machine.Press))
  pub deposit_astray : Test (record at_start { deposit = 4 }) (Err (NotInStep machine.Deposit))
  pub crane_astray : Test (record at_start { crane = 6 }) (Err (NotInStep machine.Crane))
  pub first_of_two : Test (record at_start { press = 30; table = 7 }) (Err (NotInStep machine.Table))

-- the numbers of several machines name no step, and the first such machine is told
pub record FirstToldExamples : Type 0 where
  pub all_six :
      Test (record at_start { feed = 12; table = 12; robot = 28; press = 30; deposit = 12; crane = 14 })
      (Err (NoStep machine.Feed))
  pub last_five :
      Test (record at_start { table = 12; robot = 28; press = 30; deposit = 12; crane = 14 })
      (Err (NoStep machine.Table))
  pub last_four :
      Test (record at_start { robot = 28; press = 30; deposit = 12; crane = 14 })
      (Err (NoStep machine.Robot))
  pub last_three : Test (record at_start { press = 30; deposit = 12; crane = 14 }) (Err (NoStep machine.Press))
  pub last_two : Test (record at_start { deposit = 12; crane = 14 }) (Err (NoStep machine.Deposit))
  pub feed_and_table : Test (record at_start { feed = 12; table = 12 }) (Err (NoStep machine.Feed))
  pub table_and_robot : Test (record at_start { table = 12; robot = 28 }) (Err (NoStep machine.Table))
  pub robot_and_press : Test (record at_start { robot = 28; press = 30 }) (Err (NoStep machine.Robot))
  pub press_and_deposit : Test (record at_start { press = 30; deposit = 12 }) (Err (NoStep machine.Press))
  -- so are steps astray
  pub all_astray :
      Test (record at_start { feed = 3; table = 7; robot = 5; press = 12; deposit = 4; crane = 6 })
      (Err (NotInStep machine.Feed))

-- the numbers of a start are of no other team, and at a start only the first steps are in step
abbrev pub AreOf : Team → Type 0
AreOf team = AreNumbersOf at_start start_state team

abbrev pub Stand : Team → Type 0
Stand team = AreInStep team start_state

pub record OtherTeams : Type 0 where
  pub numbers : AreOf start_team
  pub feed : ¬ AreOf (record start_team { feed = full_team.feed })
  pub table : ¬ AreOf (record start_team { table = full_team.table })
  pub robot : ¬ AreOf (record start_team { robot = full_team.robot })
  pub press : ¬ AreOf (record start_team { press = full_team.press })
  pub deposit : ¬ AreOf (record start_team { deposit = full_team.deposit })
  pub crane : ¬ AreOf (record start_team { crane = full_team.crane })
  pub stands : Stand start_team
  pub feed_astray : ¬ Stand (record start_team { feed = full_team.feed })
  pub table_astray : ¬ Stand (record start_team { table = full_team.table })
  pub robot_astray : ¬ Stand (record start_team { robot = full_team.robot })
  pub press_astray : ¬ Stand (record start_team { press = full_team.press })
  pub deposit_astray : ¬ Stand (record start_team { deposit = full_team.deposit })
  pub crane_astray : ¬ Stand (record start_team { crane = full_team.crane })

-- whatever fourteen bytes are: eight for the word, the lowest first, then each machine's number
pub record BytesMean : Type 0 where
  pub each : (a b c d e f g h feed table robot press deposit crane : ℕ)
      → checkpoint_in (a ∷ b ∷ c ∷ d ∷ e ∷ f ∷ g ∷ h ∷ feed ∷ table ∷ robot ∷ press ∷ deposit ∷ crane ∷ [])
      ≡ record {
        word = from_le_bytes w64 (a ∷ b ∷ c ∷ d ∷ e ∷ f ∷ g ∷ h ∷ []);
        feed = feed;
        table = table;
        robot = robot;
        press = press;
        deposit = deposit;
        crane = crane;
      }
  pub lowest_first : (checkpoint_in (7 ∷ 6 ∷ 5 ∷ 4 ∷ 3 ∷ 2 ∷ 1 ∷ 255 ∷ [])).word ≡ 18374970166623929863
  pub great_numbers : checkpoint_in (0 ∷ 0 ∷ 0 ∷ 0 ∷ 0 ∷ 0 ∷ 0 ∷ 0 ∷ 10 ∷ 11 ∷ 27 ∷ 29 ∷ 255 ∷ 13 ∷ [])
      ≡ record { word = 0; feed = 10; table = 11; robot = 27; press = 29; deposit = 255; crane = 13 }

-- what is wrong with a checkpoint
abbrev pub Wrong : Checkpoint → ResumeFault → Type 0
Wrong checkpoint fault = IsWrong checkpoint start_state fault

pub record WrongExamples : Type 0 where
  pub feed : Wrong (record at_start { feed = 12 }) (NoStep machine.Feed)
  pub table : Wrong (record at_start { table = 12 }) (NoStep machine.Table)
  pub robot : Wrong (record at_start { robot = 28 }) (NoStep machine.Robot)
  pub press : Wrong (record at_start { press = 30 }) (NoStep machine.Press)
  pub deposit : Wrong (record at_start { deposit = 12 }) (NoStep machine.Deposit)
  pub crane : Wrong (record at_start { crane = 14 }) (NoStep machine.Crane)
  pub step_of_feed : ¬ NamesNoStep at_start start_state machine.Feed
  pub step_of_crane : ¬ NamesNoStep at_start start_state machine.Crane
  pub step_of_watch : ¬ NamesNoStep at_start start_state machine.Watch
  pub feed_astray : Wrong (record at_start { feed = 3 }) (NotInStep machine.Feed)
  pub table_astray : Wrong (record at_start { table = 7 }) (NotInStep machine.Table)
  pub robot_astray : Wrong (record at_start { robot = 5 }) (NotInStep machine.Robot)
  pub press_astray : Wrong (record at_start { press = 12 }) (NotInStep machine.Press)
  pub deposit_astray : Wrong (record at_start { deposit = 4 }) (NotInStep machine.Deposit)
  pub crane_astray : Wrong (record at_start { crane = 6 }) (NotInStep machine.Crane)
  pub watch_astray : ¬ NamesStepAstray at_start start_state machine.Watch
  pub state_is_known : ¬ Wrong at_start NoState

-- a program that may go on begins where it stood, if that is in step; else at its start, and it is the same otherwise
pub record ResumedExamples {S Sense Reading Act : Type 0} (t : Steps S Sense Reading Act) (stood : S) (s : ModelState)
    : Type 0 where
  pub goes_on : (resumed_steps t (λ p z. true) stood).start s ≡ stood
  pub begins_anew : (resumed_steps t (λ p z. false) stood).start s ≡ t.start s
  pub row : (resumed_steps t (λ p z. true) stood).row stood ≡ t.row stood

pub record TestsAreMet : Type 0 where
  pub tested : TestedExamples
  pub team : TeamExamples
  pub first_told : FirstToldExamples
  pub others : OtherTeams
  pub wrong : WrongExamples
  pub bytes : BytesMean
  pub resumed : (stood : FeedProgress) (s : ModelState) → ResumedExamples feed_steps stood s
