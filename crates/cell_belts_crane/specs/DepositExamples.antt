-- Examples of each row of the deposit belt's program, with each state of its notes.
use Rattle.std.specs.Prelude.{◌≡◌, Bool, true, false, List, [], ◌∷◌, Ok}
use Rattle.cell_rules.specs.Types.{Deposit, Z4, Z5, Landing, Running, Offering, Moving, Claim, Give, Take, Release}
use Rattle.cell_rules.specs.Types.{SetPose, Advance, Event}
use Rattle.cell_sensors.specs.declared.sense.DepositSense.{DepositSense}
use Rattle.cell_devices.specs.declared.act.DepositAct.{DepositAct}
use Rattle.cell_rules.specs.Names.{ModelState, Holds, posture_by_events}
use Rattle.cell_control.specs.Rows.{AskRow, DriveRow, CheckRow, UntilFree, UntilOwner, UntilRoom, NoOtherAnswers}
use Rattle.cell_belts_crane.specs.declared.deposit.DepositStep.{DepositStep}
use Rattle.cell_belts_crane.specs.declared.deposit.DepositStep.TheVariants.{ClaimEntry, ClaimExit, PoseLanding, ReleaseEntry}
use Rattle.cell_belts_crane.specs.declared.deposit.DepositStep.TheVariants.{TakePlate, StartRun, RunIn, RunOut, MoveOn}
use Rattle.cell_belts_crane.specs.declared.deposit.DepositStep.TheVariants.{PoseOffering, GivePlate, ClaimBack}
use Rattle.cell_belts_crane.specs.declared.deposit.DepositProgress.{DepositProgress}
use Rattle.cell_belts_crane.specs.DepositProgram.{deposit_steps}

-- a step, with whether a plate is at the belt's entry and at its end
abbrev pub at : DepositStep → Bool → Bool → DepositProgress
at step entry last = record { step = step; entry = entry; last = last }

abbrev pub runs : DepositAct
runs = record { belt = true }

abbrev pub stands : DepositAct
stands = record { belt = false }

abbrev pub in_barrier : DepositSense
in_barrier = record { barrier = true }

abbrev pub barrier_off : DepositSense
barrier_off = record { barrier = false }

-- the start of the program, by whether a plate is at the belt's entry and at its end
abbrev pub begins_with : Bool → Bool → DepositProgress
begins_with false false = at ClaimEntry false false
begins_with true false = at ClaimEntry true false
begins_with false true = at ClaimEntry false true
begins_with true true = at ClaimEntry true true

-- the start depends on the full places and on nothing else
pub record DepositStarts : Type 0 where
  pub whose : deposit_steps.machine ≡ Deposit
  pub by_places : (s : ModelState) → deposit_steps.start s ≡ begins_with s.full.dep_entry s.full.dep_end

pub record DepositAsks (entry last : Bool) : Type 0 where
  pub claims_entry : AskRow deposit_steps (at ClaimEntry entry last) (Claim Z4) [] (at ClaimExit entry last)
  pub claims_exit : AskRow deposit_steps (at ClaimExit false false) (Claim Z5) [] (at PoseLanding false false)
  pub claims_exit_with_plate : AskRow deposit_steps (at ClaimExit true false) (Claim Z5) [] (at StartRun true false)
  pub claims_exit_with_plate_at_end
      : AskRow deposit_steps (at ClaimExit entry true) (Claim Z5) [] (at PoseOffering entry true)
  pub poses_landing : AskRow deposit_steps (at PoseLanding entry last) (SetPose Landing) [] (at ReleaseEntry entry last)
  pub releases_entry : AskRow deposit_steps (at ReleaseEntry entry last) (Release Z4) [] (at TakePlate entry last)
  pub takes : AskRow deposit_steps (at TakePlate entry last) (Take Z4) (UntilOwner ∷ []) (at StartRun true last)
  pub starts : AskRow deposit_steps (at StartRun entry last) (SetPose Running) [] (at RunIn entry last)
  pub moves_on : AskRow deposit_steps (at MoveOn entry last) Advance [] (at PoseOffering false true)
  pub poses_offering : AskRow deposit_steps (at PoseOffering entry last) (SetPose Offering) [] (at GivePlate entry last)
  pub gives : AskRow deposit_steps (at GivePlate entry last) (Give Z5) (UntilRoom ∷ []) (at ClaimBack entry false)
  pub claims_back : AskRow deposit_steps (at ClaimBack false false) (Claim Z5) (UntilFree ∷ [])
      (at PoseLanding false false)
  pub claims_back_with_plate : AskRow deposit_steps (at ClaimBack true false) (Claim Z5) (UntilFree ∷ [])
      (at StartRun true false)
  pub claims_back_with_plate_at_end
      : AskRow deposit_steps (at ClaimBack entry true) (Claim Z5) (UntilFree ∷ []) (at PoseOffering entry true)

pub record DepositDrives (entry last : Bool) : Type 0 where
  pub in_before_barrier : DriveRow deposit_steps (at RunIn entry last) barrier_off runs (at RunIn entry last)
  pub in_at_barrier : DriveRow deposit_steps (at RunIn entry last) in_barrier stands (at RunOut entry last)
  pub out_in_barrier : DriveRow deposit_steps (at RunOut entry last) in_barrier runs (at RunOut entry last)
  pub out_of_barrier : DriveRow deposit_steps (at RunOut entry last) barrier_off stands (at MoveOn entry last)

-- a running belt demands both its zones, moving
pub record DemandsBoth (opening : ModelState) (seen : List Event) : Type 0 where
  pub holds_entry : Holds opening seen Deposit Z4
  pub holds_exit : Holds opening seen Deposit Z5
  pub entry_moves : posture_by_events opening seen Z4 ≡ Moving
  pub exit_moves : posture_by_events opening seen Z5 ≡ Moving

-- all rows; in a step that asks, the belt is off
pub record DepositRowsAreMet : Type 0 where
  pub starts : DepositStarts
  pub asks : (entry last : Bool) → DepositAsks entry last
  pub drives : (entry last : Bool) → DepositDrives entry last
  -- a light barrier can always be used
  pub checks : (s : DepositSense) → CheckRow deposit_steps s (Ok s)
  pub no_other_answers : NoOtherAnswers deposit_steps
  pub rests : (p : DepositProgress) → deposit_steps.rest p ≡ stands
  pub demands : (p : DepositProgress) (opening : ModelState) (seen : List Event)
      → deposit_steps.motor_demands p runs opening seen → DemandsBoth opening seen
