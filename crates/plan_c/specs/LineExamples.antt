-- The numbers of faults, and the rows of literal steps; and rows of none.
use Rattle.std.specs.Prelude.{◌≡◌, ◌≢◌, ℕ, ◌/◌, ◌%◌, ◌^◌, nat_eq, true, [], ◌∷◌, map, Some}
use Rattle.plan_types.specs.declared.call.Call.TheVariants.{Claim, SetPose, Stop}
use Rattle.plan_types.specs.declared.answer.Refusal.{Refusal}
use Rattle.plan_controller.specs.declared.faults.Faults.{Faults}
use Rattle.plan_controller.specs.declared.faults.Mendable.{Mendable}
use Rattle.plan_controller.specs.declared.faults.Mendable.TheVariants.{Held, Shut, NotOwner, PlateInZone, NoPlate}
use Rattle.plan_controller.specs.declared.faults.Mendable.TheVariants.{PlaceFull, WrongWay, Stopped}
use Rattle.plan_controller.specs.declared.step.Step.{Step}
use Rattle.plan_controller.specs.declared.step.Step.TheVariants.{Do, Await, Run}
use Rattle.plan_controller.specs.FaultExamples.{all_faults}
use Rattle.plan_controller.specs.Faults.{has, mendable, no_faults}
use Rattle.plan_c.specs.Lines.{row_of}
use Rattle.plan_c.specs.Numbers.{faults_number, mendable_number}
use Rattle.plan_c.specs.Replies.{refusal_number}
use Rattle.plan_c.specs.declared.line.ProgramLine.{ProgramLine}

pub record FaultsHaveNumbers : Type 0 where
  pub kinds : map mendable_number
      (Held ∷ Shut ∷ NotOwner ∷ PlateInZone ∷ NoPlate ∷ PlaceFull ∷ WrongWay ∷ Stopped ∷ [])
      ≡ 2 ∷ 4 ∷ 5 ∷ 6 ∷ 7 ∷ 8 ∷ 9 ∷ 14 ∷ []
  pub of_refusals : (r : Refusal) (kind : Mendable) → mendable r ≡ Some kind → refusal_number r ≡ mendable_number kind
  pub none : faults_number no_faults ≡ 0
  pub held : faults_number (record no_faults { held = true }) ≡ 4
  pub shut : faults_number (record no_faults { shut = true }) ≡ 16
  pub not_owner : faults_number (record no_faults { not_owner = true }) ≡ 32
  pub plate_in_zone : faults_number (record no_faults { plate_in_zone = true }) ≡ 64
  pub no_plate : faults_number (record no_faults { no_plate = true }) ≡ 128
  pub place_full : faults_number (record no_faults { place_full = true }) ≡ 256
  pub wrong_way : faults_number (record no_faults { wrong_way = true }) ≡ 512
  pub stopped : faults_number (record no_faults { stopped = true }) ≡ 16384
  pub all : faults_number all_faults ≡ 17396
  -- each has its own bit, of all faults, so no two have one number
  pub bits : (faults : Faults) (kind : Mendable)
      → nat_eq (faults_number faults / 2 ^ mendable_number kind % 2) 1 ≡ has faults kind
  pub one_number : (a b : Faults) → faults_number a ≡ faults_number b → a ≡ b

-- motors, kind, object, sensor and faults
abbrev pub row : ℕ → ℕ → ℕ → ℕ → ℕ → ProgramLine
row motors kind object until faults =
    record { motors = motors; kind = kind; object = object; until = until; faults = faults }

abbrev pub NoRow : ProgramLine → Type 0
NoRow line = (step : Step) → line ≢ row_of step

pub record LinesAreMet : Type 0 where
  pub claim : row_of (Do (Claim 3) no_faults) ≡ row 0 1 3 0 0
  pub if_held : row_of (Do (Claim 3) (record no_faults { held = true; shut = true })) ≡ row 0 1 3 0 20
  pub pose : row_of (Do (SetPose 63) (record no_faults { stopped = true })) ≡ row 0 6 63 0 16384
  pub stop : row_of (Do Stop no_faults) ≡ row 0 9 0 0 0
  pub await : row_of (Await 7) ≡ row 0 16 7 0 0
  pub run : row_of (Run 5 31) ≡ row 5 17 0 31 0
  -- faults of a wait and of a run, bits of no refusal, and of those that always stop: notparty, jump, worn, notstopped
  pub waits : NoRow (row 0 16 7 0 4)
  pub runs : NoRow (row 5 17 0 31 4)
  pub bit_0 : NoRow (row 0 1 3 0 1)
  pub bit_11 : NoRow (row 0 1 3 0 2048)
  pub not_party : NoRow (row 0 1 3 0 2)
  pub jump : NoRow (row 0 6 3 0 1024)
  pub worn : NoRow (row 0 1 3 0 8196)
  pub not_stopped : NoRow (row 0 1 3 0 32768)
