-- Which refusals are waited out at lines with literal faults.
use Rattle.std.specs.Prelude.{◌≡◌, Bool, true, false, List, [], ◌∷◌, filter, Some, None}
use Rattle.plan_types.specs.declared.posture.Posture.TheVariants.{Closed, Moving, OpenOut}
use Rattle.plan_types.specs.declared.answer.Answer.TheVariants.{Done, Shown, Refused}
use Rattle.plan_types.specs.declared.answer.Refusal.{Refusal}
use Rattle.plan_types.specs.declared.answer.Refusal.TheVariants.{NotParty, Held, AlreadyMine, Shut, NotOwner}
use Rattle.plan_types.specs.declared.answer.Refusal.TheVariants.{PlateInZone, NoPlate, PlaceFull, WrongWay, Jump}
use Rattle.plan_types.specs.declared.answer.Refusal.TheVariants.{NoPose, Worn, Stopped, NotStopped}
use Rattle.plan_controller.specs.declared.faults.Faults.{Faults}
use Rattle.plan_controller.specs.declared.faults.Mendable.TheVariants as mend
use Rattle.plan_controller.specs.declared.outcome.Outcome.{Outcome}
use Rattle.plan_controller.specs.declared.outcome.Outcome.TheVariants.{Stays, GoesOn, Stops}
use Rattle.plan_controller.specs.Faults.{has, no_faults, with_one}
use Rattle.plan_controller.specs.Steps.{after_call}

abbrev pub is_stay : Outcome → Bool
is_stay Stays = true
is_stay GoesOn = false
is_stay (Stops r) = false

abbrev pub all_refusals : List Refusal
all_refusals =
    NotParty ∷ Held 1 ∷ AlreadyMine ∷ Shut Moving ∷ NotOwner None ∷ PlateInZone 0 ∷ NoPlate ∷ PlaceFull ∷ WrongWay
    ∷ Jump ∷ NoPose ∷ Worn ∷ Stopped ∷ NotStopped ∷ []

-- those that leave a machine at its line, where these are faults
abbrev pub waited_out : Faults → List Refusal
waited_out f = filter (λ r. is_stay (after_call (Some (Refused r)) f)) all_refusals

abbrev pub all_faults : Faults
all_faults = record {
  held = true;
  shut = true;
  not_owner = true;
  plate_in_zone = true;
  no_plate = true;
  place_full = true;
  wrong_way = true;
  stopped = true;
}

pub record FaultsAreRight : Type 0 where
  pub none : waited_out no_faults
      ≡ Held 1 ∷ Shut Moving ∷ NotOwner None ∷ PlateInZone 0 ∷ NoPlate ∷ PlaceFull ∷ WrongWay ∷ Stopped ∷ []
  pub held : waited_out (record no_faults { held = true })
      ≡ Shut Moving ∷ NotOwner None ∷ PlateInZone 0 ∷ NoPlate ∷ PlaceFull ∷ WrongWay ∷ Stopped ∷ []
  pub shut : waited_out (record no_faults { shut = true })
      ≡ Held 1 ∷ NotOwner None ∷ PlateInZone 0 ∷ NoPlate ∷ PlaceFull ∷ WrongWay ∷ Stopped ∷ []
  pub not_owner : waited_out (record no_faults { not_owner = true })
      ≡ Held 1 ∷ Shut Moving ∷ PlateInZone 0 ∷ NoPlate ∷ PlaceFull ∷ WrongWay ∷ Stopped ∷ []
  pub plate_in_zone : waited_out (record no_faults { plate_in_zone = true })
      ≡ Held 1 ∷ Shut Moving ∷ NotOwner None ∷ NoPlate ∷ PlaceFull ∷ WrongWay ∷ Stopped ∷ []
  pub no_plate : waited_out (record no_faults { no_plate = true })
      ≡ Held 1 ∷ Shut Moving ∷ NotOwner None ∷ PlateInZone 0 ∷ PlaceFull ∷ WrongWay ∷ Stopped ∷ []
  pub place_full : waited_out (record no_faults { place_full = true })
      ≡ Held 1 ∷ Shut Moving ∷ NotOwner None ∷ PlateInZone 0 ∷ NoPlate ∷ WrongWay ∷ Stopped ∷ []
  pub wrong_way : waited_out (record no_faults { wrong_way = true })
      ≡ Held 1 ∷ Shut Moving ∷ NotOwner None ∷ PlateInZone 0 ∷ NoPlate ∷ PlaceFull ∷ Stopped ∷ []
  pub stopped : waited_out (record no_faults { stopped = true })
      ≡ Held 1 ∷ Shut Moving ∷ NotOwner None ∷ PlateInZone 0 ∷ NoPlate ∷ PlaceFull ∷ WrongWay ∷ []
  pub all : waited_out all_faults ≡ []
  -- two, one after the other
  pub two : waited_out (with_one (with_one no_faults mend.Shut) mend.Held)
      ≡ NotOwner None ∷ PlateInZone 0 ∷ NoPlate ∷ PlaceFull ∷ WrongWay ∷ Stopped ∷ []
  pub twice : with_one (with_one no_faults mend.Stopped) mend.Stopped ≡ record no_faults { stopped = true }
  pub each : (f : Faults) → has f mend.WrongWay ≡ f.wrong_way
  -- whom and what a refusal names makes no difference, and it stops by itself
  pub by_last : after_call (Some (Refused (Held 14))) (record no_faults { held = true }) ≡ Stops (Held 14)
  pub by_posture : after_call (Some (Refused (Shut OpenOut))) (record no_faults { shut = true }) ≡ Stops (Shut OpenOut)
  pub by_owner : after_call (Some (Refused (NotOwner (Some 3)))) (record no_faults { not_owner = true })
      ≡ Stops (NotOwner (Some 3))
  -- other answers than refusals are no faults
  pub done : after_call (Some Done) all_faults ≡ GoesOn
  pub not_made : after_call None all_faults ≡ Stays
  pub shown : after_call (Some (Shown None false Closed)) all_faults ≡ Stays
