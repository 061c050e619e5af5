-- All demands are met in the two states in which much is driven.
use Rattle.std.proofs.Common.{rules, ◌≡◌, ◌≢◌, Bool, true, false, inl, inr, pos, ◌≤ℤ◌, refl, arith}
use Rattle.std.proofs.lemmas.Int.{ints}
use Rattle.cell_rules.specs.Types.{Robot, Crane, Zone, Z1, Z2, Z3, Z4, Z5, Z6, host_of}
use Rattle.cell_devices.specs.declared.motor.Motor.TheVariants.{Off, Plus, Minus}
use Rattle.cell_rules.specs.Names.{zone_at, IsSound, ModelState, owns}
use Rattle.cell_rules.proofs.lemmas.Puts.{each_zone}
use Rattle.cell_rules.proofs.lemmas.Lawful.{lawful_in, sound_from}
use Rattle.cell_parts.specs.Names.{ForTravel, AtDeposit, AllDemandsMet}
use Rattle.cell_parts.specs.AtWork.{all_moving, all_driven, guests_inside, guests_driven, ApartExamples, ApartMeans, DemandsCanBeMet}
use Rattle.cell_parts.specs.MotorDemands.{DrivesIn, GripperErrand, Rests}
use Rattle.cell_parts.specs.declared.plant.PlantState.{PlantState}

moving_is_sound : IsSound all_moving
moving_is_sound = sound_from all_moving (omega arith) (each_zone (λ z. lawful_in all_moving.full z (zone_at all_moving z) ≡ true) refl refl refl refl refl refl)

inside_is_sound : IsSound guests_inside
inside_is_sound = sound_from guests_inside (omega arith) (each_zone (λ z. lawful_in guests_inside.full z (zone_at guests_inside z) ≡ true) refl refl refl refl refl refl)

all_move : AllDemandsMet ForTravel all_moving all_driven
all_move = record { sound = moving_is_sound; clear = search rules; positions = search rules; motors = search rules; travel = search rules; rotation = search rules }

guests_move : AllDemandsMet AtDeposit guests_inside guests_driven
guests_move = record { sound = inside_is_sound; clear = search rules; positions = search rules; motors = search rules; travel = search rules; rotation = search rules }

apart : ApartExamples
apart = record {
  host_works = λ k. (let lie : Minus ≡ Off = k.host_rests Z3 refl in cc);
  guest_works =
      λ k. (let on : Plus ≢ Off = λ e. cc in
      let first : pos 200 ≤ℤ pos 300 = omega (arith, ints) in
      let last : pos 300 ≤ℤ pos 400 = omega (arith, ints) in
      let lie : false ≡ true = k.driver_holds Robot Z2 (on, (first, last)) in cc);
}

-- a machine that rests drives in no zone that it hosts
host_drives_not : (errand : GripperErrand) (p : PlantState) (z : Zone) → Rests p (host_of z) → ¬ DrivesIn errand p (host_of z) z
host_drives_not errand p Z1 rests (inl on) = on rests.0
host_drives_not errand p Z1 rests (inr on) = on rests.1
host_drives_not errand p Z2 rests (inl on) = on rests.0
host_drives_not errand p Z2 rests (inr on) = on rests.1
host_drives_not errand p Z3 rests on = on rests
host_drives_not errand p Z4 rests on = cc
host_drives_not errand p Z5 rests on = cc
host_drives_not errand p Z6 rests on = cc

unheld : (held : Bool) → held ≡ false → held ≡ true → ⊥
unheld held isnt is = cc

means : (errand : GripperErrand) (s : ModelState) (p : PlantState) → ApartMeans errand s p
means errand s p = record {
  open_for_guests = λ k z is_opened drives. host_drives_not errand p z (k.host_rests z is_opened) drives;
  not_unheld = λ k m z isnt drives. unheld (owns s m z) isnt (k.driver_holds m z drives);
  no_two = λ k. k.one_drives;
}

pub demands_can_be_met : DemandsCanBeMet
demands_can_be_met = record {
  all_move = all_move;
  guests_move = guests_move;
  apart = apart;
  guest_apart = apart.guest_works;
  guests_apart =
      λ k. (let on : Minus ≢ Off = λ e. cc in
      let lie : false ≡ true = k.driver_holds Crane Z5 on in cc);
  apart_means = means;
}
