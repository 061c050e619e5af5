-- The lift's gates, which its poses keep apart; and literal poses, taken and not.
use Rattle.std.specs.Prelude.{◌≡◌, ℕ, Bool, true, false, nat_eq, [], ◌∷◌, replicate, Some, None, if◌then◌else◌}
use Rattle.plan_types.specs.declared.posture.Posture.{Posture}
use Rattle.plan_types.specs.declared.posture.Posture.TheVariants.{Closed, Moving, OpenIn, OpenOut}
use Rattle.plan_types.specs.Examples.{lift_table}
use Rattle.plan_rules.specs.declared.state.State.{State}
use Rattle.plan_rules.specs.State.{free_zone}
use Rattle.plan_rules.specs.Examples.{lift_start, full_press, doors_table}
use Rattle.plan_motors.specs.Poses.{LeadOn, posture_after, AllMove, CanTake, CanTakeAll, after_poses, LeadToDanger}
use Rattle.plan_motors.specs.Poses.{HasPosturesOf, IsApartByPoses, NeverFromPostures, fits_in}
use Rattle.plan_motors.specs.Decided.{NeverBoth}
use Rattle.plan_motors.specs.Examples.{owned, lower_gate, upper_gate}

-- a sound state permits both gates; but the lift, 0, opens only one zone at a time
pub record GatesAreApart : Type 0 where
  pub not_by_zones : ¬ NeverBoth lift_table lower_gate upper_gate
  pub by_poses : IsApartByPoses lift_table lower_gate upper_gate lift_start 0
  pub never : NeverFromPostures lift_table lift_start lower_gate upper_gate
  pub no_danger : ¬ LeadToDanger lift_table lower_gate upper_gate 0 (λ z. Closed)

-- a posture of the first zone, and of the others
abbrev pub postures : Posture → Posture → ℕ → Posture
postures first others z = if nat_eq z 0 then first else others

abbrev pub gates_lead_on : Bool → (ℕ → Posture) → Type 0
gates_lead_on moving q = LeadOn lift_table lower_gate upper_gate 0 [] moving q

-- the floors, 1 and 2, hold the lift's zones while these are open
pub record PosesLeadOn : Type 0 where
  pub fits : fits_in lift_table lower_gate upper_gate 1 OpenOut ≡ true
  pub shut : fits_in lift_table lower_gate upper_gate 1 Closed ≡ false
  pub moves : fits_in lift_table lower_gate upper_gate 0 Moving ≡ false
  pub both_open : gates_lead_on false (postures OpenIn OpenOut)
  pub upper_shut : ¬ gates_lead_on false (postures OpenIn Closed)
  pub lower_shut : ¬ gates_lead_on false (postures Closed OpenOut)
  pub both_move : gates_lead_on true (postures Moving Moving)
  pub lower_moves : ¬ gates_lead_on true (postures Moving OpenOut)
  pub upper_moves : ¬ gates_lead_on true (postures OpenOut Moving)

-- a pose is the machine's own, and there; one that comes after moving is taken only while all its zones move
pub record PosesAreTaken : Type 0 where
  pub travels : CanTake lift_table 0 0 (λ z. Closed)
  pub loads : CanTake lift_table 0 4 (λ z. Moving)
  pub of_other : ¬ CanTake lift_table 1 0 (λ z. Closed)
  pub past_end : ¬ CanTake lift_table 0 5 (λ z. Moving)
  pub at_rest : ¬ CanTake lift_table 0 4 (λ z. Closed)
  pub upper_rests : ¬ CanTake lift_table 0 4 (postures Moving Closed)
  pub lower_rests : ¬ CanTake lift_table 0 4 (postures Closed Moving)
  pub no_zone_of_floor : AllMove lift_table 1 (λ z. Closed)
  pub in_turn : CanTakeAll lift_table 0 (0 ∷ 4 ∷ 0 ∷ []) (λ z. Closed)
  pub not_in_turn : ¬ CanTakeAll lift_table 0 (0 ∷ 4 ∷ 1 ∷ []) (λ z. Closed)
  pub not_first : ¬ CanTakeAll lift_table 0 (4 ∷ 0 ∷ []) (λ z. Closed)
  pub upper_opens : after_poses lift_table (0 ∷ 1 ∷ 0 ∷ 4 ∷ []) (λ z. Moving) 1 ≡ OpenIn
  pub lower_shuts : after_poses lift_table (0 ∷ 1 ∷ 0 ∷ 4 ∷ []) (λ z. Moving) 0 ≡ Closed
  -- a pose leaves a zone that it gives nothing
  pub given : posture_after doors_table 1 1 Moving ≡ OpenIn
  pub left : posture_after doors_table 1 0 Moving ≡ Moving

-- another owner, a plate, other places, another stamp, a stop, and another posture of a zone past the tables
abbrev pub like_start : State
like_start = record {
  zones =
      record { owner = Some 2; flag = true; posture = Closed } ∷ owned (Some 0) Closed ∷ owned (Some 1) OpenIn
      ∷ replicate 7 free_zone;
  full = replicate 16 true;
  stamp = 7;
  stopped = true;
}

pub record PosturesAreOf : Type 0 where
  pub start : HasPosturesOf lift_table lift_start like_start
  pub other : ¬ HasPosturesOf lift_table lift_start full_press
  pub second_zone
      : ¬ HasPosturesOf lift_table lift_start
      (record like_start { zones = free_zone ∷ replicate 9 (owned None OpenIn) })
