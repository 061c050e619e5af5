-- Literal rows of the parts that exclusions, masks, faults and poses are made of, and what fits the press or doesn't.
use Rattle.std.specs.Prelude.{◌≡◌, Bool, true, false, List, [], ◌∷◌, ◌++◌, map, replicate, Some, None}
use Rattle.plan_types.specs.declared.posture.Posture.TheVariants.{Closed, Moving, OpenIn, OpenOut}
use Rattle.plan_types.specs.declared.call.Call.TheVariants.{Claim, Release, SetPose}
use Rattle.plan_types.specs.Examples.{press_table, lift_table}
use Rattle.plan_types.specs.Readings.{postures}
use Rattle.plan_rules.specs.State.{free_zone}
use Rattle.plan_rules.specs.Examples.{press_start}
use Rattle.plan_motors.specs.declared.motor.ZoneNeed.{ZoneNeed}
use Rattle.plan_motors.specs.declared.motor.Motor.{Motor}
use Rattle.plan_motors.specs.declared.exclusion.Cause.TheVariants.{Zone, Place}
use Rattle.plan_motors.specs.declared.exclusion.Exclusion.TheVariants.{Excluded}
use Rattle.plan_motors.specs.Motor.{no_need, has_posture}
use Rattle.plan_motors.specs.OfPlan.{is_needed, motor_at, hazard_at, IsMotorOf, AreMotorsOf}
use Rattle.plan_motors.specs.Exclusion as excluding
use Rattle.plan_motors.specs.Decided.{IsShown, IsApartByPlace}
use Rattle.plan_motors.specs.Laws.{LosesPermission, KeepsPermission, MayStillRun, MayRun}
use Rattle.plan_types.specs.declared.shape.Postures.TheVariants.{All}
use Rattle.plan_motors.specs.Mask as masks
use Rattle.plan_motors.specs.Poses as poses
use Rattle.plan_motors.specs.Examples.{owned, held, hosted, motor, at_zone, at_place, hazard, ram, arm, loading_arm}
use Rattle.plan_motors.specs.Examples.{valve, heater, fan, cabin, lower_gate, upper_gate}
use Rattle.plan_motors.specs.RunExamples.{moves, opens, press_asks, state_after}

-- needs of each kind: nothing, to hold a zone, a posture of it, or both
abbrev pub needs : List ZoneNeed
needs = no_need ∷ held None ∷ hosted OpenOut ∷ held (Some Moving) ∷ []

-- a motor of a machine that the press's plan doesn't have
abbrev pub strange : Motor
strange = motor 2 (held None) no_need None None

-- two motors of a lift, of which the second one needs something else of each zone
abbrev pub rider : Motor
rider = motor 2 no_need (held (Some OpenOut)) (Some true) None

abbrev pub hoist : Motor
hoist = motor 0 (held (Some Moving)) (hosted Closed) (Some false) (Some true)

pub record ExclusionParts : Type 0 where
  pub needed : map is_needed needs ≡ false ∷ true ∷ true ∷ true ∷ []
  pub any_posture : map (has_posture None) postures ≡ true ∷ true ∷ true ∷ true ∷ []
  pub one_posture : map (has_posture (Some OpenIn)) postures ≡ false ∷ false ∷ true ∷ false ∷ []
  -- of the lift's zones: the first one's owner and posture, or else the second one's
  pub owners : map (excluding.owner_needed rider hoist) (0 ∷ 1 ∷ 2 ∷ []) ≡ Some 0 ∷ Some 2 ∷ None ∷ []
  pub owner_of_first : excluding.owner_needed lower_gate cabin 0 ≡ Some 1
  pub owner_of_second : excluding.owner_needed cabin lower_gate 0 ≡ Some 0
  pub postures_needed : map (excluding.posture_needed rider hoist) (0 ∷ 1 ∷ 2 ∷ [])
      ≡ Some Moving ∷ Some OpenOut ∷ None ∷ []
  pub posture_of_first : excluding.posture_needed hoist rider 1 ≡ Some Closed
  -- of the lift's upper zone, whose host is 0 and whose guest is 2
  pub owner_for : map (λ o. excluding.owner_for lift_table 1 o (Some Moving)) (None ∷ Some 2 ∷ [])
      ≡ Some 0 ∷ Some 2 ∷ []
  pub no_owner_for : map (λ q. excluding.owner_for lift_table 1 None q) (None ∷ Some Closed ∷ Some OpenIn ∷ [])
      ≡ None ∷ None ∷ None ∷ []
  pub posture_for : map (λ o. excluding.posture_for lift_table 1 o None) (None ∷ Some 0 ∷ Some 1 ∷ Some 2 ∷ [])
      ≡ Closed ∷ Closed ∷ Closed ∷ OpenIn ∷ []
  pub posture_given : excluding.posture_for lift_table 1 (Some 2) (Some Closed) ≡ Closed
  pub zones_for : map (excluding.zone_for lift_table rider hoist) (0 ∷ 1 ∷ 2 ∷ [])
      ≡ owned (Some 0) Moving ∷ owned (Some 2) OpenOut ∷ owned None Closed ∷ []
  -- by the host, the guest, a stranger and nobody, in each posture
  pub lawful_hosts : map (λ q. excluding.is_lawful lift_table 1 (owned (Some 0) q)) postures
      ≡ true ∷ true ∷ true ∷ true ∷ []
  pub lawful_guests : map (λ q. excluding.is_lawful lift_table 1 (owned (Some 2) q)) postures
      ≡ false ∷ false ∷ true ∷ true ∷ []
  pub lawful_strangers : map (λ q. excluding.is_lawful lift_table 1 (owned (Some 1) q)) postures
      ≡ false ∷ false ∷ false ∷ false ∷ []
  pub lawful_nobodys : map (λ q. excluding.is_lawful lift_table 1 (owned None q)) postures
      ≡ true ∷ false ∷ true ∷ true ∷ []
  pub shared : excluding.is_shared lift_table cabin cabin 1 (owned (Some 0) Moving) ≡ true
  pub not_of_first : excluding.is_shared lift_table cabin lower_gate 1 (owned (Some 0) Closed) ≡ false
  pub not_of_second : excluding.is_shared lift_table lower_gate cabin 1 (owned (Some 0) Closed) ≡ false
  pub not_lawful : excluding.is_shared lift_table lower_gate upper_gate 1 (owned (Some 2) Closed) ≡ false
  pub zone_causes : map (excluding.zone_cause lift_table cabin upper_gate) (0 ∷ 1 ∷ []) ≡ None ∷ Some (Zone 1) ∷ []
  pub opposite : map (excluding.are_opposite (Some true)) (None ∷ Some true ∷ Some false ∷ [])
      ≡ false ∷ false ∷ true ∷ []
  pub opposite_too : map (excluding.are_opposite (Some false)) (None ∷ Some true ∷ Some false ∷ [])
      ≡ false ∷ true ∷ false ∷ []
  pub unneeded : map (excluding.are_opposite None) (None ∷ Some true ∷ Some false ∷ []) ≡ false ∷ false ∷ false ∷ []
  pub place_causes : map (excluding.place_cause rider hoist) (0 ∷ 1 ∷ 2 ∷ []) ≡ Some (Place 0) ∷ None ∷ None ∷ []
  pub zones_in : map (excluding.zone_in lift_table (at_zone 0 1 (held None)) (at_zone 0 2 (held None))) (0 ∷ 1 ∷ 2 ∷ [])
      ≡ owned None Closed ∷ owned (Some 0) Closed ∷ free_zone ∷ []
  pub places_in : map (excluding.place_in lift_table (at_place 1 1 true) (at_place 2 3 true)) (0 ∷ 1 ∷ 2 ∷ 3 ∷ [])
      ≡ false ∷ true ∷ false ∷ false ∷ []

pub record MaskParts : Type 0 where
  pub zones : map (λ need. masks.zone_mask lift_table (motor 0 need no_need None None) 0) needs ≡ 0 ∷ 3 ∷ 24 ∷ 27 ∷ []
  -- the host, the guest, and who is neither, hold the upper zone, and the lower one
  pub owners : map (λ m. masks.zone_pattern lift_table (motor m no_need (held None) None None) 1) (0 ∷ 1 ∷ 2 ∷ [])
      ≡ 1 ∷ 3 ∷ 2 ∷ []
  pub owners_below : map (λ m. masks.zone_pattern lift_table (motor m (held None) no_need None None) 0) (0 ∷ 1 ∷ 2 ∷ [])
      ≡ 1 ∷ 2 ∷ 3 ∷ []
  pub postures : map (masks.posture_pattern All) (None ∷ Some Closed ∷ Some Moving ∷ Some OpenIn ∷ Some OpenOut ∷ [])
      ≡ 0 ∷ 0 ∷ 1 ∷ 2 ∷ 3 ∷ []
  pub patterns : map (λ need. masks.zone_pattern lift_table (motor 2 no_need need None None) 1) needs
      ≡ 0 ∷ 2 ∷ 24 ∷ 10 ∷ []
  pub place_masks : map masks.place_mask (None ∷ Some false ∷ Some true ∷ []) ≡ 0 ∷ 1 ∷ 1 ∷ []
  pub place_patterns : map masks.place_pattern (None ∷ Some false ∷ Some true ∷ []) ≡ 0 ∷ 0 ∷ 1 ∷ []
  -- by how many zones, and places
  pub zone_masks : map (masks.zone_masks lift_table hoist) (0 ∷ 1 ∷ 2 ∷ []) ≡ 0 ∷ 27 ∷ 795 ∷ []
  pub zone_patterns : map (masks.zone_patterns lift_table hoist) (0 ∷ 1 ∷ 2 ∷ []) ≡ 0 ∷ 9 ∷ 9 ∷ []
  pub masks_of_places : map (masks.place_masks lift_table hoist) (0 ∷ 1 ∷ 2 ∷ 3 ∷ []) ≡ 0 ∷ 1024 ∷ 3072 ∷ 3072 ∷ []
  pub patterns_of_places : map (masks.place_patterns lift_table hoist) (0 ∷ 1 ∷ 2 ∷ 3 ∷ []) ≡ 0 ∷ 0 ∷ 2048 ∷ 2048 ∷ []
  pub anything : map (masks.allows masks.no_mask) (0 ∷ 5 ∷ []) ≡ true ∷ true ∷ []
  pub several : map (masks.mask_at (record { mask = 3; pattern = 1 } ∷ record { mask = 5; pattern = 4 } ∷ []))
      (0 ∷ 1 ∷ 2 ∷ [])
      ≡ record { mask = 3; pattern = 1 } ∷ record { mask = 5; pattern = 4 } ∷ record { mask = 0; pattern = 0 } ∷ []

-- motors of the press and of the lift, and motors that aren't: each breaks one rule alone
pub record MotorsFit : Type 0 where
  pub rams : AreMotorsOf press_table (ram ∷ arm ∷ loading_arm ∷ valve ∷ heater ∷ fan ∷ [])
      (hazard 0 1 ∷ hazard 5 2 ∷ [])
  pub gates : AreMotorsOf lift_table (cabin ∷ lower_gate ∷ upper_gate ∷ []) (hazard 0 2 ∷ hazard 2 1 ∷ hazard 1 1 ∷ [])
  pub none : AreMotorsOf press_table [] []
  pub no_machine : ¬ IsMotorOf press_table (motor 2 no_need no_need None None)
  pub no_party : ¬ IsMotorOf lift_table (motor 1 no_need (held None) None None)
  pub far_zone : ¬ IsMotorOf press_table (at_zone 1 9 (held None))
  pub guest_posture : ¬ IsMotorOf lift_table (motor 2 no_need (hosted OpenIn) None None)
  pub anothers_place : ¬ IsMotorOf press_table (motor 1 no_need no_need (Some true) None)
  pub far_place : ¬ IsMotorOf press_table (at_place 1 15 false)
  pub never : ¬ IsMotorOf press_table (motor 0 (held (Some Moving)) no_need None None)
  pub too_many : ¬ AreMotorsOf press_table (replicate 65 ram) []
  pub second_motor : ¬ AreMotorsOf press_table (ram ∷ strange ∷ []) []
  pub no_first : ¬ AreMotorsOf press_table (ram ∷ arm ∷ []) (hazard 0 1 ∷ hazard 2 0 ∷ [])
  pub no_second : ¬ AreMotorsOf press_table (ram ∷ arm ∷ []) (hazard 0 1 ∷ hazard 0 2 ∷ [])
  pub by_number : map (motor_at (ram ∷ arm ∷ [])) (0 ∷ 1 ∷ 2 ∷ [])
      ≡ ram ∷ arm ∷ record { machine = 0; zones = replicate 10 no_need; places = replicate 16 None } ∷ []
  pub hazard_by_number : map (hazard_at (hazard 3 4 ∷ hazard 5 6 ∷ [])) (0 ∷ 1 ∷ 2 ∷ [])
      ≡ hazard 3 4 ∷ hazard 5 6 ∷ hazard 0 0 ∷ []
  -- what answers show
  pub zone_shown : IsShown press_table ram arm (Excluded (Zone 0))
  pub upper_zone_shown : IsShown lift_table cabin upper_gate (Excluded (Zone 1))
  pub place_shown : IsShown press_table valve heater (Excluded (Place 1))
  pub by_place : IsApartByPlace heater valve 1
  pub not_by_place : ¬ IsApartByPlace heater valve 0

-- a motor of the loader that needs the press's posture, which the loader doesn't hold: no motor of the press
abbrev pub onlooker : Motor
onlooker = motor 0 (hosted Moving) no_need None None

pub record LossesAreMet : Type 0 where
  pub anothers_call : ¬ LosesPermission press_table (state_after moves) 1 (SetPose 0) onlooker
  pub not_permitted : ¬ LosesPermission press_table (state_after []) 1 (Claim 0) ram
  pub still_permitted : ¬ LosesPermission press_table (state_after moves) 1 (Release 0) ram
  pub kept : KeepsPermission press_table (state_after moves) [] ram
  pub lost_later : ¬ KeepsPermission press_table (state_after moves) (press_asks ++ opens) ram
  pub never_read : ¬ MayStillRun press_table press_start [] moves ram
  pub lost_since : ¬ MayStillRun press_table press_start moves opens ram
  pub read_now : MayRun press_table press_start moves ram
  pub read_before : MayRun press_table press_start (moves ++ press_asks) ram

abbrev pub none_found : List Bool
none_found = replicate 10 false

abbrev pub first_found : List Bool
first_found = true ∷ replicate 9 false

-- the press, 1, hosts one zone. Its pose 0 opens it inward, 2 closes it, both after moving; 3 moves it. The ram and the
-- valve may be permitted both while the zone moves, the arm while it is open
pub record PoseParts : Type 0 where
  pub at_once : map (poses.leads_on press_table ram valve false 0) postures ≡ false ∷ true ∷ false ∷ false ∷ []
  pub by_moving : map (poses.leads_on press_table arm arm true 0) postures ≡ false ∷ true ∷ false ∷ false ∷ []
  pub open_at_once : map (poses.leads_on press_table arm arm false 0) postures ≡ false ∷ false ∷ true ∷ true ∷ []
  pub matter : map (poses.matters lift_table 0 first_found) (0 ∷ 1 ∷ 2 ∷ []) ≡ false ∷ true ∷ false ∷ []
  pub no_host : map (poses.matters lift_table 2 none_found) (0 ∷ 1 ∷ 2 ∷ []) ≡ false ∷ false ∷ false ∷ []
  pub given : map (poses.given_leads_on press_table ram valve false 0) (None ∷ Some Closed ∷ Some Moving ∷ [])
      ≡ true ∷ false ∷ true ∷ []
  pub any_before : map (poses.is_any_before press_table first_found 3) (0 ∷ 1 ∷ []) ≡ true ∷ false ∷ []
  pub any_by_pose : map (poses.is_any_before press_table none_found 3) (0 ∷ 1 ∷ []) ≡ true ∷ false ∷ []
  pub none_before : poses.is_any_before press_table none_found 4 0 ≡ false
  pub to_danger : poses.LeadToDanger press_table ram valve 1 (λ z. Closed)
  pub in_danger : poses.LeadToDanger press_table ram valve 1 (λ z. Moving)
  pub further : poses.LeadsFurther press_table ram valve 1 none_found false 3
  pub gives_ill : ¬ poses.GivesWell press_table ram valve 1 none_found false 2
  pub gives_well : poses.GivesWell press_table ram valve 1 none_found false 3
  pub anothers_pose : ¬ poses.LeadsFurther press_table ram valve 0 none_found false 3
  pub after_moving : ¬ poses.LeadsFurther press_table arm arm 1 none_found false 0
  pub not_well : ¬ poses.LeadsFurther press_table arm arm 1 none_found false 3
  pub no_further : ¬ poses.LeadsFurther press_table ram valve 1 first_found false 3
  pub leaves : poses.LeavesAlone press_table 1 first_found 3
  pub leaves_not : ¬ poses.LeavesAlone press_table 1 none_found 3
  pub moving : poses.LeadsByMoving press_table arm arm 1 none_found 0
  pub waits_not : ¬ poses.LeadsByMoving press_table ram valve 1 none_found 3
  pub leads_not : ¬ poses.LeadsByMoving press_table arm arm 1 none_found 2
  pub anothers_moving : ¬ poses.LeadsByMoving press_table arm arm 0 none_found 0
  pub not_there : ¬ poses.LeadsByMoving press_table arm arm 0 none_found 4

pub record PartsAreRight : Type 0 where
  pub exclusions : ExclusionParts
  pub masks : MaskParts
  pub fits : MotorsFit
  pub losses : LossesAreMet
  pub poses : PoseParts
