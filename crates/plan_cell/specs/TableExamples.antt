-- The plan of the cell, read row by row, and states of the cell as states of its plan.
use Rattle.std.specs.Prelude.{◌≡◌, ◌≤◌, true, false, [], ◌∷◌, ◌++◌, map, replicate, Some, None}
use Rattle.std.specs.List.{range_with_len}
use Rattle.cell_types.specs.declared.machine.Machine.TheVariants.{Feed, Table, Robot, Press, Deposit, Crane, Watch}
use Rattle.cell_types.specs.declared.zone.Zone.TheVariants.{Z1, Z2, Z3, Z4, Z5, Z6}
use Rattle.cell_types.specs.declared.place.Place.TheVariants as place
use Rattle.cell_types.specs.declared.posture.Posture.TheVariants.{Closed, Moving, OpenIn, OpenOut}
use Rattle.cell_types.specs.declared.pose.Pose.TheVariants.{Middle, Low, Running}
use Rattle.cell_types.specs.declared.call.Call.TheVariants.{Yield, Release, SetPose, Advance, Stop, Resume}
use Rattle.cell_types.specs.declared.answer.Refusal.TheVariants.{PlaceFull, InUse}
use Rattle.cell_rules.specs.ZoneMap.{free_zone}
use Rattle.cell_rules.specs.PlaceSet.{empty, insert_place}
use Rattle.cell_rules.specs.ModelState.{ModelState}
use Rattle.cell_rules.specs.Sound.{IsSound}
use Rattle.plan_types.specs.declared.posture.Posture.TheVariants.{Closed as IsClosed, Moving as IsMoving}
use Rattle.plan_types.specs.declared.posture.Posture.TheVariants.{OpenIn as IsOpenIn, OpenOut as IsOpenOut}
use Rattle.plan_types.specs.declared.call.Call.TheVariants.{Stop as DoStop, Resume as DoResume}
use Rattle.plan_types.specs.declared.answer.Answer.TheVariants.{Shown}
use Rattle.plan_types.specs.Table as table
use Rattle.plan_types.specs.Readings.{transfer}
use Rattle.plan_rules.specs.State as plan
use Rattle.plan_rules.specs.Sound.{IsLawfulZone}
use Rattle.plan_cell.specs.Numbers.{zone_number, place_number, plan_call, plan_posture}
use Rattle.plan_cell.specs.CellPlan.{cell_table}
use Rattle.plan_cell.specs.Mapping.{plan_state, plan_zone}
use Rattle.plan_cell.specs.Laws.{feed_holds_back, is_own_rule, shown_in, SoundByPlan}
use Rattle.plan_cell.specs.OwnRuleExamples.{empty_cell}
use Rattle.plan_cell.specs.LawExamples.{held_in, cell_at, press_in, press_given, belt_runs, belt_end_full}

-- machines: 0 feed, 1 table, 2 robot, 3 press, 4 deposit, 5 crane
pub record TableRows : Type 0 where
  pub machines : cell_table.machines ≡ 6
  pub zones : table.zone_count cell_table ≡ 6
  pub places : table.place_count cell_table ≡ 10
  pub poses : table.pose_count cell_table ≡ 15
  pub hosts : map (table.host_of cell_table) (range_with_len 0 6) ≡ 1 ∷ 1 ∷ 3 ∷ 4 ∷ 4 ∷ 0 ∷ []
  pub guests : map (table.guest_of cell_table) (range_with_len 0 6) ≡ 0 ∷ 2 ∷ 2 ∷ 2 ∷ 5 ∷ 5 ∷ []
  pub keepers : map (table.keeper_of cell_table) (range_with_len 0 10) ≡ 0 ∷ 0 ∷ 1 ∷ 2 ∷ 3 ∷ 3 ∷ 2 ∷ 4 ∷ 4 ∷ 5 ∷ []
  pub inward : map (λ z. table.transfer_of cell_table z IsOpenIn) (range_with_len 0 6)
      ≡ transfer 0 1 1 2 ∷ None ∷ transfer 2 3 3 4 ∷ transfer 2 4 6 7 ∷ None ∷ transfer 5 0 9 0 ∷ []
  pub outward : map (λ z. table.transfer_of cell_table z IsOpenOut) (range_with_len 0 6)
      ≡ None ∷ transfer 1 2 2 3 ∷ transfer 3 2 5 6 ∷ None ∷ transfer 4 5 8 9 ∷ None ∷ []
  -- three poses of the table, four of the press, three of feed, five of deposit
  pub posing : map (table.machine_of cell_table) (range_with_len 0 15)
      ≡ 1 ∷ 1 ∷ 1 ∷ 3 ∷ 3 ∷ 3 ∷ 3 ∷ 0 ∷ 0 ∷ 0 ∷ 4 ∷ 4 ∷ 4 ∷ 4 ∷ 4 ∷ []
  pub after_moving : map (λ p. (table.pose_row cell_table p).after_moving) (range_with_len 0 15)
      ≡ false ∷ true ∷ true ∷ false ∷ true ∷ true ∷ true ∷ replicate 8 false
  pub table_z1 : map (λ p. table.posture_of cell_table p 0) (0 ∷ 1 ∷ 2 ∷ [])
      ≡ Some IsMoving ∷ Some IsOpenIn ∷ Some IsClosed ∷ []
  pub table_z2 : map (λ p. table.posture_of cell_table p 1) (0 ∷ 1 ∷ 2 ∷ [])
      ≡ Some IsMoving ∷ Some IsClosed ∷ Some IsOpenOut ∷ []
  pub press_z3 : map (λ p. table.posture_of cell_table p 2) (3 ∷ 4 ∷ 5 ∷ 6 ∷ [])
      ≡ Some IsMoving ∷ Some IsOpenIn ∷ Some IsOpenOut ∷ Some IsClosed ∷ []
  pub feed_z6 : map (λ p. table.posture_of cell_table p 5) (7 ∷ 8 ∷ 9 ∷ [])
      ≡ Some IsMoving ∷ Some IsOpenIn ∷ Some IsClosed ∷ []
  pub deposit_z4 : map (λ p. table.posture_of cell_table p 3) (10 ∷ 11 ∷ 12 ∷ 13 ∷ 14 ∷ [])
      ≡ Some IsMoving ∷ Some IsOpenIn ∷ Some IsClosed ∷ Some IsOpenIn ∷ Some IsClosed ∷ []
  pub deposit_z5 : map (λ p. table.posture_of cell_table p 4) (10 ∷ 11 ∷ 12 ∷ 13 ∷ 14 ∷ [])
      ≡ Some IsMoving ∷ Some IsClosed ∷ Some IsOpenOut ∷ Some IsOpenOut ∷ Some IsClosed ∷ []

pub record StatesByPlan : Type 0 where
  pub postures : map plan_posture (Closed ∷ Moving ∷ OpenIn ∷ OpenOut ∷ [])
      ≡ IsClosed ∷ IsMoving ∷ IsOpenIn ∷ IsOpenOut ∷ []
  pub zone : plan_zone (record (held_in Press OpenIn) { flag = true })
      ≡ record { owner = Some 3; flag = true; posture = IsOpenIn }
  pub free : plan_zone free_zone ≡ record { owner = None; flag = false; posture = IsClosed }
  pub state : plan_state (cell_at Z6 (held_in Crane OpenOut) (insert_place empty place.DepEnd) true)
      ≡ record {
        zones =
            replicate 5 plan.free_zone ++ record { owner = Some 5; flag = false; posture = IsOpenOut }
            ∷ replicate 4 plan.free_zone;
        full = replicate 8 false ++ true ∷ replicate 7 false;
        stamp = 1048574;
        stopped = true;
      }
  -- each zone, and each place, by its number
  pub zones : map (λ z. plan.owner_of (plan_state (cell_at z (held_in Robot OpenOut) empty false)) (zone_number z))
      (Z1 ∷ Z2 ∷ Z3 ∷ Z4 ∷ Z5 ∷ Z6 ∷ []) ≡ replicate 6 (Some 2)
  pub places : map (λ p. plan.is_full (plan_state (cell_at Z1 free_zone (insert_place empty p) false)) (place_number p))
      (place.FeedEntry ∷ place.FeedEnd ∷ place.Table ∷ place.Arm1 ∷ place.PressIn ∷ place.PressOut ∷ place.Arm2
      ∷ place.DepEntry ∷ place.DepEnd ∷ place.Crane ∷ []) ≡ replicate 10 true
  pub stop : map (plan_call Watch) (Stop ∷ Resume ∷ Advance ∷ []) ≡ Some DoStop ∷ Some DoResume ∷ None ∷ []
  pub shown : map (shown_in press_given) (Z3 ∷ Z4 ∷ []) ≡ Shown (Some 3) true IsOpenIn ∷ Shown None false IsClosed ∷ []

-- the cell's own rules: by whom, in which call, and with which refusal
pub record OwnRules : Type 0 where
  pub held_back : map feed_holds_back (belt_runs ∷ empty_cell ∷ belt_end_full Z6 Feed ∷ []) ≡ true ∷ false ∷ false ∷ []
  pub belt_is_empty : feed_holds_back (cell_at Z6 (held_in Feed Moving) empty true) ≡ false
  pub yield : map (λ m. is_own_rule belt_runs m (Yield Z1) InUse) (Feed ∷ Table ∷ Robot ∷ Press ∷ Deposit ∷ Crane ∷ [])
      ≡ true ∷ replicate 5 false
  pub release : map (λ z. is_own_rule belt_runs Feed (Release z) InUse) (Z1 ∷ Z2 ∷ Z3 ∷ Z4 ∷ Z5 ∷ Z6 ∷ [])
      ≡ true ∷ replicate 5 false
  pub other_refusal : is_own_rule belt_runs Feed (Yield Z1) PlaceFull ≡ false
  pub feed_runs : is_own_rule (belt_end_full Z6 Feed) Feed (SetPose Running) PlaceFull ≡ true
  pub feed_runs_empty : is_own_rule empty_cell Feed (SetPose Running) PlaceFull ≡ false
  pub deposit_runs : is_own_rule (belt_end_full Z1 Deposit) Deposit (SetPose Running) PlaceFull ≡ true
  pub press_opens : is_own_rule (press_in Moving (insert_place empty place.PressOut) true) Press (SetPose Middle)
      PlaceFull ≡ true
  pub press_opens_empty : is_own_rule (press_in Moving (insert_place empty place.PressIn) true) Press (SetPose Middle)
      PlaceFull ≡ false
  pub press_unloads : is_own_rule (press_in Moving (insert_place empty place.PressOut) true) Press (SetPose Low)
      PlaceFull ≡ false

-- what soundness by the plan says of any sound state of the cell
pub record SoundTells (s : ModelState) : Type 0 where
  pub plates : SoundByPlan → IsSound s → plan.plates_for cell_table (plan_state s) 4 ≤ 1
  pub zone : SoundByPlan → IsSound s → IsLawfulZone cell_table 5 (plan.zone_at (plan_state s) 5)
  pub stamp : SoundByPlan → IsSound s → s.stamp ≤ 1048575

pub record TableExamples : Type 0 where
  pub sound : (s : ModelState) → SoundTells s
  pub rows : TableRows
  pub states : StatesByPlan
  pub own : OwnRules
