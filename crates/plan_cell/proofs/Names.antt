-- What the tables of the cell and those of its plan say alike.
use Rattle.std.proofs.Common.{◌≡◌, Bool, true, false, ◌&&◌, ◌||◌, not, nat_eq, nat_lt, ◌∷◌, replicate, get_or, set, Option, Some, None, refl, ap, ap₂, ◌∙◌, if◌then◌else◌}
use Rattle.std.specs.Prelude.{option_map}
use Rattle.cell_types.specs.declared.machine.Machine.{Machine}
use Rattle.cell_types.specs.declared.machine.Machine.TheVariants.{Feed, Table as TableMachine, Robot, Press, Deposit, Crane as CraneMachine, Watch}
use Rattle.cell_types.specs.declared.zone.Zone.{Zone}
use Rattle.cell_types.specs.declared.zone.Zone.TheVariants.{Z1, Z2, Z3, Z4, Z5, Z6}
use Rattle.cell_types.specs.declared.zone.Transfer.{Transfer}
use Rattle.cell_types.specs.declared.place.Place.{Place}
use Rattle.cell_types.specs.declared.posture.Posture.{Posture}
use Rattle.cell_types.specs.declared.posture.Posture.TheVariants.{Closed, Moving, OpenIn, OpenOut}
use Rattle.cell_types.specs.declared.pose.Pose.{Pose}
use Rattle.cell_types.specs.declared.pose.Pose.TheVariants.{Turning, Loading, Unloading, Travelling, Middle, Low, Top, Running, Landing, Halted, Offering, Standing}
use Rattle.cell_types.specs.Same.{same_machine, same_posture}
use Rattle.cell_types.specs.Tables as cell
use Rattle.cell_rules.specs.declared.zones.ZoneState.{ZoneState}
use Rattle.cell_rules.specs.ZoneMap.{put_zone}
use Rattle.cell_rules.specs.PlaceSet.{put_place}
use Rattle.cell_rules.specs.ModelState.{ModelState, zone_at, is_full}
use Rattle.cell_rules.specs.Sound.{is_open, is_owned_by, is_party}
use Rattle.cell_rules.specs.Refusals.{has_pose, is_moving_pose, passes_through_moving}
use Rattle.cell_rules.specs.Reply.{other_party}
use Rattle.cell_rules.proofs.lemmas.Puts.{each_zone, each_place}
use Rattle.plan_types.specs.declared.posture.Posture.{Posture as PlanPosture}
use Rattle.plan_types.specs.declared.table.Transfer.{Transfer as PlanTransfer}
use Rattle.plan_types.specs.declared.table.PlanPose.{PlanPose}
use Rattle.plan_types.specs.Same.{same_posture as plan_same_posture}
use Rattle.plan_types.specs.Table as plan
use Rattle.plan_rules.specs.State.{zone_at as plan_zone_at, is_full as plan_is_full}
use Rattle.plan_rules.specs.Sound.{is_open as plan_is_open, is_owned_by as plan_is_owned_by}
use Rattle.plan_rules.specs.Reply.{other_party as plan_other_party}
use Rattle.plan_cell.specs.Numbers.{machine_number, zone_number, place_number, pose_number, plan_posture}
use Rattle.plan_cell.specs.CellPlan.{cell_table}
use Rattle.plan_cell.specs.Mapping.{plan_zone, plan_state}

each_machine : (P : Machine → Type 0) → P Feed → P TableMachine → P Robot → P Press → P Deposit → P CraneMachine → P Watch → (m : Machine) → P m
each_machine P a _ _ _ _ _ _ Feed = a
each_machine P _ a _ _ _ _ _ TableMachine = a
each_machine P _ _ a _ _ _ _ Robot = a
each_machine P _ _ _ a _ _ _ Press = a
each_machine P _ _ _ _ a _ _ Deposit = a
each_machine P _ _ _ _ _ a _ CraneMachine = a
each_machine P _ _ _ _ _ _ a Watch = a

each_posture : (P : Posture → Type 0) → P Closed → P Moving → P OpenIn → P OpenOut → (q : Posture) → P q
each_posture P a _ _ _ Closed = a
each_posture P _ a _ _ Moving = a
each_posture P _ _ a _ OpenIn = a
each_posture P _ _ _ a OpenOut = a

-- ---- names that are the same

pub same_numbers : (a b : Machine) → nat_eq (machine_number a) (machine_number b) ≡ same_machine a b
same_numbers =
    let At : Machine → Machine → Type 0 = λ a b. nat_eq (machine_number a) (machine_number b) ≡ same_machine a b in
    each_machine (λ a. (b : Machine) → At a b)
    (each_machine (At Feed) refl refl refl refl refl refl refl)
    (each_machine (At TableMachine) refl refl refl refl refl refl refl)
    (each_machine (At Robot) refl refl refl refl refl refl refl)
    (each_machine (At Press) refl refl refl refl refl refl refl)
    (each_machine (At Deposit) refl refl refl refl refl refl refl)
    (each_machine (At CraneMachine) refl refl refl refl refl refl refl)
    (each_machine (At Watch) refl refl refl refl refl refl refl)

pub same_postures : (a b : Posture) → plan_same_posture (plan_posture a) (plan_posture b) ≡ same_posture a b
same_postures =
    let At : Posture → Posture → Type 0 = λ a b. plan_same_posture (plan_posture a) (plan_posture b) ≡ same_posture a b in
    each_posture (λ a. (b : Posture) → At a b)
    (each_posture (At Closed) refl refl refl refl)
    (each_posture (At Moving) refl refl refl refl)
    (each_posture (At OpenIn) refl refl refl refl)
    (each_posture (At OpenOut) refl refl refl refl)

pub opens_alike : (q : Posture) → plan_is_open (plan_posture q) ≡ is_open q
opens_alike = each_posture (λ q. plan_is_open (plan_posture q) ≡ is_open q) refl refl refl refl

pub owned_alike : (o : Option Machine) (m : Machine) → plan_is_owned_by (option_map machine_number o) (machine_number m) ≡ is_owned_by o m
owned_alike None m = refl
owned_alike (Some o) m = same_numbers o m

-- ---- zones and places

pub zone_is : (s : ModelState) (z : Zone) → plan_zone_at (plan_state s) (zone_number z) ≡ plan_zone (zone_at s z)
zone_is s = each_zone (λ z. plan_zone_at (plan_state s) (zone_number z) ≡ plan_zone (zone_at s z)) refl refl refl refl refl refl

pub full_is : (s : ModelState) (p : Place) → plan_is_full (plan_state s) (place_number p) ≡ is_full s p
full_is s = each_place (λ p. plan_is_full (plan_state s) (place_number p) ≡ is_full s p) refl refl refl refl refl refl refl refl refl refl

pub there : (z : Zone) → nat_lt (zone_number z) 6 ≡ true
there = each_zone (λ z. nat_lt (zone_number z) 6 ≡ true) refl refl refl refl refl refl

pub host_is : (z : Zone) → plan.host_of cell_table (zone_number z) ≡ machine_number (cell.host_of z)
host_is = each_zone (λ z. plan.host_of cell_table (zone_number z) ≡ machine_number (cell.host_of z)) refl refl refl refl refl refl

pub guest_is : (z : Zone) → plan.guest_of cell_table (zone_number z) ≡ machine_number (cell.guest_of z)
guest_is = each_zone (λ z. plan.guest_of cell_table (zone_number z) ≡ machine_number (cell.guest_of z)) refl refl refl refl refl refl

pub hosts_alike : (m : Machine) (z : Zone) → nat_eq (machine_number m) (plan.host_of cell_table (zone_number z)) ≡ same_machine m (cell.host_of z)
hosts_alike m z = ap (nat_eq (machine_number m)) (host_is z) ∙ same_numbers m (cell.host_of z)

pub hosted_alike : (m : Machine) (z : Zone) → nat_eq (plan.host_of cell_table (zone_number z)) (machine_number m) ≡ same_machine (cell.host_of z) m
hosted_alike m z = ap (λ n. nat_eq n (machine_number m)) (host_is z) ∙ same_numbers (cell.host_of z) m

pub guests_alike : (m : Machine) (z : Zone) → nat_eq (machine_number m) (plan.guest_of cell_table (zone_number z)) ≡ same_machine m (cell.guest_of z)
guests_alike m z = ap (nat_eq (machine_number m)) (guest_is z) ∙ same_numbers m (cell.guest_of z)

pub party_alike : (m : Machine) (z : Zone) → plan.is_party cell_table (machine_number m) (zone_number z) ≡ is_party m z
party_alike m z =
    ap (λ b. b && (nat_eq (machine_number m) (plan.host_of cell_table (zone_number z)) || nat_eq (machine_number m) (plan.guest_of cell_table (zone_number z)))) (there z)
    ∙ ap₂ (λ a b. a || b) (hosts_alike m z) (guests_alike m z)

chosen : (b : Bool) (x y : Machine) → (if b then machine_number x else machine_number y) ≡ machine_number (if b then x else y)
chosen true x y = refl
chosen false x y = refl

pub other_alike : (m : Machine) (z : Zone) → plan_other_party cell_table (machine_number m) (zone_number z) ≡ machine_number (other_party m z)
other_alike m z =
    ap (λ b. if b then plan.guest_of cell_table (zone_number z) else plan.host_of cell_table (zone_number z)) (hosts_alike m z)
    ∙ ap₂ (λ g h. if same_machine m (cell.host_of z) then g else h) (guest_is z) (host_is z)
    ∙ chosen (same_machine m (cell.host_of z)) (cell.guest_of z) (cell.host_of z)

-- one zone, or one place, is put
pub zones_put : (s : ModelState) (v : ZoneState) (z : Zone) → set (plan_state s).zones (zone_number z) (plan_zone v) ≡ (plan_state (record s { zones = put_zone s.zones z v })).zones
zones_put s v = each_zone (λ z. set (plan_state s).zones (zone_number z) (plan_zone v) ≡ (plan_state (record s { zones = put_zone s.zones z v })).zones) refl refl refl refl refl refl

pub places_put : (s : ModelState) (b : Bool) (p : Place) → set (plan_state s).full (place_number p) b ≡ (plan_state (record s { full = put_place s.full p b })).full
places_put s b = each_place (λ p. set (plan_state s).full (place_number p) b ≡ (plan_state (record s { full = put_place s.full p b })).full) refl refl refl refl refl refl refl refl refl refl

-- ---- ways

abbrev pub plan_transfer : Transfer → PlanTransfer
plan_transfer row = record {
  giver = machine_number row.giver;
  receiver = machine_number row.receiver;
  from = place_number row.from;
  to = place_number row.to;
}

pub way_is : (z : Zone) (q : Posture) → plan.transfer_of cell_table (zone_number z) (plan_posture q) ≡ option_map plan_transfer (cell.transfer_of z q)
way_is =
    let At : Zone → Posture → Type 0 = λ z q. plan.transfer_of cell_table (zone_number z) (plan_posture q) ≡ option_map plan_transfer (cell.transfer_of z q) in
    each_zone (λ z. (q : Posture) → At z q)
    (each_posture (At Z1) refl refl refl refl)
    (each_posture (At Z2) refl refl refl refl)
    (each_posture (At Z3) refl refl refl refl)
    (each_posture (At Z4) refl refl refl refl)
    (each_posture (At Z5) refl refl refl refl)
    (each_posture (At Z6) refl refl refl refl)

-- ---- poses

abbrev pub given : Machine → Pose → Zone → Option PlanPosture
given m p z = option_map plan_posture (cell.posture_of m p z)

abbrev pub row_of : Machine → Pose → PlanPose
row_of m p = record {
  machine = machine_number m;
  after_moving = passes_through_moving m && not (is_moving_pose p);
  gives = given m p Z1 ∷ given m p Z2 ∷ given m p Z3 ∷ given m p Z4 ∷ given m p Z5 ∷ given m p Z6 ∷ replicate 4 None;
}

-- the row of a pose that a machine has
pub record PoseRow (m : Machine) (p : Pose) : Type 0 where
  pub row : plan.pose_row cell_table (pose_number m p) ≡ row_of m p
  pub moving : plan.is_moving_pose cell_table (pose_number m p) ≡ is_moving_pose p
  pub has : plan.has_pose cell_table (machine_number m) (pose_number m p) ≡ true

pub pose_known : (m : Machine) (p : Pose) → has_pose m p ≡ true → PoseRow m p
pose_known TableMachine Turning h = record { row = refl; moving = refl; has = refl }
pose_known TableMachine Loading h = record { row = refl; moving = refl; has = refl }
pose_known TableMachine Unloading h = record { row = refl; moving = refl; has = refl }
pose_known Press Travelling h = record { row = refl; moving = refl; has = refl }
pose_known Press Middle h = record { row = refl; moving = refl; has = refl }
pose_known Press Low h = record { row = refl; moving = refl; has = refl }
pose_known Press Top h = record { row = refl; moving = refl; has = refl }
pose_known Feed Running h = record { row = refl; moving = refl; has = refl }
pose_known Feed Landing h = record { row = refl; moving = refl; has = refl }
pose_known Feed Halted h = record { row = refl; moving = refl; has = refl }
pose_known Deposit Running h = record { row = refl; moving = refl; has = refl }
pose_known Deposit Landing h = record { row = refl; moving = refl; has = refl }
pose_known Deposit Offering h = record { row = refl; moving = refl; has = refl }
pose_known Deposit Standing h = record { row = refl; moving = refl; has = refl }
pose_known Deposit Halted h = record { row = refl; moving = refl; has = refl }
pose_known m p h = cc

posture_in : (m : Machine) (p : Pose) (z : Zone) → get_or (row_of m p).gives (zone_number z) None ≡ given m p z
posture_in m p = each_zone (λ z. get_or (row_of m p).gives (zone_number z) None ≡ given m p z) refl refl refl refl refl refl

pub posture_is : (m : Machine) (p : Pose) → PoseRow m p → (z : Zone) → plan.posture_of cell_table (pose_number m p) (zone_number z) ≡ given m p z
posture_is m p k z = ap (λ (r : PlanPose). get_or r.gives (zone_number z) None) k.row ∙ posture_in m p z
