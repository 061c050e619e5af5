-- Where plates are in the picture.
use Rattle.std.specs.Prelude.{ℕ, ◌-◌, ℤ, pos, neg_ℤ, Bool, true, false, not, ◌&&◌, nat_eq, List, [], ◌∷◌, Option}
use Rattle.std.specs.Prelude.{Some, None, int_lt, if◌then◌else◌}
use Rattle.std.specs.Int.{int_min}
use Rattle.cell_rules.specs.Types.{FeedEntry, FeedEnd, Arm1, PressIn, PressOut, Arm2, DepEntry, DepEnd, Posture}
use Rattle.cell_rules.specs.Types.{OpenOut, Z1, Z2, Z3, Z4, Z5, Z6}
use Rattle.cell_types.specs.declared.place.Place.TheVariants.{Table, Crane}
use Rattle.cell_rules.specs.Names.{ModelState, is_full, zone_at, posture_at}
use Rattle.cell_parts.specs.declared.plant.RobotPlant.{RobotPlant}
use Rattle.cell_plant.specs.declared.frame.Frame.{Frame}
use Rattle.cell_picture.specs.declared.plates.Spot.{Spot}
use Rattle.cell_picture.specs.Ramps.{less, ramp, ramp_at}

abbrev pub arm1_angle : RobotPlant → ℤ
arm1_angle r = ramp_at (ramp (neg_ℤ (pos 30)) (neg_ℤ (pos 50))) r.rotation.position

abbrev pub crane_way : Frame → ℤ
crane_way f = ramp_at (ramp (pos 0) (neg_ℤ (pos 59))) f.plant.crane.travel.position

abbrev pub at_table : ℤ → Spot
at_table right = record { angle = neg_ℤ (pos 60); reach = pos 136; right = right; down = pos 0; is_forged = false }

abbrev pub at_deposit : ℤ → ℤ → Spot
at_deposit right down = record {
  angle = neg_ℤ (pos 300);
  reach = pos 136;
  right = right;
  down = down;
  is_forged = true;
}

abbrev pub in_press : Bool → Spot
in_press forged = record { angle = neg_ℤ (pos 180); reach = pos 158; right = pos 0; down = pos 0; is_forged = forged }

-- where the gripper puts a plate on the feed belt: it is a blank again
abbrev pub put_on_feed : Spot
put_on_feed = record (at_deposit (pos 350) (neg_ℤ (pos 236))) { is_forged = false }

abbrev pub or_entry : Option ℤ → ℤ
or_entry None = pos 0
or_entry (Some position) = position

-- in the light barrier a plate moves on to the table, and so it goes faster in the picture
unfoldable pub on_feed : Option ℤ → Spot
on_feed plate =
    let position = or_entry plate in
    at_table (if int_lt position (pos 900) then ramp_at (ramp (pos 350) (neg_ℤ (pos 160))) position
    else ramp_at (ramp (pos 62) (neg_ℤ (pos 310))) (less (int_min position (pos 1000)) (pos 900)))

unfoldable pub on_deposit : Option ℤ → Spot
on_deposit plate = at_deposit (ramp_at (ramp (pos 0) (pos 175)) (int_min (or_entry plate) (pos 1000))) (pos 0)

-- on an arm or at the gripper while its magnet is on, else where it was put
unfoldable pub on_arm1 : RobotPlant → Spot → Spot
on_arm1 r put =
    if r.magnet1 then record {
      angle = arm1_angle r;
      reach = ramp_at (ramp (pos 70) (pos 55)) r.arm1.position;
      right = pos 0;
      down = pos 0;
      is_forged = false;
    }
    else put

unfoldable pub on_arm2 : RobotPlant → Spot → Spot
on_arm2 r put =
    if r.magnet2 then record {
      angle = less (arm1_angle r) (pos 90);
      reach = ramp_at (ramp (pos 70) (pos 55)) r.arm2.position;
      right = pos 0;
      down = pos 0;
      is_forged = true;
    }
    else put

unfoldable pub at_gripper : Frame → Spot → Spot
at_gripper f put = if f.plant.crane.magnet then at_deposit (pos 350) (crane_way f) else put

abbrev pub is_open_out : Posture → Bool
is_open_out OpenOut = true
is_open_out _ = false

-- a plate is in the press, and isn't on its way out; or it is
unfoldable pub comes_in : ModelState → Bool
comes_in s = (zone_at s Z3).flag && not (is_open_out (posture_at s Z3))

unfoldable pub goes_out : ModelState → Bool
goes_out s = (zone_at s Z3).flag && is_open_out (posture_at s Z3)

-- the stages of a plate's way: whether a plate is there, and where that is
unfoldable pub stages : Frame → List (Bool × Spot)
stages f =
    let s = f.state in
    let p = f.plant in
    (is_full s FeedEntry, on_feed p.feed.entry) ∷ (is_full s FeedEnd, on_feed p.feed.last)
    ∷ ((zone_at s Z1).flag, at_table (pos 0)) ∷ (is_full s Table, at_table (pos 0))
    ∷ ((zone_at s Z2).flag, on_arm1 p.robot (at_table (pos 0))) ∷ (is_full s Arm1, on_arm1 p.robot (in_press false))
    ∷ (comes_in s, in_press false) ∷ (is_full s PressIn, in_press false) ∷ (is_full s PressOut, in_press true)
    ∷ (goes_out s, on_arm2 p.robot (in_press true)) ∷ (is_full s Arm2, on_arm2 p.robot (at_deposit (pos 0) (pos 0)))
    ∷ ((zone_at s Z4).flag, at_deposit (pos 0) (pos 0)) ∷ (is_full s DepEntry, on_deposit p.deposit.entry)
    ∷ (is_full s DepEnd, on_deposit p.deposit.last) ∷ ((zone_at s Z5).flag, at_gripper f (on_deposit (Some (pos 1000))))
    ∷ (is_full s Crane, at_gripper f put_on_feed) ∷ ((zone_at s Z6).flag, put_on_feed) ∷ []

-- the plate with this number, in the order of the stages
abbrev pub nth_there : List (Bool × Spot) → ℕ → Option Spot
nth_there [] n = None
nth_there (stage ∷ rest) n = if stage.0 then (if nat_eq n 0 then Some stage.1 else nth_there rest (n - 1))
    else nth_there rest n

unfoldable pub plate_spot : Frame → ℕ → Option Spot
plate_spot f n = nth_there (stages f) n
