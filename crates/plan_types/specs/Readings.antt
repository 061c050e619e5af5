-- What literal tables say about a pose, a zone, a machine and a plate's way.
use Rattle.std.specs.Prelude.{◌≡◌, ℕ, ◌+◌, ◌*◌, Bool, true, false, nat_eq, nat_lt, List, [], ◌∷◌, ◌++◌, map, replicate}
use Rattle.std.specs.Prelude.{Option, Some, None}
use Rattle.std.specs.Bool.{then_some}
use Rattle.plan_types.specs.declared.posture.Posture.{Posture}
use Rattle.plan_types.specs.declared.posture.Posture.TheVariants.{Closed, Moving, OpenIn, OpenOut}
use Rattle.plan_types.specs.declared.table.Transfer.{Transfer}
use Rattle.plan_types.specs.declared.table.PlanPose.{PlanPose}
use Rattle.plan_types.specs.declared.shape.Postures.TheVariants.{Shut, Two, All}
use Rattle.plan_types.specs.declared.shape.ZoneShape.{ZoneShape}
use Rattle.plan_types.specs.Same.{same_posture}
use Rattle.plan_types.specs.Below.{first_below, any_below, sum_below}
use Rattle.plan_types.specs.Table.{PlanTable, plan_table, watch, is_party, has_pose, is_moving_pose, transfer_of}
use Rattle.plan_types.specs.Table.{zone_count, pose_count, place_count, word_width, zone_row, pose_row, keeper_of}
use Rattle.plan_types.specs.Table.{host_of, guest_of, machine_of, posture_of, is_hosted, is_place_of}
use Rattle.plan_types.specs.Table.{place_row, kept_by, is_source, is_sink, has_end}
use Rattle.plan_types.specs.Plan.{leads}
use Rattle.plan_types.specs.Table.{zone_shape, postures_of, posture_bits, shape_bits, zone_bits}
use Rattle.plan_types.specs.Examples.{way, zone, pose, press_table, lift_table, large_table, two_at, gives_at, counted}
use Rattle.plan_types.specs.Examples.{wide_table, gated_table, roads_table, rack_table, lathe_table, plant_table}
use Rattle.plan_types.specs.Examples.{open_press_table, through_table}

-- one pose, which gives two zones a posture
abbrev pub gives_both : Posture → Posture → PlanTable
gives_both first second = plan_table 1 [] (pose 0 false (Some first) (Some second) ∷ []) []

-- a pose moves if it gives any zone Moving, be it the third or the last, and whatever it gives another zone
pub record MovingPoses : Type 0 where
  pub first_zone : is_moving_pose (gives_at 0 Moving) 0 ≡ true
  pub third_zone : is_moving_pose (gives_at 2 Moving) 0 ≡ true
  pub tenth_zone : is_moving_pose (gives_at 9 Moving) 0 ≡ true
  pub first_of_two : is_moving_pose (gives_both Moving OpenIn) 0 ≡ true
  pub second_of_two : is_moving_pose (gives_both OpenIn Moving) 0 ≡ true
  pub neither : is_moving_pose (gives_both OpenIn OpenOut) 0 ≡ false
  pub closes : is_moving_pose (gives_at 9 Closed) 0 ≡ false
  pub opens : is_moving_pose (gives_at 2 OpenIn) 0 ≡ false
  pub past_the_end : is_moving_pose (gives_at 0 Moving) 1 ≡ false
  pub given : posture_of (gives_at 9 Moving) 0 9 ≡ Some Moving
  pub left : posture_of (gives_at 9 Moving) 0 8 ≡ None

abbrev pub transfer : ℕ → ℕ → ℕ → ℕ → Option Transfer
transfer giver receiver from to =
    Some (record { giver = giver; receiver = receiver; from = from; to = to })

-- the way of a plate through a zone
pub record Transfers : Type 0 where
  pub inward : transfer_of press_table 0 OpenIn ≡ transfer 0 1 0 1
  pub outward : transfer_of press_table 0 OpenOut ≡ transfer 1 0 1 0
  pub closed : transfer_of press_table 0 Closed ≡ None
  pub moving : transfer_of press_table 0 Moving ≡ None
  pub second_inward : transfer_of lift_table 1 OpenIn ≡ transfer 2 0 2 0
  pub second_outward : transfer_of lift_table 1 OpenOut ≡ transfer 0 2 0 2
  pub no_way_inward : transfer_of (two_at (zone 1 0 None (way 1 0)) []) 0 OpenIn ≡ None
  pub no_way_outward : transfer_of (two_at (zone 1 0 (way 0 1) None) []) 0 OpenOut ≡ None
  pub past_the_end : transfer_of press_table 1 OpenIn ≡ None

-- a zone's host and its guest are its parties, and nobody else
pub record Parties : Type 0 where
  pub host : is_party press_table 1 0 ≡ true
  pub guest : is_party press_table 0 0 ≡ true
  pub second_host : is_party lift_table 0 1 ≡ true
  pub second_guest : is_party lift_table 2 1 ≡ true
  pub another : is_party lift_table 1 1 ≡ false
  pub stranger : is_party press_table 2 0 ≡ false
  pub watch : is_party press_table watch 0 ≡ false
  pub past_the_end : is_party press_table 0 1 ≡ false

-- a machine has its own poses, and none past the table
pub record OwnPoses : Type 0 where
  pub first : has_pose press_table 1 0 ≡ true
  pub last : has_pose press_table 1 3 ≡ true
  pub another : has_pose press_table 0 3 ≡ false
  pub past_the_end : has_pose press_table 1 4 ≡ false
  pub past_the_end_of_first : has_pose lift_table 0 5 ≡ false

-- the last pose: a posture for the first four zones and for the tenth
abbrev pub wide_pose : PlanPose
wide_pose = record {
  machine = 17;
  after_moving = false;
  gives = Some Closed ∷ Some Moving ∷ Some OpenIn ∷ Some OpenOut ∷ replicate 5 None ++ Some OpenIn ∷ [];
}

-- tables, no plan, in which all numbers are different
abbrev pub unlike_table : PlanTable
unlike_table =
    plan_table 9 (zone 1 2 (way 3 4) (way 5 6) ∷ zone 7 8 (way 10 11) (way 12 13) ∷ [])
    (pose 14 false (Some Closed) (Some Moving) ∷ pose 16 true (Some OpenOut) (Some OpenIn) ∷ wide_pose ∷ [])
    (18 ∷ 19 ∷ 20 ∷ 21 ∷ [])

-- each number is read from its own row and column
pub record RowsTell : Type 0 where
  pub machines : unlike_table.machines ≡ 9
  pub zones : zone_count unlike_table ≡ 2
  pub poses : pose_count unlike_table ≡ 3
  pub places : place_count unlike_table ≡ 4
  -- 4 + 5 + 4 + 21
  pub width : word_width unlike_table ≡ 34
  pub host : host_of unlike_table 1 ≡ 7
  pub guest : guest_of unlike_table 1 ≡ 8
  pub keeper : keeper_of unlike_table 2 ≡ 20
  pub last_keeper : keeper_of unlike_table 3 ≡ 21
  pub machine : machine_of unlike_table 1 ≡ 16
  pub first_posture : posture_of unlike_table 1 0 ≡ Some OpenOut
  pub second_posture : posture_of unlike_table 1 1 ≡ Some OpenIn
  pub fourth_posture : posture_of unlike_table 2 3 ≡ Some OpenOut
  pub tenth_posture : posture_of unlike_table 2 9 ≡ Some OpenIn
  pub inward : transfer_of unlike_table 1 OpenIn ≡ transfer 8 7 10 11
  pub outward : transfer_of unlike_table 1 OpenOut ≡ transfer 7 8 12 13
  pub first_inward : transfer_of unlike_table 0 OpenIn ≡ transfer 2 1 3 4
  pub first_outward : transfer_of unlike_table 0 OpenOut ≡ transfer 1 2 5 6
  pub watch : watch ≡ 30
  -- whole rows
  pub first_zone : zone_row unlike_table 0 ≡ zone 1 2 (way 3 4) (way 5 6)
  pub second_zone : zone_row unlike_table 1 ≡ zone 7 8 (way 10 11) (way 12 13)
  pub first_pose : pose_row unlike_table 0 ≡ pose 14 false (Some Closed) (Some Moving)
  pub second_pose : pose_row unlike_table 1 ≡ pose 16 true (Some OpenOut) (Some OpenIn)
  pub last_pose : pose_row unlike_table 2 ≡ wide_pose
  pub hosts : map (host_of unlike_table) (0 ∷ 1 ∷ 2 ∷ []) ≡ 1 ∷ 7 ∷ 0 ∷ []
  pub guests : map (guest_of unlike_table) (0 ∷ 1 ∷ 2 ∷ []) ≡ 2 ∷ 8 ∷ 0 ∷ []
  pub keepers : map (keeper_of unlike_table) (0 ∷ 1 ∷ 2 ∷ 3 ∷ 4 ∷ []) ≡ 18 ∷ 19 ∷ 20 ∷ 21 ∷ 0 ∷ []
  pub machines_of : map (machine_of unlike_table) (0 ∷ 1 ∷ 2 ∷ 3 ∷ []) ≡ 14 ∷ 16 ∷ 17 ∷ 0 ∷ []
  pub postures_of : map (posture_of unlike_table 2) (0 ∷ 1 ∷ 2 ∷ 3 ∷ 4 ∷ 8 ∷ 9 ∷ [])
      ≡ Some Closed ∷ Some Moving ∷ Some OpenIn ∷ Some OpenOut ∷ None ∷ None ∷ Some OpenIn ∷ []
  -- the width is that of the zones and the places: with none of them, and with most
  pub narrow : word_width (plan_table 9 [] (wide_pose ∷ []) []) ≡ 21
  pub of_places : word_width (counted 0 16) ≡ 37
  pub of_zones : word_width (counted 8 0) ≡ 37
  pub of_wide_zones : word_width (wide_table 8 2) ≡ 63
  pub of_gates : word_width (gated_table 8 2) ≡ 55
  pub widest : word_width (wide_table 10 16) ≡ 87
  pub most_zones : zone_count (counted 10 16) ≡ 10
  pub most_places : place_count (counted 10 16) ≡ 16
  pub most_poses : pose_count large_table ≡ 64
  -- past the end of a table
  pub no_zone : zone_row unlike_table 2 ≡ zone 0 0 None None
  pub no_pose : pose_row unlike_table 3 ≡ pose 0 false None None
  pub no_keeper : keeper_of unlike_table 4 ≡ 0
  pub no_posture : posture_of unlike_table 2 10 ≡ None

abbrev pub shape : Bool → Bool → Bool → Bool → ZoneShape
shape flag moves opens_in opens_out =
    record { guests = 1; flag = flag; moves = moves; opens_in = opens_in; opens_out = opens_out }

-- tables whose zone has one way, and to which poses give these postures
abbrev pub given : List Posture → PlanTable
given postures = two_at (zone 1 0 None (way 1 0)) (map (λ q. pose 1 false (Some q) None) postures)

-- what zones have in the word, and how many bits each: by their ways and by the postures that poses give them
pub record ShapesTell : Type 0 where
  pub press : zone_shape press_table 0 ≡ shape true true true true
  pub lift : map (zone_shape lift_table) (0 ∷ 1 ∷ 2 ∷ [])
      ≡ shape true true true true ∷ shape true true true true ∷ shape false false false false ∷ []
  pub unlike : map (zone_shape unlike_table) (0 ∷ 1 ∷ [])
      ≡ shape true false false true ∷ shape true true true false ∷ []
  pub bits : map (zone_bits unlike_table) (0 ∷ 1 ∷ 2 ∷ []) ≡ 4 ∷ 5 ∷ 2 ∷ []
  -- of plants: two roads to one set of points; a rack and two presses; a lathe; a cell; and the widths of their words
  pub roads : map (zone_bits roads_table) (0 ∷ 1 ∷ []) ≡ 4 ∷ 4 ∷ []
  pub rack : map (zone_bits rack_table) (0 ∷ 1 ∷ 2 ∷ []) ≡ 3 ∷ 5 ∷ 5 ∷ []
  pub lathe : map (zone_bits lathe_table) (0 ∷ 1 ∷ 2 ∷ 3 ∷ []) ≡ 5 ∷ 5 ∷ 5 ∷ 5 ∷ []
  pub plant : map (zone_bits plant_table) (0 ∷ 1 ∷ 2 ∷ 3 ∷ 4 ∷ 5 ∷ []) ≡ 5 ∷ 5 ∷ 5 ∷ 5 ∷ 5 ∷ 5 ∷ []
  pub widths : map word_width (press_table ∷ lift_table ∷ roads_table ∷ rack_table ∷ lathe_table ∷ plant_table ∷ [])
      ≡ 28 ∷ 34 ∷ 29 ∷ 38 ∷ 45 ∷ 58 ∷ []
  pub no_pose : zone_shape (given []) 0 ≡ shape true false false false
  pub shut : zone_shape (given (Closed ∷ Closed ∷ [])) 0 ≡ shape true false false false
  pub moves : zone_shape (given (Moving ∷ [])) 0 ≡ shape true true false false
  pub opens_in : zone_shape (given (Closed ∷ OpenIn ∷ OpenIn ∷ [])) 0 ≡ shape true false true false
  pub opens_out : zone_shape (given (OpenOut ∷ Closed ∷ [])) 0 ≡ shape true false false true
  pub all : zone_shape (given (OpenOut ∷ Closed ∷ Moving ∷ OpenIn ∷ [])) 0 ≡ shape true true true true
  pub inward_alone : zone_shape (two_at (zone 1 0 (way 0 1) None) []) 0 ≡ shape true false false false
  pub no_way : zone_shape (two_at (zone 1 0 None None) []) 0 ≡ shape false false false false
  -- all that poses may give
  pub postures : map postures_of (shape true false false false ∷ shape true true false false
      ∷ shape true false true false ∷ shape true false false true ∷ shape true true true false
      ∷ shape true true false true ∷ shape true false true true ∷ shape true true true true ∷ [])
      ≡ Shut ∷ Two Moving ∷ Two OpenIn ∷ Two OpenOut ∷ All ∷ All ∷ All ∷ All ∷ []
  pub posture_fields : map posture_bits (Shut ∷ Two OpenIn ∷ All ∷ []) ≡ 0 ∷ 1 ∷ 2 ∷ []
  pub each_bits : map shape_bits (shape false false false false ∷ shape false false true false
      ∷ shape false true true false ∷ shape true false false false ∷ shape true false false true
      ∷ shape true true false true ∷ []) ≡ 2 ∷ 3 ∷ 4 ∷ 3 ∷ 4 ∷ 5 ∷ []

-- who hosts a zone, keeps a place, has a pose: nobody past the end of the table
pub record RightsTell : Type 0 where
  pub hosted : is_hosted unlike_table 1 7 ≡ true
  pub by_guest : is_hosted unlike_table 1 8 ≡ false
  pub by_first_host : is_hosted unlike_table 1 1 ≡ false
  pub hosted_past_the_end : is_hosted unlike_table 2 0 ≡ false
  pub kept : is_place_of unlike_table 3 21 ≡ true
  pub kept_by_another : is_place_of unlike_table 3 20 ≡ false
  pub kept_past_the_end : is_place_of unlike_table 4 0 ≡ false
  pub own_pose : has_pose unlike_table 16 1 ≡ true
  pub anothers_pose : has_pose unlike_table 14 1 ≡ false
  pub pose_past_the_end : has_pose unlike_table 0 3 ≡ false
  pub second_host : is_party unlike_table 7 1 ≡ true
  pub second_guest : is_party unlike_table 8 1 ≡ true
  pub first_host : is_party unlike_table 1 1 ≡ false
  pub party_past_the_end : is_party unlike_table 0 2 ≡ false
  pub leads_on : leads unlike_table 19 21 (way 1 3) ≡ true
  pub leads_back : leads unlike_table 21 19 (way 1 3) ≡ false
  pub leads_past_the_end : leads unlike_table 19 0 (way 1 4) ≡ false
  pub leads_nowhere : leads unlike_table 19 21 None ≡ true
  pub leads_from_another : leads unlike_table 18 21 (way 1 3) ≡ false
  pub leads_to_another : leads unlike_table 19 20 (way 1 3) ≡ false
  pub leads_from_first : leads unlike_table 18 19 (way 0 1) ≡ true
  pub last_pose : has_pose unlike_table 17 2 ≡ true
  pub hosted_first : is_hosted unlike_table 0 1 ≡ true
  pub kept_first : is_place_of unlike_table 0 18 ≡ true

-- sources and sinks: of a plan without them there are none, and past the table's end there is none
pub record EndsTell : Type 0 where
  pub sources : map (is_source through_table) (0 ∷ 1 ∷ 2 ∷ 3 ∷ []) ≡ true ∷ false ∷ false ∷ false ∷ []
  pub sinks : map (is_sink through_table) (0 ∷ 1 ∷ 2 ∷ 3 ∷ []) ≡ false ∷ true ∷ false ∷ false ∷ []
  pub keepers : map (keeper_of through_table) (0 ∷ 1 ∷ 2 ∷ 3 ∷ []) ≡ 0 ∷ 0 ∷ 1 ∷ 0 ∷ []
  pub both : map (has_end open_press_table 0) (0 ∷ 1 ∷ 2 ∷ []) ≡ true ∷ false ∷ false ∷ []
  pub loaders : map (has_end through_table 0) (0 ∷ 1 ∷ 2 ∷ 3 ∷ []) ≡ true ∷ true ∷ false ∷ false ∷ []
  pub anothers : map (has_end through_table 1) (0 ∷ 1 ∷ 2 ∷ 3 ∷ []) ≡ false ∷ false ∷ false ∷ false ∷ []
  pub none : map (has_end press_table 0) (0 ∷ 1 ∷ 2 ∷ []) ≡ false ∷ false ∷ false ∷ []
  pub row : place_row press_table 1 ≡ kept_by 1
  pub no_row : place_row through_table 3 ≡ kept_by 0

abbrev pub postures : List Posture
postures = Closed ∷ Moving ∷ OpenIn ∷ OpenOut ∷ []

-- each posture is the same as itself alone
pub record SamePostures : Type 0 where
  pub closed : map (same_posture Closed) postures ≡ true ∷ false ∷ false ∷ false ∷ []
  pub moving : map (same_posture Moving) postures ≡ false ∷ true ∷ false ∷ false ∷ []
  pub open_in : map (same_posture OpenIn) postures ≡ false ∷ false ∷ true ∷ false ∷ []
  pub open_out : map (same_posture OpenOut) postures ≡ false ∷ false ∷ false ∷ true ∷ []

-- twice the number, of the numbers from 3 on
abbrev pub doubled : ℕ → Option ℕ
doubled n = then_some (nat_lt 2 n) (n + n)

-- the numbers below a number: from 0 on, and without itself
pub record NumbersBelow : Type 0 where
  pub first : first_below doubled 5 ≡ Some 6
  pub none : first_below doubled 3 ≡ None
  pub any : any_below (nat_eq 3) 4 ≡ true
  pub zero : any_below (nat_eq 0) 4 ≡ true
  pub not_itself : any_below (nat_eq 3) 3 ≡ false
  pub sum : sum_below (λ n. n * n + 1) 4 ≡ 18
  pub no_sum : sum_below (λ n. n * n + 1) 0 ≡ 0
  pub sum_of_one : sum_below (λ n. n * n + 5) 1 ≡ 5
  pub zero_first : first_below (λ n. Some n) 3 ≡ Some 0
  pub none_below_none : first_below (λ n. Some n) 0 ≡ None
  pub first_of_many : first_below (λ n. then_some (nat_lt 40 n) n) 64 ≡ Some 41
  pub last_of_many : any_below (nat_eq 63) 64 ≡ true
  pub any_of_none : any_below (λ n. true) 0 ≡ false

pub record TablesTell : Type 0 where
  pub rows : RowsTell
  pub shapes : ShapesTell
  pub rights : RightsTell
  pub ends : EndsTell
  pub same_postures : SamePostures
  pub numbers_below : NumbersBelow
  pub moving_poses : MovingPoses
  pub transfers : Transfers
  pub parties : Parties
  pub own_poses : OwnPoses
