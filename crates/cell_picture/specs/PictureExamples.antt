-- What a picture shows of frames, in literal numbers and text.
use Rattle.std.specs.Prelude.{◌≡◌, ℕ, pos, neg_ℤ, ℤ, Bool, true, false, List, [], ◌∷◌, ◌++◌, codes, Some, None, Ok}
use Rattle.cell_rules.specs.Types.{Done, Refused, NoPlate, Claim, Give, Take, Feed, Table, Robot, Press, Deposit, Crane}
use Rattle.cell_rules.specs.Types.{Watch, Place, Posture, Closed, OpenIn, OpenOut, Settled, Busy, Zone, Z1, Z2, Z3}
use Rattle.cell_rules.specs.Types.{Z4, Z5, Z6}
use Rattle.cell_types.specs.declared.place.Place.TheVariants as place
use Rattle.cell_devices.specs.declared.motor.Motor.TheVariants.{Off}
use Rattle.cell_rules.specs.Names.{ModelState, insert_place, put_zone}
use Rattle.cell_parts.specs.Names.{all_free, with_zone}
use Rattle.cell_parts.specs.declared.axis.Axis.{Axis}
use Rattle.cell_parts.specs.declared.plant.PlantState.{PlantState}
use Rattle.cell_plant.specs.Names.{starts, has_claimed, turn_of}
use Rattle.cell_plant.specs.declared.frame.Frame.{Frame}
use Rattle.cell_picture.specs.declared.plates.Spot.{Spot}
use Rattle.cell_picture.specs.declared.values.Value.{Value}
use Rattle.cell_picture.specs.declared.values.Value.TheVariants.{FeedEdge, DepositEdge, OwnerColour, TableTurn}
use Rattle.cell_picture.specs.declared.values.Value.TheVariants.{TableHeight, PressHeight, RobotTurn}
use Rattle.cell_picture.specs.declared.values.Value.TheVariants.{Arm1, Arm2, CraneWay, GripperHeight, PlateShift}
use Rattle.cell_picture.specs.declared.values.Value.TheVariants.{PlateAngle, PlateReach, PlateForged}
use Rattle.cell_picture.specs.declared.pieces.Piece.{Piece}
use Rattle.cell_picture.specs.declared.pieces.TheConstants.{PICTURE_HEAD, PICTURE_TAIL}
use Rattle.cell_picture.specs.Columns.{attribute_text, column_end, frame_at, machine_values, pieces_text}
use Rattle.cell_picture.specs.Columns.{plate_values, transform_text, values_in}
use Rattle.cell_picture.specs.Parts.{shown_part, takes_plate}
use Rattle.cell_picture.specs.Pictures.{ShowsPart, plates_in, plates_text}
use Rattle.cell_picture.specs.Ramps.{less, ramp, ramp_at}
use Rattle.cell_picture.specs.Spots.{on_deposit, on_feed, plate_spot}
use Rattle.cell_picture.specs.Values.{colour, value_text}

-- ---- which frames are shown

-- the feed belt has taken a plate from the crane; it has claimed its entry
abbrev pub takes : ℕ → Frame
takes stamp = record has_claimed { asked = Some (Take Z6, Ok (Settled Done stamp)) }

abbrev pub claims : ℕ → Frame
claims stamp = record has_claimed { asked = Some (Claim Z6, Ok (Settled Done stamp)) }

pub record TakeExamples : Type 0 where
  pub taken : takes_plate (takes 1) ≡ true
  pub start : takes_plate starts ≡ false
  pub claimed : takes_plate (claims 1) ≡ false
  pub silent : takes_plate (record has_claimed { asked = None }) ≡ false
  pub refused : takes_plate (record has_claimed { asked = Some (Take Z6, Ok (Settled (Refused NoPlate) 1)) }) ≡ false
  pub busy : takes_plate (record has_claimed { asked = Some (Take Z6, Ok (Busy 1 1)) }) ≡ false
  pub elsewhere : takes_plate (record has_claimed { asked = Some (Take Z1, Ok (Settled Done 1)) }) ≡ false
  pub by_another : takes_plate (record (takes 1) { turn = Some (turn_of Crane) }) ≡ false
  pub by_no_turn : takes_plate (record (takes 1) { turn = None }) ≡ false
  pub given : takes_plate (record has_claimed { asked = Some (Give Z6, Ok (Settled Done 1)) }) ≡ false

abbrev pub three : List Frame
three = claims 1 ∷ claims 2 ∷ claims 3 ∷ []

abbrev pub takes_once : List Frame
takes_once = claims 1 ∷ takes 2 ∷ claims 3 ∷ []

pub record PartExamples : Type 0 where
  pub none : shown_part [] ≡ []
  pub no_take : shown_part three ≡ three
  pub one_take : shown_part takes_once ≡ takes_once
  pub two_takes : shown_part (claims 1 ∷ takes 2 ∷ claims 3 ∷ takes 4 ∷ claims 5 ∷ []) ≡ takes 2 ∷ claims 3 ∷ []
  pub three_takes : shown_part (takes 1 ∷ claims 2 ∷ takes 3 ∷ claims 4 ∷ claims 5 ∷ takes 6 ∷ []) ≡ takes 3
      ∷ claims 4 ∷ claims 5 ∷ []

-- ---- columns

abbrev pub axis : ℕ → Axis
axis n = record { position = pos n; motor = Off }

-- no two axes, plates or switches of a part are alike
abbrev pub apart : PlantState
apart =
    record {
      feed = record { entry = Some (pos 20); last = Some (pos 950); runs = true };
      table = record { lift = axis 40; turn = axis 60 };
      robot = record { arm1 = axis 80; arm2 = axis 100; rotation = axis 120; magnet1 = true; magnet2 = false };
      press = axis 140;
      deposit = record { entry = Some (pos 160); last = Some (pos 1100); runs = false };
      crane = record { travel = axis 180; gripper = axis 200; magnet = true };
    }

-- the magnets are the other way round
abbrev pub let_go : PlantState
let_go =
    record apart {
      robot = record (apart.robot) { magnet1 = false; magnet2 = true };
      crane = record (apart.crane) { magnet = false };
    }

abbrev pub frame_with : ModelState → PlantState → Frame
frame_with s p = record starts { state = s; plant = p }

abbrev pub ten_ones : List ℕ
ten_ones = codes "1;1;1;1;1;1;1;1;1;1;"

abbrev pub fifty_ones : List ℕ
fifty_ones = ten_ones ++ (ten_ones ++ (ten_ones ++ (ten_ones ++ ten_ones)))

pub record ColumnExamples : Type 0 where
  pub no_frame : frame_at [] 0 ≡ None
  pub only_frame : frame_at (claims 1 ∷ []) 100 ≡ Some (claims 1)
  pub first : frame_at three 0 ≡ Some (claims 1)
  pub before_half : frame_at three 49 ≡ Some (claims 1)
  pub half : frame_at three 50 ≡ Some (claims 2)
  pub before_last : frame_at three 99 ≡ Some (claims 2)
  pub last : frame_at three 100 ≡ Some (claims 3)
  pub column : column_end (starts ∷ frame_with all_free apart ∷ []) 0 FeedEdge
      ≡ fifty_ones ++ (fifty_ones ++ codes "5\"/>")
  pub attribute : attribute_text [] 0 (codes "fill") FeedEdge
      ≡ codes "<animate attributeName=\"fill\" dur=\"24s\" repeatCount=\"indefinite\" values=\"\"/>"
  pub transform : transform_text [] 0 (codes "rotate") FeedEdge
      ≡ codes "<animateTransform attributeName=\"transform\" type=\"rotate\" dur=\"24s\" "
      ++ codes "repeatCount=\"indefinite\" values=\"\"/>"

-- ---- values

-- by 110 for each 500 tenths, rounded towards the base; a product stops at the ends of its type
pub record RampExamples : Type 0 where
  pub base : ramp_at (ramp (pos 7) (pos 110)) (pos 0) ≡ pos 7
  pub whole : ramp_at (ramp (pos 7) (pos 110)) (pos 500) ≡ pos 117
  pub below : ramp_at (ramp (pos 7) (pos 110)) (pos 4) ≡ pos 7
  pub above : ramp_at (ramp (pos 7) (pos 110)) (pos 5) ≡ pos 8
  pub falls_below : ramp_at (ramp (pos 7) (neg_ℤ (pos 110))) (pos 4) ≡ pos 7
  pub falls_above : ramp_at (ramp (pos 7) (neg_ℤ (pos 110))) (pos 5) ≡ pos 6
  pub before_start : ramp_at (ramp (pos 7) (pos 110)) (neg_ℤ (pos 5)) ≡ pos 6
  pub far : ramp_at (ramp (pos 7) (pos 110)) (pos 2147483647) ≡ pos 4294974
  pub far_below : ramp_at (ramp (pos 7) (pos 110)) (neg_ℤ (pos 2147483648)) ≡ neg_ℤ (pos 4294960)
  pub sum_stops : ramp_at (ramp (pos 2147483647) (pos 110)) (pos 500) ≡ pos 2147483647
  pub less_by : less (pos 30) (pos 90) ≡ neg_ℤ (pos 60)
  pub less_stops : less (neg_ℤ (pos 2147483648)) (pos 1) ≡ neg_ℤ (pos 2147483648)

-- each zone but the sixth has another owner
abbrev pub owned : ModelState
owned = with_zone (with_zone (with_zone (with_zone (with_zone all_free Feed Z1 Closed) Table Z2 Closed) Press Z3
    Closed) Deposit Z4 Closed) Crane Z5 Closed

abbrev pub told : Value → List ℕ
told v = value_text v 0 (frame_with owned apart)

pub record ValueExamples : Type 0 where
  pub feed_edge : told FeedEdge ≡ codes "5"
  pub deposit_edge : told DepositEdge ≡ codes "1"
  pub z1 : told (OwnerColour Z1) ≡ codes "#07b"
  pub z2 : told (OwnerColour Z2) ≡ codes "#0a7"
  pub z3 : told (OwnerColour Z3) ≡ codes "#d50"
  pub z4 : told (OwnerColour Z4) ≡ codes "#c7a"
  pub z5 : told (OwnerColour Z5) ≡ codes "#5be"
  pub z6 : told (OwnerColour Z6) ≡ codes "#ccc"
  pub robot : colour (Some Robot) ≡ codes "#ea0"
  pub watch : colour (Some Watch) ≡ codes "#999"
  pub table_turn : told TableTurn ≡ codes "14"
  pub table_height : told TableHeight ≡ codes "121"
  pub press_height : told PressHeight ≡ codes "434"
  pub robot_turn : told RobotTurn ≡ codes "-42"
  pub arm1 : told Arm1 ≡ codes "8"
  pub arm2 : told Arm2 ≡ codes "11"
  pub crane_way : told CraneWay ≡ codes "0 -21"
  pub gripper_height : told GripperHeight ≡ codes "284"
  pub no_plate : told PlateShift ≡ []

-- ---- plates

abbrev pub full : Place → ModelState → ModelState
full p s = record s { full = insert_place s.full p }

-- a plate is in a zone, whose host is in this posture
abbrev pub flagged : Zone → Posture → ModelState
flagged z q = record all_free { zones = put_zone all_free.zones z (record { owner = None; flag = true; posture = q }) }

abbrev pub spot : ℤ → ℤ → ℤ → ℤ → Bool → Spot
spot angle reach right down forged = record {
  angle = angle;
  reach = reach;
  right = right;
  down = down;
  is_forged = forged;
}

-- at the table, in the press, and at the deposit belt's entry, or this far from there
abbrev pub table_spot : ℤ → Spot
table_spot right = spot (neg_ℤ (pos 60)) (pos 136) right (pos 0) false

abbrev pub press_spot : Bool → Spot
press_spot forged = spot (neg_ℤ (pos 180)) (pos 158) (pos 0) (pos 0) forged

abbrev pub deposit_spot : ℤ → ℤ → Bool → Spot
deposit_spot right down forged = spot (neg_ℤ (pos 300)) (pos 136) right down forged

-- the only plate is here, while the magnets of the first arm and the crane are on; while that of the second is
abbrev pub IsAt : ModelState → Spot → Type 0
IsAt s there = plate_spot (frame_with s apart) 0 ≡ Some there

abbrev pub IsLetGoAt : ModelState → Spot → Type 0
IsLetGoAt s there = plate_spot (frame_with s let_go) 0 ≡ Some there

pub record SpotExamples : Type 0 where
  pub feed_entry : IsAt (full place.FeedEntry all_free) (table_spot (pos 344))
  pub feed_end : IsAt (full place.FeedEnd all_free) (table_spot (pos 31))
  pub z1 : IsAt (flagged Z1 OpenIn) (table_spot (pos 0))
  pub table : IsAt (full place.Table all_free) (table_spot (pos 0))
  pub z2 : IsAt (flagged Z2 OpenOut) (spot (neg_ℤ (pos 42)) (pos 78) (pos 0) (pos 0) false)
  pub z2_put : IsLetGoAt (flagged Z2 OpenOut) (table_spot (pos 0))
  pub arm1 : IsAt (full place.Arm1 all_free) (spot (neg_ℤ (pos 42)) (pos 78) (pos 0) (pos 0) false)
  pub arm1_put : IsLetGoAt (full place.Arm1 all_free) (press_spot false)
  pub comes_in : IsAt (flagged Z3 OpenIn) (press_spot false)
  pub press_in : IsAt (full place.PressIn all_free) (press_spot false)
  pub press_out : IsAt (full place.PressOut all_free) (press_spot true)
  pub goes_out : IsLetGoAt (flagged Z3 OpenOut) (spot (neg_ℤ (pos 132)) (pos 81) (pos 0) (pos 0) true)
  pub goes_out_put : IsAt (flagged Z3 OpenOut) (press_spot true)
  pub arm2 : IsLetGoAt (full place.Arm2 all_free) (spot (neg_ℤ (pos 132)) (pos 81) (pos 0) (pos 0) true)
  pub arm2_put : IsAt (full place.Arm2 all_free) (deposit_spot (pos 0) (pos 0) true)
  pub z4 : IsAt (flagged Z4 OpenIn) (deposit_spot (pos 0) (pos 0) true)
  pub deposit_entry : IsAt (full place.DepEntry all_free) (deposit_spot (pos 56) (pos 0) true)
  pub deposit_end : IsAt (full place.DepEnd all_free) (deposit_spot (pos 350) (pos 0) true)
  pub z5 : IsAt (flagged Z5 OpenOut) (deposit_spot (pos 350) (neg_ℤ (pos 21)) true)
  pub z5_put : IsLetGoAt (flagged Z5 OpenOut) (deposit_spot (pos 350) (pos 0) true)
  pub crane : IsAt (full place.Crane all_free) (deposit_spot (pos 350) (neg_ℤ (pos 21)) true)
  pub crane_put : IsLetGoAt (full place.Crane all_free) (deposit_spot (pos 350) (neg_ℤ (pos 236)) false)
  pub z6 : IsAt (flagged Z6 OpenIn) (deposit_spot (pos 350) (neg_ℤ (pos 236)) false)
  -- a plate that isn't on its belt is shown at the entry; the light barrier begins at 900; one past the end, at the end
  pub not_on_feed : on_feed None ≡ table_spot (pos 350)
  pub before_barrier : on_feed (Some (pos 899)) ≡ table_spot (pos 63)
  pub in_barrier : on_feed (Some (pos 900)) ≡ table_spot (pos 62)
  pub past_feed : on_feed (Some (pos 1100)) ≡ table_spot (pos 0)
  pub not_on_deposit : on_deposit None ≡ deposit_spot (pos 0) (pos 0) true
  pub past_deposit : on_deposit (Some (pos 1100)) ≡ deposit_spot (pos 350) (pos 0) true

-- two plates are numbered along their way: on the feed belt, and on the deposit belt
abbrev pub both : Frame
both = frame_with (full place.DepEntry (full place.FeedEntry all_free)) apart

pub record PlateExamples : Type 0 where
  pub count : plates_in (both ∷ []) ≡ 2
  pub none : plates_in [] ≡ 0
  pub counted_at_start : plates_in (both ∷ frame_with all_free apart ∷ []) ≡ 2
  pub none_at_start : plates_in (frame_with all_free apart ∷ both ∷ []) ≡ 0
  pub first : plate_spot both 0 ≡ Some (table_spot (pos 344))
  pub second : plate_spot both 1 ≡ Some (deposit_spot (pos 56) (pos 0) true)
  pub no_third : plate_spot both 2 ≡ None
  pub shift : value_text PlateShift 1 both ≡ codes "56 0"
  pub angle : value_text PlateAngle 1 both ≡ codes "-300"
  pub reach : value_text PlateReach 1 both ≡ codes "136"
  pub forged : value_text PlateForged 1 both ≡ codes "1"
  pub blank : value_text PlateForged 0 both ≡ codes "0"

-- a text that shows a part of a film has its head, the machines' pieces with all their columns, each plate's pieces,
-- and its tail
pub record TextMeans : Type 0 where
  pub whole : (part : List Frame) (count : ℕ) (text : List ℕ) → ShowsPart part count text
      → (machines plate : List Piece) × (values_in machines ≡ machine_values) × (values_in plate ≡ plate_values)
      × (text ≡ PICTURE_HEAD.now ++ (pieces_text part 0 machines ++ (plates_text part plate count ++ PICTURE_TAIL.now)))
  pub plates : (part : List Frame) (plate : List Piece)
      → plates_text part plate 2 ≡ pieces_text part 0 plate ++ pieces_text part 1 plate

pub record PictureExamples : Type 0 where
  pub takes : TakeExamples
  pub parts : PartExamples
  pub columns : ColumnExamples
  pub ramps : RampExamples
  pub values : ValueExamples
  pub spots : SpotExamples
  pub plates : PlateExamples
  pub text : TextMeans
