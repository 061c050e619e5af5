-- The columns of a picture, and the pieces that they stand in.
use Rattle.std.specs.Prelude.{ℕ, zero, suc, ◌-◌, ◌*◌, ◌/◌, ◌^◌, min, nat_lt, List, [], ◌∷◌, ◌++◌, codes, length}
use Rattle.std.specs.Prelude.{slice_get, Option, Some, None, if◌then◌else◌}
use Rattle.cell_types.specs.declared.zone.Zone.TheVariants.{Z1, Z2, Z3, Z4, Z5, Z6}
use Rattle.cell_plant.specs.declared.frame.Frame.{Frame}
use Rattle.cell_picture.specs.declared.pieces.Piece.{Piece}
use Rattle.cell_picture.specs.declared.pieces.Piece.TheVariants.{Text, Attribute, Transform}
use Rattle.cell_picture.specs.declared.values.Value.{Value}
use Rattle.cell_picture.specs.declared.values.Value.TheVariants.{FeedEdge, DepositEdge, OwnerColour, TableTurn}
use Rattle.cell_picture.specs.declared.values.Value.TheVariants.{TableHeight, PressHeight, RobotTurn}
use Rattle.cell_picture.specs.declared.values.Value.TheVariants.{Arm1, Arm2, CraneWay, GripperHeight, PlateShift}
use Rattle.cell_picture.specs.declared.values.Value.TheVariants.{PlateAngle, PlateReach, PlateForged}
use Rattle.cell_picture.specs.Values.{value_text}

-- the values that pieces have columns of, in order
abbrev pub values_in : List Piece → List Value
values_in [] = []
values_in (Text text ∷ rest) = values_in rest
values_in (Attribute name v ∷ rest) = v ∷ values_in rest
values_in (Transform kind v ∷ rest) = v ∷ values_in rest

-- the columns of the machines and zones, and of a plate
abbrev pub machine_values : List Value
machine_values =
    FeedEdge ∷ DepositEdge ∷ OwnerColour Z1 ∷ OwnerColour Z2 ∷ OwnerColour Z3 ∷ OwnerColour Z4 ∷ OwnerColour Z5
    ∷ OwnerColour Z6
    ∷ TableTurn ∷ TableHeight ∷ PressHeight ∷ RobotTurn ∷ Arm2 ∷ Arm1 ∷ CraneWay ∷ GripperHeight ∷ []

abbrev pub plate_values : List Value
plate_values = PlateShift ∷ PlateAngle ∷ PlateReach ∷ PlateForged ∷ []

-- the frame of the value with this number: 100 equal ways lead from the first frame to the last
unfoldable pub frame_at : List Frame → ℕ → Option Frame
frame_at part k = slice_get part (min ((length part - 1) * k) (2 ^ 64 - 1) / 100)

-- its value, with a semicolon before it unless it is the first; nothing if there is no frame
abbrev pub entry_text : Value → ℕ → ℕ → Option Frame → List ℕ
entry_text v n k None = []
entry_text v n k (Some f) = (if nat_lt 0 k then codes ";" else []) ++ value_text v n f

-- the first values of a column
unfoldable pub column_text : Value → ℕ → List Frame → ℕ → List ℕ
column_text v n part zero = []
column_text v n part (suc k) = column_text v n part k ++ entry_text v n k (frame_at part k)

-- a column of 101 values, and the end of its element
abbrev pub column_end : List Frame → ℕ → Value → List ℕ
column_end part n v = column_text v n part 101 ++ codes "\"/>"

-- how an attribute changes, and how an element is moved or turned
abbrev pub attribute_text : List Frame → ℕ → List ℕ → Value → List ℕ
attribute_text part n name v =
    (codes "<animate attributeName=\"" ++ (name ++ codes "\" dur=\"24s\" repeatCount=\"indefinite\" values=\"")) ++
    column_end part n v

abbrev pub transform_text : List Frame → ℕ → List ℕ → Value → List ℕ
transform_text part n kind v =
    (codes "<animateTransform attributeName=\"transform\" type=\"" ++
    (kind ++ codes "\" dur=\"24s\" repeatCount=\"indefinite\" values=\""))
    ++ column_end part n v

unfoldable pub piece_text : List Frame → ℕ → Piece → List ℕ
piece_text part n (Text text) = text.now
piece_text part n (Attribute name v) = attribute_text part n name.now v
piece_text part n (Transform kind v) = transform_text part n kind.now v

unfoldable pub pieces_text : List Frame → ℕ → List Piece → List ℕ
pieces_text part n [] = []
pieces_text part n (piece ∷ rest) = piece_text part n piece ++ pieces_text part n rest
