-- The picture of a run.
use Rattle.std.specs.Prelude.{◌≡◌, ℕ, zero, suc, List, [], ◌∷◌, ◌++◌}
use Rattle.cell_rules.specs.ModelState.{plates_of}
use Rattle.cell_plant.specs.declared.frame.Frame.{Frame}
use Rattle.cell_picture.specs.declared.pieces.Piece.{Piece}
use Rattle.cell_picture.specs.declared.pieces.TheConstants.{PICTURE_HEAD, PICTURE_TAIL}
use Rattle.cell_picture.specs.Parts.{shown_part}
use Rattle.cell_picture.specs.Columns.{machine_values, pieces_text, plate_values, values_in}

-- the first plates, each by these pieces
unfoldable pub plates_text : List Frame → List Piece → ℕ → List ℕ
plates_text part plate zero = []
plates_text part plate (suc n) = plates_text part plate n ++ pieces_text part n plate

-- the number of plates of a run
abbrev pub plates_in : List Frame → ℕ
plates_in [] = 0
plates_in (f ∷ fs) = plates_of f.state

-- A text is the picture with a part of a run's frames and this number of plates: its head, the machines with their
-- columns, each plate with its columns, its tail.
pub record ShowsPart (part : List Frame) (count : ℕ) (text : List ℕ) : Type 0 where
  pub machines : List Piece
  pub plate : List Piece
  pub columns : values_in machines ≡ machine_values
  pub plate_columns : values_in plate ≡ plate_values
  pub whole : text ≡ PICTURE_HEAD.now ++ (pieces_text part 0 machines ++
      (plates_text part plate count ++ PICTURE_TAIL.now))

-- a text is the picture of a run's frames: it shows a part of them, and all plates
abbrev pub IsPictureOf : List Frame → List ℕ → Type 0
IsPictureOf frames text = ShowsPart (shown_part frames) (plates_in frames) text
