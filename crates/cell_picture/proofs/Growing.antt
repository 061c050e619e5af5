-- A text that grows by one more value, piece or plate.
use Rattle.std.proofs.Common.{◌≡◌, ℕ, zero, suc, ◌+◌, ◌<◌, List, [], ◌∷◌, ◌++◌, append-nil, append_assoc, add-one, length, take, get_or, refl, ap, sym, ◌∙◌}
use Rattle.std.proofs.lemmas.List.{take_more}
use Rattle.cell_plant.specs.declared.frame.Frame.{Frame}
use Rattle.cell_picture.specs.declared.pieces.Piece.{Piece}
use Rattle.cell_picture.specs.declared.values.Value.{Value}
use Rattle.cell_picture.specs.Columns.{column_text, entry_text, frame_at, piece_text, pieces_text}
use Rattle.cell_picture.specs.Pictures.{plates_text}

pub no_value : (text : List ℕ) (v : Value) (n : ℕ) (part : List Frame) → text ≡ text ++ column_text v n part 0
unfolding column_text
no_value text v n part = sym (append-nil text)

pub one_value_more : (v : Value) (n : ℕ) (part : List Frame) (k : ℕ) → column_text v n part (k + 1) ≡ column_text v n part k ++ entry_text v n k (frame_at part k)
unfolding column_text
one_value_more v n part k = rw add-one refl

pub no_plate : (text : List ℕ) (part : List Frame) (plate : List Piece) → text ≡ text ++ plates_text part plate 0
unfolding plates_text
no_plate text part plate = sym (append-nil text)

pub one_plate_more : (part : List Frame) (plate : List Piece) (n : ℕ) → plates_text part plate (n + 1) ≡ plates_text part plate n ++ pieces_text part n plate
unfolding plates_text
one_plate_more part plate n = rw add-one refl

pub no_piece : (text : List ℕ) (part : List Frame) (n : ℕ) → text ≡ text ++ pieces_text part n []
unfolding pieces_text
no_piece text part n = sym (append-nil text)

pub pieces_then : (part : List Frame) (n : ℕ) (some : List Piece) (p : Piece) → pieces_text part n (some ++ (p ∷ [])) ≡ pieces_text part n some ++ piece_text part n p
unfolding pieces_text
pieces_then part n [] p = append-nil (piece_text part n p)
pieces_then part n (q ∷ some) p =
    ap (λ x. piece_text part n q ++ x) (pieces_then part n some p) ∙ sym (append_assoc (piece_text part n q) (pieces_text part n some) (piece_text part n p))

pub one_piece_more : (part : List Frame) (n : ℕ) (pieces : List Piece) (i : ℕ) (d : Piece) → i < length pieces
    → pieces_text part n (take (i + 1) pieces) ≡ pieces_text part n (take i pieces) ++ piece_text part n (get_or pieces i d)
one_piece_more part n pieces i d h = ap (λ x. pieces_text part n x) (take_more pieces i d h) ∙ pieces_then part n (take i pieces) (get_or pieces i d)
