-- What a limited reader and a buffered writer hold.
use Rattle.std.specs.Prelude.{ℕ, Bool, List, Option}
use Rattle.std.specs.Io.KnownBytes.{append_known}
use Rattle.cell_replay.specs.Limited.{bytes_left}
use Rattle.cell_replay.specs.declared.buffered.BufferedWriter.{BufferedWriter}
use Rattle.cell_replay.specs.declared.lent.LentReader.{Ghosts as Lent}
use Rattle.cell_replay.specs.declared.lent.LentWriter.{Ghosts as LentOut}
use Rattle.cell_replay.specs.declared.lent.Origin.{Ghosts as Known}
use Rattle.cell_replay.specs.declared.limited.LimitedReader.{LimitedReader}

-- how many bytes a limited reader has taken of its input
abbrev pub taken_by : {L K : Type 0} {lent : Lent L} {known : Known K} → LimitedReader L K lent known → ℕ
taken_by reader = reader.taken

-- its note whether there are more bytes than are used
abbrev pub note_of : {L K : Type 0} {lent : Lent L} {known : Known K} → LimitedReader L K lent known → Option Bool
note_of reader = reader.is_cut

-- the bytes that it has left to hand on; the first argument says what an input has left
abbrev pub left_to : {L K : Type 0} {lent : Lent L} {known : Known K} → (L → Option (List ℕ))
    → LimitedReader L K lent known → Option (List ℕ)
left_to left reader = bytes_left (left reader.input) reader.is_cut reader.taken

-- the output of a buffered writer
abbrev pub output_of : {O K : Type 0} {lent : LentOut O} {known : Known K} → BufferedWriter O K lent known → O
output_of writer = writer.output

-- the bytes that wait in it
abbrev pub waiting_in : {O K : Type 0} {lent : LentOut O} {known : Known K} → BufferedWriter O K lent known → List ℕ
waiting_in writer = writer.waiting

-- the bytes of its output, and those that wait; the first argument says what bytes an output has
abbrev pub contents_of : {O K : Type 0} {lent : LentOut O} {known : Known K} → (O → Option (List ℕ))
    → BufferedWriter O K lent known → Option (List ℕ)
contents_of contents writer = append_known (contents writer.output) writer.waiting
