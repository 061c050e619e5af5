use Rattle.std.proofs.Common.{ℕ, List, ◌≡◌, ◌++◌, Some}
use Rattle.std.specs.List.{concat}
use Rattle.std.specs.Io.KnownBytes.{Appends}
use Rattle.csv_rows.specs.Rows.{Row}
use Rattle.cell_replay.specs.Script.{is_cut_of}
use Rattle.cell_replay.specs.ScriptRecords.{ArePlain, HasLeft}
use Rattle.cell_replay.specs.Writing.{lines_left, outcome_left}
use Rattle.cell_replay.proofs.answers.answer_later.Given as goal

abbrev pub invariant-rows : goal.invariant-rows
invariant-rows g l = record {
  plain : ArePlain l.records;
  written : (bytes : List ℕ) → g.K.Origin.bytes ≡ Some bytes → (all : List Row) → HasLeft g.L.LentReader.left bytes l.fn.records all
      → (lines : List (List ℕ)) × (left : List Row)
      × HasLeft g.L.LentReader.left bytes l.records left
      × Appends (g.W.Write.contents l.fn.writer) (g.W.Write.contents l.writer) (concat lines)
      × (lines ++ lines_left l.fn.start.version l.done l.state left ≡ lines_left l.fn.start.version 0 l.fn.start.state all)
      × (outcome_left l.fn.start.version (is_cut_of bytes) l.done left ≡ outcome_left l.fn.start.version (is_cut_of bytes) 0 all);
}
