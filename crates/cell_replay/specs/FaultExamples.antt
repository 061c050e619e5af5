-- What replays that failed may have written: after a failed read, or out of memory, whole lines; after a failed write,
-- any prefix of the text. And the most bytes that a replay takes, however it ends.
use Rattle.std.specs.Prelude.{◌≡◌, ℕ, List, [], ◌∷◌, codes, Some}
use Rattle.cell_replay.specs.Faults.{Leaves, WroteLines}
use Rattle.cell_replay.specs.Script.{max_bytes_read}
use Rattle.cell_replay.specs.declared.fault.ReplayFault.{ReplayFault}
use Rattle.cell_replay.specs.declared.fault.ReplayFault.TheVariants.{Read, Write, Memory}

-- what has this answer: a script with no request
abbrev pub opening : List ℕ
opening = codes "start,0000000000\n"

abbrev pub answer : List ℕ
answer = codes "0 0 start 0\n"

-- what a replay of it has written that failed so
abbrev pub HasWritten : ReplayFault → List ℕ → Type 0
HasWritten fault written = Leaves fault opening (Some []) (Some written)

pub record FaultsAreMet : Type 0 where
  pub no_line : WroteLines (Some (codes "x")) (Some (codes "x")) (codes "ab\n" ∷ codes "c\n" ∷ [])
  pub one_line : WroteLines (Some (codes "x")) (Some (codes "xab\n")) (codes "ab\n" ∷ codes "c\n" ∷ [])
  pub no_part : ¬ WroteLines (Some []) (Some (codes "ab")) (codes "abc" ∷ [])
  pub none_left_out : ¬ WroteLines (Some []) (Some (codes "c\n")) (codes "ab\n" ∷ codes "c\n" ∷ [])
  pub read_leaves_lines : HasWritten Read answer
  pub read_leaves_no_part : ¬ HasWritten Read (codes "0 0 st")
  pub memory_leaves_nothing : HasWritten Memory []
  pub memory_leaves_no_part : ¬ HasWritten Memory (codes "0 0 st")
  pub write_leaves_part : HasWritten Write (codes "0 0 st")
  pub write_leaves_no_other : ¬ HasWritten Write (codes "1")
  pub most_taken : max_bytes_read ≡ 4194305
