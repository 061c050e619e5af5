-- Fault lines.
use Rattle.std.specs.Prelude.{ℕ, List, ◌++◌, codes}

-- the line of a fault
abbrev pub fault_line : List ℕ → List ℕ
fault_line text = codes "fault " ++ (text ++ codes "\n")
