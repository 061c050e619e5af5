-- The entries of a journal that is in turn.
use Rattle.std.specs.Prelude.{ℕ, ◌^◌, ◌-◌, ◌<◌, ◌≤◌, List, [], ◌∷◌, length, map, get_or, true}
use Rattle.cell_rules.specs.Types.{Machine, Entry}
use Rattle.cell_report.specs.declared.ordered.Noted.{Noted}
use Rattle.cell_report.specs.Order.{key_of}

abbrev pub noted_in_turn : Machine → Entry → Noted
noted_in_turn m e = record { machine = m; entry = e; in_turn = true }

abbrev pub all_in_turn : Machine → List Entry → List Noted
all_in_turn m es = map (noted_in_turn m) es

-- a key above those of all entries
abbrev pub last_key : ℕ
last_key = 2 ^ 64 - 1

-- the key of the first entry, if there is one
abbrev pub first_key : List Entry → ℕ
first_key [] = last_key
first_key (e ∷ _) = key_of e

-- the place of the least number, and of the first one if there are several
pub record IsFirstLeast (ns : List ℕ) (place : ℕ) : Type 0 where
  pub within : place < length ns
  pub least : (i : ℕ) → i < length ns → get_or ns place 0 ≤ get_or ns i 0
  pub first : (i : ℕ) → i < place → get_or ns place 0 < get_or ns i 0
