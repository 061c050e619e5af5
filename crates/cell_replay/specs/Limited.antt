-- What a limited reader has taken of its input, and what it has left.
use Rattle.std.specs.Prelude.{ℕ, ◌≡◌, ◌≤◌, ◌-◌, Bool, List, length, take, drop, option_map, Option, None, Some}
use Rattle.std.specs.Option.{ForSome}
use Rattle.cell_replay.specs.Script.{byte_limit, is_cut_of}

-- the first n of the known bytes were taken
abbrev pub IsTaken : Option (List ℕ) → Option (List ℕ) → ℕ → Type 0
IsTaken old new n = ForSome old (λ bytes. (n ≤ length bytes) × (new ≡ Some (drop n bytes)))

-- a note whether there are more bytes than are used is right
abbrev pub IsNoted : Option (List ℕ) → Option Bool → Type 0
IsNoted known note = ForSome note (λ is_cut. ForSome known (λ bytes. is_cut ≡ is_cut_of bytes))

-- how many bytes may still be handed on: none once it is noted whether there are more
abbrev pub room_of : Option Bool → ℕ → ℕ
room_of None taken = byte_limit - taken
room_of (Some is_cut) taken = 0

abbrev pub bytes_left : Option (List ℕ) → Option Bool → ℕ → Option (List ℕ)
bytes_left known note taken = option_map (take (room_of note taken)) known
