-- The letters of schedules.
use Rattle.std.specs.Prelude.{ℕ, ◌==◌, List, [], ◌∷◌, ◌++◌, length, map, find, chars, codes, nat_lt}
use Rattle.std.specs.Prelude.{Bool, true, false}
use Rattle.std.specs.Prelude.{is_some, Option, option_map, Result, Ok, Err, if◌then◌else◌}
use Rattle.std.specs.List.{filter_map, list_all, zip}
use Rattle.std.specs.Str.{bytes_eq}
use Rattle.cell_rules.specs.Types.{Machine, Feed, Table, Robot, Press, Deposit, Crane, Watch, all_machines}
use Rattle.cell_notes.specs.declared.schedule.Turn.{Turn}
use Rattle.cell_config.specs.declared.fault.ConfigFault.{ConfigFault}
use Rattle.cell_config.specs.declared.fault.ConfigFault.TheVariants.{Range, Letter}

abbrev pub max_letters : ℕ
max_letters = 1000000

abbrev pub turn : Bool → Machine → Turn
turn busy machine = record { machine = machine; busy = busy }

-- the letter of a turn: a capital one if a call in it is Busy
abbrev pub letter_word : Bool → Machine → List ℕ
letter_word false Feed = codes "f"
letter_word false Table = codes "t"
letter_word false Robot = codes "r"
letter_word false Press = codes "p"
letter_word false Deposit = codes "d"
letter_word false Crane = codes "c"
letter_word false Watch = codes "w"
letter_word true Feed = codes "F"
letter_word true Table = codes "T"
letter_word true Robot = codes "R"
letter_word true Press = codes "P"
letter_word true Deposit = codes "D"
letter_word true Crane = codes "C"
letter_word true Watch = codes "W"

abbrev pub is_letter_of : Bool → Machine → ℕ → Bool
is_letter_of busy machine letter = bytes_eq (letter_word busy machine) (letter ∷ [])

-- the machine whose turn has this letter
abbrev pub machine_of : Bool → ℕ → Option Machine
machine_of busy letter = find (λ machine. is_letter_of busy machine letter) all_machines

-- each letter with its turn: in the turn of a capital letter a call is Busy
abbrev pub letters : List (ℕ × Turn)
letters =
    zip (codes "ftrpdcwFTRPDCW") (map (turn false) all_machines ++ map (turn true) all_machines)

-- the turn of a letter
abbrev pub turn_of : ℕ → Option Turn
turn_of letter = option_map (λ row. row.1) (find (λ row. row.0 == letter) letters)

abbrev pub is_letter : ℕ → Bool
is_letter letter = is_some (turn_of letter)

-- the turns of a text of letters
abbrev pub turns_of : List ℕ → Result (List Turn) ConfigFault
turns_of text =
    if nat_lt max_letters (length (chars text)) then Err Range
    else if list_all is_letter (chars text) then Ok (filter_map turn_of (chars text)) else Err Letter
