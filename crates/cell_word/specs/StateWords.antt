-- The words of sound states, recognised by masks.
use Rattle.std.specs.Prelude.{ℕ, Bool, true, ◌&&◌, not, Option, Some, None, is_some, bit_or, if◌then◌else◌}
use Rattle.std.specs.List.{list_all}
use Rattle.cell_rules.specs.Types.{Zone, Z3, PressIn, PressOut, Transfer, Posture, OpenIn, OpenOut, all_zones}
use Rattle.cell_rules.specs.Types.{transfer_of}
use Rattle.cell_word.specs.Layout.{zone_bit}
use Rattle.cell_word.specs.Reading.{bits_of, is_bit_set}
use Rattle.cell_word.specs.Patterns.{stands, nothing, both, flag_is, posture_is, place_is, field_is}
use Rattle.cell_word.specs.declared.patterns.Pattern.{Pattern}

-- The codes that a zone may have in its five bits, each as a set bit: 0 and 1 if it is closed, 9 if it moves; 16, 17
-- and 18 if it is open inward, and 21 with a plate; 24, 25 and 26 if it is open outward, and 30 with a plate.
abbrev pub shut_codes : ℕ
shut_codes = 0x203

abbrev pub inward_codes : ℕ
inward_codes = 0x270000

abbrev pub outward_codes : ℕ
outward_codes = 0x47000000

abbrev pub codes_if : ℕ → Option Transfer → ℕ
codes_if codes row = if is_some row then codes else 0

abbrev pub zone_codes : Zone → ℕ
zone_codes z =
    bit_or shut_codes
    (bit_or (codes_if inward_codes (transfer_of z OpenIn)) (codes_if outward_codes (transfer_of z OpenOut)))

-- a plate is on its way to a full place
abbrev pub onto_full : Zone → Posture → Option Transfer → Pattern
onto_full z q None = nothing
onto_full z q (Some row) = both (flag_is z true) (both (posture_is z q) (place_is row.to true))

abbrev pub is_lawful_zone : ℕ → Zone → Bool
is_lawful_zone w z =
    is_bit_set (zone_codes z) (bits_of w (zone_bit z) 5)
    && not (stands w (onto_full z OpenIn (transfer_of z OpenIn)))
    && not (stands w (onto_full z OpenOut (transfer_of z OpenOut)))

-- the press has at most one plate, and no forged one while it is open inward
abbrev pub is_lawful_press : ℕ → Bool
is_lawful_press w =
    not (stands w (both (place_is PressIn true) (place_is PressOut true)))
    && not (stands w (both (posture_is Z3 OpenIn) (place_is PressOut true)))

abbrev pub is_state_word : ℕ → Bool
is_state_word w = stands w (field_is 61 3 0) && list_all (is_lawful_zone w) all_zones && is_lawful_press w
