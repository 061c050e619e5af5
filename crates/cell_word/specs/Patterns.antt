-- Some bits of a word and their wanted values.
use Rattle.std.specs.Prelude.{ℕ, ◌+◌, ◌-◌, ◌*◌, ◌/◌, ◌%◌, ◌^◌, Bool, nat_eq, bit_and, bit_or, Option, if◌then◌else◌}
use Rattle.cell_rules.specs.Types.{Machine, Zone, Place, Posture}
use Rattle.cell_rules.specs.ModelState.{one_if}
use Rattle.cell_word.specs.Layout.{zone_bit, place_bit, stamp_bit, mark_bit, owner_code, posture_code}
use Rattle.cell_word.specs.declared.patterns.Pattern.{Pattern}

abbrev pub pattern : ℕ → ℕ → Pattern
pattern mask wanted = record { mask = mask; wanted = wanted }

-- a word matches a pattern if the bits under its mask are the wanted ones
abbrev pub stands : ℕ → Pattern → Bool
stands w p = nat_eq (bit_and w p.mask) p.wanted

-- a word with some bits cleared, and then some set
abbrev pub with_written : ℕ → ℕ → ℕ → ℕ
with_written w clear set = bit_or (w - bit_and w clear) set

-- the pattern of every word, and that of none
abbrev pub anything : Pattern
anything = pattern 0 0

abbrev pub nothing : Pattern
nothing = pattern 0 0x8000000000000000

abbrev pub when : Bool → Pattern → Pattern
when b p = if b then p else nothing

-- two patterns at once
abbrev pub both : Pattern → Pattern → Pattern
both p q = pattern (bit_or p.mask q.mask) (bit_or p.wanted q.wanted)

-- a field has a value
abbrev pub field_is : ℕ → ℕ → ℕ → Pattern
field_is lowest width value = pattern ((2 ^ width - 1) * 2 ^ lowest) (value * 2 ^ lowest)

-- a zone has an owner, or none
abbrev pub owner_is : Zone → Option Machine → Pattern
owner_is z o = field_is (zone_bit z) 2 (owner_code z o)

-- a plate is in a zone, or isn't
abbrev pub flag_is : Zone → Bool → Pattern
flag_is z b = field_is (zone_bit z + 2) 1 (one_if b)

abbrev pub posture_is : Zone → Posture → Pattern
posture_is z q = field_is (zone_bit z + 3) 2 (posture_code q)

-- a zone has another posture: the low bit of the posture differs, or the high bit
abbrev pub low_differs : Zone → Posture → Pattern
low_differs z q = field_is (zone_bit z + 3) 1 (1 - posture_code q % 2)

abbrev pub high_differs : Zone → Posture → Pattern
high_differs z q = field_is (zone_bit z + 4) 1 (1 - posture_code q / 2)

-- a place is full, or empty
abbrev pub place_is : Place → Bool → Pattern
place_is p b = field_is (place_bit p) 1 (one_if b)

abbrev pub stamp_is : ℕ → Pattern
stamp_is n = field_is stamp_bit 20 n

-- the cell is stopped, or isn't
abbrev pub mark_is : Bool → Pattern
mark_is b = field_is mark_bit 1 (one_if b)
