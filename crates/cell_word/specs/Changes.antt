-- The bits that a Done call writes.
use Rattle.std.specs.Prelude.{ℕ, ◌+◌, ◌^◌, Bool, true, false, Option, Some, None, Result, Ok, Err, if◌then◌else◌}
use Rattle.std.specs.Option.{option_or}
use Rattle.cell_rules.specs.Types.{Machine, Feed, Deposit, Watch, Zone, Z4, Z5, Z6, Place, Transfer, Posture, Closed}
use Rattle.cell_rules.specs.Types.{OpenIn, OpenOut, Call, Claim, Give, Yield, Take, Release, SetPose, Advance}
use Rattle.cell_rules.specs.Types.{Inquire, Stop, Resume, Refusal, transfer_of, own_move_of, same_machine}
use Rattle.cell_rules.specs.Names.{is_party, other_party}
use Rattle.cell_word.specs.Patterns.{anything, both, owner_is, flag_is, posture_is, place_is, mark_is, with_written}
use Rattle.cell_word.specs.Guards.{row_given, hosted_zones, posed_at}
use Rattle.cell_word.specs.declared.patterns.Pattern.{Pattern}

-- the row of transfers in which a machine receives in a zone; there is at most one
abbrev pub received_by : Machine → Option Transfer → Option Transfer
received_by m None = None
received_by m (Some row) = if same_machine row.receiver m then Some row else None

abbrev pub row_received : Machine → Zone → Option Transfer
row_received m z = option_or (received_by m (transfer_of z OpenIn)) (received_by m (transfer_of z OpenOut))

abbrev pub owner_becomes : Machine → Zone → Option Machine → Pattern
owner_becomes m z o = if is_party m z then owner_is z o else anything

abbrev pub give_pattern : Machine → Zone → Option Transfer → Pattern
give_pattern m z None = anything
give_pattern m z (Some row) =
    both (place_is row.from false) (both (flag_is z true) (owner_is z (Some (other_party m z))))

abbrev pub take_pattern : Zone → Option Transfer → Pattern
take_pattern z None = anything
take_pattern z (Some row) = both (flag_is z false) (place_is row.to true)

abbrev pub posture_pattern : Option (Zone × Posture) → Pattern
posture_pattern None = anything
posture_pattern (Some at) = posture_is at.0 at.1

abbrev pub move_pattern : Option (Place × Place) → Pattern
move_pattern None = anything
move_pattern (Some way) = both (place_is way.0 false) (place_is way.1 true)

abbrev pub halt_pattern : Machine → Pattern
halt_pattern Feed = posture_is Z6 Closed
halt_pattern Deposit = both (posture_is Z4 Closed) (posture_is Z5 Closed)
halt_pattern _ = anything

-- the watch alone stops the cell, and lets it go on
abbrev pub mark_becomes : Machine → Bool → Pattern
mark_becomes m b = if same_machine m Watch then mark_is b else anything

-- what a machine's call writes; no bits if it can never be Done
abbrev pub written : Machine → Call → Pattern
written m (Claim z) = owner_becomes m z (Some m)
written m (Give z) = give_pattern m z (row_given m z)
written m (Yield z) = owner_becomes m z (Some (other_party m z))
written m (Take z) = take_pattern z (row_received m z)
written m (Release z) = owner_becomes m z None
written m (SetPose p) =
    both (posture_pattern (posed_at m p (hosted_zones m).0)) (posture_pattern (posed_at m p (hosted_zones m).1))
written m Advance = both (move_pattern (own_move_of m)) (halt_pattern m)
written m (Inquire z) = anything
written m Stop = mark_becomes m true
written m Resume = mark_becomes m false

-- the word after a call whose guards gave this: with what they let it write and the next stamp, or the same word
abbrev pub word_after : ℕ → Result Pattern Refusal → ℕ
word_after w (Ok p) = with_written w p.mask p.wanted + 2 ^ 40
word_after w (Err _) = w
