-- The two parties of a zone: its host and its guest.
use Rattle.std.specs.Prelude.{Bool, true, false, Option, Some, None, if◌then◌else◌}
use Rattle.cell_rules.specs.Types.{Machine, Zone, Posture, OpenIn, OpenOut, host_of, guest_of, same_machine}
use Rattle.cell_word.specs.declared.parties.Party.{Party}
use Rattle.cell_word.specs.declared.parties.Party.TheVariants.{Host, Guest}

-- which party of a zone a machine is, if it is one
abbrev pub party_of : Machine → Zone → Option Party
party_of m z =
    if same_machine m (host_of z) then Some Host else if same_machine m (guest_of z) then Some Guest else None

abbrev pub machine_of : Zone → Party → Machine
machine_of z Host = host_of z
machine_of z Guest = guest_of z

abbrev pub opposite : Party → Party
opposite Host = Guest
opposite Guest = Host

abbrev pub is_guest : Party → Bool
is_guest Host = false
is_guest Guest = true

-- the posture in which a party gives: plates come in from the guest, and go out from the host
abbrev pub giving_posture : Party → Posture
giving_posture Host = OpenOut
giving_posture Guest = OpenIn
