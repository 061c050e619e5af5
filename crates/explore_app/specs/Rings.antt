-- The lines of those who wait at a standstill, and of those who are refused at a refusal.
use Rattle.std.specs.Prelude.{Bool, true, false, [], ◌++◌, codes, Option, Some, None}
use Rattle.std.specs.Option.{option_map}
use Rattle.std.specs.List.{flat_map}
use Rattle.cell_rules.specs.Types.{Machine, Zone, Call, Answer, Refused, Held, NotOwner}
use Rattle.cell_rules.specs.Types.{Claim, Give, Yield, Take, Release, Inquire, SetPose, Advance, Stop, Resume}
use Rattle.cell_rules.specs.Types.{all_machines, machine_word, call_text, answer_text}
use Rattle.cell_rules.specs.Names.{ModelState, reply, other_party}
use Rattle.cell_notes.specs.Names.{at_machine}
use Rattle.cell_explorer.specs.declared.turning.Prospect.{Prospect}
use Rattle.cell_explorer.specs.Situations.{waits, stops}
use Rattle.cell_explorer.specs.declared.walk.Walk.{Walk}
use Rattle.explore_app.specs.declared.ending.Ending.{Ending}
use Rattle.explore_app.specs.declared.ending.Ending.TheVariants.{Standstill, Refusal}
use Rattle.explore_app.specs.Bounds.{Text}

-- the words for an ending
unfoldable pub ending_words : Ending → Text
ending_words Standstill = codes "a standstill"
ending_words Refusal = codes "a refusal that stops a machine"

-- whether an ending is about a machine whose next turn would do this
abbrev pub is_about : Ending → Prospect → Bool
is_about Standstill prospect = waits prospect
is_about Refusal prospect = stops prospect

-- ---- whom a machine waits for

-- the zone that a call is about
abbrev pub zone_of : Call → Option Zone
zone_of (Claim zone) = Some zone
zone_of (Give zone) = Some zone
zone_of (Yield zone) = Some zone
zone_of (Take zone) = Some zone
zone_of (Release zone) = Some zone
zone_of (Inquire zone) = Some zone
zone_of (SetPose pose) = None
zone_of Advance = None
zone_of Stop = None
zone_of Resume = None

-- the owner that refuses it, or else the other party of the zone
abbrev pub party_awaited : Machine → Call → Answer → Option Machine
party_awaited m c (Refused (Held owner)) = Some owner
party_awaited m c (Refused (NotOwner (Some owner))) = Some owner
party_awaited m c _ = option_map (λ zone. other_party m zone) (zone_of c)

abbrev pub party_word : Option Machine → Text
party_word (Some m) = machine_word m
party_word None = codes "nobody"

-- ---- lines

-- a machine's name; what it asks, and the answer
unfoldable pub name_words : Machine → Text
name_words m = codes "# " ++ machine_word m

unfoldable pub asked_words : Call → Answer → Text
asked_words c a = codes ": " ++ call_text c ++ codes ": " ++ answer_text a ++ codes "\n"

-- a machine waits; it is refused; in a round it goes on
unfoldable pub waiting_line : Machine → Call → Answer → Text
waiting_line m c a = name_words m ++ codes " waits for " ++ party_word (party_awaited m c a) ++ asked_words c a

unfoldable pub refused_line : Machine → Call → Answer → Text
refused_line m c a = name_words m ++ codes " is refused" ++ asked_words c a

unfoldable pub going_on_line : Machine → Call → Answer → Text
going_on_line m c a = name_words m ++ codes " goes on" ++ asked_words c a

-- by an ending
abbrev pub ending_line : Ending → Machine → Call → Answer → Text
ending_line Standstill m c a = waiting_line m c a
ending_line Refusal m c a = refused_line m c a

-- the line of a machine that an ending is about
abbrev pub line_if : Ending → ModelState → Machine → Option Call → Bool → Text
line_if e s m (Some c) true = ending_line e m c (reply s m c)
line_if e s m (Some c) false = []
line_if e s m None about = []

abbrev pub ring_line : Ending → Walk → Machine → Text
ring_line e walk m =
    line_if e walk.end.state m (at_machine walk.next m).call (is_about e (at_machine walk.next m).prospect)

-- the lines of an ending
abbrev pub ring_lines : Ending → Walk → Text
ring_lines e walk = flat_map (ring_line e walk) all_machines
