-- What each machine notes of a history: its own events, each with the stamp after it.
use Rattle.std.specs.Prelude.{List, [], ◌∷◌, if◌then◌else◌}
use Rattle.cell_rules.specs.Types.{Machine, Event, Entry, same_machine}
use Rattle.cell_rules.specs.ModelState.{ModelState}
use Rattle.cell_rules.specs.Reply.{next}

-- the state after an event
abbrev pub state_left : ModelState → Event → ModelState
state_left s e = next s e.machine e.call

-- the entry of an event: its call and answer, and the stamp of the state after it
abbrev pub entry_of : ModelState → Event → Entry
entry_of s e = record { call = e.call; answer = e.answer; stamp = (state_left s e).stamp }

-- a machine's entries of a history
abbrev pub noted : ModelState → List Event → Machine → List Entry
noted s [] m = []
noted s (e ∷ history) m =
    if same_machine e.machine m then entry_of s e ∷ noted (state_left s e) history m
    else noted (state_left s e) history m

-- the event of a machine's entry
abbrev pub event_by : Machine → Entry → Event
event_by m e = record { machine = m; call = e.call; answer = e.answer }
