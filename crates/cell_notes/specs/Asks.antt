-- The call of a turn, and its effect.
use Rattle.std.specs.Prelude.{Bool, true, false, List, [], ◌∷◌, Option, Some, None, Result, Ok, Err}
use Rattle.cell_rules.specs.Types.{Call, Machine, Done, Shown, Refused, Event, Entry, Reply, Settled, Busy}
use Rattle.cell_rules.specs.Names.{event}
use Rattle.cell_rules.specs.declared.heard.LineFault.{LineFault}

-- the call of a turn, if there was one, and what came back
abbrev pub TurnCall : Type 0
TurnCall = Option (Call × Result Reply LineFault)

-- the event of a machine's call if it was done: the machine's part notes it
abbrev pub done_by : Machine → Call → Result Reply LineFault → Option Event
done_by m c (Ok (Settled Done stamp)) = Some (event m c Done)
done_by m c _ = None

abbrev pub done_in : Machine → TurnCall → Option Event
done_in m None = None
done_in m (Some call) = done_by m call.0 call.1

-- what came back, by kind
abbrev pub is_done_reply : Result Reply LineFault → Bool
is_done_reply (Ok (Settled Done stamp)) = true
is_done_reply _ = false

abbrev pub is_read_reply : Result Reply LineFault → Bool
is_read_reply (Ok (Settled (Shown owner flag posture) stamp)) = true
is_read_reply _ = false

abbrev pub is_refused_reply : Result Reply LineFault → Bool
is_refused_reply (Ok (Settled (Refused refusal) stamp)) = true
is_refused_reply _ = false

abbrev pub is_busy_reply : Result Reply LineFault → Bool
is_busy_reply (Ok (Busy lost stamp)) = true
is_busy_reply _ = false

abbrev pub came_back : (Result Reply LineFault → Bool) → TurnCall → Bool
came_back test None = false
came_back test (Some call) = test call.1

-- the events of a run: its calls that were settled
abbrev pub settled_by : Machine → Call → Result Reply LineFault → List Event
settled_by m c (Ok (Settled a stamp)) = event m c a ∷ []
settled_by m c (Ok (Busy lost stamp)) = []
settled_by m c (Err fault) = []

abbrev pub settled_in : Machine → TurnCall → List Event
settled_in m None = []
settled_in m (Some call) = settled_by m call.0 call.1

-- the journal's entries of a call: one if it was settled
abbrev pub entries_by : Call → Result Reply LineFault → List Entry
entries_by c (Ok (Settled a stamp)) = record { call = c; answer = a; stamp = stamp } ∷ []
entries_by c (Ok (Busy lost stamp)) = []
entries_by c (Err fault) = []

abbrev pub entries_in : TurnCall → List Entry
entries_in None = []
entries_in (Some call) = entries_by call.0 call.1
