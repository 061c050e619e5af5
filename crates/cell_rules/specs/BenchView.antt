-- What contracts see of a bench.
use Rattle.std.specs.Prelude.{◌-◌, List, length, slice_get, Option, Some, None, Result, Ok, Err}
use Rattle.std.specs.Option.{option_map}
use Rattle.cell_rules.specs.Types.{Call, Event, Reply}
use Rattle.cell_types.specs.declared.reply.Reply.TheVariants.{Settled as settled, Busy as busy}
use Rattle.cell_rules.specs.declared.heard.LineFault.{LineFault}
use Rattle.cell_rules.specs.declared.heard.LineFault.TheVariants.{Memory}
use Rattle.cell_rules.specs.declared.heard.Heard.{Heard}
use Rattle.cell_rules.specs.declared.bench.Bench.{Bench}
use Rattle.cell_rules.specs.declared.bench.LastCall.{LastCall}
use Rattle.cell_rules.specs.declared.bench.LastCall.TheVariants.{Nothing, Settled, Busy, OutOfMemory}
use Rattle.cell_rules.specs.ModelState.{ModelState}
use Rattle.cell_rules.specs.Benches.{Desk}

abbrev pub desk_of : Bench → Desk
desk_of b =
    record { opening = b.opening; state = b.state; history = b.history.items; machine = b.machine; busy = b.busy }

-- the last event of a history, if it has one; what came back from its call, at the state that the history leads to
abbrev pub last_event : List Event → Option Event
last_event h = slice_get h (length h - 1)

abbrev pub settled_at : ModelState → Event → Call × Result Reply LineFault
settled_at s e = (e.call, Ok (settled e.answer s.stamp))

-- the last call and what came back, by how it ended
abbrev pub last_of : ModelState → List Event → LastCall → Option (Call × Result Reply LineFault)
last_of s h Nothing = None
last_of s h Settled = option_map (settled_at s) (last_event h)
last_of s h (Busy c) = Some (c, Ok (busy 1 s.stamp))
last_of s h (OutOfMemory c) = Some (c, Err Memory)

abbrev pub heard_of : Bench → Heard
heard_of b = record { asks = b.asks; last = last_of b.state b.history.items b.last_call }
