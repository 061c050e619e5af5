-- What a caller has seen of the history after a call, and what its line has heard.
use Rattle.std.specs.Prelude.{◌≡◌, ◌+◌, ◌%◌, ◌^◌, List, [], ◌∷◌, ◌++◌, Some, None, Result, Ok, Err}
use Rattle.cell_rules.specs.Types.{Machine, Call, Answer, Event, Reply, Settled, Busy}
use Rattle.cell_rules.specs.declared.heard.LineFault.{LineFault}
use Rattle.cell_rules.specs.declared.heard.Heard.{Heard}
use Rattle.cell_rules.specs.ModelState.{ModelState}
use Rattle.cell_rules.specs.History.{after, own_events}

abbrev pub event : Machine → Call → Answer → Event
event m c a = record { machine = m; call = c; answer = a }

-- what is seen now begins with what was seen before
abbrev pub BeginsWith : List Event → List Event → Type 0
BeginsWith now before = (more : List Event) × (now ≡ before ++ more)

-- a call was answered: the caller sees at least what it saw, then this call's event, the only new one of its own
pub record Settles (m : Machine) (c : Call) (a : Answer) (before now : List Event) : Type 0 where
  pub point : List Event
  pub begins : BeginsWith point before
  pub ends : now ≡ point ++ event m c a ∷ []
  pub own : own_events now m ≡ own_events before m ++ event m c a ∷ []

-- a call was not made: the caller sees at least what it saw, and nothing new of its own
pub record Waits (m : Machine) (before now : List Event) : Type 0 where
  pub begins : BeginsWith now before
  pub own : own_events now m ≡ own_events before m

-- what a caller has seen after a call, by what came back; the stamp is the one in the state after that
abbrev pub SeenAfter : Machine → Call → Result Reply LineFault → ModelState → List Event → List Event → Type 0
SeenAfter m c (Ok (Settled a stamp)) s before now = Settles m c a before now × (stamp ≡ (after s now).stamp)
SeenAfter m c (Ok (Busy lost stamp)) s before now = Waits m before now × (stamp ≡ (after s now).stamp)
SeenAfter m c (Err fault) s before now = now ≡ before

-- what a line hears: the number of calls, and what came back last
abbrev pub heard_nothing : Heard
heard_nothing = record { asks = 0; last = None }

abbrev pub heard_after : Heard → Call → Result Reply LineFault → Heard
heard_after h c r = record { asks = (h.asks + 1) % 2 ^ 64; last = Some (c, r) }
