-- What a bench is to its caller, and what a call does to it.
use Rattle.std.specs.Prelude.{◌≡◌, Bool, true, false, List, [], ◌∷◌, ◌++◌, Result, Ok, Err}
use Rattle.cell_rules.specs.Types.{Machine, Call, Event, Reply, Settled, Busy}
use Rattle.cell_rules.specs.declared.heard.LineFault.{LineFault}
use Rattle.cell_rules.specs.ModelState.{ModelState}
use Rattle.cell_rules.specs.Reply.{reply, next}
use Rattle.cell_rules.specs.Seen.{event}

-- the opening, the state, the history between them, who is seated, and whether that caller finds the bench busy
pub record Desk : Type 0 where
  pub opening : ModelState
  pub state : ModelState
  pub history : List Event
  pub machine : Machine
  pub busy : Bool

-- if the caller finds the bench busy, the answer is Busy and nothing changes; else the state answers the call and makes
-- its change, and the event is added to the history; out of memory changes nothing
abbrev pub BenchAsks : Desk → Call → Result Reply LineFault → Desk → Type 0
BenchAsks b c (Ok (Busy lost stamp)) d = (b.busy ≡ true) × (lost ≡ 1) × (stamp ≡ b.state.stamp) × (d ≡ b)
BenchAsks b c (Ok (Settled a stamp)) d =
    (b.busy ≡ false)
    × (a ≡ reply b.state b.machine c)
    × (stamp ≡ d.state.stamp)
    × (d ≡ record b { state = next b.state b.machine c; history = b.history ++ event b.machine c a ∷ [] })
BenchAsks b c (Err fault) d = (b.busy ≡ false) × (d ≡ b)
