-- A controller, and what a turn leaves of it.
use Rattle.std.specs.Prelude.{◌≡◌, List, Option, Some, None, Result}
use Rattle.cell_rules.specs.Types.{Machine, Call, Event, Reply}
use Rattle.cell_rules.specs.Names.{ModelState}
use Rattle.cell_rules.specs.Seen.{heard_after}
use Rattle.cell_rules.specs.declared.heard.LineFault.{LineFault}
use Rattle.cell_rules.specs.declared.heard.Heard.{Heard}
use Rattle.cell_control.specs.declared.controller.Controller.{Controller}
use Rattle.cell_control.specs.declared.controller.TakenTurn.{TakenTurn}
use Rattle.cell_control.specs.declared.fault.CtlFault.{CtlFault}
use Rattle.cell_control.specs.Steps.{Steps, GoesOn, IsReached}
use Rattle.cell_control.specs.Turns.{HearsTurn, Reads, Turns, answered}

-- a line is asked, and has heard what came back
abbrev pub AsksAndHears : {L : Type 0} → (L → Call → Result Reply LineFault → L → Type 0) → (L → Heard) → L → L → Call
    → Result Reply LineFault → Type 0
AsksAndHears asks heard before now c r = asks before c r now × (heard now ≡ heard_after (heard before) c r)

module _ {P S Sense Reading Act : Type 0} where
  -- its program, its step with its notes, and what has stopped it
  abbrev pub program_in : Controller P S Sense Reading Act → P
  program_in c = c.program

  abbrev pub step_in : Controller P S Sense Reading Act → S
  step_in c = c.progress

  abbrev pub stopped_in : Controller P S Sense Reading Act → Option CtlFault
  stopped_in c = c.stopped

  -- the actuators' commands at rest
  abbrev pub rest_in : (P → Steps S Sense Reading Act) → Controller P S Sense Reading Act → Act
  rest_in steps c = (steps c.program).rest c.progress

  -- of a controller that runs: the line is its machine's; it has reached its step by what was seen
  abbrev pub OwnsLine : (P → Steps S Sense Reading Act) → Controller P S Sense Reading Act → Machine → Type 0
  OwnsLine steps c machine = c.stopped ≡ None → machine ≡ (steps c.program).machine

  abbrev pub HasReached : (P → Steps S Sense Reading Act) → Controller P S Sense Reading Act → ModelState → List Event
      → Type 0
  HasReached steps c opening seen = c.stopped ≡ None → IsReached (steps c.program) opening seen c.progress

  -- a turn, by what the sensors showed and what came of it; and what its line hears
  abbrev pub TurnsBy : (P → Steps S Sense Reading Act) → Type 0 → (Call → Result Reply LineFault → Type 0)
      → Controller P S Sense Reading Act → Sense → Result Act CtlFault → Controller P S Sense Reading Act → Type 0
  TurnsBy steps same asks c sense result now =
      Turns (steps c.program) same asks c.stopped c.progress sense
      (record { result = result; progress = now.progress; stopped = now.stopped })

  -- a turn as it was taken, by what its sensors may show: it also tells what it asked, if anything
  abbrev pub TakesTurnBy : (P → Steps S Sense Reading Act) → (Sense → Type 0) → Type 0
      → (Call → Result Reply LineFault → Type 0) → Controller P S Sense Reading Act → TakenTurn Act
      → Controller P S Sense Reading Act → Type 0
  TakesTurnBy steps shows same asks c taken now =
      Reads shows (λ sense. TurnsBy steps (same × (taken.asked ≡ None)) (λ q r. asks q r × (taken.asked ≡ Some (q, r)))
      c sense (answered taken.told.act taken.told.fault) now)

  abbrev pub HearsBy : (P → Steps S Sense Reading Act) → Controller P S Sense Reading Act → Sense → Heard → Heard
      → Type 0
  HearsBy steps c sense before after = HearsTurn (steps c.program) c.stopped c.progress sense before after

  -- wherever it had come from to its step, it has come from there to the next one
  abbrev pub GoesOnBy : (P → Steps S Sense Reading Act) → Controller P S Sense Reading Act → List Event
      → Controller P S Sense Reading Act → List Event → Type 0
  GoesOnBy steps c before now after = now.stopped ≡ None → GoesOn (steps c.program) before c.progress after now.progress

  -- what its motors demand with these commands, at its step
  abbrev pub MeetsDemands : (P → Steps S Sense Reading Act) → Controller P S Sense Reading Act → Act → ModelState
      → List Event → Type 0
  MeetsDemands steps c act opening seen = (steps c.program).motor_demands c.progress act opening seen
