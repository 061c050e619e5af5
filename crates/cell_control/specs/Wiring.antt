-- A controller at the end of its line, and its turns.
use Rattle.std.specs.Prelude.{◌≡◌, List, [], Option, None, Result}
use Rattle.cell_rules.specs.Types.{Machine, Call, Event, Reply}
use Rattle.cell_rules.specs.Names.{ModelState, IsSound, heard_after}
use Rattle.cell_rules.specs.declared.heard.LineFault.{LineFault}
use Rattle.cell_rules.specs.declared.heard.Heard.{Heard}
use Rattle.cell_control.specs.declared.fault.CtlFault.{CtlFault}
use Rattle.cell_control.specs.Steps.{Steps, GoesOn, IsReached}
use Rattle.cell_control.specs.Turns.{Turns, answered}
use Rattle.cell_control.specs.declared.commands.Commands.{Commands}

-- a program, the progress in it, what has stopped it, and the line on which it asks
pub record Wiring (P S L : Type 0) : Type 0 where
  pub program : P
  pub progress : S
  pub stopped : Option CtlFault
  pub line : L

abbrev pub wiring_of : {P S L : Type 0} → P → S → Option CtlFault → L → Wiring P S L
wiring_of program progress stopped line = record {
  program = program;
  progress = progress;
  stopped = stopped;
  line = line;
}

-- the line is the program's machine's, and a controller that runs has reached its step by what the line has seen
pub record IsWired {S Sense Reading Act : Type 0} (t : Steps S Sense Reading Act) (machine : Machine)
    (opening : ModelState) (seen : List Event) (stopped : Option CtlFault) (p : S) : Type 0 where
  pub own : machine ≡ t.machine
  pub reached : stopped ≡ None → IsReached t opening seen p

-- a machine off its line: its program, the progress in it, what has stopped it, and the state that it has left
pub record Unwiring (P S : Type 0) : Type 0 where
  pub program : P
  pub progress : S
  pub stopped : Option CtlFault
  pub left : ModelState

-- the program is this machine's, and a controller that runs may go on where an interlock opens with the state that it
-- has left
pub record IsUnwired {S Sense Reading Act : Type 0} (t : Steps S Sense Reading Act) (machine : Machine)
    (left : ModelState) (stopped : Option CtlFault) (p : S) : Type 0 where
  pub own : machine ≡ t.machine
  pub sound : IsSound left
  pub reached : stopped ≡ None → IsReached t left [] p

-- a turn is the controller's turn on its line
abbrev pub TurnsWired : {P S Sense Reading Act L : Type 0} → Steps S Sense Reading Act
    → (L → Call → Result Reply LineFault → L → Type 0) → (L → Heard) → Wiring P S L → Sense → Commands Act
    → Wiring P S L → Type 0
TurnsWired t asks heard w s told w' =
    Turns t (w'.line ≡ w.line) (λ c r. asks w.line c r w'.line × (heard w'.line ≡ heard_after (heard w.line) c r))
    w.stopped w.progress s (record {
      result = answered told.act told.fault;
      progress = w'.progress;
      stopped = w'.stopped;
    })

-- a machine that still runs after a turn: wherever it had come from to its step, it has come from there to the next one
abbrev pub GoesOnWired : {P S Sense Reading Act L : Type 0} → Steps S Sense Reading Act → (L → List Event)
    → Wiring P S L → Wiring P S L → Type 0
GoesOnWired t seen w w' = w'.stopped ≡ None → GoesOn t (seen w.line) w.progress (seen w'.line) w'.progress
