-- A machine's turns, one after another, and how they end.
use Rattle.std.specs.Prelude.{◌≡◌, ◌<◌, ℕ, Bool, true, false, ⊤, ◌⊎◌, List, [], ◌∷◌, Option, Some, None, length}
use Rattle.plan_types.specs.declared.call.Call.{Call}
use Rattle.plan_types.specs.declared.answer.Answer.{Answer}
use Rattle.plan_types.specs.declared.answer.Event.{Event}
use Rattle.plan_types.specs.Table.{PlanTable}
use Rattle.plan_rules.specs.declared.state.State.{State}
use Rattle.plan_controller.specs.Turns.{Turns, IsCareful, ArePermitted, AreRunning}
use Rattle.plan_workers.specs.declared.worker.WorkTurn.{WorkTurn}
use Rattle.plan_workers.specs.Works.{AtWork, ReadsThenDrives}

-- what is known of lines and devices, whichever they are
pub record Ways (L D : Type 0) : Type 1 where
  pub table : L → PlanTable
  pub machine : L → ℕ
  pub opening : L → State
  pub seen : L → List Event
  pub asks : L → Call → Option Answer → L → Type 0
  pub reads : D → Option ℕ → D → Type 0
  pub drives : D → ℕ → D → Type 0

-- what a gate may answer a machine, by the number of the turn
abbrev pub GateOf : Type 1
GateOf = ℕ → Bool → Type 0

abbrev pub last_of : {A : Type 0} → A → List A → A
last_of first [] = first
last_of first (now ∷ later) = last_of now later

module _ {M : Type 0} (turn : M → M → Type 0) where
  -- turns of any kind, each from the end of the one before it: the moment after each
  abbrev pub AreTakenBy : M → List M → Type 0
  AreTakenBy before [] = ⊤
  AreTakenBy before (now ∷ later) = turn before now × AreTakenBy now later

  -- one has gone from one moment to another by `took` turns, and the gate has let it into each
  pub record HasComeBy (gate : GateOf) (first last : M) (took : ℕ) : Type 0 where
    pub turns : List M
    pub taken : AreTakenBy first turns
    pub is_last : last_of first turns ≡ last
    pub many : length turns ≡ took
    pub let_in : (k : ℕ) → k < took → gate k true

  -- it ends after the last of its turns, or where its gate says no
  pub record HasWorkedBy (gate : GateOf) (limit : ℕ) (first last : M) (took : ℕ) : Type 0 where
    pub come : HasComeBy gate first last took
    pub ends : (took ≡ limit) ⊎ ((took < limit) × gate took false)

module _ {L D : Type 0} (w : Ways L D) where
  -- a turn of a machine at work: its sensors are read once, its controller takes a turn, and the motors of this turn
  -- are given once; each is permitted by all that its line has seen
  pub record TakesTurn (before now : AtWork L D) : Type 0 where
    pub turn : WorkTurn
    pub devices : ReadsThenDrives w.reads w.drives before.devices turn.sensors turn.taken.motors now.devices
    pub turns : Turns before.control ((now.line ≡ before.line) × (turn.taken.asked ≡ None))
        (λ call answer. w.asks before.line call answer now.line × (turn.taken.asked ≡ Some (call, answer)))
        turn.sensors turn.taken.motors now.control
    pub careful : IsCareful before.control turn.sensors turn.taken.motors now.control
    pub own : w.machine now.line ≡ w.machine before.line
    pub table : w.table now.line ≡ w.table before.line
    pub opening : w.opening now.line ≡ w.opening before.line
    pub running : AreRunning (w.table now.line) (w.opening now.line) (w.seen now.line) now.control turn.taken.motors
    pub permitted : ArePermitted (w.table now.line) (w.opening now.line) (w.seen now.line) now.control
        turn.taken.motors

  -- such turns, one after another
  abbrev pub AreTaken : AtWork L D → List (AtWork L D) → Type 0
  AreTaken before turns = AreTakenBy TakesTurn before turns

  -- a machine has gone from one moment to another by `took` of them
  abbrev pub HasCome : GateOf → AtWork L D → AtWork L D → ℕ → Type 0
  HasCome gate first last took = HasComeBy TakesTurn gate first last took

  -- and has ended after the last of its turns, or where its gate says no
  abbrev pub HasWorked : GateOf → ℕ → AtWork L D → AtWork L D → ℕ → Type 0
  HasWorked gate limit first last took = HasWorkedBy TakesTurn gate limit first last took
