-- No machine is refused but as worn, or for what its step waits for: so no refusal but a worn one stops one.
use Rattle.std.specs.Prelude.{◌≡◌, Bool, true, false, ◌||◌, List, ◌∷◌, ◌++◌, Some, Err, IsTrue}
use Rattle.cell_rules.specs.Types.{Call, Refusal, Worn, Refused, Event}
use Rattle.cell_rules.specs.Names.{ModelState, reply, after, IsLegal, event, IsStartState}
use Rattle.cell_control.specs.Names.{Steps, waits_out}
use Rattle.cell_control.specs.declared.fault.CtlFault.{CtlFault}
use Rattle.cell_control.specs.declared.fault.CtlFault.TheVariants as fault
use Rattle.cell_control.specs.Steps.{after_refusal}
use Rattle.cell_parts.specs.Axes.{CellScales}
use Rattle.cell_team.specs.Team.{Programs, Team, programs_of, HasCome, HaveCome}

abbrev pub is_worn : Refusal → Bool
is_worn Worn = true
is_worn _ = false

-- if what the step asks is refused in this state, the step waits for that, or the stamps are worn
abbrev pub IsHeeded : {S Sense Reading Act : Type 0} → Steps S Sense Reading Act → ModelState → S → Type 0
IsHeeded t z p =
    (call : Call) (r : Refusal) → (t.row p).call ≡ Some call → reply z t.machine call ≡ Refused r
    → IsTrue (waits_out t p r || is_worn r)

pub record AreHeeded (t : Programs) (z : ModelState) (team : Team) : Type 0 where
  pub feed : IsHeeded t.feed z team.feed
  pub table : IsHeeded t.table z team.table
  pub robot : IsHeeded t.robot z team.robot
  pub press : IsHeeded t.press z team.press
  pub deposit : IsHeeded t.deposit z team.deposit
  pub crane : IsHeeded t.crane z team.crane

-- by these programs, from a start, whatever the order of the calls: the next call of each machine is heeded
abbrev pub NoneIsRefused : Programs → Type 0
NoneIsRefused t =
    (opening : ModelState) (history : List Event) (team : Team)
    → IsStartState opening → IsLegal opening history → HaveCome t opening history team
    → AreHeeded t (after opening history) team

-- so it is by the cell's programs
abbrev pub NoMachineIsRefused : Type 0
NoMachineIsRefused = (c : CellScales) → NoneIsRefused (programs_of c)

-- a refusal in the history has stopped a machine with this fault, at a step to which it had come
pub record IsStoppedBy {S Sense Reading Act : Type 0} (t : Steps S Sense Reading Act) (opening : ModelState)
    (history : List Event) (p : S) (fault : CtlFault) : Type 0 where
  pub before : List Event
  pub rest : List Event
  pub call : Call
  pub refusal : Refusal
  pub split : history ≡ before ++ event t.machine call (Refused refusal) ∷ rest
  pub come : HasCome t opening before p
  pub asks : (t.row p).call ≡ Some call
  pub stops : after_refusal t p refusal ≡ Err fault

-- no refusal but a worn one has stopped it, at any step
abbrev pub IsUnstopped : {S Sense Reading Act : Type 0} → Steps S Sense Reading Act → ModelState → List Event → Type 0
IsUnstopped {S = S} t opening history = (p : S) (r : Refusal) → ¬ IsStoppedBy t opening history p (fault.Refused r)

pub record AreUnstopped (t : Programs) (opening : ModelState) (history : List Event) : Type 0 where
  pub feed : IsUnstopped t.feed opening history
  pub table : IsUnstopped t.table opening history
  pub robot : IsUnstopped t.robot opening history
  pub press : IsUnstopped t.press opening history
  pub deposit : IsUnstopped t.deposit opening history
  pub crane : IsUnstopped t.crane opening history

-- so in no such history has a refusal stopped a machine, but a worn one
abbrev pub NoMachineIsStopped : Type 0
NoMachineIsStopped =
    (c : CellScales) (opening : ModelState) (history : List Event) (team : Team)
    → IsStartState opening → IsLegal opening history → HaveCome (programs_of c) opening history team
    → AreUnstopped (programs_of c) opening history
