-- Each machine's next call, machine by machine; and how a machine comes on in a history.
use Rattle.std.specs.Prelude.{◌≡◌, ◌⊎◌, ◌++◌, ℕ, true, false, List, [], ◌∷◌, Some, None, Ok}
use Rattle.cell_rules.specs.Types.{Machine, Feed, Table, Robot, Press, Deposit, Crane, Call, Refusal, Worn, Answer}
use Rattle.cell_rules.specs.Types.{Refused, Event, same_machine}
use Rattle.cell_rules.specs.Names.{ModelState, reply, after, event, IsLegal, IsStartState}
use Rattle.cell_control.specs.Names.{Steps, waits_out, after_answer}
use Rattle.cell_parts.specs.Axes.{CellScales}
use Rattle.cell_team.specs.Team.{DrivesOn, HasCome, HasComeFrom, LeadsOrStays, Team, programs_of}
use Rattle.cell_team.specs.Renewals.{StandAfter}

-- what this step asks, as this machine's call in this state, is refused only as worn, or with what the step waits for
abbrev pub IsRefusedAtMost : {S Sense Reading Act : Type 0} → Steps S Sense Reading Act → Machine → ModelState → S
    → Type 0
IsRefusedAtMost t m z p =
    (call : Call) (r : Refusal) → (t.row p).call ≡ Some call → reply z m call ≡ Refused r
    → (r ≡ Worn) ⊎ (waits_out t p r ≡ true)

pub record NextCalls (c : CellScales) (z : ModelState) (team : Team) : Type 0 where
  pub feed : IsRefusedAtMost (programs_of c).feed Feed z team.feed
  pub table : IsRefusedAtMost (programs_of c).table Table z team.table
  pub robot : IsRefusedAtMost (programs_of c).robot Robot z team.robot
  pub press : IsRefusedAtMost (programs_of c).press Press z team.press
  pub deposit : IsRefusedAtMost (programs_of c).deposit Deposit z team.deposit
  pub crane : IsRefusedAtMost (programs_of c).crane Crane z team.crane

-- each refusal in a history of a call that a step asked to which the machine had come was such a one
abbrev pub WasRefusedAtMost : {S Sense Reading Act : Type 0} → Steps S Sense Reading Act → Machine → ModelState
    → List Event → Type 0
WasRefusedAtMost {S = S} t m opening history =
    (before rest : List Event) (call : Call) (r : Refusal) (p : S)
    → history ≡ before ++ event m call (Refused r) ∷ rest → HasCome t opening before p → (t.row p).call ≡ Some call
    → (r ≡ Worn) ⊎ (waits_out t p r ≡ true)

pub record PastCalls (c : CellScales) (opening : ModelState) (history : List Event) : Type 0 where
  pub feed : WasRefusedAtMost (programs_of c).feed Feed opening history
  pub table : WasRefusedAtMost (programs_of c).table Table opening history
  pub robot : WasRefusedAtMost (programs_of c).robot Robot opening history
  pub press : WasRefusedAtMost (programs_of c).press Press opening history
  pub deposit : WasRefusedAtMost (programs_of c).deposit Deposit opening history
  pub crane : WasRefusedAtMost (programs_of c).crane Crane opening history

-- how a machine comes on by this program: by any answer that leads on, by any refusal to where it was, and by driving;
-- other machines' events change nothing
pub record ComesOn {S Sense Reading Act : Type 0} (t : Steps S Sense Reading Act) : Type 0 where
  pub leads : (p q : S) (a : Answer) → after_answer t p a ≡ Ok q → LeadsOrStays t p a q
  pub stays : (p : S) (r : Refusal) → LeadsOrStays t p (Refused r) p
  pub drives : (p : S) (reading : Reading) (act : Act) → (t.row p).call ≡ None → t.drives p reading act
      → DrivesOn t p (t.after_drive p reading act)
  pub at_its_start : (opening : ModelState) → HasCome t opening [] (t.start opening)
  pub asks : (p q r : S) (call : Call) (a : Answer) (later : List Event) → (t.row p).call ≡ Some call
      → LeadsOrStays t p a q → HasComeFrom t q later r → HasComeFrom t p (event t.machine call a ∷ later) r
  pub goes_on : (p q r : S) (later : List Event) → DrivesOn t p q → HasComeFrom t q later r → HasComeFrom t p later r
  pub others : (p r : S) (e : Event) (later : List Event) → same_machine e.machine t.machine ≡ false
      → HasComeFrom t p later r → HasComeFrom t p (e ∷ later) r

-- From a start, or after any number of renewals, in each legal history in which each machine has come to a step. And
-- each of the six comes on so.
pub record NextCallsAreHeeded (c : CellScales) : Type 0 where
  pub from_a_start : (opening : ModelState) (history : List Event) (team : Team)
      → IsStartState opening → IsLegal opening history
      → HasCome (programs_of c).feed opening history team.feed
      → HasCome (programs_of c).table opening history team.table
      → HasCome (programs_of c).robot opening history team.robot
      → HasCome (programs_of c).press opening history team.press
      → HasCome (programs_of c).deposit opening history team.deposit
      → HasCome (programs_of c).crane opening history team.crane
      → NextCalls c (after opening history) team
  pub past : (opening : ModelState) (history : List Event) (team : Team)
      → IsStartState opening → IsLegal opening history
      → HasCome (programs_of c).feed opening history team.feed
      → HasCome (programs_of c).table opening history team.table
      → HasCome (programs_of c).robot opening history team.robot
      → HasCome (programs_of c).press opening history team.press
      → HasCome (programs_of c).deposit opening history team.deposit
      → HasCome (programs_of c).crane opening history team.crane
      → PastCalls c opening history
  pub renewed : (renewals : ℕ) (opening : ModelState) (history : List Event) (first team : Team)
      → StandAfter (programs_of c) renewals opening first → IsLegal opening history
      → HasComeFrom (programs_of c).feed first.feed history team.feed
      → HasComeFrom (programs_of c).table first.table history team.table
      → HasComeFrom (programs_of c).robot first.robot history team.robot
      → HasComeFrom (programs_of c).press first.press history team.press
      → HasComeFrom (programs_of c).deposit first.deposit history team.deposit
      → HasComeFrom (programs_of c).crane first.crane history team.crane
      → NextCalls c (after opening history) team
  pub feed : ComesOn (programs_of c).feed
  pub table : ComesOn (programs_of c).table
  pub robot : ComesOn (programs_of c).robot
  pub press : ComesOn (programs_of c).press
  pub deposit : ComesOn (programs_of c).deposit
  pub crane : ComesOn (programs_of c).crane
