-- Six machines that go on over one interlock after another, each of which opens where the one before it ended.
use Rattle.std.specs.Prelude.{◌≡◌, ◌≤◌, ℕ, zero, suc, List}
use Rattle.cell_types.specs.declared.answer.Event.{Event}
use Rattle.cell_rules.specs.Names.{ModelState, last_stamp, restamped, after, empty, IsLegal, IsStartState, start_state}
use Rattle.cell_parts.specs.Axes.{CellScales}
use Rattle.cell_team.specs.Team.{Programs, Team, programs_of, HasComeFrom}
use Rattle.cell_team.specs.Heeded.{AreHeeded}

-- the first step of each program, by the places that are full
abbrev pub first_team : Programs → ModelState → Team
first_team t opening =
    record {
      feed = t.feed.start opening;
      table = t.table.start opening;
      robot = t.robot.start opening;
      press = t.press.start opening;
      deposit = t.deposit.start opening;
      crane = t.crane.start opening;
    }

-- each machine has come from its step to another
pub record HaveComeFrom (t : Programs) (first : Team) (history : List Event) (team : Team) : Type 0 where
  pub feed : HasComeFrom t.feed first.feed history team.feed
  pub table : HasComeFrom t.table first.table history team.table
  pub robot : HasComeFrom t.robot first.robot history team.robot
  pub press : HasComeFrom t.press first.press history team.press
  pub deposit : HasComeFrom t.deposit first.deposit history team.deposit
  pub crane : HasComeFrom t.crane first.crane history team.crane

-- An interlock was renewed: these steps are those to which the machines had come over the one before, which ended with
-- this state but for the stamp.
pub record IsRenewed (t : Programs) (Stand : ModelState → Team → Type 0) (opening : ModelState) (team : Team)
    : Type 0 where
  pub before : ModelState
  pub first : Team
  pub stood : Stand before first
  pub history : List Event
  pub legal : IsLegal before history
  pub come : HaveComeFrom t first history team
  pub stamp : ℕ
  pub in_range : stamp ≤ last_stamp
  pub opens : opening ≡ restamped (after before history) stamp

-- after this many renewals an interlock opens so, with the machines at these steps; the first one opened with a start
abbrev pub StandAfter : Programs → ℕ → ModelState → Team → Type 0
StandAfter t zero opening team = IsStartState opening × (team ≡ first_team t opening)
StandAfter t (suc renewals) opening team = IsRenewed t (StandAfter t renewals) opening team

-- by the cell's programs, after any number of renewals, whatever the order of the calls: the next call of each machine
-- is heeded
abbrev pub NoRenewedMachineIsRefused : Type 0
NoRenewedMachineIsRefused =
    (c : CellScales) (renewals : ℕ) (opening : ModelState) (history : List Event) (first team : Team)
    → StandAfter (programs_of c) renewals opening first → IsLegal opening history
    → HaveComeFrom (programs_of c) first history team
    → AreHeeded (programs_of c) (after opening history) team

-- six machines at their starts over an empty cell; they stand so after a renewal too, which may give any stamp
abbrev pub six_at_start : CellScales → Team
six_at_start c = first_team (programs_of c) (start_state empty 0)

pub record RenewalExamples (c : CellScales) : Type 0 where
  pub never : StandAfter (programs_of c) 0 (start_state empty 0) (six_at_start c)
  pub once : (stamp : ℕ) → stamp ≤ last_stamp
      → StandAfter (programs_of c) 1 (start_state empty stamp) (six_at_start c)
  pub twice : StandAfter (programs_of c) 2 (start_state empty last_stamp) (six_at_start c)
  -- six machines have come from their steps if each has; and a renewal opens with the state that was left, but for the
  -- stamp, and with the machines where they were
  pub each_has_come : (first : Team) (history : List Event) (team : Team)
      → HasComeFrom (programs_of c).feed first.feed history team.feed
      → HasComeFrom (programs_of c).table first.table history team.table
      → HasComeFrom (programs_of c).robot first.robot history team.robot
      → HasComeFrom (programs_of c).press first.press history team.press
      → HasComeFrom (programs_of c).deposit first.deposit history team.deposit
      → HasComeFrom (programs_of c).crane first.crane history team.crane
      → HaveComeFrom (programs_of c) first history team
  pub after_a_run : (start : ModelState) (history : List Event) (team : Team) (stamp : ℕ) → IsStartState start
      → IsLegal start history → HaveComeFrom (programs_of c) (first_team (programs_of c) start) history team
      → stamp ≤ last_stamp → StandAfter (programs_of c) 1 (restamped (after start history) stamp) team
