-- What holds of six machines that go on in step with a state.
use Rattle.std.specs.Prelude.{List}
use Rattle.cell_types.specs.declared.answer.Event.{Event}
use Rattle.cell_rules.specs.Names.{ModelState, IsSound, after, IsLegal, IsStartState}
use Rattle.cell_parts.specs.Axes.{CellScales}
use Rattle.cell_team.specs.Names.{programs_of, HaveCome, HaveComeFrom, AreHeeded, Team}
use Rattle.cell_resume.specs.Teams.{AreInStep}

-- by the cell's programs, from machines in step with a sound state, whatever the order of the calls: the next call of
-- each machine is heeded
abbrev pub NoResumedMachineIsRefused : Type 0
NoResumedMachineIsRefused =
    (c : CellScales) (opening : ModelState) (history : List Event) (first team : Team)
    → IsSound opening → AreInStep first opening → IsLegal opening history
    → HaveComeFrom (programs_of c) first history team
    → AreHeeded (programs_of c) (after opening history) team

-- likewise each machine stays in step, so what is handed out then is taken back
abbrev pub ResumedMachinesStayInStep : Type 0
ResumedMachinesStayInStep =
    (c : CellScales) (opening : ModelState) (history : List Event) (first team : Team)
    → IsSound opening → AreInStep first opening → IsLegal opening history
    → HaveComeFrom (programs_of c) first history team
    → AreInStep team (after opening history)

-- so it is from a start
abbrev pub MachinesAreInStep : Type 0
MachinesAreInStep =
    (c : CellScales) (opening : ModelState) (history : List Event) (team : Team)
    → IsStartState opening → IsLegal opening history → HaveCome (programs_of c) opening history team
    → AreInStep team (after opening history)
