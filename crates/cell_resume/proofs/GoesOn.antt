-- Six machines that go on, machine by machine.
use Rattle.cell_rules.specs.Names.{ModelState, after}
use Rattle.cell_parts.specs.Axes.{CellScales}
use Rattle.cell_team.specs.Names.{AreHeeded, Team, programs_of}
use Rattle.cell_team.proofs.lemmas.NextCalls.{next-calls}
use Rattle.cell_team.proofs.lemmas.Together.{none-refused}
use Rattle.cell_resume.specs.GoingOn.{GoOn, MachinesGoOn}
use Rattle.cell_resume.specs.Teams.{AreInStep}
use Rattle.cell_resume.proofs.StaysInStep.{are_in_step, none_refused, stay_in_step}

go-on : (c : CellScales) (team : Team) (s : ModelState) → AreHeeded (programs_of c) s team → AreInStep team s → GoOn c team s
go-on c team s heeded k = record {
  calls = next-calls c s team heeded;
  feed = k.feed;
  table = k.table;
  robot = k.robot;
  press = k.press;
  deposit = k.deposit;
  crane = k.crane;
}

pub machines-go-on : (c : CellScales) → MachinesGoOn c
machines-go-on c = record {
  from_any_state = λ opening history first team sound f t r p d h legal feed table robot press deposit crane.
      let stand : AreInStep first opening = record { feed = f; table = t; robot = r; press = p; deposit = d; crane = h } in
      go-on c team (after opening history)
      (none_refused c opening history first team sound stand legal (record { feed = feed; table = table; robot = robot; press = press; deposit = deposit; crane = crane }))
      (stay_in_step c opening history first team sound stand legal (record { feed = feed; table = table; robot = robot; press = press; deposit = deposit; crane = crane }));
  from_a_start = λ opening history team start legal feed table robot press deposit crane.
      go-on c team (after opening history)
      (none-refused c opening history team start legal (record { feed = feed; table = table; robot = robot; press = press; deposit = deposit; crane = crane }))
      (are_in_step c opening history team start legal (record { feed = feed; table = table; robot = robot; press = press; deposit = deposit; crane = crane }));
}
