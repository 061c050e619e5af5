-- How far machines have come that keep one pace.
use Rattle.std.specs.Prelude.{ℕ, ◌≤◌, ⊤}
use Rattle.cell_rules.specs.Types.{Watch}
use Rattle.cell_notes.specs.declared.by_machine.ByMachine.{ByMachine}
use Rattle.cell_notes.specs.ByMachine.{HoldsOfEach, each_machine, with_machine}
use Rattle.cell_threads.specs.declared.paced.Pace.{Pace}
use Rattle.cell_threads.specs.declared.paced.Pace.TheVariants.{Had, Ended}

-- before any turn; the watch takes none
abbrev pub first_paces : ByMachine Pace
first_paces = with_machine (each_machine (Had 0)) Watch Ended

-- a machine has had this number of turns, or takes no more
abbrev pub HasHad : ℕ → Pace → Type 0
HasHad turns (Had had) = turns ≤ had
HasHad turns Ended = ⊤

-- likewise each machine
abbrev pub HaveHad : ℕ → ByMachine Pace → Type 0
HaveHad turns = HoldsOfEach (HasHad turns)
