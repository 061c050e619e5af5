-- What the notebooks of the machines hold.
use Rattle.cell_notes.specs.Names.{map_machines}
use Rattle.cell_notes.specs.declared.by_machine.ByMachine.{ByMachine}
use Rattle.cell_notes.specs.Notes.{notes_of}
use Rattle.cell_notes.specs.declared.notebook.Notebook.{Notebook}
use Rattle.cell_plant.specs.Moments.{AllNotes}

abbrev pub all_notes : ByMachine Notebook → AllNotes
all_notes b = map_machines notes_of b
