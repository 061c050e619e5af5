use Rattle.cell_notes.proofs.MachineValues.{put-is-found}
use Rattle.cell_notes.proofs.by_machine.put_is_found.Goals as goal

pub returns : goal.returns
returns g c = put-is-found c.args._values.now
