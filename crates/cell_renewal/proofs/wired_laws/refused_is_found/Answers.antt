use Rattle.cell_renewal.proofs.WiredRecording.{refused-found}
use Rattle.cell_renewal.proofs.wired_laws.refused_is_found.Goals as goal

pub returns : goal.returns
returns c = refused-found
