use Rattle.program_shell.proofs.ShellRows.{runs-mean}
use Rattle.program_shell.proofs.laws.runs_mean.Goals as goal

pub returns : goal.returns
returns c = runs-mean
