use Rattle.program_shell.proofs.ShellRows.{runs-met}
use Rattle.program_shell.proofs.laws.runs_are_met.Goals as goal

pub returns : goal.returns
returns c = runs-met
