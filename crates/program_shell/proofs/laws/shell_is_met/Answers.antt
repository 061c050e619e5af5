use Rattle.program_shell.proofs.ShellRows.{shell-met}
use Rattle.program_shell.proofs.laws.shell_is_met.Goals as goal

pub returns : goal.returns
returns c = shell-met
