-- Exit statuses.
use Rattle.std.specs.Prelude.{ℕ}
use Rattle.program_shell.specs.declared.exit.Exit.{Exit}
use Rattle.program_shell.specs.declared.exit.Exit.TheVariants.{Well, Failed, Refused}

abbrev pub exit_status : Exit → ℕ
exit_status Well = 0
exit_status Failed = 1
exit_status Refused = 2
