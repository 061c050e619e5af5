use Rattle.program_shell.specs.Faults.{fault_line}
use Rattle.program_shell.proofs.lemmas.Prefixes.{written_prefix}
use Rattle.program_shell.proofs.faults.fail.Goals as goal

pub returns-clause-line : goal.returns-clause-line
returns-clause-line g c = written_prefix c.write_fault.result _ _ (fault_line c.args.fault.now) c.write_fault.ensures.ok c.write_fault.ensures.err
