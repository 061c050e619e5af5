-- The most records, and the last lines of scripts.
use Rattle.std.specs.Prelude.{◌≡◌, [], codes}
use Rattle.csv_rows.specs.ScriptEnd.{end_text, max_records}
use Rattle.csv_rows.specs.declared.script_end.ScriptFault.TheVariants.{NoStart, BadStart, BadRow, Long}
use Rattle.csv_rows.specs.declared.script_end.Outcome.TheVariants.{Clean, Refused}

pub record ScriptEndsAreMet : Type 0 where
  pub most : max_records ≡ 65536
  pub clean : end_text Clean ≡ []
  pub no_start : end_text (Refused NoStart) ≡ codes "fault nostart\n"
  pub bad_start : end_text (Refused BadStart) ≡ codes "fault badstart\n"
  pub first_row : end_text (Refused (BadRow 1)) ≡ codes "fault badrow 1\n"
  pub later_row : end_text (Refused (BadRow 4093)) ≡ codes "fault badrow 4093\n"
  pub last_row : end_text (Refused (BadRow 65536)) ≡ codes "fault badrow 65536\n"
  pub long : end_text (Refused Long) ≡ codes "fault long\n"
