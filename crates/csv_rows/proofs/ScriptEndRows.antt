-- The last lines of the example ends.
use Rattle.std.proofs.Common.{refl}
use Rattle.std.specs.Fmt.{digits}
use Rattle.csv_rows.specs.ScriptEndExamples.{ScriptEndsAreMet}

pub script_ends_are_met : ScriptEndsAreMet
unfolding digits
script_ends_are_met =
    record {
      most = refl;
      clean = refl;
      no_start = refl;
      bad_start = refl;
      first_row = refl;
      later_row = refl;
      last_row = refl;
      long = refl;
    }
