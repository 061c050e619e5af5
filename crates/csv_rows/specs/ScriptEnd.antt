-- How a script ends whose records are answered one by one.
use Rattle.std.specs.Prelude.{ℕ, List, [], ◌∷◌, ◌++◌, codes}
use Rattle.std.specs.Fmt.{decimal}
use Rattle.csv_rows.specs.declared.script_end.ScriptFault.{ScriptFault}
use Rattle.csv_rows.specs.declared.script_end.ScriptFault.TheVariants.{NoStart, BadStart, BadRow, Long}
use Rattle.csv_rows.specs.declared.script_end.Outcome.{Outcome}
use Rattle.csv_rows.specs.declared.script_end.Outcome.TheVariants.{Clean, Refused}

-- the most records after record 0 that are answered
abbrev pub max_records : ℕ
max_records = 65536

abbrev pub fault_text : ScriptFault → List ℕ
fault_text NoStart = codes "nostart"
fault_text BadStart = codes "badstart"
fault_text (BadRow number) = codes "badrow " ++ decimal number
fault_text Long = codes "long"

-- the last line of a refused script
abbrev pub end_text : Outcome → List ℕ
end_text Clean = []
end_text (Refused fault) = codes "fault " ++ (fault_text fault ++ 10 ∷ [])
