-- The answers to the example scripts.
use Rattle.std.proofs.Common.{rules}
use Rattle.std.specs.Fmt.{digits}
use Rattle.csv.proofs.OnLiterals.{csv_on_literals}
use Rattle.cell_replay.specs.Requests.{call_of, machine_of, request_of}
use Rattle.cell_replay.specs.Script.{history_of, requests_in, script_events, script_lines, script_outcome, script_start, script_text, start_in}
use Rattle.cell_replay.specs.ScriptExamples.{AnswerExamples, CutExamples, ScriptsAreMet, StartExamples, StopExamples}

answers : AnswerExamples
unfolding csv_on_literals digits call_of machine_of request_of history_of requests_in script_events script_lines script_outcome script_start script_text start_in
answers = search rules

starts : StartExamples
unfolding csv_on_literals digits call_of machine_of request_of history_of requests_in script_events script_lines script_outcome script_start script_text start_in
starts = search rules

stops : StopExamples
unfolding csv_on_literals digits call_of machine_of request_of history_of requests_in script_events script_lines script_outcome script_start script_text start_in
stops = search rules

cuts : CutExamples
unfolding digits call_of machine_of request_of history_of requests_in start_in
cuts = search rules

pub scripts_are_met : ScriptsAreMet
scripts_are_met = record { answers = answers; starts = starts; stops = stops; cuts = cuts }
