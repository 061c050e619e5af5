-- The lines of a film: one for its start, and one for each event of a history.
use Rattle.std.specs.Prelude.{false, List, [], ◌∷◌, ◌++◌, codes, if◌then◌else◌}
use Rattle.std.specs.Fmt.{digits}
use Rattle.plan_types.specs.declared.answer.Answer.{Answer}
use Rattle.plan_types.specs.declared.answer.Event.{Event}
use Rattle.plan_rules.specs.declared.state.State.{State}
use Rattle.plan_rules.specs.History.{is_done_answer}
use Rattle.plan_rules.specs.Reply.{next}
use Rattle.plan_word.specs.Packed.{packed}
use Rattle.plan_text.specs.Answers.{answer_text}
use Rattle.plan_text.specs.Calls.{call_text}
use Rattle.plan_text.specs.Named.{Named}
use Rattle.plan_text.specs.Names.{Text}
use Rattle.plan_header.specs.Words.{machine_name}

-- a state's word in hexadecimal
abbrev pub word_text : Named → State → Text
word_text n s = digits 16 false (packed n.plan s)

abbrev pub start_line : Named → State → Text
start_line n s = codes "start;" ++ (word_text n s ++ codes "\n")

abbrev pub state_after : Named → State → Event → State
state_after n s e = next n.plan s e.machine e.call

-- the word after a call that was done; other calls leave it as it is
abbrev pub word_if : Named → State → Answer → Text
word_if n after answer = if is_done_answer answer then word_text n after else []

-- a machine, its call and the answer
abbrev pub told_event : Named → Event → Text
told_event n e =
    machine_name n e.machine ++ (codes ";" ++ (call_text n e.call ++ (codes ";" ++ (answer_text n e.answer
    ++ codes ";"))))

-- an event that leads to a state
abbrev pub line_to : Named → State → Event → Text
line_to n after e = told_event n e ++ (word_if n after e.answer ++ codes "\n")

abbrev pub event_lines : Named → State → List Event → Text
event_lines n s [] = []
event_lines n s (e ∷ events) = line_to n (state_after n s e) e ++ event_lines n (state_after n s e) events

abbrev pub film_lines : Named → State → List Event → Text
film_lines n s events = start_line n s ++ event_lines n s events
