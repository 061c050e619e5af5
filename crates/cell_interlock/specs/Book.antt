-- The rules of the cell, as an interlock on a word takes them.
use Rattle.cell_types.specs.declared.machine.Machine.{Machine}
use Rattle.cell_types.specs.declared.call.Call.{Call}
use Rattle.cell_types.specs.declared.answer.Answer.{Answer}
use Rattle.cell_types.specs.declared.answer.Event.{Event}
use Rattle.cell_types.specs.Same.{same_machine}
use Rattle.cell_types.specs.Everything.{all_machines}
use Rattle.cell_rules.specs.ModelState.{ModelState}
use Rattle.cell_rules.specs.Sound.{IsSound}
use Rattle.cell_rules.specs.Reply.{reply, next}
use Rattle.cell_rules.specs.History.{is_done_answer}
use Rattle.cell_rules.specs.Seen.{event}
use Rattle.cell_word.specs.Layout.{packed}
use Rattle.word_interlock.specs.RuleBook.{RuleBook}

-- answers and the states after calls are those of the sequential interlock, words those of the layout
abbrev pub cell_book : RuleBook ModelState Machine Call Answer Event
cell_book = record {
  is_sound = IsSound;
  reply = reply;
  next = next;
  is_done = is_done_answer;
  stamp = λ s. s.stamp;
  packed = packed;
  same = same_machine;
  actors = all_machines;
  event = event;
  actor_of = λ e. e.machine;
  call_of = λ e. e.call;
  answer_of = λ e. e.answer;
}
