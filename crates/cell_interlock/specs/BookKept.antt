-- The rules of the cell owe what an interlock on a word asks of rules.
use Rattle.std.proofs.Common.{◌≡◌, ◌+◌, ◌≤◌, nat_eq, true, refl, arith}
use Rattle.std.proofs.lemmas.Bool.Decides.{nat_tests}
use Rattle.cell_types.specs.declared.machine.Machine.{Machine}
use Rattle.cell_types.specs.declared.call.Call.{Call}
use Rattle.cell_types.specs.declared.answer.Answer.{Answer}
use Rattle.cell_types.specs.declared.answer.Answer.TheVariants.{Done, Shown, Refused}
use Rattle.cell_types.specs.Same.{same_machine, one_machine}
use Rattle.cell_types.specs.Everything.{all_machines}
use Rattle.cell_rules.specs.ModelState.{ModelState}
use Rattle.cell_rules.specs.Reply.{reply, next_by}
use Rattle.cell_rules.specs.History.{is_done_answer}
use Rattle.cell_rules.proofs.lemmas.Soundness.{next_keeps}
use Rattle.cell_rules.proofs.lemmas.UnchangedStates.{next-same}
use Rattle.cell_rules.proofs.lemmas.SeenLemmas.{same_as_itself}
use Rattle.cell_rules.proofs.lemmas.Tables.{from_machines}
use Rattle.word_interlock.specs.RuleBook.{IsRuleBook, times}
use Rattle.cell_interlock.specs.Book.{cell_book}

counts_by : (a : Answer) (s : ModelState) (m : Machine) (c : Call) → is_done_answer a ≡ true
    → (next_by a s m c).stamp ≡ s.stamp + 1
counts_by Done s m c e = refl
counts_by (Shown o f p) s m c e = cc
counts_by (Refused r) s m c e = cc

once : (m : Machine) → times same_machine m all_machines ≤ 1
once m =
    let one = from_machines (λ n. nat_eq (times same_machine n all_machines) 1) refl m in
    grind (arith, nat_tests, one)

pub cell_is_rule_book : IsRuleBook cell_book
cell_is_rule_book = record {
  keeps = next_keeps;
  quiet = next-same;
  counts = λ s m c e. counts_by (reply s m c) s m c e;
  itself = same_as_itself;
  one = one_machine;
  once = once;
  actor = λ m c a. refl;
  call = λ m c a. refl;
  answer = λ m c a. refl;
}
