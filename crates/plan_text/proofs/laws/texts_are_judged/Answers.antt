use Rattle.plan_text.proofs.TextLaws.{texts_are_names, texts_are_taken, words_are_of_one}
use Rattle.plan_text.proofs.laws.texts_are_judged.Goals as goal

pub returns-clause-names : goal.returns-clause-names
returns-clause-names c = texts_are_names

pub returns-clause-taken : goal.returns-clause-taken
returns-clause-taken c = texts_are_taken

pub returns-clause-of_one : goal.returns-clause-of_one
returns-clause-of_one c = words_are_of_one
