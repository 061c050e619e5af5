use Rattle.plan_document.proofs.NameWords.{names-are-words}
use Rattle.plan_document.proofs.laws.names_are_words.Goals as goal

pub returns : goal.returns
returns c = names-are-words
