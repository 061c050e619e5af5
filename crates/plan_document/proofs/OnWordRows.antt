-- What the documents of two literal words have.
use Rattle.std.proofs.Common.{refl}
use Rattle.plan_document.specs.OnWord.{first_word, machines_from}
use Rattle.plan_document.specs.OnWordExamples.{WordsHaveTheirRows}

pub word_rows : WordsHaveTheirRows
unfolding first_word machines_from
word_rows = record { door = refl; gate = refl }
