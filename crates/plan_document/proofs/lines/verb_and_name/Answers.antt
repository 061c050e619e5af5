use Rattle.std.proofs.Common.{◌≡◌, ◌∙◌, ◌++◌, ◌∷◌, [], ap, append_assoc, arith, Some, sym}
use Rattle.std.proofs.lemmas.Str.Pattern.{split_parts}
use Rattle.plan_text.specs.Calls.{verb_of, verb_word}
use Rattle.plan_document.proofs.Written.{word_of_verb}
use Rattle.plan_document.proofs.lines.verb_and_name.Goals as goal

pub returns : goal.returns
returns c =
    let parts = split_parts 32 c.args.line.now c.split_once.result c.split_once.ensures.cases (omega arith) in
    let cut = rw c.in_ok-word.was at parts in
    let told : c.read.result ≡ verb_of c.as_bytes.result.now = c.read.ensures in
    let read : verb_of c.in_ok-word.word.now ≡ Some c.in_ok-read.field-0 = ap verb_of (sym c.as_bytes.ensures.value) ∙ sym told ∙ c.in_ok-read.was in
    cut.0
    ∙ ap (λ word. word ++ 32 ∷ c.in_ok-word.name.now) (word_of_verb c.in_ok-word.word.now c.in_ok-read.field-0 read)
    ∙ sym (append_assoc (verb_word c.in_ok-read.field-0) (32 ∷ []) c.in_ok-word.name.now)
