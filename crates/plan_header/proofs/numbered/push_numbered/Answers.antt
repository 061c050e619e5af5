use Rattle.std.proofs.Common.{arith, rules}
use Rattle.std.proofs.lemmas.Str.Pattern.{split_parts}
use Rattle.plan_header.proofs.Numbering.{no_blank, word_last, word_more}
use Rattle.plan_header.proofs.numbered.push_numbered.Goals as goal

pub words-preserved : goal.words-preserved
words-preserved c =
    let l = c.words in
    let cut = rw c.in-Some.is at (split_parts 32 l.rest.now c.split_once.result c.split_once.ensures.cases (omega arith)) in
    (word_more _ _ _ _ _ _ _ _ l.invariant.0 c.in_ok-push_word.ensures c.in_ok-push_str.ensures.bytes cut.0 (no_blank _ cut.1), search rules)

pub returns : goal.returns
returns c =
    let l = c.words in
    let lacks = rw c.in_default.is at (split_parts 32 l.rest.now c.split_once.result c.split_once.ensures.cases (omega arith)) in
    word_last c.push_word-2.result _ _ _ _ _ l.invariant.0 (no_blank _ lacks) c.push_word-2.ensures
