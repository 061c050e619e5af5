use Rattle.std.proofs.Common.{arith, rules, sym, subst}
use Rattle.std.proofs.lemmas.Str.Pattern.{split_parts}
use Rattle.plan_document.proofs.FaultWords.{AreNamedUpTo, IsAdded, all_named, none_named, word_named}
use Rattle.plan_document.specs.Refusals.{AreFaults}
use Rattle.plan_document.specs.Saying.{words_in}
use Rattle.plan_document.proofs.Written.{if_ok_more}
use Rattle.plan_document.proofs.refusals.faults_in.Goals as goal

pub words-init : goal.words-init
words-init c = (subst (AreNamedUpTo c.args.words.now c.args.words.now) (sym c.none-faults.ensures) (none_named _), search rules)

pub words-preserved : goal.words-preserved
words-preserved c =
    let l = c.words in
    let cut = rw c.in-Some.is at (split_parts 32 l.rest.now c.split_once.result c.split_once.ensures.cases (omega arith)) in
    (word_named _ _ _ _ _ _ c.in_ok-faults.ensures cut.0 cut.1 l.invariant.0, search rules)

pub returns : goal.returns
returns c =
    let l = c.words in
    let lacks = rw c.in_default.is at (split_parts 32 l.rest.now c.split_once.result c.split_once.ensures.cases (omega arith)) in
    if_ok_more c.with_word-2.result (IsAdded l.rest.now l.faults) (AreFaults (words_in c.args.words.now))
    (λ all one. all_named c.args.words.now l.rest.now l.faults all one lacks l.invariant.0) c.with_word-2.ensures
