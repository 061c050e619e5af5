use Rattle.std.proofs.Common.{◌+◌, ◌<◌, ◌∙◌, length, ap, sym, subst}
use Rattle.std.proofs.lemmas.Iterator.Adapters.{YieldsList-from_vec}
use Rattle.std.proofs.lemmas.Iterator.Consumers.{YieldsList-end, YieldsList-turn}
use Rattle.std.proofs.lemmas.List.{length_push}
use Rattle.plan_workers.specs.Jobs.{IsJobOf}
use Rattle.plan_workers.specs.PlantRecording.{IsNewLine}
use Rattle.plan_workers.proofs.PlantRecording.{NextRight, all_words, next_right, of_word, one_more}
use Rattle.plan_workers.proofs.plant_record.lines_of.Goals as goal
use Rattle.plan_workers.proofs.plant_record.lines_of.Goals.{After-word}

-- the right that comes next is that of the next word
right : (c : After-word) → NextRight c.args.interlock.now c.args.pass c.rights.word c.in-Some.right
right c =
    let items = c.into_rights-right-items.result in
    let given = c.into_iter-right-iterator.ensures.into_iter_gives in
    let turn = YieldsList-turn (YieldsList-from_vec items.items given.0 (given.1 ∙ items.ok.0)) c.rights.yielded c.rights.right-iterator c.rights.yielded_by c.next.result c.next.new.self c.in-Some.right c.in-Some.is c.next.ensures.steps in
    next_right c.args.interlock.now c.args.pass items.items c.rights.word (length c.rights.yielded) c.in-Some.right c.requires.own c.into_rights-right-items.ensures.rights c.rights.invariant.word turn.0 turn.1

job : (c : After-word) → IsJobOf c.word.result.now c.in-Some.right
job c =
    let next = right c in
    of_word c.args.interlock.now c.args.pass c.rights.word c.word.result.now c.in-Some.right c.requires.own next.low c.word.ensures next.is

pub new-requires-clause-own : goal.new-requires-clause-own
new-requires-clause-own c = (job (goal.at.new-requires-clause-own c).After-word).table

pub new-requires-clause-same_plan : goal.new-requires-clause-same_plan
new-requires-clause-same_plan c = (job (goal.at.new-requires-clause-same_plan c).After-word).plan

pub rights-preserved : goal.rights-preserved
rights-preserved c =
    let next = right (goal.at.rights-preserved c).After-word in
    let old = c.rights.invariant in
    let made = c.new.ensures in record {
      word = ap (λ n. n + 1) old.word ∙ sym (length_push c.rights.yielded c.in-Some.right);
      begun = one_more IsNewLine c.args.interlock.now c.args.pass.rights c.rights.lines.items c.push.new.self.items c.rights.word c.word.result.now c.in-Some.right c.new.result next.low_right old.begun c.word.ensures next.is c.in_ok-push.ensures.items
          (record { pass = made.pass; plan = made.plan; tries = made.tries; before = made.before; empty = made.empty });
    }

pub returns : goal.returns
returns c =
    let items = c.into_rights-right-items.result in
    let given = c.into_iter-right-iterator.ensures.into_iter_gives in
    let end = YieldsList-end (YieldsList-from_vec items.items given.0 (given.1 ∙ items.ok.0)) c.rights.yielded c.rights.right-iterator c.rights.yielded_by c.next.result c.next.new.self c.in-None.is c.next.ensures.steps in
    let all = all_words c.args.interlock.now c.args.pass c.rights.word c.requires.own (c.rights.invariant.word ∙ (end.1 ∙ ap length c.into_rights-right-items.ensures.rights)) in
    let so = c.rights.invariant.begun in
    record { begun = record { each_word = so.many ∙ all; on_words = λ w i v l low. so.each w (subst (λ n. w < n) (sym all) low) i v l } }
