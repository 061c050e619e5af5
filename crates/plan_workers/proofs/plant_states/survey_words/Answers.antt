use Rattle.std.proofs.Common.{◌+◌, ◌<◌, ◌∙◌, length, ap, sym, subst}
use Rattle.std.proofs.lemmas.Iterator.Adapters.{YieldsList-from_vec}
use Rattle.std.proofs.lemmas.Iterator.Consumers.{YieldsList-end, YieldsList-turn}
use Rattle.std.proofs.lemmas.List.{length_push}
use Rattle.plan_workers.specs.PlantStates.{IsStateOn}
use Rattle.plan_workers.proofs.PlantRecording.{NextRight, all_words, next_right, of_word, one_more}
use Rattle.plan_workers.proofs.plant_states.survey_words.Goals as goal
use Rattle.plan_workers.proofs.plant_states.survey_words.Goals.{After-word}

-- the right that comes next is that of the next word
next : (c : After-word) → NextRight c.args.interlock.now c.args.pass c.rights.word c.in-Some.right
next c =
    let items = c.into_rights-right-items.result in
    let given = c.into_iter-right-iterator.ensures.into_iter_gives in
    let turn = YieldsList-turn (YieldsList-from_vec items.items given.0 (given.1 ∙ items.ok.0)) c.rights.yielded c.rights.right-iterator c.rights.yielded_by c.next.result c.next.new.self c.in-Some.right c.in-Some.is c.next.ensures.steps in
    next_right c.args.interlock.now c.args.pass items.items c.rights.word (length c.rights.yielded) c.in-Some.right c.requires.own c.into_rights-right-items.ensures.rights c.rights.invariant.word turn.0 turn.1

pub survey-requires : goal.survey-requires
survey-requires c =
    let it = (goal.at.survey-requires c).After-word in
    let at = next it in
    record { same_interlock = (of_word c.args.interlock.now c.args.pass c.rights.word c.word.result.now c.in-Some.right c.requires.own at.low c.word.ensures at.is).table }

pub rights-preserved : goal.rights-preserved
rights-preserved c =
    let at = next (goal.at.rights-preserved c).After-word in
    let old = c.rights.invariant in record {
      word = ap (λ n. n + 1) old.word ∙ sym (length_push c.rights.yielded c.in-Some.right);
      states = one_more IsStateOn c.args.interlock.now c.args.pass.rights c.rights.states.items c.push.new.self.items c.rights.word c.word.result.now c.in-Some.right c.survey.result at.low_right old.states c.word.ensures at.is c.in_ok-push.ensures.items
          (record { now = c.survey.new.pass; more = c.survey.ensures.more; state = c.survey.ensures.state });
    }

pub returns : goal.returns
returns c =
    let items = c.into_rights-right-items.result in
    let given = c.into_iter-right-iterator.ensures.into_iter_gives in
    let end = YieldsList-end (YieldsList-from_vec items.items given.0 (given.1 ∙ items.ok.0)) c.rights.yielded c.rights.right-iterator c.rights.yielded_by c.next.result c.next.new.self c.in-None.is c.next.ensures.steps in
    let all = all_words c.args.interlock.now c.args.pass c.rights.word c.requires.own (c.rights.invariant.word ∙ (end.1 ∙ ap length c.into_rights-right-items.ensures.rights)) in
    let so = c.rights.invariant.states in
    record { states = record { each_word = so.many ∙ all; on_words = λ w i v s low. so.each w (subst (λ n. w < n) (sym all) low) i v s } }
