use Rattle.std.proofs.Common.{List, length, ◌∙◌, sym, subst, ap, refl, arith}
use Rattle.std.proofs.lemmas.List.{length-map}
use Rattle.std.proofs.lemmas.Result.{IfOk-weaker}
use Rattle.plan_words.specs.Run.{Word}
use Rattle.plan_words.specs.Plant.{ArePlans, shared_word}
use Rattle.plan_words.proofs.WordOrder.{made_plans}
use Rattle.plan_words.proofs.plant.PlantTables.share_words.Goals as goal

pub words-requires-clause-plans : goal.words-requires-clause-plans
words-requires-clause-plans c =
    made_plans c.args.self.now c.args.groups.now c.deref.result.now c.requires.groups (c.deref.ensures.value ∙ c.in_ok-sharers.ensures.words) c.requires.large (c.in_ok-check_groups.ensures.plans refl)

pub returns-clause-plans : goal.returns-clause-plans
returns-clause-plans c =
    let plans = made_plans c.args.self.now c.args.groups.now c.deref.result.now c.requires.groups (c.deref.ensures.value ∙ c.in_ok-sharers.ensures.words) c.requires.large (c.in_ok-check_groups.ensures.plans refl) in
    IfOk-weaker c.words.result _ _ (λ made is. subst ArePlans (sym is) plans) c.words.ensures.words

pub returns-clause-few : goal.returns-clause-few
returns-clause-few c =
    let few = c.if-len-gt-MAX_WORDS.false in
    let long = c.len.ensures in
    let items = ap length c.deref.ensures.value in
    let words = length-map c.deref.result.now (shared_word c.args.self.now) in
    IfOk-weaker c.words.result _ _ (λ made is. let same = ap (λ (ws : List Word). length ws) is in omega (arith, few, long, items, words, same)) c.words.ensures.words
