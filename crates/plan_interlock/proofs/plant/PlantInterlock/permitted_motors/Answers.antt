use Rattle.std.proofs.Common.{◌<◌, ◌≤◌, ◌∙◌, length, map, refl, sym, ap, subst, arith}
use Rattle.std.proofs.lemmas.List.{get_or-map}
use Rattle.plan_interlock.proofs.EachLoad.{AreLoaded, all_loaded, load_more, none_loaded, one_of}
use Rattle.plan_interlock.proofs.plant.PlantInterlock.permitted_motors.Goals as goal
use Rattle.plan_interlock.proofs.plant.PlantInterlock.permitted_motors.Goals.{After-loop-word}

pub loop-word-init : goal.loop-word-init
loop-word-init c =
    let ms = c.args.masks.now in
    let many = c.requires.each_word in
    none_loaded c.args.self.now (map (λ several. several.items) ms) c.args.pass.now (omega (arith, c.words-word-end.ensures.count, c.words-word-end.ensures.some))
    (λ n several low.
    let within : n < length ms = omega (arith, low, many) in
    let d = one_of ms n within in
    subst (λ xs. length xs ≤ 64) (sym (get_or-map (λ several. several.items) ms n d several within)) (c.requires.few n d within))
    (record { actor = refl; plant = c.requires.same_plant })

pub loop-word-preserved : goal.loop-word-preserved
loop-word-preserved c =
    let ms = c.args.masks.now in
    let w = c.loop-word.word in
    let e = c.permitted_on-permitted.ensures in
    let low : w < length c.args.self.now = omega (arith, c.loop-word-test.true, c.words-word-end.ensures.count) in
    let within : w < length ms = omega (arith, low, c.requires.each_word) in
    load_more c.args.self.now (map (λ several. several.items) ms) c.args.pass.now c.loop-word.pass c.permitted_on-permitted.new.pass w e.other_words c.loop-word.permitted c.permitted_on-permitted.result c.as_slice.result.now low
    (λ d. get_or-map (λ several. several.items) ms w c.index-masks-word.result d within ∙ (sym (ap (λ several. several.items) c.index-masks-word.is) ∙ sym c.as_slice.ensures.value))
    c.loop-word.invariant e.found e.pass

end : (c : After-loop-word) → AreLoaded c.args.self.now (map (λ several. several.items) c.args.masks.now) c.args.pass.now c.loop-word.pass c.loop-word.permitted (length c.args.self.now)
end c = all_loaded c.args.self.now (map (λ several. several.items) c.args.masks.now) c.args.pass.now c.loop-word.pass c.loop-word.permitted c.loop-word.word c.words-word-end.result c.loop-word.invariant c.words-word-end.ensures.count c.loop-word-test.false c.loop-word.auto.word-end

pub returns-clause-looks : goal.returns-clause-looks
returns-clause-looks c = (end c).looks

pub returns-clause-permitted : goal.returns-clause-permitted
returns-clause-permitted c = (end c).permitted

pub returns-clause-lasts : goal.returns-clause-lasts
returns-clause-lasts c = (end c).lasts

pub returns-clause-no_other : goal.returns-clause-no_other
returns-clause-no_other c = λ k set n d low.
    subst (λ xs. k < length xs) (get_or-map (λ several. several.items) c.args.masks.now n d d.items low) ((end c).no_other k set n (omega (arith, low, c.requires.each_word)) d.items)
