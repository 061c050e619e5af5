use Rattle.std.proofs.Common.{◌∙◌, sym, arith}
use Rattle.plan_words.proofs.SharedWords.{room_found_at, room_not_at, room_by}
use Rattle.plan_words.proofs.plant.PlantTables.first_room.Goals as goal

pub returns-then-branch-clause-first : goal.returns-then-branch-clause-first
returns-then-branch-clause-first c =
    let room = room_by c.args.self.now c.args.label c.args.words.now c.loop-word.word-index c.word-item.result c.word-item.is (sym c.in_ok-has_room.ensures.room ∙ c.if-branch.true) in
    let rest = room_found_at c.args.self.now c.args.label c.args.words.now c.loop-word.word-index c.word-item.result c.loop-word-test.true room in
    let all = c.loop-word.invariant.1 in
    omega (arith, rest, all)

pub loop-word-preserved : goal.loop-word-preserved
loop-word-preserved c =
    let room = room_by c.args.self.now c.args.label c.args.words.now c.loop-word.word-index c.word-item.result c.word-item.is (sym c.in_ok-has_room.ensures.room ∙ c.if-branch.false) in
    let rest = room_not_at c.args.self.now c.args.label c.args.words.now c.loop-word.word-index c.word-item.result c.loop-word-test.true room in
    let all = c.loop-word.invariant.1 in
    let before = c.loop-word.invariant.0 in
    (omega (arith, before), omega (arith, rest, all))
