use Rattle.std.proofs.Common.{◌≡◌, length, take, drop, ◌++◌, sym, ap, ◌∙◌, arith}
use Rattle.plan_workers.proofs.Written.{written}
use Rattle.plan_workers.proofs.plant_worker.PlantWorker.work_turn.Goals as goal

pub returns-clause-turn : goal.returns-clause-turn
returns-clause-turn g c =
    let lines = c.self.inside.lines in
    let now = c.turn-taken.new.lines in
    let kept : take lines.len (now ++ drop (length now) lines.items) ≡ now
    = written lines.items now lines.len (omega (arith, lines.ok.0)) (c.turn-taken.ensures.each_word ∙ ap length c.deref_mut.ensures.value) in
    rw (sym c.self.view_is, kept, sym c.deref_mut.ensures.value) c.turn-taken.ensures.turn

pub returns-clause-on_words : goal.returns-clause-on_words
returns-clause-on_words g c =
    let lines = c.self.inside.lines in
    let now = c.turn-taken.new.lines in
    let kept : take lines.len (now ++ drop (length now) lines.items) ≡ now
    = written lines.items now lines.len (omega (arith, lines.ok.0)) (c.turn-taken.ensures.each_word ∙ ap length c.deref_mut.ensures.value) in
    rw (sym c.self.view_is, kept, sym c.deref_mut.ensures.value) c.turn-taken.ensures.on_words
