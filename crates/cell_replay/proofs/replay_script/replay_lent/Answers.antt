use Rattle.std.proofs.Common.{sym, ap, refl, ◌∙◌}
use Rattle.cell_replay.proofs.BufferedWrites.{append_known-none, script-same}
use Rattle.cell_replay.proofs.replay_script.replay_lent.Goals as goal

pub returns-clause-script : goal.returns-clause-script
returns-clause-script g c bytes is =
    let contents = g.O.LentWriter.contents in
    let first = c.new-writer.result in
    let empty = append_known-none (contents first.output) first.waiting c.new-writer.ensures.empty ∙ ap contents c.new-writer.ensures.output ∙ c.requires.written in
    let written = script-same bytes _ g.K.Origin.written _ _ c.answer_script-answered.result empty refl (c.answer_script-answered.ensures.written bytes (sym c.requires.bytes ∙ is)) in
    script-same bytes g.K.Origin.written (contents c.args.output) _ (contents c.into_output.result) c.finish-ended.result (sym c.requires.written) (ap contents (sym c.into_output.ensures.output))
    (c.finish-ended.ensures.script bytes written)
