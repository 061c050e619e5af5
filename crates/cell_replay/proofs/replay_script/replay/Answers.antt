use Rattle.std.proofs.Common.{rules}
use Rattle.cell_replay.proofs.FirstScripts.{written-first}
use Rattle.cell_replay.proofs.Writings.{written-outcome, written-text}
use Rattle.cell_replay.proofs.replay_script.replay.Goals as goal

pub returns-clause-text : goal.returns-clause-text
returns-clause-text g c =
    let text = written-text (g.R.Read.remaining c.args.reader.now) (g.W.Write.contents c.args.writer.now) (g.W.Write.contents c.replay_lent-ended.result.output.now) c.replay_lent-ended.result.ended c.replay_lent-ended.ensures.script in
    search (rules, text)

pub returns-clause-first_version : goal.returns-clause-first_version
returns-clause-first_version g c =
    let text = written-first (g.R.Read.remaining c.args.reader.now) (g.W.Write.contents c.args.writer.now) (g.W.Write.contents c.replay_lent-ended.result.output.now) c.replay_lent-ended.result.ended c.replay_lent-ended.ensures.script in
    search (rules, text)

pub returns-clause-outcome : goal.returns-clause-outcome
returns-clause-outcome g c = written-outcome (g.R.Read.remaining c.args.reader.now) (g.W.Write.contents c.args.writer.now) _ _ c.replay_lent-ended.ensures.script
