use Rattle.cell_rules.proofs.Names.{ap, ◌∙◌, settled_at}
use Rattle.std.specs.Option.{option_map}
use Rattle.cell_rules.specs.BenchView.{last_event}
use Rattle.cell_rules.proofs.bench.Bench.last_heard.Goals as goal

pub returns-in-Some : goal.returns-in-Some
returns-in-Some c =
    rw (c.in-Settled.is, c.stamp-stamp.ensures.stamp) (ap (option_map (settled_at c.args.self.now.state)) (c.in-Some.ensures.value ∙ ap last_event c.deref.ensures.value))
