use Rattle.std.proofs.Common.{w32}
use Rattle.std.proofs.lemmas.Int.{to_z-of_z}
use mir.Val.{SFits}
use Rattle.std.proofs.Common.{rules}
use Rattle.cell_sensors.proofs.gauge.AnyGauge.position.Goals as goal

pub returns-clause-reading : goal.returns-clause-reading
returns-clause-reading g c =
    let fits : SFits w32 c.self.result = search rules in
    rw (to_z-of_z w32 c.self.result fits) (c.reveal.ensures.near c.args.raw c.requires.low c.requires.high c.self.result c.self.ensures)
