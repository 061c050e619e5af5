use Rattle.std.proofs.Common.{map}
use Rattle.cell_sensors.specs.Curve.{pairs_of}
use Rattle.film_app.proofs.Shown.{shows_configured}
use Rattle.film_app.proofs.configured.lines_configured.Goals as goal

pub returns-in-Ok : goal.returns-in-Ok
returns-in-Ok c =
    shows_configured c.args.config.now.points (map pairs_of c.args.config.now.curves) c.args.config.now.start c.args.config.now.schedule.items c.new-film.result c.show_configured.new.observer c.in-Ok.field-0 _
    c.new-film.ensures c.in-Ok.ensures.run c.into_lines.ensures
