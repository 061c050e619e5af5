use Rattle.std.proofs.Common.{map, string_bytes}
use Rattle.cell_sensors.specs.Curve.{pairs_of}
use Rattle.film_app.proofs.Looping.{frames_kept, picture_kept}
use Rattle.film_app.proofs.looped.loop_configured.Goals as goal

pub returns-in-Ok : goal.returns-in-Ok
returns-in-Ok c =
    picture_kept string_bytes c.args.config.now.points (map pairs_of c.args.config.now.curves) c.args.config.now.start c.args.config.now.schedule.items _ c.show_configured.new.observer c.loop_picture.result
    (frames_kept c.args.config.now.points (map pairs_of c.args.config.now.curves) c.args.config.now.start c.args.config.now.schedule.items c.new-frames.result c.show_configured.new.observer c.in-Ok.field-0
    c.new-frames.ensures c.in-Ok.ensures.run) c.as_slice.ensures c.loop_picture.ensures
