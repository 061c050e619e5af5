use Rattle.cell_word.proofs.Names.{everywhere, free_zone}
use Rattle.cell_word.specs.Reading as reading
use Rattle.cell_word.proofs.Growing.{put_step}
use Rattle.cell_word.proofs.word.zones_in_word.Goals as goal

pub loop-zone-preserved : goal.loop-zone-preserved
loop-zone-preserved c =
    put_step (λ z v. reading.zone_in_word c.args.word z) c.loop-zone.zone-index _ c.zone_in_word.result (everywhere free_zone) c.loop-zone.zones c.set.new.self
    c.loop-zone-test.true c.loop-zone.invariant c.zone_in_word.ensures c.set.ensures
