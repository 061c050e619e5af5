use Rattle.cell_word.proofs.Names.{◌≡◌, take, everywhere, free_zone}
use Rattle.cell_types.specs.Everything.{all_zones}
use Rattle.cell_rules.specs.ZoneMap.{put_each}
use Rattle.cell_word.specs.Reading as reading
use Rattle.cell_word.proofs.word.zones_in_word.Given as goal

-- the zones before this one have been put
abbrev pub invariant-loop-zone : goal.invariant-loop-zone
invariant-loop-zone l = l.zones ≡ put_each (λ z v. reading.zone_in_word l.word z) (take l.zone-index all_zones) (everywhere free_zone)
