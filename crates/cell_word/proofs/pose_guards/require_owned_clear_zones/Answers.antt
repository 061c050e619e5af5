use Rattle.cell_word.proofs.Names.{Option, List, [], ◌∷◌, Zone, Posture, Guard}
use Rattle.cell_word.specs.Guards as guards
use Rattle.cell_word.proofs.Trying.{by_parts_to, ends, past, refused_by}
use Rattle.cell_word.proofs.pose_guards.require_owned_clear_zones.Goals as goal

abbrev parts : Option (Zone × Posture) → Option (Zone × Posture) → List (List Guard)
parts one other = guards.on_posed guards.owner_guards one ∷ guards.on_posed guards.owner_guards other ∷ guards.on_posed guards.plate_guards one ∷ []

pub returns-in_err-require_owned_zone : goal.returns-in_err-require_owned_zone
returns-in_err-require_owned_zone c = refused_by (by_parts_to c.args.word (parts c.args.one c.args.other) (guards.on_posed guards.plate_guards c.args.other)) c.require_owned_zone.ensures c.in_err-require_owned_zone.was c.from_residual.ensures.1

pub returns-in_err-require_owned_zone-2 : goal.returns-in_err-require_owned_zone-2
returns-in_err-require_owned_zone-2 c = refused_by (past (by_parts_to c.args.word (parts c.args.one c.args.other) (guards.on_posed guards.plate_guards c.args.other)) c.require_owned_zone.ensures c.in_ok-require_owned_zone.was) c.require_owned_zone-2.ensures c.in_err-require_owned_zone-2.was c.from_residual-in_err-require_owned_zone-2.ensures.1

pub returns-in_err-require_clear_zone : goal.returns-in_err-require_clear_zone
returns-in_err-require_clear_zone c = refused_by (past (past (by_parts_to c.args.word (parts c.args.one c.args.other) (guards.on_posed guards.plate_guards c.args.other)) c.require_owned_zone.ensures c.in_ok-require_owned_zone.was) c.require_owned_zone-2.ensures c.in_ok-require_owned_zone-2.was) c.require_clear_zone.ensures c.in_err-require_clear_zone.was c.from_residual-in_err-require_clear_zone.ensures.1

pub returns : goal.returns
returns c = ends (past (past (past (by_parts_to c.args.word (parts c.args.one c.args.other) (guards.on_posed guards.plate_guards c.args.other)) c.require_owned_zone.ensures c.in_ok-require_owned_zone.was) c.require_owned_zone-2.ensures c.in_ok-require_owned_zone-2.was) c.require_clear_zone.ensures c.in_ok-require_clear_zone.was) c.require_clear_zone-2.ensures
