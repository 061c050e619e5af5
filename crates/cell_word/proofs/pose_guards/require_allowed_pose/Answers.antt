use Rattle.cell_word.proofs.Names.{Option, List, [], ◌∷◌, Machine, Zone, Pose, Posture, Guard}
use Rattle.cell_word.specs.Guards as guards
use Rattle.cell_word.proofs.Trying.{by_parts_to, ends, past, refused_by}
use Rattle.cell_word.proofs.pose_guards.require_allowed_pose.Goals as goal

abbrev parts : Machine → Pose → Option (Zone × Posture) → Option (Zone × Posture) → List (List Guard)
parts m p one other =
    guards.on_posed (guards.jump_guards m p) one ∷ guards.on_posed (guards.jump_guards m p) other
    ∷ guards.on_posed guards.opening_guards one ∷ guards.on_posed guards.opening_guards other ∷ []

pub returns-in_err-require_no_jump : goal.returns-in_err-require_no_jump
returns-in_err-require_no_jump c = refused_by (by_parts_to c.args.word (parts c.args.machine c.args.pose c.args.one c.args.other) (guards.run_guards c.args.machine c.args.pose)) c.require_no_jump.ensures c.in_err-require_no_jump.was c.from_residual.ensures.1

pub returns-in_err-require_no_jump-2 : goal.returns-in_err-require_no_jump-2
returns-in_err-require_no_jump-2 c = refused_by (past (by_parts_to c.args.word (parts c.args.machine c.args.pose c.args.one c.args.other) (guards.run_guards c.args.machine c.args.pose)) c.require_no_jump.ensures c.in_ok-require_no_jump.was) c.require_no_jump-2.ensures c.in_err-require_no_jump-2.was c.from_residual-in_err-require_no_jump-2.ensures.1

pub returns-in_err-require_room_to_open : goal.returns-in_err-require_room_to_open
returns-in_err-require_room_to_open c = refused_by (past (past (by_parts_to c.args.word (parts c.args.machine c.args.pose c.args.one c.args.other) (guards.run_guards c.args.machine c.args.pose)) c.require_no_jump.ensures c.in_ok-require_no_jump.was) c.require_no_jump-2.ensures c.in_ok-require_no_jump-2.was) c.require_room_to_open.ensures c.in_err-require_room_to_open.was c.from_residual-in_err-require_room_to_open.ensures.1

pub returns-in_err-require_room_to_open-2 : goal.returns-in_err-require_room_to_open-2
returns-in_err-require_room_to_open-2 c = refused_by (past (past (past (by_parts_to c.args.word (parts c.args.machine c.args.pose c.args.one c.args.other) (guards.run_guards c.args.machine c.args.pose)) c.require_no_jump.ensures c.in_ok-require_no_jump.was) c.require_no_jump-2.ensures c.in_ok-require_no_jump-2.was) c.require_room_to_open.ensures c.in_ok-require_room_to_open.was) c.require_room_to_open-2.ensures c.in_err-require_room_to_open-2.was c.from_residual-in_err-require_room_to_open-2.ensures.1

pub returns : goal.returns
returns c = ends (past (past (past (past (by_parts_to c.args.word (parts c.args.machine c.args.pose c.args.one c.args.other) (guards.run_guards c.args.machine c.args.pose)) c.require_no_jump.ensures c.in_ok-require_no_jump.was) c.require_no_jump-2.ensures c.in_ok-require_no_jump-2.was) c.require_room_to_open.ensures c.in_ok-require_room_to_open.was) c.require_room_to_open-2.ensures c.in_ok-require_room_to_open-2.was) c.require_end_clear_to_run.ensures
