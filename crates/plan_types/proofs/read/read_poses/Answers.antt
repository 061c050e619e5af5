use Rattle.std.proofs.Common.{◌≡◌, ◌++◌, ◌<◌, length, take, flat_map, sym, ◌∙◌, ap, arith, rules, length-append}
use Rattle.std.proofs.lemmas.List.{length-take}
use Rattle.plan_types.specs.Bytes.{pose_bytes, IsForTenZones}
use Rattle.plan_types.proofs.Reading.{no_reading}
use Rattle.plan_types.proofs.Same.{same_pose, pose_width, no_some}
use Rattle.plan_types.proofs.Whole.{poses_length}
use Rattle.plan_types.proofs.read.read_poses.Goals as goal

pub returns-in_default-pose_with-clause-none : goal.returns-in_default-pose_with-clause-none
returns-in_default-pose_with-clause-none c = λ _ poses whole e.
    let rest = c.loop-row.rest.now in
    let cases = c.in-Some.ensures.cases in
    let some : 0 < length rest = omega (arith, cases.2) in
    no_reading pose_bytes IsForTenZones 11 pose_width (λ x y _ _ e. same_pose x y e) c.loop-row.sheet.poses poses
    c.args.bytes.now rest c.loop-row.invariant.2 whole c.loop-row.invariant.0 some
    (λ pose _ told.
    no_some c.pose_with.result pose (search rules) ((c.pose_with.ensures.row pose).1 (told ∙ sym cases.0)))
    e

pub returns-else-is_empty-clause-none : goal.returns-else-is_empty-clause-none
returns-else-is_empty-clause-none c = λ _ poses whole e.
    let rest = c.loop-row.rest.now in
    let short : length rest < 12 = c.in_default.ensures.cases in
    let some : 0 < length rest = search rules in
    no_reading pose_bytes IsForTenZones 11 pose_width (λ x y _ _ e. same_pose x y e) c.loop-row.sheet.poses poses
    c.args.bytes.now rest c.loop-row.invariant.2 whole c.loop-row.invariant.0 some
    (λ pose is told.
    let long : length (pose_bytes pose) ≡ length (take 12 rest) = ap length told in
    omega (arith, short, long, pose_width pose is, length-take 12 rest))
    e

pub push_pose-requires : goal.push_pose-requires
push_pose-requires c =
    let poses = c.loop-row.sheet.poses in
    let rest = c.loop-row.rest.now in
    let all : length c.args.bytes.now ≡ length (flat_map pose_bytes poses ++ rest) = ap length c.loop-row.invariant.0 in
    omega (arith, c.requires.few, all, length-append (flat_map pose_bytes poses) rest, poses_length poses c.loop-row.invariant.2, c.in-Some.ensures.cases.2)
