use Rattle.std.proofs.Common.{◌≡◌, ◌++◌, subst, sym, arith, take, take_all}
use Rattle.std.specs.List.{AllZip}
use Rattle.plan_document.specs.Names.{all_poses, numbered_poses}
use Rattle.plan_document.specs.Plants.{IsPlantPoseOf}
use Rattle.plan_document.proofs.Growing.{all_poses_more}
use Rattle.plan_document.proofs.plant_tables.plant_poses_of.Goals as goal

pub loop-i-preserved : goal.loop-i-preserved
loop-i-preserved c =
    let row = c.index-machines-i.result in
    let same : c.deref.result.now ≡ row.poses.items = cc in
    let before = all_poses (take c.loop-i.i c.args.machines.now) in
    let rows : AllZip (IsPlantPoseOf c.args.zones.now) (before ++ numbered_poses c.loop-i.i c.deref.result.now) c.add_plant_poses.new.rows.items
    = c.in_ok-add_plant_poses.ensures before c.loop-i.invariant in
    subst (λ ps. AllZip (IsPlantPoseOf c.args.zones.now) ps c.add_plant_poses.new.rows.items)
    (sym (all_poses_more c.args.machines.now c.loop-i.i row (omega arith) c.index-machines-i.is))
    (subst (λ ps. AllZip (IsPlantPoseOf c.args.zones.now) (before ++ numbered_poses c.loop-i.i ps) c.add_plant_poses.new.rows.items) same rows)

pub returns : goal.returns
returns c = subst (λ rows. AllZip (IsPlantPoseOf c.args.zones.now) (all_poses rows) c.loop-i.rows.items) (take_all c.loop-i.i c.args.machines.now c.loop-i-test.false) c.loop-i.invariant
