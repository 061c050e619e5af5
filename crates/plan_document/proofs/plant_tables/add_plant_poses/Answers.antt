use Rattle.std.proofs.Common.{◌++◌, append-nil, arith, subst, sym, take_all}
use Rattle.std.specs.List.{AllZip}
use Rattle.plan_document.specs.Names.{numbered_poses}
use Rattle.plan_document.specs.Plants.{IsPlantPoseOf}
use Rattle.plan_document.proofs.Growing.{poses_more}
use Rattle.plan_document.proofs.plant_tables.add_plant_poses.Goals as goal

pub loop-pose-preserved : goal.loop-pose-preserved
loop-pose-preserved c =
    let row = c.index-poses-pose.result in
    λ before all. poses_more (IsPlantPoseOf c.args.zones.now) before c.args.machine c.args.poses.now c.loop-pose.pose row c.loop-pose.rows.items c.push.new.self.items c.in_ok-row.row (omega arith) c.index-poses-pose.is (c.loop-pose.invariant before all) c.in_ok-row.ensures c.in_ok-push.ensures.items

pub loop-pose-init : goal.loop-pose-init
loop-pose-init c = λ before all. subst (λ rows. AllZip (IsPlantPoseOf c.args.zones.now) rows c.args.rows.now.items) (sym (append-nil before)) all

pub returns : goal.returns
returns c =
    λ before all. subst (λ rows. AllZip (IsPlantPoseOf c.args.zones.now) (before ++ numbered_poses c.args.machine rows) c.loop-pose.rows.items)
    (take_all c.loop-pose.pose c.args.poses.now c.loop-pose-test.false) (c.loop-pose.invariant before all)
