use Rattle.std.proofs.Common.{◌≡◌, ◌∙◌, ◌++◌, ap, sym, subst, take, take_all, arith}
use Rattle.std.specs.List.{AllZip}
use Rattle.plan_document.specs.Names.{all_poses, names_in, numbered_poses, pose_names}
use Rattle.plan_document.specs.Saying.{IsPoseOf}
use Rattle.plan_document.proofs.Growing.{all_poses_more, pose_names_more}
use Rattle.plan_document.proofs.tables.add_all_poses.Goals as goal

pub loop-i-preserved : goal.loop-i-preserved
loop-i-preserved c =
    let row = c.index-machines-i.result in
    let same : c.deref.result.now ≡ row.poses.items = cc in
    let before = all_poses (take c.loop-i.i c.args.machines.now) in
    let rows : AllZip (IsPoseOf c.args.zones.now) (before ++ numbered_poses c.loop-i.i c.deref.result.now) c.add_poses.new.rows.items
    = c.in_ok-add_poses.ensures.rows before c.loop-i.invariant.rows in
    record {
      names =
          c.in_ok-add_poses.ensures.names
          ∙ ap (λ ps. c.loop-i.names ++ names_in ps) same
          ∙ ap (λ ns. ns ++ names_in row.poses.items) c.loop-i.invariant.names
          ∙ sym (pose_names_more c.args.machines.now c.loop-i.i row (omega arith) c.index-machines-i.is);
      spelled = c.in_ok-add_poses.ensures.spelled c.loop-i.invariant.spelled;
      rows =
          subst (λ ps. AllZip (IsPoseOf c.args.zones.now) ps c.add_poses.new.rows.items)
          (sym (all_poses_more c.args.machines.now c.loop-i.i row (omega arith) c.index-machines-i.is))
          (subst (λ ps. AllZip (IsPoseOf c.args.zones.now) (before ++ numbered_poses c.loop-i.i ps) c.add_poses.new.rows.items) same rows);
    }

pub returns : goal.returns
returns c =
    let all = take_all c.loop-i.i c.args.machines.now c.loop-i-test.false in
    record {
      names = c.loop-i.invariant.names ∙ ap pose_names all;
      spelled = c.loop-i.invariant.spelled;
      rows = subst (λ rows. AllZip (IsPoseOf c.args.zones.now) (all_poses rows) c.loop-i.rows.items) all c.loop-i.invariant.rows;
    }
