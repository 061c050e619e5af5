use Rattle.std.proofs.Common.{◌≡◌, ◌∙◌, ◌++◌, ◌∷◌, [], ap, append-nil, append_assoc, arith, subst, sym, string_bytes, take, take_all, true}
use Rattle.std.specs.List.{AllZip}
use Rattle.plan_text.specs.Names.{is_name}
use Rattle.plan_document.specs.Names.{names_in, numbered_poses}
use Rattle.plan_document.specs.Saying.{IsPoseOf}
use Rattle.plan_document.proofs.Growing.{names_in_more, names_more, poses_more}
use Rattle.plan_document.proofs.tables.add_poses.Goals as goal

pub loop-pose-preserved : goal.loop-pose-preserved
loop-pose-preserved c =
    let row = c.index-poses-pose.result in
    let spelled : is_name (string_bytes row.name) ≡ true = subst (λ name. is_name name ≡ true) c.as_str.ensures.value c.in_ok-add_name.ensures.spelled in
    record {
      names =
          c.in_ok-add_pose_name.ensures
          ∙ ap (λ name. c.loop-pose.names ++ name ∷ []) c.as_str-in-loop-pose.ensures.value
          ∙ ap (λ ns. ns ++ string_bytes row.name ∷ []) c.loop-pose.invariant.names
          ∙ append_assoc c.args.names.now (names_in (take c.loop-pose.pose c.args.poses.now)) (string_bytes row.name ∷ [])
          ∙ ap (λ ns. c.args.names.now ++ ns) (sym (names_in_more c.args.poses.now c.loop-pose.pose row (omega arith) c.index-poses-pose.is));
      spelled =
          λ all. names_more c.loop-pose.names (string_bytes row.name) c.add_pose_name.new.names (c.loop-pose.invariant.spelled all) spelled
          (c.in_ok-add_pose_name.ensures ∙ ap (λ name. c.loop-pose.names ++ name ∷ []) c.as_str-in-loop-pose.ensures.value);
      rows =
          λ before all. poses_more (IsPoseOf c.args.zones.now) before c.args.machine c.args.poses.now c.loop-pose.pose row c.loop-pose.rows.items c.push.new.self.items c.in_ok-row.row (omega arith) c.index-poses-pose.is (c.loop-pose.invariant.rows before all) c.in_ok-row.ensures c.in_ok-push.ensures.items;
    }

pub loop-pose-init : goal.loop-pose-init
loop-pose-init c = record {
  names = sym (append-nil c.args.names.now);
  spelled = λ all. all;
  rows = λ before all. subst (λ rows. AllZip (IsPoseOf c.args.zones.now) rows c.args.rows.now.items) (sym (append-nil before)) all;
}

pub returns : goal.returns
returns c =
    let whole = take_all c.loop-pose.pose c.args.poses.now c.loop-pose-test.false in
    record {
      names = c.loop-pose.invariant.names ∙ ap (λ rows. c.args.names.now ++ names_in rows) whole;
      spelled = c.loop-pose.invariant.spelled;
      rows =
          λ before all. subst (λ rows. AllZip (IsPoseOf c.args.zones.now) (before ++ numbered_poses c.args.machine rows) c.loop-pose.rows.items) whole (c.loop-pose.invariant.rows before all);
    }
