use Rattle.std.proofs.Common.{◌≡◌, Bool, List, ◌∷◌, refl, ap, ◌∙◌}
use Rattle.cell_picture.specs.declared.plates.Spot.{Spot}
use Rattle.cell_picture.specs.Spots.{at_gripper, on_arm1, on_arm2, on_deposit, on_feed, stages}
use Rattle.cell_picture.proofs.plates.stages.Goals as goal

stage : {b x : Bool} {s t : Spot} {r u : List (Bool × Spot)} → b ≡ x → s ≡ t → r ≡ u → (b, s) ∷ r ≡ (x, t) ∷ u
stage p q e = cc

pub returns : goal.returns
unfolding stages
returns c =
    stage c.is_full.ensures c.on_feed.ensures (
    stage c.is_full-2.ensures c.on_feed-2.ensures (
    stage c.flag.ensures c.at_table.ensures (
    stage c.is_full-3.ensures c.at_table-2.ensures (
    stage c.flag-2.ensures (c.on_arm1.ensures ∙ ap (λ x. on_arm1 c.args.frame.now.plant.robot x) c.at_table-3.ensures) (
    stage c.is_full-4.ensures (c.on_arm1-2.ensures ∙ ap (λ x. on_arm1 c.args.frame.now.plant.robot x) c.in_press.ensures) (
    stage c.comes_in.ensures c.in_press-2.ensures (
    stage c.is_full-5.ensures c.in_press-3.ensures (
    stage c.is_full-6.ensures c.in_press-4.ensures (
    stage c.goes_out.ensures (c.on_arm2.ensures ∙ ap (λ x. on_arm2 c.args.frame.now.plant.robot x) c.in_press-5.ensures) (
    stage c.is_full-7.ensures (c.on_arm2-2.ensures ∙ ap (λ x. on_arm2 c.args.frame.now.plant.robot x) c.at_deposit.ensures) (
    stage c.flag-3.ensures c.at_deposit-2.ensures (
    stage c.is_full-8.ensures c.on_deposit.ensures (
    stage c.is_full-9.ensures c.on_deposit-2.ensures (
    stage c.flag-4.ensures (c.at_gripper.ensures ∙ ap (λ x. at_gripper c.args.frame.now x) c.on_deposit-3.ensures) (
    stage c.is_full-10.ensures (c.at_gripper-2.ensures ∙ ap (λ x. at_gripper c.args.frame.now x) c.put_on_feed.ensures) (
    stage c.flag-5.ensures c.put_on_feed-2.ensures (
    refl)))))))))))))))))
