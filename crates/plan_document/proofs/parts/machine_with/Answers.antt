use Rattle.std.proofs.Common.{◌∙◌, ap, refl, map, string_bytes}
use Rattle.plan_document.specs.OnWord.{texts_here, lines_here, names_of_poses, poses_on}
use Rattle.plan_document.specs.Texts.{pose_texts}
use Rattle.plan_document.proofs.Parted.{machine_by}
use Rattle.plan_document.proofs.parts.machine_with.Goals as goal

pub returns : goal.returns
returns c =
    machine_by c.args.zones.now c.args.places.now (map pose_texts c.args.poses.items) c.args.row.now
    (record { name = c.in_ok-copy.field-0; places = c.in_ok-texts_here.field-0; sources = c.in_ok-texts_here-2.field-0; sinks = c.in_ok-texts_here-3.field-0; poses = c.args.poses; sensors = c.in_ok-copies.field-0; program = c.in_ok-program.program })
    (c.in_ok-copy.ensures ∙ c.as_str.ensures.value)
    (c.in_ok-texts_here.ensures ∙ ap (λ xs. texts_here c.args.places.now (map string_bytes xs)) c.deref-4.ensures.value)
    (c.in_ok-texts_here-2.ensures ∙ ap (λ xs. texts_here c.args.places.now (map string_bytes xs)) c.deref-5.ensures.value)
    (c.in_ok-texts_here-3.ensures ∙ ap (λ xs. texts_here c.args.places.now (map string_bytes xs)) c.deref-6.ensures.value)
    refl
    (c.in_ok-copies.ensures ∙ ap (map string_bytes) c.deref-7.ensures.value)
    (c.in_ok-program.ensures
    ∙ ap (λ names. lines_here c.args.zones.now c.args.places.now (record { all = names; own = c.in_ok-names_of_poses-2.field-0 }) (map string_bytes c.deref-3.result.now)) (c.in_ok-names_of_poses.ensures ∙ ap (λ ps. names_of_poses (map pose_texts ps)) c.deref.ensures.value)
    ∙ ap (λ names. lines_here c.args.zones.now c.args.places.now (record { all = names_of_poses (map pose_texts c.args.row.now.poses.items); own = names }) (map string_bytes c.deref-3.result.now)) (c.in_ok-names_of_poses-2.ensures ∙ ap (λ ps. names_of_poses (map pose_texts ps)) c.deref-2.ensures.value)
    ∙ ap (λ ls. lines_here c.args.zones.now c.args.places.now (poses_on (map pose_texts c.args.row.now.poses.items) (map pose_texts c.args.poses.items)) (map string_bytes ls)) c.deref-3.ensures.value)
