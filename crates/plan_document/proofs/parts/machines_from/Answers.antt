use Rattle.std.proofs.Common.{◌∙◌, ◌+◌, ap, sym, arith, length, map}
use Rattle.plan_document.specs.OnWord.{machine_with, poses_here}
use Rattle.plan_document.specs.Texts.{machine_texts, pose_texts}
use Rattle.plan_document.proofs.Parted.{machines_more, machines_end}
use Rattle.plan_document.proofs.parts.machines_from.Goals as goal

pub machines-preserved : goal.machines-preserved
machines-preserved c =
    let row = c.index-rows-i.result in
    machines_more c.args.zones.now c.args.places.now c.args.poses.now c.machines.made.items c.push.new.self.items c.in_ok-machine.machine row c.args.rows.now c.machines.i c.machines.first c.in_ok-first.first (omega arith) c.index-rows-i.is
    (c.in_ok-machine.ensures ∙ ap (λ own. machine_with c.args.zones.now c.args.places.now own (machine_texts row)) (c.in_ok-own.ensures ∙ ap (λ ps. poses_here c.machines.first c.args.poses.now (map pose_texts ps)) c.deref.ensures.value))
    c.in_ok-push.ensures.items (c.in_ok-first.ensures ∙ ap (λ ps. c.machines.first + length ps) c.deref-in-machines.ensures.value)
    ∙ c.machines.invariant

pub returns : goal.returns
returns c = sym (machines_end c.args.zones.now c.args.places.now c.args.poses.now c.machines.made.items c.args.rows.now c.machines.i c.machines.first c.machines-test.false) ∙ c.machines.invariant
