use Rattle.std.proofs.Common.{◌<◌, length, map, sym, ap, ◌∙◌, subst, arith}
use Rattle.std.proofs.lemmas.List.{length-map}
use Rattle.plan_drives.specs.InStep.{IsKnownIn}
use Rattle.plan_controller.specs.Steps.{line_of}
use Rattle.plan_c.specs.Lines.{row_of}
use Rattle.plan_c.proofs.resume.is_in_step_at.Goals as goal

pub returns-then-are_steps : goal.returns-then-are_steps
returns-then-are_steps c =
    let t = c.args.plan.now in
    let s = c.args.state.now in
    let all = c.are_steps.ensures.0 c.if-are_steps.true in
    let rows = ap length all.1 ∙ length-map all.0 row_of in
    let lines = length-map all.0 line_of in
    let there : c.args.line < length (map line_of all.0) = omega (arith, rows, lines, c.if-line-program.true) in (
      λ yes. record {
        steps = all.0;
        program = record { rows_are = all.1; at_most = c.if-program-le-MAX_LINES.true };
        in_step = record { line = there; known = subst (IsKnownIn t s) (c.known_at-known.ensures all.0 all.1) (c.is_known_in.ensures.0 yes) };
      },
      λ x. c.is_known_in.ensures.1 (subst (IsKnownIn t s) (sym (c.known_at-known.ensures x.steps x.program.rows_are)) x.in_step.known),
    )
