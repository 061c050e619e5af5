use Rattle.std.proofs.Common.{◌≡◌, ◌<◌, true, false, List, Option, Some, None, IsSome, length, map, refl, sym, ap, ◌∙◌, subst, rules, arith}
use Rattle.std.specs.Prelude.{slice_get}
use Rattle.std.specs.Option.{option_map}
use Rattle.std.proofs.lemmas.List.{length-map}
use Rattle.std.proofs.lemmas.Option.{slice_get-map, slice_get_read, slice_get_within}
use Rattle.plan_controller.specs.declared.step.Step.{Step}
use Rattle.plan_c.specs.Lines.{row_of}
use Rattle.plan_c.specs.declared.line.ProgramLine.{ProgramLine}
use Rattle.plan_c.proofs.line.step_at.Goals as goal

apart : false ≡ true → ⊥
apart e = cc

not_some : (r : Option Step) → ((step : Step) → r ≡ Some step → ⊥) → r ≡ None
not_some None never = refl
not_some (Some step) never = absurd (never step refl)

pub returns-in-Some-clause-no_step : goal.returns-in-Some-clause-no_step
returns-in-Some-clause-no_step c = λ none.
    let rows : List ProgramLine = c.args.program.now in
    let inside : c.from.result < length rows = search rules in
    let read = slice_get_read rows (length rows) c.from.result c.in-Some.row.now refl inside c.in-Some.ensures.lookup.1 in
    let at : slice_get rows c.args.line ≡ Some c.in-Some.row.now = subst (λ n. slice_get rows n ≡ Some c.in-Some.row.now) c.from.ensures read in
    not_some c.step_of.result (λ step is. none (map (λ row. step) rows) (record {
      as_many = sym (length-map rows (λ row. step));
      at_most = c.if-program-le-MAX_LINES.true;
      step = step;
      at_line = slice_get-map (λ row. step) rows c.args.line ∙ ap (option_map (λ row. step)) at;
      row = at ∙ ap (λ row. Some row) ((c.step_of.ensures step).0 is);
    }))

pub returns-in_default-2-clause-step : goal.returns-in_default-2-clause-step
returns-in_default-2-clause-step c = λ steps has.
    let rows : List ProgramLine = c.args.program.now in
    let inside : c.args.line < length rows = slice_get_within rows c.args.line (row_of has.step) has.row in
    let there : c.from.result < length rows = omega (arith, c.from.ensures, inside) in
    let some : IsSome c.get.result = c.get.ensures.lookup.2 there in
    absurd (apart (subst IsSome c.in_default.is some))
