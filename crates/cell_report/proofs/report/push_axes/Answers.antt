use Rattle.cell_report.proofs.Names.{◌≡◌, ◌+◌, [], ◌++◌, ◌∙◌, length, get_or, pos, rules, arith, codes, sym, ap, subst, append-nil, get_or-map, on_ok_weaker, axis_names}
use Rattle.cell_report.proofs.Reports.{axes_from, axes_from-more, axes_told, axis_text, told_more}
use Rattle.cell_report.proofs.report.push_axes.Goals as goal
use Rattle.cell_report.proofs.report.push_axes.Goals.{In_ok-push_axis}

wrote : (c : In_ok-push_axis) → c.push_axis.new.page ≡ c.axes.page ++ axis_text (get_or axis_names c.axes.index []) (get_or c.args.axes.now c.axes.index (pos 0))
wrote c = search (rules, get_or-map)

pub axes-preserved : goal.axes-preserved
axes-preserved c =
    let axes = c.args.axes.now in
    let i = c.axes.index in
    let eight : length axes ≡ 8 = search rules in
    told_more c.axes.page c.push_axis.new.page (axis_text (get_or axis_names i []) (get_or axes i (pos 0))) (axes_from (i + 1) axes) (c.args.page.now ++ (codes "axes" ++ axes_from 0 axes)) (axes_from i axes)
    (wrote c) (axes_from-more i axes c.axes-test.true (omega arith)) c.axes.invariant

pub returns : goal.returns
returns c =
    let axes = c.args.axes.now in
    let last : c.axes.index ≡ 8 = omega arith in
    let written = subst (λ i. c.axes.page ++ axes_from i axes ≡ c.args.page.now ++ (codes "axes" ++ axes_from 0 axes)) last c.axes.invariant in
    on_ok_weaker c.writeln.result (λ more. more ∙ ap (λ page. page ++ codes "\n") (sym (append-nil c.axes.page) ∙ written) ∙ axes_told c.args.page.now axes) c.writeln.ensures
