use Rattle.cell_config.proofs.Names.{◌≡◌, ◌∙◌, true, false, map, refl, sym, rules, arith, length-map, filter_map, view, measured_of, HasCurveFault}
use Rattle.cell_config.proofs.CurveChoices.{beyond_count}
use Rattle.cell_config.proofs.refused_sections.curve_fault.Goals as goal

pub returns-then-values-gt-MAX_PAIRS : goal.returns-then-values-gt-MAX_PAIRS
returns-then-values-gt-MAX_PAIRS c =
    record {
      fits = λ all count. beyond_count c.args.values.now (omega arith) all count;
      many = λ long. refl;
      unfit = λ short some. absurd (omega (arith, length-map c.args.values.now view));
    }

pub returns : goal.returns
returns c =
    let fault : HasCurveFault c.args.line (filter_map measured_of (map view c.args.values.now)) c.err.result = search rules in
    record {
      fits = λ all. fault;
      many = λ long. absurd (omega (arith, length-map c.args.values.now view));
      unfit = λ short some. let lie : true ≡ false = sym c.in_ok-pairs.ensures.0 ∙ some in cc;
    }
