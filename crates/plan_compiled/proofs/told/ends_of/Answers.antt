use Rattle.std.proofs.Common.{◌≡◌, ◌≢◌, ◌<◌, length, get_or, set, sym, ap, ◌∙◌, subst, below_more, arith}
use Rattle.std.proofs.lemmas.List.{length-set, get_or-set_same, get_or-set_other}
use Rattle.plan_word.specs.declared.layout.Field.TheVariants.{Zone}
use Rattle.plan_word.specs.Layout.{Counts, bits_of}
use Rattle.plan_word.proofs.lemmas.Shapes.{bits_at}
use Rattle.plan_compiled.specs.Ends.{IsEnd}
use Rattle.plan_compiled.proofs.PlainPlans.{few_bits}
use Rattle.plan_compiled.proofs.told.ends_of.Goals as goal

pub loop-code-preserved : goal.loop-code-preserved
loop-code-preserved c =
    let t = c.args.plan.now in
    let z = c.args.zone in
    let i = c.loop-code.code in
    let xs = c.loop-code.ends in
    let x = c.end_of.result in
    let all = c.loop-code.invariant.all in
    let inside : i < length xs = omega (arith, all, c.loop-code-test.true) in
    record {
      all = length-set xs i x ∙ all;
      ends = below_more (λ n. IsEnd t z n (get_or (set xs i x) n 0)) i
          (λ n l. let ne : n ≢ i = omega arith in subst (IsEnd t z n) (sym (get_or-set_other xs i n x 0 ne)) (c.loop-code.invariant.ends n l))
          (subst (IsEnd t z i) (sym (get_or-set_same xs i x 0 inside)) c.end_of.ensures);
    }

pub returns-clause-few : goal.returns-clause-few
returns-clause-few c =
    let t = c.args.plan.now in
    let z = c.args.zone in
    let is : c.from-bits.result ≡ bits_at t z = c.from-bits.ensures ∙ c.bits_of.ensures.bits ∙ ap (λ (k : Counts). bits_of k (Zone z)) c.requires.layout in
    let few = few_bits t z c.requires.plain in
    omega (arith, is, few)
