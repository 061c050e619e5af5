use Rattle.std.proofs.Common.{◌≡◌, ◌<◌, [], ap, sym, ◌∙◌, eqb-true, below_more}
use Rattle.std.specs.Prelude.{vec_len}
use Rattle.plan_types.specs.Table.{watch}
use Rattle.plan_workers.specs.declared.journal.PlanEntry.{PlanEntry}
use Rattle.std.specs.Global.{Vec}
use Rattle.plan_workers.specs.Audited.{journals_in}
use Rattle.plan_workers.proofs.Reading.{at_journal, no_entries}
use Rattle.plan_workers.proofs.replay.stranger_in.Goals as goal

pub loop-k-preserved : goal.loop-k-preserved
loop-k-preserved c =
    let journal = c.index-journals-k.result in
    let count = eqb-true (vec_len journal) 0 (sym c.is_empty.ensures ∙ c.if-not-is_empty.false) in
    let none = no_entries journal.items (sym journal.ok.0 ∙ count) in
    let empty = at_journal c.args.journals.now c.loop-k.k journal c.loop-k-test.true ∙ (ap (λ (j : Vec PlanEntry). j.items) (sym c.index-journals-k.is) ∙ none) in
    λ m past below. below_more (λ j. watch < j → journals_in c.args.journals.now j ≡ []) c.loop-k.k (λ j below past. c.loop-k.invariant j past below) (λ _. empty) m below past
