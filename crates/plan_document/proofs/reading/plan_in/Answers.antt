use Rattle.toml.specs.View.{table_view}
use Rattle.plan_document.specs.Reading.{IsPlanOfTable}
use Rattle.plan_document.specs.Saying.{IsPlanOf}
use Rattle.plan_document.proofs.Written.{if_ok_more}
use Rattle.plan_document.proofs.reading.plan_in.Goals as goal

pub returns : goal.returns
returns c =
    if_ok_more c.programmed_plan_of.result (IsPlanOf c.in_ok-document.document) (IsPlanOfTable (table_view c.args.table.now))
    (λ plan says. record { document = c.in_ok-document.document; rows = c.in_ok-document.ensures; says = says })
    c.programmed_plan_of.ensures
