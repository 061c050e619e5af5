use Rattle.toml.specs.View.{table_view}
use Rattle.plan_document.specs.Plants.{IsPlantOf, IsPlantOfTable}
use Rattle.plan_document.proofs.Written.{if_ok_more}
use Rattle.plan_document.proofs.reading.plant_in.Goals as goal

pub returns : goal.returns
returns c =
    if_ok_more c.programmed_plant_of.result (IsPlantOf c.in_ok-document.document) (IsPlantOfTable (table_view c.args.table.now))
    (λ plant says. record { document = c.in_ok-document.document; rows = c.in_ok-document.ensures; says = says })
    c.programmed_plant_of.ensures
