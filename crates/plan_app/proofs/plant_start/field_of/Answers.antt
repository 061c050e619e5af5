use Rattle.std.proofs.Common.{Some, None}
use Rattle.csv.specs.Records.{fields_of}
use Rattle.plan_app.proofs.PlantStarting.{field_is}
use Rattle.plan_app.proofs.plant_start.field_of.Goals as goal

pub returns-in-Some : goal.returns-in-Some
returns-in-Some c = field_is (fields_of c.args.row.now) c.args.at (Some c.in-Some.field.now) c.in-Some.ensures.value

pub returns-in-None : goal.returns-in-None
returns-in-None c = field_is (fields_of c.args.row.now) c.args.at None c.in-None.ensures.value
