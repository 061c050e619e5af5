use Rattle.std.proofs.Common.{◌≡◌, [], set, take}
use Rattle.csv.specs.Records.{fields_of, partial_of}
use Rattle.plan_app.proofs.plant_start.row_with.Given as goal

abbrev pub invariant-loop-at : goal.invariant-loop-at
invariant-loop-at l = record {
  fields : fields_of l.made ≡ take l.at (set (fields_of l.row) 1 l.digits);
  partial : partial_of l.made ≡ [];
}
