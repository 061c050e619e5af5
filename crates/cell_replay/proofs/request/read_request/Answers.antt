use Rattle.std.proofs.Common.{◌≡◌, rules, tests}
use Rattle.csv.specs.Records.{fields_of}
use Rattle.cell_replay.specs.Requests.{request_of}
use Rattle.cell_replay.proofs.lemmas.Requests.{version-same, version-written}
use Rattle.cell_replay.proofs.request.read_request.Goals as goal

pub returns-clause-same : goal.returns-clause-same
returns-clause-same c = version-same c.args.version _ (fields_of c.args.row.now) c.read_any_request.result c.filter.result c.read_any_request.ensures (λ x b says. search (rules, tests)) c.filter.ensures

pub returns-clause-written : goal.returns-clause-written
returns-clause-written c request has =
    let same : c.filter.result ≡ request_of c.args.version (fields_of c.args.row.now) = version-same c.args.version _ (fields_of c.args.row.now) c.read_any_request.result c.filter.result c.read_any_request.ensures (λ x b says. search (rules, tests)) c.filter.ensures in
    version-written c.args.version (fields_of c.args.row.now) c.filter.result request same has
