use Rattle.std.proofs.Common.{◌∙◌, ap, refl, take, option_map}
use Rattle.csv.specs.Reading.{strip_bom}
use Rattle.cell_replay.specs.Script.{byte_limit}
use Rattle.cell_replay.proofs.LimitedReads.{all-left}
use Rattle.cell_replay.proofs.records.Records.new.Goals as goal

pub returns-clause-all : goal.returns-clause-all
returns-clause-all g c bytes is =
    let front = c.args.input.now in
    let source = c.from_reader.ensures.source ∙ ap (option_map strip_bom) (all-left g.K.Origin.bytes (g.L.LentReader.left front.input) front.is_cut front.taken bytes c.requires.unnoted c.requires.taken front.left is) in
    (strip_bom (take byte_limit bytes), source, rw c.from_reader.ensures.state refl, rw c.from_reader.ensures.state refl)
