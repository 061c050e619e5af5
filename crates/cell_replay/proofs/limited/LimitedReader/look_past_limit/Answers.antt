use Rattle.std.proofs.Common.{◌≡◌, ◌<◌, length, take, arith, length-take}
use Rattle.cell_replay.proofs.LimitedReads.{noted-beyond, taken-more}
use Rattle.cell_replay.proofs.limited.LimitedReader.look_past_limit.Goals as goal

pub invariant_of-self-2-clause-left : goal.invariant_of-self-2-clause-left
invariant_of-self-2-clause-left g c =
    let part = take c.in_ok-count.count c.read_on.new.buf in
    let size : length part ≡ c.in_ok-count.count = omega (arith, length-take c.in_ok-count.count c.read_on.new.buf, c.in_ok-count.ensures.bound.0) in
    taken-more g.K.Origin.bytes (g.L.LentReader.left c.args.self.now.input) (g.L.LentReader.left c.read_on.new.self) c.args.self.now.taken c.in_ok-count.count part size c.args.self.now.left c.in_ok-count.ensures.bytes.0

pub invariant_of-self-2-clause-noted : goal.invariant_of-self-2-clause-noted
invariant_of-self-2-clause-noted g c =
    let part = take c.in_ok-count.count c.read_on.new.buf in
    let size : length part ≡ c.in_ok-count.count = omega (arith, length-take c.in_ok-count.count c.read_on.new.buf, c.in_ok-count.ensures.bound.0) in
    let wanted : 0 < length c.read_on.new.buf = omega (arith, c.read_on.auto.buf) in
    noted-beyond g.K.Origin.bytes (g.L.LentReader.left c.args.self.now.input) (g.L.LentReader.left c.read_on.new.self) c.args.self.now.taken c.in_ok-count.count part c.requires.full size c.args.self.now.left c.in_ok-count.ensures.bytes.0
    (λ none. c.in_ok-count.ensures.bytes.1 none wanted)
