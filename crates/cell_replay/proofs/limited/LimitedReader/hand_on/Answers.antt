use Rattle.std.proofs.Common.{◌≡◌, ◌<◌, ◌≤◌, ◌+◌, ◌-◌, ◌++◌, ◌∙◌, length, take, drop, arith, length-take}
use Rattle.std.proofs.lemmas.List.{take-append-le}
use Rattle.cell_replay.specs.Script.{byte_limit}
use Rattle.cell_replay.proofs.LimitedReads.{handed-all, handed-on, noted-end, taken-more}
use Rattle.cell_replay.proofs.limited.LimitedReader.hand_on.Goals as goal

pub overflow_add-self : goal.overflow_add-self
overflow_add-self g c = omega (arith, c.in_ok-count.ensures.bound.0, c.read_on.auto.buf, length-take c.min-room.result c.args.buf.now, c.min-room.ensures, c.requires.room, c.whole_lines.ensures, length-take c.in_ok-count.count (c.read_on.new.buf ++ drop c.min-room.result c.args.buf.now))

pub overflow_add-self-2 : goal.overflow_add-self-2
overflow_add-self-2 g c = omega (arith, c.in_ok-count.ensures.bound.0, c.read_on.auto.buf, length-take c.min-room.result c.args.buf.now, c.min-room.ensures, c.requires.room)

pub invariant_of-self-else-count-eq0-clause-within : goal.invariant_of-self-else-count-eq0-clause-within
invariant_of-self-else-count-eq0-clause-within g c = omega (arith, c.in_ok-count.ensures.bound.0, c.read_on.auto.buf, length-take c.min-room.result c.args.buf.now, c.min-room.ensures, c.requires.room)

pub invariant_of-self-else-count-eq0-clause-within_use : goal.invariant_of-self-else-count-eq0-clause-within_use
invariant_of-self-else-count-eq0-clause-within_use g c = λ e. omega (arith, c.in_ok-count.ensures.bound.0, c.read_on.auto.buf, length-take c.min-room.result c.args.buf.now, c.min-room.ensures, c.requires.room)

pub invariant_of-self-then-count-eq0 : goal.invariant_of-self-then-count-eq0
invariant_of-self-then-count-eq0 g c =
    let old = c.args.self.now in
    let left = g.L.LentReader.left in
    let buf = c.read_on.new.buf in
    let part = take c.in_ok-count.count buf in
    let size : length part ≡ c.in_ok-count.count = omega (arith, length-take c.in_ok-count.count buf, c.in_ok-count.ensures.bound.0) in
    let none : length part ≡ 0 = omega (arith, size, c.if-count-eq0.true) in
    let wanted : 0 < length buf = omega (arith, c.read_on.auto.buf, length-take c.min-room.result c.args.buf.now, c.min-room.ensures, c.requires.room, c.requires.wanted) in
    record {
      same = c.in_ok-count.ensures.same ∙ old.same;
      within = omega (arith, c.in_ok-count.ensures.bound.0, c.read_on.auto.buf, length-take c.min-room.result c.args.buf.now, c.min-room.ensures, c.requires.room);
      within_use = λ e. omega (arith, c.in_ok-count.ensures.bound.0, c.read_on.auto.buf, length-take c.min-room.result c.args.buf.now, c.min-room.ensures, c.requires.room);
      left = taken-more g.K.Origin.bytes (left old.input) (left c.read_on.new.self) old.taken c.in_ok-count.count part size old.left c.in_ok-count.ensures.bytes.0;
      noted = noted-end g.K.Origin.bytes (left old.input) (left c.read_on.new.self) old.taken part (omega (arith, c.requires.room)) none old.left c.in_ok-count.ensures.bytes.0 (c.in_ok-count.ensures.bytes.1 c.if-count-eq0.true wanted);
    }

pub invariant_of-self-else-count-eq0-clause-left : goal.invariant_of-self-else-count-eq0-clause-left
invariant_of-self-else-count-eq0-clause-left g c =
    let part = take c.in_ok-count.count c.read_on.new.buf in
    let size : length part ≡ c.in_ok-count.count = omega (arith, length-take c.in_ok-count.count c.read_on.new.buf, c.in_ok-count.ensures.bound.0) in
    taken-more g.K.Origin.bytes (g.L.LentReader.left c.args.self.now.input) (g.L.LentReader.left c.read_on.new.self) c.args.self.now.taken c.in_ok-count.count part size c.args.self.now.left c.in_ok-count.ensures.bytes.0

pub returns-else-count-eq0-clause-bytes : goal.returns-else-count-eq0-clause-bytes
returns-else-count-eq0-clause-bytes g c =
    let buf = c.read_on.new.buf in
    let part = take c.in_ok-count.count buf in
    let size : length part ≡ c.in_ok-count.count = omega (arith, length-take c.in_ok-count.count buf, c.in_ok-count.ensures.bound.0) in
    let same : take c.in_ok-count.count (buf ++ drop c.min-room.result c.args.buf.now) ≡ part = take-append-le c.in_ok-count.count buf (drop c.min-room.result c.args.buf.now) c.in_ok-count.ensures.bound.0 in
    let within : c.args.self.now.taken + c.in_ok-count.count ≤ byte_limit = omega (arith, c.in_ok-count.ensures.bound.0, c.read_on.auto.buf, length-take c.min-room.result c.args.buf.now, c.min-room.ensures, c.requires.room) in
    rw (same, c.requires.unnoted) (
      handed-on (g.L.LentReader.left c.args.self.now.input) (g.L.LentReader.left c.read_on.new.self) c.args.self.now.taken c.in_ok-count.count part size within c.in_ok-count.ensures.bytes.0,
      (λ none. absurd (omega (arith, none, c.if-count-eq0.false))),
    )

pub returns-then-count-eq0-clause-bytes : goal.returns-then-count-eq0-clause-bytes
returns-then-count-eq0-clause-bytes g c =
    let buf = c.read_on.new.buf in
    let part = take c.in_ok-count.count buf in
    let size : length part ≡ 0 = omega (arith, length-take c.in_ok-count.count buf, c.in_ok-count.ensures.bound.0, c.if-count-eq0.true) in
    let same : take c.in_ok-count.count (buf ++ drop c.min-room.result c.args.buf.now) ≡ part = take-append-le c.in_ok-count.count buf (drop c.min-room.result c.args.buf.now) c.in_ok-count.ensures.bound.0 in
    let wanted : 0 < length buf = omega (arith, c.read_on.auto.buf, length-take c.min-room.result c.args.buf.now, c.min-room.ensures, c.requires.room, c.requires.wanted) in
    let end = c.in_ok-count.ensures.bytes.1 c.if-count-eq0.true wanted in
    let both = handed-all (g.L.LentReader.left c.args.self.now.input) (g.L.LentReader.left c.read_on.new.self) (byte_limit - c.args.self.now.taken) part size c.in_ok-count.ensures.bytes.0 end in
    rw (same, c.requires.unnoted) (both.0, (λ _ _. both.1))
