use Rattle.std.proofs.Common.{[]}
use Rattle.word_interlock.proofs.interlock.Interlock.look.Goals as goal

pub returns : goal.returns
returns g c =
    let t = c.look_from.ensures.looked [] c.args.pass c.load-found.ensures in
    record { looked = t.looked; one_load = t.one_load; no_exchange = t.no_exchange; real_time = t.real_time }
