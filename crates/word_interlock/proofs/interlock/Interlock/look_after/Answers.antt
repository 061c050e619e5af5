use Rattle.std.proofs.Common.{[], ◌∷◌}
use Rattle.word_interlock.specs.Views.{told_by}
use Rattle.word_interlock.proofs.interlock.Interlock.look_after.Goals as goal

pub returns : goal.returns
returns g c =
    let t = c.look_from.ensures.looked (told_by c.args.receipt ∷ []) c.args.pass c.load_after-found.ensures in
    record { looked = t.looked; one_load = t.one_load; no_exchange = t.no_exchange; after = t.real_time }
