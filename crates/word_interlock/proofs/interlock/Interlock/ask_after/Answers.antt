use Rattle.std.proofs.Common.{[], ◌∷◌}
use Rattle.word_interlock.specs.Views.{told_by}
use Rattle.word_interlock.proofs.interlock.Interlock.ask_after.Goals as goal

pub returns : goal.returns
returns g c =
    let t = c.reply_from.ensures.asked (told_by c.args.receipt ∷ []) c.args.pass.now c.load_after-word.ensures in
    record { pass = t.pass; lawful = t.lawful; seen = t.seen; answer = t.answer; right = t.right; busy = t.busy; one_load = t.one_load; few_exchanges = t.few_exchanges; all_lost = t.all_lost; since = t.since; after = t.real_time }
