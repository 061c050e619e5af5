use Rattle.cell_interlock.proofs.Names.{sym, ap, ◌∙◌, List, [], ◌∷◌, ◌++◌, Entry}
use Rattle.cell_interlock.proofs.lemmas.Journals.{entry-settled, entry-busy}
use Rattle.cell_interlock.proofs.pass_line.ask_and_note.Goals as goal

pub returns-in-Settled-clause-noted : goal.returns-in-Settled-clause-noted
returns-in-Settled-clause-noted c =
    c.push_reserved.ensures.items
    ∙ (ap (λ (l : List Entry). l ++ record { call = c.args.call; answer = c.in-Settled.answer; stamp = c.in-Settled.stamp } ∷ []) (c.reserve.ensures.items ∙ c.requires.noted)
    ∙ sym (entry-settled _ _ _ _ _ c.in-Settled.ensures.pass c.in-Settled.ensures.seen))

pub returns-in_default-clause-noted : goal.returns-in_default-clause-noted
returns-in_default-clause-noted c =
    c.reserve.ensures.items ∙ (c.requires.noted ∙ sym (entry-busy _ _ c.in_default.ensures.pass c.in_default.ensures.seen.0))

pub returns-in-Settled-clause-asks : goal.returns-in-Settled-clause-asks
returns-in-Settled-clause-asks c =
    let e = c.in-Settled.ensures in
    record { pass = e.pass; lawful = e.lawful; seen = e.seen; answer = e.answer; right = e.right; busy = e.busy; one_load = e.one_load; few_exchanges = e.few_exchanges; all_lost = e.all_lost; since = e.since; real_time = e.real_time }

pub returns-in_default-clause-asks : goal.returns-in_default-clause-asks
returns-in_default-clause-asks c =
    let e = c.ask-reply.ensures in
    record { pass = e.pass; lawful = e.lawful; seen = e.seen; answer = e.answer; right = e.right; busy = e.busy; one_load = e.one_load; few_exchanges = e.few_exchanges; all_lost = e.all_lost; since = e.since; real_time = e.real_time }
