-- What a line notes of a call.
use Rattle.std.proofs.Common.{◌≡◌, ℕ, ◌+◌, List, [], ◌∷◌, ◌++◌, sym, ◌∙◌, subst, append-nil}
use Rattle.plan_types.specs.declared.call.Call.{Call}
use Rattle.plan_types.specs.declared.answer.Answer.{Answer}
use Rattle.plan_types.specs.declared.answer.Event.{Event}
use Rattle.plan_types.specs.Table.{PlanTable}
use Rattle.plan_rules.specs.declared.state.State.{State}
use Rattle.plan_rules.specs.History.{done_count}
use Rattle.word_interlock.specs.declared.reply.Reply.{Reply}
use Rattle.word_interlock.specs.declared.reply.Reply.TheVariants.{Settled, Busy}
use Rattle.word_interlock.specs.Asked.{Asked}
use Rattle.plan_interlock.specs.Book.{plan_book}
use Rattle.plan_workers.specs.declared.journal.PlanEntry.{PlanEntry}
use Rattle.plan_workers.specs.Journals.{IsJournal, entry}
use Rattle.plan_workers.specs.Lines.{PlanPassView}
use Rattle.plan_workers.specs.Recording.{entries_in}
use Rattle.plan_workers.proofs.Asking.{sees}
use Rattle.plan_workers.proofs.Journaling.{others_seen, own_seen, stamp_counted}

notes : (t : PlanTable) (v w : PlanPassView) (c : Call) (tries : ℕ) (r : Reply Answer) (before : List Event) (journal : List PlanEntry) → Asked (plan_book t) [] v c tries r w → IsJournal v.opening.stamp v.actor before v.seen journal
    → IsJournal v.opening.stamp v.actor before w.seen (journal ++ entries_in c r)
notes t v w c tries (Settled a stamp) before journal asked j =
    let n = v.opening.stamp in
    let s = sees t v w c (Settled a stamp) asked.seen asked.right in
    let at = asked.seen.1 ∙ stamp_counted t v.opening w.seen asked.lawful.legal in
    subst (λ seen. IsJournal n v.actor before seen (journal ++ entry c a stamp ∷ [])) (sym s.ends)
    (own_seen n v.actor c a stamp before s.point journal (others_seen n v.actor before v.seen s.point journal j s.sees) (subst (λ seen. stamp ≡ n + done_count seen) s.ends at))
notes t v w c tries (Busy lost stamp) before journal asked j =
    let n = v.opening.stamp in
    subst (λ es. IsJournal n v.actor before w.seen es) (sym (append-nil journal))
    (others_seen n v.actor before v.seen w.seen journal j (sees t v w c (Busy lost stamp) asked.seen asked.right))

-- a journal of all that a pass has seen is one after the call, with what is noted of it
pub noted : (t : PlanTable) (v w : PlanPassView) (c : Call) (tries : ℕ) (r : Reply Answer) (before : List Event) (journal now : List PlanEntry) → Asked (plan_book t) [] v c tries r w → now ≡ journal ++ entries_in c r
    → IsJournal v.opening.stamp v.actor before v.seen journal → IsJournal w.opening.stamp w.actor before w.seen now
noted t v w c tries r before journal now asked is j =
    subst (λ (s : State). IsJournal s.stamp w.actor before w.seen now) (sym asked.pass.opening)
    (subst (λ m. IsJournal v.opening.stamp m before w.seen now) (sym asked.pass.actor) (subst (λ es. IsJournal v.opening.stamp v.actor before w.seen es) (sym is) (notes t v w c tries r before journal asked j)))
