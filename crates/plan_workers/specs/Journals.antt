-- What each machine notes of a history: its own events, each with the stamp after it.
use Rattle.std.specs.Prelude.{◌≡◌, ℕ, ◌+◌, nat_eq, if◌then◌else◌, List, [], ◌∷◌, ◌++◌}
use Rattle.plan_types.specs.declared.call.Call.{Call}
use Rattle.plan_types.specs.declared.answer.Answer.{Answer}
use Rattle.plan_types.specs.declared.answer.Event.{Event}
use Rattle.plan_rules.specs.History.{is_done, done_count}
use Rattle.plan_workers.specs.declared.journal.PlanEntry.{PlanEntry}

abbrev pub entry : Call → Answer → ℕ → PlanEntry
entry call answer stamp = record { call = call; answer = answer; stamp = stamp }

abbrev pub event_by : ℕ → PlanEntry → Event
event_by m x = record { machine = m; call = x.call; answer = x.answer }

-- the stamp after an event: each done call adds one
abbrev pub stamp_after : ℕ → Event → ℕ
stamp_after stamp e = if is_done e then stamp + 1 else stamp

abbrev pub entry_of : ℕ → Event → PlanEntry
entry_of stamp e = entry e.call e.answer (stamp_after stamp e)

-- a machine's events in a history that begins at a stamp, each with the stamp after it
abbrev pub journal_of : ℕ → List Event → ℕ → List PlanEntry
journal_of stamp [] m = []
journal_of stamp (e ∷ history) m =
    if nat_eq e.machine m then entry_of stamp e ∷ journal_of (stamp_after stamp e) history m
    else journal_of (stamp_after stamp e) history m

-- A machine's journal since a moment: its own events in what was seen since then, in order, each with its stamp. The
-- opening has this stamp; `before` is what had been seen at that moment, and `seen` is what has been seen now.
pub record IsJournal (opening m : ℕ) (before seen : List Event) (journal : List PlanEntry) : Type 0 where
  pub since : List Event
  pub split : seen ≡ before ++ since
  pub is : journal ≡ journal_of (opening + done_count before) since m
