-- What is kept of a turn, by what came back: rows with literal counts and entries.
use Rattle.std.specs.Prelude.{◌≡◌, ◌+◌, ◌++◌, ℕ, Bool, List, [], ◌∷◌, Option, Some, None, Ok, Err, codes}
use Rattle.cell_rules.specs.Types.{Machine, Z1, Posture, Call, Claim, Refusal, Answer, Done, Shown, Refused, Entry}
use Rattle.cell_rules.specs.Types.{Settled, Busy}
use Rattle.cell_rules.specs.declared.heard.LineFault.TheVariants as line
use Rattle.cell_rules.specs.Seen.{event}
use Rattle.cell_notes.specs.declared.status.Status.TheVariants as status
use Rattle.cell_notes.specs.Asks.{done_in, settled_in}
use Rattle.cell_notes.specs.Notes.{Notes, no_notes, notes_with}
use Rattle.cell_notes.specs.Statuses.{status_word}
use Rattle.cell_notes.specs.ValueRows.{ValueRows}

abbrev pub entry : Call → Answer → ℕ → Entry
entry call a stamp = record { call = call; answer = a; stamp = stamp }

-- ---- the notebook: the counts of turns, calls done, inquiries, refusals and busy calls; and the journal

abbrev pub noted : ℕ → ℕ → ℕ → ℕ → ℕ → List Entry → Notes
noted turns done read refused busy journal = record {
  counts = record { turns = turns; done = done; read = read; refused = refused; busy = busy };
  journal = journal;
}

-- a notebook after a claim that was done and ten other turns: its one entry, and the whole
abbrev pub kept : Entry
kept = entry (Claim Z1) Done 6

abbrev pub before : Notes
before = noted 11 1 2 3 4 (kept ∷ [])

pub record CountRows (call : Call) : Type 0 where
  pub at_first : no_notes ≡ noted 0 0 0 0 0 []
  pub nothing : notes_with before None ≡ noted 12 1 2 3 4 (kept ∷ [])
  pub done : notes_with before (Some (call, Ok (Settled Done 7))) ≡ noted 12 2 2 3 4 (kept ∷ entry call Done 7 ∷ [])
  pub shown : (owner : Option Machine) (flag : Bool) (posture : Posture)
      → notes_with before (Some (call, Ok (Settled (Shown owner flag posture) 7)))
      ≡ noted 12 1 3 3 4 (kept ∷ entry call (Shown owner flag posture) 7 ∷ [])
  pub refused : (r : Refusal)
      → notes_with before (Some (call, Ok (Settled (Refused r) 7)))
      ≡ noted 12 1 2 4 4 (kept ∷ entry call (Refused r) 7 ∷ [])
  pub busy : (lost : ℕ) → notes_with before (Some (call, Ok (Busy lost 7))) ≡ noted 12 1 2 3 5 (kept ∷ [])
  pub out_of_memory : notes_with before (Some (call, Err line.Memory)) ≡ noted 12 1 2 3 4 (kept ∷ [])

-- whatever a notebook has: a turn more, and one more of its kind; a settled call is the journal's last entry
abbrev pub AreCounted : Notes → Notes → ℕ → ℕ → ℕ → ℕ → Type 0
AreCounted n now done read refused busy =
    (now.counts.turns ≡ n.counts.turns + 1) × (now.counts.done ≡ n.counts.done + done)
    × (now.counts.read ≡ n.counts.read + read) × (now.counts.refused ≡ n.counts.refused + refused)
    × (now.counts.busy ≡ n.counts.busy + busy)

pub record AnyCounts (n : Notes) (call : Call) (stamp : ℕ) : Type 0 where
  pub nothing : AreCounted n (notes_with n None) 0 0 0 0
  pub done : AreCounted n (notes_with n (Some (call, Ok (Settled Done stamp)))) 1 0 0 0
  pub shown : (owner : Option Machine) (flag : Bool) (posture : Posture)
      → AreCounted n (notes_with n (Some (call, Ok (Settled (Shown owner flag posture) stamp)))) 0 1 0 0
  pub refused : (r : Refusal) → AreCounted n (notes_with n (Some (call, Ok (Settled (Refused r) stamp)))) 0 0 1 0
  pub busy : (lost : ℕ) → AreCounted n (notes_with n (Some (call, Ok (Busy lost stamp)))) 0 0 0 1
  pub out_of_memory : AreCounted n (notes_with n (Some (call, Err line.Memory))) 0 0 0 0
  pub settled_is_noted : (a : Answer)
      → (notes_with n (Some (call, Ok (Settled a stamp)))).journal ≡ n.journal ++ entry call a stamp ∷ []
  pub busy_is_not_noted : (lost : ℕ) → (notes_with n (Some (call, Ok (Busy lost stamp)))).journal ≡ n.journal
  pub nothing_is_not_noted : (notes_with n None).journal ≡ n.journal

-- ---- what a part notes, and the events of a run

pub record EventRows (m : Machine) (call : Call) (stamp : ℕ) : Type 0 where
  pub nothing_done : done_in m None ≡ None
  pub done : done_in m (Some (call, Ok (Settled Done stamp))) ≡ Some (event m call Done)
  pub shown_is_not_done : (owner : Option Machine) (flag : Bool) (posture : Posture)
      → done_in m (Some (call, Ok (Settled (Shown owner flag posture) stamp))) ≡ None
  pub refused_is_not_done : (r : Refusal) → done_in m (Some (call, Ok (Settled (Refused r) stamp))) ≡ None
  pub busy_is_not_done : (lost : ℕ) → done_in m (Some (call, Ok (Busy lost stamp))) ≡ None
  pub out_of_memory_is_not_done : done_in m (Some (call, Err line.Memory)) ≡ None
  pub nothing_settled : settled_in m None ≡ []
  pub settled : (a : Answer) → settled_in m (Some (call, Ok (Settled a stamp))) ≡ event m call a ∷ []
  pub busy_is_not_settled : (lost : ℕ) → settled_in m (Some (call, Ok (Busy lost stamp))) ≡ []
  pub out_of_memory_is_not_settled : settled_in m (Some (call, Err line.Memory)) ≡ []

-- ---- the words of reports

pub record StatusWords : Type 0 where
  pub fine : status_word status.Fine ≡ codes "ok"
  pub worn : status_word status.Worn ≡ codes "worn"
  pub sensor : status_word status.Sensor ≡ codes "sensor"
  pub refused : status_word status.Refused ≡ codes "refused"
  pub memory : status_word status.Memory ≡ codes "memory"
  pub gate_limit : status_word status.GateLimit ≡ codes "gatelimit"

-- all rows
pub record NotesAreMet : Type 0 where
  pub counts : (call : Call) → CountRows call
  pub any_counts : (n : Notes) (call : Call) (stamp : ℕ) → AnyCounts n call stamp
  pub events : (m : Machine) (call : Call) (stamp : ℕ) → EventRows m call stamp
  pub words : StatusWords
  pub values : ValueRows
