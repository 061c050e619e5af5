-- What `look` and `attempt` answer, and the pass after them.
use Rattle.std.specs.Prelude.{◌≡◌, ◌≢◌, ℕ, ◌+◌, ◌<◌}
use Rattle.cell_types.specs.declared.call.Call.{Call}
use Rattle.cell_types.specs.declared.answer.Answer.TheVariants.{Done}
use Rattle.cell_rules.specs.History.{after}
use Rattle.cell_interlock.specs.Views.{PassView, TryView}
use Rattle.cell_interlock.specs.Seen.{IsSettled, IsUnmade, HasSeenMore, HasChanges, IsOvertaken}
use Rattle.cell_interlock.specs.declared.tries.Look.{Look}
use Rattle.cell_interlock.specs.declared.tries.Look.TheVariants.{Settled as LookSettled, Pending}
use Rattle.cell_interlock.specs.declared.tries.Tried.{Tried}
use Rattle.cell_interlock.specs.declared.tries.Tried.TheVariants.{Settled as TriedSettled, Lost, Busy}

-- a call that would be Done and has lost no exchange; its pass has only now looked
pub record IsPending (v : PassView) (c : Call) (most : ℕ) (t : TryView) : Type 0 where
  pub unmade : IsUnmade v c t.pass
  pub call : t.call ≡ c
  pub tries : t.tries ≡ most
  pub lost : t.lost ≡ 0
  pub since : t.pass.since ≡ t.pass.seen

-- a look settles only calls that change nothing
abbrev pub Looked : PassView → Call → ℕ → Look → Type 0
Looked v c tries (LookSettled a stamp w) = IsSettled v c a stamp w × (a ≢ Done)
Looked v c tries (Pending t) = IsPending v c tries t

-- the same call has lost one more exchange, because another machine changed the word; it may lose another one
pub record IsLost (t u : TryView) : Type 0 where
  pub unmade : IsUnmade t.pass t.call u.pass
  pub call : u.call ≡ t.call
  pub tries : u.tries ≡ t.tries
  pub since : u.pass.since ≡ t.pass.since
  pub lost : u.lost ≡ t.lost + 1
  pub room : u.lost < u.tries
  pub changed : HasChanges t.pass.machine t.pass.seen u.pass.seen 1

-- the last exchange that the call may lose is lost, too
pub record IsBusy (t : TryView) (lost stamp : ℕ) (w : PassView) : Type 0 where
  pub more : HasSeenMore t.pass w
  pub stamped : stamp ≡ (after t.pass.opening w.seen).stamp
  pub last : t.lost + 1 ≡ t.tries
  pub overtaken : IsOvertaken t.pass t.pass.since t.call t.tries lost w

abbrev pub Attempted : TryView → Tried → Type 0
Attempted t (TriedSettled a stamp w) = IsSettled t.pass t.call a stamp w
Attempted t (Lost u) = IsLost t u
Attempted t (Busy lost stamp w) = IsBusy t lost stamp w

-- the pass after a look, and after an attempt
abbrev pub after_look : Look → PassView
after_look (LookSettled a stamp w) = w
after_look (Pending t) = t.pass

abbrev pub after_attempt : Tried → PassView
after_attempt (TriedSettled a stamp w) = w
after_attempt (Lost u) = u.pass
after_attempt (Busy lost stamp w) = w
