-- What holds of the passes of an interlock, of its end and of calls one after another, whatever they are.
use Rattle.std.specs.Prelude.{◌≡◌, ◌↔◌, ℕ, List, [], ◌∷◌, ◌++◌, Some}
use Rattle.cell_types.specs.declared.machine.Machine.{Machine}
use Rattle.cell_types.specs.declared.call.Call.{Call}
use Rattle.cell_types.specs.declared.reply.Reply.{Reply}
use Rattle.cell_rules.specs.ModelState.{ModelState}
use Rattle.cell_rules.specs.Audited.{HasNoHistory}
use Rattle.cell_rules.specs.Seen.{BeginsWith}
use Rattle.cell_interlock.specs.Views.{PassView, InterlockView}
use Rattle.cell_interlock.specs.Ends.{pass_in, journals_by, ArePassesOf, IsEnd}
use Rattle.cell_interlock.specs.Timing.{Told, IsRun}
use Rattle.cell_interlock.specs.Seen.{HasSeenMore}
use Rattle.cell_interlock.specs.Lines.{Replied}
use Rattle.cell_interlock.specs.Settling.{MadeCall, MakesCalls}
use Rattle.cell_interlock.specs.declared.pass.Passes.{Passes}

-- the passes of an interlock are each machine's own, of this interlock's table
abbrev pub PassesAreOwn : InterlockView → Passes → Type 0
PassesAreOwn i p =
    ArePassesOf i p ↔ ((m : Machine) → ((pass_in p m).table ≡ i.table) × ((pass_in p m).machine ≡ m))

-- a run ends, and an audit accepts what its passes note and the state that it leaves
pub record EndsAreAudited (opening : ModelState) (p : Passes) (s : ModelState) : Type 0 where
  pub run : IsRun opening p s → IsEnd opening p s
  pub end : IsEnd opening p s → ¬ HasNoHistory opening (journals_by opening p) (Some s)

-- each call that `ask` made counts, at whatever pass; and calls of a pass, and then others of it, are calls of it
pub record CallsAddUp (tries : ℕ) : Type 0 where
  pub asked : (heard : Told) (v w : PassView) (c : Call) (reply : Reply) → Replied heard v c tries reply w
      → MakesCalls tries v (record { before = v; call = c; reply = reply; after = w } ∷ []) w
  pub saw_more : (v w : PassView) → HasSeenMore v w → MakesCalls tries v [] w
  pub joined : (v u w : PassView) (some others : List MadeCall) → MakesCalls tries v some u
      → MakesCalls tries u others w → MakesCalls tries v (some ++ others) w
  pub forgets_nothing : (v w : PassView) (calls : List MadeCall) → MakesCalls tries v calls w
      → BeginsWith w.seen v.seen × (w.machine ≡ v.machine)

pub record EachLaws : Type 0 where
  pub passes : (i : InterlockView) (p : Passes) → PassesAreOwn i p
  pub ends : (opening : ModelState) (p : Passes) (s : ModelState) → EndsAreAudited opening p s
  pub calls : (tries : ℕ) → CallsAddUp tries
