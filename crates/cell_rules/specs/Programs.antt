-- The programs of controllers: what each step asks, and where that leads.
use Rattle.std.specs.Prelude.{◌≡◌, ℕ, zero, suc, List, [], ◌∷◌, Option, Some, None, Result}
use Rattle.cell_rules.specs.Types.{Machine, Call, Answer, Event, Reply}
use Rattle.cell_rules.specs.declared.heard.LineFault.{LineFault}
use Rattle.cell_rules.specs.declared.heard.Heard.{Heard}
use Rattle.cell_rules.specs.Seen.{heard_after}

-- a program over the type S of its steps with their notes: its machine, the call of a step, the steps that an answer
-- may lead to, and those that a turn without a call may lead to
pub record Program (S : Type 0) : Type 1 where
  pub machine : Machine
  pub call : S → Option Call
  pub leads : S → Answer → S → Type 0
  pub moves : S → S → Type 0

-- n turns without a call lead from one step to another
abbrev pub MovesIn : {S : Type 0} → Program S → ℕ → S → S → Type 0
MovesIn {S = S} p zero s t = s ≡ t
MovesIn {S = S} p (suc n) s t = (u : S) × p.moves s u × MovesIn p n u t

-- turns lead from one step to another: some have calls, answered by these events in order; those between have none
abbrev pub Reached : {S : Type 0} → Program S → S → List Event → S → Type 0
Reached {S = S} p s [] t = (n : ℕ) × MovesIn p n s t
Reached {S = S} p s (e ∷ events) t =
    (at : S) × (next : S) × ((n : ℕ) × MovesIn p n s at) × (p.call at ≡ Some e.call)
    × p.leads at e.answer next × Reached p next events t

-- a call is heard once, and a turn without a call hears nothing
abbrev pub Hears : Option Call → Heard → Heard → Type 0
Hears None before now = now ≡ before
Hears (Some c) before now = (r : Result Reply LineFault) × (now ≡ heard_after before c r)
