-- One machine's round: where it stands after it, and that it is worn only when the stamps are used up.
use Rattle.cell_renewal.proofs.Names.{◌≡◌, ◌≢◌, ◌≤◌, ℕ, ◌+◌, List, Option, Some, None, refl, sym, ◌∙◌, subst, arith, length, Refusal, Event, last_stamp, IsSound, IsLegal, own_events, done_count, Waits, InterlockView, fresh_pass, Steps, CtlFault, Commands, Status, Fine, Refused, Sensor, Worn, Memory, Stands, GateOf, ComesBy, Ends, WorkerResult, within, ended, GoingLeft, GoingOn, Runs, going_gives, TakesCycle, wired_moment}
use Rattle.cell_control.specs.declared.fault.CtlFault.TheVariants as fault
use Rattle.cell_renewal.proofs.GoingStands.{from_step, going_stands}
use Rattle.cell_renewal.proofs.Wearing.{wears-last}

-- a worker that ended fine runs
pub fine_runs : (gate : GateOf) (limit cycles : ℕ) (stopped : Option CtlFault) (s : Status) → Ends gate limit stopped cycles s → s ≡ Fine → stopped ≡ None
fine_runs gate limit cycles None s h e = refl
fine_runs gate limit cycles (Some (fault.Sensor x)) s h e = let lie : Sensor ≡ Fine = sym h.0 ∙ e in cc
fine_runs gate limit cycles (Some (fault.Refused r)) s h e = let lie : Refused ≡ Fine = sym h.0 ∙ e in cc
fine_runs gate limit cycles (Some fault.Worn) s h e = let lie : Worn ≡ Fine = sym h.0 ∙ e in cc
fine_runs gate limit cycles (Some fault.Memory) s h e = let lie : Memory ≡ Fine = sym h.0 ∙ e in cc
fine_runs gate limit cycles (Some fault.Stopped) s h e = let lie : Refused ≡ Fine = sym h.0 ∙ e in cc

module _ {P S Sense Reading Act D : Type 0} (steps : P → Steps S Sense Reading Act) (shows : D → Option Sense → D → Type 0) (sets : D → Commands Act → D → Type 0) (gate : GateOf)
    (tries limit : ℕ) (i : InterlockView) (history : List Event) (w : GoingOn P S D) (r : WorkerResult (GoingLeft P S D)) (runs : Runs w)
    (k : going_gives steps shows sets w (fresh_pass i (steps w.machine.program).machine) tries gate limit r) (waits : Waits (steps w.machine.program).machine r.pass.seen history) where
  abbrev t : Steps S Sense Reading Act
  t = steps w.machine.program

  abbrev left : GoingLeft P S D
  left = r.output

  pub stands_after : Stands (from_step t w.machine.progress) i.opening history left.machine.stopped left.machine.progress
  stands_after =
      going_stands t w.machine.progress tries shows sets gate i k.1.last r.pass w.devices left.devices left.turns left.missed left.machine.stopped left.machine.progress history
      (subst (λ s. ComesBy (TakesCycle tries t shows sets gate) (wired_moment (fresh_pass i t.machine) w.machine.progress s w.devices 0 0) (wired_moment k.1.last left.machine.progress left.machine.stopped left.devices left.turns left.missed)) runs k.1.come)
      k.1.more waits

  -- a fine worker's machine runs
  pub runs_on : left.status ≡ Fine → left.machine.stopped ≡ None
  runs_on e = fine_runs gate limit (left.turns + left.missed) left.machine.stopped left.status k.1.ended e

  pub unrefused_after : ((x : Refusal) → left.machine.stopped ≡ Some (fault.Refused x) → ⊥) → left.status ≢ Refused
  unrefused_after none = ended gate limit (left.turns + left.missed) left.machine.stopped left.status k.1.ended none stands_after.not_again

  -- it has made at most one call in each turn
  pub few_calls : length (own_events history t.machine) ≤ limit
  few_calls =
      let few = (wears-last t shows sets gate).one_call_each tries limit _ r.pass left.turns left.missed left.status left.devices left.machine.progress left.machine.stopped left.machine.left k.1 runs refl refl refl in
      let all = within gate limit left.machine.stopped (left.turns + left.missed) left.status k.1.ended in
      subst (λ (h : List Event). length h ≤ limit) (sym waits.own) (omega (arith, few, all))

  pub worn_last : IsSound i.opening → IsLegal i.opening history → left.status ≡ Worn → last_stamp ≤ i.opening.stamp + done_count history
  worn_last sound legal e =
      (wears-last t shows sets gate).worn tries limit _ r.pass left.turns left.missed left.status left.devices left.machine.progress left.machine.stopped left.machine.left history k.1 runs refl refl refl sound legal waits e
