-- What each of six workers with devices of your own left, by its machine's own name.
use Rattle.cell_renewal.proofs.Names.{◌≡◌, ℕ, sym, subst, Machine, Feed, Table, Robot, Press, Deposit, Crane}
use Rattle.cell_interlock.specs.Views.{PassView}
use Rattle.cell_control.specs.Names.{Steps}
use Rattle.cell_control.specs.declared.commands.Commands.{Commands}
use Rattle.std.proofs.Common.{Option, ap}
use Rattle.cell_parts.specs.Axes.{CellScales}
use Rattle.cell_plant.specs.Names.{CellGauges}
use Rattle.cell_threads.specs.Workers.{GateOf}
use Rattle.cell_renewal.specs.WiredRecords.{WiredTurnsAreTold}
use Rattle.cell_renewal.specs.WiredTeams.{Shows, Sets}
use Rattle.cell_renewal.specs.WiredWorkers.{IsWiredResult, WiredMoment}
use Rattle.cell_renewal.specs.declared.wired_worker.WiredOutput.{WiredOutput}

-- what is left is what the record has
as_told : {S Sense Reading Act D : Type 0} (tries : ℕ) (t : Steps S Sense Reading Act) (shows : D → Option Sense → D → Type 0) (sets : D → Commands Act → D → Type 0) (gate : GateOf) (limit : ℕ)
    (first : WiredMoment S D) (kept : PassView) (left told : WiredOutput D) → told ≡ left → IsWiredResult tries t shows sets gate limit first kept left.turns left.missed left.status left.devices
    → IsWiredResult tries t shows sets gate limit first kept told.turns told.missed told.status told.devices
as_told tries t shows sets gate limit first kept left told e k = subst (λ x. IsWiredResult tries t shows sets gate limit first kept x.turns x.missed x.status x.devices) (sym e) k

module _ {D1 D2 D3 D4 D5 D6 : Type 0} (c : CellScales) (gives : CellGauges)
    (shows1 : Shows D1 Feed) (sets1 : Sets D1 Feed) (shows2 : Shows D2 Table) (sets2 : Sets D2 Table) (shows3 : Shows D3 Robot) (sets3 : Sets D3 Robot)
    (shows4 : Shows D4 Press) (sets4 : Sets D4 Press) (shows5 : Shows D5 Deposit) (sets5 : Sets D5 Deposit) (shows6 : Shows D6 Crane) (sets6 : Sets D6 Crane) (gate : Machine → GateOf) where
  pub turns-told : WiredTurnsAreTold c gives shows1 sets1 shows2 sets2 shows3 sets3 shows4 sets4 shows5 sets5 shows6 sets6 gate
  turns-told devices opening tries limit r k = record {
    feed = as_told tries _ shows1 sets1 (gate Feed) limit _ k.results.feed.pass k.results.feed.output r.outputs.feed (ap (λ o. o.feed) k.outputs) k.feed;
    table = as_told tries _ shows2 sets2 (gate Table) limit _ k.results.table.pass k.results.table.output r.outputs.table (ap (λ o. o.table) k.outputs) k.table;
    robot = as_told tries _ shows3 sets3 (gate Robot) limit _ k.results.robot.pass k.results.robot.output r.outputs.robot (ap (λ o. o.robot) k.outputs) k.robot;
    press = as_told tries _ shows4 sets4 (gate Press) limit _ k.results.press.pass k.results.press.output r.outputs.press (ap (λ o. o.press) k.outputs) k.press;
    deposit = as_told tries _ shows5 sets5 (gate Deposit) limit _ k.results.deposit.pass k.results.deposit.output r.outputs.deposit (ap (λ o. o.deposit) k.outputs) k.deposit;
    crane = as_told tries _ shows6 sets6 (gate Crane) limit _ k.results.crane.pass k.results.crane.output r.outputs.crane (ap (λ o. o.crane) k.outputs) k.crane;
    opened = k.opened;
    legal = k.audited.legal;
    own = λ m. (k.seen m).own;
    journals = k.journals;
  }
