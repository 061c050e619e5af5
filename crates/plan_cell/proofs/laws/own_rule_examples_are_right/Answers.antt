use Rattle.std.proofs.Common.{◌≡◌, false, refl}
use Rattle.cell_types.specs.declared.machine.Machine.{Machine}
use Rattle.cell_types.specs.declared.machine.Machine.TheVariants.{Feed, Press, Deposit}
use Rattle.cell_types.specs.declared.zone.Zone.TheVariants.{Z1}
use Rattle.cell_types.specs.declared.pose.Pose.TheVariants.{Middle, Running}
use Rattle.cell_types.specs.declared.call.Call.{Call}
use Rattle.cell_types.specs.declared.call.Call.TheVariants.{Yield, Release, SetPose}
use Rattle.cell_types.specs.declared.answer.Refusal.{Refusal}
use Rattle.cell_types.specs.declared.answer.Refusal.TheVariants.{PlaceFull, InUse}
use Rattle.plan_cell.specs.Laws.{is_own_rule}
use Rattle.plan_cell.specs.OwnRuleExamples.{empty_cell}
use Rattle.plan_cell.proofs.laws.own_rule_examples_are_right.Goals as goal

none : (m : Machine) (c : Call) (r : Refusal) → is_own_rule empty_cell m c r ≡ false
none Feed (Yield Z1) InUse = refl
none Feed (Release Z1) InUse = refl
none Feed (SetPose Running) PlaceFull = refl
none Deposit (SetPose Running) PlaceFull = refl
none Press (SetPose Middle) PlaceFull = refl
none m c r = refl

pub returns : goal.returns
returns c = record { none = none; not_party = λ refused. let rule = refused.rule in cc }
