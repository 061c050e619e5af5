-- The empty cell: no rule of its own holds there, and a refusal by the plan's rules is none by its own.
use Rattle.std.specs.Prelude.{◌≡◌, false}
use Rattle.cell_types.specs.declared.machine.Machine.{Machine}
use Rattle.cell_types.specs.declared.machine.Machine.TheVariants.{Press}
use Rattle.cell_types.specs.declared.zone.Zone.TheVariants.{Z1}
use Rattle.cell_types.specs.declared.call.Call.{Call}
use Rattle.cell_types.specs.declared.call.Call.TheVariants.{Claim}
use Rattle.cell_types.specs.declared.answer.Refusal.{Refusal}
use Rattle.cell_rules.specs.ModelState.{ModelState}
use Rattle.cell_rules.specs.PlaceSet.{empty}
use Rattle.cell_rules.specs.Start.{start_state}
use Rattle.plan_cell.specs.Laws.{is_own_rule, RefusedByOwnRule}

-- no place is full, and no zone is owned
abbrev pub empty_cell : ModelState
empty_cell = start_state empty 0

pub record OwnRuleExamples : Type 0 where
  pub none : (m : Machine) (c : Call) (r : Refusal) → is_own_rule empty_cell m c r ≡ false
  -- the press is no party of z1, so it is refused; but by its plan too
  pub not_party : ¬ RefusedByOwnRule empty_cell Press (Claim Z1)
