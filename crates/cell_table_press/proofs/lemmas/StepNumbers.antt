-- Each step is found by its number.
use Rattle.std.proofs.Common.{◌≡◌, ◌≤◌, Some, refl, arith, slice_get}
use denote.Enum.Declared.{tag_of}
use Rattle.cell_table_press.specs.contracts.press.PressStep.{the_type as press_type}
use Rattle.cell_table_press.specs.contracts.table.TableStep.{the_type as table_type}
use Rattle.cell_table_press.specs.declared.press.PressStep.{PressStep}
use Rattle.cell_table_press.specs.declared.press.PressStep.TheVariants as press_step
use Rattle.cell_table_press.specs.declared.table.TableStep.{TableStep}
use Rattle.cell_table_press.specs.declared.table.TableStep.TheVariants as table_step
use Rattle.cell_table_press.specs.PressProgram as press
use Rattle.cell_table_press.specs.TableProgram as table

pub press_tag : (s : PressStep) → tag_of press_type s ≡ press.number_at s
press_tag press_step.ClaimFirst = refl
press_tag _ = refl

pub press_small : (s : PressStep) → tag_of press_type s ≤ 14
press_small press_step.ClaimFirst = omega arith
press_small _ = omega arith

pub press_found : (s : PressStep) → slice_get press.steps (press.number_at s) ≡ Some s
press_found press_step.ClaimFirst = refl
press_found _ = refl

pub table_tag : (s : TableStep) → tag_of table_type s ≡ table.number_at s
table_tag table_step.ClaimEntry = refl
table_tag _ = refl

pub table_found : (s : TableStep) → slice_get table.steps (table.number_at s) ≡ Some s
table_found table_step.ClaimEntry = refl
table_found _ = refl
