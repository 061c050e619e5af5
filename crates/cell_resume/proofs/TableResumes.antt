-- The table may go on at each step that is in step with a state.
use Rattle.cell_resume.proofs.Names.{ℕ, ℤ, Z1, Z2, Moving, Scale, after, and_left, seen_held, seen_in, table_steps, TableKnows, table-knowing, drives_at, IsResumable}
use Rattle.cell_types.specs.declared.machine.Machine.TheVariants.{Table as TableMachine}
use Rattle.cell_control.proofs.lemmas.SharedZones.{all_kept_of}
use Rattle.cell_table_press.specs.TableProgram.{zones_at, in_step}
use Rattle.cell_table_press.proofs.lemmas.TableFacts.{table_begins}

pub table_resumable : (points : Scale) (gives : ℕ → ℤ → Type 0) → IsResumable (table_steps points gives) in_step TableKnows
table_resumable points gives = record {
  begins = table_begins;
  enters = λ p z e. (all_kept_of (zones_at p.step) TableMachine z (and_left _ _ e)).0;
  knowing = table-knowing points gives;
  demands = λ p reading act opening seen asks drives sound legal k on.
      let at = drives_at p.step p (after opening seen) asks k in
      ((seen_held opening seen TableMachine Z1 legal at.0.0, seen_held opening seen TableMachine Z2 legal at.0.1), (seen_in opening seen Z1 Moving legal at.1.0, seen_in opening seen Z2 Moving legal at.1.1));
}
