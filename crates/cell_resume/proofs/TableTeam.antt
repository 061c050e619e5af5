-- What the table knows at its step tells that it is in step, and the other way round.
use Rattle.cell_resume.proofs.Names.{◌≡◌, true, ℕ, ℤ, Scale, ModelState, and_left, and_right, and_both, TableProgress, TableKnows, one_flag, own_flag}
use Rattle.cell_types.specs.declared.machine.Machine.TheVariants.{Table as TableMachine}
use Rattle.cell_control.specs.Keeping.{are_kept}
use Rattle.cell_control.proofs.lemmas.SharedZones.{all_kept_of, of_all_kept}
use Rattle.cell_table_press.specs.TableProgram.{keeps_at, zones_at, is_there, in_step}
use Rattle.cell_team.proofs.lemmas.TableTeam as team
use Rattle.cell_resume.proofs.TableResumes.{table_resumable}

pub table_knows : (points : Scale) (gives : ℕ → ℤ → Type 0) → (p : TableProgress) (z : ModelState) → in_step p z ≡ true → TableKnows p z × team.TableMore p z
table_knows points gives p z e =
    let rest = and_right (are_kept (zones_at p.step) TableMachine z) _ e in
    ((table_resumable points gives).enters p z e, record { shares = (all_kept_of (zones_at p.step) TableMachine z (and_left _ _ e)).1; plate = and_left _ _ rest; noted = one_flag _ _ (and_right (is_there (keeps_at p.step).plate p.loaded) _ rest) })

pub table_stands : (p : TableProgress) (z : ModelState) → TableKnows p z × team.TableMore p z → in_step p z ≡ true
table_stands p z k =
    and_both _ _ (of_all_kept (zones_at p.step) TableMachine z k.0 k.1.shares) (and_both _ _ k.1.plate (own_flag _ _ k.1.noted))
