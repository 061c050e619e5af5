-- The names of this crate that other crates' definitions and proofs use, in one place.
pub use Rattle.cell_table_press.specs.PressProgram.{after_motor, by_plates, checked, press_start, press_steps, row_at}
pub use Rattle.cell_table_press.specs.PressProgram.{with_plates}
pub use Rattle.cell_table_press.specs.TableProgram.{Acts, Senses, after_act, after_done, by_plate, is_off, rotation_stop}
pub use Rattle.cell_table_press.specs.TableProgram.{row_of, table_start, table_steps, with_plate}
