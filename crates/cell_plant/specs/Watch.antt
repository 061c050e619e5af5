-- The watch: its program of one step, and its part, which has nothing.
use Rattle.std.specs.Prelude.{◌≡◌, Bool, false, not, if◌then◌else◌, None, Ok, ⊤}
use Rattle.cell_rules.specs.Types.{Watch, Stop, Resume}
use Rattle.cell_control.specs.Names.{Rig, row_that_asks, Steps}
use Rattle.cell_control.specs.declared.row.Row.{Row}
use Rattle.cell_unit.specs.Sides.{Side, side_of}
use Rattle.cell_plant.specs.declared.watch.WatchProgress.{WatchProgress}

-- whether its last call that was done was Stop
abbrev pub watch_noting : Bool → WatchProgress
watch_noting stopped = record { has_stopped = stopped }

-- it stops the cell and resumes it, in turn
abbrev pub row_of : WatchProgress → Row WatchProgress
row_of p = row_that_asks (if p.has_stopped then Resume else Stop) (watch_noting (not p.has_stopped))

abbrev pub watch_steps : Steps WatchProgress (Unit {0}) (Unit {0}) (Unit {0})
watch_steps =
    record {
      machine = Watch;
      start = λ s. watch_noting false;
      row = row_of;
      after_inquiry = λ p owner flag posture. p;
      senses = λ s r. r ≡ Ok tt;
      drives = λ p r act. ⊤;
      after_drive = λ p r act. p;
      rest = λ p. tt;
      motor_demands = λ p act opening seen. ⊤;
    }

abbrev pub watch_rig : Rig (Unit {0}) (Unit {0}) (Unit {0})
watch_rig = record { shows = λ a s. ⊤; notes = λ a e. a; set = λ a act. a; moves = λ a. a }

abbrev pub watch_at_start : Side WatchProgress (Unit {0})
watch_at_start = side_of (watch_noting false) None tt
