use Rattle.plan_app.proofs.DriveRows.{drive-lines, runs-told}
use Rattle.plan_app.proofs.laws.drive_lines_are_met.Goals as goal

pub returns : goal.returns
returns c = record { lines = drive-lines; runs = runs-told }
