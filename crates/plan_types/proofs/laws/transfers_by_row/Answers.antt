use Rattle.std.proofs.Common.{◌≡◌, ◌≤◌, ℕ, List, length, Option, None, refl, ap}
use Rattle.std.proofs.lemmas.List.{get_or_past}
use Rattle.plan_types.specs.declared.posture.Posture.{Posture}
use Rattle.plan_types.specs.declared.posture.Posture.TheVariants.{Closed, Moving, OpenIn, OpenOut}
use Rattle.plan_types.specs.declared.table.PlanZone.{PlanZone}
use Rattle.plan_types.specs.declared.table.Transfer.{Transfer}
use Rattle.plan_types.specs.Table.{PlanTable, no_zone, transfer_by, transfer_of}
use Rattle.plan_types.specs.TableLaws.{with_zone}
use Rattle.plan_types.specs.Examples.{way, zone}
use Rattle.plan_types.proofs.RowReading.{element_after}
use Rattle.plan_types.proofs.laws.transfers_by_row.Goals as goal

past_the_end : (t : PlanTable) (z : ℕ) (q : Posture) → length t.zones ≤ z → transfer_of t z q ≡ None
past_the_end t z Closed past = refl
past_the_end t z Moving past = refl
past_the_end t z OpenIn past = rw (get_or_past t.zones z no_zone past) refl
past_the_end t z OpenOut past = rw (get_or_past t.zones z no_zone past) refl

-- the way through a zone, by its row
abbrev by_row : Posture → PlanZone → Option Transfer
by_row OpenIn row = transfer_by row.guest row.host row.inward
by_row OpenOut row = transfer_by row.host row.guest row.outward
by_row _ row = None

read : (t : PlanTable) (rows : List PlanZone) (row : PlanZone) (q : Posture)
    → transfer_of (with_zone t rows row) (length rows) q ≡ by_row q row
read t rows row Closed = refl
read t rows row Moving = refl
read t rows row OpenIn = ap (by_row OpenIn) (element_after rows t.zones row no_zone)
read t rows row OpenOut = ap (by_row OpenOut) (element_after rows t.zones row no_zone)

pub returns : goal.returns
returns c = record {
  inward = λ t rows host guest from to outward. read t rows (zone host guest (way from to) outward) OpenIn;
  outward = λ t rows host guest from to inward. read t rows (zone host guest inward (way from to)) OpenOut;
  no_inward = λ t rows host guest outward. read t rows (zone host guest None outward) OpenIn;
  no_outward = λ t rows host guest inward. read t rows (zone host guest inward None) OpenOut;
  closed = λ t z. refl;
  moving = λ t z. refl;
  past_the_end = past_the_end;
}
