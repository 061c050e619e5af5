use Rattle.std.proofs.Common.{refl}
use Rattle.plan_document.specs.Reading.{IsHazardIn, IsMachineIn, IsMotorIn, IsPoseIn, IsZoneIn}
use Rattle.plan_document.proofs.ReadingLaws.{items_are_rows, lists_have_items, postures_are_written, values_are_written}
use Rattle.plan_document.proofs.laws.lists_are_read.Goals as goal

pub returns-clause-machines : goal.returns-clause-machines
returns-clause-machines c = items_are_rows IsMachineIn

pub returns-clause-poses : goal.returns-clause-poses
returns-clause-poses c = items_are_rows IsPoseIn

pub returns-clause-zones : goal.returns-clause-zones
returns-clause-zones c = items_are_rows IsZoneIn

pub returns-clause-motors : goal.returns-clause-motors
returns-clause-motors c = items_are_rows IsMotorIn

pub returns-clause-hazards : goal.returns-clause-hazards
returns-clause-hazards c = items_are_rows IsHazardIn

pub returns-clause-items : goal.returns-clause-items
returns-clause-items c = lists_have_items

pub returns-clause-keys : goal.returns-clause-keys
returns-clause-keys c = λ keys key name value members. record { members = refl; keys = refl; no_keys = refl }

pub returns-clause-postures : goal.returns-clause-postures
returns-clause-postures c = postures_are_written

pub returns-clause-values : goal.returns-clause-values
returns-clause-values c = values_are_written
