-- What the rows of a document say: their texts alone.
use Rattle.std.specs.Prelude.{Bool, List, map, string_bytes, Option, option_map}
use Rattle.plan_text.specs.Names.{Text}
use Rattle.plan_document.specs.declared.document.Document.{Document}
use Rattle.plan_document.specs.declared.document.HazardRow.{HazardRow}
use Rattle.plan_document.specs.declared.document.MachineRow.{MachineRow}
use Rattle.plan_document.specs.declared.document.MotorRow.{MotorRow}
use Rattle.plan_document.specs.declared.document.PoseRow.{PoseRow}
use Rattle.plan_document.specs.declared.document.PostureRow.{PostureRow}
use Rattle.plan_document.specs.declared.document.WayRow.{WayRow}
use Rattle.plan_document.specs.declared.document.ZoneRow.{ZoneRow}
use Rattle.plan_document.specs.declared.fault.RowOf.{RowOf}

pub record PostureTexts : Type 0 where
  pub zone : Text
  pub posture : Text

pub record PoseTexts : Type 0 where
  pub name : Text
  pub gives : List PostureTexts
  pub after_moving : Bool

pub record MachineTexts : Type 0 where
  pub name : Text
  pub places : List Text
  pub sources : List Text
  pub sinks : List Text
  pub poses : List PoseTexts
  pub sensors : List Text
  pub program : List Text

pub record WayTexts : Type 0 where
  pub from : Text
  pub to : Text

pub record ZoneTexts : Type 0 where
  pub at : RowOf
  pub space : Option Text
  pub joins : Bool
  pub name : Text
  pub host : Text
  pub guest : Text
  pub inward : Option WayTexts
  pub outward : Option WayTexts

pub record MotorTexts : Type 0 where
  pub name : Text
  pub machine : Text
  pub holds : List PostureTexts
  pub stands : List PostureTexts
  pub full : List Text
  pub empty : List Text

pub record HazardTexts : Type 0 where
  pub name : Text
  pub first : Text
  pub second : Text

pub record DocumentTexts : Type 0 where
  pub machines : List MachineTexts
  pub zones : List ZoneTexts
  pub motors : List MotorTexts
  pub hazards : List HazardTexts

-- ---- of rows

abbrev pub posture_texts : PostureRow → PostureTexts
posture_texts row = record { zone = string_bytes row.zone; posture = string_bytes row.posture }

abbrev pub pose_texts : PoseRow → PoseTexts
pose_texts row = record {
  name = string_bytes row.name;
  gives = map posture_texts row.gives.items;
  after_moving = row.after_moving;
}

abbrev pub machine_texts : MachineRow → MachineTexts
machine_texts row = record {
  name = string_bytes row.name;
  places = map string_bytes row.places.items;
  sources = map string_bytes row.sources.items;
  sinks = map string_bytes row.sinks.items;
  poses = map pose_texts row.poses.items;
  sensors = map string_bytes row.sensors.items;
  program = map string_bytes row.program.items;
}

abbrev pub way_texts : WayRow → WayTexts
way_texts row = record { from = string_bytes row.from; to = string_bytes row.to }

abbrev pub zone_texts : ZoneRow → ZoneTexts
zone_texts row = record {
  at = row.at;
  space = option_map string_bytes row.space;
  joins = row.joins;
  name = string_bytes row.name;
  host = string_bytes row.host;
  guest = string_bytes row.guest;
  inward = option_map way_texts row.inward;
  outward = option_map way_texts row.outward;
}

abbrev pub motor_texts : MotorRow → MotorTexts
motor_texts row = record {
  name = string_bytes row.name;
  machine = string_bytes row.machine;
  holds = map posture_texts row.holds.items;
  stands = map posture_texts row.stands.items;
  full = map string_bytes row.full.items;
  empty = map string_bytes row.empty.items;
}

abbrev pub hazard_texts : HazardRow → HazardTexts
hazard_texts row = record {
  name = string_bytes row.name;
  first = string_bytes row.first;
  second = string_bytes row.second;
}

abbrev pub document_texts : Document → DocumentTexts
document_texts d = record {
  machines = map machine_texts d.machines.items;
  zones = map zone_texts d.zones.items;
  motors = map motor_texts d.motors.items;
  hazards = map hazard_texts d.hazards.items;
}
