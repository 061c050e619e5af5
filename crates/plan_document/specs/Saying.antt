-- What a document says: which plan is its plan. A name stands for the number of its row.
use Rattle.std.specs.Prelude.{◌≡◌, ◌≢◌, ◌⊎◌, ◌≤◌, ℕ, Bool, true, false, ◌||◌, ◌&&◌, not, nat_eq, List, ◌++◌, map, length}
use Rattle.std.specs.Prelude.{codes, String, string_bytes, Option, Some, None, option_map, IsTrue, ⊤}
use Rattle.std.specs.Prelude.{slice_get, is_none, is_some, option_and_then}
use Rattle.std.specs.declared.alloc.Global.{Global}
use Rattle.std.specs.Bool.{then_some}
use Rattle.std.specs.List.{AllZip, filter_map, flat_map, list_all, list_any, slice_split}
use Rattle.std.specs.Option.{option_eq}
use Rattle.std.specs.Str.{bytes_eq}
use Rattle.plan_types.specs.declared.call.Call.{Call}
use Rattle.plan_types.specs.declared.call.Call.TheVariants.{Claim, Give, Yield, Take, Release, Inquire, SetPose, Stop}
use Rattle.plan_types.specs.declared.call.Call.TheVariants.{Resume, Advance}
use Rattle.plan_types.specs.declared.posture.Posture.TheVariants.{OpenIn, OpenOut}
use Rattle.plan_types.specs.declared.table.Transfer.{Transfer}
use Rattle.plan_types.specs.declared.table.Way.{Way}
use Rattle.plan_types.specs.declared.table.PlanZone.{PlanZone}
use Rattle.plan_types.specs.declared.table.PlanPose.{PlanPose}
use Rattle.plan_types.specs.declared.table.PlanPlace.{PlanPlace}
use Rattle.plan_types.specs.Table.{PlanTable, has_end, has_pose, is_party, transfer_of, whole_table}
use Rattle.plan_motors.specs.declared.motor.Motor.{Motor}
use Rattle.plan_drives.specs.Program.{has_bit}
use Rattle.plan_controller.specs.declared.faults.Faults.{Faults}
use Rattle.plan_controller.specs.declared.step.Step.{Step}
use Rattle.plan_controller.specs.declared.step.Step.TheVariants.{Do, Await, Run}
use Rattle.plan_controller.specs.Faults.{no_faults}
use Rattle.plan_text.specs.Names.{Text, is_reserved, number_in}
use Rattle.plan_text.specs.Named.{Named, named_in}
use Rattle.plan_text.specs.Answers.{posture_of}
use Rattle.plan_text.specs.Calls.{call_of, own_pose, verb_word}
use Rattle.plan_text.specs.declared.calls.Verb.{Verb}
use Rattle.plan_text.specs.declared.calls.Verb.TheVariants as verbs
use Rattle.plan_document.specs.declared.document.Document.{Document}
use Rattle.plan_document.specs.declared.document.MachineRow.{MachineRow}
use Rattle.plan_document.specs.declared.document.PoseRow.{PoseRow}
use Rattle.plan_document.specs.declared.document.WayRow.{WayRow}
use Rattle.plan_document.specs.declared.document.ZoneRow.{ZoneRow}
use Rattle.plan_document.specs.declared.motors.NamedMotors.{NamedMotors}
use Rattle.plan_document.specs.declared.resolving.ProgrammedPlan.{ProgrammedPlan}
use Rattle.plan_document.specs.declared.tables.Rows.{Rows}
use Rattle.plan_document.specs.Motors.{AreNamedMotorsOf}
use Rattle.plan_document.specs.Postures.{AreGiven}
use Rattle.plan_document.specs.Refusals.{AreFaults}
use Rattle.plan_document.specs.Names.{AreDistinct, AreNames, all_poses, identifiers, machine_names, numbered}
use Rattle.plan_document.specs.Names.{place_names, pose_names, sensor_identifiers, sensor_names, sensors_in, space_names}
use Rattle.plan_document.specs.Names.{taken_names, zone_names}

-- ---- zones

-- a way leads between the places that its names say; no way where the row has none
abbrev pub IsWayOf : List Text → Option WayRow → Option Way → Type 0
IsWayOf places None None = ⊤
IsWayOf places None (Some way) = ⊥
IsWayOf places (Some row) None = ⊥
IsWayOf places (Some row) (Some way) =
    (number_in places (string_bytes row.from) ≡ Some way.from)
    × (number_in places (string_bytes row.to) ≡ Some way.to)

pub record IsZoneOf (machines places : List Text) (row : ZoneRow) (zone : PlanZone) : Type 0 where
  pub host : number_in machines (string_bytes row.host) ≡ Some zone.host
  pub guest : number_in machines (string_bytes row.guest) ≡ Some zone.guest
  pub joins : zone.joins ≡ row.joins
  pub inward : IsWayOf places row.inward zone.inward
  pub outward : IsWayOf places row.outward zone.outward

-- ---- poses

pub record IsPoseOf (zones : List Text) (row : ℕ × PoseRow) (pose : PlanPose) : Type 0 where
  pub machine : pose.machine ≡ row.0
  pub after_moving : pose.after_moving ≡ row.1.after_moving
  pub gives : AreGiven posture_of zones row.1.gives.items pose.gives

-- ---- places

-- a name is one of these
abbrev pub is_listed : List (String Global) → Text → Bool
is_listed names name = list_any (λ other. bytes_eq (string_bytes other) name) names

-- a machine keeps the places of its row; those that it lists are sources, and sinks
abbrev pub place_of : ℕ → MachineRow → Text → PlanPlace
place_of machine row name = record {
  keeper = machine;
  source = is_listed row.sources.items name;
  sink = is_listed row.sinks.items name;
}

abbrev pub ends_in : ℕ → MachineRow → List PlanPlace
ends_in machine row = map (λ name. place_of machine row (string_bytes name)) row.places.items

abbrev pub place_rows : List MachineRow → List PlanPlace
place_rows machines = flat_map (λ (machine, row). ends_in machine row) (numbered machines)

-- the sources and the sinks that a machine lists are places of it
abbrev pub are_places : MachineRow → List (String Global) → Bool
are_places row names = list_all (λ name. is_listed row.places.items (string_bytes name)) names

abbrev pub has_ends : MachineRow → Bool
has_ends row = are_places row row.sources.items && are_places row row.sinks.items

-- ---- programs

-- what a machine asks with a verb about a name: of poses its own alone
abbrev pub own_call : Named → ℕ → Verb → Text → Option Call
own_call n machine verbs.Pose name = option_map SetPose (own_pose n machine name)
own_call n machine other name = call_of n machine other name

-- a plate goes through a zone from a machine, or to it
abbrev pub is_from : ℕ → Option Transfer → Bool
is_from machine None = false
is_from machine (Some way) = nat_eq way.giver machine

abbrev pub is_to : ℕ → Option Transfer → Bool
is_to machine None = false
is_to machine (Some way) = nat_eq way.receiver machine

abbrev pub gives_plates : PlanTable → ℕ → ℕ → Bool
gives_plates t machine zone =
    is_from machine (transfer_of t zone OpenIn) || is_from machine (transfer_of t zone OpenOut)

abbrev pub takes_plates : PlanTable → ℕ → ℕ → Bool
takes_plates t machine zone =
    is_to machine (transfer_of t zone OpenIn) || is_to machine (transfer_of t zone OpenOut)

-- a call that isn't refused in every state for whose it is
abbrev pub may_be_done : PlanTable → ℕ → Call → Bool
may_be_done t machine (Claim zone) = is_party t machine zone
may_be_done t machine (Give zone) = gives_plates t machine zone
may_be_done t machine (Yield zone) = is_party t machine zone
may_be_done t machine (Take zone) = takes_plates t machine zone
may_be_done t machine (Release zone) = is_party t machine zone
may_be_done t machine (SetPose pose) = has_pose t machine pose
may_be_done t machine (Inquire zone) = true
may_be_done t machine Stop = true
may_be_done t machine Resume = true
may_be_done t machine (Advance place) = has_end t machine place

-- what asks is a verb, but no inquiry, a blank and a name
pub record IsCallOf (n : Named) (machine : ℕ) (line : Text) (call : Call) : Type 0 where
  pub verb : Verb
  pub name : Text
  pub line_is : line ≡ verb_word verb ++ codes " " ++ name
  pub call_is : own_call n machine verb name ≡ Some call
  pub doable : IsTrue (may_be_done n.plan machine call)
  pub asks : verb ≢ verbs.Inquire

-- the words of a text, each parted from the next by one blank
abbrev pub words_in : Text → List Text
words_in text = slice_split (λ byte. nat_eq byte 32) text

-- a line has no faults, or names them after what it asks
abbrev pub HasFaults : Text → Text → Faults → Type 0
HasFaults line ask faults =
    ((line ≡ ask) × (faults ≡ no_faults))
    ⊎ ((words : Text) × (line ≡ ask ++ codes " or stop on " ++ words) × AreFaults (words_in words) faults)

-- a machine asks a call, and stops on the faults that its line names
pub record Asks (n : Named) (machine : ℕ) (line : Text) (step : Step) : Type 0 where
  pub call : Call
  pub faults : Faults
  pub step_is : step ≡ Do call faults
  pub ask : Text
  pub call_is : IsCallOf n machine ask call
  pub faults_are : HasFaults line ask faults

-- what a machine waits for by a name: a sensor of its own, while no motor runs, or a zone of which it is a party
abbrev pub Awaits : Named → List Text → ℕ → Text → Step → Type 0
Awaits n sensors machine name (Do call faults) = ⊥
Awaits n sensors machine name (Await zone) =
    (number_in n.zones name ≡ Some zone) × IsTrue (is_party n.plan machine zone)
Awaits n sensors machine name (Run motors until) = (motors ≡ 0) × (number_in sensors name ≡ Some until)

abbrev pub is_driven_by : ℕ → Option Motor → Bool
is_driven_by machine None = false
is_driven_by machine (Some motor) = nat_eq motor.machine machine

-- the number of the motor with this name, if it is the machine's
abbrev pub own_motor : NamedMotors → ℕ → Text → Option ℕ
own_motor m machine name =
    option_and_then (λ motor. then_some (is_driven_by machine (slice_get m.motors.items motor)) motor)
    (number_in m.names name)

-- each word is the name of a motor of the machine, and these motors have a bit, and no others
pub record AreMotorsIn (m : NamedMotors) (machine : ℕ) (text : Text) (motors : ℕ) : Type 0 where
  pub known : IsTrue (list_all (λ name. is_some (own_motor m machine name)) (words_in text))
  pub bits : (motor : ℕ) → has_bit motors motor
      ≡ list_any (λ name. option_eq nat_eq (own_motor m machine name) (Some motor)) (words_in text)

-- a machine runs motors of its own until a sensor of its own shows
pub record Runs (m : NamedMotors) (sensors : List Text) (machine : ℕ) (words : Text) (step : Step) : Type 0 where
  pub names : Text
  pub sensor : Text
  pub words_are : words ≡ names ++ codes " until " ++ sensor
  pub motors : ℕ
  pub until : ℕ
  pub step_is : step ≡ Run motors until
  pub motors_are : AreMotorsIn m machine names motors
  pub until_is : number_in sensors sensor ≡ Some until

-- what a line says: a call, a wait, or motors and until when they run
abbrev pub IsStepOf : Named → NamedMotors → List Text → ℕ → Text → Step → Type 0
IsStepOf n m sensors machine line step =
    Asks n machine line step
    ⊎ (((name : Text) × (line ≡ codes "await " ++ name) × Awaits n sensors machine name step)
    ⊎ ((words : Text) × (line ≡ codes "run " ++ words) × Runs m sensors machine words step))

-- a program has the step of each line
abbrev pub AreStepsOf : Named → NamedMotors → List Text → ℕ → List (String Global) → List Step → Type 0
AreStepsOf n m sensors machine lines steps = AllZip (IsStepOf n m sensors machine) (map string_bytes lines) steps

-- sensors are few enough for their bits, and none has the name of another or of a zone
pub record AreSensors (zones sensors : List Text) : Type 0 where
  pub few : length sensors ≤ 32
  pub spelled : AreNames sensors
  pub distinct : AreDistinct sensors
  pub apart : IsTrue (list_all (λ name. is_none (number_in zones name)) sensors)

pub record IsProgramOf (n : Named) (m : NamedMotors) (row : ℕ × MachineRow) (steps : List Step) : Type 0 where
  pub sensors : AreSensors n.zones (sensors_in row.1)
  pub steps_are : AreStepsOf n m (sensors_in row.1) row.0 row.1.program.items steps

-- what a machine asks at a step: where it waits for a zone, who owns that; where motors run, nothing
abbrev pub asked : Step → Option Call
asked (Do call faults) = Some call
asked (Await zone) = Some (Inquire zone)
asked (Run motors until) = None

abbrev pub calls_of : List Step → List Call
calls_of steps = filter_map asked steps

-- ---- plans

-- a name that no script takes for another word
abbrev pub is_free : Text → Bool
is_free name = not (is_reserved name)

-- each table has a row for each row of the document, and each name in it is looked up; all are names, and those of one
-- kind are distinct, of poses those for C; no space has the name of another, or of a zone
pub record IsNamedPlanOf (d : Document) (n : Named) : Type 0 where
  pub free : IsTrue (list_all is_free n.machines)
  pub spelled_machines : AreNames n.machines
  pub spelled_zones : AreNames n.zones
  pub spelled_places : AreNames n.places
  pub spelled_poses : AreNames n.poses
  pub spelled_spaces : AreNames (taken_names d.zones.items)
  pub distinct_machines : AreDistinct n.machines
  pub distinct_zones : AreDistinct n.zones
  pub distinct_places : AreDistinct n.places
  pub distinct_poses : AreDistinct (identifiers d.machines.items)
  pub distinct_spaces : AreDistinct (taken_names d.zones.items)
  pub named_machines : n.machines ≡ machine_names d.machines.items
  pub named_zones : n.zones ≡ zone_names d.zones.items
  pub named_spaces : n.spaces ≡ space_names d.zones.items
  pub named_places : n.places ≡ place_names d.machines.items
  pub named_poses : n.poses ≡ pose_names d.machines.items
  pub machines : n.plan.machines ≡ length d.machines.items
  pub zones : AllZip (IsZoneOf n.machines n.places) d.zones.items n.plan.zones
  pub poses : AllZip (IsPoseOf n.zones) (all_poses d.machines.items) n.plan.poses
  pub places : n.plan.places ≡ place_rows d.machines.items
  pub ends : IsTrue (list_all has_ends d.machines.items)

-- the plan of a document, its motors and hazards, the sensors and the steps of each machine, and what it asks by them;
-- no two sensors have one name for C
pub record IsPlanOf (d : Document) (p : ProgrammedPlan) : Type 0 where
  pub named : IsNamedPlanOf d p.named
  pub motors : AreNamedMotorsOf d p.named p.motors
  pub sensors : p.sensors.items ≡ sensor_names d.machines.items
  pub distinct_sensors : AreDistinct (sensor_identifiers d.machines.items)
  pub steps : AllZip (IsProgramOf p.named p.motors) (numbered d.machines.items)
      (map (λ steps. steps.items) p.steps.items)
  pub programs : p.programs ≡ map (λ steps. calls_of steps.items) p.steps.items

-- ---- the rows before they are a plan

abbrev pub AreRowsOf : Document → Rows → Type 0
AreRowsOf d rows =
    let tables =
    whole_table (length rows.machines) rows.zone_rows.items rows.pose_rows.items rows.place_rows.items in
    IsNamedPlanOf d (named_in tables rows.machines rows.zones rows.spaces rows.places rows.poses)
