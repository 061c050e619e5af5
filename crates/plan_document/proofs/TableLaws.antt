-- How many rows a plan has, which names they have, and which calls its programs have.
use Rattle.std.proofs.Common.{◌≡◌, ◌≢◌, ◌∙◌, ◌+◌, ◌<◌, ◌++◌, ◌∷◌, [], ℕ, Bool, true, false, not, List, length, map, sum, refl, sym, ap, subst, string_bytes, arith, codes}
use Rattle.std.proofs.Common.{String}
use Rattle.std.specs.declared.alloc.Global.{Global}
use Rattle.std.proofs.Common.{Option, Some, None, is_some, option_map}
use Rattle.std.proofs.lemmas.List.{length-append, length-map}
use Rattle.std.proofs.lemmas.List.Folds.{list_all_at}
use Rattle.std.proofs.lemmas.List.FromFn.{length-enumerate_from}
use Rattle.std.proofs.lemmas.List.Sums.{sum-map, sum_by-cons}
use Rattle.std.proofs.lemmas.Slice.Zip.{AllZip-long}
use Rattle.std.specs.List.{flat_map, list_all, sum_by}
use Rattle.plan_types.specs.declared.call.Call.{Call}
use Rattle.plan_types.specs.declared.call.Call.TheVariants.{Claim, Give, Yield, Take, Release, SetPose, Advance}
use Rattle.plan_controller.specs.declared.step.Step.{Step}
use Rattle.plan_controller.specs.declared.step.Step.TheVariants.{Do, Await, Run}
use Rattle.plan_text.specs.Calls.{call_text, own_pose, words}
use Rattle.plan_text.specs.Laws.{CallsAreToldAsRead, OwnPosesComeFirst}
use Rattle.plan_text.specs.Named.{Named}
use Rattle.plan_text.specs.Names.{Text, is_name, is_reserved, name_in, number_in}
use Rattle.plan_text.specs.declared.calls.Verb.{Verb}
use Rattle.plan_text.specs.declared.calls.Verb.TheVariants as verbs
use Rattle.plan_document.specs.declared.document.Document.{Document}
use Rattle.plan_document.specs.declared.document.HazardRow.{HazardRow}
use Rattle.plan_document.specs.declared.document.MachineRow.{MachineRow}
use Rattle.plan_document.specs.declared.document.MotorRow.{MotorRow}
use Rattle.plan_document.specs.declared.document.PoseRow.{PoseRow}
use Rattle.plan_document.specs.declared.document.ZoneRow.{ZoneRow}
use Rattle.plan_document.specs.declared.resolving.ProgrammedPlan.{ProgrammedPlan}
use Rattle.plan_document.specs.Motors.{IsHazardOf, IsMotorOf}
use Rattle.plan_document.specs.Names.{AreDistinct, all_poses, identifier, identifiers, identifiers_in, is_title, names_in, numbered, numbered_poses, place_names, places_in, pose_names, sensor_identifiers, sensor_identifiers_in, sensor_names, sensors_in, space_name, taken_names}
use Rattle.plan_document.specs.PlanLaws.{StandsAt}
use Rattle.plan_document.specs.Laws.{is_line}
use Rattle.plan_document.specs.Saying.{IsPlanOf, IsPoseOf, IsProgramOf, IsStepOf, IsZoneOf, calls_of, ends_in, is_free, own_call, place_of, place_rows}
use Rattle.plan_document.specs.TableLaws.{AllStepsAsk, HasLine, NamesAreSpelled, PlansHaveCounts, PlansHaveNames, PosesAreTwoForC, ProgramsHaveLines, RowsAreNamed, SensorsAreTwoForC, TablesHaveCounts}
use Rattle.plan_document.proofs.PlanLaws.{own_place}
use Rattle.plan_document.proofs.PlanRows.{are_apart, impossible}
use Rattle.plan_document.proofs.Standing.{as_many, flat_at, mapped, moved, name_of, named_at, number_below, numbered_at, own_number, same_number, zipped}
use Rattle.plan_document.proofs.FaultLines.{names_faults}
use Rattle.plan_document.proofs.StepLines.{call_line, run_line, run_names, wait_still, zone_line}
use Rattle.plan_document.proofs.Worded.{named_bits}

-- ---- counts

-- what all rows have is as much as the sum of what each has
pub summed : {X A : Type 0} (g : X → List A) (many : X → ℕ) → ((x : X) → length (g x) ≡ many x) → (xs : List X) → length (flat_map g xs) ≡ sum (map many xs)
summed {X} {A} g many same xs = by xs ∙ sym (sum-map many xs)
  where
    by : (xs : List X) → length (flat_map g xs) ≡ sum_by many xs
    by [] = refl
    by (x ∷ xs) = length-append (g x) (flat_map g xs) ∙ rw (same x, by xs) (sym (sum_by-cons many x xs))

place_total : (machines : List MachineRow) → length (place_names machines) ≡ sum (map (λ row. length row.places.items) machines)
place_total machines = summed places_in (λ row. length row.places.items) (λ row. length-map row.places.items string_bytes) machines

pose_total : (machines : List MachineRow) → length (pose_names machines) ≡ sum (map (λ row. length row.poses.items) machines)
pose_total machines =
    summed (λ (row : MachineRow). names_in row.poses.items) (λ row. length row.poses.items) (λ row. length-map row.poses.items (λ (p : PoseRow). string_bytes p.name)) machines

place_row_total : (machines : List MachineRow) → length (place_rows machines) ≡ length (place_names machines)
place_row_total machines =
    as_many (λ (r : ℕ × MachineRow). ends_in r.0 r.1) places_in
    (λ k row. length-map row.places.items (λ (name : String Global). place_of k row (string_bytes name)) ∙ sym (length-map row.places.items string_bytes)) 0 machines

-- as many names for C as names
c_total : (machines : List MachineRow) → length (identifiers machines) ≡ length (pose_names machines)
c_total machines =
    summed (λ (row : MachineRow). identifiers_in (string_bytes row.name) row.poses.items) (λ row. length row.poses.items)
    (λ row. length-map row.poses.items (λ (p : PoseRow). identifier (string_bytes row.name) (string_bytes p.name))) machines
    ∙ sym (pose_total machines)

sensor_total : (machines : List MachineRow) → length (sensor_identifiers machines) ≡ length (flat_map sensors_in machines)
sensor_total machines =
    summed sensor_identifiers_in (λ (row : MachineRow). length row.sensors.items)
    (λ row. length-map row.sensors.items (λ (n : String Global). identifier (string_bytes row.name) (string_bytes n))) machines
    ∙ sym (summed sensors_in (λ (row : MachineRow). length row.sensors.items) (λ row. length-map row.sensors.items string_bytes) machines)

all_pose_total : (machines : List MachineRow) → length (all_poses machines) ≡ length (pose_names machines)
all_pose_total machines =
    as_many (λ (r : ℕ × MachineRow). numbered_poses r.0 r.1.poses.items) (λ (row : MachineRow). names_in row.poses.items)
    (λ k row. length-map {B = ℕ × PoseRow} row.poses.items (λ (p : PoseRow). (k, p)) ∙ sym (length-map row.poses.items (λ (p : PoseRow). string_bytes p.name))) 0 machines

counts_of : (d : Document) (p : ProgrammedPlan) → IsPlanOf d p → TablesHaveCounts d p
counts_of d p is = record {
  machines = is.named.machines;
  zones = AllZip-long (IsZoneOf p.named.machines p.named.places) d.zones.items p.named.plan.zones is.named.zones;
  places = ap length is.named.places ∙ place_row_total d.machines.items ∙ place_total d.machines.items;
  poses =
      AllZip-long (IsPoseOf p.named.zones) (all_poses d.machines.items) p.named.plan.poses is.named.poses
      ∙ all_pose_total d.machines.items
      ∙ pose_total d.machines.items;
  programs = ap length is.programs ∙ length-map p.steps.items (λ s. calls_of s.items) ∙ steps;
  sensors = ap length is.sensors ∙ length-map d.machines.items sensors_in;
  steps = steps;
  motors = AllZip-long (IsMotorOf p.named) d.motors.items p.motors.motors.items is.motors.motors;
  hazards = AllZip-long (IsHazardOf p.motors.names) d.hazards.items p.motors.hazards.items is.motors.hazards;
}
  where
    steps : length p.steps.items ≡ length d.machines.items
    steps =
        sym (length-map p.steps.items (λ s. s.items))
        ∙ AllZip-long (IsProgramOf p.named p.motors) (numbered d.machines.items) (map (λ s. s.items) p.steps.items) is.steps
        ∙ length-enumerate_from 0 d.machines.items

pub counted : PlansHaveCounts
counted d p is = (
  all,
  record {
    machines = ap length is.named.named_machines ∙ length-map d.machines.items (λ (r : MachineRow). string_bytes r.name) ∙ sym all.machines;
    zones = ap length is.named.named_zones ∙ length-map d.zones.items (λ (r : ZoneRow). string_bytes r.name) ∙ sym all.zones;
    spaces = ap length is.named.named_spaces ∙ length-map d.zones.items space_name ∙ sym all.zones;
    places = ap length is.named.named_places ∙ place_total d.machines.items ∙ sym all.places;
    poses = ap length is.named.named_poses ∙ pose_total d.machines.items ∙ sym all.poses;
    motors = ap length is.motors.named_motors ∙ length-map d.motors.items (λ (r : MotorRow). string_bytes r.name) ∙ sym all.motors;
    hazards = ap length is.motors.named_hazards ∙ length-map d.hazards.items (λ (r : HazardRow). string_bytes r.name) ∙ sym all.hazards;
  },
)
  where
    all : TablesHaveCounts d p
    all = counts_of d p is

-- ---- names

rows_named : (d : Document) (p : ProgrammedPlan) → IsPlanOf d p → RowsAreNamed d p
rows_named d p is = record {
  machines = λ i row here. named_at (λ (r : MachineRow). string_bytes r.name) d.machines.items p.named.machines i row is.named.named_machines here;
  places = λ i nth row name here named. ap (λ (o : Option ℕ). is_some o) (own_place p.named.places d.machines.items is.named.distinct_places is.named.named_places i row here nth name named);
  motors = λ i row here. named_at (λ (r : MotorRow). string_bytes r.name) d.motors.items p.motors.names i row is.motors.named_motors here;
  hazards = λ i row here. named_at (λ (r : HazardRow). string_bytes r.name) d.hazards.items p.motors.hazard_names i row is.motors.named_hazards here;
  sensors = λ i k row name here nth. (
    sensors_in row,
    moved p.sensors.items (sensor_names d.machines.items) i i (sensors_in row) is.sensors refl (mapped sensors_in d.machines.items i row here),
    named_at string_bytes row.sensors.items (sensors_in row) k name refl nth,
  );
}

-- each name passes the test that all pass
passes : (test : Text → Bool) (names : List Text) (i : ℕ) → list_all test names ≡ true → i < length names → test (name_in names i) ≡ true
passes test names i all within = by (test (name_in names i)) refl
  where
    by : (b : Bool) → test (name_in names i) ≡ b → test (name_in names i) ≡ true
    by true is = is
    by false is = absurd (impossible (sym (list_all_at test names i [] within is) ∙ all))

not_true : (b : Bool) → not b ≡ true → b ≡ false
not_true true e = absurd (impossible e)
not_true false e = refl

spelled : (d : Document) (p : ProgrammedPlan) → IsPlanOf d p → (number : ℕ) → NamesAreSpelled p number
spelled d p is number = record {
  machine = passes is_name p.named.machines number is.named.spelled_machines;
  free = λ within. not_true (is_reserved (name_in p.named.machines number)) (passes is_free p.named.machines number is.named.free within);
  zone = passes is_name p.named.zones number is.named.spelled_zones;
  place = passes is_name p.named.places number is.named.spelled_places;
  pose = passes is_name p.named.poses number is.named.spelled_poses;
  motor = passes is_name p.motors.names number is.motors.spelled_motors;
  hazard = passes is_title p.motors.hazard_names number is.motors.spelled_hazards;
}

pub named : PlansHaveNames
named d p is = (
  rows_named d p is,
  spelled d p is,
  λ i j. record {
    machines = are_apart p.named.machines is.named.distinct_machines i j;
    zones = are_apart p.named.zones is.named.distinct_zones i j;
    taken = are_apart (taken_names d.zones.items) is.named.distinct_spaces i j;
    places = are_apart p.named.places is.named.distinct_places i j;
    motors = are_apart p.motors.names is.motors.distinct_motors i j;
    hazards = are_apart p.motors.hazard_names is.motors.distinct_hazards i j;
  },
)

-- a pose's name for C has the pose's number
c_number : (machines : List MachineRow) → AreDistinct (identifiers machines) → (i : ℕ) (row : MachineRow) (here : StandsAt machines i row) (k : ℕ) (pose : PoseRow) → StandsAt row.poses.items k pose
    → number_in (identifiers machines) (identifier (string_bytes row.name) (string_bytes pose.name)) ≡ Some (length (pose_names here.before) + k)
c_number machines distinct i row here k pose nth =
    own_number (identifiers machines) _ _ distinct
    (moved (identifiers machines) (identifiers machines) _ _ (identifier (string_bytes row.name) (string_bytes pose.name)) refl
    (ap (λ j. j + k) (c_total here.before))
    (flat_at (λ (r : MachineRow). identifiers_in (string_bytes r.name) r.poses.items) machines i row here k (identifier (string_bytes row.name) (string_bytes pose.name))
    (mapped (λ (p : PoseRow). identifier (string_bytes row.name) (string_bytes p.name)) row.poses.items k pose nth)))

pub two_for_c : PosesAreTwoForC
two_for_c d n is i j a b here there k l p q one other same =
    same_number _ _
    (sym (c_number d.machines.items is.distinct_poses i a here k p one)
    ∙ ap (number_in (identifiers d.machines.items)) same
    ∙ c_number d.machines.items is.distinct_poses j b there l q other)

-- and so has a sensor's
sensor_number : (machines : List MachineRow) → AreDistinct (sensor_identifiers machines) → (i : ℕ) (row : MachineRow) (here : StandsAt machines i row) (k : ℕ) (name : String Global) → StandsAt row.sensors.items k name
    → number_in (sensor_identifiers machines) (identifier (string_bytes row.name) (string_bytes name)) ≡ Some (length (flat_map sensors_in here.before) + k)
sensor_number machines distinct i row here k name nth =
    own_number (sensor_identifiers machines) _ _ distinct
    (moved (sensor_identifiers machines) (sensor_identifiers machines) _ _ (identifier (string_bytes row.name) (string_bytes name)) refl
    (ap (λ j. j + k) (sensor_total here.before))
    (flat_at sensor_identifiers_in machines i row here k (identifier (string_bytes row.name) (string_bytes name))
    (mapped (λ (n : String Global). identifier (string_bytes row.name) (string_bytes n)) row.sensors.items k name nth)))

pub two_sensors_for_c : SensorsAreTwoForC
two_sensors_for_c d p is i j a b here there k l s t one other same =
    same_number _ _
    (sym (sensor_number d.machines.items is.distinct_sensors i a here k s one)
    ∙ ap (number_in (sensor_identifiers d.machines.items)) same
    ∙ sensor_number d.machines.items is.distinct_sensors j b there l t other)

-- ---- programs

-- the text of a call is the verb and the name that ask for it
told_by : (reads : CallsAreToldAsRead) (own : OwnPosesComeFirst) (n : Named) (machine : ℕ) (verb : Verb) (name : Text) (c : Call) → own_call n machine verb name ≡ Some c → call_text n c ≡ words verb name
told_by reads own n machine verbs.Claim name c e = reads.same n machine verbs.Claim name c e
told_by reads own n machine verbs.Give name c e = reads.same n machine verbs.Give name c e
told_by reads own n machine verbs.Yield name c e = reads.same n machine verbs.Yield name c e
told_by reads own n machine verbs.Take name c e = reads.same n machine verbs.Take name c e
told_by reads own n machine verbs.Release name c e = reads.same n machine verbs.Release name c e
told_by reads own n machine verbs.Inquire name c e = reads.same n machine verbs.Inquire name c e
told_by reads own n machine verbs.Advance name c e = reads.same n machine verbs.Advance name c e
told_by reads own n machine verbs.Pose name c e = by (own_pose n machine name) refl
  where
    by : (o : Option ℕ) → own_pose n machine name ≡ o → call_text n c ≡ words verbs.Pose name
    by None is = let h : None ≡ Some c = sym (ap (option_map SetPose) is) ∙ e in absurd (cc)
    by (Some pose) is =
        let h : Some (SetPose pose) ≡ Some c = sym (ap (option_map SetPose) is) ∙ e in
        reads.same n machine verbs.Pose name c (own.first n machine pose name is ∙ h)

-- a call that is asked by another verb than to inquire is no inquiry
from_map : (f : ℕ → Call) (o : Option ℕ) (c : Call) → option_map f o ≡ Some c → ((k : ℕ) → is_line (f k) ≡ true) → is_line c ≡ true
from_map f None c e all = absurd (cc)
from_map f (Some k) c e all = let same : f k ≡ c = cc in ap is_line (sym same) ∙ all k

line_of : (n : Named) (machine : ℕ) (verb : Verb) (name : Text) (c : Call) → own_call n machine verb name ≡ Some c → verb ≢ verbs.Inquire → is_line c ≡ true
line_of n machine verbs.Claim name c e asks = from_map Claim (number_in n.zones name) c e (λ k. refl)
line_of n machine verbs.Give name c e asks = from_map Give (number_in n.zones name) c e (λ k. refl)
line_of n machine verbs.Yield name c e asks = from_map Yield (number_in n.zones name) c e (λ k. refl)
line_of n machine verbs.Take name c e asks = from_map Take (number_in n.zones name) c e (λ k. refl)
line_of n machine verbs.Release name c e asks = from_map Release (number_in n.zones name) c e (λ k. refl)
line_of n machine verbs.Inquire name c e asks = absurd (asks refl)
line_of n machine verbs.Advance name c e asks = from_map Advance (number_in n.places name) c e (λ k. refl)
line_of n machine verbs.Pose name c e asks = from_map SetPose (own_pose n machine name) c e (λ k. refl)

pub lined : CallsAreToldAsRead → OwnPosesComeFirst → ProgramsHaveLines
lined reads own d p is machine row steps here there = (
  record {
    count = AllZip-long (IsStepOf p.named p.motors sensors machine) (map string_bytes row.program.items) steps.items program.steps_are ∙ length-map row.program.items string_bytes;
    text = λ call faults line has.
        let one = call_line p.named p.motors sensors machine line call faults (at (Do call faults) line has) in
        let told = one.1.line_is ∙ sym (told_by reads own p.named machine one.1.verb one.1.name call one.1.call_is) in
        names_faults line one.0 (call_text p.named call) faults told one.2;
    call = λ call faults line has.
        let one = (call_line p.named p.motors sensors machine line call faults (at (Do call faults) line has)).1 in
        line_of p.named machine one.verb one.name call one.call_is one.asks;
    may = λ call faults line has. (call_line p.named p.motors sensors machine line call faults (at (Do call faults) line has)).1.doable;
    zone = λ zone line has.
        let one = zone_line p.named p.motors sensors machine line zone (at (Await zone) line has) in
        one.1 ∙ ap (λ t. codes "await " ++ t) (sym (name_of p.named.zones one.0 zone one.2));
    party = λ zone line has. (zone_line p.named p.motors sensors machine line zone (at (Await zone) line has)).3;
    sensor = λ motors until line has.
        let one = run_line p.named p.motors sensors machine line motors until (at (Run motors until) line has) in
        (one.0, one.2 ∙ ap (λ t. one.0 ++ codes " " ++ t) (sym (name_of sensors one.1 until one.3)));
    bit = λ motors until line has.
        let one = run_line p.named p.motors sensors machine line motors until (at (Run motors until) line has) in
        omega (arith, number_below sensors one.1 until one.3, program.sensors.few);
    own = λ motors until motor line has on. (run_line p.named p.motors sensors machine line motors until (at (Run motors until) line has)).4 motor on;
    named = λ motors until motor names line has is_run.
        named_bits p.motors machine names motors motor (passes is_name p.motors.names motor is.motors.spelled_motors) is.motors.distinct_motors
        (run_names p.named p.motors sensors machine line motors until names (at (Run motors until) line has) is_run);
    still = λ motors until name line has. wait_still p.named p.motors sensors machine line motors until name (at (Run motors until) line has);
  },
  moved p.programs (map (λ s. calls_of s.items) p.steps.items) machine machine (calls_of steps.items) is.programs refl (mapped (λ s. calls_of s.items) p.steps.items machine steps there),
)
  where
    sensors : List Text
    sensors = sensors_in row

    program : IsProgramOf p.named p.motors (machine, row) steps.items
    program =
        zipped (IsProgramOf p.named p.motors) (numbered d.machines.items) (map (λ s. s.items) p.steps.items) machine (machine, row) steps.items is.steps
        (numbered_at d.machines.items machine row here) (mapped (λ s. s.items) p.steps.items machine steps there)

    at : (step : Step) (line : Text) → HasLine row steps.items step line → IsStepOf p.named p.motors sensors machine line step
    at step line has =
        subst (λ t. IsStepOf p.named p.motors sensors machine t step) has.2
        (zipped (IsStepOf p.named p.motors sensors machine) (map string_bytes row.program.items) steps.items has.0 (string_bytes has.1) step program.steps_are (mapped string_bytes row.program.items has.0 has.1 has.3) has.4)

pub all_ask : AllStepsAsk
all_ask steps = record { none = refl; call = λ c faults. refl; zone = λ z. refl; run = λ motors until. refl }
