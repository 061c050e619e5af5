-- Laws of what plans say of their documents: how many rows each table has, which names they have, and each program.
use Rattle.std.specs.Prelude.{◌≡◌, ◌≢◌, ◌↔◌, ℕ, ◌<◌, ◌+◌, true, false, List, [], ◌∷◌, ◌++◌, codes, length, map, sum}
use Rattle.std.specs.Prelude.{String, string_bytes, is_some, IsTrue}
use Rattle.std.specs.declared.alloc.Global.{Global}
use Rattle.std.specs.List.{flat_map}
use Rattle.plan_types.specs.declared.call.Call.{Call}
use Rattle.plan_types.specs.declared.call.Call.TheVariants.{Inquire}
use Rattle.plan_types.specs.Table.{is_party, place_count, pose_count, zone_count}
use Rattle.plan_motors.specs.OfPlan.{motor_at}
use Rattle.plan_drives.specs.Program.{has_bit}
use Rattle.plan_controller.specs.declared.faults.Faults.{Faults}
use Rattle.plan_controller.specs.declared.faults.Mendable.{Mendable}
use Rattle.plan_controller.specs.declared.step.Step.{Step}
use Rattle.plan_controller.specs.declared.step.Step.TheVariants.{Do, Await, Run}
use Rattle.plan_controller.specs.Faults.{has, no_faults}
use Rattle.plan_text.specs.Calls.{call_text}
use Rattle.plan_text.specs.Named.{Named}
use Rattle.plan_text.specs.Names.{Text, is_name, is_reserved, name_in, number_in}
use Rattle.plan_document.specs.declared.document.Document.{Document}
use Rattle.plan_document.specs.declared.document.HazardRow.{HazardRow}
use Rattle.plan_document.specs.declared.document.MachineRow.{MachineRow}
use Rattle.plan_document.specs.declared.document.MotorRow.{MotorRow}
use Rattle.plan_document.specs.declared.document.PoseRow.{PoseRow}
use Rattle.plan_document.specs.declared.motors.NamedMotors.{NamedMotors}
use Rattle.plan_document.specs.declared.resolving.ProgrammedPlan.{ProgrammedPlan}
use Rattle.plan_document.specs.Laws.{is_line}
use Rattle.plan_document.specs.Names.{is_title, pose_names, sensors_in, taken_names}
use Rattle.plan_document.specs.PlanLaws.{StandsAt}
use Rattle.plan_document.specs.Refusals.{fault_word}
use Rattle.plan_document.specs.Saying.{IsNamedPlanOf, IsPlanOf, calls_of, may_be_done}

-- ---- counts

-- each table has the rows of the document, and no others
pub record TablesHaveCounts (d : Document) (p : ProgrammedPlan) : Type 0 where
  pub machines : p.named.plan.machines ≡ length d.machines.items
  pub zones : zone_count p.named.plan ≡ length d.zones.items
  pub places : place_count p.named.plan ≡ sum (map (λ row. length row.places.items) d.machines.items)
  pub poses : pose_count p.named.plan ≡ sum (map (λ row. length row.poses.items) d.machines.items)
  pub programs : length p.programs ≡ length d.machines.items
  pub sensors : length p.sensors.items ≡ length d.machines.items
  pub steps : length p.steps.items ≡ length d.machines.items
  pub motors : length p.motors.motors.items ≡ length d.motors.items
  pub hazards : length p.motors.hazards.items ≡ length d.hazards.items

-- and each row of a table has a name
pub record NamesHaveCounts (p : ProgrammedPlan) : Type 0 where
  pub machines : length p.named.machines ≡ p.named.plan.machines
  pub zones : length p.named.zones ≡ zone_count p.named.plan
  pub spaces : length p.named.spaces ≡ zone_count p.named.plan
  pub places : length p.named.places ≡ place_count p.named.plan
  pub poses : length p.named.poses ≡ pose_count p.named.plan
  pub motors : length p.motors.names ≡ length p.motors.motors.items
  pub hazards : length p.motors.hazard_names ≡ length p.motors.hazards.items

abbrev pub PlansHaveCounts : Type 0
PlansHaveCounts = (d : Document) (p : ProgrammedPlan) → IsPlanOf d p → TablesHaveCounts d p × NamesHaveCounts p

-- ---- names

-- the rows that `PlanLaws` doesn't name
pub record RowsAreNamed (d : Document) (p : ProgrammedPlan) : Type 0 where
  pub machines : (machine : ℕ) (row : MachineRow) → StandsAt d.machines.items machine row
      → name_in p.named.machines machine ≡ string_bytes row.name
  pub places : (machine number : ℕ) (row : MachineRow) (name : String Global) → StandsAt d.machines.items machine row
      → StandsAt row.places.items number name → IsTrue (is_some (number_in p.named.places (string_bytes name)))
  pub motors : (motor : ℕ) (row : MotorRow) → StandsAt d.motors.items motor row
      → name_in p.motors.names motor ≡ string_bytes row.name
  pub hazards : (hazard : ℕ) (row : HazardRow) → StandsAt d.hazards.items hazard row
      → name_in p.motors.hazard_names hazard ≡ string_bytes row.name
  pub sensors : (machine sensor : ℕ) (row : MachineRow) (name : String Global) → StandsAt d.machines.items machine row
      → StandsAt row.sensors.items sensor name
      → (names : List Text) × StandsAt p.sensors.items machine names × (name_in names sensor ≡ string_bytes name)

-- each name is one, whatever its number
pub record NamesAreSpelled (p : ProgrammedPlan) (number : ℕ) : Type 0 where
  pub machine : number < length p.named.machines → is_name (name_in p.named.machines number) ≡ true
  pub free : number < length p.named.machines → is_reserved (name_in p.named.machines number) ≡ false
  pub zone : number < length p.named.zones → is_name (name_in p.named.zones number) ≡ true
  pub place : number < length p.named.places → is_name (name_in p.named.places number) ≡ true
  pub pose : number < length p.named.poses → is_name (name_in p.named.poses number) ≡ true
  pub motor : number < length p.motors.names → is_name (name_in p.motors.names number) ≡ true
  pub hazard : number < length p.motors.hazard_names → is_title (name_in p.motors.hazard_names number) ≡ true

-- and no two of one kind are the same
abbrev pub AreTwoNames : List Text → ℕ → ℕ → Type 0
AreTwoNames names i j = i < length names → j < length names → name_in names i ≡ name_in names j → i ≡ j

-- of zones those of spaces are told apart, too
pub record NamesAreTwo (d : Document) (p : ProgrammedPlan) (i j : ℕ) : Type 0 where
  pub machines : AreTwoNames p.named.machines i j
  pub zones : AreTwoNames p.named.zones i j
  pub taken : AreTwoNames (taken_names d.zones.items) i j
  pub places : AreTwoNames p.named.places i j
  pub motors : AreTwoNames p.motors.names i j
  pub hazards : AreTwoNames p.motors.hazard_names i j

abbrev pub PlansHaveNames : Type 0
PlansHaveNames =
    (d : Document) (p : ProgrammedPlan) → IsPlanOf d p
    → RowsAreNamed d p × ((number : ℕ) → NamesAreSpelled p number) × ((i j : ℕ) → NamesAreTwo d p i j)

-- two poses, of one machine or of two, that have one name for C are one pose
abbrev pub PosesAreTwoForC : Type 0
PosesAreTwoForC =
    (d : Document) (n : Named) → IsNamedPlanOf d n → (i j : ℕ) (a b : MachineRow)
    → (here : StandsAt d.machines.items i a) (there : StandsAt d.machines.items j b) → (k l : ℕ) (p q : PoseRow)
    → StandsAt a.poses.items k p → StandsAt b.poses.items l q
    → string_bytes a.name ++ codes "_" ++ string_bytes p.name ≡ string_bytes b.name ++ codes "_" ++ string_bytes q.name
    → length (pose_names here.before) + k ≡ length (pose_names there.before) + l

-- two sensors, too
abbrev pub SensorsAreTwoForC : Type 0
SensorsAreTwoForC =
    (d : Document) (p : ProgrammedPlan) → IsPlanOf d p → (i j : ℕ) (a b : MachineRow)
    → (here : StandsAt d.machines.items i a) (there : StandsAt d.machines.items j b) → (k l : ℕ) (s t : String Global)
    → StandsAt a.sensors.items k s → StandsAt b.sensors.items l t
    → string_bytes a.name ++ codes "_" ++ string_bytes s ≡ string_bytes b.name ++ codes "_" ++ string_bytes t
    → length (flat_map sensors_in here.before) + k ≡ length (flat_map sensors_in there.before) + l

-- ---- programs

-- a step has its line, whatever the number of both
abbrev pub HasLine : MachineRow → List Step → Step → Text → Type 0
HasLine row steps step text =
    (number : ℕ) × (line : String Global) × (string_bytes line ≡ text)
    × StandsAt row.program.items number line × StandsAt steps number step

-- a name stands in a text as a word: before it and after it is a blank, or the text has no more
abbrev pub IsWordOf : Text → Text → Type 0
IsWordOf text name =
    (before after : Text)
    × (codes " " ++ text ++ codes " " ≡ before ++ codes " " ++ name ++ codes " " ++ after)

-- a line is a call's text alone, or after it the faults stand as words, and no other refusal does
pub record NamesFaults (line call : Text) (faults : Faults) : Type 0 where
  pub none : faults ≡ no_faults → line ≡ call
  pub some : faults ≢ no_faults → (words : Text) × (line ≡ call ++ codes " or stop on " ++ words)
      × ((fault : Mendable) → (has faults fault ≡ true) ↔ IsWordOf words (fault_word fault))

-- a program has a step for each line
pub record ProgramHasLines (n : Named) (m : NamedMotors) (machine : ℕ) (row : MachineRow) (steps : List Step) : Type 0
  where
    pub count : length steps ≡ length row.program.items
    -- the text of a call is the line, up to its faults; it is no inquiry, and isn't refused in every state
    pub text : (call : Call) (faults : Faults) (line : Text) → HasLine row steps (Do call faults) line
        → NamesFaults line (call_text n call) faults
    pub call : (call : Call) (faults : Faults) (line : Text) → HasLine row steps (Do call faults) line
        → is_line call ≡ true
    pub may : (call : Call) (faults : Faults) (line : Text) → HasLine row steps (Do call faults) line
        → may_be_done n.plan machine call ≡ true
    -- a zone that is waited for is named, and may be the machine's
    pub zone : (zone : ℕ) (line : Text) → HasLine row steps (Await zone) line
        → line ≡ codes "await " ++ name_in n.zones zone
    pub party : (zone : ℕ) (line : Text) → HasLine row steps (Await zone) line → is_party n.plan machine zone ≡ true
    -- a run, or a wait, ends with a sensor of the machine, and has no motors but the machine's
    pub sensor : (motors until : ℕ) (line : Text) → HasLine row steps (Run motors until) line
        → (before : Text) × (line ≡ before ++ codes " " ++ name_in (sensors_in row) until)
    pub bit : (motors until : ℕ) (line : Text) → HasLine row steps (Run motors until) line → until < 32
    pub own : (motors until motor : ℕ) (line : Text) → HasLine row steps (Run motors until) line
        → has_bit motors motor ≡ true → (motor_at m.motors.items motor).machine ≡ machine
    -- which are those that the line of a run names, whatever their numbers and wherever it names them; a wait has none
    pub named : (motors until motor : ℕ) (names line : Text) → HasLine row steps (Run motors until) line
        → line ≡ codes "run " ++ names ++ codes " until " ++ name_in (sensors_in row) until
        → (has_bit motors motor ≡ true) ↔ ((motor < length m.names) × IsWordOf names (name_in m.names motor))
    pub still : (motors until : ℕ) (name line : Text) → HasLine row steps (Run motors until) line
        → line ≡ codes "await " ++ name → motors ≡ 0

-- what steps ask, one after another: each call as it is, of each wait for a zone an inquiry about this zone
pub record StepsAsk (steps : List Step) : Type 0 where
  pub none : calls_of [] ≡ []
  pub call : (call : Call) (faults : Faults) → calls_of (Do call faults ∷ steps) ≡ call ∷ calls_of steps
  pub zone : (zone : ℕ) → calls_of (Await zone ∷ steps) ≡ Inquire zone ∷ calls_of steps
  pub run : (motors until : ℕ) → calls_of (Run motors until ∷ steps) ≡ calls_of steps

abbrev pub AllStepsAsk : Type 0
AllStepsAsk = (steps : List Step) → StepsAsk steps

-- the program of each machine, whatever its number; what it asks is what its steps do
abbrev pub ProgramsHaveLines : Type 0
ProgramsHaveLines =
    (d : Document) (p : ProgrammedPlan) → IsPlanOf d p → (machine : ℕ) (row : MachineRow) (steps : _)
    → StandsAt d.machines.items machine row → StandsAt p.steps.items machine steps
    → ProgramHasLines p.named p.motors machine row steps.items × StandsAt p.programs machine (calls_of steps.items)
