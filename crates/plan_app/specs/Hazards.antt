-- What `plan check` says of the hazards of a plan.
use Rattle.std.specs.Prelude.{◌≡◌, ℕ, Bool, ◌&&◌, nat_eq, List, [], ◌++◌, codes, flat_map, length, slice_get}
use Rattle.std.specs.Prelude.{true, false, is_none, Option, Some, None, string_bytes, IsTrue, if◌then◌else◌}
use Rattle.std.specs.Prelude.{Result, Ok, Err}
use Rattle.std.specs.List.{AllZip, list_all, range_with_len}
use Rattle.csv_rows.specs.declared.script_end.ScriptFault.{ScriptFault}
use Rattle.plan_types.specs.declared.posture.Posture.TheVariants.{Closed}
use Rattle.plan_types.specs.Same.{same_posture}
use Rattle.plan_rules.specs.declared.state.State.{State}
use Rattle.plan_rules.specs.declared.state.ZoneState.{ZoneState}
use Rattle.plan_rules.specs.State.{is_full, zone_at}
use Rattle.plan_explorer.specs.Programs.{PlanPrograms}
use Rattle.plan_motors.specs.declared.motor.Hazard.{Hazard}
use Rattle.plan_motors.specs.declared.verdict.Verdict.{Verdict}
use Rattle.plan_motors.specs.declared.verdict.Verdict.TheVariants.{Excluded, ByPoses, Possible}
use Rattle.plan_motors.specs.OfPlan.{motor_at}
use Rattle.plan_motors.specs.Verdict.{is_never}
use Rattle.plan_text.specs.Answers.{posture_word}
use Rattle.plan_text.specs.Named.{Named}
use Rattle.plan_text.specs.Names.{Text, name_in}
use Rattle.plan_document.specs.declared.resolving.ProgrammedPlan.{ProgrammedPlan}
use Rattle.plan_drives.specs.declared.undriven.Undriven.{Undriven}
use Rattle.plan_app.specs.Drives.{AreDrives, drives_text}
use Rattle.plan_app.specs.Going.{way_text}
use Rattle.plan_app.specs.Leads.{IsLeadOf, opening_by}
use Rattle.plan_app.specs.Reports.{names_line, report_text}
use Rattle.plan_app.specs.Rows.{HasEveryRow, rows_line}
use Rattle.plan_app.specs.Words.{counted}
use Rattle.plan_header.specs.Words.{machine_name, zone_name}
use Rattle.plan_picture.specs.Pictures as picture
use Rattle.plan_picture.specs.Pictures.{IsVerdictOf}
use Rattle.plan_app.specs.declared.hazards.Finding.{Finding}
use Rattle.plan_app.specs.declared.hazards.TheConstants.{LARGE, LED, UNKEPT, UNLED}
use Rattle.plan_app.specs.declared.hazards.Report.{Report}
use Rattle.plan_app.specs.declared.hazards.Report.TheVariants.{Kept, Unkept}
use Rattle.plan_app.specs.declared.leads.Lead.{Lead}
use Rattle.plan_app.specs.declared.leads.Lead.TheVariants.{Unsought, Never, Turns, Unfinished}

-- ---- verdicts

abbrev pub IsHazardLead : ℕ → ProgrammedPlan → Option State → Hazard → Verdict → Lead → Type 0
IsHazardLead most plan start h v lead =
    IsLeadOf most plan.named.plan plan.programs (opening_by start v) v (motor_at plan.motors.motors.items h.first)
    (motor_at plan.motors.motors.items h.second) lead

-- what is shown of a hazard: a verdict, and what a search for turns that lead to a state which permits both has found
pub record IsFindingOf (most : ℕ) (plan : ProgrammedPlan) (start : Option State) (h : Hazard) (f : Finding)
    : Type 0 where
  pub verdict : IsVerdictOf plan.named.plan plan.motors.motors.items h f.verdict
  pub lead : IsHazardLead most plan start h f.verdict f.lead

abbrev pub AreFindings : ℕ → ProgrammedPlan → Option State → List Finding → Type 0
AreFindings most plan start findings = AllZip (IsFindingOf most plan start) plan.motors.hazards.items findings

abbrev pub is_kept : Finding → Bool
is_kept f = is_never f.verdict

abbrev pub are_kept : List Finding → Bool
are_kept findings = list_all is_kept findings

-- ---- the state that permits both: zones that aren't free and closed, and full places

abbrev pub owner_words : Named → Option ℕ → Text
owner_words n None = codes " free, "
owner_words n (Some machine) = codes " held by " ++ (machine_name n machine ++ codes ", ")

abbrev pub zone_words : Named → ℕ → ZoneState → Text
zone_words n zone v = codes "; " ++ (zone_name n zone ++ (owner_words n v.owner ++ posture_word v.posture))

-- a zone is free and closed
abbrev pub rests : ZoneState → Bool
rests v = is_none v.owner && same_posture v.posture Closed

abbrev pub zone_part : Named → State → ℕ → Text
zone_part n s zone = if rests (zone_at s zone) then [] else zone_words n zone (zone_at s zone)

abbrev pub place_words : Named → ℕ → Text
place_words n place = codes "; " ++ (name_in n.places place ++ codes " full")

abbrev pub place_part : Named → State → ℕ → Text
place_part n s place = if is_full s place then place_words n place else []

abbrev pub state_words : Named → State → Text
state_words n s =
    flat_map (zone_part n s) (range_with_len 0 (length n.zones))
    ++ flat_map (place_part n s) (range_with_len 0 (length n.places))

abbrev pub verdict_words : Named → Verdict → Text
verdict_words n (Excluded cause) = picture.verdict_words n (Excluded cause)
verdict_words n (ByPoses machine) = picture.verdict_words n (ByPoses machine)
verdict_words n (Possible s) = UNKEPT.now ++ state_words n s

-- `start 10`: a digit for each place, as in scripts
abbrev pub digit_of : State → ℕ → Text
digit_of s place = if is_full s place then codes "1" else codes "0"

abbrev pub start_digits : Named → State → Text
start_digits n s = codes "start " ++ flat_map (digit_of s) (range_with_len 0 (length n.places))

abbrev pub start_words : Named → State → Text
start_words n s = if nat_eq (length n.places) 0 then codes "the start" else start_digits n s

-- ---- whether turns lead to it

abbrev pub unsought_line : Named → Verdict → Text
unsought_line n v = verdict_words n v ++ codes "\n"

abbrev pub unled_line : Named → State → Verdict → Text
unled_line n begun v =
    verdict_words n v ++ (UNLED.now ++ (start_words n begun ++ codes "\n"))

-- there are more situations than are explored
abbrev pub limit_words : ℕ → Text
limit_words limit = LARGE.now ++ (counted limit (codes "situation") ++ codes "\n")

abbrev pub large_line : Named → State → Verdict → ℕ → ℕ → Text
large_line n begun v limit turns =
    verdict_words n v ++ (UNLED.now ++ (start_words n begun ++ (codes " in fewer than "
    ++ (counted turns (codes "turn") ++ limit_words limit))))

abbrev pub at_once_line : Named → State → Text
at_once_line n begun = LED.now ++ (start_words n begun ++ codes " permits both\n")

-- what the turns ask, and are answered
abbrev pub calls_text : Named → PlanPrograms → State → List ℕ → Text
calls_text n ps begun turns =
    (LED.now ++ codes "from ") ++ (start_words n begun
    ++ (codes " these calls permit both\n" ++ way_text n ps begun turns))

-- the opening itself permits both if no turns are needed
abbrev pub led_text : Named → PlanPrograms → State → List ℕ → Text
led_text n ps begun turns =
    if nat_eq (length turns) 0 then at_once_line n begun else calls_text n ps begun turns

abbrev pub lead_text : Named → PlanPrograms → State → Verdict → Lead → Text
lead_text n ps begun v Unsought = unsought_line n v
lead_text n ps begun v Never = unled_line n begun v
lead_text n ps begun v (Turns turns) = led_text n ps begun turns.items
lead_text n ps begun v (Unfinished limit turns) = large_line n begun v limit turns

-- ---- lines

-- `arm crushed: kept apart by interior`
abbrev pub finding_line : Named → PlanPrograms → List Text → Option State → ℕ → Finding → Text
finding_line n ps titles start k f =
    (name_in titles k ++ codes ": ") ++ lead_text n ps (opening_by start f.verdict) f.verdict f.lead

abbrev pub line_if : Named → PlanPrograms → List Text → Option State → ℕ → Option Finding → Text
line_if n ps titles start k None = []
line_if n ps titles start k (Some f) = finding_line n ps titles start k f

abbrev pub hazard_line : Named → PlanPrograms → List Text → Option State → List Finding → ℕ → Text
hazard_line n ps titles start findings k = line_if n ps titles start k (slice_get findings k)

abbrev pub hazard_lines : Named → PlanPrograms → List Text → Option State → List Finding → Text
hazard_lines n ps titles start findings =
    flat_map (hazard_line n ps titles start findings) (range_with_len 0 (length titles))

-- of a plan without motors nothing
unfoldable pub motors_text : Named → PlanPrograms → List Text → List Text → Option State → List Finding → Text
motors_text n ps motors titles start findings =
    if nat_eq (length motors) 0 then []
    else names_line (codes "motor") motors ++ hazard_lines n ps titles start findings

-- ---- the report

-- whether each call that is done has its row, what is said of the motors that programs run, and of each hazard
abbrev pub whole_report : ProgrammedPlan → Option State → Bool → List (Option Undriven) → List Finding → Text
whole_report plan start every drives findings =
    report_text plan.named ++ (rows_line every
    ++ (drives_text plan.named plan.motors.names plan.steps.items drives
    ++ motors_text plan.named plan.programs plan.motors.names plan.motors.hazard_names start findings))

-- whether each call that is done has its row, as far as that is known; what programs run that isn't permitted; what is
-- shown of each hazard, with turns from the start if there is one; and whether nothing is wrong: all motors are kept
-- apart that have to be, and each is permitted where its program runs it
pub record TellsReport (most : ℕ) (plan : ProgrammedPlan) (start : Option State) (kept : Bool) (text : Text)
    : Type 0 where
  pub findings : List Finding
  pub are : AreFindings most plan start findings
  pub drives : List (Option Undriven)
  pub are_drives : AreDrives plan drives
  pub right : (are_kept findings && list_all is_none drives) ≡ kept
  pub every : Bool
  pub rows : IsTrue every → HasEveryRow plan.named.plan
  pub told : text ≡ whole_report plan start every drives findings

abbrev pub IsReport : ℕ → ProgrammedPlan → Option State → Report → Type 0
IsReport most plan start (Kept text) = TellsReport most plan start true (string_bytes text)
IsReport most plan start (Unkept text) = TellsReport most plan start false (string_bytes text)

-- the start of a script, if it has one
abbrev pub start_if : Result State ScriptFault → Option State
start_if (Ok s) = Some s
start_if (Err fault) = None
