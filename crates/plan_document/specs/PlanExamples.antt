-- What it means that a plan is a document's, in examples: what each row must have, and what no plan may lack.
use Rattle.std.specs.Prelude.{◌≡◌, ◌≢◌, ℕ, ◌<◌, true, false, List, [], ◌∷◌, ◌++◌, codes, get_or, length, map}
use Rattle.std.specs.Prelude.{String, string_bytes, Some, None}
use Rattle.std.specs.declared.alloc.Global.{Global}
use Rattle.plan_types.specs.declared.call.Call.{Call}
use Rattle.plan_types.specs.declared.call.Call.TheVariants.{Claim, Give, Yield, Take, Release, SetPose}
use Rattle.plan_types.specs.declared.posture.Posture.TheVariants.{Closed, OpenIn, Moving}
use Rattle.plan_types.specs.Examples.{lift_table}
use Rattle.plan_types.specs.declared.answer.Answer.TheVariants.{Done, Refused}
use Rattle.plan_types.specs.declared.answer.Refusal.TheVariants.{NotParty, NoPose}
use Rattle.plan_types.specs.declared.table.PlanPose.{PlanPose}
use Rattle.plan_types.specs.declared.table.PlanZone.{PlanZone}
use Rattle.plan_types.specs.declared.table.Way.{Way}
use Rattle.plan_rules.specs.declared.state.State.{State}
use Rattle.plan_rules.specs.Reply.{reply}
use Rattle.plan_rules.specs.Sound.{IsSound}
use Rattle.plan_text.specs.Answers.{posture_of}
use Rattle.plan_text.specs.Named.{Named}
use Rattle.plan_text.specs.Names.{Text, name_in}
use Rattle.plan_document.specs.declared.document.Document.{Document}
use Rattle.plan_document.specs.declared.document.MachineRow.{MachineRow}
use Rattle.plan_document.specs.declared.document.PoseRow.{PoseRow}
use Rattle.plan_document.specs.declared.document.PostureRow.{PostureRow}
use Rattle.plan_document.specs.declared.document.WayRow.{WayRow}
use Rattle.plan_document.specs.declared.document.ZoneRow.{ZoneRow}
use Rattle.plan_document.specs.declared.resolving.ProgrammedPlan.{ProgrammedPlan}
use Rattle.plan_document.specs.Laws.{AcceptedLinesAreTheirs, RefusedLinesAreNeverDone}
use Rattle.plan_document.specs.NameLaws.{NamedPlansHaveWords, NamesAreWords}
use Rattle.plan_document.specs.Names.{AreDistinct, AreNames, identifiers, names_in, space_name, taken_names}
use Rattle.plan_document.specs.Postures.{AreGiven, given}
use Rattle.plan_document.specs.Saying.{IsCallOf, IsNamedPlanOf, IsPlanOf, IsPoseOf, IsProgramOf, IsWayOf, IsZoneOf}
use Rattle.plan_document.specs.Saying.{calls_of, ends_in}
use Rattle.plan_document.specs.WordExamples.{parked}

-- ---- names

-- no two numbers have one name
abbrev pub AreApart : List Text → Type 0
AreApart names = (i j : ℕ) → i < length names → j < length names → name_in names i ≡ name_in names j → i ≡ j

pub record NamesAreTold : Type 0 where
  pub apart : (names : List Text) → AreDistinct names → AreApart names
  pub first : AreNames (codes "Lift" ∷ codes "low" ∷ []) → ⊥
  pub last : AreNames (codes "lift" ∷ codes "low-" ∷ []) → ⊥
  pub empty : AreNames (codes "lift" ∷ [] ∷ []) → ⊥

-- no name of any kind is two words, or has a comma, a quote or an end of a line
pub record AreOneWord (n : Named) : Type 0 where
  pub machines : n.machines ≢ codes "a" ∷ codes "b c" ∷ []
  pub zones : n.zones ≢ codes "a" ∷ codes "b,c" ∷ []
  pub places : n.places ≢ codes "a" ∷ codes "b\n" ∷ []
  pub poses : n.poses ≢ codes "a" ∷ codes "\"b" ∷ []

-- ---- zones

abbrev pub letters : List Text
letters =
    codes "a" ∷ codes "b" ∷ codes "c" ∷ codes "d" ∷ codes "e" ∷ codes "f" ∷ codes "g" ∷ codes "h" ∷ codes "i"
    ∷ codes "j" ∷ []

pub record WaysAreRead : Type 0 where
  pub way : (row : WayRow) (way : Way) → IsWayOf letters (Some row) (Some way)
      → string_bytes row.from ≡ codes "c" → string_bytes row.to ≡ codes "b" → (way.from ≡ 2) × (way.to ≡ 1)
  pub from_nowhere : (row : WayRow) (way : Way) → IsWayOf letters (Some row) (Some way)
      → string_bytes row.from ≢ codes "x"
  pub to_nowhere : (row : WayRow) (way : Way) → IsWayOf letters (Some row) (Some way)
      → string_bytes row.to ≢ codes "x"
  pub way_lost : (row : WayRow) → IsWayOf letters (Some row) None → ⊥
  pub way_added : (way : Way) → IsWayOf letters None (Some way) → ⊥

-- machines have the names a to j, and places the names b and a
abbrev pub IsShared : ZoneRow → PlanZone → Type 0
IsShared row zone = IsZoneOf letters (codes "b" ∷ codes "a" ∷ []) row zone

pub record ZonesAreRead (row : ZoneRow) (zone : PlanZone) : Type 0 where
  pub host : IsShared row zone → string_bytes row.host ≡ codes "d" → zone.host ≡ 3
  pub guest : IsShared row zone → string_bytes row.guest ≡ codes "f" → zone.guest ≡ 5
  pub joins : IsShared row zone → zone.joins ≡ row.joins
  pub no_host : IsShared row zone → string_bytes row.host ≢ codes "x"
  pub no_guest : IsShared row zone → string_bytes row.guest ≢ codes "x"
  pub inward : IsShared row zone → IsWayOf (codes "b" ∷ codes "a" ∷ []) row.inward zone.inward
  pub outward : IsShared row zone → IsWayOf (codes "b" ∷ codes "a" ∷ []) row.outward zone.outward

-- the names that rows take, and those of their spaces: a zone that lists its guests has a name beside theirs
pub record SpacesAreNamed (x y : ZoneRow) (space : String Global) : Type 0 where
  pub listed : x.joins ≡ false → x.space ≡ Some space → y.joins ≡ true
      → taken_names (x ∷ y ∷ []) ≡ string_bytes space ∷ string_bytes x.name ∷ string_bytes y.name ∷ []
  pub apart : x.joins ≡ false → x.space ≡ None → y.joins ≡ false → y.space ≡ None
      → taken_names (x ∷ y ∷ []) ≡ string_bytes x.name ∷ string_bytes y.name ∷ []
  pub of_space : x.space ≡ Some space → space_name x ≡ string_bytes space
  pub own : x.space ≡ None → space_name x ≡ string_bytes x.name

-- ---- poses

-- a row that has these two texts
pub record Gives (row : PostureRow) (zone_name posture_word : Text) : Type 0 where
  pub zone : string_bytes row.zone ≡ zone_name
  pub posture : string_bytes row.posture ≡ posture_word

pub record PosturesAreGiven (a b : PostureRow) : Type 0 where
  -- the last row about a zone, and no other
  pub last : Gives a (codes "c") (codes "closed") → Gives b (codes "c") (codes "openin")
      → given posture_of letters (a ∷ b ∷ []) 2 ≡ Some OpenIn
  pub both : Gives a (codes "c") (codes "closed") → Gives b (codes "d") (codes "openin")
      → given posture_of letters (a ∷ b ∷ []) 2 ≡ Some Closed
  pub none : Gives a (codes "c") (codes "closed") → Gives b (codes "d") (codes "openin")
      → given posture_of letters (a ∷ b ∷ []) 0 ≡ None
  -- up to the tenth zone
  pub tenth : (gives : _) → AreGiven posture_of letters (a ∷ []) gives → Gives a (codes "j") (codes "moving")
      → get_or gives 9 None ≡ Some Moving
  pub ninth : (gives : _) → AreGiven posture_of letters (a ∷ []) gives → Gives a (codes "j") (codes "moving")
      → get_or gives 8 None ≡ None
  pub no_zone : (gives : _) → AreGiven posture_of letters (a ∷ b ∷ []) gives → string_bytes b.zone ≢ codes "x"
  pub no_posture : (gives : _) → AreGiven posture_of letters (a ∷ b ∷ []) gives → string_bytes b.posture ≢ codes "open"

-- a pose of machine 7
pub record PosesAreRead (row : PoseRow) (pose : PlanPose) : Type 0 where
  pub machine : IsPoseOf letters (7, row) pose → pose.machine ≡ 7
  pub after_moving : IsPoseOf letters (7, row) pose → pose.after_moving ≡ row.after_moving
  pub gives : IsPoseOf letters (7, row) pose → AreGiven posture_of letters row.gives.items pose.gives

-- ---- programs

pub record LinesAreRead : Type 0 where
  pub gives : (c : Call) → IsCallOf parked 2 (codes "give above") c → c ≡ Give 1
  pub strangers : (c : Call) → IsCallOf parked 1 (codes "give above") c → ⊥
  pub no_zone : (c : Call) → IsCallOf parked 2 (codes "give attic") c → ⊥
  pub blanks : (c : Call) → IsCallOf parked 2 (codes "give  above") c → ⊥
  pub after_it : (c : Call) → IsCallOf parked 2 (codes "give above ") c → ⊥
  pub no_verb : (c : Call) → IsCallOf parked 2 (codes "Give above") c → ⊥
  pub empty : (c : Call) → IsCallOf parked 2 [] c → ⊥

pub record DocumentsAreMet : Type 0 where
  pub names : NamesAreTold
  pub words : (n : Named) → NamesAreWords n → AreOneWord n
  pub ways : WaysAreRead
  pub zones : (row : ZoneRow) (zone : PlanZone) → ZonesAreRead row zone
  pub spaces : (x y : ZoneRow) (space : String Global) → SpacesAreNamed x y space
  pub postures : (a b : PostureRow) → PosturesAreGiven a b
  pub poses : (row : PoseRow) (pose : PlanPose) → PosesAreRead row pose
  pub lines : LinesAreRead

-- ---- plans

-- what names are, in the plan of each document
pub record PlansHaveNames (d : Document) (n : Named) (is : IsNamedPlanOf d n) : Type 0 where
  pub machines_apart : AreApart n.machines
  pub zones_apart : AreApart n.zones
  pub places_apart : AreApart n.places
  pub poses_apart : AreApart (identifiers d.machines.items)
  pub spaces_apart : AreApart (taken_names d.zones.items)
  pub taken : n.machines ≢ codes "lift" ∷ codes "watch" ∷ []
  pub no_machine : n.machines ≢ codes "lift" ∷ codes "Low" ∷ []
  pub no_zone : n.zones ≢ codes "below" ∷ codes "Above" ∷ []
  pub no_place : n.places ≢ codes "cabin" ∷ codes "at-tic" ∷ []
  pub no_pose : n.poses ≢ codes "open" ∷ codes "9" ∷ []

-- a document of two machines, and two zones
pub record HasTwo (d : Document) (a b : MachineRow) (x y : ZoneRow) : Type 0 where
  pub machines : d.machines.items ≡ a ∷ b ∷ []
  pub zones : d.zones.items ≡ x ∷ y ∷ []

-- what its plan has
pub record PlansHaveRows (d : Document) (a b : MachineRow) (x y : ZoneRow) (n : Named) : Type 0 where
  pub count : n.plan.machines ≡ 2
  pub machines : n.machines ≡ string_bytes a.name ∷ string_bytes b.name ∷ []
  pub zone_names : n.zones ≡ string_bytes x.name ∷ string_bytes y.name ∷ []
  pub space_names : n.spaces ≡ space_name x ∷ space_name y ∷ []
  pub place_names : n.places ≡ map string_bytes a.places.items ++ map string_bytes b.places.items
  pub pose_names : n.poses ≡ names_in a.poses.items ++ names_in b.poses.items
  pub place_rows : n.plan.places ≡ ends_in 0 a ++ ends_in 1 b
  pub zones : (first second : PlanZone) → n.plan.zones ≡ first ∷ second ∷ []
      → IsZoneOf n.machines n.places x first × IsZoneOf n.machines n.places y second
  pub zone_lost : (zone : PlanZone) → n.plan.zones ≢ zone ∷ []
  pub poses : (p q : PoseRow) (first second : PlanPose) → a.poses.items ≡ p ∷ [] → b.poses.items ≡ q ∷ []
      → n.plan.poses ≡ first ∷ second ∷ [] → IsPoseOf n.zones (0, p) first × IsPoseOf n.zones (1, q) second
  pub pose_lost : (p q : PoseRow) (pose : PlanPose) → a.poses.items ≡ p ∷ [] → b.poses.items ≡ q ∷ []
      → n.plan.poses ≢ pose ∷ []

pub record PlansHavePrograms (a b : MachineRow) (p : ProgrammedPlan) : Type 0 where
  pub steps : (first second : _) → p.steps.items ≡ first ∷ second ∷ []
      → IsProgramOf p.named p.motors (0, a) first.items × IsProgramOf p.named p.motors (1, b) second.items
  pub programs : (first second : _) → p.steps.items ≡ first ∷ second ∷ []
      → p.programs ≡ calls_of first.items ∷ calls_of second.items ∷ []
  pub program_lost : (steps : _) → p.steps.items ≢ steps ∷ []

pub record PlansSayRows : Type 0 where
  pub names : (d : Document) (n : Named) (is : IsNamedPlanOf d n) → PlansHaveNames d n is
  pub rows : (d : Document) (a b : MachineRow) (x y : ZoneRow) (n : Named) → HasTwo d a b x y → IsNamedPlanOf d n
      → PlansHaveRows d a b x y n
  pub programs : (d : Document) (a b : MachineRow) (x y : ZoneRow) (p : ProgrammedPlan) → HasTwo d a b x y
      → IsPlanOf d p → PlansHavePrograms a b p
  pub named : (d : Document) (p : ProgrammedPlan) → IsPlanOf d p → IsNamedPlanOf d p.named

-- ---- laws, of a lift between two floors

-- the lower floor's lines about the zone of the upper one, and the poses of the lift
pub record NeverDone (s : State) (sound : IsSound lift_table s) : Type 0 where
  pub claim : reply lift_table s 1 (Claim 1) ≢ Done
  pub give : reply lift_table s 1 (Give 1) ≢ Done
  pub yield : reply lift_table s 1 (Yield 1) ≢ Done
  pub take : reply lift_table s 1 (Take 1) ≢ Done
  pub release : reply lift_table s 1 (Release 1) ≢ Done
  pub pose : reply lift_table s 1 (SetPose 4) ≢ Done

-- the upper floor's lines about its own zone, and the last pose of the lift
pub record NeverTheirs (s : State) (sound : IsSound lift_table s) : Type 0 where
  pub claim : reply lift_table s 2 (Claim 1) ≢ Refused NotParty
  pub give : reply lift_table s 2 (Give 1) ≢ Refused NotParty
  pub yield : reply lift_table s 2 (Yield 1) ≢ Refused NotParty
  pub take : reply lift_table s 2 (Take 1) ≢ Refused NotParty
  pub release : reply lift_table s 2 (Release 1) ≢ Refused NotParty
  pub pose : reply lift_table s 0 (SetPose 4) ≢ Refused NoPose
  pub pose_of_party : reply lift_table s 0 (SetPose 4) ≢ Refused NotParty

-- what the laws say of it
pub record LawsOfLift : Type 0 where
  pub refused : RefusedLinesAreNeverDone → (s : State) (sound : IsSound lift_table s) → NeverDone s sound
  pub accepted : AcceptedLinesAreTheirs → (s : State) (sound : IsSound lift_table s) → NeverTheirs s sound
  pub words : NamedPlansHaveWords → (d : Document) (n : Named) → IsNamedPlanOf d n → AreOneWord n
