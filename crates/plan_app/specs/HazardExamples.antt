-- What is said of hazards, line by line and whole; and what it means that all motors are kept apart.
use Rattle.std.specs.Prelude.{◌≡◌, ℕ, ◌<◌, Bool, true, false, [], ◌∷◌, ◌++◌, codes, length, replicate, List}
use Rattle.std.specs.Prelude.{Option, Some, None}
use Rattle.plan_types.specs.declared.posture.Posture.{Posture}
use Rattle.plan_types.specs.declared.posture.Posture.TheVariants.{Closed, Moving, OpenIn}
use Rattle.plan_rules.specs.declared.state.State.{State}
use Rattle.plan_rules.specs.declared.state.ZoneState.{ZoneState}
use Rattle.plan_rules.specs.State.{free_zone, start_state}
use Rattle.plan_motors.specs.declared.exclusion.Cause.TheVariants.{Zone, Place}
use Rattle.plan_motors.specs.declared.verdict.Verdict.TheVariants.{Excluded, ByPoses, Possible}
use Rattle.plan_motors.specs.OfPlan.{hazard_at, motor_at}
use Rattle.plan_motors.specs.Poses.{NeverFromPostures}
use Rattle.plan_text.specs.Names.{Text}
use Rattle.plan_document.specs.declared.resolving.ProgrammedPlan.{ProgrammedPlan}
use Rattle.plan_picture.specs.Pictures.{opening}
use Rattle.plan_app.specs.Hazards.{TellsReport, are_kept, hazard_line, lead_text, led_text, motors_text}
use Rattle.plan_app.specs.Hazards.{verdict_words}
use Rattle.plan_app.specs.Leads.{opening_by}
use Rattle.plan_app.specs.declared.hazards.Finding.{Finding}
use Rattle.plan_app.specs.declared.leads.Lead.{Lead}
use Rattle.plan_app.specs.declared.leads.Lead.TheVariants.{Unsought, Never, Turns, Unfinished}
use Rattle.plan_app.specs.GoingExamples.{loaded, press}
use Rattle.plan_app.specs.WordExamples.{three}
use Rattle.plan_explorer.specs.Examples.{patient}
use Rattle.plan_types.specs.Table.{PlanTable}
use Rattle.plan_motors.specs.declared.verdict.Verdict.{Verdict}
use Rattle.plan_header.specs.HeaderExamples.{lift}

-- the first two zones of the lift so, the others free and closed; the first and the last place full or not
abbrev pub lifted : ZoneState → ZoneState → Bool → Bool → State
lifted lower upper first last = record {
  zones = lower ∷ upper ∷ replicate 8 free_zone;
  full = first ∷ false ∷ last ∷ replicate 13 false;
  stamp = 0;
  stopped = false;
}

abbrev pub held_by : ℕ → Posture → ZoneState
held_by machine posture = record { owner = Some machine; flag = false; posture = posture }

abbrev pub open_to_all : ZoneState
open_to_all = record { owner = None; flag = false; posture = OpenIn }

abbrev pub titles : List Text
titles = codes "caught below" ∷ codes "both gates" ∷ []

abbrev pub kept : Verdict → Finding
kept v = record { verdict = v; lead = Unsought }

abbrev pub unled : Verdict → Finding
unled v = record { verdict = v; lead = Never }

abbrev pub both_kept : List Finding
both_kept = kept (Excluded (Zone 0)) ∷ kept (ByPoses 0) ∷ []

abbrev pub full_cabin : List Bool
full_cabin = true ∷ replicate 15 false

pub record HazardLines : Type 0 where
  pub zone : verdict_words lift (Excluded (Zone 1)) ≡ codes "kept apart by upper"
  pub place : verdict_words lift (Excluded (Place 2)) ≡ codes "kept apart by place loft"
  pub poses : verdict_words lift (ByPoses 0) ≡ codes "kept apart by the poses of lift"
  pub nothing : verdict_words lift (Possible (lifted free_zone free_zone false false))
      ≡ codes "NOT kept apart: a state permits both"
  pub held : verdict_words lift (Possible (lifted free_zone (held_by 0 Moving) true false))
      ≡ codes "NOT kept apart: a state permits both; upper held by lift, moving; cabin full"
  pub all : verdict_words lift (Possible (lifted (held_by 1 Closed) open_to_all true true))
      ≡ codes "NOT kept apart: a state permits both; lower held by low, closed; upper free, openin; "
      ++ codes "cabin full; loft full"
  pub first : hazard_line lift [] titles None both_kept 0 ≡ codes "caught below: kept apart by lower\n"
  pub second : hazard_line lift [] titles None both_kept 1 ≡ codes "both gates: kept apart by the poses of lift\n"
  pub whole : motors_text lift [] (codes "hoist" ∷ codes "gate" ∷ []) titles None both_kept
      ≡ codes "2 motors: hoist gate\n" ++ codes "caught below: kept apart by lower\n"
      ++ codes "both gates: kept apart by the poses of lift\n"
  pub no_finding : hazard_line lift [] titles None both_kept 2 ≡ []
  pub no_hazard : motors_text lift [] (codes "hoist" ∷ []) [] None [] ≡ codes "1 motor: hoist\n"
  pub no_motor : motors_text lift [] [] [] None [] ≡ []

-- a search has found these turns
abbrev pub AreTurns : Lead → List ℕ → Type 0
AreTurns Unsought again = ⊥
AreTurns Never again = ⊥
AreTurns (Turns turns) again = turns.items ≡ again
AreTurns (Unfinished limit fewer) again = ⊥

abbrev pub press_calls : Text
press_calls =
    codes "NOT kept apart: from start 10 these calls permit both\n"
    ++ codes "  loader asks: give interior: notowner free\n" ++ codes "  press asks: claim interior: done\n"
    ++ codes "  press asks: pose travelling: done\n"

-- what is said of turns that lead to a state which permits both, by what a search from an opening found
pub record LeadLines : Type 0 where
  pub never : lead_text lift [] (start_state full_cabin 0)
      (Possible (lifted free_zone (held_by 0 Moving) true false)) Never
      ≡ codes "NOT kept apart: a state permits both; upper held by lift, moving; cabin full; "
      ++ codes "none of the programs leads there from start 100\n"
  pub no_places : (t : PlanTable)
      → lead_text (three t) [] (start_state full_cabin 0) (Possible (lifted free_zone free_zone true false)) Never
      ≡ codes "NOT kept apart: a state permits both; none of the programs leads there from the start\n"
  pub large : lead_text lift [] (start_state full_cabin 0) (Possible (lifted free_zone free_zone false true))
      (Unfinished 1000000 12)
      ≡ codes "NOT kept apart: a state permits both; loft full; "
      ++ codes "none of the programs leads there from start 100 in fewer than 12 turns: "
      ++ codes "more than 1000000 situations\n"
  pub at_once : led_text press patient loaded [] ≡ codes "NOT kept apart: start 10 permits both\n"
  pub calls : led_text press patient loaded (0 ∷ 1 ∷ 1 ∷ []) ≡ press_calls
  pub turns : (lead : Lead) → AreTurns lead (0 ∷ 1 ∷ 1 ∷ [])
      → lead_text press patient loaded (Possible loaded) lead ≡ press_calls
  -- without a script, a search begins with the full places of the state that permits both
  pub full : opening_by None (Possible (lifted free_zone (held_by 0 Moving) true false)) ≡ start_state full_cabin 0
  pub scripted : opening_by (Some (start_state full_cabin 7)) (Possible (lifted free_zone free_zone false true))
      ≡ start_state full_cabin 7

-- what is kept apart
pub record AreKept : Type 0 where
  pub all : are_kept (kept (Excluded (Zone 0)) ∷ kept (Excluded (Place 1)) ∷ kept (ByPoses 0) ∷ []) ≡ true
  pub none : are_kept [] ≡ true
  pub last : are_kept (kept (ByPoses 0) ∷ unled (Possible (lifted free_zone free_zone false false)) ∷ []) ≡ false

-- if a report says that all are kept apart, the motors of each hazard are never permitted both, from a start on
abbrev pub KeptMotorsAreNeverBoth : Type 0
KeptMotorsAreNeverBoth =
    (most : ℕ) (plan : ProgrammedPlan) (start : Option State) (text : Text) → TellsReport most plan start true text
    → (k : ℕ) → k < length plan.motors.hazards.items
    → NeverFromPostures plan.named.plan opening
    (motor_at plan.motors.motors.items (hazard_at plan.motors.hazards.items k).first)
    (motor_at plan.motors.motors.items (hazard_at plan.motors.hazards.items k).second)
