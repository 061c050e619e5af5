-- What the laws say of literal calls, whatever answers them.
use Rattle.std.proofs.Common.{◌≡◌, ◌≢◌, ◌∙◌, ℕ, Bool, true, false, ◌&&◌, ◌||◌, not, Some, inl, inr, refl, sym, ap, subst}
use Rattle.cell_types.specs.declared.machine.Machine.{Machine}
use Rattle.cell_types.specs.declared.machine.Machine.TheVariants.{Feed, Table, Robot, Press, Deposit, Crane, Watch}
use Rattle.cell_types.specs.declared.zone.Zone.{Zone}
use Rattle.cell_types.specs.declared.zone.Zone.TheVariants.{Z1, Z3, Z5, Z6}
use Rattle.cell_types.specs.declared.place.Place.TheVariants as place
use Rattle.cell_types.specs.declared.posture.Posture.TheVariants.{Closed, Moving, OpenIn}
use Rattle.cell_types.specs.declared.pose.Pose.{Pose}
use Rattle.cell_types.specs.declared.pose.Pose.TheVariants.{Travelling, Middle, Top, Running}
use Rattle.cell_types.specs.declared.call.Call.{Call}
use Rattle.cell_types.specs.declared.call.Call.TheVariants.{Claim, Give, Yield, Take, Release, SetPose, Stop, Resume}
use Rattle.cell_types.specs.declared.answer.Refusal.{Refusal}
use Rattle.cell_types.specs.declared.answer.Refusal.TheVariants.{PlaceFull, InUse}
use Rattle.cell_types.specs.declared.answer.Answer.{Answer}
use Rattle.cell_types.specs.declared.answer.Answer.TheVariants.{Done, Refused, Shown as CellShown}
use Rattle.cell_types.specs.Same.{same_posture}
use Rattle.cell_rules.specs.ModelState.{ModelState, zone_at, is_full}
use Rattle.cell_rules.specs.Laws.{is_barred}
use Rattle.cell_rules.specs.Reply.{reply}
use Rattle.cell_rules.proofs.lemmas.Tables.{all_machines, all_zones, all_poses, from_machines, from_zones, from_poses}
use Rattle.plan_types.specs.declared.call.Call.{Call as PlanCall}
use Rattle.plan_types.specs.declared.answer.Answer.{Answer as PlanAnswer}
use Rattle.plan_types.specs.declared.answer.Answer.TheVariants.{Done as PlanDone}
use Rattle.plan_rules.specs.declared.state.State.{State as PlanState}
use Rattle.plan_cell.specs.Numbers.{machine_number, zone_number, pose_number, plan_call}
use Rattle.plan_cell.specs.Mapping.{plan_state}
use Rattle.plan_cell.specs.Laws.{DoesMore, DoesNoMore, RefuseBy, feed_holds_back, is_own_rule}
use Rattle.cell_rules.specs.ZoneMap.{free_zone}
use Rattle.cell_rules.specs.PlaceSet.{empty, insert_place}
use Rattle.plan_types.specs.declared.call.Call.TheVariants as by_plan
use Rattle.plan_cell.specs.OwnRuleExamples.{empty_cell}
use Rattle.plan_cell.specs.LawExamples.{DoneCalls, UndoneCalls, OwnRefusals, held_in, cell_at, stopped_cell, press_open, press_in, press_given, UndoneBy}

pub one_refusal : {r q : Refusal} → Refused r ≡ Refused q → r ≡ q
one_refusal {r} {q} e = cc

both : (a b : Bool) → a ≡ true → b ≡ true → (a && b) ≡ true
both true b e f = f
both false b e f = cc

held_back : (s : ModelState) → (zone_at s Z6).posture ≡ Moving → is_full s place.FeedEnd ≡ true → feed_holds_back s ≡ true
held_back s moves full = both _ _ (ap (λ q. same_posture q Moving) moves) full

-- what the cell refuses, by no rule of its own, the plan doesn't do
pub undone : (answers : PlanState → ℕ → PlanCall → PlanAnswer) → DoesNoMore answers → (s : ModelState) (m : Machine) (c : Call) (d : PlanCall)
    → plan_call m c ≡ Some d → (r : Refusal) → reply s m c ≡ Refused r → is_own_rule s m c r ≡ false
    → answers (plan_state s) (machine_number m) d ≢ PlanDone
undone answers k s m c d is r refused none e = elim (k s m c d is e) [
  | inl done ↦ let apart : Done ≡ Refused r = sym done ∙ refused in cc
  | inr own ↦
      let same : own.refusal ≡ r = one_refusal (sym own.answer ∙ refused) in
      let rule : is_own_rule s m c r ≡ true = subst (λ q. is_own_rule s m c q ≡ true) same own.rule in
      let apart : false ≡ true = sym none ∙ rule in
      cc
]

-- what isn't done by any machine, about any zone, with any pose
for_each : (P : Machine → Zone → Bool) → all_machines (λ m. all_zones (P m)) ≡ true → (m : Machine) (z : Zone) → P m z ≡ true
for_each P e m z = from_zones (P m) (from_machines (λ n. all_zones (P n)) e m) z

abbrev is_plain : ModelState → Machine → Call → Answer → Bool
is_plain s m c (Refused r) = not (is_own_rule s m c r)
is_plain s m c _ = false

is_not : (b : Bool) → not b ≡ true → b ≡ false
is_not true e = cc
is_not false e = refl

plainly : (answers : PlanState → ℕ → PlanCall → PlanAnswer) → DoesNoMore answers → (s : ModelState) (m : Machine) (c : Call) (d : PlanCall)
    → plan_call m c ≡ Some d → (a : Answer) → reply s m c ≡ a → is_plain s m c a ≡ true → answers (plan_state s) (machine_number m) d ≢ PlanDone
plainly answers k s m c d is (Refused r) replied plain = undone answers k s m c d is r replied (is_not (is_own_rule s m c r) plain)
plainly answers k s m c d is Done replied plain = cc
plainly answers k s m c d is (CellShown _ _ _) replied plain = cc

implied : (a b : Bool) → (not a || b) ≡ true → a ≡ true → b ≡ true
implied true b e f = e
implied false b e f = cc

-- whether a call is refused in a state, by no rule of the cell's own
abbrev fails : ModelState → Machine → Call → Bool
fails s m c = is_plain s m c (reply s m c)

anywhere : (answers : PlanState → ℕ → PlanCall → PlanAnswer) → DoesNoMore answers → (m : Machine) (z : Zone) (p : Pose) → UndoneBy answers m z p
anywhere answers k m z p = record {
  claim = plainly answers k stopped_cell m (Claim z) (by_plan.Claim (zone_number z)) refl _ refl (for_each (λ n y. fails stopped_cell n (Claim y)) refl m z);
  give = plainly answers k empty_cell m (Give z) (by_plan.Give (zone_number z)) refl _ refl (for_each (λ n y. fails empty_cell n (Give y)) refl m z);
  yields = plainly answers k empty_cell m (Yield z) (by_plan.Yield (zone_number z)) refl _ refl (for_each (λ n y. fails empty_cell n (Yield y)) refl m z);
  take = plainly answers k empty_cell m (Take z) (by_plan.Take (zone_number z)) refl _ refl (for_each (λ n y. fails empty_cell n (Take y)) refl m z);
  release = plainly answers k empty_cell m (Release z) (by_plan.Release (zone_number z)) refl _ refl (for_each (λ n y. fails empty_cell n (Release y)) refl m z);
  pose = λ barred. plainly answers k empty_cell m (SetPose p) (by_plan.SetPose (pose_number m p)) refl _ refl
      (implied (is_barred (SetPose p)) (fails empty_cell m (SetPose p)) (from_poses (λ q. not (is_barred (SetPose q)) || fails empty_cell m (SetPose q)) (from_machines (λ n. all_poses (λ q. not (is_barred (SetPose q)) || fails empty_cell n (SetPose q))) refl m) p) barred);
  resume = plainly answers k empty_cell m Resume by_plan.Resume refl _ refl (from_machines (λ n. fails empty_cell n Resume) refl m);
}

pub done_calls : (answers : PlanState → ℕ → PlanCall → PlanAnswer) (after : PlanState → ℕ → PlanCall → PlanState) → DoesMore answers after → DoneCalls answers after
done_calls answers after k = record {
  table = k empty_cell Table (Claim Z1) (by_plan.Claim 0) refl refl;
  feed = k empty_cell Feed (Claim Z6) (by_plan.Claim 5) refl refl;
  deposit = k empty_cell Deposit (Claim Z5) (by_plan.Claim 4) refl refl;
  press = k (cell_at Z3 free_zone empty false) Press (Claim Z3) (by_plan.Claim 2) refl refl;
  travels = k (press_in Closed empty false) Press (SetPose Travelling) (by_plan.SetPose 3) refl refl;
  rests = k (press_in Moving empty true) Press (SetPose Top) (by_plan.SetPose 6) refl refl;
  yields = k (press_open Press empty true) Press (Yield Z3) (by_plan.Yield 2) refl refl;
  gives = k (press_open Robot (insert_place empty place.Arm1) false) Robot (Give Z3) (by_plan.Give 2) refl refl;
  takes = k press_given Press (Take Z3) (by_plan.Take 2) refl refl;
  releases = k (cell_at Z6 (held_in Crane OpenIn) empty true) Crane (Release Z6) (by_plan.Release 5) refl refl;
  stops = k empty_cell Watch Stop by_plan.Stop refl refl;
  resumes = k stopped_cell Watch Resume by_plan.Resume refl refl;
}

pub undone_calls : (answers : PlanState → ℕ → PlanCall → PlanAnswer) → DoesNoMore answers → UndoneCalls answers
undone_calls answers k = record {
  give = undone answers k (press_open Robot empty false) Robot (Give Z3) (by_plan.Give 2) refl _ refl refl;
  yields = undone answers k press_given Press (Yield Z3) (by_plan.Yield 2) refl _ refl refl;
  take = undone answers k (press_open Press empty true) Press (Take Z3) (by_plan.Take 2) refl _ refl refl;
  pose = undone answers k (press_in Closed empty false) Press (SetPose Middle) (by_plan.SetPose 4) refl _ refl refl;
  anywhere = anywhere answers k;
}

pub own_refusals : (answers : ModelState → Machine → Call → Answer) (s : ModelState) → RefuseBy answers → OwnRefusals answers s
own_refusals answers s k = record {
  yields = λ moves full. k s Feed (Yield Z1) InUse (held_back s moves full);
  releases = λ moves full. k s Feed (Release Z1) InUse (held_back s moves full);
  feed_runs = λ full other. k s Feed (SetPose Running) PlaceFull (both _ _ full (ap not other));
  deposit_runs = λ full. k s Deposit (SetPose Running) PlaceFull full;
  press_opens = λ full. k s Press (SetPose Middle) PlaceFull full;
}
