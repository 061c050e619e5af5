-- What each law of the cell and its plan says of the cell's plan: the law, of a state and a call.
use Rattle.std.proofs.Common.{◌≡◌, inl, ⊎_elim, true, false, Some, None, refl, sym, ◌∙◌}
use Rattle.cell_types.specs.declared.machine.Machine.{Machine}
use Rattle.cell_types.specs.declared.machine.Machine.TheVariants.{Feed, Table, Press, Deposit, Crane, Watch}
use Rattle.cell_types.specs.declared.zone.Zone.TheVariants.{Z1, Z3, Z6}
use Rattle.cell_types.specs.declared.place.Place.TheVariants.{PressOut}
use Rattle.cell_types.specs.declared.posture.Posture.TheVariants.{Moving}
use Rattle.cell_types.specs.declared.pose.Pose.TheVariants.{Middle, Running}
use Rattle.cell_types.specs.declared.call.Call.{Call}
use Rattle.cell_types.specs.declared.call.Call.TheVariants.{Claim, Yield, Release, SetPose, Advance, Stop, Resume}
use Rattle.cell_types.specs.declared.answer.Refusal.{Refusal}
use Rattle.cell_types.specs.declared.answer.Refusal.TheVariants.{PlaceFull, InUse, Stopped, Worn}
use Rattle.cell_rules.specs.PlaceSet.{empty, insert_place}
use Rattle.cell_rules.specs.ModelState.{ModelState, zone_at, is_full}
use Rattle.cell_rules.specs.Reply.{reply}
use Rattle.plan_types.specs.declared.call.Call.{Call as PlanCall}
use Rattle.plan_types.specs.declared.call.Call.TheVariants as by_plan
use Rattle.plan_types.specs.declared.answer.Answer.TheVariants.{Done as PlanDone, Refused as PlanRefused}
use Rattle.plan_types.specs.declared.answer.Refusal.TheVariants as plan_refusal
use Rattle.plan_rules.specs.Reply.{reply as plan_reply, next as plan_next}
use Rattle.plan_cell.specs.Numbers.{plan_call}
use Rattle.plan_cell.specs.CellPlan.{cell_table}
use Rattle.plan_cell.specs.Laws.{is_own_rule}
use Rattle.plan_cell.specs.OwnRuleLaws.{FeedStays, FeedStands, DepositStands, PressStays, IsOwnRule}
use Rattle.plan_cell.specs.LawExamples.{stopped_cell}
use Rattle.plan_cell.specs.LawRows.{worn_cell, crane_in, AnyCallTells, AnyStateTells, LiteralStatesTell, LawRows}
use Rattle.plan_cell.proofs.AnyAnswers.{undone, done_calls, undone_calls, own_refusals}

-- the cell's own rules answer otherwise
no_stop : (s : ModelState) (m : Machine) (c : Call) → is_own_rule s m c Stopped ≡ false
no_stop s Feed (Yield Z1) = refl
no_stop s Feed (Release Z1) = refl
no_stop s Feed (SetPose Running) = refl
no_stop s Deposit (SetPose Running) = refl
no_stop s Press (SetPose Middle) = refl
no_stop s m c = refl

no_wear : (s : ModelState) (m : Machine) (c : Call) → is_own_rule s m c Worn ≡ false
no_wear s Feed (Yield Z1) = refl
no_wear s Feed (Release Z1) = refl
no_wear s Feed (SetPose Running) = refl
no_wear s Deposit (SetPose Running) = refl
no_wear s Press (SetPose Middle) = refl
no_wear s m c = refl

-- a rule is one of the four
which : (s : ModelState) (m : Machine) (c : Call) (r : Refusal) (K : Type 0) → (FeedStays s m c r → K) → (FeedStands s m c r → K) → (DepositStands s m c r → K) → (PressStays s m c r → K) → IsOwnRule s m c r → K
which s m c r K f g d p = ⊎_elim (⊎_elim f g) (⊎_elim d p)

not_crane : (m n : Machine) → m ≡ n → m ≡ Crane → n ≡ Crane
not_crane m n is crane = sym is ∙ crane

crane_has_none : (s : ModelState) (m : Machine) (c : Call) (r : Refusal) → m ≡ Crane → ¬ IsOwnRule s m c r
crane_has_none s m c r crane = which s m c r ⊥
    (λ f. let e = not_crane m Feed f.machine crane in cc)
    (λ f. let e = not_crane m Feed f.machine crane in cc)
    (λ f. let e = not_crane m Deposit f.machine crane in cc)
    (λ f. let e = not_crane m Press f.machine crane in cc)

belt_moves : (s : ModelState) (m : Machine) (c : Call) (r : Refusal) → r ≡ InUse → IsOwnRule s m c r → (zone_at s Z6).posture ≡ Moving
belt_moves s m c r is = which s m c r ((zone_at s Z6).posture ≡ Moving)
    (λ f. f.runs)
    (λ f. let e : InUse ≡ PlaceFull = sym is ∙ f.refusal in cc)
    (λ f. let e : InUse ≡ PlaceFull = sym is ∙ f.refusal in cc)
    (λ f. let e : InUse ≡ PlaceFull = sym is ∙ f.refusal in cc)

has_forged : (s : ModelState) (c : Call) (r : Refusal) → IsOwnRule s Press c r → is_full s PressOut ≡ true
has_forged s c r = which s Press c r (is_full s PressOut ≡ true)
    (λ f. let e : Press ≡ Feed = f.machine in cc)
    (λ f. let e : Press ≡ Feed = f.machine in cc)
    (λ f. let e : Press ≡ Deposit = f.machine in cc)
    (λ f. f.plate)

calls : (s : ModelState) (m : Machine) (c : Call) (d : PlanCall) (is : plan_call m c ≡ Some d) → AnyCallTells s m c d is
calls s m c d is = record {
  refused = λ law un done. un (law s m c d is done).0;
  left = λ law done. (law s m c d is done).1;
  undone = λ law r. undone (plan_reply cell_table) law s m c d is r;
  stopped = λ law answered. undone (plan_reply cell_table) law s m c d is Stopped answered (no_stop s m c);
  worn = λ law answered. undone (plan_reply cell_table) law s m c d is Worn answered (no_wear s m c);
  crane = λ law crane done. ⊎_elim (λ e. e) (λ own. absurd (crane_has_none s m c own.0 crane own.2)) (law.refused s m c d is done);
  has_call = λ law e. let f : None ≡ Some d = sym ((law m c).1 e) ∙ is in cc;
  held_back = λ law rule. belt_moves s m c InUse refl ((law.test s m c InUse).0 rule);
}

states : (s : ModelState) (m : Machine) → AnyStateTells s m
states s m = record {
  own = λ law. own_refusals reply s law;
  press_stays = λ law done un. ⊎_elim (λ e. absurd (un e)) (λ own. has_forged s (SetPose Middle) own.0 own.2) (law.refused s Press (SetPose Middle) (by_plan.SetPose 4) refl done);
  feed_stays = λ law moves full. (law.test s Feed (Yield Z1) InUse).1 (inl (inl (record { machine = refl; call = inl refl; refusal = refl; runs = moves; plate = full })));
  inquiry = λ law. law s m Z3 (by_plan.Inquire 2) refl;
  advance = λ law. (law m Advance).1 refl;
  pose = λ p law none. let e : SetPose p ≡ Advance = (law m (SetPose p)).0 none in cc;
  missing = λ c law. (law m c).0;
}

literal : LiteralStatesTell
literal = record {
  done = done_calls (plan_reply cell_table) (plan_next cell_table);
  undone = undone_calls (plan_reply cell_table);
  resumes = λ law. law stopped_cell Watch Resume by_plan.Resume refl refl;
  claims = λ law done. let e : PlanRefused plan_refusal.Stopped ≡ PlanDone = (law stopped_cell Table (Claim Z1) (by_plan.Claim 0) refl done).0 in cc;
  leaves = λ law. ⊎_elim (λ e. e) (λ own. let rule : false ≡ true = own.rule in cc) (law crane_in Crane (Release Z6) (by_plan.Release 5) refl refl);
  rules = λ law. ⊎_elim (λ e. e) (λ own. absurd (crane_has_none crane_in Crane (Release Z6) own.0 refl own.2)) (law.refused crane_in Crane (Release Z6) (by_plan.Release 5) refl refl);
  worn_stop = λ law done. let e : PlanRefused plan_refusal.Worn ≡ PlanDone = (law (worn_cell empty false) Watch Stop by_plan.Stop refl done).0 in cc;
  worn_resume = λ law done. let e : PlanRefused plan_refusal.Worn ≡ PlanDone = (law (worn_cell empty true) Watch Resume by_plan.Resume refl done).0 in cc;
  no_stop = λ law. undone (plan_reply cell_table) law (worn_cell empty false) Watch Stop by_plan.Stop refl Worn refl refl;
  press = λ law. law (worn_cell (insert_place empty PressOut) true) Press (SetPose Middle) PlaceFull refl;
  shown = λ law. law stopped_cell Table Z1 (by_plan.Inquire 0) refl;
  worn_shown = λ law. law (worn_cell empty true) Watch Z6 (by_plan.Inquire 5) refl;
  sound = λ law sound. law (worn_cell empty true) sound;
}

pub law_rows : LawRows
law_rows = record { calls = calls; states = states; literal = literal }
