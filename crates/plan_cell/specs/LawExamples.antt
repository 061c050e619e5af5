-- What the laws of the cell and its plan say of literal calls, whatever answers them; answers that they don't allow;
-- and the numbers of names.
use Rattle.std.specs.Prelude.{◌≡◌, ◌≢◌, ℕ, Bool, true, false, [], ◌∷◌, Some, None, map}
use Rattle.cell_types.specs.declared.machine.Machine.{Machine}
use Rattle.cell_types.specs.declared.machine.Machine.TheVariants.{Feed, Table, Robot, Press, Deposit, Crane, Watch}
use Rattle.cell_types.specs.declared.zone.Zone.{Zone}
use Rattle.cell_types.specs.declared.zone.Zone.TheVariants.{Z1, Z2, Z3, Z4, Z5, Z6}
use Rattle.cell_types.specs.declared.place.Place.TheVariants as place
use Rattle.cell_types.specs.declared.posture.Posture.{Posture}
use Rattle.cell_types.specs.declared.posture.Posture.TheVariants.{Closed, Moving, OpenIn, OpenOut}
use Rattle.cell_types.specs.declared.pose.Pose.{Pose}
use Rattle.cell_types.specs.declared.pose.Pose.TheVariants.{Turning, Loading, Unloading, Travelling, Middle, Low, Top}
use Rattle.cell_types.specs.declared.pose.Pose.TheVariants.{Running, Landing, Halted, Offering, Standing}
use Rattle.cell_types.specs.declared.call.Call.{Call}
use Rattle.cell_types.specs.declared.call.Call.TheVariants.{Claim, Give, Yield, Take, Release, SetPose, Inquire, Stop}
use Rattle.cell_types.specs.declared.call.Call.TheVariants.{Resume}
use Rattle.cell_types.specs.declared.answer.Answer.{Answer}
use Rattle.cell_types.specs.declared.answer.Refusal.{Refusal}
use Rattle.cell_types.specs.declared.answer.Refusal.TheVariants.{PlaceFull}
use Rattle.cell_types.specs.declared.answer.Answer.TheVariants.{Done, Refused}
use Rattle.cell_rules.specs.declared.zones.ZoneState.{ZoneState}
use Rattle.cell_rules.specs.ZoneMap.{free_zone, everywhere, put_zone}
use Rattle.cell_rules.specs.PlaceSet.{PlaceSet, empty, insert_place}
use Rattle.cell_rules.specs.ModelState.{ModelState, model_state, zone_at, is_full}
use Rattle.cell_rules.specs.Refusals.{owns}
use Rattle.cell_rules.specs.Laws.{is_barred}
use Rattle.cell_rules.specs.Reply.{reply, next}
use Rattle.plan_types.specs.declared.call.Call.{Call as PlanCall}
use Rattle.plan_types.specs.declared.call.Call.TheVariants.{Claim as DoClaim, Give as DoGive, Yield as DoYield}
use Rattle.plan_types.specs.declared.call.Call.TheVariants.{Take as DoTake, Release as DoRelease}
use Rattle.plan_types.specs.declared.call.Call.TheVariants.{SetPose as DoSetPose, Inquire as DoInquire}
use Rattle.plan_types.specs.declared.call.Call.TheVariants.{Stop as DoStop, Resume as DoResume}
use Rattle.plan_types.specs.declared.posture.Posture.TheVariants.{OpenIn as IsOpenIn, OpenOut as IsOpenOut}
use Rattle.plan_types.specs.declared.answer.Answer.{Answer as PlanAnswer}
use Rattle.plan_types.specs.declared.answer.Answer.TheVariants.{Done as PlanDone, Shown}
use Rattle.plan_rules.specs.declared.state.State.{State as PlanState}
use Rattle.plan_rules.specs.Reply.{reply as plan_reply}
use Rattle.plan_cell.specs.Numbers.{machine_number, zone_number, place_number, pose_number, plan_call}
use Rattle.plan_cell.specs.CellPlan.{cell_table}
use Rattle.plan_cell.specs.Mapping.{plan_state}
use Rattle.plan_cell.specs.Laws.{DoneBy, DoesMore, DoesNoMore, RefuseBy, AreAlikeBy, is_own_rule, RefusedByOwnRule}
use Rattle.plan_cell.specs.OwnRuleExamples.{empty_cell}

abbrev pub held_in : Machine → Posture → ZoneState
held_in m q = record free_zone { owner = Some m; posture = q }

-- one zone is so, and the others are free and Closed; at the last stamp but one
abbrev pub cell_at : Zone → ZoneState → PlaceSet → Bool → ModelState
cell_at z v full stopped = model_state (put_zone (everywhere free_zone) z v) full 1048574 stopped

abbrev pub stopped_cell : ModelState
stopped_cell = cell_at Z1 free_zone empty true

-- the press's zone, open inward and held, and with a plate
abbrev pub press_open : Machine → PlaceSet → Bool → ModelState
press_open m full stopped = cell_at Z3 (held_in m OpenIn) full stopped

abbrev pub press_in : Posture → PlaceSet → Bool → ModelState
press_in q full stopped = cell_at Z3 (held_in Press q) full stopped

abbrev pub press_given : ModelState
press_given = cell_at Z3 (record (held_in Press OpenIn) { flag = true }) empty true

-- calls that the cell does, so that its plan does them and leaves the same state
pub record DoneCalls (answers : PlanState → ℕ → PlanCall → PlanAnswer) (after : PlanState → ℕ → PlanCall → PlanState)
    : Type 0 where
  pub table : DoneBy answers after empty_cell Table (Claim Z1) (DoClaim 0)
  pub feed : DoneBy answers after empty_cell Feed (Claim Z6) (DoClaim 5)
  pub deposit : DoneBy answers after empty_cell Deposit (Claim Z5) (DoClaim 4)
  pub press : DoneBy answers after (cell_at Z3 free_zone empty false) Press (Claim Z3) (DoClaim 2)
  pub travels : DoneBy answers after (press_in Closed empty false) Press (SetPose Travelling) (DoSetPose 3)
  pub rests : DoneBy answers after (press_in Moving empty true) Press (SetPose Top) (DoSetPose 6)
  pub yields : DoneBy answers after (press_open Press empty true) Press (Yield Z3) (DoYield 2)
  pub gives : DoneBy answers after (press_open Robot (insert_place empty place.Arm1) false) Robot (Give Z3) (DoGive 2)
  pub takes : DoneBy answers after press_given Press (Take Z3) (DoTake 2)
  pub releases : DoneBy answers after (cell_at Z6 (held_in Crane OpenIn) empty true) Crane (Release Z6) (DoRelease 5)
  pub stops : DoneBy answers after empty_cell Watch Stop DoStop
  pub resumes : DoneBy answers after stopped_cell Watch Resume DoResume

-- calls of any machine, about any zone: in the stopped cell no claim is done, in the empty one no call that needs its
-- caller to own the zone, and no pose that moves; and nobody resumes the empty cell
pub record UndoneBy (answers : PlanState → ℕ → PlanCall → PlanAnswer) (m : Machine) (z : Zone) (p : Pose) : Type 0 where
  pub claim : answers (plan_state stopped_cell) (machine_number m) (DoClaim (zone_number z)) ≢ PlanDone
  pub give : answers (plan_state empty_cell) (machine_number m) (DoGive (zone_number z)) ≢ PlanDone
  pub yields : answers (plan_state empty_cell) (machine_number m) (DoYield (zone_number z)) ≢ PlanDone
  pub take : answers (plan_state empty_cell) (machine_number m) (DoTake (zone_number z)) ≢ PlanDone
  pub release : answers (plan_state empty_cell) (machine_number m) (DoRelease (zone_number z)) ≢ PlanDone
  pub pose : is_barred (SetPose p) ≡ true
      → answers (plan_state empty_cell) (machine_number m) (DoSetPose (pose_number m p)) ≢ PlanDone
  pub resume : answers (plan_state empty_cell) (machine_number m) DoResume ≢ PlanDone

-- calls that the cell refuses, by no rule of its own, so that its plan doesn't do them
pub record UndoneCalls (answers : PlanState → ℕ → PlanCall → PlanAnswer) : Type 0 where
  pub give : answers (plan_state (press_open Robot empty false)) 2 (DoGive 2) ≢ PlanDone
  pub yields : answers (plan_state press_given) 3 (DoYield 2) ≢ PlanDone
  pub take : answers (plan_state (press_open Press empty true)) 3 (DoTake 2) ≢ PlanDone
  pub pose : answers (plan_state (press_in Closed empty false)) 3 (DoSetPose 4) ≢ PlanDone
  pub anywhere : (m : Machine) (z : Zone) (p : Pose) → UndoneBy answers m z p

-- the same of any call: what the plan doesn't do the cell doesn't; what the cell does leaves the same state; and what
-- the cell refuses, by no rule of its own, the plan doesn't do
pub record AnyCall (answers : PlanState → ℕ → PlanCall → PlanAnswer) (after : PlanState → ℕ → PlanCall → PlanState)
    (s : ModelState) (m : Machine) (c : Call) (d : PlanCall) (is : plan_call m c ≡ Some d) : Type 0 where
  pub refused : DoesMore answers after → answers (plan_state s) (machine_number m) d ≢ PlanDone → reply s m c ≢ Done
  pub left : DoesMore answers after → reply s m c ≡ Done
      → after (plan_state s) (machine_number m) d ≡ plan_state (next s m c)
  pub undone : DoesNoMore answers → (r : Refusal) → reply s m c ≡ Refused r → is_own_rule s m c r ≡ false
      → answers (plan_state s) (machine_number m) d ≢ PlanDone

abbrev pub belt_runs : ModelState
belt_runs = cell_at Z6 (held_in Feed Moving) (insert_place empty place.FeedEnd) true

abbrev pub belt_end_full : Zone → Machine → ModelState
belt_end_full z m = cell_at z (held_in m Closed) (insert_place (insert_place empty place.FeedEnd) place.DepEnd) true

-- calls that the cell refuses by its own rules, in any state, stopped or not
pub record OwnRefusals (answers : ModelState → Machine → Call → Answer) (s : ModelState) : Type 0 where
  pub yields : (zone_at s Z6).posture ≡ Moving → is_full s place.FeedEnd ≡ true → answers s Feed (Yield Z1) ≢ Done
  pub releases : (zone_at s Z6).posture ≡ Moving → is_full s place.FeedEnd ≡ true → answers s Feed (Release Z1) ≢ Done
  pub feed_runs : is_full s place.FeedEnd ≡ true → owns s Feed Z1 ≡ false → answers s Feed (SetPose Running) ≢ Done
  pub deposit_runs : is_full s place.DepEnd ≡ true → answers s Deposit (SetPose Running) ≢ Done
  pub press_opens : is_full s place.PressOut ≡ true → answers s Press (SetPose Middle) ≢ Done

pub record LawExamples : Type 0 where
  pub done : (answers : PlanState → ℕ → PlanCall → PlanAnswer) (after : PlanState → ℕ → PlanCall → PlanState)
      → DoesMore answers after → DoneCalls answers after
  pub undone : (answers : PlanState → ℕ → PlanCall → PlanAnswer) → DoesNoMore answers → UndoneCalls answers
  pub any : (answers : PlanState → ℕ → PlanCall → PlanAnswer) (after : PlanState → ℕ → PlanCall → PlanState)
      (s : ModelState) (m : Machine) (c : Call) (d : PlanCall) (is : plan_call m c ≡ Some d)
      → AnyCall answers after s m c d is
  pub own : (answers : ModelState → Machine → Call → Answer) (s : ModelState) → RefuseBy answers → OwnRefusals answers s
  -- feed doesn't own z1, so it is refused by the plan's rules, though a rule of the cell holds too
  pub not_owner : ¬ RefusedByOwnRule belt_runs Feed (Yield Z1)
  -- feed may run its belt with a plate at its end while it owns z1
  pub feed_owns : is_own_rule (belt_end_full Z1 Feed) Feed (SetPose Running) PlaceFull ≡ false

-- an answer without the flag, without the owner, or with another posture
abbrev pub without_flag : PlanAnswer → PlanAnswer
without_flag (Shown o f q) = Shown o false q
without_flag a = a

abbrev pub without_owner : PlanAnswer → PlanAnswer
without_owner (Shown o f q) = Shown None f q
without_owner a = a

abbrev pub without_posture : PlanAnswer → PlanAnswer
without_posture (Shown o f q) = Shown o f IsOpenOut
without_posture a = a

pub record InquiriesTell : Type 0 where
  pub flag : ¬ AreAlikeBy (λ s m d. without_flag (plan_reply cell_table s m d))
  pub owner : ¬ AreAlikeBy (λ s m d. without_owner (plan_reply cell_table s m d))
  pub posture : ¬ AreAlikeBy (λ s m d. without_posture (plan_reply cell_table s m d))
  -- whoever asks, and of whichever zone, also in a stopped plant
  pub of_press : (answers : PlanState → ℕ → PlanCall → PlanAnswer) → AreAlikeBy answers
      → answers (plan_state press_given) 30 (DoInquire 2) ≡ Shown (Some 3) true IsOpenIn
  pub of_crane : (answers : PlanState → ℕ → PlanCall → PlanAnswer) → AreAlikeBy answers
      → answers (plan_state (cell_at Z6 (held_in Crane OpenOut) empty true)) 0 (DoInquire 5)
      ≡ Shown (Some 5) false IsOpenOut

pub record NumbersAreRight : Type 0 where
  pub machines : map machine_number (Feed ∷ Table ∷ Robot ∷ Press ∷ Deposit ∷ Crane ∷ Watch ∷ [])
      ≡ 0 ∷ 1 ∷ 2 ∷ 3 ∷ 4 ∷ 5 ∷ 30 ∷ []
  pub zones : map zone_number (Z1 ∷ Z2 ∷ Z3 ∷ Z4 ∷ Z5 ∷ Z6 ∷ []) ≡ 0 ∷ 1 ∷ 2 ∷ 3 ∷ 4 ∷ 5 ∷ []
  pub places : map place_number (place.FeedEntry ∷ place.FeedEnd ∷ place.Table ∷ place.Arm1 ∷ place.PressIn ∷ [])
      ≡ 0 ∷ 1 ∷ 2 ∷ 3 ∷ 4 ∷ []
  pub more_places : map place_number (place.PressOut ∷ place.Arm2 ∷ place.DepEntry ∷ place.DepEnd ∷ place.Crane ∷ [])
      ≡ 5 ∷ 6 ∷ 7 ∷ 8 ∷ 9 ∷ []
  pub table : map (pose_number Table) (Turning ∷ Loading ∷ Unloading ∷ Middle ∷ []) ≡ 0 ∷ 1 ∷ 2 ∷ 15 ∷ []
  pub press : map (pose_number Press) (Travelling ∷ Middle ∷ Low ∷ Top ∷ Running ∷ []) ≡ 3 ∷ 4 ∷ 5 ∷ 6 ∷ 15 ∷ []
  pub feed : map (pose_number Feed) (Running ∷ Landing ∷ Halted ∷ Offering ∷ []) ≡ 7 ∷ 8 ∷ 9 ∷ 15 ∷ []
  pub deposit : map (pose_number Deposit) (Running ∷ Landing ∷ Offering ∷ Standing ∷ Halted ∷ Top ∷ [])
      ≡ 10 ∷ 11 ∷ 12 ∷ 13 ∷ 14 ∷ 15 ∷ []
  pub of_robot : pose_number Robot Turning ≡ 15
  pub claim : plan_call Press (Claim Z6) ≡ Some (DoClaim 5)
  pub give : plan_call Feed (Give Z5) ≡ Some (DoGive 4)
  pub yield : plan_call Table (Yield Z4) ≡ Some (DoYield 3)
  pub take : plan_call Robot (Take Z3) ≡ Some (DoTake 2)
  pub release : plan_call Crane (Release Z2) ≡ Some (DoRelease 1)
  pub pose : plan_call Deposit (SetPose Halted) ≡ Some (DoSetPose 14)
  pub inquire : plan_call Watch (Inquire Z5) ≡ Some (DoInquire 4)
