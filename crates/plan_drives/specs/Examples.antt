-- Literal calls at the press and at the lift, and what they tell; programs that run only what they may; and others,
-- with what their first motor lacks that may not run.
use Rattle.std.specs.Prelude.{◌≡◌, ℕ, true, false, map, List, [], ◌∷◌, ◌++◌, Some, None}
use Rattle.plan_types.specs.declared.posture.Posture.TheVariants.{Closed, Moving, OpenIn, OpenOut}
use Rattle.plan_types.specs.declared.call.Call.TheVariants.{Claim, Give, Yield, Take, Release, SetPose, Inquire, Stop}
use Rattle.plan_types.specs.declared.call.Call.TheVariants.{Advance}
use Rattle.plan_types.specs.declared.answer.Refusal.TheVariants.{Held, Shut}
use Rattle.plan_types.specs.declared.answer.Answer.TheVariants.{Shown}
use Rattle.plan_types.specs.declared.answer.Event.{Event}
use Rattle.plan_types.specs.Examples.{way, zone, pose, two_at, press_table, lift_table}
use Rattle.plan_types.specs.Examples.{open_press_table, through_table}
use Rattle.plan_types.specs.SpaceExamples.{robots_table}
use Rattle.plan_types.specs.Table.{PlanTable}
use Rattle.plan_rules.specs.Examples.{event, did, refused, press_start}
use Rattle.plan_rules.specs.History.{after}
use Rattle.plan_motors.specs.declared.motor.Motor.{Motor}
use Rattle.plan_motors.specs.declared.motor.ZoneNeed.{ZoneNeed}
use Rattle.plan_motors.specs.Motor.{no_need, need_of, place_need}
use Rattle.plan_motors.specs.MotorPlan.{MotorTables, motor_plan}
use Rattle.plan_motors.specs.Examples.{motor, held, hosted, ram, arm, loading_arm, valve, heater, fan}
use Rattle.plan_drives.specs.declared.line.Line.{Line}
use Rattle.plan_drives.specs.declared.line.Line.TheVariants.{Do, Await, Run}
use Rattle.plan_drives.specs.declared.undriven.Lack.{Lack}
use Rattle.plan_drives.specs.declared.undriven.Lack.TheVariants.{NoSuchMotor, OtherMachine, NotHeld, NotInPosture}
use Rattle.plan_drives.specs.declared.undriven.Lack.TheVariants.{NotFilled}
use Rattle.plan_drives.specs.Facts.{no_facts, zone_facts, place_facts, facts_along}
use Rattle.plan_drives.specs.Program.{IsDriven}
use Rattle.plan_drives.specs.InStep.{IsInStep, AreInStep, IsFirstOutOfStep}
use Rattle.plan_drives.specs.Course.{Stays, GoesThrough, IsRunning, HasCome, HasComeFrom}
use Rattle.plan_drives.specs.Lacking.{IsUndriven}

-- what machine m of the press knows of its zone after a call, if it knew nothing; of the loader's place, 0, and of the
-- press's, 1
abbrev pub knows : ℕ → List Line → Motor
knows m lines = facts_along press_table (no_facts m) lines

-- what machine m of the press with two robots knows of both zones: 0 is the loader, 1 the press, 2 the unloader
abbrev pub robots_know : ℕ → List Line → Motor
robots_know m lines = facts_along robots_table (no_facts m) lines

abbrev pub needs : Motor → List ZoneNeed
needs known = need_of known 0 ∷ need_of known 1 ∷ []

-- the press opens one way only: inward
abbrev pub chute : PlanTable
chute = two_at (zone 1 0 (way 0 1) None) (pose 1 false (Some OpenIn) None ∷ pose 1 false (Some Closed) None ∷ [])

pub record FactsAreRight : Type 0 where
  pub claim : need_of (knows 1 (Do (Claim 0) ∷ [])) 0 ≡ held None
  -- a guest's claim tells the posture where poses open the zone one way only
  pub guest_claims : need_of (knows 0 (Do (Claim 0) ∷ [])) 0 ≡ held None
  pub one_way : zone_facts chute (no_facts 0) (Claim 0) 0 ≡ held (Some OpenIn)
  pub host_of_one_way : zone_facts chute (no_facts 1) (Claim 0) 0 ≡ held None
  pub take_by_host : need_of (knows 1 (Do (Take 0) ∷ [])) 0 ≡ held (Some OpenIn)
  pub take_by_guest : need_of (knows 0 (Do (Take 0) ∷ [])) 0 ≡ held (Some OpenOut)
  pub taken_by_host : place_need (knows 1 (Do (Take 0) ∷ [])) 1 ≡ Some true
  pub taken_by_guest : place_need (knows 0 (Do (Take 0) ∷ [])) 0 ≡ Some true
  pub give_by_host : need_of (knows 1 (Do (Give 0) ∷ [])) 0 ≡ hosted OpenOut
  pub give_by_guest : need_of (knows 0 (Do (Take 0) ∷ Do (Give 0) ∷ [])) 0 ≡ no_need
  pub given_by_host : place_need (knows 1 (Do (Give 0) ∷ [])) 1 ≡ Some false
  pub given_by_guest : place_need (knows 0 (Do (Give 0) ∷ [])) 0 ≡ Some false
  -- who leaves a zone knows its posture only as its host
  pub yield_by_host : need_of (knows 1 (Do (Claim 0) ∷ Do (SetPose 0) ∷ Do (Yield 0) ∷ [])) 0 ≡ hosted OpenIn
  pub yield_by_guest : need_of (knows 0 (Do (Take 0) ∷ Do (Yield 0) ∷ [])) 0 ≡ no_need
  pub release_by_host : need_of (knows 1 (Do (Claim 0) ∷ Do (SetPose 2) ∷ Do (Release 0) ∷ [])) 0 ≡ hosted Closed
  pub release_by_guest : need_of (knows 0 (Do (Take 0) ∷ Do (Release 0) ∷ [])) 0 ≡ no_need
  -- a pose that moves is of the owner; another one need not be
  pub moves : need_of (knows 1 (Do (SetPose 3) ∷ [])) 0 ≡ held (Some Moving)
  pub closes : need_of (knows 1 (Do (SetPose 2) ∷ [])) 0 ≡ hosted Closed
  pub closes_held : need_of (knows 1 (Do (Claim 0) ∷ Do (SetPose 2) ∷ [])) 0 ≡ held (Some Closed)
  -- to have waited for a zone tells that it is held; its host still knows the posture
  pub awaited : need_of (knows 0 (Await 0 ∷ [])) 0 ≡ held None
  pub awaited_back : need_of (knows 1 (Do (SetPose 0) ∷ Do (Yield 0) ∷ Await 0 ∷ [])) 0 ≡ held (Some OpenIn)
  pub asks : need_of (knows 1 (Do (Claim 0) ∷ Do (Inquire 0) ∷ Do Stop ∷ Run 1 ∷ [])) 0 ≡ held None
  -- a call about one zone, or one place, tells nothing of another one
  pub other_zone : zone_facts lift_table (no_facts 0) (Claim 1) 0 ≡ no_need
  -- what the loader knows of its hand, a source, of its tray, a sink, and of a place that is both
  pub advanced : map (place_facts through_table (no_facts 0) (Advance 0)) (0 ∷ 1 ∷ 2 ∷ [])
      ≡ Some true ∷ None ∷ None ∷ []
  pub emptied : map (place_facts through_table (no_facts 0) (Advance 1)) (0 ∷ 1 ∷ 2 ∷ [])
      ≡ None ∷ Some false ∷ None ∷ []
  pub both_unknown : place_facts open_press_table (no_facts 0) (Advance 0) 0 ≡ None
  pub both_known : map
      (λ known. place_facts open_press_table (record (no_facts 0) { places = known ∷ [] }) (Advance 0) 0)
      (Some true ∷ Some false ∷ []) ≡ Some false ∷ Some true ∷ []
  pub other_place : place_facts lift_table (no_facts 0) (Take 1) 1 ≡ None
  pub both_move : zone_facts lift_table (no_facts 0) (SetPose 0) 1 ≡ held (Some Moving)
  -- a press with two robots: who comes to hold one zone of its space holds both, and who leaves one has left both
  pub claims_both : map (zone_facts robots_table (no_facts 1) (Claim 1)) (0 ∷ 1 ∷ [])
      ≡ held None ∷ held None ∷ []
  pub robot_claims : map (zone_facts robots_table (no_facts 2) (Claim 1)) (0 ∷ 1 ∷ [])
      ≡ held None ∷ held (Some OpenOut) ∷ []
  pub takes_one : needs (robots_know 1 (Do (Take 0) ∷ [])) ≡ held (Some OpenIn) ∷ held None ∷ []
  pub gives_one : needs (robots_know 1 (Do (SetPose 3) ∷ Do (SetPose 1) ∷ Do (Give 1) ∷ []))
      ≡ hosted Closed ∷ hosted OpenOut ∷ []
  pub yields_both : needs (robots_know 2 (Do (Take 1) ∷ Do (Yield 1) ∷ [])) ≡ no_need ∷ no_need ∷ []
  pub releases_both : needs (robots_know 1 (Do (SetPose 3) ∷ Do (SetPose 2) ∷ Do (Release 0) ∷ []))
      ≡ hosted Closed ∷ hosted Closed ∷ []
  pub awaits_both : needs (robots_know 1 (Await 1 ∷ [])) ≡ held None ∷ held None ∷ []

-- the press's motors, by their numbers: 0 the ram, 1 the loader's arm, 2 its arm with a plate, 3 a valve, 4 a heater,
-- 5 a fan
abbrev pub press_plan : MotorTables
press_plan = motor_plan press_table (ram ∷ arm ∷ loading_arm ∷ valve ∷ heater ∷ fan ∷ []) []

abbrev pub Accepts : ℕ → List Line → Type 0
Accepts m program = IsDriven press_plan m program

-- a program isn't accepted: this line runs this motor, which lacks this
abbrev pub Lacks : ℕ → List Line → ℕ → ℕ → Lack → Type 0
Lacks m program line motor lack = IsUndriven press_plan m program (record { line = line; motor = motor; lack = lack })

-- the press: it works with its ram and is loaded, without a plate that tells it of the zone
abbrev pub pressing : List Line
pressing =
    Do (Claim 0) ∷ Do (SetPose 3) ∷ Run 33 ∷ Do (SetPose 0) ∷ Do (Yield 0) ∷ Await 0 ∷ Do (SetPose 3) ∷ Run 1
    ∷ Do (SetPose 2) ∷ Do (Release 0) ∷ []

-- its loader
abbrev pub loading : List Line
loading = Await 0 ∷ Run 2 ∷ Do (Yield 0) ∷ []

pub record ProgramsAreRight : Type 0 where
  pub press : Accepts 1 pressing
  pub loader : Accepts 0 loading
  pub nothing : Accepts 1 []
  pub no_motors : Accepts 1 (Run 0 ∷ [])
  -- the fan runs while the press moves; the valve once a plate was given, the heater once it was taken
  pub plates : Accepts 1 (Do (Give 0) ∷ Run 8 ∷ Do (Take 0) ∷ Do (SetPose 2) ∷ Run 16 ∷ [])
  -- here it isn't known, and here the press is closed
  pub hasty : Lacks 1 (Do (Claim 0) ∷ Run 1 ∷ []) 1 0 (NotInPosture 0 Moving None)
  pub closed : Lacks 1 (Do (Claim 0) ∷ Do (SetPose 2) ∷ Run 1 ∷ []) 2 0 (NotInPosture 0 Moving (Some Closed))
  -- the zone was never claimed, or was left; and one that was left and wasn't awaited
  pub unclaimed : Lacks 0 (Run 2 ∷ []) 0 1 (NotHeld 0)
  pub left : Lacks 0 (Do (Claim 0) ∷ Do (Yield 0) ∷ Run 2 ∷ []) 2 1 (NotHeld 0)
  pub not_awaited : Lacks 1 (Do (SetPose 3) ∷ Do (SetPose 0) ∷ Do (Yield 0) ∷ Run 1 ∷ []) 3 0 (NotHeld 0)
  -- the round that comes after begins with nothing known
  pub round_end : Lacks 1 (Run 32 ∷ Do (SetPose 3) ∷ []) 0 5 (NotInPosture 0 Moving None)
  pub full : Lacks 1 (Do (Take 0) ∷ Run 8 ∷ []) 1 3 (NotFilled 1 false (Some true))
  pub unknown_place : Lacks 1 (Run 8 ∷ []) 0 3 (NotFilled 1 false None)
  pub others_motor : Lacks 0 (Do (Claim 0) ∷ Run 3 ∷ []) 1 0 (OtherMachine 1)
  pub no_motor : Lacks 1 (Run 64 ∷ []) 0 6 NoSuchMotor
  -- bit 63 alone: 2 ^ 63
  pub last_motor : Lacks 1 (Do (Claim 0) ∷ Run 9223372036854775808 ∷ []) 1 63 NoSuchMotor

-- the press claims its zone, is refused, moves, opens and yields; the loader inquires, and owns the zone
abbrev pub opening : List Event
opening =
    did 1 (Claim 0) ∷ refused 0 (Claim 0) (Held 1) ∷ refused 1 (SetPose 0) (Shut Closed) ∷ did 1 (SetPose 3)
    ∷ did 1 (SetPose 0) ∷ did 1 (Yield 0) ∷ []

pub record CoursesAreRight : Type 0 where
  pub others_call : Stays (did 0 (Claim 0) ∷ refused 1 (Claim 0) (Held 0) ∷ []) 1
  pub own_inquiry : Stays (event 1 (Inquire 0) (Shown None false Closed) ∷ []) 1
  pub own_call : ¬ Stays (did 0 (Claim 0) ∷ did 1 (SetPose 3) ∷ []) 1
  -- the press has gone so far, and the loader's zone has come to it
  pub press : GoesThrough press_table press_start opening 1
      (Do (Claim 0) ∷ Do (SetPose 3) ∷ Run 33 ∷ Do (SetPose 0) ∷ Do (Yield 0) ∷ [])
  pub loader : GoesThrough press_table press_start opening 0 (Await 0 ∷ [])
  pub loader_runs : IsRunning press_table press_start opening 0 loading 1
  -- the press runs its ram while it moves
  pub press_runs : IsRunning press_table press_start (did 1 (Claim 0) ∷ did 1 (SetPose 3) ∷ []) 1 pressing 0
  -- in its second round
  pub next_round : HasCome press_table press_start (opening ++ did 0 (Yield 0) ∷ []) 0 loading 0
  -- at the start the loader owns nothing, and no call was done
  pub not_yet : ¬ GoesThrough press_table press_start [] 0 (Await 0 ∷ [])
  pub not_done : ¬ GoesThrough press_table press_start [] 1 (Do (Claim 0) ∷ [])
  -- the press's call is another one
  pub other_call : ¬ GoesThrough press_table press_start (did 1 (Claim 0) ∷ []) 1 (Do (SetPose 3) ∷ [])

-- ---- who is in step, as after a power cut

abbrev pub InStep : List Event → ℕ → List Line → ℕ → Type 0
InStep history m program k = IsInStep press_table (after press_table press_start history) m program k

-- a program that isn't the loader's: it sets a pose of the press
abbrev pub meddling : List Line
meddling = Do (SetPose 2) ∷ Run 0 ∷ []

abbrev pub AreAt : List Event → List ℕ → Type 0
AreAt history lines = AreInStep press_table (after press_table press_start history) (loading ∷ pressing ∷ []) lines

-- of the two at these lines this one is out of step, and those before it aren't
abbrev pub FirstOut : List Event → List ℕ → ℕ → Type 0
FirstOut history lines m =
    IsFirstOutOfStep press_table (after press_table press_start history) (loading ∷ pressing ∷ []) lines m

pub record ResumesAreRight : Type 0 where
  pub first_line : InStep [] 1 pressing 0
  -- the press moves: it is at its run, or past it, and its pose isn't done yet
  pub press : InStep (did 1 (Claim 0) ∷ did 1 (SetPose 3) ∷ []) 1 pressing 2
  pub past_its_run : InStep (did 1 (Claim 0) ∷ did 1 (SetPose 3) ∷ []) 1 pressing 3
  pub too_far : ¬ InStep (did 1 (Claim 0) ∷ did 1 (SetPose 3) ∷ []) 1 pressing 4
  pub not_moving : ¬ InStep (did 1 (Claim 0) ∷ []) 1 pressing 2
  -- the loader's zone has come to it, or hasn't
  pub loader : InStep opening 0 loading 1
  pub holds_nothing : ¬ InStep [] 0 loading 1
  pub past_the_end : ¬ InStep opening 0 loading 3
  pub no_line : ¬ InStep [] 1 [] 0
  -- the press is closed, as the loader's program tells; but the press may move it
  pub not_its_own : ¬ InStep [] 0 meddling 1
  pub both : AreAt opening (1 ∷ 5 ∷ [])
  pub second_out : FirstOut opening (1 ∷ 6 ∷ []) 1
  pub both_out : FirstOut opening (3 ∷ 6 ∷ []) 0
  -- from its first line, and from its run, to the run in the next round
  pub goes_on : HasComeFrom press_table press_start opening 0 loading 0 1
  pub next_round : HasComeFrom press_table (after press_table press_start opening) (did 0 (Yield 0) ∷ []) 0 loading 1 0
  pub not_back : ¬ HasComeFrom press_table (after press_table press_start opening) [] 0 loading 1 0
