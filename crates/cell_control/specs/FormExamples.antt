-- A small program, and what the forms of rows, turns, controllers and lines say of it.
use Rattle.std.specs.Prelude.{◌≡◌, ◌≢◌, ⊤, ℕ, zero, suc, ◌+◌, ◌<◌, ◌≤◌, ◌⊎◌, Bool, true, false, List}
use Rattle.std.specs.Prelude.{[], ◌∷◌, Option, Some, None}
use Rattle.std.specs.Prelude.{Result, Ok, Err}
use Rattle.cell_rules.specs.Types.{Machine, Posture, Press, Robot, Z2, Z3, Call, Claim, Give, Inquire, Release, Held}
use Rattle.cell_rules.specs.Types.{NoPlate, Reply}
use Rattle.cell_rules.specs.Types.{Done, Refused, Shown, OpenIn, Settled, Event}
use Rattle.cell_rules.specs.Names.{ModelState, IsLegal, IsSameFor, IsSound, after, heard_after}
use Rattle.cell_rules.specs.declared.heard.Heard.{Heard}
use Rattle.cell_rules.specs.declared.heard.LineFault.{LineFault}
use Rattle.cell_sensors.specs.declared.sense.SensorFault.TheVariants.{High}
use Rattle.cell_control.specs.declared.controller.Controller.{Controller}
use Rattle.cell_control.specs.declared.controller.TakenTurn.{TakenTurn}
use Rattle.cell_control.specs.declared.fault.CtlFault.{CtlFault}
use Rattle.cell_control.specs.declared.fault.CtlFault.TheVariants.{Memory}
use Rattle.cell_control.specs.declared.row.Row.{Row}
use Rattle.cell_control.specs.declared.row.Waits.TheVariants as waits
use Rattle.cell_control.specs.Controllers.{program_in, step_in, stopped_in, rest_in, OwnsLine, HasReached, TakesTurnBy}
use Rattle.cell_control.specs.Controllers.{AsksAndHears, GoesOnBy, HearsBy, MeetsDemands}
use Rattle.cell_control.specs.Row.{row_that_asks, row_that_drives, with_waits}
use Rattle.cell_control.specs.Rows.{AskRow, CheckRow, DriveRow, InquiryRow, NoOtherAnswers, UntilFree, UntilOpen}
use Rattle.cell_control.specs.Rows.{UntilRoom, is_inquiry}
use Rattle.cell_control.specs.Steps.{Drives, GoesOn, IsCarriedOver, IsReached, MeetsDemandsOnceReached, Steps}
use Rattle.cell_control.specs.Steps.{program_of, with_senses}
use Rattle.cell_control.specs.Turns.{answered, at_rest, turned}
use Rattle.cell_control.specs.Wiring.{GoesOnWired, IsUnwired, IsWired, TurnsWired, wiring_of}

pub data SmallStep : Type 0 where
  Claiming : SmallStep
  Falling : SmallStep
  Rising : SmallStep
  Stuck : SmallStep
  Inquiring : SmallStep
  Prying : SmallStep
  Giving : SmallStep

-- one claims a zone and waits until it is free, two inquire one, one of them waits, and one gives a plate and waits for
-- room; the others drive
abbrev pub row_at : SmallStep → Row SmallStep
row_at Claiming = with_waits (row_that_asks (Claim Z3) Falling) waits.UntilFree
row_at Falling = row_that_drives Falling
row_at Rising = row_that_drives Rising
row_at Stuck = row_that_drives Stuck
row_at Inquiring = row_that_asks (Inquire Z2) Inquiring
row_at Prying = with_waits (row_that_asks (Inquire Z2) Prying) waits.UntilFree
row_at Giving = with_waits (row_that_asks (Give Z3) Stuck) waits.UntilRoom

-- one inquiry goes on if a plate is in the zone
abbrev pub shown_at : SmallStep → Option Machine → Bool → Posture → SmallStep
shown_at Inquiring owner true posture = Stuck
shown_at p owner flag posture = p

-- what a step may do by a reading, and where that leads
abbrev pub drives_at : SmallStep → ℕ → ℕ → Type 0
drives_at Stuck reading act = ⊥
drives_at Falling reading act = act ≤ reading
drives_at p reading act = act ≡ reading + 1

abbrev pub led_by : ℕ → SmallStep
led_by zero = Inquiring
led_by (suc act) = Giving

abbrev pub rest_at : ℕ → SmallStep → ℕ
rest_at rest Giving = rest + 4
rest_at rest p = rest

-- a sensor says what it shows: nothing at 0, and either that or a fault above 9
abbrev pub small : Steps SmallStep ℕ ℕ ℕ
small = record {
  machine = Press;
  start = λ s. Claiming;
  row = row_at;
  after_inquiry = shown_at;
  senses = λ sense said. ((said ≡ Ok sense) × (0 < sense)) ⊎ ((said ≡ Err High) × (9 < sense));
  drives = drives_at;
  after_drive = λ p reading act. led_by act;
  rest = rest_at 100;
  motor_demands = λ p act opening seen. act ≡ rest_at 1 p;
}

pub record RowExamples : Type 0 where
  pub asking : row_that_asks (Claim Z3) Rising ≡ record { call = Some (Claim Z3); waits = waits.Never; next = Rising }
  pub driving : row_that_drives Stuck ≡ record { call = None; waits = waits.Never; next = Stuck }
  pub waiting : with_waits (row_that_asks (Give Z2) Giving) waits.UntilRoom
      ≡ record { call = Some (Give Z2); waits = waits.UntilRoom; next = Giving }
  pub inquires : is_inquiry (Some (Inquire Z3)) ≡ true
  pub claims : is_inquiry (Some (Claim Z3)) ≡ false
  pub drives : is_inquiry None ≡ false

pub record AskExamples : Type 0 where
  pub claims : AskRow small Claiming (Claim Z3) (UntilFree ∷ []) Falling
  pub gives : AskRow small Giving (Give Z3) (UntilRoom ∷ []) Stuck
  pub other_call : ¬ AskRow small Claiming (Release Z3) (UntilFree ∷ []) Falling
  pub other_zone : ¬ AskRow small Claiming (Claim Z2) (UntilFree ∷ []) Falling
  pub waits_for_nothing : ¬ AskRow small Claiming (Claim Z3) [] Falling
  pub waits_for_more : ¬ AskRow small Claiming (Claim Z3) (UntilFree ∷ UntilOpen ∷ []) Falling
  pub other_wait : ¬ AskRow small Giving (Give Z3) (UntilOpen ∷ []) Stuck
  pub other_next : ¬ AskRow small Claiming (Claim Z3) (UntilFree ∷ []) Rising
  pub inquires : InquiryRow small Inquiring Z2 (shown_at Inquiring)
  pub inquires_another : ¬ InquiryRow small Inquiring Z3 (shown_at Inquiring)
  pub inquires_and_waits : ¬ InquiryRow small Prying Z2 (shown_at Prying)
  pub leads_elsewhere : ¬ InquiryRow small Inquiring Z2 (λ owner flag posture. Inquiring)

pub record DriveExamples : Type 0 where
  pub drives : DriveRow small Falling 0 0 Inquiring
  pub further : DriveRow small Rising 2 3 Giving
  pub asks : ¬ DriveRow small Claiming 2 3 Giving
  pub drives_not : ¬ DriveRow small Stuck 0 0 Inquiring
  pub drives_otherwise_too : ¬ DriveRow small Falling 1 0 Inquiring
  pub leads_elsewhere : ¬ DriveRow small Falling 0 0 Giving
  pub moves : Drives small Rising Giving
  pub moves_not_on : ¬ Drives small Rising Inquiring
  pub moves_not_where_it_asks : ¬ Drives small Claiming Giving
  pub moves_not_blindly : ¬ Drives (with_senses small (λ sense said. ⊥)) Rising Giving
  pub moves_not_by_a_fault : ¬ Drives (with_senses small (λ sense said. said ≡ Err High)) Rising Giving
  pub moves_not_idly : ¬ Drives (record small { drives = λ p reading act. ⊥ }) Rising Giving

pub record CheckExamples : Type 0 where
  pub says : CheckRow small 3 (Ok 3)
  pub says_another : ¬ CheckRow small 3 (Ok 4)
  pub says_nothing : ¬ CheckRow small 0 (Ok 0)
  pub says_two : ¬ CheckRow small 10 (Ok 10)
  pub two_said : small.senses 10 (Err High)
  pub by_others : (with_senses small (λ sense said. said ≡ Err High)).senses 10 (Err High)
  pub not_by_others : ¬ ((with_senses small (λ sense said. said ≡ Err High)).senses 10 (Ok 10))
  pub the_rest_stays : (with_senses small (λ sense said. ⊥)).row Claiming ≡ row_at Claiming

pub record AnswerExamples : Type 0 where
  pub none : NoOtherAnswers small
  pub done_inquiry : ¬ NoOtherAnswers (record small { row = λ p. row_that_asks (Inquire Z2) Stuck })
  pub shown_elsewhere : ¬ NoOtherAnswers (record small { after_inquiry = λ p owner flag posture. Stuck })
  pub drive_that_waits : ¬ NoOtherAnswers (record small {
    row = λ p. with_waits (row_that_drives p) waits.UntilFree;
    after_inquiry = λ p owner flag posture. p;
  })
  pub of_machine : (program_of small).machine ≡ Press
  pub calls : (program_of small).call Giving ≡ Some (Give Z3)
  pub done : (program_of small).leads Claiming Done Falling
  pub done_elsewhere : ¬ ((program_of small).leads Claiming Done Claiming)
  pub waits : (program_of small).leads Claiming (Refused (Held Robot)) Claiming
  pub stops : ¬ ((program_of small).leads Claiming (Refused NoPlate) Claiming)
  pub shown : (program_of small).leads Inquiring (Shown None true OpenIn) Stuck
  pub moves : (program_of small).moves Rising Giving

-- a program by its commands at rest; it runs, or has stopped at its last step
abbrev pub by : ℕ → Steps SmallStep ℕ ℕ ℕ
by rest = record small { rest = rest_at rest }

abbrev pub running : SmallStep → Controller ℕ SmallStep ℕ ℕ ℕ
running p = record { program = 7; progress = p; stopped = None }

abbrev pub stopped : Controller ℕ SmallStep ℕ ℕ ℕ
stopped = record { program = 7; progress = Giving; stopped = Some Memory }

-- a turn of the small program that asks, by any answer; its sensors show 3
abbrev pub Takes : Controller ℕ SmallStep ℕ ℕ ℕ → TakenTurn ℕ → Controller ℕ SmallStep ℕ ℕ ℕ → Type 0
Takes before taken now = TakesTurnBy by (λ sense. sense ≡ 3) ⊤ (λ call reply. ⊤) before taken now

pub record ControllerExamples : Type 0 where
  pub program : program_in stopped ≡ 7
  pub step : step_in stopped ≡ Giving
  pub fault : stopped_in stopped ≡ Some Memory
  pub rest : rest_in by stopped ≡ 11
  pub owns_line : OwnsLine by (running Giving) Press
  pub owns_no_other : ¬ OwnsLine by (running Giving) Robot
  pub stopped_on_any_line : OwnsLine by stopped Robot
  pub stopped_anywhere : (opening : ModelState) (seen : List Event) → HasReached by stopped opening seen
  pub reached : (opening : ModelState) (seen : List Event) → HasReached by (running Giving) opening seen
      → IsReached (by 7) opening seen Giving
  pub demands : (opening : ModelState) (seen : List Event) → MeetsDemands by (running Giving) 5 opening seen
  pub demands_not : (opening : ModelState) (seen : List Event) → ¬ MeetsDemands by (running Giving) 4 opening seen
  pub asks : Takes (running Claiming) (record {
    told = record { act = 7; fault = None };
    asked = Some (Claim Z3, Ok (Settled Done 5));
  }) (running Falling)
  pub tells_what_it_asks : ¬ Takes (running Claiming) (record {
    told = record { act = 7; fault = None };
    asked = Some (Release Z3, Ok (Settled Done 5));
  }) (running Falling)
  pub asks_what_it_tells : ¬ Takes (running Claiming) (record {
    told = record { act = 7; fault = None };
    asked = None;
  }) (running Falling)
  pub stopped_asks_nothing : ¬ Takes stopped (record {
    told = record { act = 11; fault = Some Memory };
    asked = Some (Claim Z3, Ok (Settled Done 5));
  }) stopped
  pub well : answered {Act = ℕ} 3 None ≡ Ok 3
  pub faulty : (fault : CtlFault) → answered {Act = ℕ} 3 (Some fault) ≡ Err fault
  pub with_commands : at_rest {Act = ℕ} 3 (Ok Rising) ≡ Ok (Rising, 3)
  pub with_fault : (fault : CtlFault) → at_rest {S = SmallStep} {Act = ℕ} 3 (Err fault) ≡ Err fault
  pub turned_well : turned {Act = ℕ} Giving (Ok (Rising, 3))
      ≡ record { result = Ok 3; progress = Rising; stopped = None }
  pub turned_faulty : (fault : CtlFault) → turned {Act = ℕ} Giving (Err fault)
      ≡ record { result = Err fault; progress = Giving; stopped = Some fault }

-- a machine on its line, and off it; one that has stopped may be at any step
pub record WiringExamples : Type 0 where
  pub wiring : wiring_of Rising Falling (Some Memory) Stuck
      ≡ record { program = Rising; progress = Falling; stopped = Some Memory; line = Stuck }
  pub stopped : (opening : ModelState) (seen : List Event) → IsWired small Press opening seen (Some Memory) Stuck
  pub other_line : (opening : ModelState) (seen : List Event) → ¬ IsWired small Robot opening seen (Some Memory) Stuck
  pub running : (opening : ModelState) (seen : List Event) → IsWired small Press opening seen None Stuck
      → IsReached small opening seen Stuck
  pub stopped_off_line : (left : ModelState) → IsSound left → IsUnwired small Press left (Some Memory) Stuck
  pub other_off_line : (left : ModelState) → ¬ IsUnwired small Robot left (Some Memory) Stuck
  pub sound_off_line : (left : ModelState) → ¬ (IsSound left) → ¬ IsUnwired small Press left (Some Memory) Stuck
  pub running_off_line : (left : ModelState) → IsUnwired small Press left None Stuck → IsReached small left [] Stuck

-- a machine goes on where its step leads, and no other way; one that has stopped has nothing to show
abbrev pub GoesOnLine : Option CtlFault → SmallStep → SmallStep → Type 0
GoesOnLine fault p q =
    GoesOnWired {P = ℕ} small (λ seen. seen) (wiring_of 7 p None []) (wiring_of 7 q fault [])

abbrev pub GoesOnFrom : Controller ℕ SmallStep ℕ ℕ ℕ → Controller ℕ SmallStep ℕ ℕ ℕ → Type 0
GoesOnFrom before now = GoesOnBy (λ program. small) before [] now []

pub record GoingExamples : Type 0 where
  pub drives : GoesOn small [] Rising [] Giving
  pub asks_first : ¬ GoesOn small [] Claiming [] Falling
  pub controller_drives : GoesOnFrom (running Rising) (running Giving)
  pub controller_asks_first : ¬ GoesOnFrom (running Claiming) (running Falling)
  pub controller_stops : GoesOnFrom (running Claiming) stopped
  pub line_drives : GoesOnLine None Rising Giving
  pub line_asks_first : ¬ GoesOnLine None Claiming Falling
  pub line_stops : GoesOnLine (Some Memory) Claiming Falling

-- a line has heard the call of a turn, with what came back
abbrev pub ClaimsOnLine : Heard → Heard → Type 0
ClaimsOnLine before now =
    TurnsWired {P = ℕ} small (λ line call reply next. reply ≡ Ok (Settled Done 5)) (λ line. line)
    (wiring_of 7 Claiming None before) 3 (record { act = 100; fault = None }) (wiring_of 7 Falling None now)

pub record HearingExamples : Type 0 where
  pub hears : (heard : Heard) → ClaimsOnLine heard (heard_after heard (Claim Z3) (Ok (Settled Done 5)))
  pub hears_no_other : (before now : Heard) → ClaimsOnLine before now
      → now ≡ heard_after before (Claim Z3) (Ok (Settled Done 5))

-- a line that is its own hearing hears what came back from what it asked; a turn of a controller is heard by what its
-- step asks once its sensors are checked
abbrev pub Asks : Call → Heard → Heard → Call → Result Reply LineFault → Type 0
Asks only before now call reply = AsksAndHears (λ was c r is. c ≡ only) (λ line. line) before now call reply

abbrev pub HearsAtThree : Controller ℕ SmallStep ℕ ℕ ℕ → Heard → Heard → Type 0
HearsAtThree c before now = HearsBy by c 3 before now

pub record LineExamples : Type 0 where
  pub asks : (before : Heard) (c : Call) (r : Result Reply LineFault) → Asks c before (heard_after before c r) c r
  pub asks_another : (before now : Heard) (c other : Call) (r : Result Reply LineFault) → c ≢ other
      → ¬ Asks other before now c r
  pub hears_another : (before now : Heard) (c : Call) (r : Result Reply LineFault) → now ≢ heard_after before c r
      → ¬ Asks c before now c r
  pub hears_what_it_asks : (before now : Heard) → HearsAtThree (running Claiming) before now
      → (r : Result Reply LineFault) × (now ≡ heard_after before (Claim Z3) r)
  pub hears_any_reply : (before : Heard) (r : Result Reply LineFault)
      → HearsAtThree (running Claiming) before (heard_after before (Claim Z3) r)
  pub hears_nothing : (before now : Heard) → HearsAtThree (running Rising) before now → now ≡ before
  pub stopped_hears_nothing : (before now : Heard) → HearsAtThree stopped before now → now ≡ before
  pub unread_hears_nothing : (before now : Heard)
      → HearsBy (λ program. with_senses small (λ sense said. said ≡ Err High)) (running Claiming) 3 before now
      → now ≡ before

-- what a step that was carried over needs of the interlock before, each thing alone; and when the demands of motors are
-- met once a step is reached
pub record CarryingExamples : Type 0 where
  pub carried : (p : SmallStep) (s : ModelState) → IsSound s
      → IsCarriedOver small (λ first opening. (first ≡ p) × (opening ≡ s)) p s
  pub not_in_step : (p : SmallStep) (s : ModelState) → ¬ IsCarriedOver small (λ first opening. ⊥) p s
  pub unsound : (p : SmallStep) (s : ModelState) → ¬ IsCarriedOver small (λ first opening. ¬ IsSound opening) p s
  pub came_not : (s : ModelState) → ¬ IsCarriedOver small (λ first opening. first ≡ Stuck) Rising s
  pub same : (p : SmallStep) (s : ModelState) → IsCarriedOver small (λ first opening. ⊤) p s
      → (opening : ModelState) × (seen : List Event) × IsLegal opening seen × IsSameFor Press (after opening seen) s
  pub meets : MeetsDemandsOnceReached small Rising 1
  pub any_while_it_asks : MeetsDemandsOnceReached small Claiming 4
  pub meets_not : ¬ MeetsDemandsOnceReached (record small { start = λ s. Rising }) Rising 4

pub record FormsAreMet : Type 0 where
  pub rows : RowExamples
  pub asks : AskExamples
  pub drives : DriveExamples
  pub checks : CheckExamples
  pub answers : AnswerExamples
  pub controllers : ControllerExamples
  pub wirings : WiringExamples
  pub going : GoingExamples
  pub hearing : HearingExamples
  pub lines : LineExamples
  pub carrying : CarryingExamples
