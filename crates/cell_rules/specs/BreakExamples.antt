-- More examples of what breaks a law, each breaking one thing of it; and of what keeps one by little.
use Rattle.std.specs.Prelude.{◌≡◌, ◌≢◌, ℕ, true, false, List, [], ◌∷◌, length, Some, None, Result, Ok, Err, IsTrue}
use Rattle.cell_rules.specs.Types.{Machine, Feed, Robot, Press, Deposit, Watch, Z1, Z3, Z4, Z5, Z6, FeedEntry}
use Rattle.cell_rules.specs.Types.{FeedEnd, Arm2, PressIn, DepEntry, DepEnd, Posture, Closed, Moving, OpenIn}
use Rattle.cell_rules.specs.Types.{OpenOut, Turning, Unloading, Travelling, Middle, Low, Top, Running, Landing}
use Rattle.cell_rules.specs.Types.{Halted, Standing, Call, Claim, Give, Yield, Take, Release, SetPose, Advance, Stop}
use Rattle.cell_rules.specs.Types.{Resume, Jump, Worn, NotParty, NotAtWork, Done, Refused, Event, Settled, Busy}
use Rattle.cell_rules.specs.Types.{Answer, Reply}
use Rattle.cell_rules.specs.declared.bench.Bench.{Bench}
use Rattle.cell_rules.specs.declared.heard.LineFault.{LineFault}
use Rattle.cell_rules.specs.declared.heard.LineFault.TheVariants.{Memory}
use Rattle.cell_types.specs.declared.machine.Machine.TheVariants.{Table as TableMachine, Crane as CraneMachine}
use Rattle.cell_rules.specs.Audited.{IsAudited, HasNoHistory}
use Rattle.cell_rules.specs.Benches.{Desk, BenchAsks}
use Rattle.cell_rules.specs.BenchView.{desk_of, heard_of}
use Rattle.cell_rules.specs.FirstVersion as first
use Rattle.cell_rules.specs.FirstVersion.{has_call}
use Rattle.cell_rules.specs.LawExamples.{table_with, unused, only, claim_of_press, after_claim}
use Rattle.cell_rules.specs.Laws.{BeltsRunClear, ChangesAreCounted, EventsFit, GuestOnlyWhileOpen, HandoverByHolder}
use Rattle.cell_rules.specs.Laws.{Lawful, MoverIsHost, NoJump, OneHolder, PlatesAreKept, PostureByEvents, RightLasts}
use Rattle.cell_rules.specs.Laws.{RunsClear, StampCountsChanges, StaysSound, StoppedUntilResumed, Throughout, done}
use Rattle.cell_rules.specs.ModelState.{ModelState, model_state}
use Rattle.cell_rules.specs.PlaceSet.{PlaceSet, empty, insert_place}
use Rattle.cell_rules.specs.RefusalLaws.{IsRefusedBy, RefusalsTellAlong, refused}
use Rattle.cell_rules.specs.Reply.{reply, next}
use Rattle.cell_rules.specs.Restamping.{IsSameFor}
use Rattle.cell_rules.specs.Seen.{BeginsWith, SeenAfter, Settles, Waits, event}
use Rattle.cell_rules.specs.StateExamples.{cell_with, free_in, held_in, with_plate}
use Rattle.cell_rules.specs.StopLaws.{running}
use Rattle.cell_rules.specs.Stored.{IsHistory}
use Rattle.cell_rules.specs.ZoneMap.{everywhere, free_zone, put_zone}

-- all zones are free and Closed, and the cell is stopped
abbrev pub halted_cell : ModelState
halted_cell = record unused { stopped = true }

abbrev pub full_at : Machine → Posture → PlaceSet → ModelState
full_at m q full = cell_with Z3 (held_in m q) full

pub record HolderBreaks : Type 0 where
  pub two_holders : ¬ OneHolder (cell_with Z3 (held_in Press OpenIn) empty) (only Robot (Claim Z3))
  pub held_by_stranger : ¬ OneHolder (cell_with Z5 (held_in Robot OpenOut) empty) []
  pub held_but_not_owned : ¬ OneHolder halted_cell (only Feed (Claim Z6))
  pub owned_but_not_held : ¬ OneHolder (cell_with Z3 (held_in Press Moving) empty) (only Press (Release Z3))
  pub table_turns_unheld : ¬ MoverIsHost (cell_with Z1 (free_in Moving) empty) []
  pub deposit_runs_unheld : ¬ MoverIsHost (cell_with Z5 (free_in Moving) empty) []
  pub feed_runs_unheld : ¬ MoverIsHost (cell_with Z6 (free_in Moving) empty) []
  pub feed_at_closed_table : ¬ GuestOnlyWhileOpen (cell_with Z1 (held_in Feed Closed) empty) []
  pub robot_at_moving_belt : ¬ GuestOnlyWhileOpen (cell_with Z4 (held_in Robot Moving) empty) []
  pub crane_at_closed_feed : ¬ GuestOnlyWhileOpen (cell_with Z6 (held_in CraneMachine Closed) empty) []
  -- by the events feed holds z6, but its claim came while the cell was stopped
  pub gives_unowned : ¬ HandoverByHolder halted_cell (done Feed (Claim Z6) ∷ done Feed (Give Z6) ∷ [])
  pub yields_unowned : ¬ HandoverByHolder halted_cell (done Feed (Claim Z6) ∷ done Feed (Yield Z6) ∷ [])
  pub takes_unowned : ¬ HandoverByHolder halted_cell (done Feed (Claim Z6) ∷ done Feed (Take Z6) ∷ [])
  pub releases_unowned : ¬ HandoverByHolder halted_cell (done Feed (Claim Z6) ∷ done Feed (Release Z6) ∷ [])

pub record CountBreaks : Type 0 where
  pub place_from_nowhere : ¬ PlatesAreKept unused (only Press Advance)
  pub one_of_two_is_lost :
      ¬ PlatesAreKept (cell_with Z3 (with_plate (held_in Press OpenIn)) (insert_place empty PressIn))
      (only Press (Take Z3))
  pub second_without_stamp : ¬ StampCountsChanges unused (done Feed (Claim Z6) ∷ done Press (Yield Z3) ∷ [])
  pub halt_without_posture : ¬ PostureByEvents (cell_with Z6 (held_in Feed Moving) empty) (only Feed Advance)
  pub unsound : ¬ StaysSound (cell_with Z4 (held_in Feed OpenIn) empty) []
  pub changed_by_others :
      ¬ RightLasts (full_at Press Closed (insert_place empty PressIn)) (only Robot (Claim Z3))
      (only Press (SetPose Travelling))

-- after the first event of two, after both, and before any
pub record PrefixBreaks : Type 0 where
  pub first : ¬ Throughout (λ h. length h ≢ 1) (done Watch Stop ∷ done Watch Resume ∷ [])
  pub all : ¬ Throughout (λ h. length h ≢ 2) (done Watch Stop ∷ done Watch Resume ∷ [])
  pub none : ¬ Throughout (λ h. length h ≢ 0) (done Watch Stop ∷ done Watch Resume ∷ [])

-- an event with any other answer than Done changes the state, if its call may be done, and isn't counted by the events
abbrev pub halts_uncounted : Machine → List Event
halts_uncounted m = event m (SetPose Halted) (Refused Jump) ∷ []

pub record BeltBreaks : Type 0 where
  pub feed_holds_z1 : RunsClear
      (model_state (put_zone (put_zone (everywhere free_zone) Z6 (held_in Feed Moving)) Z1 (held_in Feed OpenIn))
      (insert_place empty FeedEnd) 0 false)
  pub end_is_empty : RunsClear (cell_with Z5 (held_in Deposit Moving) (insert_place empty DepEntry))
  pub feed : ¬ BeltsRunClear (cell_with Z6 (held_in Feed Moving) (insert_place empty FeedEnd)) (halts_uncounted Feed)
  pub entry :
      ¬ BeltsRunClear (cell_with Z4 (held_in Deposit Moving) (insert_place empty DepEnd)) (halts_uncounted Deposit)
  pub end :
      ¬ BeltsRunClear (cell_with Z5 (held_in Deposit Moving) (insert_place empty DepEnd)) (halts_uncounted Deposit)
  -- by the events the belt has halted, in the state it runs
  pub state : ¬ BeltsRunClear
      (cell_with Z4 (with_plate (held_in Deposit Moving)) (insert_place empty DepEnd)) (only Deposit (SetPose Halted))

pub record FittingBreaks : Type 0 where
  pub moves_unheld : ¬ EventsFit unused (only Press (SetPose Travelling))
  pub shuts_unheld : ¬ EventsFit (cell_with Z3 (free_in Moving) empty) (only Press (SetPose Top))
  pub opens_outward_unheld : ¬ EventsFit (cell_with Z3 (free_in Moving) empty) (only Press (SetPose Low))
  pub feed_opens_onto_full :
      ¬ EventsFit (cell_with Z6 (held_in Feed Moving) (insert_place empty FeedEntry)) (only Feed (SetPose Landing))
  pub deposit_opens_onto_full :
      ¬ EventsFit (cell_with Z4 (held_in Deposit Moving) (insert_place empty DepEntry)) (only Deposit (SetPose Landing))
  pub deposit_stands_onto_full :
      ¬ EventsFit (cell_with Z4 (held_in Deposit Closed) (insert_place empty DepEntry))
      (only Deposit (SetPose Standing))
  pub press_opens_onto_full :
      ¬ EventsFit (full_at Press Moving (insert_place empty PressIn)) (only Press (SetPose Middle))
  pub table_jumps : ¬ EventsFit (table_with OpenIn Moving empty) (only TableMachine (SetPose Unloading))
  pub press_jumps_open : ¬ EventsFit (full_at Press OpenOut empty) (only Press (SetPose Middle))
  pub stands_after_a_stop : ¬ EventsFit unused (done Watch Stop ∷ done Feed Advance ∷ [])
  pub unloads_standing : ¬ NoJump (table_with Moving Closed empty) (only TableMachine (SetPose Unloading))
  pub unloads_open : ¬ NoJump (table_with OpenIn Moving empty) (only TableMachine (SetPose Unloading))
  pub lowers_standing : ¬ NoJump (full_at Press OpenIn empty) (only Press (SetPose Low))
  pub opens_standing : ¬ NoJump (full_at Press Closed empty) (only Press (SetPose Middle))
  pub jumps_after_a_stop : ¬ NoJump (full_at Press Closed empty) (done Watch Stop ∷ done Press (SetPose Low) ∷ [])

pub record StopBreaks : Type 0 where
  pub stop_without_mark : ¬ StoppedUntilResumed (record unused { stamp = 1048575 }) (only Watch Stop)
  pub mark_without_stop : ¬ StoppedUntilResumed unused (event Watch Stop (Refused Jump) ∷ [])
  pub gives_while_stopped : ¬ StoppedUntilResumed halted_cell (only Robot (Give Z4))
  pub turns_while_stopped : ¬ StoppedUntilResumed halted_cell (only TableMachine (SetPose Turning))
  pub travels_while_stopped : ¬ StoppedUntilResumed halted_cell (only Press (SetPose Travelling))
  pub runs_while_stopped : ¬ StoppedUntilResumed halted_cell (only Deposit (SetPose Running))
  pub claims_after_a_stop : ¬ StoppedUntilResumed unused (done Watch Stop ∷ done Feed (Claim Z6) ∷ [])
  pub stops_by_feed : ¬ StoppedUntilResumed unused (only Feed Stop)
  pub resumes_by_press : ¬ StoppedUntilResumed halted_cell (only Press Resume)

-- a refusal without its cause; and a call that isn't refused, or only for what comes later in its order
pub record RefusalBreaks : Type 0 where
  pub without_cause : ¬ RefusalsTellAlong unused (refused Press (Claim Z3) Worn ∷ [])
  pub second_without_cause : ¬ RefusalsTellAlong unused (done Press (Claim Z3) ∷ refused Press (Claim Z3) NotParty ∷ [])
  pub not_refused : ¬ IsRefusedBy unused Press (Claim Z3) Worn
  pub later_only : ¬ IsRefusedBy (record unused { stamp = 1048575 }) Press (Claim Z3) NotParty

-- the press's claim, that of feed, and feed's second call
abbrev pub press_claims : Event
press_claims = done Press (Claim Z3)

abbrev pub feed_claims : Event
feed_claims = done Feed (Claim Z6)

abbrev pub feed_waits : Event
feed_waits = refused Feed Advance NotAtWork

abbrev pub tries : List Event → List Event → Type 0
tries before now = Settles Feed Advance (Refused NotAtWork) before now

pub record SeenExamples : Type 0 where
  pub begins : BeginsWith (feed_claims ∷ press_claims ∷ []) (feed_claims ∷ [])
  pub forgets : ¬ BeginsWith [] (feed_claims ∷ [])
  pub another : ¬ BeginsWith (press_claims ∷ feed_claims ∷ []) (feed_claims ∷ [])
  pub settles : tries (feed_claims ∷ []) (feed_claims ∷ press_claims ∷ feed_waits ∷ [])
  pub own_call_missed : ¬ tries (feed_claims ∷ []) (feed_claims ∷ done Feed (Release Z6) ∷ feed_waits ∷ [])
  pub not_called : ¬ tries (feed_claims ∷ []) (feed_claims ∷ press_claims ∷ [])
  pub waits : Waits Feed (feed_claims ∷ []) (feed_claims ∷ press_claims ∷ [])
  pub waits_with_own : ¬ Waits Feed (feed_claims ∷ []) (feed_claims ∷ feed_waits ∷ [])
  pub waits_in_the_past : ¬ Waits Feed (press_claims ∷ []) []
  pub told : SeenAfter Feed (Claim Z6) (Ok (Settled Done 1)) unused [] (feed_claims ∷ [])
  pub other_stamp : ¬ SeenAfter Feed (Claim Z6) (Ok (Settled Done 2)) unused [] (feed_claims ∷ [])
  pub busy : SeenAfter Feed Advance (Ok (Busy 3 1)) unused [] (press_claims ∷ [])
  pub busy_with_own : ¬ SeenAfter Feed Advance (Ok (Busy 3 1)) unused [] (feed_claims ∷ [])
  pub busy_at_other_stamp : ¬ SeenAfter Feed Advance (Ok (Busy 3 0)) unused [] (press_claims ∷ [])
  pub out_of_memory : SeenAfter Feed Advance (Err Memory) unused (press_claims ∷ []) (press_claims ∷ [])
  pub sees_more_without_memory : ¬ SeenAfter Feed Advance (Err Memory) unused [] (press_claims ∷ [])

-- a bench in the state after the press's claim, at which the press is seated or another machine
abbrev pub desk : Machine → Desk
desk m = record { opening = unused; state = after_claim; history = only Press (Claim Z3); machine = m; busy = false }

abbrev pub busy_desk : Desk
busy_desk = record (desk Press) { busy = true }

abbrev pub desk_then : Machine → Call → List Event → Desk
desk_then m c added = record (desk m) { state = next after_claim m c; history = done Press (Claim Z3) ∷ added }

pub record BenchExamples : Type 0 where
  pub told : BenchAsks (desk Feed) (Claim Z6) (Ok (Settled Done 2)) (desk_then Feed (Claim Z6) (only Feed (Claim Z6)))
  pub wrong_stamp :
      ¬ BenchAsks (desk Feed) (Claim Z6) (Ok (Settled Done 1)) (desk_then Feed (Claim Z6) (only Feed (Claim Z6)))
  pub wrong_answer : ¬ BenchAsks (desk Feed) (Claim Z6) (Ok (Settled (Refused Jump) 1)) (desk Feed)
  pub not_in_history : ¬ BenchAsks (desk Feed) (Claim Z6) (Ok (Settled Done 2)) (desk_then Feed (Claim Z6) [])
  pub told_while_busy : ¬ BenchAsks busy_desk (Release Z3) (Ok (Settled Done 2))
      (record (desk_then Press (Release Z3) (only Press (Release Z3))) { busy = true })
  pub busy : BenchAsks busy_desk (Release Z3) (Ok (Busy 1 1)) busy_desk
  pub busy_when_free : ¬ BenchAsks (desk Press) (Release Z3) (Ok (Busy 1 1)) (desk Press)
  pub lost_twice : ¬ BenchAsks busy_desk (Release Z3) (Ok (Busy 2 1)) busy_desk
  pub busy_at_other_stamp : ¬ BenchAsks busy_desk (Release Z3) (Ok (Busy 1 0)) busy_desk
  pub busy_and_changed : ¬ BenchAsks busy_desk (Release Z3) (Ok (Busy 1 1)) (record busy_desk { history = [] })
  pub out_of_memory : BenchAsks (desk Press) (Release Z3) (Err Memory) (desk Press)
  pub out_of_memory_while_busy : ¬ BenchAsks busy_desk (Release Z3) (Err Memory) busy_desk
  pub changed_without_memory : ¬ BenchAsks (desk Press) (Release Z3) (Err Memory) (record (desk Press) { history = [] })

-- at any bench a call that isn't made changes nothing; one that is answered leaves the opening and the caller as they
-- are, and a history that leads to the state
pub record AnyBench (b d : Desk) (c : Call) : Type 0 where
  pub busy : (lost stamp : ℕ) → BenchAsks b c (Ok (Busy lost stamp)) d → d ≡ b
  pub out_of_memory : (fault : LineFault) → BenchAsks b c (Err fault) d → d ≡ b
  pub opening : (a : Answer) (stamp : ℕ) → BenchAsks b c (Ok (Settled a stamp)) d → d.opening ≡ b.opening
  pub machine : (a : Answer) (stamp : ℕ) → BenchAsks b c (Ok (Settled a stamp)) d → d.machine ≡ b.machine
  pub free : (a : Answer) (stamp : ℕ) → BenchAsks b c (Ok (Settled a stamp)) d → d.busy ≡ false
  pub history : (r : Result Reply LineFault) → IsHistory b.opening b.state b.history → BenchAsks b c r d
      → IsHistory d.opening d.state d.history

-- each field of a bench is shown as it is
pub record IsShownWhole (b : Bench) : Type 0 where
  pub desk :
      desk_of b ≡ record {
        opening = b.opening;
        state = b.state;
        history = b.history.items;
        machine = b.machine;
        busy = b.busy;
      }
  pub asks : (heard_of b).asks ≡ b.asks

pub record KeptExamples : Type 0 where
  pub stored : IsHistory unused after_claim (only Press (Claim Z3))
  pub unsound_opening :
      ¬ IsHistory (cell_with Z4 (held_in Feed OpenIn) empty) (cell_with Z4 (held_in Feed OpenIn) empty) []
  pub illegal : ¬ IsHistory unused unused (only Press Advance)
  pub elsewhere : ¬ IsHistory unused after_claim []
  pub no_end_given : IsAudited unused (claim_of_press 1) None (only Press (Claim Z3))
  pub has_a_history : ¬ HasNoHistory unused (claim_of_press 1) (Some after_claim)
  pub nothing_noted : HasNoHistory unused (λ m. []) (Some after_claim)
  pub same_for_robot : IsSameFor Robot unused (cell_with Z6 (held_in Feed Moving) (insert_place empty FeedEnd))
  pub lost_its_zone : ¬ IsSameFor Press after_claim unused
  pub other_posture : ¬ IsSameFor Press unused (cell_with Z3 (free_in OpenIn) empty)
  pub other_place : ¬ IsSameFor Robot unused (cell_with Z3 free_zone (insert_place empty Arm2))

-- the interlock that can't be stopped answers as this one while it runs
abbrev pub AnswersAlikeWhileRunning : Type 0
AnswersAlikeWhileRunning =
    (s : ModelState) (m : Machine) (c : Call) → IsTrue (has_call c) → reply (running s) m c ≡ first.reply s m c

-- whatever breaks one law isn't lawful
pub record LawfulKeepsEach (s : ModelState) (h : List Event) : Type 0 where
  pub one_holder : ¬ OneHolder s h → ¬ Lawful s h
  pub mover_is_host : ¬ MoverIsHost s h → ¬ Lawful s h
  pub guest_only_while_open : ¬ GuestOnlyWhileOpen s h → ¬ Lawful s h
  pub plates_are_kept : ¬ PlatesAreKept s h → ¬ Lawful s h
  pub stamp_counts_changes : ¬ StampCountsChanges s h → ¬ Lawful s h
  pub belts_run_clear : RunsClear s → ¬ BeltsRunClear s h → ¬ Lawful s h
  pub right_lasts : ¬ RightLasts s h [] → ¬ Lawful s h
  pub posture_by_events : ¬ PostureByEvents s h → ¬ Lawful s h
  pub stays_sound : ¬ StaysSound s h → ¬ Lawful s h
  pub events_fit : ¬ EventsFit s h → ¬ Lawful s h
  pub no_jump : ¬ NoJump s h → ¬ Lawful s h
  pub handover_by_holder : ¬ HandoverByHolder s h → ¬ Lawful s h
  pub stopped_until_resumed : ¬ StoppedUntilResumed s h → ¬ Lawful s h
  pub changes_are_counted : ¬ ChangesAreCounted h → ¬ Lawful s h
  pub refusals_tell : ¬ RefusalsTellAlong s h → ¬ Lawful s h

pub record BreakExamples : Type 0 where
  pub holders : HolderBreaks
  pub counts : CountBreaks
  pub prefixes : PrefixBreaks
  pub belts : BeltBreaks
  pub fitting : FittingBreaks
  pub stops : StopBreaks
  pub refusals : RefusalBreaks
  pub seen : SeenExamples
  pub benches : BenchExamples
  pub any_bench : (b d : Desk) (c : Call) → AnyBench b d c
  pub shown : (b : Bench) → IsShownWhole b
  pub kept : KeptExamples
  pub first_version : AnswersAlikeWhileRunning
  pub lawful : (s : ModelState) (h : List Event) → LawfulKeepsEach s h
