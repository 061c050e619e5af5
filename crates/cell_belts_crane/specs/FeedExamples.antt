-- Examples of each row of the feed belt's program, with each state of its notes.
use Rattle.std.specs.Prelude.{◌≡◌, pos, Bool, true, false, List, [], ◌∷◌, Ok}
use Rattle.cell_rules.specs.Types.{Feed, Z1, Z6, FeedEnd, Landing, Running, Halted, Moving, Claim, Give, Take}
use Rattle.cell_rules.specs.Types.{Release, SetPose, Advance, Event}
use Rattle.cell_sensors.specs.declared.sense.FeedSense.{FeedSense}
use Rattle.cell_devices.specs.declared.act.FeedAct.{FeedAct}
use Rattle.cell_rules.specs.Names.{ModelState, Holds, posture_by_events, plates_at}
use Rattle.cell_control.specs.Rows.{AskRow, DriveRow, CheckRow, UntilFree, UntilOwner, UntilOpen, NoOtherAnswers}
use Rattle.cell_belts_crane.specs.declared.feed.FeedStep.{FeedStep}
use Rattle.cell_belts_crane.specs.declared.feed.FeedStep.TheVariants.{ClaimEntry, PoseLanding, ReleaseEntry, TakePlate}
use Rattle.cell_belts_crane.specs.declared.feed.FeedStep.TheVariants.{StartIn, RunIn, MoveOn, ClaimExit, StartOut, RunOut}
use Rattle.cell_belts_crane.specs.declared.feed.FeedStep.TheVariants.{Halt, GivePlate}
use Rattle.cell_belts_crane.specs.declared.feed.FeedProgress.{FeedProgress}
use Rattle.cell_belts_crane.specs.FeedProgram.{feed_steps}

-- a step, with whether a plate is at the belt's entry and at its end
abbrev pub at : FeedStep → Bool → Bool → FeedProgress
at step entry last = record { step = step; entry = entry; last = last }

abbrev pub runs : FeedAct
runs = record { belt = true }

abbrev pub stands : FeedAct
stands = record { belt = false }

abbrev pub in_barrier : FeedSense
in_barrier = record { barrier = true }

abbrev pub barrier_off : FeedSense
barrier_off = record { barrier = false }

-- the start of the program, by whether a plate is at the belt's entry and at its end
abbrev pub begins_with : Bool → Bool → FeedProgress
begins_with false false = at ClaimEntry false false
begins_with true false = at ClaimEntry true false
begins_with false true = at ClaimEntry false true
begins_with true true = at ClaimEntry true true

-- the start depends on the full places and on nothing else
pub record FeedStarts : Type 0 where
  pub whose : feed_steps.machine ≡ Feed
  pub by_places : (s : ModelState) → feed_steps.start s ≡ begins_with s.full.feed_entry s.full.feed_end

pub record FeedAsks (entry last : Bool) : Type 0 where
  pub claims_entry : AskRow feed_steps (at ClaimEntry false false) (Claim Z6) [] (at PoseLanding false false)
  pub claims_entry_with_plate : AskRow feed_steps (at ClaimEntry true false) (Claim Z6) [] (at StartIn true false)
  pub claims_entry_with_plate_at_end
      : AskRow feed_steps (at ClaimEntry entry true) (Claim Z6) [] (at ClaimExit entry true)
  pub poses_landing : AskRow feed_steps (at PoseLanding entry last) (SetPose Landing) [] (at ReleaseEntry entry last)
  pub releases_entry : AskRow feed_steps (at ReleaseEntry entry last) (Release Z6) [] (at TakePlate entry last)
  pub takes : AskRow feed_steps (at TakePlate entry last) (Take Z6) (UntilOwner ∷ []) (at StartIn true last)
  pub starts_in : AskRow feed_steps (at StartIn entry last) (SetPose Running) [] (at RunIn entry last)
  pub moves_on : AskRow feed_steps (at MoveOn entry last) Advance [] (at ClaimExit false true)
  pub claims_exit : AskRow feed_steps (at ClaimExit entry last) (Claim Z1) (UntilFree ∷ UntilOpen ∷ [])
      (at StartOut entry last)
  pub starts_out : AskRow feed_steps (at StartOut entry last) (SetPose Running) [] (at RunOut entry last)
  pub halts : AskRow feed_steps (at Halt entry last) (SetPose Halted) [] (at GivePlate entry last)
  pub gives : AskRow feed_steps (at GivePlate false last) (Give Z1) [] (at PoseLanding false false)
  pub gives_with_plate : AskRow feed_steps (at GivePlate true last) (Give Z1) [] (at StartIn true false)

pub record FeedDrives (entry last : Bool) : Type 0 where
  pub in_before_barrier : DriveRow feed_steps (at RunIn entry last) barrier_off runs (at RunIn entry last)
  pub in_at_barrier : DriveRow feed_steps (at RunIn entry last) in_barrier stands (at MoveOn entry last)
  pub out_in_barrier : DriveRow feed_steps (at RunOut entry last) in_barrier runs (at RunOut entry last)
  pub out_of_barrier : DriveRow feed_steps (at RunOut entry last) barrier_off stands (at Halt entry last)

-- a running belt demands the zone shared with the crane, moving; with a plate at its end, also the table's zone
pub record DemandsToRun (opening : ModelState) (seen : List Event) : Type 0 where
  pub holds_entry : Holds opening seen Feed Z6
  pub entry_moves : posture_by_events opening seen Z6 ≡ Moving
  pub holds_exit : plates_at opening seen FeedEnd ≡ pos 1 → Holds opening seen Feed Z1

-- all rows; in a step that asks, the belt is off
pub record FeedRowsAreMet : Type 0 where
  pub starts : FeedStarts
  pub asks : (entry last : Bool) → FeedAsks entry last
  pub drives : (entry last : Bool) → FeedDrives entry last
  -- a light barrier can always be used
  pub checks : (s : FeedSense) → CheckRow feed_steps s (Ok s)
  pub no_other_answers : NoOtherAnswers feed_steps
  pub rests : (p : FeedProgress) → feed_steps.rest p ≡ stands
  pub demands : (p : FeedProgress) (opening : ModelState) (seen : List Event)
      → feed_steps.motor_demands p runs opening seen → DemandsToRun opening seen
