-- The feed belt's program, row by row.
use Rattle.std.specs.Prelude.{◌≡◌, pos, ℕ, Bool, true, false, not, ◌&&◌, if◌then◌else◌, List, [], ◌∷◌, Ok, codes}
use Rattle.cell_rules.specs.Types.{Feed, Z1, Z6, FeedEntry, FeedEnd, Pose, Landing, Running, Halted, Call, Claim}
use Rattle.cell_rules.specs.Types.{Give, Take, Release, SetPose, Advance, Event, Zone, Closed, OpenIn, Moving}
use Rattle.cell_sensors.specs.declared.sense.FeedSense.{FeedSense}
use Rattle.cell_devices.specs.declared.act.FeedAct.{FeedAct}
use Rattle.cell_rules.specs.Names.{ModelState, is_full, Holds, Moves, plates_at, same_flag}
use Rattle.cell_control.specs.Names.{row_that_asks, row_that_drives, with_waits, Steps}
use Rattle.cell_control.specs.Keeping.{posed, unposed, are_kept}
use Rattle.cell_control.specs.declared.row.Row.{Row}
use Rattle.cell_control.specs.declared.row.Waits.TheVariants.{UntilOwner, UntilFreeAndOpen}
use Rattle.cell_control.specs.declared.share.Share.TheVariants.{Clear, Held, Lent, Unclaimed}
use Rattle.cell_control.specs.declared.share.ZoneShare.{ZoneShare}
use Rattle.cell_belts_crane.specs.BeltShares.{keeps, are_there}
use Rattle.cell_belts_crane.specs.declared.belt_share.BeltPlates.TheVariants.{Any, Empty, AtEntry, AtEnd}
use Rattle.cell_belts_crane.specs.declared.belt_share.BeltShare.{BeltShare}
use Rattle.cell_belts_crane.specs.declared.feed.FeedStep.{FeedStep}
use Rattle.cell_belts_crane.specs.declared.feed.FeedStep.TheVariants.{ClaimEntry, PoseLanding, ReleaseEntry, TakePlate}
use Rattle.cell_belts_crane.specs.declared.feed.FeedStep.TheVariants.{StartIn, RunIn, MoveOn, ClaimExit, StartOut, RunOut}
use Rattle.cell_belts_crane.specs.declared.feed.FeedStep.TheVariants.{Halt, GivePlate}
use Rattle.cell_belts_crane.specs.declared.feed.FeedProgress.{FeedProgress}

-- the row of a step that asks, of one that sets a pose, and of one that drives, by the next step
abbrev pub asks : FeedProgress → Call → FeedStep → Row FeedProgress
asks p call next = row_that_asks call (record p { step = next })

abbrev pub poses : FeedProgress → Pose → FeedStep → Row FeedProgress
poses p pose next = asks p (SetPose pose) next

abbrev pub drives : FeedProgress → FeedStep → Row FeedProgress
drives p next = row_that_drives (record p { step = next })

-- with other notes: whether a plate is at the belt's entry and at its end
abbrev pub with_plates : FeedProgress → Bool → Bool → FeedProgress
with_plates p entry last = record p { entry = entry; last = last }

-- the first step of the next group, by the plates on the belt; the row of a step that asks, and leads to that group
abbrev pub by_plates : FeedProgress → FeedStep
by_plates p = if p.last then ClaimExit else (if p.entry then StartIn else PoseLanding)

abbrev pub asks_by_plates : FeedProgress → Call → Row FeedProgress
asks_by_plates p call = asks p call (by_plates p)

-- the row of each step: what it asks, what it waits for, and the next step with its notes
abbrev pub row_at : FeedStep → FeedProgress → Row FeedProgress
row_at ClaimEntry p = asks_by_plates p (Claim Z6)
row_at PoseLanding p = poses p Landing ReleaseEntry
row_at ReleaseEntry p = asks p (Release Z6) TakePlate
row_at TakePlate p = with_waits (asks (with_plates p true p.last) (Take Z6) StartIn) UntilOwner
row_at StartIn p = poses p Running RunIn
row_at RunIn p = drives p MoveOn
row_at MoveOn p = asks (with_plates p false true) Advance ClaimExit
row_at ClaimExit p = with_waits (asks p (Claim Z1) StartOut) UntilFreeAndOpen
row_at StartOut p = poses p Running RunOut
row_at RunOut p = drives p Halt
row_at Halt p = poses p Halted GivePlate
row_at GivePlate p = asks_by_plates (with_plates p p.entry false) (Give Z1)

abbrev pub row_of : FeedProgress → Row FeedProgress
row_of p = row_at p.step p

-- what the belt keeps at each step: of the zone that it shares with the crane, of that with the table, and its plates
abbrev pub keeps_at : FeedStep → BeltShare
keeps_at ClaimEntry = keeps (posed Unclaimed Closed) (unposed Lent) Any
keeps_at PoseLanding = keeps (unposed Clear) (unposed Lent) Empty
keeps_at ReleaseEntry = keeps (posed Clear OpenIn) (unposed Lent) Empty
keeps_at TakePlate = keeps (posed Lent OpenIn) (unposed Lent) Empty
keeps_at StartIn = keeps (unposed Clear) (unposed Lent) AtEntry
keeps_at RunIn = keeps (posed Clear Moving) (unposed Lent) AtEntry
keeps_at MoveOn = keeps (posed Clear Moving) (unposed Lent) AtEntry
keeps_at ClaimExit = keeps (unposed Clear) (unposed Lent) AtEnd
keeps_at StartOut = keeps (unposed Clear) (posed Held OpenIn) AtEnd
keeps_at RunOut = keeps (posed Clear Moving) (posed Held OpenIn) AtEnd
keeps_at Halt = keeps (posed Clear Moving) (posed Held OpenIn) AtEnd
keeps_at GivePlate = keeps (posed Clear Closed) (posed Held OpenIn) AtEnd

-- the number of each step, and the steps in that order
abbrev pub number_at : FeedStep → ℕ
number_at ClaimEntry = 0
number_at PoseLanding = 1
number_at ReleaseEntry = 2
number_at TakePlate = 3
number_at StartIn = 4
number_at RunIn = 5
number_at MoveOn = 6
number_at ClaimExit = 7
number_at StartOut = 8
number_at RunOut = 9
number_at Halt = 10
number_at GivePlate = 11

-- the word of a step, as films show it
abbrev pub word_at : FeedStep → List ℕ
word_at ClaimEntry = codes "claim entry"
word_at PoseLanding = codes "pose landing"
word_at ReleaseEntry = codes "release entry"
word_at TakePlate = codes "take plate"
word_at StartIn = codes "start in"
word_at RunIn = codes "run in"
word_at MoveOn = codes "move on"
word_at ClaimExit = codes "claim exit"
word_at StartOut = codes "start out"
word_at RunOut = codes "run out"
word_at Halt = codes "halt"
word_at GivePlate = codes "give plate"

abbrev pub steps : List FeedStep
steps =
    ClaimEntry ∷ PoseLanding ∷ ReleaseEntry ∷ TakePlate ∷ StartIn ∷ RunIn ∷ MoveOn ∷ ClaimExit ∷ StartOut ∷
    RunOut ∷ Halt ∷ GivePlate ∷ []

-- its zones, with its shares
abbrev pub zones_at : FeedStep → List (Zone × ZoneShare)
zones_at step = (Z6, (keeps_at step).entry) ∷ (Z1, (keeps_at step).exit) ∷ []

-- its notes agree with its places
abbrev pub is_noted : FeedProgress → ModelState → Bool
is_noted p s = same_flag (is_full s FeedEntry) p.entry && same_flag (is_full s FeedEnd) p.last

-- the step is in step with a state: the zones, plates and notes are as it keeps them
abbrev pub in_step : FeedProgress → ModelState → Bool
in_step p s =
    are_kept (zones_at p.step) Feed s && (are_there (keeps_at p.step).plates p.entry p.last && is_noted p s)

abbrev pub after_done : FeedProgress → FeedProgress
after_done p = (row_of p).next

-- at the start the belt notes its places
abbrev pub feed_start : ModelState → FeedProgress
feed_start s = record { step = ClaimEntry; entry = is_full s FeedEntry; last = is_full s FeedEnd }

-- whether the belt runs: in until a plate is in the barrier, out until none is
abbrev pub runs_at : FeedStep → Bool → Bool
runs_at RunIn barrier = not barrier
runs_at RunOut barrier = barrier
runs_at _ barrier = false

-- the command to the belt in a step that drives
abbrev pub act_for : FeedProgress → FeedSense → FeedAct
act_for p s = record { belt = runs_at p.step s.barrier }

-- the drive is done in the turn in which the belt is off
abbrev pub after_act : FeedProgress → FeedAct → FeedProgress
after_act p act = if act.belt then p else after_done p

-- while the belt runs, it holds the zone shared with the crane, which moves; with a plate at its end, also the table's
pub record HoldsForRun (opening : ModelState) (seen : List Event) : Type 0 where
  pub entry : Holds opening seen Feed Z6
  pub moves : Moves opening seen Z6
  pub exit : plates_at opening seen FeedEnd ≡ pos 1 → Holds opening seen Feed Z1

abbrev pub FeedDemands : FeedAct → ModelState → List Event → Type 0
FeedDemands act opening seen = act.belt ≡ true → HoldsForRun opening seen

abbrev pub feed_steps : Steps FeedProgress FeedSense FeedSense FeedAct
feed_steps =
    record {
      machine = Feed;
      start = feed_start;
      row = row_of;
      after_inquiry = λ p owner flag posture. p;
      senses = λ s r. r ≡ Ok s;
      drives = λ p s act. act ≡ act_for p s;
      after_drive = λ p s act. after_act p act;
      rest = λ p. record { belt = false };
      motor_demands = λ p act opening seen. FeedDemands act opening seen;
    }
