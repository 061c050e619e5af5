-- The deposit belt's program, row by row.
use Rattle.std.specs.Prelude.{◌≡◌, ℕ, Bool, true, false, not, ◌&&◌, if◌then◌else◌, List, [], ◌∷◌, Ok, codes}
use Rattle.cell_rules.specs.Types.{Deposit, Z4, Z5, DepEntry, DepEnd, Pose, Landing, Running, Offering, Call, Claim}
use Rattle.cell_rules.specs.Types.{Give, Take, Release, SetPose, Advance, Event, Zone, Closed, OpenIn, OpenOut, Moving}
use Rattle.cell_sensors.specs.declared.sense.DepositSense.{DepositSense}
use Rattle.cell_devices.specs.declared.act.DepositAct.{DepositAct}
use Rattle.cell_rules.specs.Names.{ModelState, is_full, Holds, Moves, same_flag}
use Rattle.cell_control.specs.Names.{row_that_asks, row_that_drives, with_waits, Steps}
use Rattle.cell_control.specs.Keeping.{posed, unposed, are_kept}
use Rattle.cell_control.specs.declared.row.Row.{Row}
use Rattle.cell_control.specs.declared.row.Waits.TheVariants.{UntilOwner, UntilRoom}
use Rattle.cell_control.specs.declared.row.Waits.TheVariants.{UntilFree}
use Rattle.cell_control.specs.declared.share.Share.TheVariants.{Clear, Lent, Unclaimed}
use Rattle.cell_control.specs.declared.share.ZoneShare.{ZoneShare}
use Rattle.cell_belts_crane.specs.BeltShares.{keeps, are_there}
use Rattle.cell_belts_crane.specs.declared.belt_share.BeltPlates.TheVariants.{Any, Empty, AtEntry, AtEnd, NoneAtEnd}
use Rattle.cell_belts_crane.specs.declared.belt_share.BeltShare.{BeltShare}
use Rattle.cell_belts_crane.specs.declared.deposit.DepositStep.{DepositStep}
use Rattle.cell_belts_crane.specs.declared.deposit.DepositStep.TheVariants.{ClaimEntry, ClaimExit, PoseLanding, ReleaseEntry}
use Rattle.cell_belts_crane.specs.declared.deposit.DepositStep.TheVariants.{TakePlate, StartRun, RunIn, RunOut, MoveOn}
use Rattle.cell_belts_crane.specs.declared.deposit.DepositStep.TheVariants.{PoseOffering, GivePlate, ClaimBack}
use Rattle.cell_belts_crane.specs.declared.deposit.DepositProgress.{DepositProgress}

-- the row of a step that asks, of one that sets a pose, and of one that drives, by the next step
abbrev pub asks : DepositProgress → Call → DepositStep → Row DepositProgress
asks p call next = row_that_asks call (record p { step = next })

abbrev pub poses : DepositProgress → Pose → DepositStep → Row DepositProgress
poses p pose next = asks p (SetPose pose) next

abbrev pub drives : DepositProgress → DepositStep → Row DepositProgress
drives p next = row_that_drives (record p { step = next })

-- with other notes: whether a plate is at the belt's entry and at its end
abbrev pub with_plates : DepositProgress → Bool → Bool → DepositProgress
with_plates p entry last = record p { entry = entry; last = last }

-- the first step of the next group, by the plates on the belt; the row of a step that asks, and leads to that group
abbrev pub by_plates : DepositProgress → DepositStep
by_plates p = if p.last then PoseOffering else (if p.entry then StartRun else PoseLanding)

abbrev pub asks_by_plates : DepositProgress → Call → Row DepositProgress
asks_by_plates p call = asks p call (by_plates p)

-- the row of each step: what it asks, what it waits for, and the next step with its notes
abbrev pub row_at : DepositStep → DepositProgress → Row DepositProgress
row_at ClaimEntry p = asks p (Claim Z4) ClaimExit
row_at ClaimExit p = asks_by_plates p (Claim Z5)
row_at PoseLanding p = poses p Landing ReleaseEntry
row_at ReleaseEntry p = asks p (Release Z4) TakePlate
row_at TakePlate p = with_waits (asks (with_plates p true p.last) (Take Z4) StartRun) UntilOwner
row_at StartRun p = poses p Running RunIn
row_at RunIn p = drives p RunOut
row_at RunOut p = drives p MoveOn
row_at MoveOn p = asks (with_plates p false true) Advance PoseOffering
row_at PoseOffering p = poses p Offering GivePlate
row_at GivePlate p = with_waits (asks (with_plates p p.entry false) (Give Z5) ClaimBack) UntilRoom
row_at ClaimBack p = with_waits (asks_by_plates p (Claim Z5)) UntilFree

abbrev pub row_of : DepositProgress → Row DepositProgress
row_of p = row_at p.step p

-- what the belt keeps at each step: of the zone that it shares with the robot, of that with the crane, and its plates
abbrev pub keeps_at : DepositStep → BeltShare
keeps_at ClaimEntry = keeps (posed Unclaimed Closed) (posed Unclaimed Closed) Any
keeps_at ClaimExit = keeps (unposed Clear) (posed Unclaimed Closed) Any
keeps_at PoseLanding = keeps (unposed Clear) (unposed Clear) Empty
keeps_at ReleaseEntry = keeps (posed Clear OpenIn) (posed Clear Closed) Empty
keeps_at TakePlate = keeps (posed Lent OpenIn) (posed Clear Closed) Empty
keeps_at StartRun = keeps (unposed Clear) (unposed Clear) AtEntry
keeps_at RunIn = keeps (posed Clear Moving) (posed Clear Moving) AtEntry
keeps_at RunOut = keeps (posed Clear Moving) (posed Clear Moving) AtEntry
keeps_at MoveOn = keeps (posed Clear Moving) (posed Clear Moving) AtEntry
keeps_at PoseOffering = keeps (unposed Clear) (unposed Clear) AtEnd
keeps_at GivePlate = keeps (posed Clear Closed) (posed Clear OpenOut) AtEnd
keeps_at ClaimBack = keeps (posed Clear Closed) (posed Lent OpenOut) NoneAtEnd

-- the number of each step, and the steps in that order
abbrev pub number_at : DepositStep → ℕ
number_at ClaimEntry = 0
number_at ClaimExit = 1
number_at PoseLanding = 2
number_at ReleaseEntry = 3
number_at TakePlate = 4
number_at StartRun = 5
number_at RunIn = 6
number_at RunOut = 7
number_at MoveOn = 8
number_at PoseOffering = 9
number_at GivePlate = 10
number_at ClaimBack = 11

-- the word of a step, as films show it
abbrev pub word_at : DepositStep → List ℕ
word_at ClaimEntry = codes "claim entry"
word_at ClaimExit = codes "claim exit"
word_at PoseLanding = codes "pose landing"
word_at ReleaseEntry = codes "release entry"
word_at TakePlate = codes "take plate"
word_at StartRun = codes "start run"
word_at RunIn = codes "run in"
word_at RunOut = codes "run out"
word_at MoveOn = codes "move on"
word_at PoseOffering = codes "pose offering"
word_at GivePlate = codes "give plate"
word_at ClaimBack = codes "claim back"

abbrev pub steps : List DepositStep
steps =
    ClaimEntry ∷ ClaimExit ∷ PoseLanding ∷ ReleaseEntry ∷ TakePlate ∷ StartRun ∷ RunIn ∷ RunOut ∷ MoveOn ∷
    PoseOffering ∷ GivePlate ∷ ClaimBack ∷ []

-- its zones, with its shares
abbrev pub zones_at : DepositStep → List (Zone × ZoneShare)
zones_at step = (Z4, (keeps_at step).entry) ∷ (Z5, (keeps_at step).exit) ∷ []

-- its notes agree with its places
abbrev pub is_noted : DepositProgress → ModelState → Bool
is_noted p s = same_flag (is_full s DepEntry) p.entry && same_flag (is_full s DepEnd) p.last

-- the step is in step with a state: the zones, plates and notes are as it keeps them
abbrev pub in_step : DepositProgress → ModelState → Bool
in_step p s =
    are_kept (zones_at p.step) Deposit s && (are_there (keeps_at p.step).plates p.entry p.last && is_noted p s)

abbrev pub after_done : DepositProgress → DepositProgress
after_done p = (row_of p).next

-- at the start the belt notes its places
abbrev pub deposit_start : ModelState → DepositProgress
deposit_start s = record { step = ClaimEntry; entry = is_full s DepEntry; last = is_full s DepEnd }

-- whether the belt runs: in until a plate is in the barrier, out until none is
abbrev pub runs_at : DepositStep → Bool → Bool
runs_at RunIn barrier = not barrier
runs_at RunOut barrier = barrier
runs_at _ barrier = false

-- the command to the belt in a step that drives
abbrev pub act_for : DepositProgress → DepositSense → DepositAct
act_for p s = record { belt = runs_at p.step s.barrier }

-- the drive is done in the turn in which the belt is off
abbrev pub after_act : DepositProgress → DepositAct → DepositProgress
after_act p act = if act.belt then p else after_done p

-- while the belt runs, it holds both its zones, which move
pub record HoldsForRun (opening : ModelState) (seen : List Event) : Type 0 where
  pub entry : Holds opening seen Deposit Z4
  pub exit : Holds opening seen Deposit Z5
  pub entry_moves : Moves opening seen Z4
  pub exit_moves : Moves opening seen Z5

abbrev pub DepositDemands : DepositAct → ModelState → List Event → Type 0
DepositDemands act opening seen = act.belt ≡ true → HoldsForRun opening seen

abbrev pub deposit_steps : Steps DepositProgress DepositSense DepositSense DepositAct
deposit_steps =
    record {
      machine = Deposit;
      start = deposit_start;
      row = row_of;
      after_inquiry = λ p owner flag posture. p;
      senses = λ s r. r ≡ Ok s;
      drives = λ p s act. act ≡ act_for p s;
      after_drive = λ p s act. after_act p act;
      rest = λ p. record { belt = false };
      motor_demands = λ p act opening seen. DepositDemands act opening seen;
    }
