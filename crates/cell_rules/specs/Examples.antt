-- Examples of what a machine keeps, of refusals that it never gets, of an order of refusals, of unsound states,
-- and of histories that break a law; each of them is wrong in one thing. The press has claimed z3, which is open inward
-- and free in the opening.
use Rattle.std.specs.Prelude.{◌≡◌, Bool, false, Option, Some, None, List, [], ◌∷◌}
use Rattle.cell_rules.specs.Types.{Machine, Press, Robot, Z3, PressIn, Closed, OpenIn, Middle, Travelling, Call, Claim}
use Rattle.cell_rules.specs.Types.{Give, Yield, Take, Release, SetPose, Advance, Done, Refused, NotOwner, Event}
use Rattle.cell_rules.specs.ZoneMap.{free_zone, everywhere, put_zone}
use Rattle.cell_rules.specs.PlaceSet.{empty, insert_place}
use Rattle.cell_rules.specs.ModelState.{ModelState, model_state}
use Rattle.cell_rules.specs.RefusalLaws.{is_no_later}
use Rattle.cell_rules.specs.StateExamples.{SoundExamples, StartExamples}
use Rattle.cell_rules.specs.BreakExamples.{BreakExamples}
use Rattle.cell_rules.specs.HistoryTables.{HistoryTables}
use Rattle.cell_rules.specs.LawExamples.{LawExamples}
use Rattle.cell_rules.specs.ReplyTable.{ReplyTable}
use Rattle.cell_rules.specs.SecondWords.{SecondWords}
use Rattle.cell_rules.specs.StateTables.{StateTables}
use Rattle.cell_rules.specs.Rights.{KeepsItsOwn, IsNeverDisowned}
use Rattle.cell_rules.specs.Seen.{event}

abbrev pub opened : ModelState
opened = model_state (put_zone (everywhere free_zone) Z3 (record free_zone { posture = OpenIn })) empty 0 false

-- the press holds z3, closed, with a plate to forge
abbrev pub closed : ModelState
closed = model_state (put_zone (everywhere free_zone) Z3 (record free_zone { owner = Some Press }))
    (insert_place empty PressIn) 0 false

abbrev pub claimed : Event
claimed = event Press (Claim Z3) Done

abbrev pub released : Event
released = event Press (Release Z3) Done

abbrev pub travelling : Event
travelling = event Press (SetPose Travelling) Done

abbrev pub forged : Event
forged = event Press Advance Done

-- the robot's claim of z3, which isn't legal while the press holds it
abbrev pub by_robot : Event
by_robot = event Robot (Claim Z3) Done

-- a machine has lost a zone; moved a plate of its own; given a zone that it hosts another posture; and the robot a zone
-- that it claimed
pub record KeepingExamples : Type 0 where
  pub zone_lost : ¬ KeepsItsOwn opened Press (claimed ∷ []) (claimed ∷ released ∷ [])
  pub plate_moved : ¬ KeepsItsOwn closed Press [] (forged ∷ [])
  pub posture_changed : ¬ KeepsItsOwn opened Press [] (claimed ∷ travelling ∷ [])
  pub zone_changed : ¬ KeepsItsOwn closed Robot (by_robot ∷ []) (by_robot ∷ travelling ∷ [])

-- this refusal of a call of the press would say that z3 isn't its own
abbrev pub Disowns : Call → Option Machine → Type 0
Disowns c owner = ¬ IsNeverDisowned opened Press c (Refused (NotOwner owner)) (claimed ∷ [])

-- z3 is all that these calls need
pub record DisowningExamples : Type 0 where
  pub give : Disowns (Give Z3) None
  pub yield : Disowns (Yield Z3) None
  pub take : Disowns (Take Z3) None
  pub release : Disowns (Release Z3) None
  pub pose : Disowns (SetPose Middle) None
  pub advance : Disowns Advance None
  pub named_owner : Disowns (Release Z3) (Some Robot)

-- in an order of three numbers the last doesn't come before the second
abbrev pub IsOrderKept : Type 0
IsOrderKept = is_no_later (1 ∷ 14 ∷ 3 ∷ []) 3 14 ≡ false

pub record Examples : Type 0 where
  pub keeping : KeepingExamples
  pub disowning : DisowningExamples
  pub order : IsOrderKept
  pub sound : SoundExamples
  pub starts : StartExamples
  pub laws : LawExamples
  pub states : StateTables
  pub histories : HistoryTables
  pub breaks : BreakExamples
  pub second : SecondWords
  pub replies : ReplyTable
