-- Examples of histories that break a law: in the state before it their event would be refused. Each breaks one thing of
-- the law. And what an audit says of journals.
use Rattle.std.specs.Prelude.{ℕ, true, false, List, [], ◌∷◌, Some, None}
use Rattle.cell_rules.specs.Types.{Machine, Feed, Robot, Press, Deposit, Watch, Z1, Z2, Z3, Z4, Z5, Z6, FeedEnd}
use Rattle.cell_rules.specs.Types.{PressOut, DepEnd, Posture, Closed, Moving, OpenIn, Loading, Travelling, Middle, Top}
use Rattle.cell_rules.specs.Types.{Landing, Call, Claim, Give, Yield, Take, Release, SetPose, Advance, Stop, Resume}
use Rattle.cell_rules.specs.Types.{Done, Event, Entry}
use Rattle.cell_types.specs.declared.machine.Machine.TheVariants.{Table as TableMachine, Crane as CraneMachine}
use Rattle.cell_types.specs.declared.place.Place.TheVariants.{Table}
use Rattle.cell_rules.specs.ZoneMap.{free_zone, everywhere, put_zone}
use Rattle.cell_rules.specs.PlaceSet.{PlaceSet, empty, insert_place}
use Rattle.cell_rules.specs.ModelState.{ModelState, model_state}
use Rattle.cell_rules.specs.Audited.{IsAudited}
use Rattle.cell_rules.specs.StateExamples.{cell_with, free_in, held_in}
use Rattle.cell_rules.specs.Laws.{MoverIsHost, GuestOnlyWhileOpen, PlatesAreKept, StampCountsChanges, RunsClear}
use Rattle.cell_rules.specs.Laws.{PostureByEvents, EventsFit, NoJump, HandoverByHolder, StoppedUntilResumed, done}

-- the table holds both its zones
abbrev pub table_with : Posture → Posture → PlaceSet → ModelState
table_with p q full =
    model_state (put_zone (put_zone (everywhere free_zone) Z1 (held_in TableMachine p)) Z2 (held_in TableMachine q))
    full 0 false

-- all zones are free and Closed
abbrev pub unused : ModelState
unused = cell_with Z3 free_zone empty

abbrev pub only : Machine → Call → List Event
only m c = done m c ∷ []

-- who holds what, and while which posture
pub record HolderExamples : Type 0 where
  pub moves_unheld : ¬ MoverIsHost (cell_with Z3 (free_in Moving) empty) []
  pub robot_in_moving_press : ¬ MoverIsHost (cell_with Z3 (held_in Press Moving) empty) (only Robot (Claim Z3))
  pub guest_in_closed_zone : ¬ GuestOnlyWhileOpen (cell_with Z3 (held_in Robot Closed) empty) []
  pub gives_unheld : ¬ HandoverByHolder unused (only Press (Give Z3))
  pub yields_unheld : ¬ HandoverByHolder unused (only Press (Yield Z3))
  pub takes_unheld : ¬ HandoverByHolder unused (only Press (Take Z3))
  pub releases_unheld : ¬ HandoverByHolder unused (only Press (Release Z3))

-- what is counted, and the posture by the events
pub record CountExamples : Type 0 where
  pub plate_from_nowhere : ¬ PlatesAreKept unused (only CraneMachine (Give Z3))
  pub change_without_stamp : ¬ StampCountsChanges unused (only Press (Yield Z3))
  pub pose_without_posture : ¬ PostureByEvents unused (only Press (SetPose Travelling))

-- belts with a plate at their end
pub record BeltExamples : Type 0 where
  pub feed : ¬ RunsClear (cell_with Z6 (held_in Feed Moving) (insert_place empty FeedEnd))
  pub entry : ¬ RunsClear (cell_with Z4 (held_in Deposit Moving) (insert_place empty DepEnd))
  pub end : ¬ RunsClear (cell_with Z5 (held_in Deposit Moving) (insert_place empty DepEnd))

-- poses and work
pub record FittingExamples : Type 0 where
  pub jumps : ¬ EventsFit (cell_with Z3 (held_in Press Closed) empty) (only Press (SetPose Top))
  pub opens_onto_plate :
      ¬ EventsFit (table_with Moving Moving (insert_place empty Table)) (only TableMachine (SetPose Loading))
  pub opens_onto_forged :
      ¬ EventsFit (cell_with Z3 (held_in Press Moving) (insert_place empty PressOut)) (only Press (SetPose Middle))
  pub poses_unheld : ¬ EventsFit unused (only Feed (SetPose Landing))
  pub feed_stands : ¬ EventsFit unused (only Feed Advance)
  pub entry_stands : ¬ EventsFit (cell_with Z5 (held_in Deposit Moving) empty) (only Deposit Advance)
  pub end_stands : ¬ EventsFit (cell_with Z4 (held_in Deposit Moving) empty) (only Deposit Advance)
  pub forges_unheld : ¬ EventsFit unused (only Press Advance)
  pub forges_open : ¬ EventsFit (cell_with Z3 (held_in Press OpenIn) empty) (only Press Advance)
  pub second_zone_stands : ¬ NoJump (table_with Moving Closed empty) (only TableMachine (SetPose Loading))
  pub first_zone_stands : ¬ NoJump (table_with Closed Moving empty) (only TableMachine (SetPose Loading))
  pub press_jumps : ¬ NoJump (cell_with Z3 (held_in Press Closed) empty) (only Press (SetPose Top))

-- stops
pub record StopExamples : Type 0 where
  pub claims_while_stopped : ¬ StoppedUntilResumed (record unused { stopped = true }) (only Feed (Claim Z6))
  pub stops_twice : ¬ StoppedUntilResumed (record unused { stopped = true }) (only Watch Stop)
  pub resumes_unstopped : ¬ StoppedUntilResumed unused (only Watch Resume)

-- the press has noted a claim of z3 with a stamp, and nobody anything else
abbrev pub claim_of_press : ℕ → Machine → List Entry
claim_of_press stamp Press = record { call = Claim Z3; answer = Done; stamp = stamp } ∷ []
claim_of_press stamp _ = []

abbrev pub after_claim : ModelState
after_claim = model_state (put_zone (everywhere free_zone) Z3 (held_in Press Closed)) empty 1 false

-- what an audit says of journals: one accepted, and each other wrong in one thing
pub record AuditExamples : Type 0 where
  pub accepted : IsAudited unused (claim_of_press 1) (Some after_claim) (only Press (Claim Z3))
  pub illegal : ¬ IsAudited after_claim (claim_of_press 1) None (only Press (Claim Z3))
  pub not_noted : ¬ IsAudited unused (λ m. []) None (only Press (Claim Z3))
  pub other_stamp : ¬ IsAudited unused (claim_of_press 2) None (only Press (Claim Z3))
  pub other_end : ¬ IsAudited unused (claim_of_press 1) (Some unused) (only Press (Claim Z3))

pub record LawExamples : Type 0 where
  pub holders : HolderExamples
  pub counts : CountExamples
  pub belts : BeltExamples
  pub fitting : FittingExamples
  pub stops : StopExamples
  pub audits : AuditExamples
