-- Each part of a law can be broken, by a literal history of the press that isn't legal, or from a state that isn't
-- sound. And what the laws speak of, in literal figures.
use Rattle.std.specs.Prelude.{◌≡◌, ℕ, Bool, true, false, [], ◌∷◌, replicate, Option, Some, None}
use Rattle.plan_types.specs.declared.posture.Posture.{Posture}
use Rattle.plan_types.specs.declared.posture.Posture.TheVariants.{Closed, Moving, OpenIn}
use Rattle.plan_types.specs.declared.call.Call.TheVariants.{Claim, Give, Yield, Take, Release, SetPose, Stop, Resume}
use Rattle.plan_types.specs.declared.answer.Refusal.TheVariants.{NotParty, Held}
use Rattle.plan_types.specs.Table.{watch}
use Rattle.plan_types.specs.Examples.{press_table}
use Rattle.plan_rules.specs.declared.state.State.{State}
use Rattle.plan_rules.specs.State.{free_zone, start_state, plates_of}
use Rattle.plan_rules.specs.Sound.{IsStart}
use Rattle.plan_rules.specs.History.{own_events, Moves}
use Rattle.plan_rules.specs.Laws.{done, OneHolder, MoverIsHost, GuestOnlyWhileOpen, PlatesAreKept, StampCountsChanges}
use Rattle.plan_rules.specs.Laws.{RightLasts, PostureByEvents, StaysSound, PosesFit, HasZone}
use Rattle.plan_rules.specs.Laws.{HandoverByHolder, StoppedUntilResumed}
use Rattle.plan_rules.specs.RefusalLaws.{IsRefusedBy}
use Rattle.plan_rules.specs.Examples.{press_start}
use Rattle.plan_rules.specs.BrokenLift.{LiftBroken}
use Rattle.plan_rules.specs.OrderExamples.{interior, press_state, free, moving, with_stop, with_last_stamp}

-- the interior's owner and posture, without a plate in it; the loader has one
abbrev pub clear : Option ℕ → Posture → State
clear owner posture = press_state (interior owner posture false) true false

-- the interior with a plate on its way to the press
abbrev pub coming : ℕ → Bool → State
coming owner press = press_state (interior (Some owner) OpenIn true) false press

-- the loader owns a zone past the end of the table
abbrev pub past_the_end : State
past_the_end = record free { zones = free_zone ∷ interior (Some 0) Closed false ∷ replicate 8 free_zone }

pub record HoldersBroken : Type 0 where
  -- by the events two machines hold the zone
  pub alone : ¬ OneHolder press_table free (done 0 (Claim 0) ∷ done 1 (Claim 0) ∷ [])
  -- a stranger owns the zone
  pub party : ¬ OneHolder press_table (clear (Some 2) Closed) []
  -- by the events the loader holds the zone, which was shut to it
  pub owner : ¬ OneHolder press_table free (done 0 (Claim 0) ∷ [])
  pub moves : ¬ MoverIsHost press_table (clear None Moving) []
  -- the press closes a zone that it doesn't hold; the loader one that it holds
  pub changes_unheld : ¬ MoverIsHost press_table (clear None OpenIn) (done 1 (SetPose 2) ∷ [])
  pub changes_anothers : ¬ MoverIsHost press_table (clear (Some 0) OpenIn) (done 0 (SetPose 2) ∷ [])
  pub guest : ¬ GuestOnlyWhileOpen press_table (clear (Some 0) Closed) []

pub record CountsBroken : Type 0 where
  pub sound : ¬ StaysSound press_table (clear (Some 2) Closed) []
  -- a plate comes to a full place
  pub plates : ¬ PlatesAreKept press_table (coming 1 true) (done 1 (Take 0) ∷ [])
  pub stamp : ¬ StampCountsChanges press_table free (done 0 (Claim 0) ∷ [])

-- others change what is a machine's: the loader's zone, the press's place, the press's posture
pub record RightsBroken : Type 0 where
  pub zone : ¬ RightLasts press_table free (done 0 (Claim 0) ∷ []) (done 1 (Claim 0) ∷ [])
  pub places : ¬ RightLasts press_table (coming 0 false) [] (done 0 (Take 0) ∷ [])
  pub posture : ¬ RightLasts press_table free [] (done 0 (SetPose 3) ∷ [])

pub record PosesBroken : Type 0 where
  -- by the events the zone moves
  pub by_events : ¬ PostureByEvents press_table free (done 0 (SetPose 3) ∷ [])
  pub own : ¬ PosesFit press_table free (done 0 (SetPose 3) ∷ [])
  pub past_the_end : ¬ PosesFit press_table free (done 0 (SetPose 4) ∷ [])
  pub no_jump : ¬ PosesFit press_table (clear (Some 1) Closed) (done 1 (SetPose 0) ∷ [])
  pub all_held : ¬ PosesFit press_table free (done 1 (SetPose 3) ∷ [])
  pub all_clear : ¬ PosesFit press_table (coming 1 false) (done 1 (SetPose 3) ∷ [])
  pub opens_onto_empty : ¬ PosesFit press_table moving (done 1 (SetPose 0) ∷ [])

pub record HandoversBroken : Type 0 where
  pub give : ¬ HandoverByHolder press_table free (done 0 (Give 0) ∷ [])
  pub yield : ¬ HandoverByHolder press_table free (done 0 (Yield 0) ∷ [])
  pub take : ¬ HandoverByHolder press_table free (done 0 (Take 0) ∷ [])
  pub release : ¬ HandoverByHolder press_table free (done 0 (Release 0) ∷ [])
  -- to have a zone takes a zone of the plan, that the machine holds by its events, and owns in the state
  pub zone : ¬ HasZone press_table past_the_end [] 0 1
  pub held : ¬ HasZone press_table moving (done 1 (Release 0) ∷ []) 1 0
  pub owner : ¬ HasZone press_table free (done 0 (Claim 0) ∷ []) 0 0

pub record StopsBroken : Type 0 where
  -- at the last stamp nothing is stopped
  pub mark : ¬ StoppedUntilResumed press_table (with_last_stamp free) (done watch Stop ∷ [])
  pub barred : ¬ StoppedUntilResumed press_table (with_stop free) (done 0 (Claim 0) ∷ [])
  -- the press stops, or resumes
  pub stop : ¬ StoppedUntilResumed press_table free (done 1 Stop ∷ done watch Resume ∷ [])
  pub resume : ¬ StoppedUntilResumed press_table free (done watch Stop ∷ done 1 Resume ∷ done watch Stop ∷ [])
  -- the watch does so out of turn
  pub stop_again : ¬ StoppedUntilResumed press_table (with_stop free) (done watch Stop ∷ [])
  pub resume_again : ¬ StoppedUntilResumed press_table free (done watch Resume ∷ [])

-- the loader is refused a claim, since the plant is stopped; for what comes before that in the order it isn't
pub record RefusalsBroken : Type 0 where
  pub order : ¬ IsRefusedBy press_table (with_stop free) 0 (Claim 0) NotParty
  pub answer : ¬ IsRefusedBy press_table free 1 (Claim 0) (Held 0)

pub record LiteralFigures : Type 0 where
  pub one_plate : plates_of press_table press_start ≡ 1
  pub three_plates : plates_of press_table (press_state (interior (Some 1) OpenIn true) true true) ≡ 3
  pub past_the_table : plates_of press_table (start_state (replicate 16 true) 0) ≡ 2
  pub own : own_events (done 0 (Claim 0) ∷ done 1 (Claim 0) ∷ done 0 (Give 0) ∷ []) 0
      ≡ done 0 (Claim 0) ∷ done 0 (Give 0) ∷ []
  pub moves : Moves press_table press_start (done 1 (Claim 0) ∷ done 1 (SetPose 3) ∷ []) 0
  pub start : IsStart (start_state (replicate 16 true) 1048575)

pub record LawsCanBeBroken : Type 0 where
  pub holders : HoldersBroken
  pub counts : CountsBroken
  pub rights : RightsBroken
  pub poses : PosesBroken
  pub handovers : HandoversBroken
  pub stops : StopsBroken
  pub refusals : RefusalsBroken
  pub figures : LiteralFigures
  pub lift : LiftBroken
