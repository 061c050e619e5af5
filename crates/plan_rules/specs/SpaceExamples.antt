-- A press with two robots, written out: its loader and its unloader share its space, one at a time.
use Rattle.std.specs.Prelude.{◌≡◌, ℕ, Bool, true, false, List, [], ◌∷◌, map, replicate, Some, None}
use Rattle.plan_types.specs.declared.posture.Posture.{Posture}
use Rattle.plan_types.specs.declared.posture.Posture.TheVariants.{Closed, Moving, OpenIn, OpenOut}
use Rattle.plan_types.specs.declared.call.Call.{Call}
use Rattle.plan_types.specs.declared.call.Call.TheVariants.{Claim, Give, Yield, Take, Release, SetPose, Inquire}
use Rattle.plan_types.specs.declared.answer.Refusal.TheVariants.{NotParty, Held, AlreadyMine, Shut, NotOwner}
use Rattle.plan_types.specs.declared.answer.Refusal.TheVariants.{PlateInZone, NoPlate, WrongWay}
use Rattle.plan_types.specs.declared.answer.Answer.TheVariants.{Shown}
use Rattle.plan_types.specs.declared.answer.Event.{Event}
use Rattle.plan_types.specs.SpaceExamples.{robots_table}
use Rattle.plan_rules.specs.declared.state.ZoneState.{ZoneState}
use Rattle.plan_rules.specs.declared.state.State.{State}
use Rattle.plan_rules.specs.State.{start_state, free_zone, space_has_plate, plates_of}
use Rattle.plan_rules.specs.Sound.{IsSound}
use Rattle.plan_rules.specs.Causes.{is_cause}
use Rattle.plan_rules.specs.History.{after, IsLegal, gains, loses}
use Rattle.plan_rules.specs.Laws.{OneAtATime, done}
use Rattle.plan_rules.specs.Examples.{event, did, refused}

-- the loader has a plate
abbrev pub robots_start : State
robots_start = start_state (true ∷ replicate 15 false) 0

-- the press, 1, claims the space, by whichever zone; so it has both, and neither robot may enter
abbrev pub claiming : List Event
claiming =
    did 1 (Claim 1) ∷ refused 1 (Claim 0) AlreadyMine ∷ refused 0 (Claim 0) (Held 1) ∷ refused 2 (Claim 1) (Held 1)
    ∷ refused 2 (Claim 0) NotParty ∷ refused 0 (Release 1) NotParty ∷ did 1 (SetPose 3)
    ∷ refused 1 (Release 0) (Shut Moving) ∷ refused 1 (Release 1) (Shut Moving) ∷ did 1 (SetPose 0) ∷ []

-- it yields to the loader, 0, by the loader's zone; meanwhile nobody else enters, and the press takes no pose
abbrev pub loading : List Event
loading =
    refused 1 (Yield 1) (Shut Closed) ∷ did 1 (Yield 0) ∷ event 2 (Inquire 1) (Shown (Some 0) false Closed)
    ∷ refused 2 (Claim 1) (Held 0) ∷ refused 1 (Claim 1) (Held 0) ∷ refused 1 (SetPose 3) (NotOwner (Some 0))
    ∷ refused 0 (Give 1) NotParty ∷ did 0 (Give 0) ∷ []

-- until the press has taken the plate, it hands the space to nobody, and leaves it as it is
abbrev pub taking : List Event
taking =
    refused 1 (Yield 0) (PlateInZone 0) ∷ refused 1 (Give 1) (PlateInZone 1) ∷ refused 1 (Release 1) (PlateInZone 1)
    ∷ refused 1 (SetPose 1) (PlateInZone 0) ∷ refused 1 (Take 1) NoPlate ∷ refused 2 (Claim 1) (Held 1)
    ∷ did 1 (Take 0) ∷ did 1 (SetPose 3) ∷ did 1 (SetPose 1) ∷ []

-- it gives the plate to the unloader, 2, by the unloader's zone
abbrev pub unloading : List Event
unloading =
    refused 1 (Give 0) WrongWay ∷ did 1 (Give 1) ∷ event 0 (Inquire 0) (Shown (Some 2) false Closed)
    ∷ event 0 (Inquire 1) (Shown (Some 2) true OpenOut) ∷ refused 0 (Claim 0) (Held 2) ∷ refused 1 (Claim 0) (Held 2)
    ∷ refused 2 (Release 1) (PlateInZone 1) ∷ did 2 (Take 1) ∷ did 2 (Release 1) ∷ []

-- free again, it is open for the unloader alone
abbrev pub leaving : List Event
leaving =
    refused 0 (Claim 0) (Shut Closed) ∷ did 2 (Claim 1) ∷ did 2 (Yield 1) ∷ did 1 (Release 0)
    ∷ event 2 (Inquire 1) (Shown None false OpenOut) ∷ []

-- two zones, and whether the hand, the die and the tray have a plate
abbrev pub at : ZoneState → ZoneState → Bool → Bool → Bool → ℕ → State
at first second hand die tray stamp = record {
  zones = first ∷ second ∷ replicate 8 free_zone;
  full = hand ∷ die ∷ tray ∷ replicate 13 false;
  stamp = stamp;
  stopped = false;
}

abbrev pub side : ℕ → Posture → Bool → ZoneState
side owner posture flag = record { owner = Some owner; flag = flag; posture = posture }

abbrev pub free_side : Posture → ZoneState
free_side posture = record { owner = None; flag = false; posture = posture }

abbrev pub claimed_state : State
claimed_state = at (side 1 OpenIn false) (side 1 Closed false) true false false 3

abbrev pub given_state : State
given_state = at (side 1 OpenIn true) (side 1 Closed false) false false false 5

abbrev pub taken_state : State
taken_state = at (side 1 Closed false) (side 1 OpenOut false) false true false 8

abbrev pub free_state : State
free_state = at (free_side Closed) (free_side OpenOut) false false true 11

pub record HistoriesOfRobots : Type 0 where
  pub claims : IsLegal robots_table robots_start claiming
  pub claimed : after robots_table robots_start claiming ≡ claimed_state
  pub loads : IsLegal robots_table claimed_state loading
  pub given : after robots_table claimed_state loading ≡ given_state
  pub takes : IsLegal robots_table given_state taking
  pub taken : after robots_table given_state taking ≡ taken_state
  pub unloads : IsLegal robots_table taken_state unloading
  pub free : after robots_table taken_state unloading ≡ free_state
  pub leaves : IsLegal robots_table free_state leaving
  pub left : after robots_table free_state leaving
      ≡ at (free_side Closed) (free_side OpenOut) false false true 14

-- who gains and loses the loader's zone, 0, of machines 0 to 2, by calls about either zone
abbrev pub gainers : ℕ → Call → List Bool
gainers n c = map (λ m. gains robots_table n c m 0) (0 ∷ 1 ∷ 2 ∷ [])

abbrev pub losers : ℕ → Call → List Bool
losers n c = map (λ m. loses robots_table n c m 0) (0 ∷ 1 ∷ 2 ∷ [])

pub record SpacesPass : Type 0 where
  pub claim : gainers 1 (Claim 1) ≡ false ∷ true ∷ false ∷ []
  pub by_other_guest : gainers 2 (Claim 1) ≡ false ∷ false ∷ true ∷ []
  pub give : gainers 1 (Give 1) ≡ false ∷ false ∷ true ∷ []
  pub give_back : gainers 0 (Give 0) ≡ false ∷ true ∷ false ∷ []
  pub by_stranger : gainers 0 (Give 1) ≡ false ∷ false ∷ false ∷ []
  pub release : losers 2 (Release 1) ≡ false ∷ false ∷ true ∷ []
  pub yield : losers 1 (Yield 1) ≡ false ∷ true ∷ false ∷ []
  pub past_the_end : losers 1 (Yield 2) ≡ false ∷ false ∷ false ∷ []
  pub plates : map (space_has_plate robots_table given_state) (0 ∷ 1 ∷ 2 ∷ []) ≡ true ∷ true ∷ false ∷ []
  pub count : plates_of robots_table given_state ≡ 1
  -- each refusal has its cause, of the space
  pub cause : map (λ y. is_cause robots_table given_state 1 (Yield 1) (PlateInZone y)) (0 ∷ 1 ∷ [])
      ≡ false ∷ true ∷ []
  pub pose : map (λ y. is_cause robots_table given_state 1 (SetPose 1) (PlateInZone y)) (0 ∷ 1 ∷ [])
      ≡ true ∷ false ∷ []

-- states that aren't sound: a zone has another owner than its space, or moves while its space stands; two zones of a
-- space have a plate; the owner enters another space
abbrev pub IsUnsound : State → Type 0
IsUnsound s = ¬ IsSound robots_table s

pub record SpacesUnsound : Type 0 where
  pub owners : IsUnsound (at (side 0 OpenIn false) (side 2 OpenOut false) false false false 7)
  pub free_beside : IsUnsound (at (side 1 Closed false) (free_side Closed) false false false 7)
  pub moves_alone : IsUnsound (at (side 1 Closed false) (side 1 Moving false) false false false 7)
  pub two_plates : IsUnsound (at (side 1 OpenIn true) (side 1 OpenIn true) false false false 7)
  pub stranger : IsUnsound (at (side 3 OpenIn false) (side 3 OpenIn false) false false false 7)

-- a history that isn't legal: two robots have claimed their zones of the space
abbrev pub both_claim : List Event
both_claim = done 0 (Claim 0) ∷ done 2 (Claim 1) ∷ []

pub record RobotsAreMet : Type 0 where
  pub histories : HistoriesOfRobots
  pub spaces : SpacesPass
  pub unsound : SpacesUnsound
  pub two_at_a_time : ¬ OneAtATime robots_table robots_start both_claim
