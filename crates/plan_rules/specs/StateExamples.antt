-- Literal states: what they say, what each call leaves of them, which aren't sound, and which are no start.
use Rattle.std.specs.Prelude.{◌≡◌, ℕ, Bool, true, false, [], ◌∷◌, ◌++◌, replicate, Some, None}
use Rattle.plan_types.specs.declared.posture.Posture.TheVariants.{Closed, Moving, OpenIn, OpenOut}
use Rattle.plan_types.specs.declared.call.Call.{Call}
use Rattle.plan_types.specs.declared.call.Call.TheVariants.{Claim, Give, Yield, Take, Release, SetPose, Inquire, Stop}
use Rattle.plan_types.specs.declared.call.Call.TheVariants.{Resume}
use Rattle.plan_types.specs.declared.answer.Answer.TheVariants.{Shown}
use Rattle.plan_types.specs.Table.{watch}
use Rattle.plan_types.specs.Examples.{press_table, lift_table}
use Rattle.plan_rules.specs.declared.state.ZoneState.{ZoneState}
use Rattle.plan_rules.specs.declared.state.State.{State}
use Rattle.plan_rules.specs.State.{last_stamp, free_zone, zone_at, owner_of, posture_at, is_full, coming, plates_for}
use Rattle.plan_rules.specs.State.{plates_of, start_state}
use Rattle.plan_rules.specs.Sound.{IsSound, IsStart}
use Rattle.plan_rules.specs.Reply.{reply, next, other_party}
use Rattle.plan_rules.specs.Examples.{doors_table}
use Rattle.plan_rules.specs.OrderExamples.{interior, press_state, free, moving, given, with_stop, with_last_stamp}

-- a state of the lift: its two zones, whether the lift and the upper floor have a plate, and the stamp; the lower floor
-- has a plate
abbrev pub lift_state : ZoneState → ZoneState → Bool → Bool → ℕ → State
lift_state lower upper lift above stamp = record {
  zones = lower ∷ upper ∷ replicate 8 free_zone;
  full = lift ∷ true ∷ above ∷ replicate 13 false;
  stamp = stamp;
  stopped = false;
}

-- the lower zone, which is the lower floor's; the upper one, with a plate on its way to the upper floor
abbrev pub lower : ZoneState
lower = interior (Some 1) OpenOut false

abbrev pub upper : ZoneState
upper = interior (Some 2) OpenOut true

-- plates on their way to the lift, from below and from above
abbrev pub both_come : State
both_come = lift_state (interior (Some 0) OpenIn true) (interior (Some 0) OpenIn true) true false 7

-- what a state says of a zone and of a place, also past the end; and its plates
pub record StatesSay : Type 0 where
  pub zone : zone_at (lift_state lower upper false false 7) 1
      ≡ record { owner = Some 2; flag = true; posture = OpenOut }
  pub no_zone : zone_at (lift_state lower upper false false 7) 10
      ≡ record { owner = None; flag = false; posture = Closed }
  pub owner : owner_of (lift_state lower upper false false 7) 0 ≡ Some 1
  pub posture : posture_at (lift_state (interior None Moving false) upper false false 7) 0 ≡ Moving
  pub full : is_full (lift_state lower upper false false 7) 1 ≡ true
  pub empty : is_full (lift_state lower upper false true 7) 0 ≡ false
  pub no_place : is_full (lift_state lower upper true true 7) 16 ≡ false
  pub last_stamp : last_stamp ≡ 1048575
  pub start : start_state (true ∷ replicate 15 false) 9 ≡ record {
    zones = replicate 10 (record { owner = None; flag = false; posture = Closed });
    full = true ∷ replicate 15 false;
    stamp = 9;
    stopped = false;
  }
  -- the plates that a place has coming, and those that it has, or has coming
  pub comes_up : coming lift_table (lift_state lower upper false false 7) 2 ≡ 1
  pub none_comes : coming lift_table (lift_state lower upper true false 7) 0 ≡ 0
  pub both_come : coming lift_table both_come 0 ≡ 2
  pub for_above : plates_for lift_table (lift_state lower upper false true 7) 2 ≡ 2
  pub for_below : plates_for lift_table (lift_state lower upper false true 7) 1 ≡ 1
  pub for_lift : plates_for lift_table (lift_state lower upper false true 7) 0 ≡ 0
  pub shut : plates_for lift_table (lift_state lower (interior (Some 2) Closed true) false false 7) 2 ≡ 0
  pub plates : plates_of lift_table (lift_state lower upper true true 7) ≡ 4
  -- the other party of a zone
  pub guest : other_party lift_table 0 1 ≡ 2
  pub host : other_party lift_table 2 1 ≡ 0
  pub lower_guest : other_party lift_table 0 0 ≡ 1

-- a call about the upper zone: the zone, and whether the lift and the upper floor have a plate, before and after; it
-- leaves all else, and counts as one
abbrev pub Leaves : ZoneState → Bool → Bool → ℕ → Call → ZoneState → Bool → Bool → Type 0
Leaves zone lift above m c zone_after lift_after above_after =
    next lift_table (lift_state lower zone lift above 7) m c
    ≡ lift_state lower zone_after lift_after above_after 8

-- a pose of machine 0 leaves both zones, which it owns, in these postures
abbrev pub both : ZoneState → ZoneState → ℕ → State
both first second stamp = lift_state first second false true stamp

pub record CallsLeave : Type 0 where
  pub claim : Leaves free_zone false false 0 (Claim 1) (interior (Some 0) Closed false) false false
  pub claim_by_guest : Leaves (interior None OpenIn false) false true 2 (Claim 1)
      (interior (Some 2) OpenIn false) false true
  pub give : Leaves (interior (Some 2) OpenIn false) false true 2 (Give 1) (interior (Some 0) OpenIn true) false false
  pub give_outward : Leaves (interior (Some 0) OpenOut false) true false 0 (Give 1) upper false false
  pub yield : Leaves (interior (Some 0) OpenOut false) true false 0 (Yield 1)
      (interior (Some 2) OpenOut false) true false
  pub yield_back : Leaves (interior (Some 2) OpenIn false) true true 2 (Yield 1)
      (interior (Some 0) OpenIn false) true true
  pub take : Leaves (interior (Some 0) OpenIn true) false false 0 (Take 1) (interior (Some 0) OpenIn false) true false
  pub take_outward : Leaves upper false false 2 (Take 1) (interior (Some 2) OpenOut false) false true
  pub release : Leaves (interior (Some 2) OpenOut false) false true 2 (Release 1)
      (interior None OpenOut false) false true
  pub pose : next lift_table (both (interior (Some 0) Moving false) (interior (Some 0) Moving false) 7) 0 (SetPose 4)
      ≡ both (interior (Some 0) Closed false) (interior (Some 0) OpenIn false) 8
  pub pose_of_one : next doors_table (both (interior (Some 0) OpenOut false) (interior (Some 0) OpenIn false) 7) 0
      (SetPose 0) ≡ both (interior (Some 0) Moving false) (interior (Some 0) OpenIn false) 8
  pub stop : next lift_table (lift_state lower upper true true 7) watch Stop
      ≡ with_stop (lift_state lower upper true true 8)
  pub resume : next lift_table (with_stop (lift_state lower upper true true 7)) watch Resume
      ≡ lift_state lower upper true true 8
  pub refused : next lift_table (lift_state lower upper true true 7) 1 (Claim 1) ≡ lift_state lower upper true true 7
  pub shown : next lift_table (lift_state lower upper true true 7) 0 (Inquire 1) ≡ lift_state lower upper true true 7
  pub shows : reply lift_table (lift_state lower upper true true 7) 1 (Inquire 1) ≡ Shown (Some 2) true OpenOut
  pub shows_lower : reply lift_table (lift_state lower upper true true 7) 2 (Inquire 0)
      ≡ Shown (Some 1) false OpenOut

-- a state of the press with this interior, in which the loader has no plate, and the press has one or none
abbrev pub Unsound : ZoneState → Bool → Type 0
Unsound zone press = ¬ IsSound press_table (press_state zone false press)

pub record UnsoundStates : Type 0 where
  pub stamp : ¬ IsSound press_table (record free { stamp = 1048576 })
  pub nine_zones : ¬ IsSound press_table (record free { zones = replicate 9 free_zone })
  pub eleven_zones : ¬ IsSound press_table (record free { zones = replicate 11 free_zone })
  pub fifteen_places : ¬ IsSound press_table (record free { full = replicate 15 false })
  pub seventeen_places : ¬ IsSound press_table (record free { full = replicate 17 false })
  pub stranger : Unsound (interior (Some 2) Closed false) false
  pub plate_in_shut_zone : Unsound (interior (Some 1) Closed true) false
  pub giver_owns : Unsound (interior (Some 0) OpenIn true) false
  pub press_gives_and_owns : Unsound (interior (Some 1) OpenOut true) false
  pub nobody_owns : Unsound (interior None OpenIn true) false
  pub guest_in_shut_zone : Unsound (interior (Some 0) Closed false) false
  pub moves_unowned : Unsound (interior None Moving false) false
  pub plate_onto_plate : Unsound (interior (Some 1) OpenIn true) true
  pub second_zone : ¬ IsSound lift_table (lift_state lower (interior (Some 1) OpenOut false) false false 7)
  pub two_plates_come : ¬ IsSound lift_table (record both_come { full = replicate 16 false })
  -- the upper floor has a plate, and one is on its way there; the upper zone breaks each other rule
  pub plate_onto_last : ¬ IsSound lift_table (lift_state lower upper false true 7)
  pub second_plate : ¬ IsSound lift_table (lift_state lower (interior (Some 0) OpenOut true) false false 7)
  pub second_guest : ¬ IsSound lift_table (lift_state lower (interior (Some 2) Closed false) false false 7)
  pub second_moves : ¬ IsSound lift_table (lift_state lower (interior None Moving false) false false 7)

-- a plate on its way to the press; the full press moves, while the plant is stopped at the last stamp or isn't
pub record SoundStates : Type 0 where
  pub given : IsSound press_table given
  pub late : IsSound press_table (with_stop (with_last_stamp moving))
  pub moves : IsSound press_table moving

pub record NoStarts : Type 0 where
  pub stamp : ¬ IsStart (record free { stamp = 1048576 })
  pub stopped : ¬ IsStart (with_stop free)
  pub moves : ¬ IsStart moving
  pub fifteen_places : ¬ IsStart (start_state (replicate 15 true) 7)
  pub seventeen_places : ¬ IsStart (start_state (replicate 17 false) 7)
  pub last_zone_open : ¬ IsStart (record free { zones = replicate 9 free_zone ++ interior None OpenIn false ∷ [] })
  pub owned : ¬ IsStart (press_state (interior (Some 1) Closed false) true false)
  pub plate : ¬ IsStart (press_state (interior None Closed true) true false)
  pub eleven_zones : ¬ IsStart (record free { zones = replicate 11 free_zone })
  -- any places may be full, at any stamp
  pub some_places : IsStart (start_state (false ∷ true ∷ replicate 13 false ++ true ∷ []) 7)
  pub free : IsStart free

pub record StatesAreMet : Type 0 where
  pub say : StatesSay
  pub calls_leave : CallsLeave
  pub unsound : UnsoundStates
  pub sound : SoundStates
  pub no_starts : NoStarts
