-- Literal rows of the parts that refusals, causes and changes are made of, by a lift: it hosts both zones, the lower
-- floor, 1, is the guest at the lower zone, 0, and the upper floor, 2, at the upper one, 1.
use Rattle.std.specs.Prelude.{◌≡◌, ℕ, ◌+◌, Bool, true, false, nat_eq, nat_lt, List, [], ◌∷◌, map, replicate}
use Rattle.std.specs.Prelude.{Option, Some, None}
use Rattle.std.specs.Bool.{then_some}
use Rattle.plan_types.specs.declared.posture.Posture.{Posture}
use Rattle.plan_types.specs.declared.posture.Posture.TheVariants.{Closed, Moving, OpenIn, OpenOut}
use Rattle.plan_types.specs.declared.call.Call.{Call}
use Rattle.plan_types.specs.declared.call.Call.TheVariants.{Claim, Give, Yield, Take, Release, SetPose, Inquire, Stop}
use Rattle.plan_types.specs.declared.call.Call.TheVariants.{Resume}
use Rattle.plan_types.specs.declared.answer.Refusal.{Refusal}
use Rattle.plan_types.specs.declared.answer.Refusal.TheVariants.{NotParty, Held, AlreadyMine, Shut, NotOwner}
use Rattle.plan_types.specs.declared.answer.Refusal.TheVariants.{PlateInZone, NoPlate, PlaceFull, WrongWay, Jump}
use Rattle.plan_types.specs.declared.answer.Refusal.TheVariants.{NoPose, Worn, Stopped, NotStopped}
use Rattle.plan_types.specs.declared.answer.Answer.TheVariants.{Done, Shown, Refused}
use Rattle.plan_types.specs.Examples.{lift_table}
use Rattle.plan_types.specs.Readings.{transfer, postures}
use Rattle.plan_rules.specs.declared.state.ZoneState.{ZoneState}
use Rattle.plan_rules.specs.declared.state.State.{State}
use Rattle.plan_rules.specs.State.{free_zone, one_if, leads_to, is_coming, coming, plates_for, plates_of}
use Rattle.plan_rules.specs.Sound.{implies, is_open, is_owned_by, is_received_by, IsLawfulZone, IsSound}
use Rattle.plan_rules.specs.Refusals as refusal
use Rattle.plan_rules.specs.Causes as cause
use Rattle.plan_rules.specs.RefusalLaws.{from_on}
use Rattle.plan_rules.specs.Reply as reply
use Rattle.plan_rules.specs.Reply.{next}
use Rattle.plan_rules.specs.History.{posture_by_events}
use Rattle.plan_rules.specs.Examples.{did, doors_table}
use Rattle.plan_rules.specs.CauseExamples.{eight_table, last_zone}
use Rattle.plan_rules.specs.OrderExamples.{interior, with_stop}
use Rattle.plan_rules.specs.StateExamples.{lift_state, lower, upper, both}

-- the lower zone is the lower floor's, the upper one the upper floor's, with a plate on its way there; the lower floor
-- alone has a plate in its place
abbrev pub riding : State
riding = lift_state lower upper false false 7

-- the upper zone is nobody's, in this posture
abbrev pub upper_in : Posture → State
upper_in posture = lift_state lower (interior None posture false) false false 7

-- the lift has a plate
abbrev pub laden : ZoneState → State
laden zone = lift_state lower zone true false 7

-- both zones move
abbrev pub travelling : State
travelling = both (interior (Some 0) Moving false) (interior (Some 0) Moving false) 7

-- of both zones
abbrev pub of_both : {A : Type 0} → (ℕ → A) → List A
of_both f = f 0 ∷ f 1 ∷ []

pub record RefusalParts : Type 0 where
  pub owns : refusal.owns riding 2 1 ≡ true
  pub owns_not : refusal.owns riding 0 1 ≡ false
  pub owns_free : refusal.owns riding 0 5 ≡ false
  pub stranger : refusal.not_party lift_table 1 1 ≡ Some NotParty
  pub guest : refusal.not_party lift_table 2 1 ≡ None
  pub host : refusal.not_party lift_table 0 1 ≡ None
  pub mine : refusal.already_mine riding 2 1 ≡ Some AlreadyMine
  pub not_mine : refusal.already_mine riding 0 1 ≡ None
  pub held_by : map (λ o. refusal.held_by o 3) (None ∷ Some 4 ∷ Some 3 ∷ []) ≡ None ∷ Some (Held 4) ∷ None ∷ []
  pub held : refusal.held riding 0 1 ≡ Some (Held 2)
  pub held_by_caller : refusal.held riding 2 1 ≡ None
  pub held_by_nobody : refusal.held riding 0 5 ≡ None
  pub shut_to_guest : map (λ q. refusal.shut_to_guest lift_table (upper_in q) 2 1) postures
      ≡ Some (Shut Closed) ∷ Some (Shut Moving) ∷ None ∷ None ∷ []
  pub open_to_host : map (λ q. refusal.shut_to_guest lift_table (upper_in q) 0 1) postures ≡ replicate 4 None
  pub worn : map (λ n. refusal.worn (record riding { stamp = n })) (0 ∷ 1048574 ∷ 1048575 ∷ 1048576 ∷ [])
      ≡ None ∷ None ∷ Some Worn ∷ Some Worn ∷ []
  pub stopped : map refusal.while_stopped (riding ∷ with_stop riding ∷ []) ≡ None ∷ Some Stopped ∷ []
  pub not_stopped : map refusal.not_stopped (riding ∷ with_stop riding ∷ []) ≡ Some NotStopped ∷ None ∷ []
  pub not_watch : map refusal.not_watch (0 ∷ 29 ∷ 30 ∷ 31 ∷ [])
      ≡ Some NotParty ∷ Some NotParty ∷ None ∷ Some NotParty ∷ []
  pub not_owner : refusal.not_owner riding 0 1 ≡ Some (NotOwner (Some 2))
  pub owner : refusal.not_owner riding 2 1 ≡ None
  pub no_owner : refusal.not_owner riding 0 5 ≡ Some (NotOwner None)
  pub plate : of_both (refusal.plate_in_zone lift_table riding) ≡ None ∷ Some (PlateInZone 1) ∷ []
  pub no_plate : of_both (refusal.no_plate_in_zone riding) ≡ Some NoPlate ∷ None ∷ []
  pub moving : map (λ q. refusal.shut_while_moving (upper_in q) 1) postures
      ≡ None ∷ Some (Shut Moving) ∷ None ∷ None ∷ []
  pub shut : map (λ q. refusal.shut (upper_in q) 1) postures
      ≡ Some (Shut Closed) ∷ Some (Shut Moving) ∷ None ∷ None ∷ []

pub record WayParts : Type 0 where
  pub by_giver : refusal.given_by 3 (transfer 3 4 5 6) ≡ transfer 3 4 5 6
  pub by_receiver : refusal.given_by 4 (transfer 3 4 5 6) ≡ None
  pub by_nobody : refusal.given_by 3 None ≡ None
  pub by_lift : refusal.transfer_given lift_table riding 0 1 ≡ transfer 0 2 0 2
  pub by_guest : refusal.transfer_given lift_table riding 2 1 ≡ None
  pub inward : refusal.transfer_given lift_table (upper_in OpenIn) 2 1 ≡ transfer 2 0 2 0
  pub shut : refusal.transfer_given lift_table (upper_in Closed) 0 1 ≡ None
  pub wrong : map refusal.wrong_way (None ∷ transfer 3 4 5 6 ∷ []) ≡ Some WrongWay ∷ None ∷ []
  pub nothing : map (refusal.nothing_to_give riding) (None ∷ transfer 1 0 1 0 ∷ transfer 0 2 0 2 ∷ [])
      ≡ None ∷ None ∷ Some NoPlate ∷ []
  pub taken : map (refusal.is_taken lift_table riding) (0 ∷ 1 ∷ 2 ∷ 3 ∷ []) ≡ false ∷ true ∷ true ∷ false ∷ []
  pub onto : map (refusal.is_onto_taken lift_table riding) (None ∷ transfer 0 2 0 2 ∷ transfer 2 0 2 0 ∷ [])
      ≡ false ∷ true ∷ false ∷ []
  pub no_room : map (refusal.no_room lift_table riding) (None ∷ transfer 0 2 0 2 ∷ transfer 2 0 2 0 ∷ [])
      ≡ None ∷ Some PlaceFull ∷ None ∷ []

-- the first of the zones that are refused
abbrev pub refused_above : ℕ → ℕ → Option Refusal
refused_above n z = then_some (nat_lt n z) (PlateInZone z)

pub record PoseParts : Type 0 where
  pub second_zone : refusal.first_zone lift_table (refused_above 0) ≡ Some (PlateInZone 1)
  pub first_zone : refusal.first_zone lift_table (λ z. Some (PlateInZone z)) ≡ Some (PlateInZone 0)
  pub no_zone : refusal.first_zone lift_table (refused_above 1) ≡ None
  pub lacks : map (refusal.lacks_pose lift_table 0) (0 ∷ 4 ∷ 5 ∷ []) ≡ None ∷ None ∷ Some NoPose ∷ []
  pub anothers : map (refusal.lacks_pose lift_table 1) (0 ∷ 4 ∷ []) ≡ Some NoPose ∷ Some NoPose ∷ []
  pub stopped : map (refusal.moves_while_stopped lift_table (with_stop riding)) (0 ∷ 1 ∷ [])
      ≡ Some Stopped ∷ None ∷ []
  pub going : refusal.moves_while_stopped lift_table riding 0 ≡ None
  pub gives : of_both (refusal.posture_with lift_table riding 2) ≡ Closed ∷ OpenOut ∷ []
  pub leaves : of_both (refusal.posture_with doors_table riding 0) ≡ Moving ∷ OpenOut ∷ []
  -- a pose that closes the lower zone, and leaves the upper one as it is; one that moves both; one that moves the first
  -- door; one that opens the second
  pub concerned : of_both (refusal.is_concerned lift_table riding 0 2) ≡ true ∷ false ∷ []
  pub moves_both : of_both (refusal.is_concerned lift_table riding 0 0) ≡ true ∷ true ∷ []
  pub moves_one : of_both (refusal.is_concerned doors_table riding 0 0) ≡ true ∷ true ∷ []
  pub opens_one : of_both (refusal.is_concerned doors_table riding 0 1) ≡ false ∷ true ∷ []
  pub not_host : of_both (refusal.is_concerned lift_table riding 2 0) ≡ false ∷ false ∷ []
  pub unowned : of_both (refusal.unowned_by_pose lift_table riding 0 0)
      ≡ Some (NotOwner (Some 1)) ∷ Some (NotOwner (Some 2)) ∷ []
  pub unowned_lower : of_both (refusal.unowned_by_pose lift_table riding 0 2)
      ≡ Some (NotOwner (Some 1)) ∷ None ∷ []
  pub owned : of_both (refusal.unowned_by_pose lift_table travelling 0 2) ≡ None ∷ None ∷ []
  pub plate : of_both (refusal.plate_under_pose lift_table riding 0 0) ≡ None ∷ Some (PlateInZone 1) ∷ []
  pub plate_left : of_both (refusal.plate_under_pose lift_table riding 0 2) ≡ None ∷ None ∷ []
  pub stands : of_both (refusal.stands_at lift_table (upper_in Moving) 0) ≡ true ∷ false ∷ []
  pub stands_for_host : of_both (refusal.stands_at lift_table (upper_in Moving) 1) ≡ false ∷ false ∷ []
  pub jump : map (refusal.jump lift_table (upper_in Moving) 0) (0 ∷ 1 ∷ []) ≡ None ∷ Some Jump ∷ []
  pub no_jump : map (refusal.jump lift_table travelling 0) (0 ∷ 1 ∷ []) ≡ None ∷ None ∷ []
  -- the lift has a plate, or none: the upper zone is opened inward, or the lower one; or the upper one is so already
  pub onto_plate : of_both (refusal.opens_onto_plate lift_table (laden upper) 4) ≡ None ∷ Some PlaceFull ∷ []
  pub onto_plate_below : of_both (refusal.opens_onto_plate lift_table (laden upper) 1) ≡ Some PlaceFull ∷ None ∷ []
  pub onto_empty : of_both (refusal.opens_onto_plate lift_table riding 4) ≡ None ∷ None ∷ []
  pub open_already : of_both (refusal.opens_onto_plate lift_table (laden (interior (Some 0) OpenIn false)) 4)
      ≡ None ∷ None ∷ []
  pub outward : of_both (refusal.opens_onto_plate lift_table (laden upper) 3) ≡ None ∷ None ∷ []
  pub inquired : map (refusal.inquire_refusal lift_table) (0 ∷ 1 ∷ 2 ∷ []) ≡ None ∷ None ∷ Some NotParty ∷ []

pub record CauseParts : Type 0 where
  pub owned_as : map (cause.is_owned_as riding 1) (None ∷ Some 0 ∷ Some 2 ∷ []) ≡ false ∷ false ∷ true ∷ []
  pub owned_by_nobody : map (cause.is_owned_as riding 5) (None ∷ Some 0 ∷ []) ≡ true ∷ false ∷ []
  pub owner : map (cause.is_owner riding 1) (0 ∷ 1 ∷ 2 ∷ []) ≡ false ∷ false ∷ true ∷ []
  pub plate : of_both (cause.has_plate riding) ≡ false ∷ true ∷ []
  pub posture : map (cause.is_in (upper_in OpenIn) 1) postures ≡ false ∷ false ∷ true ∷ false ∷ []
  pub shut : map cause.is_shut postures ≡ true ∷ true ∷ false ∷ false ∷ []
  pub worn : map (λ n. cause.is_worn (record riding { stamp = n })) (0 ∷ 1048574 ∷ 1048575 ∷ [])
      ≡ false ∷ false ∷ true ∷ []
  pub anothers : map (cause.is_anothers riding 0 1) (None ∷ Some 0 ∷ Some 2 ∷ []) ≡ false ∷ false ∷ true ∷ []
  pub own : map (cause.is_anothers riding 2 1) (None ∷ Some 0 ∷ Some 2 ∷ []) ≡ false ∷ false ∷ false ∷ []
  pub nobodys : map (cause.is_anothers riding 0 5) (None ∷ Some 0 ∷ []) ≡ true ∷ false ∷ []
  pub on_way : map (λ way. cause.on_way way (λ w. nat_eq w.to 6)) (None ∷ transfer 3 4 5 6 ∷ transfer 3 4 6 5 ∷ [])
      ≡ false ∷ true ∷ false ∷ []
  pub on_gift : map (λ m. cause.on_gift lift_table riding m 1 (λ w. nat_eq w.to 2)) (0 ∷ 1 ∷ 2 ∷ [])
      ≡ true ∷ false ∷ false ∷ []
  pub on_no_gift : cause.on_gift lift_table riding 0 1 (λ w. nat_eq w.to 0) ≡ false
  pub filled : map (cause.is_filled lift_table riding) (0 ∷ 1 ∷ 2 ∷ 3 ∷ []) ≡ false ∷ true ∷ true ∷ false ∷ []
  pub other : map (λ q. cause.is_other q Moving) (None ∷ Some Closed ∷ Some Moving ∷ []) ≡ false ∷ true ∷ false ∷ []
  pub at_stake : of_both (cause.is_at_stake lift_table riding 0 2) ≡ true ∷ false ∷ []
  pub moves_both : of_both (cause.is_at_stake lift_table riding 0 0) ≡ true ∷ true ∷ []
  pub moves_one : of_both (cause.is_at_stake doors_table riding 0 0) ≡ true ∷ true ∷ []
  pub opens_one : of_both (cause.is_at_stake doors_table riding 0 1) ≡ false ∷ true ∷ []
  pub not_host : of_both (cause.is_at_stake lift_table riding 2 0) ≡ false ∷ false ∷ []
  pub lowest : map (λ n. cause.lowest lift_table (λ z. nat_lt n (z + 1))) (0 ∷ 1 ∷ 2 ∷ []) ≡ Some 0 ∷ Some 1 ∷ None ∷ []
  pub on_zone : map (λ z. cause.on_zone z (nat_eq 6)) (None ∷ Some 5 ∷ Some 6 ∷ []) ≡ false ∷ false ∷ true ∷ []
  pub opened : map (λ q. cause.is_opened q Closed) (None ∷ Some OpenIn ∷ Some OpenOut ∷ []) ≡ false ∷ true ∷ false ∷ []
  pub opened_before : cause.is_opened (Some OpenIn) OpenIn ≡ false
  pub lacks_room : of_both (cause.lacks_room lift_table (laden upper) 4) ≡ false ∷ true ∷ []
  pub lacks_room_below : of_both (cause.lacks_room lift_table (laden upper) 1) ≡ true ∷ false ∷ []
  pub has_room : of_both (cause.lacks_room lift_table riding 4) ≡ false ∷ false ∷ []
  pub from_on : map (λ n. from_on n (4 ∷ 5 ∷ 6 ∷ [])) (4 ∷ 5 ∷ 7 ∷ []) ≡ (4 ∷ 5 ∷ 6 ∷ []) ∷ (5 ∷ 6 ∷ []) ∷ [] ∷ []

pub record ChangeParts : Type 0 where
  pub accepted : map (reply.accepted riding)
      (Claim 1 ∷ Give 1 ∷ Yield 1 ∷ Take 1 ∷ Release 1 ∷ SetPose 1 ∷ Stop ∷ Resume ∷ []) ≡ replicate 8 Done
  pub shown : reply.accepted riding (Inquire 1) ≡ Shown (Some 2) true OpenOut
  pub answered : map (λ r. reply.answer_by r Done) (None ∷ Some (Held 4) ∷ []) ≡ Done ∷ Refused (Held 4) ∷ []
  pub stranger : reply.other_party lift_table 5 1 ≡ 0
  pub emptied : reply.emptied (true ∷ true ∷ true ∷ []) (transfer 3 4 1 2) ≡ true ∷ false ∷ true ∷ []
  pub filled : reply.filled (false ∷ false ∷ false ∷ []) (transfer 3 4 1 2) ≡ false ∷ false ∷ true ∷ []
  pub left : reply.emptied (true ∷ false ∷ []) None ≡ true ∷ false ∷ []
  pub left_too : reply.filled (true ∷ false ∷ []) None ≡ true ∷ false ∷ []
  pub with_owner : reply.with_owner lift_table riding 1 (Some 0) false
      ≡ lower ∷ interior (Some 0) OpenOut true ∷ replicate 8 free_zone
  pub without_owner : reply.with_owner lift_table riding 0 None false
      ≡ interior None OpenOut false ∷ upper ∷ replicate 8 free_zone
  pub posed : of_both (reply.posed lift_table riding 2) ≡ interior (Some 1) Closed false ∷ upper ∷ []
  pub left_alone : reply.posed doors_table riding 0 1 ≡ upper
  pub all_posed : reply.all_posed lift_table riding 2
      ≡ interior (Some 1) Closed false ∷ upper ∷ replicate 8 free_zone
  pub zones_left : map (reply.zones_after lift_table riding 0) (Inquire 1 ∷ Stop ∷ Resume ∷ [])
      ≡ replicate 3 (lower ∷ upper ∷ replicate 8 free_zone)
  pub places_left : map (reply.places_after lift_table riding 0)
      (Claim 1 ∷ Yield 1 ∷ Release 1 ∷ SetPose 1 ∷ Inquire 1 ∷ Stop ∷ Resume ∷ [])
      ≡ replicate 7 (false ∷ true ∷ replicate 14 false)
  pub going_on : map (reply.stopped_after riding)
      (Claim 1 ∷ Give 1 ∷ Yield 1 ∷ Take 1 ∷ Release 1 ∷ SetPose 1 ∷ Inquire 1 ∷ Resume ∷ []) ≡ replicate 8 false
  pub stopped : map (reply.stopped_after (with_stop riding))
      (Claim 1 ∷ Give 1 ∷ Yield 1 ∷ Take 1 ∷ Release 1 ∷ SetPose 1 ∷ Inquire 1 ∷ Stop ∷ []) ≡ replicate 8 true
  pub stop : reply.stopped_after riding Stop ≡ true
  pub resume : reply.stopped_after (with_stop riding) Resume ≡ false

-- the upper zone, as its owner, its posture and a plate make it
abbrev pub Lawful : Option ℕ → Posture → Bool → Type 0
Lawful owner posture plate = IsLawfulZone lift_table 1 (interior owner posture plate)

pub record ZoneRules : Type 0 where
  pub implied : map (implies true) (false ∷ true ∷ []) ≡ false ∷ true ∷ []
  pub implied_by_nothing : map (implies false) (false ∷ true ∷ []) ≡ true ∷ true ∷ []
  pub opens : map is_open postures ≡ false ∷ false ∷ true ∷ true ∷ []
  pub owned : map (λ o. is_owned_by o 3) (None ∷ Some 0 ∷ Some 3 ∷ []) ≡ false ∷ false ∷ true ∷ []
  pub owned_by_first : map (λ o. is_owned_by o 0) (None ∷ Some 0 ∷ []) ≡ false ∷ true ∷ []
  pub received : map (λ o. is_received_by o (transfer 3 4 5 6)) (None ∷ Some 3 ∷ Some 4 ∷ [])
      ≡ false ∷ false ∷ true ∷ []
  pub not_received : map (λ o. is_received_by o None) (None ∷ Some 3 ∷ []) ≡ false ∷ false ∷ []
  pub plates : map one_if (false ∷ true ∷ []) ≡ 0 ∷ 1 ∷ []
  pub leads : map (leads_to (transfer 3 4 5 6)) (3 ∷ 4 ∷ 5 ∷ 6 ∷ []) ≡ false ∷ false ∷ false ∷ true ∷ []
  pub leads_nowhere : leads_to None 6 ≡ false
  pub comes : map (λ p. is_coming lift_table upper p 1) (0 ∷ 1 ∷ 2 ∷ []) ≡ false ∷ false ∷ true ∷ []
  pub comes_below : map (λ p. is_coming lift_table upper p 0) (0 ∷ 1 ∷ 2 ∷ []) ≡ false ∷ true ∷ false ∷ []
  pub no_plate_comes : is_coming lift_table (interior (Some 2) OpenOut false) 2 1 ≡ false
  -- all states of the upper zone that the rules allow
  pub closed : Lawful None Closed false
  pub open_in : Lawful None OpenIn false
  pub open_out : Lawful None OpenOut false
  pub closed_by_host : Lawful (Some 0) Closed false
  pub moved_by_host : Lawful (Some 0) Moving false
  pub opened_by_host : Lawful (Some 0) OpenIn false
  pub opened_outward_by_host : Lawful (Some 0) OpenOut false
  pub guest_gives : Lawful (Some 2) OpenIn false
  pub guest_waits : Lawful (Some 2) OpenOut false
  pub given_to_host : Lawful (Some 0) OpenIn true
  pub given_to_guest : Lawful (Some 2) OpenOut true
  -- states that break one rule alone: the owner's, a plate's, the guest's, the host's
  pub stranger : ¬ Lawful (Some 1) OpenIn false
  pub far_stranger : ¬ Lawful (Some 3) Closed false
  pub giver_owns : ¬ Lawful (Some 2) OpenIn true
  pub host_gives_and_owns : ¬ Lawful (Some 0) OpenOut true
  pub nobody_receives : ¬ Lawful None OpenOut true
  pub plate_in_closed : ¬ Lawful (Some 0) Closed true
  pub plate_in_moving : ¬ Lawful (Some 0) Moving true
  pub guest_in_closed : ¬ Lawful (Some 2) Closed false
  pub moves_alone : ¬ Lawful None Moving false

-- the eighth of eight zones, whose host is 3 and whose guest is 2: inward from place 1 to place 2, outward from 2 to 0
abbrev pub after_far_call : ZoneState → Bool → ℕ → Call → State
after_far_call eighth full m c = next eight_table (last_zone eighth full) m c

pub record FarZone : Type 0 where
  pub claim : after_far_call (interior None OpenIn false) false 2 (Claim 7)
      ≡ record (last_zone (interior (Some 2) OpenIn false) false) { stamp = 8 }
  pub give : after_far_call (interior (Some 2) OpenIn false) false 2 (Give 7)
      ≡ record (last_zone (interior (Some 3) OpenIn true) false) { stamp = 8; full = replicate 16 false }
  pub take : after_far_call (interior (Some 3) OpenIn true) false 3 (Take 7)
      ≡ record (last_zone (interior (Some 3) OpenIn false) true) { stamp = 8 }
  pub yield : after_far_call (interior (Some 3) OpenOut false) false 3 (Yield 7)
      ≡ record (last_zone (interior (Some 2) OpenOut false) false) { stamp = 8 }
  pub release : after_far_call (interior (Some 2) OpenOut false) true 2 (Release 7)
      ≡ record (last_zone (interior None OpenOut false) true) { stamp = 8 }
  pub pose : after_far_call (interior (Some 3) Moving false) false 3 (SetPose 1)
      ≡ record (last_zone (interior (Some 3) OpenIn false) false) { stamp = 8 }
  pub shown : reply.reply eight_table (last_zone (interior (Some 2) OpenOut true) false) 1 (Inquire 7)
      ≡ Shown (Some 2) true OpenOut
  pub comes : map (plates_for eight_table (last_zone (interior (Some 3) OpenIn true) false)) (0 ∷ 1 ∷ 2 ∷ [])
      ≡ 0 ∷ 1 ∷ 1 ∷ []
  pub comes_outward : map (coming eight_table (last_zone (interior (Some 2) OpenOut true) false)) (0 ∷ 1 ∷ 2 ∷ [])
      ≡ 1 ∷ 0 ∷ 0 ∷ []
  pub plates : plates_of eight_table (last_zone (interior (Some 3) OpenIn true) true) ≡ 3
  pub sound : IsSound eight_table (last_zone (interior (Some 2) OpenIn false) false)
  pub stranger : ¬ IsSound eight_table (last_zone (interior (Some 1) OpenIn false) false)
  pub two_plates : ¬ IsSound eight_table (last_zone (interior (Some 3) OpenIn true) true)
  pub posture : posture_by_events eight_table (last_zone free_zone false) (did 3 (SetPose 0) ∷ did 2 (SetPose 3) ∷ []) 7
      ≡ Moving

pub record PartsAreMet : Type 0 where
  pub far : FarZone
  pub refusals : RefusalParts
  pub ways : WayParts
  pub poses : PoseParts
  pub causes : CauseParts
  pub changes : ChangeParts
  pub zones : ZoneRules
