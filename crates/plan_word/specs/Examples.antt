-- Words of the press and of the lift, put together by hand.
use Rattle.std.specs.Prelude.{◌≡◌, ℕ, ◌-◌, Bool, true, false, [], ◌∷◌, ◌++◌, map, replicate, Option, Some, None}
use Rattle.plan_types.specs.declared.posture.Posture.{Posture}
use Rattle.plan_types.specs.declared.posture.Posture.TheVariants.{Closed, Moving, OpenIn, OpenOut}
use Rattle.plan_types.specs.Examples.{press_table, lift_table, counted, wide_table, gated_table, roads_table}
use Rattle.plan_types.specs.Examples.{rack_table, through_table}
use Rattle.plan_types.specs.declared.call.Call.TheVariants.{Advance}
use Rattle.plan_rules.specs.declared.state.ZoneState.{ZoneState}
use Rattle.plan_rules.specs.declared.state.State.{State}
use Rattle.plan_rules.specs.State.{free_zone, zone_at, start_state}
use Rattle.plan_rules.specs.Reply.{next}
use Rattle.plan_rules.specs.AdvanceExamples.{at, empty_start}
use Rattle.plan_rules.specs.Examples.{press_start, full_press, lift_start, presses_table}
use Rattle.plan_word.specs.declared.layout.Field.TheVariants.{Zone, Place, Stamp, Stop}
use Rattle.plan_word.specs.Layout.{most_zones}
use Rattle.plan_word.specs.OfPlan.{IsOfPlan}
use Rattle.plan_types.specs.declared.shape.Postures.TheVariants.{Two}
use Rattle.plan_word.specs.Packed.{packed, owner_code, posture_code, code_of, zone_code, held, part_of, zone_parts}
use Rattle.plan_word.specs.Packed.{place_parts}
use Rattle.plan_word.specs.Reading.{told, state_told, owner_of_code, posture_of_code, zone_of_code, zone_in_word}
use Rattle.plan_word.specs.Reading.{place_told}

abbrev pub zone : Option ℕ → Bool → Posture → ZoneState
zone owner flag posture = record { owner = owner; flag = flag; posture = posture }

-- the loader has given its plate, and then the watch stops the plant: no place is full
abbrev pub given : ℕ → Bool → State
given stamp stopped = record {
  zones = zone (Some 1) true OpenIn ∷ replicate 9 free_zone;
  full = replicate 16 false;
  stamp = stamp;
  stopped = stopped;
}

-- the lift has given its plate to the upper floor
abbrev pub lifted : State
lifted = record {
  zones = zone (Some 0) false Closed ∷ zone (Some 2) true OpenOut ∷ replicate 8 free_zone;
  full = replicate 16 false;
  stamp = 10;
  stopped = false;
}

-- one press moves, the other one is open to the loader, and has its plate
abbrev pub two_presses : State
two_presses = record {
  zones = zone (Some 1) false Moving ∷ zone (Some 2) true OpenIn ∷ replicate 8 free_zone;
  full = false ∷ true ∷ replicate 14 false;
  stamp = 3;
  stopped = true;
}

-- one zone is owned, or one place is full
abbrev pub with_zone : ℕ → State
with_zone z = record {
  zones = replicate z free_zone ++ zone (Some 0) false Closed ∷ replicate (9 - z) free_zone;
  full = replicate 16 false;
  stamp = 0;
  stopped = false;
}

abbrev pub with_place : ℕ → State
with_place p = start_state (replicate p false ++ true ∷ replicate (15 - p) false) 0

-- the guest has the third zone of eight, which is open inward, and the host the last one, which moves
abbrev pub far_zones : State
far_zones = record {
  zones =
      free_zone ∷ free_zone ∷ zone (Some 0) false OpenIn ∷ replicate 4 free_zone ++ zone (Some 1) false Moving
      ∷ free_zone ∷ free_zone ∷ [];
  full = false ∷ false ∷ true ∷ replicate 13 false;
  stamp = 1048575;
  stopped = true;
}

-- the second arm is at the rack, the left press moves, and the second arm has a plate
abbrev pub at_rack : State
at_rack = record {
  zones = zone (Some 1) false OpenIn ∷ zone (Some 2) false Moving ∷ replicate 8 free_zone;
  full = false ∷ true ∷ replicate 14 false;
  stamp = 5;
  stopped = false;
}

-- a plate is in the last of ten gates, and another one at the last place of three
abbrev pub at_last_gate : State
at_last_gate = record {
  zones = replicate 9 free_zone ++ zone (Some 1) true OpenIn ∷ [];
  full = false ∷ false ∷ true ∷ replicate 13 false;
  stamp = 3;
  stopped = true;
}

-- the press: its zone in bits 0 to 4, its places in 5 and 6, the stamp from 7, the stop in 27
-- the lift: its zones from bits 0 and 5, its places in 10 to 12, the stamp from 13
pub record WordsAreRight : Type 0 where
  pub press_starts : packed press_table press_start ≡ 0x20
  pub press_given : packed press_table (given 5 false) ≡ 0x295
  pub press_stopped : packed press_table (given 6 true) ≡ 0x8000315
  pub press_full : packed press_table full_press ≡ 0x7FFFFF2
  pub lift_starts : packed lift_table lift_start ≡ 0x800
  pub lift_lifted : packed lift_table lifted ≡ 0x143C1
  -- the zones from bits 0 and 5, the places in 10 to 12, the stamp from 13, the stop in 33; each host has its own zone
  pub two_presses_word : packed presses_table two_presses ≡ 0x200006AA9
  -- the third zone and the last one of eight, the last place of three, the last stamp, and a stop
  pub most_zones_word : packed (wide_table 8 3) far_zones ≡ 0xFFFFFC4800004800
  pub last_of_places : packed (counted 0 16) (with_place 15) ≡ 0x8000
  pub nothing : packed (wide_table 8 3) (start_state (replicate 16 false) 0) ≡ 0
  -- the rack in bits 0 to 2, the presses from 3 and 8, the places in 13 to 16, the stamp from 17
  pub rack_word : packed rack_table at_rack ≡ 0xA404E
  -- the zone in bits 0 to 4, the hand, the tray and the press in 5, 6 and 7, the stamp from 8: a plate comes to the
  -- hand, and one goes from the tray
  pub comes : packed through_table (next through_table empty_start 0 (Advance 0)) ≡ 0x120
  pub goes : packed through_table (next through_table (at true true false 1) 0 (Advance 1)) ≡ 0x220
  -- ten gates of four bits
  pub gates_word : packed (gated_table 10 3) at_last_gate ≡ 0x80001CD000000000
  -- zones of two, three and four bits: with no flag, and with one posture, two, or all
  pub rack_zones : map (zone_code rack_table 0)
      (free_zone ∷ zone (Some 0) false Closed ∷ zone (Some 0) false OpenIn ∷ zone (Some 1) false OpenIn
      ∷ zone None false OpenIn ∷ []) ≡ 0 ∷ 1 ∷ 5 ∷ 6 ∷ 4 ∷ []
  pub roads : map (zone_code roads_table 0)
      (free_zone ∷ zone (Some 0) false Moving ∷ zone (Some 1) false OpenIn ∷ zone None false OpenOut ∷ [])
      ≡ 0 ∷ 5 ∷ 10 ∷ 12 ∷ []
  pub gates : map (zone_code (gated_table 10 3) 3)
      (zone (Some 1) false Closed ∷ zone (Some 0) false OpenIn ∷ zone (Some 1) true OpenIn ∷ []) ≡ 1 ∷ 10 ∷ 13 ∷ []
  pub bare : map (zone_code (counted 2 0) 1) (free_zone ∷ zone (Some 1) false Closed ∷ []) ≡ 0 ∷ 1 ∷ []
  -- what has no bits isn't told
  pub not_told : map (zone_code (counted 2 0) 1) (zone (Some 0) true OpenIn ∷ zone None false Moving ∷ []) ≡ 2 ∷ 0 ∷ []
  pub codes : map (code_of (Two OpenOut)) (Closed ∷ OpenOut ∷ Moving ∷ []) ≡ 0 ∷ 1 ∷ 1 ∷ []
  -- by the host and the guest of each zone of the lift, and by no machine
  pub owners : map (owner_code lift_table 1) (None ∷ Some 0 ∷ Some 2 ∷ []) ≡ 0 ∷ 1 ∷ 2 ∷ []
  pub owners_below : map (owner_code lift_table 0) (None ∷ Some 0 ∷ Some 1 ∷ []) ≡ 0 ∷ 1 ∷ 2 ∷ []
  pub postures : map posture_code (Closed ∷ Moving ∷ OpenIn ∷ OpenOut ∷ []) ≡ 0 ∷ 1 ∷ 2 ∷ 3 ∷ []
  pub zones : map (zone_code lift_table 1)
      (free_zone ∷ zone (Some 0) false Moving ∷ zone (Some 2) true OpenOut ∷ zone None false OpenIn ∷ [])
      ≡ 0 ∷ 9 ∷ 30 ∷ 16 ∷ []
  -- what each field holds, and what it adds to the word
  pub held : map (held presses_table two_presses) (Zone 0 ∷ Zone 1 ∷ Place 0 ∷ Place 1 ∷ Place 2 ∷ Stamp ∷ Stop ∷ [])
      ≡ 9 ∷ 21 ∷ 0 ∷ 1 ∷ 0 ∷ 3 ∷ 1 ∷ []
  pub parts : map (part_of presses_table two_presses) (Zone 0 ∷ Zone 1 ∷ Place 1 ∷ Stamp ∷ Stop ∷ [])
      ≡ 9 ∷ 672 ∷ 2048 ∷ 24576 ∷ 8589934592 ∷ []
  pub of_zones : map (zone_parts presses_table two_presses) (0 ∷ 1 ∷ 2 ∷ []) ≡ 0 ∷ 9 ∷ 681 ∷ []
  pub of_places : map (place_parts presses_table two_presses) (0 ∷ 1 ∷ 2 ∷ 3 ∷ []) ≡ 0 ∷ 0 ∷ 2048 ∷ 2048 ∷ []

-- the states that words tell, and the numbers of the fields of a word of ones
pub record WordsTell : Type 0 where
  pub press_given : state_told press_table 0x295 ≡ given 5 false
  pub press_stopped : state_told press_table 0x8000315 ≡ given 6 true
  pub press_full : state_told press_table 0x7FFFFF2 ≡ full_press
  pub lift_lifted : state_told lift_table 0x143C1 ≡ lifted
  pub two_presses_told : state_told presses_table 0x200006AA9 ≡ two_presses
  pub most_zones_told : state_told (wide_table 8 3) 0xFFFFFC4800004800 ≡ far_zones
  pub rack_told : state_told rack_table 0xA404E ≡ at_rack
  pub gates_told : state_told (gated_table 10 3) 0x80001CD000000000 ≡ at_last_gate
  pub rack_codes : map (λ n. zone_of_code rack_table 0 n n) (0 ∷ 1 ∷ 4 ∷ 5 ∷ 6 ∷ [])
      ≡ free_zone ∷ zone (Some 0) false Closed ∷ zone None false OpenIn ∷ zone (Some 0) false OpenIn
      ∷ zone (Some 1) false OpenIn ∷ []
  pub road_codes : map (λ n. zone_of_code roads_table 0 n n) (5 ∷ 10 ∷ 12 ∷ [])
      ≡ zone (Some 0) false Moving ∷ zone (Some 1) false OpenIn ∷ zone None false OpenOut ∷ []
  pub gate_codes : map (λ n. zone_of_code (gated_table 10 3) 3 n n) (10 ∷ 13 ∷ [])
      ≡ zone (Some 0) false OpenIn ∷ zone (Some 1) true OpenIn ∷ []
  pub nothing : state_told (wide_table 8 3) 0 ≡ start_state (replicate 16 false) 0
  pub owners : map (owner_of_code lift_table 1) (0 ∷ 1 ∷ 2 ∷ 3 ∷ []) ≡ None ∷ Some 0 ∷ Some 2 ∷ Some 2 ∷ []
  pub postures : map posture_of_code (0 ∷ 1 ∷ 2 ∷ 3 ∷ []) ≡ Closed ∷ Moving ∷ OpenIn ∷ OpenOut ∷ []
  pub zones : map (λ n. zone_of_code lift_table 0 n n) (0 ∷ 9 ∷ 14 ∷ 21 ∷ 24 ∷ [])
      ≡ free_zone ∷ zone (Some 0) false Moving ∷ zone (Some 1) true Moving ∷ zone (Some 0) true OpenIn
      ∷ zone None false OpenOut ∷ []
  pub no_more_zones : map (zone_in_word press_table 0xFFFFFFF) (0 ∷ 1 ∷ 9 ∷ [])
      ≡ zone (Some 0) true OpenOut ∷ free_zone ∷ free_zone ∷ []
  pub no_more_places : map (place_told press_table 0xFFFFFFF) (0 ∷ 1 ∷ 2 ∷ 15 ∷ []) ≡ true ∷ true ∷ false ∷ false ∷ []
  -- the spare code 3, of zone 1 of the lift, tells its guest
  pub spare : (zone_at (state_told lift_table 0x60) 1).owner ≡ Some 2
  pub last_zone : told most_zones 0xFFFFFFFFFFFFFFFF (Zone 7) ≡ 31
  pub last_place : told most_zones 0xFFFFFFFFFFFFFFFF (Place 2) ≡ 1
  pub stamp : told most_zones 0x2AAAAFFFFFFFFFFF Stamp ≡ 0x55555
  pub stop : told most_zones 0xFFFFFFFFFFFFFFFF Stop ≡ 1

-- states that aren't the press's, nor another plan's: they use a zone or a place past its tables, the next one or the
-- last that a state has; a stamp is too great; two plates are for one place, or a zone keeps no rule
pub record NotOfPress : Type 0 where
  pub second_zone : ¬ IsOfPlan press_table (with_zone 1)
  pub tenth_zone : ¬ IsOfPlan press_table (with_zone 9)
  pub third_place : ¬ IsOfPlan press_table (with_place 2)
  pub sixteenth_place : ¬ IsOfPlan press_table (with_place 15)
  pub stamp : ¬ IsOfPlan press_table (start_state (replicate 16 false) 1048576)
  pub two_plates : ¬ IsOfPlan press_table (record (given 5 false) { full = false ∷ true ∷ replicate 14 false })
  pub shut_guest : ¬ IsOfPlan press_table (with_zone 0)
  pub third_posture : ¬ IsOfPlan lift_table (record lift_start {
    zones =
        free_zone ∷ free_zone ∷ zone None false OpenIn ∷ replicate 7 free_zone;
  })
  pub fourth_place : ¬ IsOfPlan lift_table (with_place 3)
  -- no pose lets the rack move
  pub rack_moves : ¬ IsOfPlan rack_table (record at_rack { zones = zone (Some 0) false Moving ∷ replicate 9 free_zone })

-- states of the press: a start, and one in which the loader has the open press and both have a plate; and of the lift
pub record StatesOfPlans : Type 0 where
  pub start : IsOfPlan press_table press_start
  pub full : IsOfPlan press_table full_press
  pub lift : IsOfPlan lift_table lift_start
  pub sixteenth_place : IsOfPlan (counted 0 16) (with_place 15)
