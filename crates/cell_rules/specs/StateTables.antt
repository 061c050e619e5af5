-- Which states are sound, which are starts, and what counts of them, as tables. A cell in which one zone is used is
-- sound with some owners of the zone and not with others; with a plate on its way it is sound with some full places.
use Rattle.std.specs.Prelude.{◌≡◌, ℕ, Bool, true, false, List, [], ◌∷◌, codes, filter, map, Option, Some, None}
use Rattle.std.specs.Prelude.{◌↔◌, IsTrue}
use Rattle.cell_rules.specs.Types.{Machine, Feed, Robot, Press, Deposit, Watch, Zone, Z1, Z2, Z3, Z4, Z5, Z6, Place}
use Rattle.cell_rules.specs.Types.{FeedEntry, FeedEnd, Arm1, PressIn, PressOut, Arm2, DepEntry, DepEnd, Posture}
use Rattle.cell_rules.specs.Types.{Closed, Moving, OpenIn, OpenOut, Shown, Inquire, all_machines, all_places}
use Rattle.cell_rules.specs.Types.{all_postures, all_zones}
use Rattle.cell_types.specs.declared.machine.Machine.TheVariants.{Table as TableMachine, Crane as CraneMachine}
use Rattle.cell_types.specs.declared.place.Place.TheVariants.{Table, Crane}
use Rattle.cell_rules.specs.declared.zones.ZoneState.{ZoneState}
use Rattle.cell_rules.specs.ZoneMap.{everywhere, free_zone, put_zone}
use Rattle.cell_rules.specs.PlaceSet.{PlaceSet, empty, insert_place}
use Rattle.cell_rules.specs.ModelState.{ModelState, model_state, flags_of, plates_of, size_of}
use Rattle.cell_rules.specs.Reply.{reply}
use Rattle.cell_rules.specs.SoundTest.{is_sound}
use Rattle.cell_rules.specs.Start.{IsStart, IsStartState, places_of, start_state}
use Rattle.cell_rules.specs.StartDigits.{flag_in, is_start, places_in}
use Rattle.cell_rules.specs.StateExamples.{cell_with, held_in, with_plate}

-- nobody, and each machine
abbrev pub all_owners : List (Option Machine)
all_owners = None ∷ map Some all_machines

abbrev pub zone_of : Option Machine → Bool → Posture → ZoneState
zone_of owner flag posture = record { owner = owner; flag = flag; posture = posture }

-- the owners with which a cell is sound that uses this zone only, for each posture: Closed, Moving, OpenIn, OpenOut
abbrev pub sound_owners : Zone → Bool → List (List (Option Machine))
sound_owners z flag = map (λ q. filter (λ o. is_sound (cell_with z (zone_of o flag q) empty)) all_owners) all_postures

-- the places that may be full, one at a time, in a cell that uses this zone only
abbrev pub sound_places : Zone → ZoneState → List Place
sound_places z v = filter (λ p. is_sound (cell_with z v (insert_place empty p))) all_places

pub record OwnerTable : Type 0 where
  pub z1 : sound_owners Z1 false
      ≡ (None ∷ Some TableMachine ∷ [])
      ∷ (Some TableMachine ∷ [])
      ∷ (None ∷ Some Feed ∷ Some TableMachine ∷ [])
      ∷ []
      ∷ []
  pub z2 : sound_owners Z2 false
      ≡ (None ∷ Some TableMachine ∷ [])
      ∷ (Some TableMachine ∷ [])
      ∷ []
      ∷ (None ∷ Some TableMachine ∷ Some Robot ∷ [])
      ∷ []
  pub z3 : sound_owners Z3 false
      ≡ (None ∷ Some Press ∷ [])
      ∷ (Some Press ∷ [])
      ∷ (None ∷ Some Robot ∷ Some Press ∷ [])
      ∷ (None ∷ Some Robot ∷ Some Press ∷ [])
      ∷ []
  pub z4 : sound_owners Z4 false
      ≡ (None ∷ Some Deposit ∷ [])
      ∷ (Some Deposit ∷ [])
      ∷ (None ∷ Some Robot ∷ Some Deposit ∷ [])
      ∷ []
      ∷ []
  pub z5 : sound_owners Z5 false
      ≡ (None ∷ Some Deposit ∷ [])
      ∷ (Some Deposit ∷ [])
      ∷ []
      ∷ (None ∷ Some Deposit ∷ Some CraneMachine ∷ [])
      ∷ []
  pub z6 : sound_owners Z6 false
      ≡ (None ∷ Some Feed ∷ [])
      ∷ (Some Feed ∷ [])
      ∷ (None ∷ Some Feed ∷ Some CraneMachine ∷ [])
      ∷ []
      ∷ []
  -- with a plate in the zone it is its receiver's
  pub z1_with_plate : sound_owners Z1 true ≡ [] ∷ [] ∷ (Some TableMachine ∷ []) ∷ [] ∷ []
  pub z2_with_plate : sound_owners Z2 true ≡ [] ∷ [] ∷ [] ∷ (Some Robot ∷ []) ∷ []
  pub z3_with_plate : sound_owners Z3 true ≡ [] ∷ [] ∷ (Some Press ∷ []) ∷ (Some Robot ∷ []) ∷ []
  pub z4_with_plate : sound_owners Z4 true ≡ [] ∷ [] ∷ (Some Deposit ∷ []) ∷ [] ∷ []
  pub z5_with_plate : sound_owners Z5 true ≡ [] ∷ [] ∷ [] ∷ (Some CraneMachine ∷ []) ∷ []
  pub z6_with_plate : sound_owners Z6 true ≡ [] ∷ [] ∷ (Some Feed ∷ []) ∷ [] ∷ []

-- a plate in a zone keeps the place where it goes empty, and a press that is open inward its forged one
pub record RoomTable : Type 0 where
  pub onto_table : sound_places Z1 (with_plate (held_in TableMachine OpenIn))
      ≡ FeedEntry ∷ FeedEnd ∷ Arm1 ∷ PressIn ∷ PressOut ∷ Arm2 ∷ DepEntry ∷ DepEnd ∷ Crane ∷ []
  pub onto_arm_1 : sound_places Z2 (with_plate (held_in Robot OpenOut))
      ≡ FeedEntry ∷ FeedEnd ∷ Table ∷ PressIn ∷ PressOut ∷ Arm2 ∷ DepEntry ∷ DepEnd ∷ Crane ∷ []
  pub into_press : sound_places Z3 (with_plate (held_in Press OpenIn))
      ≡ FeedEntry ∷ FeedEnd ∷ Table ∷ Arm1 ∷ Arm2 ∷ DepEntry ∷ DepEnd ∷ Crane ∷ []
  pub onto_arm_2 : sound_places Z3 (with_plate (held_in Robot OpenOut))
      ≡ FeedEntry ∷ FeedEnd ∷ Table ∷ Arm1 ∷ PressIn ∷ PressOut ∷ DepEntry ∷ DepEnd ∷ Crane ∷ []
  pub onto_deposit : sound_places Z4 (with_plate (held_in Deposit OpenIn))
      ≡ FeedEntry ∷ FeedEnd ∷ Table ∷ Arm1 ∷ PressIn ∷ PressOut ∷ Arm2 ∷ DepEnd ∷ Crane ∷ []
  pub onto_crane : sound_places Z5 (with_plate (held_in CraneMachine OpenOut))
      ≡ FeedEntry ∷ FeedEnd ∷ Table ∷ Arm1 ∷ PressIn ∷ PressOut ∷ Arm2 ∷ DepEntry ∷ DepEnd ∷ []
  pub onto_feed : sound_places Z6 (with_plate (held_in Feed OpenIn))
      ≡ FeedEnd ∷ Table ∷ Arm1 ∷ PressIn ∷ PressOut ∷ Arm2 ∷ DepEntry ∷ DepEnd ∷ Crane ∷ []
  pub press_open : sound_places Z3 (held_in Press OpenIn)
      ≡ FeedEntry ∷ FeedEnd ∷ Table ∷ Arm1 ∷ PressIn ∷ Arm2 ∷ DepEntry ∷ DepEnd ∷ Crane ∷ []
  pub press_closed : sound_places Z3 (held_in Press Closed) ≡ all_places

-- every zone is used, three have plates on their way, five places are full, the cell is stopped and the stamp is the
-- last one
abbrev pub in_use : ModelState
in_use = model_state (record {
  at_z1 = zone_of (Some TableMachine) true OpenIn;
  at_z2 = zone_of (Some TableMachine) false Closed;
  at_z3 = zone_of (Some Robot) true OpenOut;
  at_z4 = zone_of (Some Deposit) false Moving;
  at_z5 = zone_of (Some Deposit) false Moving;
  at_z6 = zone_of (Some Feed) true OpenIn;
})
    (places_of (false ∷ true ∷ false ∷ true ∷ true ∷ false ∷ false ∷ true ∷ false ∷ true ∷ [])) 1048575 true

pub record CountTable : Type 0 where
  pub tested : is_sound in_use ≡ true
  pub places : size_of in_use.full ≡ 5
  pub flags : flags_of in_use.zones ≡ 3
  pub plates : plates_of in_use ≡ 8
  pub all_places_full : size_of (places_of (map (λ p. true) all_places)) ≡ 10
  pub each_place_counts : map (λ p. size_of (insert_place empty p)) all_places
      ≡ 1 ∷ 1 ∷ 1 ∷ 1 ∷ 1 ∷ 1 ∷ 1 ∷ 1 ∷ 1 ∷ 1 ∷ []
  pub each_flag_counts : map (λ z. flags_of (put_zone (everywhere free_zone) z (with_plate free_zone))) all_zones
      ≡ 1 ∷ 1 ∷ 1 ∷ 1 ∷ 1 ∷ 1 ∷ []

pub record StartTable : Type 0 where
  -- the program's test is the definition
  pub tested : (full : PlaceSet) (stamp : ℕ) → IsStart full stamp ↔ IsTrue (is_start full stamp)
  pub free : map (λ z. reply (start_state (insert_place empty Crane) 9) Watch (Inquire z)) all_zones
      ≡ map (λ z. Shown None false Closed) all_zones
  pub digits : places_in (codes "0100000001")
      ≡ Some (false ∷ true ∷ false ∷ false ∷ false ∷ false ∷ false ∷ false ∷ false ∷ true ∷ [])
  pub nine_digits : places_in (codes "010000000") ≡ None
  pub eleven_digits : places_in (codes "01000000010") ≡ None
  pub first_is_no_flag : places_in (codes "2000000000") ≡ None
  pub last_is_no_flag : places_in (codes "000000000/") ≡ None
  pub flags : map flag_in (codes "01") ≡ Some false ∷ Some true ∷ []
  pub no_flags : map flag_in (codes "/2 ") ≡ None ∷ None ∷ None ∷ []
  -- a start state is a start's: no zone is held or open, no plate is in it, and the cell runs
  pub a_start : IsStartState (start_state (insert_place empty PressIn) 12)
  pub held : ¬ IsStartState (cell_with Z4 (held_in Deposit Closed) empty)
  pub with_plate_in_zone : ¬ IsStartState (cell_with Z6 (with_plate free_zone) empty)
  pub open_zone : ¬ IsStartState (cell_with Z5 (zone_of None false OpenOut) empty)
  pub stopped : ¬ IsStartState (record (start_state empty 3) { stopped = true })
  pub both_in_press : ¬ IsStartState (start_state (insert_place (insert_place empty PressIn) PressOut) 3)

pub record StateTables : Type 0 where
  pub owners : OwnerTable
  pub rooms : RoomTable
  pub counts : CountTable
  pub starts : StartTable
