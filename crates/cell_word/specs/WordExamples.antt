-- Examples of words: where each owner, plate, posture and place is, the word of one whole state, and what calls test
-- and write.
use Rattle.std.specs.Prelude.{◌≡◌, ℕ, true, false, List, [], ◌∷◌, map, Option, Some, None, Ok, Err}
use Rattle.cell_rules.specs.Types.{Feed, Robot, Press, Deposit, Watch, Zone, Z1, Z2, Z3, Z4, Z5, Z6}
use Rattle.cell_rules.specs.Types.{PressIn, PressOut, Closed, Moving, OpenIn, OpenOut, Running}
use Rattle.cell_rules.specs.Types.{Middle, Claim, Give, Yield, Take, Release, SetPose, Advance, Inquire}
use Rattle.cell_rules.specs.Types.{Stop, Resume, Refusal, Held, AlreadyMine, Shut, NotOwner, PlateInZone, NoPlate}
use Rattle.cell_rules.specs.Types.{PlaceFull, WrongWay, Worn, InUse, Stopped, host_of, guest_of, all_machines}
use Rattle.cell_rules.specs.Types.{all_places, all_postures, all_zones}
use Rattle.cell_types.specs.declared.machine.Machine.TheVariants.{Table as TableMachine, Crane as CraneMachine}
use Rattle.cell_types.specs.declared.place.Place.TheVariants.{Crane, DepEntry, FeedEntry, Table}
use Rattle.cell_rules.specs.Names.{ModelState, model_state, start_state, places_of, empty, insert_place}
use Rattle.cell_rules.specs.StateExamples.{cell_with, free_in, held_in, with_plate}
use Rattle.cell_rules.specs.ZoneMap.{free_zone}
use Rattle.cell_word.specs.declared.parties.Party.TheVariants.{Host, Guest}
use Rattle.cell_word.specs.declared.patterns.Guard.{Guard}
use Rattle.cell_word.specs.Changes.{written, word_after}
use Rattle.cell_word.specs.Guards.{entering_guards, first_refusal, free_guards, giving_guards, guard, held_guards}
use Rattle.cell_word.specs.Guards.{held_and_clear_guards, inner_places, is_ordered, leaving_guards, numbers_of}
use Rattle.cell_word.specs.Guards.{shut_guards, unless, way_guards}
use Rattle.cell_word.specs.Laws.{Fits, IsOffStamp, ReadsBack, SideBySide}
use Rattle.cell_word.specs.Layout.{field, packed}
use Rattle.cell_word.specs.Parties.{giving_posture, is_guest, machine_of, opposite, party_of}
use Rattle.cell_word.specs.Patterns.{anything, both, flag_is, high_differs, low_differs, mark_is, nothing, owner_is}
use Rattle.cell_word.specs.Patterns.{pattern, place_is, posture_is, stamp_is, stands, when, with_written}
use Rattle.cell_word.specs.Reading.{bits_of, is_bit_set, owner_of_code, posture_of_code, state_told}
use Rattle.cell_word.specs.StateWords.{is_state_word}

-- the words of a cell of which only one zone is used, for each zone in turn
abbrev pub zone_words : (Zone → ModelState) → List ℕ
zone_words f = map (λ z. packed (f z)) all_zones

-- every zone is used, three have plates on their way, five places are full, the cell is stopped and the stamp is the
-- last one
abbrev pub whole : ModelState
whole = model_state (record {
  at_z1 = with_plate (held_in TableMachine OpenIn);
  at_z2 = held_in TableMachine Closed;
  at_z3 = with_plate (held_in Robot OpenOut);
  at_z4 = held_in Deposit Moving;
  at_z5 = held_in Deposit Moving;
  at_z6 = with_plate (held_in Feed OpenIn);
})
    (places_of (false ∷ true ∷ false ∷ true ∷ true ∷ false ∷ false ∷ true ∷ false ∷ true ∷ [])) 1048575 true

pub record LayoutExamples : Type 0 where
  pub unused : packed (start_state empty 0) ≡ 0
  pub hosts : zone_words (λ z. cell_with z (held_in (host_of z) Closed) empty)
      ≡ 0x1 ∷ 0x20 ∷ 0x400 ∷ 0x8000 ∷ 0x100000 ∷ 0x2000000 ∷ []
  pub guests : zone_words (λ z. cell_with z (held_in (guest_of z) Closed) empty)
      ≡ 0x2 ∷ 0x40 ∷ 0x800 ∷ 0x10000 ∷ 0x200000 ∷ 0x4000000 ∷ []
  pub plates : zone_words (λ z. cell_with z (with_plate free_zone) empty)
      ≡ 0x4 ∷ 0x80 ∷ 0x1000 ∷ 0x20000 ∷ 0x400000 ∷ 0x8000000 ∷ []
  pub moving : zone_words (λ z. cell_with z (free_in Moving) empty)
      ≡ 0x8 ∷ 0x100 ∷ 0x2000 ∷ 0x40000 ∷ 0x800000 ∷ 0x10000000 ∷ []
  pub inward : zone_words (λ z. cell_with z (free_in OpenIn) empty)
      ≡ 0x10 ∷ 0x200 ∷ 0x4000 ∷ 0x80000 ∷ 0x1000000 ∷ 0x20000000 ∷ []
  pub outward : zone_words (λ z. cell_with z (free_in OpenOut) empty)
      ≡ 0x18 ∷ 0x300 ∷ 0x6000 ∷ 0xC0000 ∷ 0x1800000 ∷ 0x30000000 ∷ []
  pub places : map (λ p. packed (start_state (insert_place empty p) 0)) all_places
      ≡ 0x40000000 ∷ 0x80000000 ∷ 0x100000000 ∷ 0x200000000 ∷ 0x400000000 ∷ 0x800000000 ∷ 0x1000000000
      ∷ 0x2000000000 ∷ 0x4000000000 ∷ 0x8000000000 ∷ []
  pub stamp : packed (start_state empty 5) ≡ 0x50000000000
  pub stopped : packed (record (start_state empty 0) { stopped = true }) ≡ 0x1000000000000000
  pub whole_state : packed whole ≡ 0x1FFFFFA6AA94F835
  pub told : state_told 0x1FFFFFA6AA94F835 ≡ whole
  pub told_unused : state_told 0 ≡ start_state empty 0
  pub bits : bits_of 0xABCD 4 8 ≡ 0xBC
  pub set : map (is_bit_set 0x16) (0 ∷ 1 ∷ 2 ∷ 3 ∷ 4 ∷ 5 ∷ []) ≡ false ∷ true ∷ true ∷ false ∷ true ∷ false ∷ []
  pub owners : map (owner_of_code Z4) (0 ∷ 1 ∷ 2 ∷ []) ≡ None ∷ Some Deposit ∷ Some Robot ∷ []
  pub postures : map posture_of_code (0 ∷ 1 ∷ 2 ∷ 3 ∷ []) ≡ all_postures

-- which words are a sound state's
pub record StateWordExamples : Type 0 where
  pub sound : map is_state_word (0 ∷ 0x400 ∷ 0x1FFFFFA6AA94F835 ∷ 0x6800 ∷ []) ≡ true ∷ true ∷ true ∷ true ∷ []
  pub above_the_mark : map is_state_word (0x2000000000000000 ∷ 0x4000000000000000 ∷ 0x8000000000000000 ∷ [])
      ≡ false ∷ false ∷ false ∷ []
  pub no_owner : map is_state_word (0x3 ∷ 0x60 ∷ 0xC00 ∷ 0x18000 ∷ 0x300000 ∷ 0x6000000 ∷ [])
      ≡ false ∷ false ∷ false ∷ false ∷ false ∷ false ∷ []
  pub moves_unheld : map is_state_word (0x8 ∷ 0x100 ∷ 0x2000 ∷ 0x40000 ∷ 0x800000 ∷ 0x10000000 ∷ [])
      ≡ false ∷ false ∷ false ∷ false ∷ false ∷ false ∷ []
  pub guest_in_closed : map is_state_word (0x2 ∷ 0x40 ∷ 0x800 ∷ 0x10000 ∷ 0x200000 ∷ 0x4000000 ∷ [])
      ≡ false ∷ false ∷ false ∷ false ∷ false ∷ false ∷ []
  pub open_inward : map is_state_word (0x10 ∷ 0x200 ∷ 0x4000 ∷ 0x80000 ∷ 0x1000000 ∷ 0x20000000 ∷ [])
      ≡ true ∷ false ∷ true ∷ true ∷ false ∷ true ∷ []
  pub open_outward : map is_state_word (0x18 ∷ 0x300 ∷ 0x6000 ∷ 0xC0000 ∷ 0x1800000 ∷ 0x30000000 ∷ [])
      ≡ false ∷ true ∷ true ∷ false ∷ true ∷ false ∷ []
  pub plate_of_host : map is_state_word (0x15 ∷ 0x5400 ∷ 0xA8000 ∷ 0x2A000000 ∷ []) ≡ true ∷ true ∷ true ∷ true ∷ []
  pub plate_of_guest : map is_state_word (0x3C0 ∷ 0x7800 ∷ 0x1E00000 ∷ []) ≡ true ∷ true ∷ true ∷ []
  pub plate_of_giver : map is_state_word (0x16 ∷ 0x5800 ∷ 0x7400 ∷ 0x3A0 ∷ []) ≡ false ∷ false ∷ false ∷ false ∷ []
  pub plate_onto_plate : map is_state_word (0x100000015 ∷ 0x2000003C0 ∷ 0x400005400 ∷ 0x1000007800 ∷ [])
      ≡ false ∷ false ∷ false ∷ false ∷ []
  pub two_in_press : map is_state_word (0x400000000 ∷ 0x800000000 ∷ 0xC00000000 ∷ []) ≡ true ∷ true ∷ false ∷ []
  pub open_onto_forged : is_state_word 0x800004000 ≡ false

pub record PartyExamples : Type 0 where
  pub of_z3 : map (λ m. party_of m Z3) all_machines
      ≡ None ∷ None ∷ Some Guest ∷ Some Host ∷ None ∷ None ∷ None ∷ []
  pub of_crane : map (party_of CraneMachine) all_zones
      ≡ None ∷ None ∷ None ∷ None ∷ Some Guest ∷ Some Guest ∷ []
  pub machines : map (machine_of Z5) (Host ∷ Guest ∷ []) ≡ Deposit ∷ CraneMachine ∷ []
  pub opposites : map opposite (Host ∷ Guest ∷ []) ≡ Guest ∷ Host ∷ []
  pub guests : map is_guest (Host ∷ Guest ∷ []) ≡ false ∷ true ∷ []
  pub giving : map giving_posture (Host ∷ Guest ∷ []) ≡ OpenOut ∷ OpenIn ∷ []

pub record PatternExamples : Type 0 where
  pub stands_under_mask : map (λ w. stands w (pattern 0xC 0x8)) (0x8 ∷ 0xB ∷ 0xC ∷ 0x4 ∷ 0x18 ∷ [])
      ≡ true ∷ true ∷ false ∷ false ∷ true ∷ []
  pub written_under_mask : with_written 0x3F 0xC 0x8 ≡ 0x3B
  pub written_where_clear : with_written 0x21 0xC 0x4 ≡ 0x25
  pub every_word : map (λ w. stands w anything) (0 ∷ 0xFFF ∷ []) ≡ true ∷ true ∷ []
  pub no_word : map (λ w. stands w nothing) (0 ∷ 0xFFF ∷ 0x8000000000000000 ∷ []) ≡ false ∷ false ∷ false ∷ []
  pub if_true : when true (pattern 6 4) ≡ pattern 6 4
  pub if_false : map (λ w. stands w (when false (pattern 6 4))) (4 ∷ 5 ∷ []) ≡ false ∷ false ∷ []
  pub two : both (pattern 0x6 0x4) (pattern 0x30 0x20) ≡ pattern 0x36 0x24
  pub owner : owner_is Z2 (Some Robot) ≡ pattern 0x60 0x40
  pub host : owner_is Z6 (Some Feed) ≡ pattern 0x6000000 0x2000000
  pub free : owner_is Z3 None ≡ pattern 0xC00 0
  pub plate : map (flag_is Z4) (true ∷ false ∷ []) ≡ pattern 0x20000 0x20000 ∷ pattern 0x20000 0 ∷ []
  pub posture : map (posture_is Z3) all_postures
      ≡ pattern 0x6000 0 ∷ pattern 0x6000 0x2000 ∷ pattern 0x6000 0x4000 ∷ pattern 0x6000 0x6000 ∷ []
  pub low_bit : map (low_differs Z3) all_postures
      ≡ pattern 0x2000 0x2000 ∷ pattern 0x2000 0 ∷ pattern 0x2000 0x2000 ∷ pattern 0x2000 0 ∷ []
  pub high_bit : map (high_differs Z3) all_postures
      ≡ pattern 0x4000 0x4000 ∷ pattern 0x4000 0x4000 ∷ pattern 0x4000 0 ∷ pattern 0x4000 0 ∷ []
  pub place : map (place_is Crane) (true ∷ false ∷ [])
      ≡ pattern 0x8000000000 0x8000000000 ∷ pattern 0x8000000000 0 ∷ []
  pub stamp : stamp_is 7 ≡ pattern 0xFFFFF0000000000 0x70000000000
  pub mark : map mark_is (true ∷ false ∷ [])
      ≡ pattern 0x1000000000000000 0x1000000000000000 ∷ pattern 0x1000000000000000 0 ∷ []

-- what a Done call writes: under a mask, these bits
pub record WrittenExamples : Type 0 where
  pub claim_of_host : written Press (Claim Z3) ≡ pattern 0xC00 0x400
  pub claim_of_guest : written Robot (Claim Z3) ≡ pattern 0xC00 0x800
  pub claim_of_stranger : written Feed (Claim Z3) ≡ anything
  pub give_of_guest : written Robot (Give Z3) ≡ pattern 0x200001C00 0x1400
  pub give_of_host : written Press (Give Z3) ≡ pattern 0x800001C00 0x1800
  pub give_of_receiver : written TableMachine (Give Z1) ≡ anything
  pub yield : written Robot (Yield Z3) ≡ pattern 0xC00 0x400
  pub yield_of_host : written Press (Yield Z3) ≡ pattern 0xC00 0x800
  pub take : written Press (Take Z3) ≡ pattern 0x400001000 0x400000000
  pub take_of_guest : written Robot (Take Z3) ≡ pattern 0x1000001000 0x1000000000
  pub release : written CraneMachine (Release Z6) ≡ pattern 0x6000000 0
  pub middle : written Press (SetPose Middle) ≡ pattern 0x6000 0x4000
  pub running : written Deposit (SetPose Running) ≡ pattern 0x18C0000 0x840000
  pub no_pose : written Robot (SetPose Middle) ≡ anything
  pub feed_works : written Feed Advance ≡ pattern 0xF0000000 0x80000000
  pub deposit_works : written Deposit Advance ≡ pattern 0x60018C0000 0x4000000000
  pub press_works : written Press Advance ≡ pattern 0xC00000000 0x800000000
  pub others_do_not : written Robot Advance ≡ anything
  pub inquiry : written Watch (Inquire Z3) ≡ anything
  pub stop : written Watch Stop ≡ pattern 0x1000000000000000 0x1000000000000000
  pub resume : written Watch Resume ≡ pattern 0x1000000000000000 0
  pub stop_by_feed : written Feed Stop ≡ anything
  pub resume_by_press : written Press Resume ≡ anything
  pub word : word_after 0x50000000400 (Ok (pattern 0xC00 0x800)) ≡ 0x60000000800
  pub refused : word_after 0x50000000400 (Err Worn) ≡ 0x50000000400

-- what a call gives that goes on
abbrev pub given : ℕ
given = 7

-- what guards refuse, of words in which z3 is free, its host's, and its guest's
abbrev pub by_owners : List Guard → List (Option Refusal)
by_owners gs = map (λ w. first_refusal w gs) (0 ∷ 0x400 ∷ 0x800 ∷ [])

-- and in which it has each posture
abbrev pub by_postures : List Guard → List (Option Refusal)
by_postures gs = map (λ w. first_refusal w gs) (0 ∷ 0x2000 ∷ 0x4000 ∷ 0x6000 ∷ [])

pub record GuardExamples : Type 0 where
  pub first :
      first_refusal 0x3 (guard (pattern 4 4) Worn ∷ guard (pattern 2 2) Stopped ∷ guard (pattern 1 1) InUse ∷ [])
      ≡ Some Stopped
  pub none : first_refusal 0x8 (guard (pattern 4 4) Worn ∷ guard (pattern 2 2) Stopped ∷ []) ≡ None
  pub goes_on : unless None given ≡ Ok given
  pub is_refused : unless (Some Worn) given ≡ Err Worn
  pub held_by_guest : by_owners (held_guards Z3 Guest)
      ≡ Some (NotOwner None) ∷ Some (NotOwner (Some Press)) ∷ None ∷ []
  pub held_by_host : by_owners (held_guards Z3 Host)
      ≡ Some (NotOwner None) ∷ None ∷ Some (NotOwner (Some Robot)) ∷ []
  pub held_and_clear : map (λ w. first_refusal w (held_and_clear_guards Z3 Host)) (0x1000 ∷ 0x1400 ∷ 0x400 ∷ [])
      ≡ Some (NotOwner None) ∷ Some (PlateInZone Z3) ∷ None ∷ []
  pub free_for_guest : by_owners (free_guards Z3 Guest) ≡ None ∷ Some (Held Press) ∷ Some AlreadyMine ∷ []
  pub free_for_host : by_owners (free_guards Z3 Host) ≡ None ∷ Some AlreadyMine ∷ Some (Held Robot) ∷ []
  pub shut_to_guest : by_postures (shut_guards Z3 Guest) ≡ Some (Shut Closed) ∷ Some (Shut Moving) ∷ None ∷ None ∷ []
  pub open_to_host : by_postures (shut_guards Z3 Host) ≡ None ∷ None ∷ None ∷ None ∷ []
  pub entered : map (λ w. first_refusal w (entering_guards Z3 Guest)) (0x400 ∷ 0 ∷ 0x4000 ∷ [])
      ≡ Some (Held Press) ∷ Some (Shut Closed) ∷ None ∷ []
  pub left : by_postures (leaving_guards Press Z3) ≡ None ∷ Some (Shut Moving) ∷ None ∷ None ∷ []
  pub left_in_use : map (λ w. first_refusal w (leaving_guards Feed Z1)) (0x90000000 ∷ 0x80000000 ∷ 0x10000000 ∷ [])
      ≡ Some InUse ∷ None ∷ None ∷ []
  pub left_worn : first_refusal 0xFFFFF0000000000 (leaving_guards Press Z3) ≡ Some Worn
  pub on_the_way : map (λ w. first_refusal w (way_guards PressIn PressOut)) (0 ∷ 0x400000000 ∷ 0xC00000000 ∷ [])
      ≡ Some NoPlate ∷ None ∷ Some PlaceFull ∷ []
  pub worn_way : first_refusal 0xFFFFF0400000000 (way_guards PressIn PressOut) ≡ Some Worn
  pub given_by_guest : by_postures (giving_guards Z3 Guest) ≡ Some WrongWay ∷ Some WrongWay ∷ None ∷ Some WrongWay ∷ []
  pub given_by_host : by_postures (giving_guards Z3 Host) ≡ Some WrongWay ∷ Some WrongWay ∷ Some WrongWay ∷ None ∷ []
  pub rooms : map inner_places all_zones
      ≡ (Table ∷ []) ∷ [] ∷ (PressIn ∷ PressOut ∷ [])
      ∷ (DepEntry ∷ []) ∷ []
      ∷ (FeedEntry ∷ []) ∷ []
  pub numbers : numbers_of (guard anything Worn ∷ guard anything (Held Press) ∷ []) ≡ 13 ∷ 2 ∷ []
  pub in_order : map (is_ordered (1 ∷ 14 ∷ 3 ∷ [])) ((1 ∷ 14 ∷ 14 ∷ 3 ∷ []) ∷ (1 ∷ 3 ∷ []) ∷ [] ∷ [])
      ≡ true ∷ true ∷ true ∷ []
  pub out_of_order : map (is_ordered (1 ∷ 14 ∷ 3 ∷ [])) ((14 ∷ 1 ∷ []) ∷ (1 ∷ 3 ∷ 14 ∷ []) ∷ (3 ∷ 14 ∷ 3 ∷ []) ∷ [])
      ≡ false ∷ false ∷ false ∷ []

pub record FieldExamples : Type 0 where
  pub fits : Fits (field 9 2 3)
  pub too_great : ¬ Fits (field 9 2 4)
  pub beside : SideBySide 3 8 (field 3 1 0 ∷ field 4 4 0 ∷ [])
  pub gap : ¬ SideBySide 3 8 (field 3 1 0 ∷ field 5 3 0 ∷ [])
  pub overlap : ¬ SideBySide 3 8 (field 3 2 0 ∷ field 4 4 0 ∷ [])
  pub short : ¬ SideBySide 3 8 (field 3 1 0 ∷ field 4 3 0 ∷ [])
  pub reads : ReadsBack 0x2C (field 2 3 3)
  pub reads_another : ¬ ReadsBack 0x2C (field 2 3 7)
  pub off_stamp : IsOffStamp 0x100000FFFFFFFFFF
  pub on_stamp : ¬ IsOffStamp 0x10000000000
  pub above : ¬ IsOffStamp 0x2000000000000000

pub record WordExamples : Type 0 where
  pub layout : LayoutExamples
  pub state_words : StateWordExamples
  pub parties : PartyExamples
  pub patterns : PatternExamples
  pub writes : WrittenExamples
  pub guards : GuardExamples
  pub fields : FieldExamples
