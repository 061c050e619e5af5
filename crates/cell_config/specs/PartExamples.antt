-- The parts of configurations in figures: letters, keys, steps, values, sections, and what an answer says.
use Rattle.std.specs.Prelude.{◌≡◌, ◌+◌, ℕ, pos, negsuc, true, false, List, [], ◌∷◌, map, codes, Some, None}
use Rattle.std.specs.Prelude.{Result, Ok, Err}
use Rattle.toml.specs.Data.{Members, array, integer, item, member, no_items, no_members, table}
use Rattle.cell_rules.specs.Types.{Feed, Table, Press, Watch, all_machines}
use Rattle.cell_sensors.specs.Names.{Curved, Scale, ends_of}
use Rattle.cell_parts.specs.Axes.{AreCellScales, CellScales}
use Rattle.cell_config.specs.ConfigExamples.{scale}
use Rattle.cell_config.specs.ConfigLaws.{HaveCurves}
use Rattle.cell_config.specs.Configured.{AreAxisScales, AreCurvesOf, Says, in_order, shown}
use Rattle.cell_config.specs.Keys.{entries, has_inner_keys, inner_keys, is_known, is_known_entry, is_known_inside}
use Rattle.cell_config.specs.Keys.{is_one_of, plain_keys, section_keys}
use Rattle.cell_config.specs.Letters.{is_letter, is_letter_of, letter_word, machine_of, max_letters, turn, turn_of}
use Rattle.cell_config.specs.Letters.{turns_of}
use Rattle.cell_config.specs.RefusedSections.{config_fault_of, end_of, first_refused, key_of, max_pairs, pairs_given}
use Rattle.cell_config.specs.RefusedSections.{IsFirstFault, table_given}
use Rattle.cell_config.specs.SectionExamples.{arm1_after_arm2, arm2_after_turn, line, two, with_tol}
use Rattle.cell_config.specs.Settings.{GivesMeasured, axis_scale, byte_limit, curve_within, default_section}
use Rattle.cell_config.specs.Settings.{fits_i32, is_measured, is_pair, measured_in, number_within, pair_of, pairs_in}
use Rattle.cell_config.specs.Settings.{raw_within, settings_of, tol_at, values_in, wide_enough}
use Rattle.cell_config.specs.Steps.{◌>>=◌, demand, of_kind, optional, required}
use Rattle.cell_config.specs.declared.configuration.Config.{Config}
use Rattle.cell_config.specs.declared.fault.ConfigFault.{ConfigFault}
use Rattle.cell_config.specs.declared.fault.ConfigFault.TheVariants.{Read, Long, Text, Unknown, Missing, Kind, Start}
use Rattle.cell_config.specs.declared.fault.ConfigFault.TheVariants.{Range, Letter, Memory}
use Rattle.cell_config.specs.declared.refused_sections.SectionFault.TheVariants.{NoTable, Raw, Tol, Points}
use Rattle.cell_config.specs.declared.refused_sections.SectionKey.TheVariants.{Arm1, Arm2, Rotation, Turn, Gripper}

pub record LetterExamples : Type 0 where
  pub small_letters : map (letter_word false) all_machines
      ≡ codes "f" ∷ codes "t" ∷ codes "r" ∷ codes "p" ∷ codes "d" ∷ codes "c" ∷ codes "w" ∷ []
  pub capital_letters : map (letter_word true) all_machines
      ≡ codes "F" ∷ codes "T" ∷ codes "R" ∷ codes "P" ∷ codes "D" ∷ codes "C" ∷ codes "W" ∷ []
  pub first_machine : machine_of false 102 ≡ Some Feed
  pub last_machine : machine_of true 87 ≡ Some Watch
  pub capital_of_small : machine_of false 87 ≡ None
  pub is_of_press : is_letter_of true Press 80 ≡ true
  pub is_not_of_press : is_letter_of false Press 80 ≡ false
  pub first_turn : turn_of 102 ≡ Some (turn false Feed)
  pub last_small_turn : turn_of 119 ≡ Some (turn false Watch)
  pub last_turn : turn_of 87 ≡ Some (turn true Watch)
  pub no_turn : turn_of 120 ≡ None
  pub a_letter : is_letter 84 ≡ true
  pub no_letter : is_letter 118 ≡ false
  pub two_turns : turns_of (codes "wT") ≡ Ok (turn false Watch ∷ turn true Table ∷ [])
  pub no_turns : turns_of [] ≡ Ok []
  pub blank_between : turns_of (codes "w w") ≡ Err Letter
  pub most_letters : max_letters ≡ 1000000

-- a member with the number 5
abbrev pub five : List ℕ → Members → Members
five key more = member key (integer (pos 5)) more

pub record KeyExamples : Type 0 where
  pub plain : map (is_one_of plain_keys) (codes "start" ∷ codes "stamp" ∷ codes "schedule" ∷ codes "arm1"
      ∷ codes "star" ∷ codes "starts" ∷ [])
      ≡ true ∷ true ∷ true ∷ false ∷ false ∷ false ∷ []
  pub section : map (is_one_of section_keys) (codes "arm1" ∷ codes "arm2" ∷ codes "rotation" ∷ codes "turn"
      ∷ codes "gripper" ∷ codes "crane" ∷ codes "arm3" ∷ [])
      ≡ true ∷ true ∷ true ∷ true ∷ true ∷ false ∷ false ∷ []
  pub inner : map (is_one_of inner_keys) (codes "raw" ∷ codes "tol" ∷ codes "points" ∷ codes "start"
      ∷ codes "point" ∷ [])
      ≡ true ∷ true ∷ true ∷ false ∷ false ∷ []
  pub two_entries : entries (five (codes "a") (member (codes "b") (integer (pos 6)) no_members))
      ≡ (codes "a", integer (pos 5)) ∷ (codes "b", integer (pos 6)) ∷ []
  pub no_inner : has_inner_keys no_members ≡ true
  pub two_inner : has_inner_keys (five (codes "tol") (five (codes "raw") no_members)) ≡ true
  pub other_inner : has_inner_keys (five (codes "tol") (five (codes "colour") no_members)) ≡ false
  pub no_table : is_known_inside (integer (pos 5)) ≡ true
  pub other_in_table : is_known_inside (table (five (codes "colour") no_members)) ≡ false
  pub section_entry : is_known_entry (codes "turn", table (five (codes "tol") no_members)) ≡ true
  pub other_in_section : is_known_entry (codes "turn", table (five (codes "stamp") no_members)) ≡ false
  pub plain_table : is_known_entry (codes "stamp", table (five (codes "colour") no_members)) ≡ true
  pub all_known : is_known (five (codes "turn") (five (codes "stamp") no_members)) ≡ true
  pub second_unknown : is_known (five (codes "turn") (five (codes "colour") no_members)) ≡ false

abbrev pub one_more : ℕ → Result ℕ ConfigFault
one_more n = Ok (n + 1)

abbrev pub fails : ℕ → Result ℕ ConfigFault
fails n = Err Range

pub record StepExamples : Type 0 where
  pub next_step : (Ok 3 >>= one_more) ≡ Ok 4
  pub next_fails : (Ok 3 >>= fails) ≡ Err Range
  pub step_failed : (Err Start >>= fails) ≡ Err Start
  pub demanded : demand true Long ≡ Ok tt
  pub not_so : demand false Unknown ≡ Err Unknown
  pub other_kind : of_kind None one_more ≡ Err Kind
  pub this_kind : of_kind (Some 3) one_more ≡ Ok 4
  pub needed : required None Missing (λ value. one_more 2) ≡ Err Missing
  pub given : required (Some (integer (pos 5))) Missing (λ value. one_more 2) ≡ Ok 3
  pub by_default : optional None 7 (λ value. one_more 2) ≡ Ok 7
  pub not_by_default : optional (Some (integer (pos 5))) 7 (λ value. one_more 2) ≡ Ok 3
  pub tol_given : tol_at (with_tol (pos 9) no_members) ≡ Ok 9
  pub tol_absent : tol_at no_members ≡ Ok 5
  pub tol_of_other_kind : tol_at (member (codes "tol") (array no_items) no_members) ≡ Err Kind
  pub tol_beyond : tol_at (with_tol (pos 11) no_members) ≡ Err Range

pub record ValueExamples : Type 0 where
  pub least : number_within 1 10 (pos 1) ≡ Ok 1
  pub most : number_within 1 10 (pos 10) ≡ Ok 10
  pub below : number_within 1 10 (pos 0) ≡ Err Range
  pub above : number_within 1 10 (pos 11) ≡ Err Range
  pub negative : number_within 0 10 (negsuc 0) ≡ Err Range
  pub pair : pair_of (two (negsuc 0) (pos 7)) ≡ Some (negsuc 0, pos 7)
  pub one_alone : pair_of (array (item (integer (pos 7)) no_items)) ≡ None
  pub three : pair_of (array (item (integer (pos 7)) (item (integer (pos 7)) (item (integer (pos 7)) no_items)))) ≡ None
  pub a_number : pair_of (integer (pos 7)) ≡ None
  pub wide : wide_enough (pos 1000) 10 1010 ≡ Ok (10, 1010)
  pub narrow : wide_enough (pos 1000) 10 1009 ≡ Err Range
  pub falling : wide_enough (pos 1000) 4000 0 ≡ Err Range
  pub raw : raw_within (pos 500) (pos 100, pos 600) ≡ Ok (100, 600)
  pub raw_to_top : raw_within (pos 500) (pos 0, pos 65535) ≡ Ok (0, 65535)
  pub raw_above : raw_within (pos 500) (pos 0, pos 65536) ≡ Err Range
  pub raw_below : raw_within (pos 500) (negsuc 0, pos 600) ≡ Err Range
  pub axis : axis_scale (pos 2000) (1, 2001) 7 ≡ scale 1 2001 2000 7
  pub by_default : default_section (pos 500) ≡ (scale 0 4000 500 5, (0, pos 0) ∷ (4000, pos 500) ∷ [])
  pub least_position : fits_i32 (negsuc 2147483647) ≡ true
  pub below_least_position : fits_i32 (negsuc 2147483648) ≡ false
  pub greatest_position : fits_i32 (pos 2147483647) ≡ true
  pub above_greatest_position : fits_i32 (pos 2147483648) ≡ false
  pub measured : measured_in (pos 65535, negsuc 4) ≡ Some (65535, negsuc 4)
  pub raw_value_above : measured_in (pos 65536, pos 3) ≡ None
  pub raw_value_below : measured_in (negsuc 0, pos 3) ≡ None
  pub position_above : measured_in (pos 3, pos 2147483648) ≡ None
  pub is_measured_pair : is_measured (two (pos 3) (pos 4)) ≡ true
  pub is_no_measured_pair : is_measured (two (negsuc 3) (pos 4)) ≡ false
  pub is_a_pair : is_pair (two (negsuc 3) (pos 4)) ≡ true
  pub is_no_pair : is_pair (array no_items) ≡ false
  pub values : values_in (item (integer (pos 3)) (item (two (pos 1) (pos 2)) no_items))
      ≡ integer (pos 3) ∷ two (pos 1) (pos 2) ∷ []
  pub pairs : pairs_in (array (item (two (pos 1) (pos 2)) (item (two (negsuc 1) (pos 2)) no_items)))
      ≡ Some (two (pos 1) (pos 2) ∷ two (negsuc 1) (pos 2) ∷ [])
  pub no_pairs : pairs_in (array no_items) ≡ Some []
  pub second_no_pair : pairs_in (array (item (two (pos 1) (pos 2)) (item (integer (pos 3)) no_items))) ≡ None
  pub no_array : pairs_in (integer (pos 3)) ≡ None
  pub first_measured : GivesMeasured (two (pos 1) (pos 2) ∷ []) 1 (Some ((1, pos 2) ∷ (3, pos 4) ∷ []))
  pub none_measured : GivesMeasured (two (pos 1) (pos 2) ∷ two (negsuc 3) (pos 4) ∷ []) 2 None
  pub all_are_measured : ¬ GivesMeasured (two (pos 1) (pos 2) ∷ []) 1 None
  pub other_pairs : ¬ GivesMeasured (two (pos 1) (pos 2) ∷ []) 1 (Some ((2, pos 2) ∷ []))
  pub on_line : curve_within line (two (pos 0) (pos 0) ∷ two (pos 4000) (pos 1000) ∷ [])
      ≡ Ok ((0, pos 0) ∷ (4000, pos 1000) ∷ [])
  pub off_line : curve_within line (two (pos 0) (pos 0) ∷ two (pos 4000) (pos 900) ∷ []) ≡ Err Range
  pub limit : byte_limit ≡ 2097152

pub record RefusedExamples : Type 0 where
  pub keys : map key_of (Arm1 ∷ Arm2 ∷ Rotation ∷ Turn ∷ Gripper ∷ [])
      ≡ codes "arm1" ∷ codes "arm2" ∷ codes "rotation" ∷ codes "turn" ∷ codes "gripper" ∷ []
  pub ends : map end_of (Arm1 ∷ Arm2 ∷ Rotation ∷ Turn ∷ Gripper ∷ [])
      ≡ pos 1000 ∷ pos 1000 ∷ pos 2000 ∷ pos 500 ∷ pos 1000 ∷ []
  pub no_section : first_refused no_members ≡ None
  pub arm2_first : first_refused arm2_after_turn ≡ Some Arm2
  pub arm1_first : first_refused arm1_after_arm2 ≡ Some Arm1
  pub gripper_alone : first_refused (five (codes "gripper") no_members) ≡ Some Gripper
  pub of_no_table : config_fault_of NoTable ≡ Kind
  pub of_raw : config_fault_of (Raw Range) ≡ Range
  pub of_tol : config_fault_of (Tol Kind) ≡ Kind
  pub of_points : config_fault_of (Points Range line None) ≡ Range
  pub most_pairs : max_pairs ≡ 32
  pub no_table_given : table_given (codes "turn") (five (codes "turn") no_members) ≡ None
  pub a_table_given : table_given (codes "turn") (member (codes "turn") (table no_members) no_members) ≡ Some no_members
  pub none_given : table_given (codes "turn") (member (codes "arm1") (table no_members) no_members) ≡ None
  pub pairs_of_points : pairs_given (member (codes "points") (array (item (two (pos 1) (pos 2)) no_items)) no_members)
      ≡ Some (two (pos 1) (pos 2) ∷ [])
  pub no_points : pairs_given no_members ≡ None
  pub of_no_members : IsFirstFault (pos 1000) None NoTable
  pub other_of_no_members : ¬ IsFirstFault (pos 1000) None (Tol Range)
  pub of_members : ¬ IsFirstFault (pos 1000) (Some no_members) NoTable

-- the answer is what the bytes say; of a failed read, and out of memory, it says nothing of them
pub record SaidExamples : Type 0 where
  pub given : (bytes : List ℕ) (config : Config) → Says bytes (Ok config)
      → settings_of bytes ≡ Ok (record {
        start = config.start;
        schedule = config.schedule.items;
        points = config.points;
        curves = (shown config).curves;
      })
  pub is_given : (bytes : List ℕ) (config : Config) → settings_of bytes ≡ Ok (shown config) → Says bytes (Ok config)
  pub no_curve : (config : Config) → config.curves ≡ [] → (shown config).curves ≡ []
  pub unread : (bytes : List ℕ) → Says bytes (Err Read)
  pub no_memory : (bytes : List ℕ) → Says bytes (Err Memory)
  pub long : (bytes : List ℕ) → Says bytes (Err Long) → settings_of bytes ≡ Err Long
  pub no_text : (bytes : List ℕ) → Says bytes (Err Text) → settings_of bytes ≡ Err Text
  pub unknown : (bytes : List ℕ) → Says bytes (Err Unknown) → settings_of bytes ≡ Err Unknown
  pub missing : (bytes : List ℕ) → Says bytes (Err Missing) → settings_of bytes ≡ Err Missing
  pub kind : (bytes : List ℕ) → Says bytes (Err Kind) → settings_of bytes ≡ Err Kind
  pub start : (bytes : List ℕ) → Says bytes (Err Start) → settings_of bytes ≡ Err Start
  pub range : (bytes : List ℕ) → Says bytes (Err Range) → settings_of bytes ≡ Err Range
  pub letter : (bytes : List ℕ) → Says bytes (Err Letter) → settings_of bytes ≡ Err Letter
  pub is_range : (bytes : List ℕ) → settings_of bytes ≡ Err Range → Says bytes (Err Range)
  pub five_in_order : (arm1 arm2 rotation turn gripper : Scale)
      → in_order (record { arm1 = arm1; arm2 = arm2; rotation = rotation; turn = turn; gripper = gripper })
      ≡ arm1 ∷ arm2 ∷ rotation ∷ turn ∷ gripper ∷ []
  pub axis_scales : (points : List Scale) → AreAxisScales points
      → (cell : CellScales) × (points ≡ in_order cell) × AreCellScales cell
  pub curves_of : (first second : Curved) → AreCurvesOf (first.scale ∷ second.scale ∷ []) (first ∷ second ∷ [])
  pub curves_of_none : (first : Curved) → ¬ AreCurvesOf [] (first ∷ [])
  pub no_scale : HaveCurves [] []
  pub one_line : HaveCurves (line ∷ []) (ends_of line ∷ [])
  pub scale_without_curve : ¬ HaveCurves (line ∷ []) []
  pub curve_without_scale : ¬ HaveCurves [] (ends_of line ∷ [])
  pub second_without_curve : ¬ HaveCurves (line ∷ line ∷ []) (ends_of line ∷ [])

pub record PartsAreMet : Type 0 where
  pub letters : LetterExamples
  pub keys : KeyExamples
  pub steps : StepExamples
  pub values : ValueExamples
  pub refused : RefusedExamples
  pub said : SaidExamples
