-- The names of other crates, and of this one's definitions, that the proofs here use.
pub use Rattle.cell_sensors.proofs.lemmas.CurveTestLemmas.{curve_of_pass, passes_as_curve}
pub use Rattle.cell_sensors.specs.Names.{Curved, HasCount, IsCurve, Pair, Scale, ends_of, is_curve, pairs_of}
pub use Rattle.cell_config.specs.ConfigLaws.{AreCalibrated, IsCurveOf, LetterLimits, TextLimits}
pub use Rattle.cell_config.specs.Keys.{has_inner_keys, is_known}
pub use Rattle.cell_config.specs.Letters.{is_letter, is_letter_of, machine_of, max_letters, turn, turn_of, turns_of}
pub use Rattle.cell_config.specs.RefusedSections.{HasCurveFault, IsFirstRefusal, IsRefusal, section_by_key}
unfoldable pub use Rattle.cell_config.specs.Settings.{settings_of}
pub use Rattle.cell_config.specs.Settings.{IsAxisEnd, Section, Settings, axis_scale, byte_limit, curve_of, curve_within, default_section, is_measured, is_pair, measured_of, number_within, pair_of, pairs_at, pairs_in, raw_at, raw_within, schedule_at, section_at, section_by, section_of, sections_at, settings_in, start_at, tol_at, values_in, wide_enough}
pub use Rattle.cell_config.specs.Steps.{demand, of_kind, optional, ◌>>=◌}
pub use Rattle.cell_config.specs.declared.fault.ConfigFault.{ConfigFault}
pub use Rattle.cell_config.specs.declared.fault.ConfigFault.TheVariants.{Letter, Long, Memory, Range, Read, Text, Unknown}
pub use Rattle.cell_notes.specs.declared.schedule.Turn.{Turn}
pub use Rattle.cell_parts.specs.Axes.{IsAxisScale, arm_end, gripper_end, rotation_end, turn_end}
pub use Rattle.cell_rules.specs.ModelState.{ModelState}
pub use Rattle.std.proofs.Common.{Bool, Err, IfOk, IsAscii, IsOk, IsUtf8, List, MatchResult, None, Ok, Option, Result, Some, [], ap, ap₂, arith, codes, cond, false, filter_map, get_or, inl, inr, int_lt, is_some, le-leb, le-ltb, length, length-set, length-take, lt-ltb, ltb-false, ltb-true, map, nat_le, nat_lt, negsuc, of_z, ok_or, option_map, pos, refl, rules, set, slice_index, slice_index_or, subst, suc, sym, take, take_all, tests, to_z, true, w32, zero, ℕ, ℤ, ◌&&◌, ◌++◌, ◌+◌, ◌-ℤ◌, ◌<◌, ◌∙◌}
pub use Rattle.std.proofs.Common.{◌∷◌, ◌≡◌, ◌≢◌, ◌≤ℤ◌, ◌≤◌}
pub use Rattle.std.proofs.lemmas.Bool.{cases_lt, false≢true, lt-leb}
pub use Rattle.std.proofs.lemmas.Bool.Decides.{nat_tests}
pub use Rattle.std.proofs.lemmas.Int.{ints}
pub use Rattle.std.proofs.lemmas.Iterator.{YieldsList-from_chars, YieldsList-from_slice}
pub use Rattle.std.proofs.lemmas.Iterator.Consumers.{YieldsList-from_copied, count_from_yields_List}
pub use Rattle.std.proofs.lemmas.List.{get_or-map, length-map, take_more, take_more_set}
pub use Rattle.std.proofs.lemmas.List.Elements.{filter_map-append}
pub use Rattle.std.proofs.lemmas.List.Folds.{list_all-append, list_all_at, list_all_more}
pub use Rattle.std.proofs.lemmas.Str.{IsUtf8-from_is_utf8, chars-IsAscii, encodes-IsAscii, encodes-chars, is_utf8-from_IsUtf8, length-le-encodes}
pub use Rattle.std.specs.List.{cons_option, list_all}
unfoldable pub use Rattle.std.specs.Str.{chars, is_utf8}
pub use Rattle.toml.specs.Data.{Data, Items, Members, array, as_array, as_integer, as_table, get_member, integer, item, no_items, string}
pub use Rattle.toml.specs.Parse.{parse_document}
pub use Rattle.toml.specs.View.{items_of, items_view, members_view, table_view, view}
pub use Rattle.toml.specs.declared.value.Value.{Value}
