-- The names of other crates, and of this one's definitions, that the proofs here use.
pub use Rattle.cell_report.proofs.Members.{In, contains_from_in, from_filter, in_append_all, in_append_cases, in_append_left, in_append_right, in_at, in_filter, in_kept, in_permutation, in_permutation_back}
pub use Rattle.cell_report.specs.AuditFaults.{AllFit, Fits, HasNoGap, HasNoTwice, HasStamps, IsFault, IsFaultOf, IsGap, IsMisfit, IsTooEarly, IsTwice, MissesEnd, end_stamp, times, top_of}
pub use Rattle.cell_report.specs.InTurn.{IsFirstLeast, all_in_turn, first_key, last_key, noted_in_turn}
pub use Rattle.cell_report.specs.Merged.{AllRise, IsInTurn, IsMerged, IsRun, left_of, left_of_all, rest_of, run_of}
pub use Rattle.cell_report.specs.Order.{InOrder, all_noted, done_at, done_stamps, event_of, greatest, in_order, is_done_noted, key_at, key_of, noted_after, noted_from, put, rank, stamp_of}
unfoldable pub use Rattle.cell_report.specs.Report.{report_text}
pub use Rattle.cell_report.specs.Report.{audit_line, axes_line, axis_names, axis_words, end_lines, machine_line, machine_lines, places_line, places_word, spaced, stamp_line, start_line, text_of_lines, version_line, where_known, zone_line}
pub use Rattle.cell_report.specs.Retraced.{Retraced, Retraces}
pub use Rattle.cell_report.specs.Traces.{IsTrace, IsTraceOf, Repeats}
pub use Rattle.cell_report.specs.declared.audit_faults.AuditFault.{AuditFault}
pub use Rattle.cell_report.specs.declared.ordered.Noted.{Noted}
pub use Rattle.cell_report.specs.declared.rests.Rest.{Rest}
pub use Rattle.cell_report.specs.declared.traces.Trace.{Trace}
pub use Rattle.cell_rules.specs.Names.{EndsIn, HasNoHistory, IsAudited, IsLegal, ModelState, PlaceSet, ZoneMap, after, empty, entry_of, event_by, is_done_answer, is_full, model_state, next, next_by, noted, place_set, reply, start_state, state_left, zone_at, zone_map}
pub use Rattle.cell_rules.specs.Types.{AlreadyMine, Answer, Call, Closed, Crane, Deposit, Done, Entry, Event, Feed, Machine, Moving, NotParty, OpenIn, OpenOut, Place, Posture, Press, Refused, Robot, Shown, Table, Watch, Z6, all_machines, all_places, all_zones, flag_word, journal_of, one_machine, one_posture, same_machine, same_posture}
pub use Rattle.std.proofs.Common.{All, Bool, Err, IfErr, IfSome, List, None, Ok, Option, Result, Some, [], ap, append-nil, append_assoc, ap₂, arith, codes, cond, drop, eq-eqb, eqb-true, false, filter, get_or, inl, inr, le-leb, le-ltb, leb-false, leb-true, length, length-append, lt-ltb, map, max, nat_eq, nat_le, nat_lt, ne_eqb, pos, refl, replicate, rules, set, subst, suc, sym, take, take_all, true, zero, zero-add, ℕ, ℤ, ◌&&◌, ◌*◌, ◌++◌, ◌+◌, ◌-◌, ◌<◌, ◌∙◌, ◌∷◌, ◌≡◌, ◌≢◌, ◌≤◌, ◌⊎◌}
pub use Rattle.std.proofs.lemmas.Bool.{and_parts, cases_Bool, cases_eq, cases_lt, cond-false, cond-true, cond_both, lt-leb}
pub use Rattle.std.proofs.lemmas.Bool.Decides.{nat_tests}
pub use Rattle.std.proofs.lemmas.Grind.{common_steps}
pub use Rattle.std.proofs.lemmas.List.{at_drop_all, at_drop_more, drop_more, get_or-map, length-map, map-append, nil_from_length, replicate-append-replicate, replicate_more, take_more}
pub use Rattle.std.proofs.lemmas.List.Elements.{All-contains, filter-append}
pub use Rattle.std.proofs.lemmas.List.Sorted.{IsNonDecreasingBy-from_sort_by_key, IsNonDecreasingBy-short, IsPermutation-cons, IsPermutation-middle, IsPermutation-refl, IsPermutation-trans, answers_always, sum_by-IsPermutation}
pub use Rattle.std.proofs.lemmas.List.Sums.{AllPass-from_list_all, fold_push, list_all-from_AllPass, sum_by-append, sum_by-cons}
pub use Rattle.std.proofs.lemmas.Result.{on_ok_weaker}
pub use Rattle.std.specs.List.{concat, flat_map, list_all, zip}
pub use Rattle.std.specs.List.Sorted.{IsNonDecreasing, IsNonDecreasingBy, IsPermutation, ties}
pub use Rattle.std.specs.Option.{MatchOption, is_some, option_eq}
pub use Rattle.std.specs.Prelude.{⊤}
