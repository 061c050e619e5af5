-- The names of other crates, and of this one's definitions, that the proofs here use.
pub use Rattle.cell_rules.proofs.lemmas.DoneCalls.{claim_done, fresh, give_done, none_or, release_done, resume_done, stop_done, take_done, yield_done}
pub use Rattle.cell_rules.proofs.lemmas.Puts.{has-put}
pub use Rattle.cell_rules.proofs.lemmas.Soundness.{done_none, next_keeps}
pub use Rattle.cell_rules.proofs.lemmas.Tables.{Finite, Passed, all_bools, all_pass, all_poses, all_postures, all_states, all_zones, and_both, and_left, and_right, bools, from_bools, from_places, from_poses, from_states, from_zones, holds2, holds3, implied, machines, passed, places, postures}
pub use Rattle.cell_rules.proofs.lemmas.Tables.{zones}
pub use Rattle.cell_rules.proofs.lemmas.SoundnessTest.{sound_by_test}
pub use Rattle.cell_rules.proofs.lemmas.Transfers.{take_finds}
pub use Rattle.cell_rules.specs.Names.{IsSound, ModelState, PlaceSet, ZoneMap, changed, done_unless, emptied, empty, filled, given_by, has, has_call, has_lawful_owner, has_one_plate, implies, insert_place, is_belt_of, is_full, is_lawful_plate, is_of_some_pose, is_onto_full, is_open_to_guest, is_owned_by, is_party}
pub use Rattle.cell_rules.specs.Names.{is_received_by, is_sound, last_stamp, map_zones, model_state, moves_by_host, next, next_by, one_if, order_of, put_each, put_zone, refusal, reply, worked, zone_at, zone_in}
pub use Rattle.cell_rules.specs.Reply.{other_party}
pub use Rattle.cell_rules.specs.Types.{Advance, AlreadyMine, Answer, Arm1, Arm2, Call, Claim, Closed, DepEnd, DepEntry, Deposit, Done, Feed, FeedEnd, FeedEntry, Give, Held, InUse, Inquire, Jump, Machine, Moving, NoPlate, NoPose}
pub use Rattle.cell_rules.specs.Types.{NotAtWork, NotOwner, NotParty, NotStopped, OpenIn, OpenOut, Place, PlaceFull, PlateInZone, Pose, Posture, Press, PressIn, PressOut, Refusal, Refused, Release, Resume, SetPose, Shown, Shut, Stop, Stopped, Take}
pub use Rattle.cell_rules.specs.Types.{Transfer, Watch, Worn, WrongWay, Yield, Z1, Z2, Z3, Z4, Z5, Z6, Zone, all_places, guest_of, host_of, one_machine, one_posture, own_move_of, posture_of, same_machine, same_place, same_posture, same_zone, transfer_of}
pub use Rattle.cell_types.proofs.lemmas.SameLemmas.{one_place, one_zone}
pub use Rattle.cell_rules.specs.ZoneMap.{everywhere, free_zone}
pub use Rattle.cell_rules.specs.declared.zones.ZoneState.{ZoneState}
pub use Rattle.cell_types.specs.declared.place.Place.TheVariants.{Crane, Table}
pub use Rattle.cell_word.specs.Changes.{owner_becomes, received_by, row_received, written}
pub use Rattle.cell_word.specs.Guards.{checked, first_refusal, guard, guards_of, is_ordered, numbers_of, row_given, unless, went_on}
pub use Rattle.cell_word.specs.Laws.{Fits, IsLaidOut, IsOffStamp, ReadsBack, SideBySide}
unfoldable pub use Rattle.cell_word.specs.Layout.{packed}
pub use Rattle.cell_word.specs.Layout.{Field, field, fields_at, fields_of, last_fields, mark_bit, owner_code, place_bit, place_field, posture_code, stamp_bit, term_of, word_of, zone_bit, zone_fields}
pub use Rattle.cell_word.specs.Parties.{giving_posture, is_guest, machine_of, opposite}
pub use Rattle.cell_word.specs.Patterns.{anything, both, field_is, flag_is, high_differs, low_differs, owner_is, pattern, place_is, posture_is, stands, when, with_written}
pub use Rattle.cell_word.specs.Reading.{bits_of, is_bit_set, is_told_full, owner_of_code, posture_of_code, state_told, zone_in_word}
pub use Rattle.cell_word.specs.StateWords.{is_lawful_press, is_lawful_zone, is_state_word, onto_full, zone_codes}
pub use Rattle.cell_word.specs.declared.parties.Party.{Party}
pub use Rattle.cell_word.specs.declared.parties.Party.TheVariants.{Guest, Host}
pub use Rattle.cell_word.specs.declared.patterns.Guard.{Guard}
pub use Rattle.cell_word.specs.declared.patterns.Pattern.{Pattern}
pub use Rattle.std.proofs.Common.{Bool, Err, List, None, Ok, Option, Result, Some, [], ap, ap₂, arith, cond, eq-eqb, eqb-true, false, get_or, if◌then◌else◌, inl, inr, is_none, is_some, length, ltb-true}
pub use Rattle.std.proofs.Common.{map, max, min, mod-eq_of_lt, nat_eq, nat_lt, ne_eqb, not, option_map, refl, rules, subst, suc, sym, take, true, unwrap_or, zero, ℕ, ◌%◌, ◌&&◌, ◌*◌, ◌++◌, ◌+◌}
pub use Rattle.std.proofs.Common.{◌-◌, ◌/◌, ◌<◌, ◌^◌, ◌||◌, ◌↔◌, ◌∙◌, ◌∷◌, ◌≡◌, ◌≤◌}
pub use Rattle.std.proofs.Math.Nat.{add-mul, add_assoc, add_comm, div-eq_of_lt, mul-sub, mul_assoc, mul_comm}
pub use Rattle.std.proofs.lemmas.Bool.{and_parts, cases_lt, eqb-false}
pub use Rattle.std.proofs.lemmas.Bool.Decides.{nat_tests}
pub use Rattle.std.proofs.lemmas.Grind.{flat_map-append}
pub use Rattle.std.proofs.lemmas.List.{append-nil, append_assoc, map-append, take_more}
pub use Rattle.std.proofs.lemmas.List.Elements.{All-append, All-cons, All-head, All-map, All-nil, All-tail}
pub use Rattle.std.proofs.lemmas.List.Sums.{sum_by-append, sum_by-cons, sum_by_push}
pub use Rattle.std.proofs.lemmas.Nat.{and-not, and_assoc, and_comm, and_le_r, and_mask, and_mod, and_shr, div-add-mod', mod_below, mod_low, mul-add-lt, one_shl, or_comm, or_lt, or_mod, or_shr, pow-add, pow_pos, shl-shr, shl_whole, shr-shr, shr_high, xor_shr}
pub use Rattle.std.proofs.lemmas.Nat.Bits.{and_high, bit_at_and, bit_at_or, bit_at_xor, same_from_bits}
pub use Rattle.std.specs.Bool.{then_some}
pub use Rattle.std.specs.Int.{bit_at}
pub use Rattle.std.specs.Int.Bits.{or_shifted_r}
pub use Rattle.std.specs.List.{All, find, flat_map, list_all}
pub use Rattle.std.specs.Option.{option_or}
pub use Rattle.std.specs.Prelude.{IsTrue, bit_and, bit_or, bit_xor, ◌≢◌}
pub use Rattle.std.specs.Result.{IsErrAnd}
pub use Rattle.cell_rules.specs.Types.{Running, same_pose}
