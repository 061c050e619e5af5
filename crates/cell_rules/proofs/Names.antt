-- The names of other crates, and of this one's definitions, that the proofs here use.
pub use Rattle.cell_rules.specs.BenchView.{settled_at}
pub use Rattle.cell_rules.specs.Causes.{advance_cause, claim_cause, gift_of, give_cause, has_plate, is_anothers, is_in_use, is_moving, is_stranger, is_worn, jumps, lacks_room, on_way, order_of, parties_of, pose_cause, release_cause}
pub use Rattle.cell_rules.specs.Causes.{resume_cause, stop_cause, take_cause, yield_cause}
pub use Rattle.cell_rules.specs.History.{GainsAndKeeps, IsLoss, IsStopped, LosesNothing, NeverResumes, StopsAndStays, gains, given_place, is_emptied_by, is_filled_by, is_given_into, is_place, is_resume, is_stop, is_taken_from, loses}
pub use Rattle.cell_rules.specs.History.{resumes, stops, taken_place}
pub use Rattle.cell_rules.specs.Laws.{ChangesAreCounted, HasZone, NoJump, RightLasts, StampCountsChanges}
pub use Rattle.cell_rules.specs.MapLaws.{PlacesAreASet, PlacesAreStdSet, ZonesAreAMap, ZonesAreStdMap, place_cmp, zone_cmp}
pub use Rattle.cell_rules.specs.ModelState.{flags_of, model_state}
pub use Rattle.cell_rules.specs.Names.{BeltsRunClear, EventsFit, GuestOnlyWhileOpen, HandoverByHolder, Holds, IsAudited, IsLegal, IsSameFor, IsSound, Lawful, ModelState, MoverIsHost, Moves, MovesIn, OneHolder, PlaceSet, PlatesAreKept}
pub use Rattle.cell_rules.specs.Names.{PostureByEvents, Program, Reached, RunsClear, Settles, StoppedUntilResumed, Throughout, Waits, ZoneMap, advance_refusal, after, changed, changes_by_others, claim_refusal, done, done_count, done_unless}
pub use Rattle.cell_rules.specs.Names.{emptied, empties, empty, entry_of, event, event_by, everywhere, filled, fills, give_refusal, given_by, gives, halted, has, has_call, has_lawful_owner, has_one_plate, implies, insert_place, is_barred}
pub use Rattle.cell_rules.specs.Names.{is_belt_of, is_blocked, is_cause, is_changed, is_done, is_done_answer, is_full, is_gain, is_lawful_plate, is_loss, is_moving_pose, is_no_later, is_of_some_pose, is_onto_full, is_open, is_open_to_guest}
pub use Rattle.cell_rules.specs.Names.{is_owned_as, is_owned_by, is_party, is_received_by, is_shut, is_sound, last_event, last_stamp, lowest, map_zones, moves_at, moves_by_host, next, next_by, noted, on_zone, one_if, opens_onto_plate}
pub use Rattle.cell_rules.specs.Names.{other_party, own_events, owner_of, owns, passes_through_moving, plates_at, plates_of, pose_refusal, posed, posture_at, posture_by_events, posture_given, posture_since, put_place, put_zone, refusal}
pub use Rattle.cell_rules.specs.Names.{release_refusal, reply, restamped, resume_refusal, same_flag, size_of, state_left, stop_refusal, stopped_after, take_refusal, takes, transfer_given, worked, yield_refusal, zone_at, zone_in}
pub use Rattle.cell_rules.specs.Names.{zones_posed}
pub use Rattle.cell_rules.specs.PlaceSet.{remove_place}
pub use Rattle.cell_rules.specs.RefusalLaws.{RefusalsTell, RefusalsTellAlong, from_on, refused}
pub use Rattle.cell_rules.specs.Refusals.{all_move, first_zone, held_by, is_at_work, is_concerned, no_room, plate_under_pose, unowned_by_pose, ◌or◌}
pub use Rattle.cell_rules.specs.Reply.{places_after, zones_after}
pub use Rattle.cell_rules.specs.Restamping.{EndsAreSame, StampsOnlyWear, is_same_place, is_same_zone}
pub use Rattle.cell_rules.specs.Rights.{IsNeverDisowned, KeepsItsOwn, NamesNoOwner, needs}
pub use Rattle.cell_rules.specs.Sound.{has_lawful_plate}
pub use Rattle.cell_rules.specs.SoundTest.{all_lawful, is_lawful_at}
pub use Rattle.cell_rules.specs.StartDigits.{flag_in, is_flag, places_in}
pub use Rattle.cell_rules.specs.StopLaws.{WhatMovesMayStop, running}
pub use Rattle.cell_rules.specs.Stored.{IsHistory, IsLegal-prop, IsSound-prop}
pub use Rattle.cell_rules.specs.TableLaws.{DigitsArePlaces, PosesThatMove, moves}
pub use Rattle.cell_rules.specs.Types.{Advance, AlreadyMine, Answer, Arm1, Arm2, Call, Claim, Closed, DepEnd, DepEntry, Deposit, Done, Entry, Event, Feed, FeedEnd, FeedEntry, Give, Halted, Held, InUse, Inquire, Jump, Landing, Loading, Low}
pub use Rattle.cell_rules.specs.Types.{Machine, Middle, Moving, NoPlate, NoPose, NotAtWork, NotOwner, NotParty, NotStopped, Offering, OpenIn, OpenOut, Place, PlaceFull, PlateInZone, Pose, Posture, Press, PressIn, PressOut, Refusal, Refused}
pub use Rattle.cell_rules.specs.Types.{Release, Resume, Robot, Running, SetPose, Shut, Standing, Stop, Stopped, Table, Take, Top, Transfer, Travelling, Turning, Unloading, Watch, Worn, WrongWay, Yield, Z1, Z2, Z3, Z4, Z5, Z6, Zone}
pub use Rattle.cell_rules.specs.Types.{all_places, all_zones, guest_of, host_of, keeper_of, number_of, one_machine, one_posture, own_move_of, posture_of, same_machine, same_place, same_pose, same_posture, same_zone}
pub use Rattle.cell_types.proofs.lemmas.SameLemmas.{one_place, one_zone}
pub use Rattle.cell_rules.specs.Types.{transfer_of}
pub use Rattle.cell_rules.specs.declared.zones.ZoneState.{ZoneState}
pub use Rattle.cell_types.specs.Ways.{way_of}
pub use Rattle.cell_types.specs.declared.place.Place.TheVariants.{Crane}
pub use Rattle.std.proofs.Common.{Bool, IsTrue, List, None, Option, Some, [], ap, append-nil, ap₂, arith, cond, drop, false, filter, get_or, if◌then◌else◌, inl, inr, is_none, is_some, le-leb, leb-true, length, length-set, lt-ltb, ltb-true}
pub use Rattle.std.proofs.Common.{map, nat_eq, nat_le, nat_lt, not, option_map, pos, refl, set, subst, suc, sym, take, true, unwrap_or, zero, ℕ, ◌&&◌, ◌++◌, ◌+◌, ◌-ℤ◌, ◌-◌, ◌<◌, ◌==◌, ◌||◌, ◌↔◌, ◌∙◌, ◌∷◌, ◌≡◌, ◌≢◌, ◌≤◌, ◌⊎◌}
pub use Rattle.std.proofs.Math.Bool.{and-false, and-true}
pub use Rattle.std.proofs.Math.Logic.{∥∥₁_elim, ∥∥₁_map}
pub use Rattle.std.proofs.Props.{props}
pub use Rattle.std.proofs.lemmas.Bool.{and_parts, eq-eqb, eqb-true, false_from_ne_true, not-false, not-true, or_cases, or_left, or_parts, or_right}
pub use Rattle.std.proofs.lemmas.Int.{ints}
pub use Rattle.std.proofs.lemmas.List.{append_cancel_left, drop_all, drop_more, length-append, map-append, take_all, take_more, take_more_set}
pub use Rattle.std.proofs.lemmas.List.Elements.{All-cons, All-head, All-nil, All-tail, filter-append}
pub use Rattle.std.proofs.lemmas.List.Sums.{sum_by-append, sum_by-cons}
pub use Rattle.std.proofs.lemmas.Map.Views.{any-filter_same}
pub use Rattle.std.proofs.lemmas.Option.{cond_some, same_Some}
pub use Rattle.std.specs.Bool.{beq, then_some}
pub use Rattle.std.specs.Cmp.{Equal-is, IsTotalOrder, tied_itself}
pub use Rattle.std.specs.FinMap.{IsAntisymmetric}
pub use Rattle.std.specs.List.{count_by, list_all, list_any}
pub use Rattle.std.specs.Option.{option_eq}
pub use Rattle.std.specs.Ordering.{eq_by_cmp, is_eq}
pub use Rattle.std.specs.Prelude.{slice_get}
pub use Rattle.std.specs.declared.cmp.Ordering.{Ordering}
pub use denote.Enum.Bare.{false_same, true_same}
