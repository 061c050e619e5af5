-- The names of this crate that other crates' definitions and proofs use, in one place.
pub use Rattle.cell_rules.specs.Audited.{EndsIn, HasNoHistory, IsAudited}
pub use Rattle.cell_rules.specs.BenchView.{desk_of, last_event}
pub use Rattle.cell_rules.specs.Benches.{BenchAsks, Desk}
pub use Rattle.cell_rules.specs.Causes.{is_cause, is_changed, is_owned_as, is_shut, lowest, on_zone, order_of}
pub use Rattle.cell_rules.specs.Causes.{zones_posed}
pub use Rattle.cell_rules.specs.FirstVersion.{has_call}
pub use Rattle.cell_rules.specs.History.{Holds, IsLegal, Moves, PressMoves, after, changes_by_others, done_count}
pub use Rattle.cell_rules.specs.History.{empties, fills, gives, is_done, is_done_answer, is_gain, is_loss, own_events}
pub use Rattle.cell_rules.specs.History.{plates_at, posture_by_events, posture_given, posture_since, takes}
pub use Rattle.cell_rules.specs.Journal.{entry_of, event_by, noted, state_left}
pub use Rattle.cell_rules.specs.Laws.{BeltsRunClear, EventsFit, GuestOnlyWhileOpen, HandoverByHolder, Lawful}
pub use Rattle.cell_rules.specs.Laws.{LawfulThroughout, MoverIsHost, OneHolder, PlatesAreKept, PostureByEvents}
pub use Rattle.cell_rules.specs.Laws.{RunsClear, StoppedUntilResumed, Throughout, done, is_barred}
pub use Rattle.cell_rules.specs.ModelState.{ModelState, is_full, last_stamp, model_state, one_if, plates_of, size_of}
pub use Rattle.cell_rules.specs.ModelState.{zone_at}
pub use Rattle.cell_rules.specs.PlaceSet.{PlaceSet, empty, has, insert_place, place_set, put_place}
pub use Rattle.cell_rules.specs.Programs.{Hears, MovesIn, Program, Reached}
pub use Rattle.cell_rules.specs.RefusalLaws.{is_no_later}
pub use Rattle.cell_rules.specs.Refusals.{advance_refusal, claim_refusal, give_refusal, given_by, is_blocked}
pub use Rattle.cell_rules.specs.Refusals.{is_moving_pose, moves_at, opens_onto_plate, owner_of, owns}
pub use Rattle.cell_rules.specs.Refusals.{passes_through_moving, pose_refusal, posture_at, release_refusal}
pub use Rattle.cell_rules.specs.Refusals.{resume_refusal, runs_onto_plate, stop_refusal, take_refusal, transfer_given}
pub use Rattle.cell_rules.specs.Refusals.{yield_refusal}
pub use Rattle.cell_rules.specs.Reply.{changed, done_unless, emptied, filled, halted, is_belt_of, next, next_by}
pub use Rattle.cell_rules.specs.Reply.{other_party, posed, refusal, reply, stopped_after, worked}
pub use Rattle.cell_rules.specs.Restamping.{IsSameFor, restamped, same_flag}
pub use Rattle.cell_rules.specs.Seen.{BeginsWith, SeenAfter, Settles, Waits, event, heard_after}
pub use Rattle.cell_rules.specs.Sound.{IsSound, has_lawful_owner, has_one_plate, implies, is_lawful_plate}
pub use Rattle.cell_rules.specs.Sound.{is_of_some_pose, is_onto_full, is_open, is_open_to_guest, is_owned_by}
pub use Rattle.cell_rules.specs.Sound.{is_party, is_received_by, moves_by_host}
pub use Rattle.cell_rules.specs.SoundTest.{is_sound}
pub use Rattle.cell_rules.specs.Start.{IsStart, IsStartState, places_of, start_state}
pub use Rattle.cell_rules.specs.StartDigits.{is_flag, is_start, places_in}
pub use Rattle.cell_rules.specs.ZoneMap.{ZoneMap, everywhere, free_zone, map_zones, put_each, put_zone, zone_in}
pub use Rattle.cell_rules.specs.ZoneMap.{zone_map}
