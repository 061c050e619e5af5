-- The names of other crates that the proofs here use.
pub use Rattle.cell_rules.proofs.lemmas.Conserved.{plates-kept}
pub use Rattle.cell_rules.proofs.lemmas.DoneCalls.{advance_done, no_zone, none_then, not_true, pose_done}
pub use Rattle.cell_rules.proofs.lemmas.Flags.{halted-flag}
pub use Rattle.cell_rules.proofs.lemmas.Histories.{after-append, legal-left, sound-after}
pub use Rattle.cell_rules.proofs.lemmas.SoundAfterCalls.{claimed, released, yielded}
pub use Rattle.cell_rules.proofs.lemmas.Lawful.{beq_same}
pub use Rattle.cell_rules.proofs.lemmas.Plates.{given, taken}
pub use Rattle.cell_rules.proofs.lemmas.Puts.{has-put, put_cases, zone_in-map, zone_in-put}
pub use Rattle.cell_rules.proofs.lemmas.Soundness.{done_none, event_cases, next_keeps}
pub use Rattle.cell_rules.proofs.lemmas.Tables.{Finite, and_both, and_left, and_right, bools, holds2, holds3, holds4, implied, machines, never, passed, poses, postures, zones}
pub use Rattle.cell_rules.proofs.lemmas.Tellings.{same_posture-self}
pub use Rattle.cell_rules.proofs.lemmas.Transfers.{advance_finds, give_finds, take_finds}
pub use Rattle.cell_rules.specs.Names.{IsLegal, IsSound, IsStartState, ModelState, PlaceSet, ZoneMap, advance_refusal, after, changed, emptied, filled, give_refusal, given_by, halted, has, implies, is_belt_of, is_done, is_full, is_moving_pose, is_onto_full, is_received_by, map_zones, next, next_by, one_if, plates_of, pose_refusal, posed, posture_at, put_place, put_zone, reply, take_refusal, transfer_given, worked, zone_at, zone_in}
pub use Rattle.cell_rules.specs.Refusals.{is_at_work, is_concerned, plate_under_pose, posture_with}
pub use Rattle.cell_rules.specs.Types.{Advance, Answer, Call, Claim, Closed, Done, Event, Give, Inquire, Machine, Moving, OpenIn, OpenOut, Place, PlateInZone, Pose, Posture, Release, Resume, SetPose, Stop, Take, Transfer, Yield, Z1, Z2, Z3, Z4, Z5, Z6, Zone, host_of, one_machine, one_posture, own_move_of, posture_of, same_machine, same_place, same_posture, same_zone, transfer_of}
pub use Rattle.cell_rules.specs.declared.zones.ZoneState.{ZoneState}
pub use Rattle.cell_types.proofs.lemmas.SameLemmas.{one_place, one_zone}
pub use Rattle.std.proofs.Common.{Bool, IsTrue, List, None, Option, Some, [], ap, arith, cond, count_by, false, filter, get_or, if◌then◌else◌, inl, inr, is_none, is_some, leb-true, lt-ltb, ltb-true, map, nat_eq, nat_le, nat_lt, not, refl, subst, suc, sym, true, unwrap_or, ℕ, ◌&&◌, ◌*◌, ◌++◌, ◌+◌, ◌-◌, ◌<◌, ◌||◌, ◌∙◌, ◌∷◌, ◌≡◌, ◌≢◌, ◌≤◌, ◌⊎◌}
pub use Rattle.std.proofs.Common.{append-nil}
pub use Rattle.std.proofs.lemmas.Bool.{eqb-true, false_from_ne_true}
pub use Rattle.std.proofs.lemmas.List.Sums.{sum-map, sum_by-cons}
pub use Rattle.std.specs.Bool.{beq}
pub use Rattle.std.specs.List.{list_all, sum, sum_by}
