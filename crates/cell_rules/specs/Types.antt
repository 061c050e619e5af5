-- The names of `cell_types`, from one place.
pub use Rattle.cell_types.specs.Answers.{answer_text, flag_word, owner_word, refusal_word}
pub use Rattle.cell_types.specs.CallWords.{call_fields, call_text, verb_of}
pub use Rattle.cell_types.specs.Everything.{all_machines, all_places, all_poses, all_postures, all_zones}
pub use Rattle.cell_types.specs.Journals.{journal_of}
pub use Rattle.cell_types.specs.Refusals.{number_of}
pub use Rattle.cell_types.specs.Same.{one_machine, one_posture, same_machine, same_place}
pub use Rattle.cell_types.specs.Same.{same_pose, same_posture, same_zone}
pub use Rattle.cell_types.specs.Tables.{guest_of, host_of, posture_of, transfer_of}
pub use Rattle.cell_types.specs.Ways.{keeper_of, own_move_of}
pub use Rattle.cell_types.specs.Words.{machine_word, named, pose_word, posture_word, zone_word}
pub use Rattle.cell_types.specs.declared.answer.Answer.{Answer}
pub use Rattle.cell_types.specs.declared.answer.Answer.TheVariants.{Done, Refused, Shown}
pub use Rattle.cell_types.specs.declared.answer.Event.{Event}
pub use Rattle.cell_types.specs.declared.answer.Refusal.{Refusal}
pub use Rattle.cell_types.specs.declared.answer.Refusal.TheVariants.{AlreadyMine, Held, InUse, Jump, NoPlate, NoPose}
pub use Rattle.cell_types.specs.declared.answer.Refusal.TheVariants.{NotAtWork, NotOwner, NotParty, NotStopped}
pub use Rattle.cell_types.specs.declared.answer.Refusal.TheVariants.{PlaceFull, PlateInZone, Shut, Stopped, Worn}
pub use Rattle.cell_types.specs.declared.answer.Refusal.TheVariants.{WrongWay}
pub use Rattle.cell_types.specs.declared.call.Call.{Call}
pub use Rattle.cell_types.specs.declared.call.Call.TheVariants.{Advance, Claim, Give, Inquire, Release, Resume}
pub use Rattle.cell_types.specs.declared.call.Call.TheVariants.{SetPose, Stop, Take, Yield}
pub use Rattle.cell_types.specs.declared.journal.Entry.{Entry}
pub use Rattle.cell_types.specs.declared.journal.Journals.{Journals}
pub use Rattle.cell_types.specs.declared.machine.Machine.{Machine}
pub use Rattle.cell_types.specs.declared.machine.Machine.TheVariants.{Crane, Deposit, Feed, Press, Robot, Table}
pub use Rattle.cell_types.specs.declared.machine.Machine.TheVariants.{Watch}
pub use Rattle.cell_types.specs.declared.place.Place.{Place}
pub use Rattle.cell_types.specs.declared.place.Place.TheVariants.{Arm1, Arm2, DepEnd, DepEntry, FeedEnd, FeedEntry}
pub use Rattle.cell_types.specs.declared.place.Place.TheVariants.{PressIn, PressOut}
pub use Rattle.cell_types.specs.declared.pose.Pose.{Pose}
pub use Rattle.cell_types.specs.declared.pose.Pose.TheVariants.{Halted, Landing, Loading, Low, Middle, Offering}
pub use Rattle.cell_types.specs.declared.pose.Pose.TheVariants.{Running, Standing, Top, Travelling, Turning}
pub use Rattle.cell_types.specs.declared.pose.Pose.TheVariants.{Unloading}
pub use Rattle.cell_types.specs.declared.posture.Posture.{Posture}
pub use Rattle.cell_types.specs.declared.posture.Posture.TheVariants.{Closed, Moving, OpenIn, OpenOut}
pub use Rattle.cell_types.specs.declared.reply.Reply.{Reply}
pub use Rattle.cell_types.specs.declared.reply.Reply.TheVariants.{Busy, Settled}
pub use Rattle.cell_types.specs.declared.zone.Transfer.{Transfer}
pub use Rattle.cell_types.specs.declared.zone.Zone.{Zone}
pub use Rattle.cell_types.specs.declared.zone.Zone.TheVariants.{Z1, Z2, Z3, Z4, Z5, Z6}
