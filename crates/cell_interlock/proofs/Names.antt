-- The names of other crates, and of this one's definitions, that the proofs here use.
pub use Rattle.cell_interlock.specs.Book.{cell_book}
pub use Rattle.cell_interlock.specs.Calls.{IfSettled, IsStampedAfter, stamp_in}
pub use Rattle.cell_interlock.specs.Ends.{ArePassesOf, HasPart, IsEnd, journals_by, pass_in}
pub use Rattle.cell_interlock.specs.Engine.{EnginePass, EngineTry, pass_from, pass_to, reply_from, try_from}
pub use Rattle.cell_interlock.specs.Lines.{IsLine, LineView, PassAsks, Replied}
pub use Rattle.cell_interlock.specs.Order.{ReceiptsOrderCalls, ReceiptsRaiseStamps, StandsBefore}
pub use Rattle.cell_interlock.specs.Seen.{HasChanges, HasSeenMore, IsOvertaken, IsSamePass, IsSettled, IsUnmade}
pub use Rattle.cell_interlock.specs.Timing.{GoesOn, IsInTime, IsLookTimed, IsRun, IsTimed, Lasts, Moments, Told, told_by}
pub use Rattle.cell_interlock.specs.Tries.{IsBusy, IsLost, IsPending}
pub use Rattle.cell_interlock.specs.Views.{InterlockView, PassView, ReceiptView, TryView}
pub use Rattle.cell_interlock.specs.declared.pass.Passes.{Passes}
pub use Rattle.cell_rules.proofs.lemmas.Histories.{legal-left, throughout}
pub use Rattle.cell_rules.proofs.lemmas.SeenLemmas.{after-push, legal-append, own-push, same_as_itself, waits-foreign}
pub use Rattle.cell_rules.proofs.lemmas.JournalsOfCallers.{noted-waits, told}
pub use Rattle.cell_rules.specs.Names.{BeginsWith, Holds, IsAudited, IsLegal, IsSound, Lawful, LawfulThroughout, ModelState, SeenAfter, Settles, Waits, after, changes_by_others, entry_of, event, is_done_answer, next, noted, own_events, reply, zone_at}
pub use Rattle.cell_rules.specs.Rights.{KeepsItsOwn, needs}
pub use Rattle.cell_rules.specs.Types.{Answer, Busy, Call, Crane, Deposit, Done, Entry, Event, Feed, Machine, Press, Refused, Release, Reply, Robot, Settled, Shown, Stop, Stopped, Table, Watch, Z3, Zone}
pub use Rattle.std.proofs.Common.{Bool, Err, List, None, Ok, Result, Some, [], ap, append-nil, arith, false, if◌then◌else◌, inl, inr, length, refl, rules, subst, sym, true, ℕ, ◌++◌, ◌+◌, ◌<◌, ◌∙◌, ◌∷◌, ◌≡◌, ◌≢◌, ◌≤◌, ◌⊎◌}
pub use Rattle.std.proofs.lemmas.List.{append_cancel_right, same_from_push}
pub use Rattle.word_interlock.specs.Views.{view_of}
