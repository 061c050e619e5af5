-- Journals of a few entries: the order of their entries, and why an audit refuses them.
use Rattle.std.specs.Prelude.{◌≡◌, ℕ, ◌<◌, Bool, true, false, List, [], ◌∷◌, map, filter, Option, Some, None}
use Rattle.cell_rules.specs.Types.{Machine, Feed, Table, Robot, Press, Deposit, Crane, Watch, Z1, Z3, Z4, Z6, Closed}
use Rattle.cell_rules.specs.Types.{Call, Claim, Inquire, Answer, Done, Shown, Refused, NotParty, Entry, same_machine}
use Rattle.cell_types.specs.declared.place.Place.TheVariants as place
use Rattle.cell_rules.specs.Names.{ModelState, empty, insert_place, start_state, next, event}
use Rattle.cell_report.specs.declared.ordered.Noted.{Noted}
use Rattle.cell_report.specs.declared.audit_faults.AuditFault.{AuditFault}
use Rattle.cell_report.specs.declared.audit_faults.AuditFault.TheVariants.{Twice, Gap, Differs, End}
use Rattle.cell_report.specs.Order.{key_of, all_noted, AreInOrder}
use Rattle.cell_report.specs.AuditFaults.{IsFault}

-- a call, its answer and its stamp, as a machine notes them
abbrev pub entry : Call → Answer → ℕ → Entry
entry call answer stamp = record { call = call; answer = answer; stamp = stamp }

abbrev pub Note : Type 0
Note = Machine × Entry

abbrev pub note : Machine → Call → Answer → ℕ → Note
note m call answer stamp = (m, entry call answer stamp)

abbrev pub journals_of : List Note → Machine → List Entry
journals_of notes m = map (λ note. note.1) (filter (λ note. same_machine note.0 m) notes)

-- the answer to an inquiry of a zone that nobody owns
abbrev pub free : Answer
free = Shown None false Closed

-- ---- the order

abbrev pub noted : Machine → Entry → Bool → Noted
noted m e in_turn = record { machine = m; entry = e; in_turn = in_turn }

abbrev pub asks : Machine → Note
asks m = note m (Inquire Z3) free 5

-- all machines ask at one stamp, in the opposite order
abbrev pub backwards : List Note
backwards = asks Watch ∷ asks Crane ∷ asks Deposit ∷ asks Press ∷ asks Robot ∷ asks Table ∷ asks Feed ∷ []

-- a journal whose fourth entry follows a later one, and whose fifth, which is Done, follows others of its stamp
abbrev pub claimed : ℕ → Entry
claimed stamp = entry (Claim Z3) Done stamp

abbrev pub refused : ℕ → Entry
refused stamp = entry (Claim Z3) (Refused NotParty) stamp

abbrev pub shown : ℕ → Entry
shown stamp = entry (Inquire Z3) free stamp

abbrev pub unordered : List Note
unordered =
    (Press, claimed 6) ∷ (Press, refused 6) ∷ (Press, shown 6) ∷ (Press, refused 5) ∷ (Press, claimed 6)
    ∷ (Press, claimed 7) ∷ []

pub record OrderExamples : Type 0 where
  pub by_stamp : key_of (refused 6) < key_of (claimed 7)
  pub done_first : key_of (claimed 6) < key_of (refused 6)
  pub others_alike : key_of (refused 6) ≡ key_of (shown 6)
  pub by_machine : AreInOrder (journals_of backwards)
      (event Feed (Inquire Z3) free ∷ event Table (Inquire Z3) free ∷ event Robot (Inquire Z3) free
      ∷ event Press (Inquire Z3) free ∷ event Deposit (Inquire Z3) free
      ∷ event Crane (Inquire Z3) free ∷ event Watch (Inquire Z3) free ∷ [])
  pub in_turn : all_noted (journals_of unordered)
      ≡ noted Press (claimed 6) true ∷ noted Press (refused 6) true ∷ noted Press (shown 6) true
      ∷ noted Press (refused 5) false
      ∷ noted Press (claimed 6) false ∷ noted Press (claimed 7) true ∷ []

-- ---- the faults, if the start's stamp is 5

abbrev pub opening : ModelState
opening = start_state empty 5

abbrev pub feed_claims : ℕ → Note
feed_claims stamp = note Feed (Claim Z6) Done stamp

abbrev pub table_claims : ℕ → Note
table_claims stamp = note Table (Claim Z1) Done stamp

abbrev pub press_claims : ℕ → Note
press_claims stamp = note Press (Claim Z3) Done stamp

abbrev pub deposit_claims : ℕ → Note
deposit_claims stamp = note Deposit (Claim Z4) Done stamp

-- feed has noted an answer that no interlock gives, and the press a claim of a zone that isn't its own
abbrev pub feed_errs : ℕ → Note
feed_errs stamp = note Feed (Claim Z6) (Refused NotParty) stamp

abbrev pub press_errs : ℕ → Note
press_errs stamp = note Press (Claim Z4) Done stamp

-- feed has asked before the start
abbrev pub asks_early : Note
asks_early = note Feed (Inquire Z3) free 4

-- no Done entry of these has the stamp 7
abbrev pub two_pairs : List Note
two_pairs = feed_errs 3 ∷ feed_claims 6 ∷ table_claims 6 ∷ press_claims 8 ∷ deposit_claims 8 ∷ []

abbrev pub early_pair : List Note
early_pair = feed_claims 4 ∷ table_claims 4 ∷ press_claims 8 ∷ []

abbrev pub one_left_out : List Note
one_left_out = feed_claims 6 ∷ press_errs 8 ∷ []

abbrev pub refused_later : List Note
refused_later = feed_claims 6 ∷ feed_errs 8 ∷ []

abbrev pub two_err : List Note
two_err = feed_claims 6 ∷ feed_errs 6 ∷ press_errs 7 ∷ []

-- the state after feed's claim, and the same with one plate more
abbrev pub reached : ModelState
reached = next opening Feed (Claim Z6)

abbrev pub with_plate : ModelState
with_plate = record reached { full = insert_place empty place.Crane }

abbrev pub IsRefused : List Note → Option ModelState → AuditFault → Type 0
IsRefused notes end fault = IsFault opening (journals_of notes) end fault

pub record FaultExamples : Type 0 where
  pub least_pair : IsRefused two_pairs None (Twice 6)
  pub pair_before_start : IsRefused early_pair None (Twice 4)
  pub pair_before_end : IsRefused two_pairs (Some opening) (Twice 6)
  pub least_gap : IsRefused one_left_out None (Gap 7)
  pub gap_before_end : IsRefused one_left_out (Some opening) (Gap 7)
  pub gap_after_start : IsRefused (feed_claims 7 ∷ []) None (Gap 6)
  pub gap_of_refused : IsRefused refused_later None (Gap 7)
  pub gap_at_top : IsRefused (feed_claims 6 ∷ feed_errs 7 ∷ []) None (Gap 7)
  pub gap_of_end : IsRefused (feed_claims 6 ∷ []) (Some (start_state empty 7)) (Gap 7)
  pub first_to_differ : IsRefused two_err None (Differs 6)
  pub differs_before_end : IsRefused two_err (Some opening) (Differs 6)
  pub refused_too_early : IsRefused (asks_early ∷ []) None (Differs 4)
  pub done_too_early : IsRefused (feed_claims 5 ∷ []) None (Differs 5)
  pub zones_of_end : IsRefused (feed_claims 6 ∷ []) (Some (start_state empty 6)) End
  pub places_of_end : IsRefused (feed_claims 6 ∷ []) (Some with_plate) End
  pub stamp_of_end : IsRefused (feed_claims 6 ∷ []) (Some (record reached { stamp = 5 })) End
  pub mark_of_end : IsRefused (feed_claims 6 ∷ []) (Some (record reached { stopped = true })) End
