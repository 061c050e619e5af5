-- Keys, stamps and points of a few entries, in figures; which entries fit; and what may be said of stamps alone.
use Rattle.std.specs.Prelude.{◌≡◌, true, false, List, [], ◌∷◌, Some, None}
use Rattle.cell_rules.specs.Types.{Feed, Table, Press, Crane, Watch, Z3, Z6, Claim, Inquire, Done, Refused}
use Rattle.cell_rules.specs.Types.{AlreadyMine}
use Rattle.cell_rules.specs.Names.{empty, start_state, event}
use Rattle.cell_report.specs.declared.ordered.Noted.{Noted}
use Rattle.cell_report.specs.declared.audit_faults.AuditFault.TheVariants.{Twice, Gap, Differs, End, Memory}
use Rattle.cell_report.specs.Order.{AreInOrder, all_noted, done_at, done_stamps, event_of, greatest, in_order}
use Rattle.cell_report.specs.Order.{is_done_noted, key_at, key_of, put, stamp_of}
use Rattle.cell_report.specs.InTurn.{IsFirstLeast, all_in_turn, first_key}
use Rattle.cell_report.specs.AuditFaults.{AllFit, Fits, IsStampFault, IsTooEarly, end_stamp, times, top_of}
use Rattle.cell_report.specs.AuditExamples.{IsRefused, Note, asks, claimed, entry, feed_claims, feed_errs}
use Rattle.cell_report.specs.AuditExamples.{free, journals_of, note, noted, one_left_out, opening, refused, shown}
use Rattle.cell_report.specs.AuditExamples.{two_pairs}

-- four entries, of which one is out of turn
abbrev pub four : List Noted
four =
    noted Press (claimed 8) true ∷ noted Feed (shown 9) true ∷ noted Watch (claimed 6) false
    ∷ noted Table (claimed 8) true ∷ []

-- two journals, one of which goes back
abbrev pub two_journals : List Note
two_journals = (Watch, shown 5) ∷ (Feed, claimed 6) ∷ (Watch, shown 4) ∷ (Feed, shown 6) ∷ []

abbrev pub two_ask : List Note
two_ask = asks Table ∷ asks Feed ∷ []

pub record KeyExamples : Type 0 where
  pub key_of_done : key_of (claimed 6) ≡ 12
  pub key_of_refused : key_of (refused 6) ≡ 13
  pub key_of_shown : key_of (shown 7) ≡ 15
  pub key_at_top : key_of (claimed 1048575) ≡ 2097150
  pub of_noted : key_at (noted Crane (shown 4) false) ≡ 9
  pub stamp_of_entry : stamp_of (noted Crane (shown 4) false) ≡ 4
  pub is_done : is_done_noted (noted Crane (claimed 4) false) ≡ true
  pub is_shown : is_done_noted (noted Crane (shown 4) true) ≡ false
  pub is_refused : is_done_noted (noted Feed (refused 4) true) ≡ false
  pub event_of_entry : event_of (noted Crane (claimed 4) false) ≡ event Crane (Claim Z3) Done
  pub two_are_noted : all_noted (journals_of two_journals)
      ≡ noted Feed (claimed 6) true ∷ noted Feed (shown 6) true ∷ noted Watch (shown 5) true
      ∷ noted Watch (shown 4) false ∷ []
  pub all_are_in_turn : all_in_turn Press (shown 5 ∷ claimed 6 ∷ [])
      ≡ noted Press (shown 5) true ∷ noted Press (claimed 6) true ∷ []
  pub first_key_of_none : first_key [] ≡ 18446744073709551615
  pub first_key_of_two : first_key (claimed 6 ∷ refused 5 ∷ []) ≡ 12
  pub put_first : put (noted Crane (claimed 5) true) (noted Press (claimed 6) true ∷ [])
      ≡ noted Crane (claimed 5) true ∷ noted Press (claimed 6) true ∷ []
  pub put_between :
      put (noted Watch (claimed 8) true) (noted Press (refused 6) true ∷ noted Table (claimed 8) true ∷ [])
      ≡ noted Press (refused 6) true ∷ noted Watch (claimed 8) true ∷ noted Table (claimed 8) true ∷ []
  pub put_last : put (noted Watch (shown 8) true) (noted Table (claimed 8) true ∷ [])
      ≡ noted Table (claimed 8) true ∷ noted Watch (shown 8) true ∷ []
  pub all_in_order : in_order four
      ≡ noted Watch (claimed 6) false ∷ noted Press (claimed 8) true ∷ noted Table (claimed 8) true
      ∷ noted Feed (shown 9) true ∷ []
  pub other_order : ¬ AreInOrder (journals_of two_ask)
      (event Table (Inquire Z3) free ∷ event Feed (Inquire Z3) free ∷ [])
  pub one_event : ¬ AreInOrder (journals_of two_ask) (event Feed (Inquire Z3) free ∷ [])
  pub least_of_four : IsFirstLeast (5 ∷ 3 ∷ 4 ∷ 3 ∷ []) 1
  pub not_least : ¬ IsFirstLeast (5 ∷ 3 ∷ 4 ∷ 3 ∷ []) 2
  pub least_but_not_first : ¬ IsFirstLeast (5 ∷ 3 ∷ 4 ∷ 3 ∷ []) 3
  pub beyond : ¬ IsFirstLeast (5 ∷ 3 ∷ 4 ∷ 3 ∷ []) 4

pub record CountExamples : Type 0 where
  pub stamps_of_done : done_stamps four ≡ 8 ∷ 6 ∷ 8 ∷ []
  pub done_twice : done_at four 8 ≡ 2
  pub done_once : done_at four 6 ≡ 1
  pub shown_only : done_at four 9 ≡ 0
  pub none_at : done_at four 7 ≡ 0
  pub greatest_of_entries : greatest 5 four ≡ 9
  pub greatest_given : greatest 12 four ≡ 12
  pub greatest_of_none : greatest 5 [] ≡ 5
  pub twice : times (6 ∷ 8 ∷ 6 ∷ []) 6 ≡ 2
  pub once : times (6 ∷ 8 ∷ 6 ∷ []) 8 ≡ 1
  pub never : times (6 ∷ 8 ∷ 6 ∷ []) 7 ≡ 0
  pub no_end : end_stamp None ≡ 0
  pub end : end_stamp (Some (start_state empty 7)) ≡ 7
  pub top_of_entries : top_of opening None four ≡ 9
  pub top_of_end : top_of opening (Some (start_state empty 12)) four ≡ 12
  pub top_of_start : top_of (start_state empty 11) None four ≡ 11

-- feed's second claim is refused, since the zone is its own by then
abbrev pub claims_again : Noted
claims_again = noted Feed (entry (Claim Z6) (Refused AlreadyMine) 6) true

abbrev pub claims : Noted
claims = noted Feed (feed_claims 6).1 true

-- feed has noted a claim, and then what it was shown before
abbrev pub goes_back : List Note
goes_back = feed_claims 6 ∷ note Feed (Inquire Z6) free 5 ∷ []

pub record FitExamples : Type 0 where
  pub done_at_start : IsTooEarly 5 (noted Feed (claimed 5) true)
  pub done_after_start : ¬ IsTooEarly 5 (noted Feed (claimed 6) true)
  pub shown_at_start : ¬ IsTooEarly 5 (noted Feed (shown 5) true)
  pub refused_before_start : IsTooEarly 5 (noted Feed (refused 4) true)
  pub claim_fits : Fits opening opening claims
  pub out_of_turn : ¬ Fits opening opening (noted Feed (feed_claims 6).1 false)
  pub too_early : ¬ Fits opening opening (noted Feed (feed_claims 5).1 true)
  pub other_answer : ¬ Fits opening opening (noted Feed (feed_errs 6).1 true)
  pub two_fit : AllFit opening opening (claims ∷ claims_again ∷ [])
  pub second_misfits : ¬ AllFit opening opening (claims ∷ claims ∷ [])
  pub refused_for_turn : IsRefused goes_back None (Differs 5)
  pub memory : IsRefused two_pairs None Memory
  pub twice_by_stamps : IsStampFault 5 8 (all_noted (journals_of two_pairs)) (Twice 6)
  pub gap_by_stamps : IsStampFault 5 8 (all_noted (journals_of one_left_out)) (Gap 7)
  pub memory_by_stamps : IsStampFault 5 8 (all_noted (journals_of two_pairs)) Memory
  pub no_answer_by_stamps : ¬ IsStampFault 5 8 (all_noted (journals_of two_pairs)) (Differs 6)
  pub no_end_by_stamps : ¬ IsStampFault 5 8 (all_noted (journals_of two_pairs)) End

pub record StampExamples : Type 0 where
  pub keys : KeyExamples
  pub counts : CountExamples
  pub fit : FitExamples
