-- The figures of the example entries, and which of them fit.
use Rattle.cell_report.proofs.Names.{◌≡◌, ℕ, zero, suc, ◌<◌, ◌≤◌, true, false, inl, inr, List, [], ◌∷◌, map, length, get_or, None, refl, sym, ap, ◌∙◌, subst, arith, Feed, Machine, Table, Watch, AlreadyMine, Refused, Done, NotParty, Noted, all_noted, done_at, done_stamps, event_of, greatest, in_order, AllFit, Fits, HasStamps, IsFirstLeast, IsMisfit, IsTooEarly}
use Rattle.cell_rules.specs.Types.{Z3, Z6, Claim, Inquire, Event}
use Rattle.cell_rules.specs.Names.{event, next}
use Rattle.cell_report.specs.AuditExamples.{claimed, entry, feed_claims, feed_errs, free, journals_of, noted, one_left_out, opening, refused, shown, two_pairs}
use Rattle.cell_report.specs.Order.{AreInOrder}
use Rattle.cell_report.specs.StampExamples.{CountExamples, FitExamples, KeyExamples, StampExamples, claims, claims_again, goes_back, two_ask}
use Rattle.cell_report.proofs.AuditRows.{claim_fits, faults, gap_row, later, orders, twice_row}
use Rattle.cell_report.proofs.Checks.{gapless, no_twice, rising_stamps, within_top}
use Rattle.cell_report.proofs.OneFault.{order_is_one}
use Rattle.cell_report.proofs.Puts.{in_order_is}
use Rattle.cell_report.proofs.Times.{gap_after, gap_tells, twice_after, twice_tells}

-- ---- the order

-- the events of all entries in the order are these alone
abbrev asked : List Noted
asked = in_order (all_noted (journals_of two_ask))

only_order : (history : List Event) → AreInOrder (journals_of two_ask) history → history ≡ map event_of asked
only_order history k =
    let one = order_is_one (all_noted (journals_of two_ask)) k.0 asked k.1 (in_order_is (all_noted (journals_of two_ask))) in
    k.2 ∙ ap (map event_of) one

first_of_all : List Event → Machine
first_of_all [] = Watch
first_of_all (e ∷ history) = e.machine

table_is_no_feed : Table ≡ Feed → ⊥
table_is_no_feed e = cc

other_order : AreInOrder (journals_of two_ask) (event Table (Inquire Z3) free ∷ event Feed (Inquire Z3) free ∷ []) → ⊥
unfolding first_of_all
other_order k = table_is_no_feed (ap first_of_all (only_order _ k))

one_event : AreInOrder (journals_of two_ask) (event Feed (Inquire Z3) free ∷ []) → ⊥
one_event k = let e = ap length (only_order _ k) in omega (arith, e)

abbrev numbers : List ℕ
numbers = 5 ∷ 3 ∷ 4 ∷ 3 ∷ []

least_of : (i : ℕ) → i < 4 → 3 ≤ get_or numbers i 0
least_of zero h = omega arith
least_of (suc zero) h = omega arith
least_of (suc (suc zero)) h = omega arith
least_of (suc (suc (suc zero))) h = omega arith
least_of (suc (suc (suc (suc i)))) h = absurd (omega (arith, h))

first_of : (i : ℕ) → i < 1 → 3 < get_or numbers i 0
first_of zero h = omega arith
first_of (suc i) h = absurd (omega (arith, h))

keys : KeyExamples
keys = record {
  key_of_done = refl;
  key_of_refused = refl;
  key_of_shown = refl;
  key_at_top = refl;
  of_noted = refl;
  stamp_of_entry = refl;
  is_done = refl;
  is_shown = refl;
  is_refused = refl;
  event_of_entry = refl;
  two_are_noted = refl;
  all_are_in_turn = refl;
  first_key_of_none = refl;
  first_key_of_two = refl;
  put_first = refl;
  put_between = refl;
  put_last = refl;
  all_in_order = refl;
  other_order = other_order;
  one_event = one_event;
  least_of_four = record { within = omega arith; least = least_of; first = first_of };
  not_least = λ k. let lie : 4 ≤ 3 = k.least 1 (omega arith) in omega (arith, lie);
  least_but_not_first = λ k. let lie : 3 < 3 = k.first 1 (omega arith) in omega (arith, lie);
  beyond = λ k. let lie : 4 < 4 = k.within in omega (arith, lie);
}

-- ---- the counts

counts : CountExamples
counts = record {
  stamps_of_done = refl;
  done_twice = refl;
  done_once = refl;
  shown_only = refl;
  none_at = refl;
  greatest_of_entries = refl;
  greatest_given = refl;
  greatest_of_none = refl;
  twice = refl;
  once = refl;
  never = refl;
  no_end = refl;
  end = refl;
  top_of_entries = refl;
  top_of_end = refl;
  top_of_start = refl;
}

-- ---- what fits

abbrev back : List Noted
back = all_noted (journals_of goes_back)

abbrev ordered : List Noted
ordered = in_order back

back_stamps : HasStamps 5 (greatest 5 back) back ordered
back_stamps =
    let o = in_order_is back in
    let rising = rising_stamps back ordered (done_stamps ordered) o refl in
    let top : ℕ = greatest 5 ordered in
    record {
      order = o;
      no_twice = no_twice back ordered (done_stamps ordered) o refl (twice_tells (done_stamps ordered) rising None refl);
      no_gap = gapless 5 5 back ordered (done_stamps ordered) top o refl refl (gap_tells 5 top (done_stamps ordered) rising (within_top 5 ordered (done_stamps ordered) top refl refl) None refl);
    }

turned_back : IsMisfit opening ordered 5
turned_back = record {
  before = [];
  x = noted Feed (entry (Inquire Z6) free 5) false;
  rest = claims ∷ [];
  split = refl;
  fit = tt;
  misfit = λ fits. let lie = fits.in_turn in cc;
  is = refl;
}

again_fits : Fits opening (next opening Feed (Claim Z6)) claims_again
again_fits = record { in_turn = refl; in_time = not_early; answer = refl }
  where
    not_early : ¬ IsTooEarly 5 claims_again
    not_early = later 5 claims_again (omega arith)

fit : FitExamples
fit = record {
  done_at_start = inr (refl, omega arith);
  done_after_start = later 5 (noted Feed (claimed 6) true) (omega arith);
  shown_at_start = λ k. elim k [ inl l ↦ omega (arith, l) | inr l ↦ let lie = l.0 in cc ];
  refused_before_start = inl (omega arith);
  claim_fits = claim_fits.0;
  out_of_turn = λ fits. let lie = fits.in_turn in cc;
  too_early = λ fits. fits.in_time (inr (refl, omega arith));
  other_answer = λ fits. let bad : Refused NotParty ≡ Done = fits.answer in cc;
  two_fit = (claim_fits.0, (again_fits, tt));
  second_misfits = λ k. let bad : Done ≡ Refused AlreadyMine = k.1.0.answer in cc;
  refused_for_turn = (ordered, back_stamps, turned_back);
  memory = tt;
  twice_by_stamps = twice_row (all_noted (journals_of two_pairs)) 6 refl refl;
  gap_by_stamps = gap_row 5 5 (all_noted (journals_of one_left_out)) 7 refl refl refl;
  memory_by_stamps = tt;
  no_answer_by_stamps = λ k. k;
  no_end_by_stamps = λ k. k;
}

pub stamps_are_met : StampExamples
stamps_are_met = record { keys = keys; counts = counts; fit = fit }

pub ruleset audit_rows = (orders, faults, stamps_are_met)
