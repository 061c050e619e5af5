-- The audits of the examples. Their entries are in order, except one list that is only noted.
use Rattle.cell_report.proofs.Names.{◌≡◌, ℕ, ◌<◌, ◌≤◌, nat_le, Bool, true, false, ◌&&◌, inl, inr, List, [], ◌∷◌, Option, Some, None, refl, ap, arith, list_all, and_parts, leb-true, Feed, Press, Z6, Refused, AlreadyMine, NotParty, ModelState, is_full, zone_at, empty, start_state, Noted, all_noted, done_at, done_stamps, greatest, key_at, stamp_of, InOrder, AllFit, HasNoTwice, HasStamps, IsGap, IsMisfit, IsTooEarly, IsTwice, MissesEnd, All-contains, AllPass-from_list_all, In, contains_from_in}
use Rattle.cell_types.specs.declared.place.Place.TheVariants as place
use Rattle.cell_report.specs.AuditExamples.{FaultExamples, OrderExamples, asks_early, backwards, early_pair, feed_claims, feed_errs, journals_of, noted, one_left_out, opening, press_errs, reached, refused_later, two_err, two_pairs, with_plate}
use Rattle.cell_report.proofs.Rising.{Rises, from_rises}
use Rattle.cell_report.proofs.Times.{gap_after, gap_tells, twice_after, twice_tells}
use Rattle.cell_report.proofs.Checks.{gap_is, gapless, no_twice, rising_stamps, twice_is, within_top}

-- ---- entries that are in order

abbrev stands_low : Noted → List Noted → Bool
stands_low x xs = list_all (λ z. nat_le (key_at x) (key_at z)) xs

abbrev stands : List Noted → Bool
stands [] = true
stands (x ∷ xs) = stands_low x xs && stands xs

low_in : (x : Noted) (xs : List Noted) → stands_low x xs ≡ true → (z : Noted) → In z xs → key_at x ≤ key_at z
low_in x xs e z h = leb-true _ _ (All-contains (λ y. nat_le (key_at x) (key_at y) ≡ true) xs z (AllPass-from_list_all (λ y. nat_le (key_at x) (key_at y)) xs e) (contains_from_in xs z h))

rises : (xs : List Noted) → stands xs ≡ true → Rises xs
rises [] e = tt
rises (x ∷ xs) e = (low_in x xs (and_parts _ _ e).0, rises xs (and_parts _ _ e).1)

in_order : (all : List Noted) → stands all ≡ true → InOrder all all
in_order all e = record {
  same = record { moves = []; below = tt; is = refl };
  rising = from_rises key_at all (rises all e);
  stable = λ z. refl;
}

-- ---- what their stamps say

pub twice_row : (all : List Noted) (s : ℕ) → stands all ≡ true → twice_after None (done_stamps all) ≡ Some s → IsTwice (done_at all) s
twice_row all s e t =
    let o = in_order all e in
    twice_is all all (done_stamps all) s o refl (twice_tells (done_stamps all) (rising_stamps all all (done_stamps all) o refl) (Some s) t)

not_twice : (all : List Noted) → stands all ≡ true → twice_after None (done_stamps all) ≡ None → HasNoTwice (done_at all)
not_twice all e t =
    let o = in_order all e in
    no_twice all all (done_stamps all) o refl (twice_tells (done_stamps all) (rising_stamps all all (done_stamps all) o refl) None t)

abbrev Gapped : ℕ → ℕ → List Noted → Option ℕ → Type 0
Gapped start least all gap = gap_after start (greatest least all) (done_stamps all) ≡ gap

pub gap_row : (start least : ℕ) (all : List Noted) (s : ℕ) → stands all ≡ true → twice_after None (done_stamps all) ≡ None → Gapped start least all (Some s)
    → HasNoTwice (done_at all) × IsGap start (greatest least all) (done_at all) s
gap_row start least all s e t g =
    let o = in_order all e in
    let top : ℕ = greatest least all in (
      not_twice all e t,
      gap_is start least all all (done_stamps all) top s o refl refl (gap_tells start top (done_stamps all) (rising_stamps all all (done_stamps all) o refl) (within_top least all (done_stamps all) top refl refl) (Some s) g),
    )

stamps_row : (start least : ℕ) (all : List Noted) → stands all ≡ true → twice_after None (done_stamps all) ≡ None → Gapped start least all None → HasStamps start (greatest least all) all all
stamps_row start least all e t g =
    let o = in_order all e in
    let top : ℕ = greatest least all in
    record {
      order = o;
      no_twice = not_twice all e t;
      no_gap = gapless start least all all (done_stamps all) top o refl refl (gap_tells start top (done_stamps all) (rising_stamps all all (done_stamps all) o refl) (within_top least all (done_stamps all) top refl refl) None g);
    }

-- ---- what fits

pub later : (start : ℕ) (x : Noted) → start < x.entry.stamp → ¬ IsTooEarly start x
later start x h k = elim k [ inl l ↦ omega (arith, h, l) | inr l ↦ omega (arith, h, l.1) ]

pub claim_fits : AllFit opening opening (noted Feed (feed_claims 6).1 true ∷ [])
claim_fits = (record { in_turn = refl; in_time = later 5 (noted Feed (feed_claims 6).1 true) (omega arith); answer = refl }, tt)

differs : IsMisfit opening (all_noted (journals_of two_err)) 6
differs = record {
  before = noted Feed (feed_claims 6).1 true ∷ [];
  x = noted Feed (feed_errs 6).1 true;
  rest = noted Press (press_errs 7).1 true ∷ [];
  split = refl;
  fit = claim_fits;
  misfit = λ fits. let bad : Refused NotParty ≡ Refused AlreadyMine = fits.answer in cc;
  is = refl;
}

-- the first entry is too early
pub too_early : (x : Noted) → IsTooEarly 5 x → IsMisfit opening (x ∷ []) (stamp_of x)
too_early x early = record { before = []; x = x; rest = []; split = refl; fit = tt; misfit = λ fits. fits.in_time early; is = refl }

misses : (end : ModelState) → ¬ (reached ≡ end) → MissesEnd opening (all_noted (journals_of (feed_claims 6 ∷ []))) (Some end)
misses end other = record { fit = claim_fits; misses = other }

-- ---- the examples

pub orders : OrderExamples
orders = record {
  by_stamp = omega arith;
  done_first = omega arith;
  others_alike = refl;
  by_machine = (all_noted (journals_of backwards), in_order _ refl, refl);
  in_turn = refl;
}

pub faults : FaultExamples
faults = record {
  least_pair = twice_row (all_noted (journals_of two_pairs)) 6 refl refl;
  pair_before_start = twice_row (all_noted (journals_of early_pair)) 4 refl refl;
  pair_before_end = twice_row (all_noted (journals_of two_pairs)) 6 refl refl;
  least_gap = gap_row 5 5 (all_noted (journals_of one_left_out)) 7 refl refl refl;
  gap_before_end = gap_row 5 5 (all_noted (journals_of one_left_out)) 7 refl refl refl;
  gap_after_start = gap_row 5 5 (all_noted (journals_of (feed_claims 7 ∷ []))) 6 refl refl refl;
  gap_of_refused = gap_row 5 5 (all_noted (journals_of refused_later)) 7 refl refl refl;
  gap_at_top = gap_row 5 5 (all_noted (journals_of (feed_claims 6 ∷ feed_errs 7 ∷ []))) 7 refl refl refl;
  gap_of_end = gap_row 5 7 (all_noted (journals_of (feed_claims 6 ∷ []))) 7 refl refl refl;
  first_to_differ = (all_noted (journals_of two_err), stamps_row 5 5 (all_noted (journals_of two_err)) refl refl refl, differs);
  differs_before_end = (all_noted (journals_of two_err), stamps_row 5 5 (all_noted (journals_of two_err)) refl refl refl, differs);
  refused_too_early = (noted Feed (asks_early).1 true ∷ [], stamps_row 5 5 (noted Feed (asks_early).1 true ∷ []) refl refl refl, too_early (noted Feed (asks_early).1 true) (inl (omega arith)));
  done_too_early = (noted Feed (feed_claims 5).1 true ∷ [], stamps_row 5 5 (noted Feed (feed_claims 5).1 true ∷ []) refl refl refl, too_early (noted Feed (feed_claims 5).1 true) (inr (refl, omega arith)));
  zones_of_end = (_, stamps_row 5 6 (all_noted (journals_of (feed_claims 6 ∷ []))) refl refl refl, misses (start_state empty 6) (λ e. let bad : Some Feed ≡ None = ap (λ (s : ModelState). (zone_at s Z6).owner) e in cc));
  places_of_end = (_, stamps_row 5 6 (all_noted (journals_of (feed_claims 6 ∷ []))) refl refl refl, misses with_plate (λ e. let bad : false ≡ true = ap (λ (s : ModelState). is_full s place.Crane) e in cc));
  stamp_of_end = (_, stamps_row 5 5 (all_noted (journals_of (feed_claims 6 ∷ []))) refl refl refl, misses (record reached { stamp = 5 }) (λ e. let bad : 6 ≡ 5 = ap (λ (s : ModelState). s.stamp) e in omega (arith, bad)));
  mark_of_end = (_, stamps_row 5 6 (all_noted (journals_of (feed_claims 6 ∷ []))) refl refl refl, misses (record reached { stopped = true }) (λ e. let bad : false ≡ true = ap (λ (s : ModelState). s.stopped) e in cc));
}
