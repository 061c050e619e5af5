-- The lap, computed for all positions.
use Rattle.cell_ring.proofs.Names.{◌≡◌, ◌≢◌, ℕ, ◌≤◌, Bool, true, false, ◌&&◌, refl, ap, ◌∙◌, sym, nat_le, list_all, get_or, Finite, passed, holds2, and_left, and_right, eqb-true, leb-true, false_from_ne_true}
use Rattle.cell_ring.specs.Lap.{Position, FeedEntry, all_positions, number_of, same_position, distance, position_on, lap_length, LapGoesRound}
use Rattle.std.proofs.Common.{count_by}

pub from_positions : (P : Position → Bool) → list_all P all_positions ≡ true → (p : Position) → P p ≡ true
from_positions P e FeedEntry = assumption (passed P all_positions e)
from_positions P e _ = assumption (passed P all_positions e)

abbrev pub positions : Finite Position
positions = record { all = λ P. list_all P all_positions; holds = from_positions }

-- a position by its number
abbrev pub position_at : ℕ → Position
position_at n = get_or all_positions n FeedEntry

at_number : (p : Position) → position_at (number_of p) ≡ p
at_number FeedEntry = refl
at_number _ = refl

pub one_position : (p q : Position) → same_position p q ≡ true → p ≡ q
one_position p q e = sym (at_number p) ∙ ap position_at (eqb-true (number_of p) (number_of q) e) ∙ at_number q

pub same-self : (p : Position) → same_position p p ≡ true
same-self FeedEntry = refl
same-self _ = refl

pub not_same : (p q : Position) → p ≢ q → same_position p q ≡ false
not_same p q apart = false_from_ne_true (same_position p q) (λ e. apart (one_position p q e))

once : (p : Position) → count_by (same_position p) all_positions ≡ 1
once FeedEntry = refl
once _ = refl

round : (p : Position) → position_on lap_length p ≡ p
round FeedEntry = refl
round _ = refl

reaches : (p q : Position) → (nat_le (distance p q) 16 && same_position (position_on (distance p q) p) q) ≡ true
reaches = holds2 positions positions (λ p q. nat_le (distance p q) 16 && same_position (position_on (distance p q) p) q) refl

pub reached : (p q : Position) → (distance p q ≤ 16) × (position_on (distance p q) p ≡ q)
reached p q =
    let near = nat_le (distance p q) 16 in
    let there = same_position (position_on (distance p q) p) q in
    (leb-true _ _ (and_left near there (reaches p q)), one_position _ _ (and_right near there (reaches p q)))

pub lap_goes_round : LapGoesRound
lap_goes_round = record { once = once; round = round; reached = reached; gives = refl; takes = refl; advances = refl }
