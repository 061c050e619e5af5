-- Texts that have a part.
use Rattle.std.proofs.Common.{◌≡◌, ℕ, zero, suc, ◌+◌, ◌<◌, ◌≤◌, inl, inr, List, [], ◌++◌, flat_map, sym, ap, subst, ◌∙◌, arith}
use Rattle.std.specs.List.{range_with_len}
use Rattle.std.proofs.lemmas.Bool.{cases_lt}
use Rattle.std.proofs.lemmas.List.{append_assoc, append-nil}
use Rattle.plan_picture.specs.PictureLaws.{Has}

pub whole : (t : List ℕ) → Has t t
whole t = record { before = []; after = []; is = sym (append-nil t) }

pub in_first : (a b p : List ℕ) → Has a p → Has (a ++ b) p
in_first a b p h = record {
  before = h.before;
  after = h.after ++ b;
  is = ap (λ l. l ++ b) h.is ∙ append_assoc h.before (p ++ h.after) b ∙ ap (λ l. h.before ++ l) (append_assoc p h.after b);
}

pub in_second : (a b p : List ℕ) → Has b p → Has (a ++ b) p
in_second a b p h = record {
  before = a ++ h.before;
  after = h.after;
  is = ap (λ l. a ++ l) h.is ∙ sym (append_assoc a h.before (p ++ h.after));
}

in_each_from : (f : ℕ → List ℕ) (p : List ℕ) (k a n : ℕ) → a ≤ k → k < a + n → Has (f k) p
    → Has (flat_map f (range_with_len a n)) p
in_each_from f p k a zero low high h = absurd (omega arith)
in_each_from f p k a (suc n) low high h =
    elim (cases_lt a k) [
      | inl l ↦ in_second (f a) (flat_map f (range_with_len (a + 1) n)) p
          (in_each_from f p k (a + 1) n (omega arith) (omega arith) h)
      | inr l ↦ let same : k ≡ a = omega arith in
          in_first (f a) (flat_map f (range_with_len (a + 1) n)) p (subst (λ j. Has (f j) p) same h)
    ]

pub in_each : (f : ℕ → List ℕ) (p : List ℕ) (k n : ℕ) → k < n → Has (f k) p
    → Has (flat_map f (range_with_len 0 n)) p
in_each f p k n below h = in_each_from f p k 0 n (omega arith) (omega arith) h
