-- The examples of bytes that are taken or written.
use Rattle.std.proofs.Common.{◌≡◌, ℕ, zero, suc, ◌≤◌, List, [], ◌∷◌, ◌++◌, length, take, refl, ap, arith}
use Rattle.std.proofs.lemmas.List.{length-append, length-take}
use Rattle.text_io.specs.ByteExamples.{BytesAreMet}

abbrev two : List ℕ
two = 1 ∷ 2 ∷ []

abbrev second : List ℕ
second = 2 ∷ []

-- no prefix of two bytes has a third byte, or only the second
no_third : (n : ℕ) → take n two ≡ 1 ∷ 2 ∷ 3 ∷ [] → ⊥
no_third n e = let all = ap length e in omega (arith, all, length-take n two)

not_second : (n : ℕ) → second ≡ take n two → ⊥
not_second zero e = cc
not_second (suc n) e = cc

few : (bytes : List ℕ) → length bytes ≤ 2 → 1 ∷ 2 ∷ 3 ∷ [] ≡ bytes ++ [] → ⊥
few bytes h e = let all = ap length e in omega (arith, h, all, length-append bytes [])

one_by_none : (bytes : List ℕ) → length bytes ≤ 0 → 1 ∷ 2 ∷ 3 ∷ [] ≡ bytes ++ 2 ∷ 3 ∷ [] → ⊥
one_by_none [] h e = cc
one_by_none (byte ∷ bytes) h e = omega (arith, h)

not_kept : (bytes : List ℕ) → 1 ∷ 2 ∷ 3 ∷ [] ≡ bytes ++ 1 ∷ [] → ⊥
not_kept [] e = cc
not_kept (a ∷ []) e = cc
not_kept (a ∷ b ∷ []) e = cc
not_kept (a ∷ b ∷ c ∷ rest) e = let all = ap length e in omega (arith, all, length-append rest (1 ∷ []))

pub bytes_are_met : BytesAreMet
bytes_are_met = record {
  none_taken = ([], omega arith, refl);
  most_taken = (1 ∷ 2 ∷ [], omega arith, refl);
  fewer_taken = (1 ∷ [], omega arith, refl);
  all_taken = (1 ∷ 2 ∷ 3 ∷ [], omega arith, refl);
  none_to_take = ([], omega arith, refl);
  one_by_none = λ k. one_by_none k.0 k.1 k.2;
  one_more = λ k. few k.0 k.1 k.2;
  not_the_first = λ k. not_kept k.0 k.2;
  none_known = λ k. k.2;
  nothing_written = (0, refl);
  part_written = (1, refl);
  all_written = (2, refl);
  first_left_out = λ k. not_second k.0 (cc);
  old_lost = λ k. let e = k.1 in cc;
  more_written = λ k. no_third k.0 (cc);
  nothing_known = λ k. k.1;
  first_of_all = (2, refl);
  no_text = (0, refl);
  written_before = λ k. let e = k.1 in cc;
}
