-- Texts of plain bytes.
use Rattle.std.proofs.Common.{◌≡◌, ◌<◌, ◌≤◌, ◌/◌, ◌%◌, ◌==◌, ◌∙◌, ℕ, zero, suc, true, false, List, [], ◌∷◌, ◌++◌, cond, refl, arith}
use Rattle.std.specs.Fmt.{decimal, digits, digits_onto, digit_glyph}
use Rattle.std.proofs.lemmas.List.Folds.{list_all-append}
use Rattle.film_app.specs.Plain.{are_plain, is_plain}

pub both : (a b : List ℕ) → are_plain a ≡ true → are_plain b ≡ true → are_plain (a ++ b) ≡ true
both a b p q = list_all-append is_plain a b ∙ (rw (p, q) refl)

pub one_more : (x : ℕ) (b : List ℕ) → is_plain x ≡ true → are_plain b ≡ true → are_plain (x ∷ b) ≡ true
one_more x b p q = rw (p, q) refl

glyph-plain : (d : ℕ) → d < 16 → is_plain (digit_glyph false d) ≡ true
glyph-plain zero h = refl
glyph-plain (suc zero) h = refl
glyph-plain (suc (suc zero)) h = refl
glyph-plain (suc (suc (suc zero))) h = refl
glyph-plain (suc (suc (suc (suc zero)))) h = refl
glyph-plain (suc (suc (suc (suc (suc zero))))) h = refl
glyph-plain (suc (suc (suc (suc (suc (suc zero)))))) h = refl
glyph-plain (suc (suc (suc (suc (suc (suc (suc zero))))))) h = refl
glyph-plain (suc (suc (suc (suc (suc (suc (suc (suc zero)))))))) h = refl
glyph-plain (suc (suc (suc (suc (suc (suc (suc (suc (suc zero))))))))) h = refl
glyph-plain (suc (suc (suc (suc (suc (suc (suc (suc (suc (suc zero)))))))))) h = refl
glyph-plain (suc (suc (suc (suc (suc (suc (suc (suc (suc (suc (suc zero))))))))))) h = refl
glyph-plain (suc (suc (suc (suc (suc (suc (suc (suc (suc (suc (suc (suc zero)))))))))))) h = refl
glyph-plain (suc (suc (suc (suc (suc (suc (suc (suc (suc (suc (suc (suc (suc zero))))))))))))) h = refl
glyph-plain (suc (suc (suc (suc (suc (suc (suc (suc (suc (suc (suc (suc (suc (suc zero)))))))))))))) h = refl
glyph-plain (suc (suc (suc (suc (suc (suc (suc (suc (suc (suc (suc (suc (suc (suc (suc zero))))))))))))))) h = refl
glyph-plain (suc (suc (suc (suc (suc (suc (suc (suc (suc (suc (suc (suc (suc (suc (suc (suc d)))))))))))))))) h = absurd (omega arith)

onto-plain : (k base n : ℕ) (acc : List ℕ) → base ≤ 16 → 0 < base → are_plain acc ≡ true → are_plain (digits_onto k base false n acc) ≡ true
onto-plain zero base n acc small big p = p
onto-plain (suc k) base n acc small big p =
    let glyph : is_plain (digit_glyph false (n % base)) ≡ true = glyph-plain (n % base) (omega arith) in
    elim (n / base == 0) as (λ b. are_plain (cond b (digit_glyph false (n % base) ∷ acc) (digits_onto k base false (n / base) (digit_glyph false (n % base) ∷ acc))) ≡ true) [
      | true ↦ one_more (digit_glyph false (n % base)) acc glyph p
      | false ↦ onto-plain k base (n / base) (digit_glyph false (n % base) ∷ acc) small big (one_more (digit_glyph false (n % base)) acc glyph p)
    ]

pub decimal-plain : (n : ℕ) → are_plain (decimal n) ≡ true
unfolding digits
decimal-plain n = onto-plain 64 10 n [] (omega arith) (omega arith) refl

pub hex-plain : (n : ℕ) → are_plain (digits 16 false n) ≡ true
unfolding digits
hex-plain n = onto-plain 64 16 n [] (omega arith) (omega arith) refl
