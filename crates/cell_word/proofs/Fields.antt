-- Fields side by side read back from their word.
use Rattle.cell_word.proofs.Names.{◌≡◌, ℕ, ◌+◌, ◌*◌, ◌/◌, ◌%◌, ◌<◌, ◌^◌, List, [], ◌∷◌, sym, ap, ◌∙◌, subst, arith, All, add-mul, add_assoc, mul_assoc, mul_comm, pow-add, mul-add-lt, shr_high, shr-shr, mod_low, sum_by-cons, All-nil, All-cons, All-head, All-tail, Field, term_of, word_of, bits_of, Fits, SideBySide, ReadsBack}

-- the fields as one number, from their lowest bit on
abbrev pub stacked : List Field → ℕ
stacked [] = 0
stacked (f ∷ fs) = stacked fs * 2 ^ f.width + f.value

pub arranged : (s w t v : ℕ) → v * t + s * (t * w) ≡ (s * w + v) * t
arranged s w t v =
    let over : (s * w + v) * t ≡ s * w * t + v * t = add-mul (s * w) v t in
    let assoc : s * w * t ≡ s * (w * t) = mul_assoc s w t in
    let turned : s * (t * w) ≡ s * (w * t) = ap (λ n. s * n) (mul_comm t w) in
    omega arith

pub word-cons : (start : ℕ) (f : Field) (fs : List Field) → f.lowest ≡ start → word_of (f ∷ fs) ≡ f.value * 2 ^ start + word_of fs
word-cons start f fs e = sum_by-cons term_of f fs ∙ ap (λ n. f.value * 2 ^ n + word_of fs) e

-- what the fields add to a word is that number, at their lowest bit
pub word-stacked : (start end : ℕ) (fs : List Field) → SideBySide start end fs → word_of fs ≡ stacked fs * 2 ^ start
word-stacked start end [] side = omega arith
word-stacked start end (f ∷ fs) side =
    let upper : word_of fs ≡ stacked fs * 2 ^ (start + f.width) = word-stacked (start + f.width) end fs side.1 in
    word-cons start f fs side.0
    ∙ ap (λ n. f.value * 2 ^ start + n) (upper ∙ ap (λ n. stacked fs * n) (pow-add 2 start f.width))
    ∙ arranged (stacked fs) (2 ^ f.width) (2 ^ start) f.value

-- a field above lower bits keeps the sum below the next field
pub next_bound : (low v start width : ℕ) → low < 2 ^ start → v < 2 ^ width → low + v * 2 ^ start < 2 ^ (start + width)
next_bound low v start width below fits =
    let power : 2 ^ (start + width) ≡ 2 ^ start * 2 ^ width = pow-add 2 start width in
    let lower : v * 2 ^ start + low < 2 ^ start * 2 ^ width = mul-add-lt v (2 ^ start) low (2 ^ width) fits below in
    rw power (omega (arith, lower))

same_word : (low start : ℕ) (f : Field) (fs : List Field) → f.lowest ≡ start → low + f.value * 2 ^ start + word_of fs ≡ low + word_of (f ∷ fs)
same_word low start f fs e = add_assoc low (f.value * 2 ^ start) (word_of fs) ∙ ap (λ n. low + n) (sym (word-cons start f fs e))

-- above lower bits the fields end where the last one does
pub word_below : (start end low : ℕ) (fs : List Field) → SideBySide start end fs → All Fits fs → low < 2 ^ start → low + word_of fs < 2 ^ end
word_below start end low [] side fits below = subst (λ n. low + 0 < 2 ^ n) side (omega arith)
word_below start end low (f ∷ fs) side fits below =
    let more : low + f.value * 2 ^ start < 2 ^ (start + f.width) = next_bound low f.value start f.width below (All-head Fits f fs fits) in
    let upper = word_below (start + f.width) end (low + f.value * 2 ^ start) fs side.1 (All-tail Fits f fs fits) more in
    subst (λ w. w < 2 ^ end) (same_word low start f fs side.0) upper

-- each field reads back from a number that has them from their lowest bit on
pub all_back : (x start end : ℕ) (fs : List Field) → SideBySide start end fs → All Fits fs → x / 2 ^ start ≡ stacked fs → All (ReadsBack x) fs
all_back x start end [] side fits e = All-nil (ReadsBack x)
all_back x start end (f ∷ fs) side fits e =
    let here = All-head Fits f fs fits in
    let first : ReadsBack x f = ap (λ n. bits_of x n f.width) side.0 ∙ ap (λ n. n % 2 ^ f.width) e ∙ mod_low (stacked fs) f.width f.value here in
    let rest : x / 2 ^ (start + f.width) ≡ stacked fs = sym (shr-shr x start f.width) ∙ ap (λ n. n / 2 ^ f.width) e ∙ shr_high (stacked fs) f.width f.value here in
    All-cons (ReadsBack x) f fs first (all_back x (start + f.width) end fs side.1 (All-tail Fits f fs fits) rest)

-- fields that begin at bit 0
pub whole_word_below : (end : ℕ) (fs : List Field) → SideBySide 0 end fs → All Fits fs → word_of fs < 2 ^ end
whole_word_below end fs side fits = let below = word_below 0 end 0 fs side fits (omega arith) in omega arith

pub whole_word_back : (end : ℕ) (fs : List Field) → SideBySide 0 end fs → All Fits fs → All (ReadsBack (word_of fs)) fs
whole_word_back end fs side fits =
    let whole : word_of fs ≡ stacked fs * 2 ^ 0 = word-stacked 0 end fs side in
    all_back (word_of fs) 0 end fs side fits (omega (arith, whole))
