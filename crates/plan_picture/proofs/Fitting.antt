-- The law `texts_fit`.
use Rattle.std.proofs.Common.{◌≡◌, ◌≤◌, ◌*◌, ℕ, Bool, true, false, ◌&&◌, not, List, [], ◌∷◌, ◌++◌, refl, arith}
use Rattle.std.specs.List.{list_all}
use Rattle.plan_text.specs.Names.{Text}
use Rattle.plan_picture.specs.Elements.{escaped, escaped_byte, fitting}
use Rattle.plan_picture.specs.PictureLaws.{TextsFit, is_sharp}

fits : (most width count : ℕ) → 6 * (fitting most width count * count) ≤ 10 * width
fits most width count = grind arith

not-higher : (most width count : ℕ) → fitting most width count ≤ most
not-higher most width count = omega arith

byte-blunt : (b : ℕ) → list_all (λ byte. not (is_sharp byte)) (escaped_byte b) ≡ true
byte-blunt b = grind arith

both : (a b : Bool) → (a && b) ≡ true → (a ≡ true) × (b ≡ true)
both true b e = (refl, e)
both false b e = absurd (cc)

all-both : (f : ℕ → Bool) (xs ys : List ℕ) → list_all f xs ≡ true → list_all f ys ≡ true → list_all f (xs ++ ys) ≡ true
all-both f [] ys first second = second
all-both f (x ∷ xs) ys first second =
    let h = both (f x) (list_all f xs) first in
    rw (h.0, all-both f xs ys h.1 second) refl

no-end : (text : Text) → list_all (λ byte. not (is_sharp byte)) (escaped text) ≡ true
no-end [] = refl
no-end (b ∷ text) = all-both (λ byte. not (is_sharp byte)) (escaped_byte b) (escaped text) (byte-blunt b) (no-end text)

pub texts-fit : TextsFit
texts-fit = record { width = fits; most = not-higher; no_end = no-end }
