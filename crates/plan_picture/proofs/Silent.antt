-- Texts in which no line of a class begins.
use Rattle.std.proofs.Common.{◌≡◌, ℕ, zero, suc, ◌/◌, ◌%◌, Bool, true, false, ◌&&◌, not, List, [], ◌∷◌, ◌++◌, codes, flat_map}
use Rattle.std.proofs.Common.{refl, ap, ◌∙◌, if◌then◌else◌, ◌==◌, nat_eq, arith, length}
use Rattle.std.specs.List.{list_all}
use Rattle.std.specs.Fmt.{decimal, digits, digits_onto, digit_glyph}
use Rattle.std.proofs.lemmas.List.{append_assoc}
use Rattle.plan_text.specs.Names.{Text}
use Rattle.plan_picture.specs.PictureLaws.{begins_with, is_sharp, times_in}
use Rattle.plan_picture.specs.Elements.{box, circle, closing, escaped, escaped_byte, fitting, label, level, opening, slanted, slope, upright}

-- how a line of a class begins
abbrev pub line_of : Text → Text
line_of class = codes "<line class=\"" ++ class

-- a text is silent of a class if no line of the class begins in it, whatever follows
abbrev pub Silent : Text → Text → Type 0
Silent class a = (t : Text) → times_in (a ++ t) (line_of class) ≡ times_in t (line_of class)

pub silent-append : (class a b : Text) → Silent class a → Silent class b → Silent class (a ++ b)
silent-append class a b first second t =
    ap (λ l. times_in l (line_of class)) (append_assoc a b t) ∙ first (b ++ t) ∙ second t

pub silent-if : (class : Text) (test : Bool) (a b : Text) → Silent class a → Silent class b
    → Silent class (if test then a else b)
silent-if class true a b first second = first
silent-if class false a b first second = second

pub silent-each : (class : Text) (f : ℕ → Text) (ks : List ℕ) → ((k : ℕ) → Silent class (f k)) → Silent class (flat_map f ks)
silent-each class f [] each t = refl
silent-each class f (k ∷ ks) each t =
    silent-append class (f k) (flat_map f ks) (each k) (silent-each class f ks each) t

-- a text without sharp bytes is silent
abbrev is_blunt : Text → Bool
is_blunt text = list_all (λ byte. not (is_sharp byte)) text

both : (a b : Bool) → (a && b) ≡ true → (a ≡ true) × (b ≡ true)
both true b e = (refl, e)
both false b e = absurd (cc)

not-less : (b : ℕ) → not (is_sharp b) ≡ true → nat_eq b 60 ≡ false
not-less b e = grind arith

pub silent-blunt : (class a : Text) → is_blunt a ≡ true → Silent class a
silent-blunt class [] blunt t = refl
silent-blunt class (b ∷ a) blunt t =
    let h = both (not (is_sharp b)) (is_blunt a) blunt in
    rw (not-less b h.0) (silent-blunt class a h.1 t)

-- decimals are blunt
if-blunt : (test : Bool) (a b : Text) → is_blunt a ≡ true → is_blunt b ≡ true → is_blunt (if test then a else b) ≡ true
if-blunt true a b first second = first
if-blunt false a b first second = second

glyph-blunt : (d : ℕ) → not (is_sharp (digit_glyph false d)) ≡ true
glyph-blunt d = grind arith

digits-blunt : (k n : ℕ) (acc : Text) → is_blunt acc ≡ true → is_blunt (digits_onto k 10 false n acc) ≡ true
digits-blunt zero n acc blunt = blunt
digits-blunt (suc k) n acc blunt =
    let more : is_blunt (digit_glyph false (n % 10) ∷ acc) ≡ true = rw (glyph-blunt (n % 10), blunt) refl in
    if-blunt (n / 10 == 0) (digit_glyph false (n % 10) ∷ acc)
    (digits_onto k 10 false (n / 10) (digit_glyph false (n % 10) ∷ acc)) more
    (digits-blunt k (n / 10) (digit_glyph false (n % 10) ∷ acc) more)

pub silent-decimal : (class : Text) (n : ℕ) → Silent class (decimal n)
unfolding digits
silent-decimal class n = silent-blunt class (decimal n) (digits-blunt 64 n [] refl)

-- ---- elements

byte-blunt : (b : ℕ) → is_blunt (escaped_byte b) ≡ true
byte-blunt b = grind arith

silent-content : (class content : Text) → Silent class (escaped content)
silent-content class [] t = refl
silent-content class (b ∷ content) t =
    silent-append class (escaped_byte b) (escaped content) (silent-blunt class (escaped_byte b) (byte-blunt b))
    (silent-content class content) t

-- a number, and what follows
pub number : (class : Text) (n : ℕ) (rest : Text) → Silent class rest → Silent class (decimal n ++ rest)
number class n rest more = silent-append class (decimal n) rest (silent-decimal class n) more

pub silent-box : (class of : Text) (x y width height : ℕ) → Silent class of → Silent class (box of x y width height)
silent-box class of x y width height quiet =
    silent-append class of _ quiet
    (number class x _ (number class y _ (number class width _ (number class height _ (λ t. refl)))))

pub silent-circle : (class of : Text) (x y radius : ℕ) → Silent class of → Silent class (circle of x y radius)
silent-circle class of x y radius quiet =
    silent-append class of _ quiet (number class x _ (number class y _ (number class radius _ (λ t. refl))))

silent-closing : (class content : Text) → Silent class (closing content)
silent-closing class content = silent-append class (escaped content) _ (silent-content class content) (λ t. refl)

silent-opening : (class of : Text) (x y size : ℕ) → Silent class of → Silent class (opening of x y size)
silent-opening class of x y size quiet =
    silent-append class of _ quiet (number class x _ (number class y _ (number class size _ (λ t. refl))))

pub silent-slope : (class of : Text) (x y size : ℕ) → Silent class of → Silent class (slope of x y size)
silent-slope class of x y size quiet =
    silent-append class of _ quiet (number class x _ (number class y _ (number class size _ (λ t. refl))))

pub silent-label : (class of : Text) (x y most width : ℕ) (content : Text) → Silent class of
    → Silent class (label of x y most width content)
silent-label class of x y most width content quiet =
    silent-append class (opening of x y (fitting most width (length content))) (closing content)
    (silent-opening class of x y (fitting most width (length content)) quiet) (silent-closing class content)

pub silent-slanted : (class of : Text) (x y most width : ℕ) (content : Text) → Silent class of
    → Silent class (slanted of x y most width content)
silent-slanted class of x y most width content quiet =
    silent-append class (slope of x y (fitting most width (length content))) (closing content)
    (silent-slope class of x y (fitting most width (length content)) quiet) (silent-closing class content)

-- ---- lines: of another class, and of the class

-- another class begins otherwise
abbrev pub IsOther : Text → Text → Type 0
IsOther class of = (t : Text) → begins_with (of ++ t) class ≡ false

line-other : (class of rest : Text) → IsOther class of → Silent class (of ++ rest)
    → Silent class (codes "<line class=\"" ++ (of ++ rest))
line-other class of rest other more t =
    rw (ap (λ l. begins_with l class) (append_assoc of rest t) ∙ other (rest ++ t)) (more t)

pub silent-upright : (class of : Text) (x from to : ℕ) → Silent class of → IsOther class of
    → Silent class (upright of x from to)
silent-upright class of x from to quiet other =
    line-other class of _ other
    (silent-append class of _ quiet
    (number class x _ (number class from _ (number class x _ (number class to _ (λ t. refl))))))

pub silent-level : (class of : Text) (y from to : ℕ) → Silent class of → IsOther class of
    → Silent class (level of y from to)
silent-level class of y from to quiet other =
    line-other class of _ other
    (silent-append class of _ quiet
    (number class from _ (number class y _ (number class to _ (number class y _ (λ t. refl))))))

-- an arrow is one line of its class
abbrev pub IsOne : Text → Text → Type 0
IsOne class a = (t : Text) → times_in (a ++ t) (line_of class) ≡ suc (times_in t (line_of class))

pub one-source : (y from to : ℕ) → IsOne (codes "source\"") (level (codes "source") y from to)
one-source y from to t =
    let class = codes "source\"" in
    ap suc (number class from _ (number class y _ (number class to _ (number class y _ (λ t. refl)))) t)

pub one-sink : (y from to : ℕ) → IsOne (codes "sink\"") (level (codes "sink") y from to)
one-sink y from to t =
    let class = codes "sink\"" in
    ap suc (number class from _ (number class y _ (number class to _ (number class y _ (λ t. refl)))) t)
