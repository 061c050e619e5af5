-- A text of letters, and one with a character that is no letter. Every letter is ASCII.
use Rattle.cell_config.proofs.Names.{arith, zero, suc, subst, take, take_all, ◌+◌, ℕ, ◌≡◌, ◌<◌, ◌≤◌, ◌∙◌, ◌++◌, ◌∷◌, [], ◌&&◌, List, length, get_or, true, false, Option, Some, None, is_some, Ok, Err, sym, ap, ap₂, refl, lt-ltb, le-ltb, filter_map, list_all, cons_option, slice_index, chars, IsAscii, IsUtf8, chars-IsAscii, encodes-IsAscii, encodes-chars, take_more, filter_map-append, list_all-append, list_all_at, Turn, is_letter, max_letters, turn_of, turns_of, Range, Letter}
use Rattle.cell_config.proofs.Tests.{both_hold, not_true}

pub turns_of-long : (text : List ℕ) → max_letters < length (chars text) → turns_of text ≡ Err Range
turns_of-long text long = rw (lt-ltb max_letters (length (chars text)) long) refl

-- another letter
turns-more : (read : List ℕ) (letter : ℕ) (turn : Turn) → turn_of letter ≡ Some turn → filter_map turn_of (read ++ letter ∷ []) ≡ filter_map turn_of read ++ turn ∷ []
turns-more read letter turn e = filter_map-append turn_of read (letter ∷ []) ∙ ap (λ (o : Option Turn). filter_map turn_of read ++ cons_option o []) e

-- the turn of another letter is added to those before it
turns-pushed : (read : List ℕ) (letter : ℕ) (turn : Turn) (before after : List Turn) → turn_of letter ≡ Some turn → before ≡ filter_map turn_of read → after ≡ before ++ turn ∷ [] → after ≡ filter_map turn_of (read ++ letter ∷ [])
turns-pushed read letter turn before after e so_far pushed = pushed ∙ ap (λ items. items ++ turn ∷ []) so_far ∙ sym (turns-more read letter turn e)

letters-more : (read : List ℕ) (letter : ℕ) (turn : Turn) → turn_of letter ≡ Some turn → list_all is_letter read ≡ true → list_all is_letter (read ++ letter ∷ []) ≡ true
letters-more read letter turn e all = list_all-append is_letter read (letter ∷ []) ∙ ap₂ (λ a (o : Option Turn). a && (is_some o && true)) all e

letter_is_ascii : (letter : ℕ) → is_letter letter ≡ true → letter < 128
letter_is_ascii letter is = grind arith

letters_are_ascii : (read : List ℕ) → list_all is_letter read ≡ true → IsAscii read
letters_are_ascii [] all i = omega arith
letters_are_ascii (letter ∷ read) all zero = letter_is_ascii letter (both_hold (is_letter letter) (list_all is_letter read) all).0
letters_are_ascii (letter ∷ read) all (suc i) = letters_are_ascii read (both_hold (is_letter letter) (list_all is_letter read) all).1 i

-- a text whose characters are letters has a byte for each
bytes_are_letters : (text : List ℕ) → IsUtf8 text → list_all is_letter (chars text) ≡ true → chars text ≡ text
bytes_are_letters text utf8 all = sym (encodes-IsAscii (chars text) (letters_are_ascii (chars text) all)) ∙ encodes-chars text utf8

-- so a text that isn't ASCII has another character
pub turns_of-not_ascii : (text : List ℕ) → IsUtf8 text → length (chars text) ≤ max_letters → ¬ IsAscii text → turns_of text ≡ Err Letter
turns_of-not_ascii text utf8 short other =
    let none : list_all is_letter (chars text) ≡ false =
    not_true (list_all is_letter (chars text)) (λ all. other (subst IsAscii (bytes_are_letters text utf8 all) (letters_are_ascii (chars text) all)))
    in
    rw (le-ltb max_letters (length (chars text)) short, none) refl

-- a byte of an ASCII text that is no letter
pub turns_of-other_byte : (text : List ℕ) (i : ℕ) → IsAscii text → length (chars text) ≤ max_letters → i < length text → turn_of (slice_index text i) ≡ None → turns_of text ≡ Err Letter
turns_of-other_byte text i ascii short within none =
    let same = chars-IsAscii text ascii in
    let other : is_letter (get_or text i 0) ≡ false = ap (λ (o : Option Turn). is_some o) none in
    rw (le-ltb max_letters (length (chars text)) short, same, list_all_at is_letter text i 0 within other) refl

-- one letter more, and all letters, of an ASCII text
pub byte_pushed : (text : List ℕ) (i : ℕ) (turn : Turn) (before after : List Turn) → i < length text → turn_of (slice_index text i) ≡ Some turn → before ≡ filter_map turn_of (take i text) → after ≡ before ++ turn ∷ [] → after ≡ filter_map turn_of (take (i + 1) text)
byte_pushed text i turn before after within e so_far pushed = turns-pushed (take i text) (slice_index text i) turn before after e so_far pushed ∙ ap (filter_map turn_of) (sym (take_more text i 0 within))

pub byte_is_letter : (text : List ℕ) (i : ℕ) (turn : Turn) → i < length text → turn_of (slice_index text i) ≡ Some turn → list_all is_letter (take i text) ≡ true → list_all is_letter (take (i + 1) text) ≡ true
byte_is_letter text i turn within e all = ap (list_all is_letter) (take_more text i 0 within) ∙ letters-more (take i text) (slice_index text i) turn e all

pub turns_of-bytes : (text : List ℕ) (i : ℕ) (turns : List Turn) → IsAscii text → length (chars text) ≤ max_letters → length text ≤ i → list_all is_letter (take i text) ≡ true → turns ≡ filter_map turn_of (take i text) → turns_of text ≡ Ok turns
turns_of-bytes text i turns ascii short whole all are =
    let same = chars-IsAscii text ascii in
    let letters : list_all is_letter text ≡ true = ap (list_all is_letter) (sym (take_all i text whole)) ∙ all in
    let read : turns ≡ filter_map turn_of text = are ∙ ap (filter_map turn_of) (take_all i text whole) in
    rw (le-ltb max_letters (length (chars text)) short, same, letters, read) refl
