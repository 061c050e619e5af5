-- The limits of a configuration.
use Rattle.cell_config.proofs.Names.{◌≡◌, ◌≢◌, ◌<◌, ◌≤◌, ℕ, nat_le, nat_lt, Bool, true, false, cond, List, length, chars, Ok, Err, refl, arith, filter_map, list_all, nat_tests, Turn, LetterLimits, TextLimits, is_letter, turn_of, settings_of, Range, Letter}

above : (n most : ℕ) → most < n → nat_le n most ≡ false
above n most h = grind (arith, nat_tests)

within : (n most : ℕ) → n ≤ most → nat_le n most ≡ true
within n most h = grind (arith, nat_tests)

pub text_limits : (bytes : List ℕ) → TextLimits bytes
unfolding settings_of
text_limits bytes = record {
  too_long = λ h. rw (above (length bytes) 2097152 h) refl;
  not_utf8 = λ h u. rw (within (length bytes) 2097152 h, u) refl;
  not_toml = λ h u p. rw (within (length bytes) 2097152 h, u, p) refl;
  read = λ h u table p. rw (within (length bytes) 2097152 h, u, p) refl;
}

one_of : (b : Bool) (turns : List Turn) → cond b (Ok turns) (Err Letter) ≢ Err Range
one_of true turns e = cc
one_of false turns e = cc

pub letter_limits : (text : List ℕ) → LetterLimits text
letter_limits text = record {
  too_long = λ h. let is : nat_lt 1000000 (length (chars text)) ≡ true = grind (arith, nat_tests) in rw is refl;
  short = λ h. let is : nat_lt 1000000 (length (chars text)) ≡ false = grind (arith, nat_tests) in rw is (one_of (list_all is_letter (chars text)) (filter_map turn_of (chars text)));
}
