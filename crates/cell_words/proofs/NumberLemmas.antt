-- The numbers of flags, as they are read from the matches.
use Rattle.std.proofs.Common.{◌≡◌, ◌<◌, ◌^◌, ◌∙◌, ℕ, List, Option, Some, None, Result, codes, sym, ap, subst, arith}
use Rattle.std.specs.Prelude.{Box, option_map}
use Rattle.std.specs.Box.{box_value}
use Rattle.std.specs.Str.{bytes_eq}
use Rattle.std.specs.Str.Parse.{ExplainsUnsignedError, HasUnsignedDigitsIfOk, ParsesUnsigned}
use Rattle.std.specs.declared.num.ParseIntError.{ParseIntError}
use Rattle.clap.specs.Words.{IsUnsignedIn, ReadsOne, Row, Text, found_of, one_text, rows_of}
use Rattle.clap.specs.Simple.{subcommand_rows}
use Rattle.clap.specs.declared.parser.matches.ArgMatches.TheViews.{out-SubCommand}
use Rattle.clap.specs.declared.parser.matches.SubCommand.{SubCommand}
use Rattle.clap.specs.declared.parser.matches.Found.{Found}
use Rattle.clap.proofs.WalkLemmas.{one_text-rows}
use Rattle.cell_words.specs.Words.{HasNumber, HasNumbers, max_tries, max_turns, number_in, number_of}

-- how a text is read as a number of 32 bits
abbrev Gives : Text → Result ℕ ParseIntError → Type 0
Gives t r = ParsesUnsigned 32 10 t r × ExplainsUnsignedError 10 t r × HasUnsignedDigitsIfOk t r

-- a text that spells a number within the bounds is read as that number
number_read : (most : ℕ) (t : Text) (r : Option ℕ) → ReadsOne Gives t r → most < 2 ^ 32 → IsUnsignedIn 1 most t → r ≡ Some (number_of t)
number_read most t (Some v) read small n = ap (λ k. Some k) read.0.1
number_read most t None read small n = absurd (read.1.0 (n.0, omega (arith, n.3)))

module _ {Z : Type 0} where
  -- the flags of the word `run`, if it was found
  pub flags_of_run : (sub : Option (Box SubCommand Z)) (word : Text) (rows : List Row) → Some word ≡ option_map (λ b. (out-SubCommand (box_value b)).name.now) sub → Some rows ≡ option_map (λ p. p.1) (subcommand_rows sub)
      → word ≡ codes "run" → HasNumbers (subcommand_rows sub) → HasNumber (codes "turns") max_turns rows × HasNumber (codes "tries") max_tries rows
  flags_of_run None word rows name is run n = cc
  flags_of_run (Some b) word rows name is run n =
      let met = out-SubCommand (box_value b) in
      let named : word ≡ met.name.now = cc in
      let same : rows ≡ rows_of (found_of met.matches) = cc in
      subst (λ rs. HasNumber (codes "turns") max_turns rs × HasNumber (codes "tries") max_tries rs) (sym same) (n (ap (λ w. bytes_eq w (codes "run")) (sym named ∙ run)))

module _ (r : Option ℕ) (f : Found) (flag : Text) (gives : (t : Text) → one_text f flag ≡ Some t → ReadsOne Gives t r) (most : ℕ) (small : most < 2 ^ 32) (has : HasNumber flag most (rows_of f)) where
  -- the flag is read as its number
  flag_read : r ≡ Some (number_of has.0)
  flag_read = number_read most has.0 r (gives has.0 (one_text-rows f flag ∙ has.1)) small has.2

  pub flag_is_read : r ≡ None → ⊥
  flag_is_read none = let some = flag_read in cc

  pub flag_number : (n : ℕ) → r ≡ Some n → n ≡ number_in flag (rows_of f)
  flag_number n is =
      let some = flag_read in
      let same : n ≡ number_of has.0 = cc in
      rw has.1 same
