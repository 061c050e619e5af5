-- The examples of `shell_is_met` and of `runs_are_met`, and what `runs_mean` says.
use Rattle.std.proofs.Common.{◌≡◌, ◌≤◌, ℕ, zero, suc, List, [], ◌∷◌, ◌++◌, length, take, refl, ap, arith}
use Rattle.std.proofs.lemmas.List.{length-append}
use Rattle.program_shell.specs.ShellExamples.{RunsAreMet, RunsMean, ShellIsMet}

abbrev last : List ℕ
last = 9 ∷ []

abbrev both : List ℕ
both = 1 ∷ 2 ∷ []

abbrev second : List ℕ
second = 2 ∷ []

-- no single byte was taken of two
few : (bytes : List ℕ) → length bytes ≤ 1 → 7 ∷ 8 ∷ 9 ∷ [] ≡ bytes ++ last → ⊥
few bytes h e = let all = ap length e in omega (arith, h, all, length-append bytes last)

-- no prefix has the second byte first
not_second : (n : ℕ) → second ≡ take n both → ⊥
not_second zero e = cc
not_second (suc n) e = cc

pub runs-met : RunsAreMet
runs-met = record {
  well = record { status = omega arith; well = λ is. refl; failed = λ is. cc; taken = (7 ∷ 8 ∷ [], omega arith, refl) };
  failed = record { status = omega arith; well = λ is. cc; failed = λ is. refl; taken = (7 ∷ 8 ∷ [], omega arith, refl) };
  no_status = λ k. let at = k.status in omega (arith, at);
  not_well = λ k. let is = k.well refl in cc;
  not_failed = λ k. let is = k.failed refl in cc;
  taken_too_much = λ k. few k.taken.0 k.taken.1 k.taken.2;
  printed = record { status = omega arith; well = λ is. refl; failed = λ is. cc };
  printed_in_part = record { status = omega arith; well = λ is. cc; failed = λ is. (1, refl) };
  no_status_of_print = λ k. let at = k.status in omega (arith, at);
  not_printed = λ k. let is = k.well refl in cc;
  printed_other = λ k. not_second (k.failed refl).0 (let is = (k.failed refl).1 in cc);
  printed_nothing = record { status = omega arith; well = λ is. cc; failed = λ is. (0, refl) };
  printed_without_old = λ k. let is = k.well refl in cc;
}

pub runs-mean : RunsMean
runs-mean = record {
  well = λ test fails most input rest old new ran. (ran.well refl, ran.taken);
  failed = λ test fails most bytes rest old new ran. (ran.failed refl, ran.taken);
  printed = λ old new text prints. prints.well refl;
  printed_in_part = λ old new text prints. prints.failed refl;
}

pub shell-met : ShellIsMet
shell-met = record {
  well = refl;
  failed = refl;
  refused = refl;
  memory = refl;
  two_words = refl;
  no_word = refl;
  version_line = refl;
  version_line_of_other = refl;
  texts = λ first second. refl;
  three_texts = λ first second third. refl;
  no_text = refl;
  version = refl;
  version_of_other = refl;
  version_by_letter = λ k. cc;
  version_and_more = λ k. cc;
  no_words = λ k. cc;
  name_alone = λ k. cc;
  other_word = λ k. cc;
  one_word_more = λ k. cc;
  help = refl;
  help_by_letter = refl;
  help_of_word = refl;
  help_of_later_word = refl;
  help_before_more = refl;
  help_of_other_word = refl;
  help_of_two_words = refl;
  help_before_words = refl;
  version_before_help = refl;
  version_alone = refl;
  version_of_word = refl;
  word = refl;
  nothing = refl;
  help_by_letter_before_more = refl;
  help_of_word_by_letter = refl;
  help_without_dashes = refl;
  help_by_one_dash = refl;
  help_by_great_letter = refl;
  help_by_two_dashes_and_letter = refl;
  longer_word_than_help = refl;
  help_as_name = refl;
  help_as_name_of_word = refl;
  help_of_third_word = refl;
  help_without_name = refl;
  no_word_of_three = refl;
  version_of_three = refl;
  help_without_own_words = refl;
  help_of_no_own_word = refl;
}
