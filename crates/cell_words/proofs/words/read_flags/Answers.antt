use Rattle.std.proofs.Common.{ap, refl, sym, true, List, ◌≡◌, ◌∙◌, subst, IfErr, rules}
use Rattle.clap.specs.Words.{App, HasKind, HasMatchesOf, Text, fault_of, found_of, is_simple, is_simple_and_free, kind_of, rows_of}
use Rattle.clap.specs.Simple.{matches_of}
use Rattle.clap.specs.declared.parser.matches.ArgMatches.{ArgMatches}
use Rattle.clap.specs.declared.error.kind.ErrorKind.TheVariants as ErrorKind
use Rattle.clap.proofs.OnLiterals.{clap_on_literals}
use Rattle.cell_words.specs.Words.{HaveNumbers, flags_in, run_command, texts_of}
use Rattle.cell_words.proofs.Accepted.{clean_alike, has_kind}
use Rattle.cell_words.proofs.FlagLemmas.{flags_have_numbers}
use Rattle.cell_words.proofs.words.read_flags.Goals as goal

run_is_free : is_simple_and_free run_command ≡ true
unfolding clap_on_literals
run_is_free = refl

run_is_simple : is_simple run_command ≡ true
unfolding clap_on_literals
run_is_simple = refl

-- the flags that were found depend on the words alone
met_alike : (a : App) (words : List Text) (m : ArgMatches) → a ≡ run_command → HasMatchesOf a words m → rows_of (found_of m) ≡ matches_of run_command words
met_alike a words m same h = (subst (λ x. HasMatchesOf x words m) same h run_is_simple).0

pub flags_in-requires : goal.flags_in-requires
flags_in-requires c =
    let clean = clean_alike _ _ _ c.in_ok-command.ensures.app (c.in-Ok.ensures.kinds (ap is_simple_and_free c.in_ok-command.ensures.app ∙ run_is_free)) in
    subst HaveNumbers (sym (met_alike _ _ _ c.in_ok-command.ensures.app c.in-Ok.ensures.matches)) (flags_have_numbers (texts_of c.args.words.now) clean)

pub returns-in-Ok-clause-taken : goal.returns-in-Ok-clause-taken
returns-in-Ok-clause-taken c = clean_alike _ _ _ c.in_ok-command.ensures.app (c.in-Ok.ensures.kinds (ap is_simple_and_free c.in_ok-command.ensures.app ∙ run_is_free))

pub returns-in-Ok-clause-flags : goal.returns-in-Ok-clause-flags
returns-in-Ok-clause-flags c = c.flags_in.ensures.flags ∙ ap flags_in (met_alike _ _ _ c.in_ok-command.ensures.app c.in-Ok.ensures.matches)

pub returns-in-Err-clause-refused : goal.returns-in-Err-clause-refused
returns-in-Err-clause-refused c = subst (λ a. HasKind (fault_of a (texts_of c.args.words.now)) c.in-Err.error) c.in_ok-command.ensures.app (c.in-Err.ensures.kinds (ap is_simple_and_free c.in_ok-command.ensures.app ∙ run_is_free))

-- without room for the command the error is out of memory
no_room : (c : goal.After-from_residual) → IfErr c.from_residual.result (λ e. kind_of e ≡ ErrorKind.OutOfMemory)
no_room c = search rules

pub returns-in_err-command-clause-refused : goal.returns-in_err-command-clause-refused
returns-in_err-command-clause-refused c = has_kind c.from_residual.result (fault_of run_command (texts_of c.args.words.now)) (no_room c)
