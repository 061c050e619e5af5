use Rattle.std.proofs.Common.{ap, ap₂, refl, sym, codes, true, List, [], ◌∷◌, ◌≡◌, ◌∙◌, subst, inl, inr, IfErr, rules}
use Rattle.clap.specs.Words.{App, HasKind, HasMatchesOf, Text, fault_of, is_simple, is_simple_and_free, kind_of, subcommand_of, subcommand_rows_of, takes}
use Rattle.clap.specs.declared.parser.matches.ArgMatches.{ArgMatches}
use Rattle.clap.specs.declared.error.kind.ErrorKind.TheVariants as ErrorKind
use Rattle.clap.proofs.OnLiterals.{clap_on_literals}
use Rattle.cell_words.specs.Words.{AreBare, HasNumbers, mode_named, mode_of, program, texts_of}
use Rattle.cell_words.specs.declared.words.Mode.TheVariants.{Run}
use Rattle.cell_words.proofs.Accepted.{clean_alike, has_kind}
use Rattle.cell_words.proofs.FlagLemmas.{run_has_numbers}
use Rattle.cell_words.proofs.words.read_words.Goals as goal

program_is_free : is_simple_and_free program ≡ true
unfolding clap_on_literals
program_is_free = refl

program_is_simple : is_simple program ≡ true
unfolding clap_on_literals
program_is_simple = refl

bare_are_taken : (words : List Text) → AreBare words → takes program words ≡ true
unfolding clap_on_literals
bare_are_taken words (inl (name, inl e)) = rw e refl
bare_are_taken words (inl (name, inr e)) = rw e refl
bare_are_taken words (inr (inl (name, e))) = rw e refl
bare_are_taken words (inr (inr (name, e))) = rw e refl

run_by_default : (name : Text) → mode_of (name ∷ codes "run" ∷ []) ≡ Run 1000 8
unfolding clap_on_literals
run_by_default name = refl

-- the word that was found, with its flags, depends on the words alone
met_alike : (a : App) (words : List Text) (m : ArgMatches) → a ≡ program → HasMatchesOf a words m → subcommand_rows_of m ≡ subcommand_of program words
met_alike a words m same h = (subst (λ x. HasMatchesOf x words m) same h program_is_simple).1

pub mode_of-requires : goal.mode_of-requires
mode_of-requires c =
    let clean = clean_alike _ _ _ c.in_ok-command.ensures (c.in-Ok.ensures.kinds (ap is_simple_and_free c.in_ok-command.ensures ∙ program_is_free)) in
    subst HasNumbers (sym (met_alike _ _ _ c.in_ok-command.ensures c.in-Ok.ensures.matches)) (run_has_numbers (texts_of c.args.words.now) clean)

pub returns-in-Ok-clause-taken : goal.returns-in-Ok-clause-taken
returns-in-Ok-clause-taken c = clean_alike _ _ _ c.in_ok-command.ensures (c.in-Ok.ensures.kinds (ap is_simple_and_free c.in_ok-command.ensures ∙ program_is_free))

pub returns-in-Ok-clause-defaults : goal.returns-in-Ok-clause-defaults
returns-in-Ok-clause-defaults c = λ name e. c.mode_of.ensures.mode ∙ (ap mode_named (met_alike _ _ _ c.in_ok-command.ensures c.in-Ok.ensures.matches) ∙ (ap mode_of e ∙ run_by_default name))

pub returns-in-Err-clause-bare : goal.returns-in-Err-clause-bare
returns-in-Err-clause-bare c = λ k. c.in-Err.ensures.passes (ap₂ takes c.in_ok-command.ensures refl ∙ bare_are_taken (texts_of c.args.words.now) k)

pub returns-in-Ok-clause-mode : goal.returns-in-Ok-clause-mode
returns-in-Ok-clause-mode c = c.mode_of.ensures.mode ∙ ap mode_named (met_alike _ _ _ c.in_ok-command.ensures c.in-Ok.ensures.matches)

pub returns-in-Err-clause-refused : goal.returns-in-Err-clause-refused
returns-in-Err-clause-refused c = subst (λ a. HasKind (fault_of a (texts_of c.args.words.now)) c.in-Err.error) c.in_ok-command.ensures (c.in-Err.ensures.kinds (ap is_simple_and_free c.in_ok-command.ensures ∙ program_is_free))

-- without room for the command the error is out of memory
no_room : (c : goal.After-from_residual) → IfErr c.from_residual.result (λ e. kind_of e ≡ ErrorKind.OutOfMemory)
no_room c = search rules

pub returns-in_err-command-clause-refused : goal.returns-in_err-command-clause-refused
returns-in_err-command-clause-refused c = has_kind c.from_residual.result (fault_of program (texts_of c.args.words.now)) (no_room c)
