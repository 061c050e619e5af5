-- What the example words ask for.
use Rattle.std.proofs.Common.{rules, arith, inl, inr, refl, ap, ⊎_elim, codes, [], ◌∷◌}
use Rattle.clap.proofs.OnLiterals.{clap_on_literals}
use Rattle.cell_words.specs.Words.{AreBare}
use Rattle.cell_words.specs.declared.words.RunFlags.{RunFlags}
use Rattle.cell_words.specs.WordExamples.{FlagsAreMet, ModesAreMet, WordsAreMet}

pub words_are_met : WordsAreMet
unfolding clap_on_literals
words_are_met = search rules

no_bare_words : AreBare [] → ⊥
no_bare_words (inl (name, inl e)) = cc
no_bare_words (inl (name, inr e)) = cc
no_bare_words (inr (inl (name, e))) = cc
no_bare_words (inr (inr (name, e))) = cc

no_bare_run : AreBare (codes "x" ∷ codes "run" ∷ codes "--turns=3" ∷ []) → ⊥
no_bare_run (inl (name, inl e)) = cc
no_bare_run (inl (name, inr e)) = cc
no_bare_run (inr (inl (name, e))) = cc
no_bare_run (inr (inr (name, e))) = cc

pub flags_are_met : FlagsAreMet
unfolding clap_on_literals
flags_are_met = record {
  nothing = (refl, refl);
  no_name = (refl, refl);
  both = (refl, refl);
  turns = (refl, refl);
  tries = (refl, refl);
  other_turns = λ k. let e = ap (λ (f : RunFlags). f.turns) k.1 in omega (arith, e);
  other_tries = λ k. let e = ap (λ (f : RunFlags). f.tries) k.1 in omega (arith, e);
  no_turn = λ k. cc;
  turn_more = λ k. cc;
  no_try = λ k. cc;
  try_more = λ k. cc;
  no_number = λ k. cc;
  other_flag = λ k. cc;
  word = λ k. cc;
  version = λ k. cc;
  help = search rules;
  help_by_letter = search rules;
  help_of_flag = search rules;
  help_after_word = search rules;
  no_help = search rules;
}

pub modes_are_met : ModesAreMet
unfolding clap_on_literals
modes_are_met = record {
  run = (refl, refl);
  other_turns = λ k. let e = k.1 in cc;
  other_tries = λ k. let e = k.1 in cc;
  refused_run = λ k. let e = k.0 in cc;
  name_alone = (codes "x", inl refl);
  replay = (codes "x", inr refl);
  sim = (codes "x", refl);
  no_name = λ k. ⊎_elim (λ e. cc) (λ e. cc) k.1;
  sim_as_replay = λ k. ⊎_elim (λ e. cc) (λ e. cc) k.1;
  replay_as_sim = λ k. let e = k.1 in cc;
  name_as_sim = λ k. let e = k.1 in cc;
  sim_and_more = λ k. let e = k.1 in cc;
  replay_and_more = λ k. ⊎_elim (λ e. cc) (λ e. cc) k.1;
  no_bare_words = no_bare_words;
  no_bare_run = no_bare_run;
  bare_replay = inl (codes "x", inr refl);
  named_none = refl;
  named_sim = refl;
  named_replay = refl;
  no_flag = refl;
  spelled = refl;
  of_replay = tt;
  of_sim = tt;
  bare_run = inr (inr (codes "x", refl));
  bare_sim = inr (inl (codes "x", refl));
  bare_name = inl (codes "x", inl refl);
  fewest = (omega arith, omega arith, omega arith, omega arith);
  most = (omega arith, omega arith, omega arith, omega arith);
  no_turn = λ k. let at = k.0 in omega (arith, at);
  no_try = λ k. let at = k.2 in omega (arith, at);
  turn_more = λ k. let at = k.1 in omega (arith, at);
  try_more = λ k. let at = k.3 in omega (arith, at);
  number = λ flag most rows k. k;
  is_number = λ flag text most rows one n. (text, one, n);
  no_word = tt;
  other_word = λ rows e. cc;
  have_numbers = λ rows k. k;
  numbers = λ rows k. k refl;
}
