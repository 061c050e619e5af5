-- What words ask for.
use Rattle.std.proofs.Common.{inl, inr, List, [], ◌∷◌, codes, refl, sym, subst}
use Rattle.clap.specs.Words.{Text}
use Rattle.clap.proofs.OnLiterals.{clap_on_literals}
use Rattle.cell_words.specs.Words.{AskForReplay}
use Rattle.cell_words.specs.declared.words.Mode.TheVariants.{Replay, Sim}
use Rattle.cell_app.specs.Asked.{AskFor, WordsAreServed}

by_name : (name : Text) → AskFor Replay (name ∷ [])
unfolding clap_on_literals
by_name name = (refl, refl)

by_replay : (name : Text) → AskFor Replay (name ∷ codes "replay" ∷ [])
unfolding clap_on_literals
by_replay name = (refl, refl)

by_sim : (name : Text) → AskFor Sim (name ∷ codes "sim" ∷ [])
unfolding clap_on_literals
by_sim name = (refl, refl)

for_replay : (words : List Text) → AskForReplay words → AskFor Replay words
for_replay words (name, inl e) = subst (AskFor Replay) (sym e) (by_name name)
for_replay words (name, inr e) = subst (AskFor Replay) (sym e) (by_replay name)

pub served : WordsAreServed
unfolding clap_on_literals
served =
    record {
      replay = for_replay;
      sim = λ words k. subst (AskFor Sim) (sym k.1) (by_sim k.0);
      nothing_more = (refl, refl);
      replay_alone = (refl, refl);
      sim_as_replay = λ k. let e = k.1 in cc;
      replay_as_sim = λ k. let e = k.1 in cc;
      other_word = λ k. let e = k.0 in cc;
      sim_alone = (refl, refl);
      name_alone = (refl, refl);
      replay_word = (refl, refl);
      sim_word = (refl, refl);
      run_word = (refl, refl);
      refused_number = λ k. let e = k.0 in cc;
    }
