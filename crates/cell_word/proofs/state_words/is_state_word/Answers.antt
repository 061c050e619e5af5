use Rattle.cell_word.proofs.Names.{◌<◌, ◌^◌, ◌∙◌, ap, sym, arith, state_told, is_state_word}
use Rattle.cell_word.proofs.StateWordsHold.{sound_by_masks, masks_of_sound}
use Rattle.cell_word.proofs.state_words.is_state_word.Goals as goal

pub returns : goal.returns
returns c =
    let w = c.args.word in
    let fits : w < 2 ^ 64 = omega arith in (
      λ t. let told = sound_by_masks w fits (sym c.keeps_masks.ensures ∙ t) in (state_told w, told.0, told.1),
      λ p. c.keeps_masks.ensures ∙ ap is_state_word (sym p.2) ∙ masks_of_sound p.0 p.1,
    )
