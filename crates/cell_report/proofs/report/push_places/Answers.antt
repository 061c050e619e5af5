use Rattle.cell_report.proofs.Names.{◌+◌, ◌++◌, map, drop, refl, sym, ap, ◌∙◌, append_assoc, concat, drop_more, Place, flag_word, all_places, is_full}
use Rattle.cell_report.proofs.report.push_places.Goals as goal

pub places-preserved : goal.places-preserved
places-preserved c =
    let word = λ (p : Place). flag_word (is_full c.args.state.now p) in
    let left = concat (map word (drop (c.places.place-index + 1) all_places)) in (
      refl,
      ap (λ page. page ++ left) (c.in_ok-write_str.ensures.ok refl ∙ ap (λ w. c.places.page ++ w) (c.flag_word_of.ensures ∙ ap flag_word c.is_full.ensures))
          ∙ append_assoc c.places.page _ left
          ∙ sym (ap (λ rest. c.places.page ++ rest) (ap (λ places. concat (map word places)) (drop_more all_places c.places.place-index _ c.places-test.true)))
          ∙ c.places.invariant.1,
    )
