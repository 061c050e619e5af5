use Rattle.cell_word.proofs.Names.{◌≡◌, sym, ◌∙◌, ap, refl, packed}
use Rattle.cell_word.proofs.lemmas.RoundTrip.{told_some, told_none}
use Rattle.cell_word.proofs.word.unpack.Goals as goal
use Rattle.cell_word.proofs.word.unpack.Goals.{in_default-via-in-Some+else-pack-word, in_default-via-in_default}

pub returns-in-Some-clause-some : goal.returns-in-Some-clause-some
returns-in-Some-clause-some c =
    let w = c.args.word in
    let told : packed c.in-Some.state ≡ w = sym c.pack.ensures ∙ c.if-pack-word.true in
    rw c.in-Some.ensures.value (told_some w (c.in-Some.ensures.some.0 refl) (ap packed (sym c.in-Some.ensures.value) ∙ told))

pub returns-in_default-clause-some : goal.returns-in_default-clause-some
returns-in_default-clause-some c =
    let w = c.args.word in
    elim c.in_default.branch [
      | in_default-via-in-Some+else-pack-word b ↦ told_none w (λ h e. b.if-pack-word.false (b.pack.ensures ∙ ap packed b.in-Some.ensures.value ∙ e))
      | in_default-via-in_default b ↦ told_none w (λ h e. let bad = b.in_default.ensures.some.1 h in cc)
    ]

pub returns-in_default-clause-none : goal.returns-in_default-clause-none
returns-in_default-clause-none c = (λ e s h same. let bad = (returns-in_default-clause-some c s).1 (h, same) in cc, λ h. refl)
