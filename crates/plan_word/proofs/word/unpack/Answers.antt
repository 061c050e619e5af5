use Rattle.std.proofs.Common.{◌≡◌, sym, ◌∙◌, ap, refl, subst}
use Rattle.plan_rules.specs.Sound.{IsSound}
use Rattle.plan_word.specs.Packed.{packed}
use Rattle.plan_word.specs.Reading.{state_told}
use Rattle.plan_word.proofs.lemmas.RoundTrip.{told_some, told_none, told_is_of_plan}
use Rattle.plan_word.proofs.word.unpack.Goals as goal
use Rattle.plan_word.proofs.word.unpack.Goals.{else-is_sound-via-then-is_sound+else-pack-word, else-is_sound-via-else-is_sound}

pub returns-then-pack-word-clause-some : goal.returns-then-pack-word-clause-some
returns-then-pack-word-clause-some c =
    let t = c.args.plan.now in
    let w = c.args.word in
    let is = c.state_in-state.ensures in
    let sound = subst (IsSound t) is (c.if-is_sound.ensures.0 refl) in
    let same : packed t (state_told t w) ≡ w = ap (packed t) (sym is) ∙ sym c.pack.ensures ∙ c.if-pack-word.true in
    rw is (told_some t w (told_is_of_plan t w c.machines.ensures.plan sound) same)

pub returns-then-pack-word-clause-none : goal.returns-then-pack-word-clause-none
returns-then-pack-word-clause-none c =
    let s = c.state_in-state.result in
    let found = (returns-then-pack-word-clause-some c s).0 refl in
    (λ e. cc, λ none. absurd (none s found.0 found.1))

pub returns-else-is_sound-clause-some : goal.returns-else-is_sound-clause-some
returns-else-is_sound-clause-some c =
    let t = c.args.plan.now in
    let w = c.args.word in
    let is = c.state_in-state.ensures in
    elim c.else-is_sound.branch [
      | else-is_sound-via-then-is_sound+else-pack-word b ↦ told_none t w (λ h e. b.if-pack-word.false (b.pack.ensures ∙ ap (packed t) is ∙ e))
      | else-is_sound-via-else-is_sound b ↦ told_none t w (λ h e. let bad = b.if-is_sound.ensures.1 (subst (IsSound t) (sym is) h.sound) in cc)
    ]

pub returns-else-is_sound-clause-none : goal.returns-else-is_sound-clause-none
returns-else-is_sound-clause-none c = (λ e s h same. let bad = (returns-else-is_sound-clause-some c s).1 (h, same) in cc, λ h. refl)
