use Rattle.cell_rules.proofs.Names.{sym, ◌∙◌, refl, model_state}
use Rattle.cell_rules.proofs.lemmas.SoundnessTest.{sound_by_test, test_of_sound}
use Rattle.cell_rules.proofs.state.State.from_parts.Goals as goal

pub invariant_of-result : goal.invariant_of-result
invariant_of-result c = sound_by_test (model_state c.args.zones c.args.full c.args.stamp c.args.stopped) (sym (c.is_sound.ensures c.args.stopped) ∙ c.if-is_sound.true)

pub returns-then-is_sound-clause-some : goal.returns-then-is_sound-clause-some
returns-then-is_sound-clause-some c =
    (λ _. sound_by_test (model_state c.args.zones c.args.full c.args.stamp c.args.stopped) (sym (c.is_sound.ensures c.args.stopped) ∙ c.if-is_sound.true), λ _. refl)

pub returns-else-is_sound-clause-some : goal.returns-else-is_sound-clause-some
returns-else-is_sound-clause-some c =
    (λ e. cc, λ h. sym c.if-is_sound.false ∙ c.is_sound.ensures c.args.stopped ∙ test_of_sound (model_state c.args.zones c.args.full c.args.stamp c.args.stopped) h)
