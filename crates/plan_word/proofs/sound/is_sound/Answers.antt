use Rattle.std.proofs.Common.{◌≡◌, false, true, length, refl, sym, ◌∙◌, rules}
use Rattle.plan_word.proofs.lemmas.Soundness.{sound_by, none_second}
use Rattle.plan_word.proofs.sound.is_sound.Goals as goal

pub returns : goal.returns
returns c =
    let t = c.args.plan.now in
    let s = c.args.state in
    let found = c.has_one_plate_a_place.ensures in
    let ten : length s.zones ≡ 10 = search rules in
    let sixteen : length s.full ≡ 16 = search rules in (
      λ one. sound_by t s c.machines.ensures.plan ten sixteen c.if-state-gt-LAST_STAMP.false (c.if-not-are_lawful_zones.ensures.0 refl) (c.if-not-are_of_spaces.ensures.0 refl) (sym c.has_second_plates.ensures ∙ c.if-has_second_plates.false) (found.0 one),
      λ k. found.1 (λ p l. k.one_plate_a_place p),
    )

pub returns-then-has_second_plates : goal.returns-then-has_second_plates
returns-then-has_second_plates c =
    let two = sym c.has_second_plates.ensures ∙ c.if-has_second_plates.true in (
      λ one. clash one,
      λ k. sym (none_second c.args.plan.now c.args.state k.one_plate_a_space) ∙ two,
    )
  where
    clash : {A : Type 0} → false ≡ true → A
    clash e = cc
