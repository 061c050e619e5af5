use Rattle.cell_config.proofs.Names.{rules, ◌∙◌, ◌≤◌, length, chars, sym, ltb-true, ltb-false, max_letters}
use Rattle.cell_config.proofs.LetterLemmas.{byte_is_letter, byte_pushed, turns_of-bytes, turns_of-long, turns_of-not_ascii, turns_of-other_byte}
use Rattle.cell_config.proofs.schedules.turns_of.Goals as goal

pub returns-then-is_too_long : goal.returns-then-is_too_long
returns-then-is_too_long c = λ _. turns_of-long c.args.text.now (ltb-true max_letters (length (chars c.args.text.now)) (sym c.is_too_long.ensures ∙ c.if-is_too_long.true))

pub returns-then-not-is_ascii : goal.returns-then-not-is_ascii
returns-then-not-is_ascii c = λ _.
    let short : length (chars c.args.text.now) ≤ max_letters = ltb-false max_letters (length (chars c.args.text.now)) (sym c.is_too_long.ensures ∙ c.if-is_too_long.false) in
    turns_of-not_ascii c.args.text.now c.utf8.text short (search rules)

pub returns-in_default : goal.returns-in_default
returns-in_default c = λ _.
    let short : length (chars c.args.text.now) ≤ max_letters = ltb-false max_letters (length (chars c.args.text.now)) (sym c.is_too_long.ensures ∙ c.if-is_too_long.false) in
    turns_of-other_byte c.args.text.now c.letters.letter-index (search rules) short (search rules) (search rules)

pub letters-preserved : goal.letters-preserved
letters-preserved c = record {
  turns = byte_pushed c.as_bytes-letter-items.result.now c.letters.letter-index c.in-Some.turn _ _ c.letters-test.true (search rules) c.letters.invariant.turns c.in_ok-push.ensures.items;
  letters = byte_is_letter c.as_bytes-letter-items.result.now c.letters.letter-index c.in-Some.turn c.letters-test.true (search rules) c.letters.invariant.letters;
}

pub returns : goal.returns
returns c =
    let short : length (chars c.args.text.now) ≤ max_letters = ltb-false max_letters (length (chars c.args.text.now)) (sym c.is_too_long.ensures ∙ c.if-is_too_long.false) in
    turns_of-bytes c.args.text.now c.letters.letter-index c.letters.turns.items (search rules) short (search rules) (search rules) (search rules)
