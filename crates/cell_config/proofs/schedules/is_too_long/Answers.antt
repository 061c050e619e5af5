use Rattle.cell_config.proofs.Names.{◌∙◌, ◌≤◌, length, nat_lt, ap, arith, sym, subst, le-ltb, chars, YieldsList-from_chars, count_from_yields_List, encodes-chars, length-le-encodes}
use Rattle.cell_config.proofs.schedules.is_too_long.Goals as goal

pub returns-then-text-gt-MAX_LETTERS : goal.returns-then-text-gt-MAX_LETTERS
returns-then-text-gt-MAX_LETTERS c = ap (nat_lt 1000000) (count_from_yields_List _ _ c.count.ensures.ran (YieldsList-from_chars c.args.text.now c.utf8.text cc))

pub returns-else-text-gt-MAX_LETTERS : goal.returns-else-text-gt-MAX_LETTERS
returns-else-text-gt-MAX_LETTERS c =
    let few : length (chars c.args.text.now) ≤ length c.args.text.now = subst (λ bytes. length (chars c.args.text.now) ≤ length bytes) (encodes-chars c.args.text.now c.utf8.text) (length-le-encodes (chars c.args.text.now)) in
    le-ltb 1000000 (length c.args.text.now) (omega arith) ∙ sym (le-ltb 1000000 (length (chars c.args.text.now)) (omega arith))
