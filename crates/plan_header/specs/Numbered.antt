-- The text of a header, with the number of a plant's word in its names.
use Rattle.std.specs.Prelude.{ℕ, Bool, ◌++◌, codes, drop, length, nat_eq, if◌then◌else◌}
use Rattle.std.specs.Fmt.{decimal}
use Rattle.std.specs.List.{join_by, starts_with}
use Rattle.plan_text.specs.Names.{Text}
use Rattle.plan_document.specs.Saying.{words_in}

abbrev pub begins : Text → Text → Bool
begins text start = starts_with nat_eq text start

-- the number comes between the start of a text and its rest
abbrev pub put_after : Text → ℕ → Text → Text
put_after start number text = start ++ (decimal number ++ drop (length start) text)

-- `PLAN_ZONE_INLET` is `PLAN3_ZONE_INLET` with 3, also after a bracket, and `plan_owner`, a type, `plan3_owner`
abbrev pub numbered_word : ℕ → Text → Text
numbered_word number word =
    if begins word (codes "PLAN_") then put_after (codes "PLAN") number word
    else if begins word (codes "(PLAN_") then put_after (codes "(PLAN") number word
    else if begins word (codes "plan_") then put_after (codes "plan") number word
    else word

-- a text is words, each parted from the next by one blank
abbrev pub numbered : ℕ → Text → Text
numbered number text = join_by (numbered_word number) (codes " ") (words_in text)
