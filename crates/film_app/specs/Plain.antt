-- Lines need no escape in a page: none of their bytes means anything in HTML.
use Rattle.std.specs.Prelude.{◌≡◌, ◌==◌, ℕ, Bool, true, ◌||◌, List, codes}
use Rattle.std.specs.List.{list_all, list_any}
use Rattle.std.specs.Int.{is_in_range}
use Rattle.cell_plant.specs.declared.frame.Frame.{Frame}
use Rattle.film_app.specs.Lines.{film_lines}
use Rattle.film_app.specs.Pages.{cut_line}

-- a letter, a digit, or one of these
abbrev pub is_plain : ℕ → Bool
is_plain b = is_in_range 97 122 b
    || (is_in_range 65 90 b || (is_in_range 48 57 b || list_any (λ c. c == b) (codes " \n!+,-;")))

abbrev pub are_plain : List ℕ → Bool
are_plain bytes = list_all is_plain bytes

-- of any frames, of a run or not, and of any cut
pub record LinesNeedNoEscape : Type 0 where
  pub lines : (frames : List Frame) → are_plain (film_lines frames) ≡ true
  pub cut : (turns : ℕ) → are_plain (cut_line turns) ≡ true
