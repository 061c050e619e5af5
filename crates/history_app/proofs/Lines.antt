-- The lines of some first events.
use Rattle.std.proofs.Common.{◌≡◌, ◌<◌, ◌+◌, ◌++◌, ◌∷◌, ◌∙◌, ℕ, List, [], ap, sym, get_or, length, map, take, append_assoc, refl}
use Rattle.std.specs.List.{concat}
use Rattle.std.proofs.lemmas.Grind.{take_at_read}
use Rattle.std.proofs.lemmas.List.{append-nil, map-append}
use Rattle.std.proofs.lemmas.List.Folds.{concat-append}
use Rattle.cell_types.specs.declared.answer.Event.{Event}
use Rattle.cell_rules.specs.ModelState.{ModelState}
use Rattle.csv_rows.specs.Rows.{Row}
use Rattle.history_app.specs.Scripts.{event_row, line_of_row, opening_row, script_of}

-- record 0 and the records of events
unfoldable pub text_of : Row → List Event → List ℕ
text_of first events = concat (map line_of_row (first ∷ map event_row events))

pub text_of_none : (first : Row) → text_of first [] ≡ line_of_row first
unfolding text_of
text_of_none first = append-nil (line_of_row first)

one_more : (xs : List Event) (y : Event) → concat (map line_of_row (map event_row (xs ++ y ∷ []))) ≡ concat (map line_of_row (map event_row xs)) ++ line_of_row (event_row y)
one_more xs y =
    ap (λ rows. concat (map line_of_row rows)) (map-append event_row xs (y ∷ []))
    ∙ ap concat (map-append line_of_row (map event_row xs) (event_row y ∷ []))
    ∙ concat-append (map line_of_row (map event_row xs)) (line_of_row (event_row y) ∷ [])
    ∙ ap (λ t. concat (map line_of_row (map event_row xs)) ++ t) (append-nil (line_of_row (event_row y)))

pub text_of_more : (first : Row) (xs : List Event) (i : ℕ) (d : Event) → i < length xs → text_of first (take (i + 1) xs) ≡ text_of first (take i xs) ++ line_of_row (event_row (get_or xs i d))
unfolding text_of
text_of_more first xs i d h =
    ap (λ ys. concat (map line_of_row (first ∷ map event_row ys))) (take_at_read xs i d h).1
    ∙ ap (λ t. line_of_row first ++ t) (one_more (take i xs) (get_or xs i d))
    ∙ sym (append_assoc (line_of_row first) (concat (map line_of_row (map event_row (take i xs)))) (line_of_row (event_row (get_or xs i d))))

pub text_of_all : (opening : ModelState) (events : List Event) → script_of opening events ≡ text_of (opening_row opening events) events
unfolding text_of script_of
text_of_all opening events = refl

-- the text of a script, line by line
pub ruleset texts = (text_of_all, text_of_none, text_of_more)
