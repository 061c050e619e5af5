-- The lines of a report, in order.
use Rattle.cell_report.proofs.Names.{ℕ, ℤ, pos, ◌≡◌, ◌<◌, ◌+◌, List, [], ◌∷◌, ◌++◌, length, map, drop, get_or, codes, refl, sym, ap, ap₂, ◌∙◌, append_assoc, append-nil, drop_more, all_machines, all_zones, Machine, ModelState, concat, flat_map, zip, axes_line, axis_names, axis_words, end_lines, machine_line, places_line, places_word, spaced, text_of_lines, zone_line}
use Rattle.std.specs.Fmt.{signed_decimal}
use Rattle.cell_notes.specs.declared.counts.Counts.{Counts}
use Rattle.cell_notes.specs.declared.status.Status.{Status}

pub text_of_lines-append : (a b : List (List ℕ)) → text_of_lines (a ++ b) ≡ text_of_lines a ++ text_of_lines b
text_of_lines-append [] b = refl
text_of_lines-append (line ∷ a) b = ap (λ t. (line ++ codes "\n") ++ t) (text_of_lines-append a b) ∙ sym (append_assoc (line ++ codes "\n") (text_of_lines a) (text_of_lines b))

-- a blank, the name of an axis, a blank, and its position
abbrev pub axis_text : List ℕ → ℤ → List ℕ
axis_text name position = 32 ∷ (name ++ 32 ∷ signed_decimal position)

-- the axes from an index on
abbrev pub axes_from : ℕ → List ℤ → List ℕ
axes_from i axes = concat (map (λ (name, at). axis_text name at) (zip (drop i axis_names) (drop i axes)))

pub axes_from-more : (i : ℕ) (axes : List ℤ) → i < 8 → i < length axes → axes_from i axes ≡ axis_text (get_or axis_names i []) (get_or axes i (pos 0)) ++ axes_from (i + 1) axes
axes_from-more i axes named in_axes = ap (λ rows. concat (map (λ (name, at). axis_text name at) rows)) (ap₂ zip (drop_more axis_names i [] named) (drop_more axes i (pos 0) in_axes))

spaced_axes : (word : List ℕ) (rows : List (List ℕ × ℤ)) → spaced (word ∷ flat_map axis_words rows) ≡ word ++ concat (map (λ (name, at). axis_text name at) rows)
spaced_axes word [] = sym (append-nil word)
spaced_axes word ((name, at) ∷ rows) =
    ap (λ text. word ++ 32 ∷ (name ++ 32 ∷ text)) (spaced_axes (signed_decimal at) rows)
    ∙ ap (λ text. word ++ 32 ∷ text) (sym (append_assoc name (32 ∷ signed_decimal at) (concat (map (λ (name, at). axis_text name at) rows))))

-- the line of the axes, written axis by axis
pub axes_told : (page : List ℕ) (axes : List ℤ) → (page ++ (codes "axes" ++ axes_from 0 axes)) ++ codes "\n" ≡ page ++ (axes_line axes ++ codes "\n")
axes_told page axes = append_assoc page (codes "axes" ++ axes_from 0 axes) (codes "\n") ∙ ap (λ line. page ++ (line ++ codes "\n")) (sym (spaced_axes (codes "axes") (zip axis_names axes)))

-- the lines of the machines from an index on
abbrev pub machines_from : ℕ → List Counts → List Status → List (List ℕ)
machines_from i counts status = map (λ (m, row). machine_line m row.0 row.1) (zip (drop i all_machines) (zip (drop i counts) (drop i status)))

-- another line is written
pub told_more : (old new line rest all more : List ℕ) → new ≡ old ++ line → more ≡ line ++ rest → old ++ more ≡ all → new ++ rest ≡ all
told_more old new line rest all more wrote is told = rw (wrote, append_assoc) (rw is at told)

-- another text
pub one_more : (old new text all : List ℕ) → new ≡ old ++ text → old ≡ all → new ≡ all ++ text
one_more old new text all more so_far = more ∙ ap (λ page. page ++ text) so_far

pub machines_from-more : (i : ℕ) (counts : List Counts) (status : List Status) (m : Machine) (n : Counts) (s : Status) → i < 7 → i < length counts → i < length status
    → text_of_lines (machines_from i counts status) ≡ (machine_line (get_or all_machines i m) (get_or counts i n) (get_or status i s) ++ codes "\n") ++ text_of_lines (machines_from (i + 1) counts status)
machines_from-more i counts status m n s few in_counts in_status =
    ap (λ rows. text_of_lines (map (λ (m, row). machine_line m row.0 row.1) rows)) (ap₂ zip (drop_more all_machines i m few) (ap₂ zip (drop_more counts i n in_counts) (drop_more status i s in_status)))

-- the end's lines, and the whole report's

end_joined : (page zones word places feed : List ℕ) → (((page ++ zones) ++ word) ++ places) ++ feed ≡ page ++ (zones ++ (((word ++ places) ++ feed) ++ []))
end_joined page zones word places feed = simp (append_assoc, append-nil) refl

pub end_told : (page : List ℕ) (s : ModelState)
    → (((page ++ text_of_lines (map (zone_line s) all_zones)) ++ codes "places ") ++ places_word s) ++ codes "\n" ≡ page ++ text_of_lines (end_lines s)
end_told page s =
    end_joined page (text_of_lines (map (zone_line s) all_zones)) (codes "places ") (places_word s) (codes "\n")
    ∙ ap (λ text. page ++ text) (sym (text_of_lines-append (map (zone_line s) all_zones) (places_line s ∷ [])))

abbrev pub with_feed : List ℕ → List ℕ
with_feed line = line ++ codes "\n"

pub report_told : (version start axes audit : List ℕ) (machines end stamp : List (List ℕ))
    → with_feed version ++ with_feed start ++ text_of_lines machines ++ text_of_lines end ++ with_feed axes ++ text_of_lines stamp ++ with_feed audit
    ≡ text_of_lines (version ∷ start ∷ [] ++ machines ++ end ++ axes ∷ [] ++ stamp ++ audit ∷ [])
report_told version start axes audit machines end stamp =
    sym (text_of_lines-append (version ∷ start ∷ [] ++ machines ++ end ++ axes ∷ [] ++ stamp) (audit ∷ [])
    ∙ ap₂ (λ front text. front ++ text) (text_of_lines-append (version ∷ start ∷ [] ++ machines ++ end ++ axes ∷ []) stamp) (append-nil (with_feed audit))
    ∙ ap (λ front. front ++ text_of_lines stamp ++ with_feed audit) (text_of_lines-append (version ∷ start ∷ [] ++ machines ++ end) (axes ∷ [])
    ∙ ap₂ (λ front text. front ++ text) (text_of_lines-append (version ∷ start ∷ [] ++ machines) end
    ∙ ap (λ front. front ++ text_of_lines end) (sym (append_assoc (with_feed version) (with_feed start) (text_of_lines machines)))) (append-nil (with_feed axes))))
