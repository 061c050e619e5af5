-- What loops over zones cut, with one zone more.
use Rattle.std.proofs.Common.{◌≡◌, ℕ, ◌+◌, ◌<◌, ◌≤◌, Bool, true, false, ◌||◌, List, [], ◌∷◌, ◌++◌, length, map, drop, take, get_or, Option, Some, None, refl, sym, ap, ◌∙◌, arith, append_assoc, if◌then◌else◌}
use Rattle.std.specs.List.{range_with_len, list_any}
use Rattle.std.proofs.lemmas.List.{at_drop_more, at_drop_all, append-nil, take_more, map-append}
use Rattle.std.proofs.lemmas.List.FromFn.{map-range_with_len_more}
use mir.Val.{bool_byte}
use Rattle.plan_types.specs.declared.table.Way.{Way}
use Rattle.plan_types.specs.declared.table.PlanZone.{PlanZone}
use Rattle.plan_types.specs.declared.table.PlanPlace.{PlanPlace}
use Rattle.plan_types.specs.Table.{PlanTable, zone_count, zone_row, no_zone}
use Rattle.plan_words.specs.CutTable.{start_cut, end_cut, ends_in, exits_of, entries_of, zones_cut}
use Rattle.plan_words.specs.PlantCut.{cuts_at, row_cut, exit_after, entry_after}

pub one_long : (b : Bool) (x : ℕ) → length (if b then x ∷ [] else []) ≡ bool_byte b
one_long true x = refl
one_long false x = refl

one_at_most : (b : Bool) (x : ℕ) → length (if b then x ∷ [] else []) ≤ 1
one_at_most true x = omega arith
one_at_most false x = omega arith

pub start_at_most : (cut : ℕ → Bool) (w : Option Way) → length (start_cut cut w) ≤ 1
start_at_most cut None = omega arith
start_at_most cut (Some w) = one_at_most (cut w.from) w.from

-- ---- exits and entries

pub exits_step : (cut : ℕ → Bool) (t : PlanTable) (z : ℕ) (before after : List ℕ) → z < zone_count t
    → after ≡ (before ++ start_cut cut (zone_row t z).inward) ++ start_cut cut (zone_row t z).outward → after ++ exits_of cut (drop (z + 1) t.zones) ≡ before ++ exits_of cut (drop z t.zones)
exits_step cut t z before after l e =
    let row = zone_row t z in
    let rest = exits_of cut (drop (z + 1) t.zones) in
    ap (λ xs. xs ++ rest) e
    ∙ (append_assoc (before ++ start_cut cut row.inward) (start_cut cut row.outward) rest
    ∙ (append_assoc before (start_cut cut row.inward) (start_cut cut row.outward ++ rest)
    ∙ sym (ap (λ xs. before ++ xs) (at_drop_more (exits_of cut) t.zones z no_zone l))))

pub exits_end : (cut : ℕ → Bool) (zones : List PlanZone) (before : List ℕ) (n : ℕ) → length zones ≤ n → before ++ exits_of cut (drop n zones) ≡ before
exits_end cut zones before n l = ap (λ xs. before ++ xs) (at_drop_all (exits_of cut) zones n l) ∙ append-nil before

pub entries_step : (cut : ℕ → Bool) (t : PlanTable) (z : ℕ) (before after : List ℕ) → z < zone_count t
    → after ≡ (before ++ end_cut cut (ends_in (drop (z + 1) t.zones)) (zone_row t z).inward) ++ end_cut cut (ends_in (drop (z + 1) t.zones)) (zone_row t z).outward
    → after ++ entries_of cut (drop (z + 1) t.zones) ≡ before ++ entries_of cut (drop z t.zones)
entries_step cut t z before after l e =
    let row = zone_row t z in
    let others = ends_in (drop (z + 1) t.zones) in
    let rest = entries_of cut (drop (z + 1) t.zones) in
    ap (λ xs. xs ++ rest) e
    ∙ (append_assoc (before ++ end_cut cut others row.inward) (end_cut cut others row.outward) rest
    ∙ (append_assoc before (end_cut cut others row.inward) (end_cut cut others row.outward ++ rest)
    ∙ sym (ap (λ xs. before ++ xs) (at_drop_more (entries_of cut) t.zones z no_zone l))))

pub entries_end : (cut : ℕ → Bool) (zones : List PlanZone) (before : List ℕ) (n : ℕ) → length zones ≤ n → before ++ entries_of cut (drop n zones) ≡ before
entries_end cut zones before n l = ap (λ xs. before ++ xs) (at_drop_all (entries_of cut) zones n l) ∙ append-nil before

-- ---- zones

pub zones_step : (t : PlanTable) (places : List ℕ) (z q e q' e' : ℕ) (before after : List PlanZone) (row : PlanZone) → z < zone_count t → after ≡ before ++ row ∷ []
    → row ≡ row_cut t places z q e → q' ≡ exit_after t places z q → e' ≡ entry_after t places z e
    → after ++ zones_cut (cuts_at t places) q' e' (drop (z + 1) t.zones) ≡ before ++ zones_cut (cuts_at t places) q e (drop z t.zones)
zones_step t places z q e q' e' before after row l is made f g =
    let cut = cuts_at t places in
    let rest = drop (z + 1) t.zones in
    ap (λ xs. xs ++ zones_cut cut q' e' rest) is
    ∙ (append_assoc before (row ∷ []) (zones_cut cut q' e' rest)
    ∙ (ap (λ r. before ++ r ∷ zones_cut cut q' e' rest) made
    ∙ (ap (λ n. before ++ row_cut t places z q e ∷ zones_cut cut n e' rest) f
    ∙ (ap (λ n. before ++ row_cut t places z q e ∷ zones_cut cut (exit_after t places z q) n rest) g
    ∙ sym (ap (λ xs. before ++ xs) (at_drop_more (zones_cut cut q e) t.zones z no_zone l))))))

pub zones_end : (cut : ℕ → Bool) (zones before : List PlanZone) (q e n : ℕ) → length zones ≤ n → before ++ zones_cut cut q e (drop n zones) ≡ before
zones_end cut zones before q e n l = ap (λ xs. before ++ xs) (at_drop_all (zones_cut cut q e) zones n l) ∙ append-nil before

-- ---- places

pub any_append : (test : ℕ → Bool) (a b : List ℕ) → list_any test (a ++ b) ≡ (list_any test a || list_any test b)
any_append test [] b = refl
any_append test (x ∷ a) b = ap (λ y. test x || y) (any_append test a b) ∙ or_assoc (test x) (list_any test a) (list_any test b)
  where
    or_assoc : (x y z : Bool) → (x || (y || z)) ≡ ((x || y) || z)
    or_assoc true y z = refl
    or_assoc false y z = refl

pub own_more : (f : ℕ → PlanPlace) (n : ℕ) → map f (range_with_len 0 (n + 1)) ≡ map f (range_with_len 0 n) ++ f n ∷ []
own_more f n = map-range_with_len_more f 0 n n (omega arith)

pub rows_more : (f : ℕ → PlanPlace) (before : List PlanPlace) (xs : List ℕ) (i d : ℕ) → i < length xs → before ++ map f (take (i + 1) xs) ≡ (before ++ map f (take i xs)) ++ f (get_or xs i d) ∷ []
rows_more f before xs i d l =
    ap (λ ys. before ++ map f ys) (take_more xs i d l)
    ∙ (ap (λ ys. before ++ ys) (map-append f (take i xs) (get_or xs i d ∷ [])) ∙ sym (append_assoc before (map f (take i xs)) (f (get_or xs i d) ∷ [])))
