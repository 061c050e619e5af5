-- The tables of a cut plan.
use Rattle.std.proofs.Common.{◌≡◌, ℕ, zero, suc, ◌+◌, ◌-◌, ◌<◌, ◌≤◌, ◌⊎◌, inl, inr, Bool, true, false, ◌&&◌, ◌||◌, not, nat_eq, nat_lt, List, [], ◌∷◌, ◌++◌, length, map, get_or, Option, Some, None, option_map, refl, sym, subst, ap, ◌∙◌, arith, if◌then◌else◌, ltb-true, append_assoc}
use Rattle.std.specs.List.{range_with_len, list_any}
use Rattle.std.proofs.lemmas.Bool.{lt-ltb, eqb-true, cases_lt, and_parts, and_from, false_from_ne_true, or_right}
use Rattle.std.proofs.lemmas.Option.{same_Some}
use Rattle.std.proofs.lemmas.List.{length-map, length-append, get_or-map, get_or_append_left, get_or-append_right}
use Rattle.std.proofs.lemmas.List.FromFn.{length-range_with_len, get_or-map-range_with_len}
use Rattle.plan_types.specs.declared.posture.Posture.{Posture}
use Rattle.plan_types.specs.declared.posture.Posture.TheVariants.{Closed, Moving, OpenIn, OpenOut}
use Rattle.plan_types.specs.declared.table.Way.{Way}
use Rattle.plan_types.specs.declared.table.PlanZone.{PlanZone}
use Rattle.plan_types.specs.declared.table.PlanPose.{PlanPose}
use Rattle.plan_types.specs.declared.table.PlanPlace.{PlanPlace}
use Rattle.plan_types.specs.declared.table.Transfer.{Transfer}
use Rattle.plan_types.specs.Table.{PlanTable, zone_count, pose_count, place_count, host_of, guest_of, machine_of, zone_row, place_row, keeper_of, is_source, is_sink, posture_of, transfer_of, transfer_by, is_place_of, no_zone, no_place, no_pose, space_of}
use Rattle.plan_types.specs.Plan.{leads, is_alike}
use Rattle.plan_words.specs.Group.{past}
use Rattle.plan_words.specs.Groups.{IsLargePlan}
use Rattle.plan_words.specs.Cut.{Cut, is_cut, place_of, exits_end, IsEntry, whole_way, whole_zone, IsCut}
use Rattle.plan_words.specs.CutTable.{start_cut, end_cut, ends_in, exits_of, entries_of, way_cut, zones_cut, place_cut, exit_row, entry_row, is_inside, cut_table, cut_at, CutsAreCut}
use Rattle.plan_words.proofs.Least.{where_any}
use Rattle.plan_words.proofs.CutAnswers.{itself, counts, hosts, guests, rows, spaces_same}

-- ---- which exits and entries there are

owner_at : (c : Cut) (before : List ℕ) (p : ℕ) (rest : List ℕ) → c.exits ++ c.entries ≡ before ++ p ∷ rest → (q : ℕ) → q ≡ place_count c.plan + length before → place_of c q ≡ p
owner_at c before p rest e q at =
    let n = place_count c.plan in
    let above : nat_lt q n ≡ false = false_from_ne_true (nat_lt q n) (λ x. let y = ltb-true q n x in absurd (omega (arith, y, at))) in
    let first : q - n - length before ≡ 0 = omega (arith, at) in
    ap (λ b. if b then q else get_or (c.exits ++ c.entries) (q - n) past) above
    ∙ (ap (λ xs. get_or xs (q - n) past) e ∙ (get_or-append_right before (p ∷ rest) (length before) (q - n) past refl (omega (arith, at)) ∙ ap (λ i. get_or (p ∷ rest) i past) first))

-- a way between places of the plan
pub record Within (n : ℕ) (w : Option Way) : Type 0 where
  pub from : (way : Way) → w ≡ Some way → way.from < n
  pub to : (way : Way) → w ≡ Some way → way.to < n

from_back : (c : Cut) (cut : ℕ → Bool) (before rest : List ℕ) (w : Way) → w.from < place_count c.plan → (q : ℕ) → q ≡ place_count c.plan + length before → (b : Bool) → c.exits ≡ before ++ ((if b then w.from ∷ [] else []) ++ rest)
    → place_of c (if b then q else w.from) ≡ w.from
from_back c cut before rest w l q at true e = owner_at c before w.from (rest ++ c.entries) (ap (λ xs. xs ++ c.entries) e ∙ append_assoc before (w.from ∷ rest) c.entries) q at
from_back c cut before rest w l q at false e = itself c w.from l

to_back : (c : Cut) (before rest : List ℕ) (w : Way) → w.to < place_count c.plan → (q : ℕ) → q ≡ exits_end c + length before → (b : Bool) → c.entries ≡ before ++ ((if b then w.to ∷ [] else []) ++ rest)
    → place_of c (if b then q else w.to) ≡ w.to
to_back c before rest w l q at true e =
    let long = length-append c.exits before in
    owner_at c (c.exits ++ before) w.to rest (ap (λ xs. c.exits ++ xs) e ∙ sym (append_assoc c.exits before (w.to ∷ rest))) q (omega (arith, at, long))
to_back c before rest w l q at false e = itself c w.to l

way_back : (c : Cut) (cut others : ℕ → Bool) (before rest ends more : List ℕ) (w : Option Way) → Within (place_count c.plan) w → c.exits ≡ before ++ (start_cut cut w ++ rest) → c.entries ≡ ends ++ (end_cut cut others w ++ more)
    → (q e : ℕ) → q ≡ place_count c.plan + length before → e ≡ exits_end c + length ends → option_map (whole_way c) (way_cut cut others q e w) ≡ w
way_back c cut others before rest ends more None within a b q e f g = refl
way_back c cut others before rest ends more (Some w) within a b q e f g =
    ap (λ p. let x : Way = record { from = p; to = place_of c (if cut w.to && others w.to then e else w.to) } in Some x) (from_back c cut before rest w (within.from w refl) q f (cut w.from) a)
    ∙ ap (λ p. let x : Way = record { from = w.from; to = p } in Some x) (to_back c ends more w (within.to w refl) e g (cut w.to && others w.to) b)

longer : (n : ℕ) (a b : List ℕ) → n + length a + length b ≡ n + length (a ++ b)
longer n a b = let long = length-append a b in omega (arith, long)

abbrev pub AllWithin : ℕ → List PlanZone → Type 0
AllWithin n zones = (z : ℕ) → z < length zones → Within n (get_or zones z no_zone).inward × Within n (get_or zones z no_zone).outward

zones_back : (c : Cut) (cut : ℕ → Bool) (before ends : List ℕ) (zones : List PlanZone) → AllWithin (place_count c.plan) zones → c.exits ≡ before ++ exits_of cut zones → c.entries ≡ ends ++ entries_of cut zones
    → (q e : ℕ) → q ≡ place_count c.plan + length before → e ≡ exits_end c + length ends → zones ≡ map (whole_zone c) (zones_cut cut q e zones)
zones_back c cut before ends [] within x y q e f g = refl
zones_back c cut before ends (row ∷ zones) within x y q e f g =
    let others = ends_in zones in
    let a = start_cut cut row.inward in
    let b = start_cut cut row.outward in
    let a' = end_cut cut others row.inward in
    let b' = end_cut cut others row.outward in
    let ways = within 0 (omega arith) in
    let n = place_count c.plan in
    let m = exits_end c in
    let x_out : c.exits ≡ (before ++ a) ++ (b ++ exits_of cut zones) = x ∙ sym (append_assoc before a (b ++ exits_of cut zones)) in
    let x_rest : c.exits ≡ ((before ++ a) ++ b) ++ exits_of cut zones = x_out ∙ sym (append_assoc (before ++ a) b (exits_of cut zones)) in
    let y_out : c.entries ≡ (ends ++ a') ++ (b' ++ entries_of cut zones) = y ∙ sym (append_assoc ends a' (b' ++ entries_of cut zones)) in
    let y_rest : c.entries ≡ ((ends ++ a') ++ b') ++ entries_of cut zones = y_out ∙ sym (append_assoc (ends ++ a') b' (entries_of cut zones)) in
    let q_out : q + length a ≡ n + length (before ++ a) = ap (λ k. k + length a) f ∙ longer n before a in
    let q_rest : q + length a + length b ≡ n + length ((before ++ a) ++ b) = ap (λ k. k + length b) q_out ∙ longer n (before ++ a) b in
    let e_out : e + length a' ≡ m + length (ends ++ a') = ap (λ k. k + length a') g ∙ longer m ends a' in
    let e_rest : e + length a' + length b' ≡ m + length ((ends ++ a') ++ b') = ap (λ k. k + length b') e_out ∙ longer m (ends ++ a') b' in
    let inward = way_back c cut others before (b ++ exits_of cut zones) ends (b' ++ entries_of cut zones) row.inward ways.0 x y q e f g in
    let outward = way_back c cut others (before ++ a) (exits_of cut zones) (ends ++ a') (entries_of cut zones) row.outward ways.1 x_out y_out (q + length a) (e + length a') q_out e_out in
    let rest = zones_back c cut ((before ++ a) ++ b) ((ends ++ a') ++ b') zones (λ z l. within (suc z) (omega (arith, l))) x_rest y_rest (q + length a + length b) (e + length a' + length b') q_rest e_rest in
    ap (λ w. let r : PlanZone = record { host = row.host; guest = row.guest; joins = row.joins; inward = w; outward = row.outward } in r ∷ zones) (sym inward)
    ∙ (ap (λ w. let r : PlanZone = record { host = row.host; guest = row.guest; joins = row.joins; inward = option_map (whole_way c) (way_cut cut others q e row.inward); outward = w } in r ∷ zones) (sym outward)
    ∙ ap (λ zs. let r : PlanZone = record { host = row.host; guest = row.guest; joins = row.joins; inward = option_map (whole_way c) (way_cut cut others q e row.inward); outward = option_map (whole_way c) (way_cut cut others (q + length a) (e + length a') row.outward) } in r ∷ zs) rest)

-- ---- where ways start and end

-- at an exit, or a place that isn't cut; at a place, or an entry. Exits end where entries begin
pub record Ends (cut : ℕ → Bool) (n m bound from to : ℕ) : Type 0 where
  pub from_below : from < m
  pub uncut : from < n → cut from ≡ false
  pub to_entry : (to < n) ⊎ (m ≤ to)
  pub to_below : to < bound

abbrev pub AllEnd : (ℕ → Bool) → ℕ → ℕ → ℕ → Option Way → Type 0
AllEnd cut n m bound w = (way : Way) → w ≡ Some way → Ends cut n m bound way.from way.to

way_ends : (cut others : ℕ → Bool) (n m bound q e : ℕ) (w : Option Way) → n ≤ m → m ≤ bound → n ≤ q → m ≤ e → q + length (start_cut cut w) ≤ m → e + length (end_cut cut others w) ≤ bound → Within n w → AllEnd cut n m bound (way_cut cut others q e w)
way_ends cut others n m bound q e None h i a b x y within way f = cc
way_ends cut others n m bound q e (Some w) h i a b x y within way f = subst (λ (v : Way). Ends cut n m bound v.from v.to) (same_Some _ way f)
    (let one = by_from (cut w.from) refl x in let two = by_to (cut w.to && others w.to) y in record { from_below = one.0; uncut = one.1; to_entry = two.0; to_below = two.1 })
  where
    by_from : (d : Bool) → cut w.from ≡ d → q + length (if d then w.from ∷ [] else []) ≤ m → ((if d then q else w.from) < m) × ((if d then q else w.from) < n → cut (if d then q else w.from) ≡ false)
    by_from true is l = (omega (arith, l), λ k. absurd (omega (arith, k, a)))
    by_from false is l = (let k = within.from w refl in omega (arith, k, h), λ k. is)

    by_to : (d : Bool) → e + length (if d then w.to ∷ [] else []) ≤ bound → (((if d then e else w.to) < n) ⊎ (m ≤ (if d then e else w.to))) × ((if d then e else w.to) < bound)
    by_to true l = (inr b, omega (arith, l))
    by_to false l = (inl (within.to w refl), let k = within.to w refl in omega (arith, k, h, i))

zones_end : (cut : ℕ → Bool) (n m bound q e : ℕ) (zones : List PlanZone) → n ≤ m → m ≤ bound → n ≤ q → m ≤ e → q + length (exits_of cut zones) ≤ m → e + length (entries_of cut zones) ≤ bound → AllWithin n zones
    → (z : ℕ) → z < length (zones_cut cut q e zones) → AllEnd cut n m bound (get_or (zones_cut cut q e zones) z no_zone).inward × AllEnd cut n m bound (get_or (zones_cut cut q e zones) z no_zone).outward
zones_end cut n m bound q e [] h i a b x y within z l = absurd (omega (arith, l))
zones_end cut n m bound q e (row ∷ zones) h i a b x y within zero l =
    let others = ends_in zones in
    let s = start_cut cut row.inward in
    let t = start_cut cut row.outward in
    let s' = end_cut cut others row.inward in
    let t' = end_cut cut others row.outward in
    let one = length-append s (t ++ exits_of cut zones) in
    let two = length-append t (exits_of cut zones) in
    let one' = length-append s' (t' ++ entries_of cut zones) in
    let two' = length-append t' (entries_of cut zones) in
    let ways = within 0 (omega arith) in (
      way_ends cut others n m bound q e row.inward h i a b (omega (arith, x, one, two)) (omega (arith, y, one', two')) ways.0,
      way_ends cut others n m bound (q + length s) (e + length s') row.outward h i (omega (arith, a)) (omega (arith, b)) (omega (arith, x, one, two)) (omega (arith, y, one', two')) ways.1,
    )
zones_end cut n m bound q e (row ∷ zones) h i a b x y within (suc z) l =
    let others = ends_in zones in
    let s = start_cut cut row.inward in
    let t = start_cut cut row.outward in
    let s' = end_cut cut others row.inward in
    let t' = end_cut cut others row.outward in
    let one = length-append s (t ++ exits_of cut zones) in
    let two = length-append t (exits_of cut zones) in
    let one' = length-append s' (t' ++ entries_of cut zones) in
    let two' = length-append t' (entries_of cut zones) in
    zones_end cut n m bound (q + length s + length t) (e + length s' + length t') zones h i (omega (arith, a)) (omega (arith, b)) (omega (arith, x, one, two)) (omega (arith, y, one', two')) (λ k o. within (suc k) (omega (arith, o))) z (omega (arith, l))

-- ---- what is in the lists of exits and entries: places that are cut, of the plan

pub record Owner (cut : ℕ → Bool) (n p : ℕ) : Type 0 where
  pub inside : cut p ≡ true
  pub below : p < n

abbrev pub AllOwn : (ℕ → Bool) → ℕ → List ℕ → Type 0
AllOwn cut n xs = (i : ℕ) → i < length xs → Owner cut n (get_or xs i past)

all_append : (cut : ℕ → Bool) (n : ℕ) (a b : List ℕ) → AllOwn cut n a → AllOwn cut n b → AllOwn cut n (a ++ b)
all_append cut n [] b f g i l = g i l
all_append cut n (x ∷ a) b f g zero l = f 0 (omega arith)
all_append cut n (x ∷ a) b f g (suc i) l = all_append cut n a b (λ j m. f (suc j) (omega (arith, m))) g i (omega (arith, l))

one_own : (cut : ℕ → Bool) (n p : ℕ) (b : Bool) → (b ≡ true → cut p ≡ true) → p < n → AllOwn cut n (if b then p ∷ [] else [])
one_own cut n p true is l zero m = record { inside = is refl; below = l }
one_own cut n p true is l (suc i) m = absurd (omega (arith, m))
one_own cut n p false is l i m = absurd (omega (arith, m))

start_own : (cut : ℕ → Bool) (n : ℕ) (w : Option Way) → Within n w → AllOwn cut n (start_cut cut w)
start_own cut n None within i l = absurd (omega (arith, l))
start_own cut n (Some w) within i l = one_own cut n w.from (cut w.from) (λ e. e) (within.from w refl) i l

end_own : (cut others : ℕ → Bool) (n : ℕ) (w : Option Way) → Within n w → AllOwn cut n (end_cut cut others w)
end_own cut others n None within i l = absurd (omega (arith, l))
end_own cut others n (Some w) within i l = one_own cut n w.to (cut w.to && others w.to) (λ e. (and_parts (cut w.to) (others w.to) e).0) (within.to w refl) i l

exits_own : (cut : ℕ → Bool) (n : ℕ) (zones : List PlanZone) → AllWithin n zones → AllOwn cut n (exits_of cut zones)
exits_own cut n [] within i l = absurd (omega (arith, l))
exits_own cut n (row ∷ zones) within i l =
    let ways = within 0 (omega arith) in
    all_append cut n (start_cut cut row.inward) (start_cut cut row.outward ++ exits_of cut zones) (start_own cut n row.inward ways.0)
    (all_append cut n (start_cut cut row.outward) (exits_of cut zones) (start_own cut n row.outward ways.1) (exits_own cut n zones (λ z m. within (suc z) (omega (arith, m))))) i l

entries_own : (cut : ℕ → Bool) (n : ℕ) (zones : List PlanZone) → AllWithin n zones → AllOwn cut n (entries_of cut zones)
entries_own cut n [] within i l = absurd (omega (arith, l))
entries_own cut n (row ∷ zones) within i l =
    let ways = within 0 (omega arith) in
    let others = ends_in zones in
    all_append cut n (end_cut cut others row.inward) (end_cut cut others row.outward ++ entries_of cut zones) (end_own cut others n row.inward ways.0)
    (all_append cut n (end_cut cut others row.outward) (entries_of cut zones) (end_own cut others n row.outward ways.1) (entries_own cut n zones (λ z m. within (suc z) (omega (arith, m))))) i l

-- ---- a large plan's ways are between its places

within_by : (t : PlanTable) (giver receiver : ℕ) (w : Option Way) → leads t giver receiver w ≡ true → Within (place_count t) w
within_by t giver receiver None e = record { from = λ way is. cc; to = λ way is. cc }
within_by t giver receiver (Some w) e =
    let parts = and_parts (is_place_of t w.from giver) (is_place_of t w.to receiver) e in
    record {
      from = λ way is. subst (λ (x : Way). x.from < place_count t) (same_Some w way is) (ltb-true _ _ (and_parts (nat_lt w.from (place_count t)) (nat_eq (keeper_of t w.from) giver) parts.0).0);
      to = λ way is. subst (λ (x : Way). x.to < place_count t) (same_Some w way is) (ltb-true _ _ (and_parts (nat_lt w.to (place_count t)) (nat_eq (keeper_of t w.to) receiver) parts.1).0);
    }

plan_within : (t : PlanTable) → IsLargePlan t → AllWithin (place_count t) t.zones
plan_within t p z l = (within_by t (guest_of t z) (host_of t z) (zone_row t z).inward (p.inward_to_host z l), within_by t (host_of t z) (guest_of t z) (zone_row t z).outward (p.outward_to_guest z l))

-- ---- rows of places

own_rows : PlanTable → (ℕ → Bool) → List PlanPlace
own_rows t chosen = map (place_cut t (cut_at t chosen).exits (cut_at t chosen).entries) (range_with_len 0 (place_count t))

own_long : (t : PlanTable) (chosen : ℕ → Bool) → length (own_rows t chosen) ≡ place_count t
unfolding own_rows
own_long t chosen = length-map (range_with_len 0 (place_count t)) (place_cut t (cut_at t chosen).exits (cut_at t chosen).entries) ∙ length-range_with_len 0 (place_count t)

own_row : (t : PlanTable) (chosen : ℕ → Bool) (p : ℕ) → p < place_count t → place_row (cut_table t chosen) p ≡ place_cut t (cut_at t chosen).exits (cut_at t chosen).entries p
unfolding own_rows
own_row t chosen p l =
    let c = cut_at t chosen in
    let long = own_long t chosen in
    get_or_append_left (own_rows t chosen) (map (exit_row t) c.exits ++ map (entry_row t) c.entries) no_place p (omega (arith, l, long))
    ∙ get_or-map-range_with_len (place_cut t c.exits c.entries) 0 (place_count t) p p no_place l (omega arith)

not_below : (c : Cut) (q : ℕ) → place_count c.plan ≤ q → place_of c q ≡ get_or (c.exits ++ c.entries) (q - place_count c.plan) past
not_below c q m = ap (λ b. if b then q else get_or (c.exits ++ c.entries) (q - place_count c.plan) past) (false_from_ne_true (nat_lt q (place_count c.plan)) (λ x. let y = ltb-true q (place_count c.plan) x in absurd (omega (arith, y, m))))

row_of_exit : (t : PlanTable) (chosen : ℕ → Bool) (q : ℕ) → place_count t ≤ q → q < exits_end (cut_at t chosen) → place_row (cut_table t chosen) q ≡ exit_row t (place_of (cut_at t chosen) q)
unfolding own_rows
row_of_exit t chosen q m l =
    let c = cut_at t chosen in
    let long = own_long t chosen in
    let exits = length-map c.exits (exit_row t) in
    get_or-append_right (own_rows t chosen) (map (exit_row t) c.exits ++ map (entry_row t) c.entries) (place_count t) q no_place long m
    ∙ (get_or_append_left (map (exit_row t) c.exits) (map (entry_row t) c.entries) no_place (q - place_count t) (omega (arith, m, l, exits))
    ∙ (get_or-map (exit_row t) c.exits (q - place_count t) past no_place (omega (arith, m, l))
    ∙ ap (exit_row t) (sym (not_below c q m ∙ get_or_append_left c.exits c.entries past (q - place_count t) (omega (arith, m, l))))))

row_of_entry : (t : PlanTable) (chosen : ℕ → Bool) (q : ℕ) → exits_end (cut_at t chosen) ≤ q → q < exits_end (cut_at t chosen) + length (cut_at t chosen).entries → place_row (cut_table t chosen) q ≡ entry_row t (place_of (cut_at t chosen) q)
unfolding own_rows
row_of_entry t chosen q m l =
    let c = cut_at t chosen in
    let long = own_long t chosen in
    let exits = length-map c.exits (exit_row t) in
    get_or-append_right (own_rows t chosen) (map (exit_row t) c.exits ++ map (entry_row t) c.entries) (place_count t) q no_place long (omega (arith, m))
    ∙ (get_or-append_right (map (exit_row t) c.exits) (map (entry_row t) c.entries) (length c.exits) (q - place_count t) no_place exits (omega (arith, m))
    ∙ (get_or-map (entry_row t) c.entries (q - place_count t - length c.exits) past no_place (omega (arith, m, l))
    ∙ ap (entry_row t) (sym (not_below c q (omega (arith, m)) ∙ get_or-append_right c.exits c.entries (length c.exits) (q - place_count t) past refl (omega (arith, m))))))

places_long : (t : PlanTable) (chosen : ℕ → Bool) → place_count (cut_table t chosen) ≡ exits_end (cut_at t chosen) + length (cut_at t chosen).entries
unfolding own_rows
places_long t chosen =
    let c = cut_at t chosen in
    let long = own_long t chosen in
    let exits = length-map c.exits (exit_row t) in
    let entries = length-map c.entries (entry_row t) in
    let both = length-append (map (exit_row t) c.exits) (map (entry_row t) c.entries) in
    let all = length-append (own_rows t chosen) (map (exit_row t) c.exits ++ map (entry_row t) c.entries) in
    omega (arith, long, exits, entries, both, all)

-- which row a place has
row_cases : (P : PlanPlace → ℕ → Type 0) (t : PlanTable) (chosen : ℕ → Bool) → (q : ℕ) → q < exits_end (cut_at t chosen) + length (cut_at t chosen).entries
    → (q < place_count t → P (place_cut t (cut_at t chosen).exits (cut_at t chosen).entries q) (place_of (cut_at t chosen) q))
    → (place_count t ≤ q → q < exits_end (cut_at t chosen) → P (exit_row t (place_of (cut_at t chosen) q)) (place_of (cut_at t chosen) q))
    → (exits_end (cut_at t chosen) ≤ q → P (entry_row t (place_of (cut_at t chosen) q)) (place_of (cut_at t chosen) q)) → P (place_row (cut_table t chosen) q) (place_of (cut_at t chosen) q)
row_cases P t chosen q l own exit entry = elim (cases_lt q (place_count t)) [
  | inl a ↦ subst (λ r. P r (place_of (cut_at t chosen) q)) (sym (own_row t chosen q a)) (own a)
  | inr a ↦ elim (cases_lt q (exits_end (cut_at t chosen))) [
    | inl b ↦ subst (λ r. P r (place_of (cut_at t chosen) q)) (sym (row_of_exit t chosen q a b)) (exit a b)
    | inr b ↦ subst (λ r. P r (place_of (cut_at t chosen) q)) (sym (row_of_entry t chosen q b l)) (entry b)
  ]
]

cut_row : (t : PlanTable) (exits entries : List ℕ) (p : ℕ) (b : Bool) → PlanPlace
cut_row t exits entries p b = if b then record { keeper = keeper_of t p; source = list_any (nat_eq p) entries; sink = true } else place_row t p

kept_by_row : (t : PlanTable) (exits entries : List ℕ) (p : ℕ) (b : Bool) → (cut_row t exits entries p b).keeper ≡ keeper_of t p
unfolding cut_row
kept_by_row t exits entries p true = refl
kept_by_row t exits entries p false = refl

sink_by : (t : PlanTable) (exits entries : List ℕ) (p : ℕ) (b : Bool) → b ≡ true → (cut_row t exits entries p b).sink ≡ true
unfolding cut_row
sink_by t exits entries p true e = refl
sink_by t exits entries p false e = cc

source_by : (t : PlanTable) (exits entries : List ℕ) (p : ℕ) (b : Bool) → b ≡ true → list_any (nat_eq p) entries ≡ true → (cut_row t exits entries p b).source ≡ true
unfolding cut_row
source_by t exits entries p true e f = f
source_by t exits entries p false e f = cc

uncut_by_row : (t : PlanTable) (exits entries : List ℕ) (p : ℕ) (b : Bool) → b ≡ false → cut_row t exits entries p b ≡ place_row t p
unfolding cut_row
uncut_by_row t exits entries p true e = cc
uncut_by_row t exits entries p false e = refl

any_right : (test : ℕ → Bool) (a b : List ℕ) → list_any test b ≡ true → list_any test (a ++ b) ≡ true
any_right test [] b e = e
any_right test (x ∷ a) b e = or_right (test x) (list_any test (a ++ b)) (any_right test a b e)

-- ---- ways of the cut plan

by_ends : (cut : ℕ → Bool) (n m bound giver receiver : ℕ) (w : Option Way) (way : Transfer) → AllEnd cut n m bound w → transfer_by giver receiver w ≡ Some way → Ends cut n m bound way.from way.to
by_ends cut n m bound giver receiver None way k e = cc
by_ends cut n m bound giver receiver (Some w) way k e = subst (λ (x : Transfer). Ends cut n m bound x.from x.to) (same_Some (record { giver = giver; receiver = receiver; from = w.from; to = w.to }) way e) (k w refl)

transfer_ends : (t : PlanTable) (chosen : ℕ → Bool) → IsLargePlan t → (z : ℕ) (q : Posture) (way : Transfer) → z < zone_count (cut_table t chosen) → transfer_of (cut_table t chosen) z q ≡ Some way
    → Ends (is_inside t chosen) (place_count t) (exits_end (cut_at t chosen)) (exits_end (cut_at t chosen) + length (cut_at t chosen).entries) way.from way.to
transfer_ends t chosen p z q way l e = by q e
  where
    u : PlanTable
    u = cut_table t chosen

    n : ℕ
    n = place_count t

    m : ℕ
    m = exits_end (cut_at t chosen)

    bound : ℕ
    bound = m + length (cut_at t chosen).entries

    all : AllEnd (is_inside t chosen) n m bound (zone_row u z).inward × AllEnd (is_inside t chosen) n m bound (zone_row u z).outward
    all = zones_end (is_inside t chosen) n m bound n m t.zones (omega arith) (omega arith) (omega arith) (omega arith) (omega arith) (omega arith) (plan_within t p) z l

    by : (q : Posture) → transfer_of u z q ≡ Some way → Ends (is_inside t chosen) n m bound way.from way.to
    by Closed f = cc
    by Moving f = cc
    by OpenIn f = by_ends (is_inside t chosen) n m bound (guest_of u z) (host_of u z) (zone_row u z).inward way all.0 f
    by OpenOut f = by_ends (is_inside t chosen) n m bound (host_of u z) (guest_of u z) (zone_row u z).outward way all.1 f

inside_by : (a b d : Bool) → (a && not (b || d)) ≡ true → (b ≡ false) × (d ≡ false)
inside_by true false false e = (refl, refl)
inside_by true true d e = cc
inside_by true false true e = cc
inside_by false b d e = cc

pub is_cut_at : (t : PlanTable) (chosen : ℕ → Bool) → IsLargePlan t → IsCut (cut_at t chosen)
unfolding cut_row
is_cut_at t chosen p =
    let c = cut_at t chosen in
    let cut = is_inside t chosen in
    let within = plan_within t p in
    let own = all_append cut (place_count t) c.exits c.entries (exits_own cut (place_count t) t.zones within) (entries_own cut (place_count t) t.zones within) in
    let all = length-append c.exits c.entries in
    let owner : (x : ℕ) → is_cut c x ≡ true → cut x ≡ true = λ x e.
    let found = where_any (nat_eq x) (c.exits ++ c.entries) e in
    ap cut (eqb-true x _ found.2) ∙ (own found.0 found.1).inside in
    record {
      machines = refl;
      poses = refl;
      zones = zones_back c cut [] [] t.zones within refl refl (place_count t) (exits_end c) (omega arith) (omega arith);
      places = places_long t chosen;
      owners = λ q l. elim (cases_lt q (place_count t)) [
        | inl below ↦ subst (λ x. x < place_count t) (sym (itself c q below)) below
        | inr above ↦ subst (λ x. x < place_count t) (sym (not_below c q above)) (own (q - place_count t) (let long = places_long t chosen in omega (arith, l, long, above, all))).below
      ];
      keeper = λ q l. row_cases (λ r x. r.keeper ≡ keeper_of t x) t chosen q (subst (λ y. q < y) (places_long t chosen) l)
          (λ below. kept_by_row t c.exits c.entries q (list_any (nat_eq q) (c.exits ++ c.entries)) ∙ ap (keeper_of t) (sym (itself c q below))) (λ a b. refl) (λ b. refl);
      uncut = λ q l e. own_row t chosen q l ∙ uncut_by_row t c.exits c.entries q (list_any (nat_eq q) (c.exits ++ c.entries)) e;
      inside = λ q l e. inside_by (chosen q) (is_source t q) (is_sink t q) (owner q e);
      exit = λ q x exit. ap (λ (r : PlanPlace). r.source) (row_of_exit t chosen q exit.0 exit.1);
      entry = λ q x entry is. row_cases (λ r y. y ≡ x → (q < place_count t → q ≡ x) → (place_count t ≤ q → q < exits_end c → ⊥) → r.sink ≡ true) t chosen q entry.1
          (λ below _ same _. sink_by t c.exits c.entries q (list_any (nat_eq q) (c.exits ++ c.entries)) (ap (is_cut c) (same below) ∙ is))
          (λ a b _ _ never. absurd (never a b)) (λ b _ _ _. refl) entry.2 (λ below. sym (itself c q below) ∙ entry.2) (λ a b. no_exit c q x entry a b);
      several = λ q x entry many. row_cases (λ r y. y ≡ x → (q < place_count t → q ≡ x) → r.source ≡ true) t chosen q entry.1
          (λ below _ same. source_by t c.exits c.entries q (list_any (nat_eq q) (c.exits ++ c.entries)) (any_right (nat_eq q) c.exits c.entries (ap (λ y. list_any (nat_eq y) c.entries) (same below) ∙ many)) (ap (λ y. list_any (nat_eq y) c.entries) (same below) ∙ many))
          (λ a b _ _. refl) (λ b _ _. refl) entry.2 (λ below. sym (itself c q below) ∙ entry.2);
      starts = λ z q way l e.
          let h = transfer_ends t chosen p z q way l e in
          (h.from_below, λ m. false_from_ne_true (is_cut c way.from) (λ f. let x = sym (owner way.from f) ∙ h.uncut m in cc));
      ends = λ z q way l e. let h = transfer_ends t chosen p z q way l e in (h.to_entry, h.to_below, refl);
    }
  where
    no_exit : (c : Cut) (q x : ℕ) → IsEntry c q x → place_count c.plan ≤ q → q < exits_end c → ⊥
    no_exit c q x entry a b = elim entry.0 [ inl l ↦ absurd (omega (arith, l, a)) | inr m ↦ absurd (omega (arith, m, b)) ]

-- ---- a cut plan is a plan, but for limits

place_kept : (c : Cut) → IsCut c → (q m : ℕ) → q < place_count c.cut → is_place_of c.plan (place_of c q) m ≡ true → is_place_of c.cut q m ≡ true
place_kept c k q m l e =
    let parts = and_parts (nat_lt (place_of c q) (place_count c.plan)) (nat_eq (keeper_of c.plan (place_of c q)) m) e in
    and_from (nat_lt q (place_count c.cut)) (nat_eq (keeper_of c.cut q) m) (lt-ltb q (place_count c.cut) l) (ap (λ n. nat_eq n m) (k.keeper q l) ∙ parts.1)

leads_cut : (c : Cut) → IsCut c → (giver receiver : ℕ) (w : Option Way) → ((way : Way) → w ≡ Some way → (way.from < place_count c.cut) × (way.to < place_count c.cut)) → leads c.plan giver receiver (option_map (whole_way c) w) ≡ true
    → leads c.cut giver receiver w ≡ true
leads_cut c k giver receiver None ends e = refl
leads_cut c k giver receiver (Some w) ends e =
    let both = and_parts (is_place_of c.plan (place_of c w.from) giver) (is_place_of c.plan (place_of c w.to) receiver) e in
    let in_cut = ends w refl in
    and_from (is_place_of c.cut w.from giver) (is_place_of c.cut w.to receiver) (place_kept c k w.from giver in_cut.0 both.0) (place_kept c k w.to receiver in_cut.1 both.1)

way_there : (c : Cut) → IsCut c → (z : ℕ) (q : Posture) (way : Transfer) → z < zone_count c.cut → transfer_of c.cut z q ≡ Some way → (way.from < place_count c.cut) × (way.to < place_count c.cut)
way_there c k z q way l e =
    let from = (k.starts z q way l e).0 in
    let to = (k.ends z q way l e).1 in
    let long = k.places in
    (omega (arith, from, long), omega (arith, to, long))

pub cut_is_large : (c : Cut) → IsCut c → IsLargePlan c.plan → IsLargePlan c.cut
cut_is_large c k p =
    let in_plan : (z : ℕ) → z < zone_count c.cut → z < zone_count c.plan = λ z l. subst (λ n. z < n) (counts c k) l in
    let posed : (q z : ℕ) → posture_of c.cut q z ≡ posture_of c.plan q z = λ q z. ap (λ (ps : List PlanPose). get_or (get_or ps q no_pose).gives z None) k.poses in
    let machine : (q : ℕ) → machine_of c.cut q ≡ machine_of c.plan q = λ q. ap (λ (ps : List PlanPose). (get_or ps q no_pose).machine) k.poses in
    let poses : pose_count c.cut ≡ pose_count c.plan = ap (λ (ps : List PlanPose). length ps) k.poses in
    record {
      keeper_is_machine = λ q l. subst (λ m. m < c.cut.machines) (sym (k.keeper q l)) (subst (λ m. keeper_of c.plan (place_of c q) < m) (sym k.machines) (p.keeper_is_machine (place_of c q) (k.owners q l)));
      host_is_machine = λ z l. subst (λ m. m < c.cut.machines) (sym (hosts c k z)) (subst (λ m. host_of c.plan z < m) (sym k.machines) (p.host_is_machine z (in_plan z l)));
      guest_is_machine = λ z l. subst (λ m. m < c.cut.machines) (sym (guests c k z)) (subst (λ m. guest_of c.plan z < m) (sym k.machines) (p.guest_is_machine z (in_plan z l)));
      host_is_not_guest = λ z l e. p.host_is_not_guest z (in_plan z l) (sym (hosts c k z) ∙ (e ∙ guests c k z));
      inward_to_host = λ z l. leads_cut c k (guest_of c.cut z) (host_of c.cut z) (zone_row c.cut z).inward
          (λ way e. way_there c k z OpenIn (record { giver = guest_of c.cut z; receiver = host_of c.cut z; from = way.from; to = way.to }) l (ap (transfer_by (guest_of c.cut z) (host_of c.cut z)) e))
          (subst (λ (r : PlanZone). leads c.plan r.guest r.host r.inward ≡ true) (rows c k z) (p.inward_to_host z (in_plan z l)));
      outward_to_guest = λ z l. leads_cut c k (host_of c.cut z) (guest_of c.cut z) (zone_row c.cut z).outward
          (λ way e. way_there c k z OpenOut (record { giver = host_of c.cut z; receiver = guest_of c.cut z; from = way.from; to = way.to }) l (ap (transfer_by (host_of c.cut z) (guest_of c.cut z)) e))
          (subst (λ (r : PlanZone). leads c.plan r.host r.guest r.outward ≡ true) (rows c k z) (p.outward_to_guest z (in_plan z l)));
      pose_of_machine = λ q l. subst (λ m. m < c.cut.machines) (sym (machine q)) (subst (λ m. machine_of c.plan q < m) (sym k.machines) (p.pose_of_machine q (subst (λ n. q < n) poses l)));
      pose_of_host = λ q z posture l e.
          let h = p.pose_of_host q z posture (subst (λ n. q < n) poses l) (sym (posed q z) ∙ e) in
          (subst (λ n. z < n) (sym (counts c k)) h.0, hosts c k z ∙ (h.1 ∙ sym (machine q)));
      one_host_a_space = λ z l. ap (host_of c.cut) (spaces_same c k z) ∙ (hosts c k (space_of c.plan z) ∙ (p.one_host_a_space z (in_plan z l) ∙ sym (hosts c k z)));
      guests_differ = λ y z l m same guest. p.guests_differ y z l (in_plan z m) (sym (spaces_same c k y) ∙ (same ∙ spaces_same c k z)) (sym (guests c k y) ∙ (guest ∙ guests c k z));
      space_moves_whole = λ q z l m.
          ap (λ o. is_alike o (posture_of c.cut q z)) (posed q (space_of c.cut z) ∙ ap (posture_of c.plan q) (spaces_same c k z))
          ∙ (ap (is_alike (posture_of c.plan q (space_of c.plan z))) (posed q z) ∙ p.space_moves_whole q z (subst (λ n. q < n) poses l) (in_plan z m));
    }

pub cuts_are_cut : CutsAreCut
cuts_are_cut = record { cut = is_cut_at; large = cut_is_large }
