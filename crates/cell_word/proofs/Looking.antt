-- A call looks at some zones and places, at the mark and at the stamp. Its guards are tested at all values of these.
use Rattle.cell_word.proofs.Names.{◌≡◌, ℕ, Bool, true, false, ◌||◌, ◌&&◌, nat_eq, Option, Some, None, option_map, List, [], ◌∷◌, ◌++◌, refl, ap₂, ◌∙◌, eqb-true, if◌then◌else◌, bit_and, bit_or, and_parts, find, list_all, Machine, Feed, Press, Deposit, Zone, Z1, Z2, Z3, Z4, Z5, Z6, Place, FeedEntry, FeedEnd, PressIn, PressOut, DepEntry, DepEnd, Table, Transfer, Call, Claim, Give, Yield, Take, Release, SetPose, Advance, Refusal, same_machine, same_zone, same_pose, Running}
use Rattle.cell_word.proofs.Names.{ZoneState, everywhere, free_zone, put_zone, empty, ModelState, model_state, zone_at, is_full, last_stamp, IsSound, implies, refusal, and_left, and_right, implied, all_bools, from_bools, all_states, from_states, machines, holds2, packed, stands, first_refusal, guards_of, Guard}
use Rattle.cell_types.specs.declared.machine.Machine.TheVariants.{Table as TableMachine}
use Rattle.cell_rules.specs.PlaceSet.{put_place}
use Rattle.cell_rules.specs.Refusals
use Rattle.cell_word.specs.Guards as guards
use Rattle.cell_word.proofs.SameAnswer.{same_answer}
use Rattle.cell_word.proofs.Windows.{and_or, is_within, stands-window, next}
use Rattle.cell_word.proofs.Seen.{zone_window, zone_word, place_window, place_word, mark_window, mark_word, zone_shown, place_shown, is_lawful, lawful_at}
use Rattle.cell_word.proofs.Possible.{calls}

-- ---- what a call looks at
abbrev pub ends_of : Option Transfer → List Place
ends_of None = []
ends_of (Some row) = row.from ∷ row.to ∷ []

abbrev pub Sight : Type 0
Sight = List Zone × List Place

abbrev pub and_also : Sight → Sight → Sight
and_also a b = (a.0 ++ b.0, a.1 ++ b.1)

-- feed uses z1 by z6
abbrev pub leaves : Machine → Zone → Sight
leaves m z = if same_machine m Feed && same_zone z Z1 then (z ∷ Z6 ∷ [], FeedEnd ∷ []) else (z ∷ [], [])

abbrev pub own : Machine → Sight
own Feed = (Z6 ∷ [], FeedEntry ∷ [])
own TableMachine = (Z1 ∷ Z2 ∷ [], Table ∷ [])
own Press = (Z3 ∷ [], PressIn ∷ PressOut ∷ [])
own Deposit = (Z4 ∷ Z5 ∷ [], DepEntry ∷ [])
own _ = ([], [])

-- a belt's end, and the zone into which feed runs
abbrev pub end : Machine → Sight
end Feed = (Z1 ∷ [], FeedEnd ∷ [])
end Deposit = ([], DepEnd ∷ [])
end _ = ([], [])

abbrev pub looks : Machine → Call → Sight
looks m (Claim z) = (z ∷ [], [])
looks m (Give z) = (z ∷ [], ends_of (guards.row_given m z))
looks m (Yield z) = leaves m z
looks m (Take z) = (z ∷ [], [])
looks m (Release z) = leaves m z
looks m (SetPose p) = if Refusals.has_pose m p then (if same_pose p Running then and_also (own m) (end m) else own m) else ([], [])
looks m Advance = and_also (own m) (end m)
looks m _ = ([], [])

-- ---- a word and a state that have these of a state, and nothing else
abbrev pub Part : Type 0
Part = ℕ × ModelState

abbrev pub nothing_yet : Part
nothing_yet = (0, model_state (everywhere free_zone) empty 0 false)

abbrev pub with_zone : Part → Zone → ZoneState → Part
with_zone x z v = (bit_or x.0 (zone_word z v), record x.1 { zones = put_zone x.1.zones z v })

abbrev pub with_place : Part → Place → Bool → Part
with_place x p b = (bit_or x.0 (place_word p b), record x.1 { full = put_place x.1.full p b })

abbrev pub with_rest : Part → Bool → ℕ → Part
with_rest x stopped stamp = (bit_or x.0 (mark_word stopped), model_state x.1.zones x.1.full stamp stopped)

abbrev pub part_of : List Zone → List Place → ModelState → Part → Part
part_of [] [] s x = x
part_of [] (p ∷ ps) s x = part_of [] ps s (with_place x p (is_full s p))
part_of (z ∷ zs) ps s x = part_of zs ps s (with_zone x z (zone_at s z))

-- a test of all parts
abbrev pub all_parts : List Zone → List Place → (Part → Bool) → Part → Bool
all_parts [] [] P x = P x
all_parts [] (p ∷ ps) P x = all_bools (λ b. all_parts [] ps P (with_place x p b))
all_parts (z ∷ zs) ps P x = all_states (λ v. implies (is_lawful z v) (all_parts zs ps P (with_zone x z v)))

pub from_parts : (zs : List Zone) (ps : List Place) (P : Part → Bool) (x : Part) → all_parts zs ps P x ≡ true → (s : ModelState) → IsSound s → P (part_of zs ps s x) ≡ true
from_parts [] [] P x e s sound = e
from_parts [] (p ∷ ps) P x e s sound = from_parts [] ps P (with_place x p (is_full s p)) (from_bools (λ b. all_parts [] ps P (with_place x p b)) e (is_full s p)) s sound
from_parts (z ∷ zs) ps P x e s sound =
    let test = λ (v : ZoneState). implies (is_lawful z v) (all_parts zs ps P (with_zone x z v)) in
    from_parts zs ps P (with_zone x z (zone_at s z)) (implied (is_lawful z (zone_at s z)) _ (from_states test e (zone_at s z)) (lawful_at s sound z)) s sound

-- what the word of a state shows of these
abbrev pub window : List Zone → List Place → ℕ → ℕ
window [] [] n = n
window [] (p ∷ ps) n = window [] ps (bit_or n (place_window p))
window (z ∷ zs) ps n = window zs ps (bit_or n (zone_window z))

pub shows : (zs : List Zone) (ps : List Place) (s : ModelState) → IsSound s → (n : ℕ) (x : Part) → bit_and (packed s) n ≡ x.0 → bit_and (packed s) (window zs ps n) ≡ (part_of zs ps s x).0
shows [] [] s sound n x e = e
shows [] (p ∷ ps) s sound n x e = shows [] ps s sound (bit_or n (place_window p)) (with_place x p (is_full s p)) (and_or (packed s) n (place_window p) ∙ ap₂ bit_or e (place_shown s sound p))
shows (z ∷ zs) ps s sound n x e = shows zs ps s sound (bit_or n (zone_window z)) (with_zone x z (zone_at s z)) (and_or (packed s) n (zone_window z) ∙ ap₂ bit_or e (zone_shown s sound z))

-- ---- a row of guards within a window, where the guard of the stamp answers as it is told
abbrev pub is_worn : Guard → Bool
is_worn g = nat_eq g.pattern.mask guards.worn.pattern.mask && nat_eq g.pattern.wanted guards.worn.pattern.wanted

abbrev pub sees : ℕ → Bool → Guard → Bool
sees v worn g = if is_worn g then worn else stands v g.pattern

abbrev pub first_seen : ℕ → Bool → List Guard → Option Refusal
first_seen v worn row = option_map (λ g. g.refusal) (find (sees v worn) row)

abbrev pub all_seen : ℕ → List Guard → Bool
all_seen n row = list_all (λ g. is_worn g || is_within n g) row

guard_seen : (w n : ℕ) (worn : Bool) (g : Guard) → stands w guards.worn.pattern ≡ worn → (b : Bool) → is_worn g ≡ b → (b || is_within n g) ≡ true → stands w g.pattern ≡ (if b then worn else stands (bit_and w n) g.pattern)
guard_seen w n worn g e true is h =
    let both = and_parts (nat_eq g.pattern.mask guards.worn.pattern.mask) (nat_eq g.pattern.wanted guards.worn.pattern.wanted) is in
    ap₂ (λ mask wanted. nat_eq (bit_and w mask) wanted) (eqb-true _ _ both.0) (eqb-true _ _ both.1) ∙ e
guard_seen w n worn g e false is h = stands-window w n g.pattern h

pub row_seen : (w n : ℕ) (worn : Bool) (row : List Guard) → stands w guards.worn.pattern ≡ worn → all_seen n row ≡ true → first_refusal w row ≡ first_seen (bit_and w n) worn row
row_seen w n worn [] e h = refl
row_seen w n worn (g ∷ gs) e h =
    next (stands w g.pattern) (sees (bit_and w n) worn g) g (find (λ g. stands w g.pattern) gs) (find (sees (bit_and w n) worn) gs)
    (guard_seen w n worn g e (is_worn g) refl (and_left (is_worn g || is_within n g) (all_seen n gs) h))
    (row_seen w n worn gs e (and_right (is_worn g || is_within n g) (all_seen n gs) h))

-- ---- the test
abbrev pub stamp_if : Bool → ℕ
stamp_if worn = if worn then last_stamp else 0

abbrev pub part_test : Machine → Call → Part → Bool → Bool → Bool
part_test m c x stopped worn = let y = with_rest x stopped (stamp_if worn) in same_answer (first_seen y.0 worn (guards_of m c)) (refusal y.1 m c)

abbrev pub call_window : Machine → Call → ℕ
call_window m c = bit_or (window (looks m c).0 (looks m c).1 0) mark_window

abbrev pub call_test : Machine → Call → Bool
call_test m c =
    all_seen (call_window m c) (guards_of m c) && all_parts (looks m c).0 (looks m c).1 (λ x. all_bools (λ stopped. all_bools (part_test m c x stopped))) nothing_yet

pub all_calls_tested : (m : Machine) (c : Call) → call_test m c ≡ true
all_calls_tested = holds2 machines calls call_test refl
