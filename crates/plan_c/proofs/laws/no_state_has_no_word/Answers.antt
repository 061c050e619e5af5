use Rattle.std.proofs.Common.{◌≡◌, ℕ, zero, suc, ◌+◌, ◌-◌, ◌*◌, ◌/◌, ◌%◌, ◌^◌, ◌<◌, ◌≤◌, ap, sym, ◌∙◌, Bool, true, false, Some, IsTrue}
use Rattle.std.proofs.Common.{nat_eq, nat_lt, if◌then◌else◌, refl, subst, arith, rules, lit≤, eq-eqb}
use Rattle.std.proofs.Math.Nat.{pow-le-pow_right}
use Rattle.plan_types.specs.declared.posture.Posture.TheVariants.{Closed}
use Rattle.plan_types.specs.declared.shape.Postures.{Postures}
use Rattle.plan_types.specs.declared.shape.Postures.TheVariants.{Shut, Two, All}
use Rattle.plan_types.specs.Table.{PlanTable, zone_count, guest_of, zone_shape, postures_of, flag_bits, owner_bits, posture_bits}
use Rattle.plan_rules.specs.declared.state.State.{State}
use Rattle.plan_rules.specs.State.{zone_at}
use Rattle.plan_rules.specs.Sound.{implies, is_open, is_owned_by}
use Rattle.plan_word.specs.declared.layout.Field.TheVariants.{Zone}
use Rattle.plan_word.specs.Layout.{counts_of, shape_at, zones_end, width_of}
use Rattle.plan_word.specs.Laws.{IsLaidOut}
use Rattle.plan_word.specs.OfPlan.{IsOfPlan}
use Rattle.plan_word.specs.Packed.{packed, held, owner_code, flag_values, rest_in}
use Rattle.plan_word.specs.Reading.{told, owner_of_code, posture_told}
use Rattle.plan_word.proofs.lemmas.Guests.{owner_back, shape_guests}
use Rattle.plan_word.proofs.lemmas.RoundTrip.{told_posture}
use Rattle.plan_word.proofs.lemmas.Shapes.{shape_is}
use Rattle.plan_c.specs.Replies.{no_word}
use Rattle.plan_c.proofs.laws.no_state_has_no_word.Goals as goal

-- ---- with no zone the word is short

short : (t : PlanTable) (s : State) → IsOfPlan t s → IsLaidOut t s → zone_count t ≡ 0 → packed t s ≡ no_word → ⊥
short t s of laid none e =
    let plan = of.plan in
    let end : zones_end (counts_of t) (zone_count t) ≡ 0 = ap (zones_end (counts_of t)) none in
    let narrow : width_of (counts_of t) ≤ 37 = omega (arith, end, plan.places_at_most) in
    let most : 2 ^ width_of (counts_of t) ≤ 2 ^ 37 = pow-le-pow_right (lit≤ tt) narrow in
    omega (arith, laid.bound, most, e)

-- ---- else the first zone is closed, and its guest's

-- its field has two bits at least, and seven at most
lowest : (j : ℕ) → j ≤ 5 → no_word / 2 ^ 0 % 2 ^ (2 + j) ≡ 2
lowest zero l = refl
lowest (suc zero) l = refl
lowest (suc (suc zero)) l = refl
lowest (suc (suc (suc zero))) l = refl
lowest (suc (suc (suc (suc zero)))) l = refl
lowest (suc (suc (suc (suc (suc zero))))) l = refl
lowest (suc (suc (suc (suc (suc (suc j)))))) l = absurd (omega (arith, l))

two_told : (bits : ℕ) → 2 ≤ bits → bits ≤ 7 → no_word / 2 ^ 0 % 2 ^ bits ≡ 2
two_told bits least most =
    let rest : 2 + (bits - 2) ≡ bits = omega (arith, least) in
    subst (λ n. no_word / 2 ^ 0 % 2 ^ n ≡ 2) rest (lowest (bits - 2) (omega (arith, most)))

few_owners : (a b : Bool) → (2 ≤ (if a then 2 else if b then 3 else 4)) × ((if a then 2 else if b then 3 else 4) ≤ 4)
few_owners true b = (lit≤ tt, lit≤ tt)
few_owners false true = (lit≤ tt, lit≤ tt)
few_owners false false = (lit≤ tt, lit≤ tt)

one_flag : (flag : Bool) → flag_bits flag ≤ 1
one_flag true = lit≤ tt
one_flag false = lit≤ tt

few_postures : (p : Postures) → posture_bits p ≤ 2
few_postures Shut = lit≤ tt
few_postures (Two other) = lit≤ tt
few_postures All = lit≤ tt

field_told : (guests : ℕ) (flag : Bool) (p : Postures) → 0 < guests
    → no_word / 2 ^ 0 % 2 ^ (owner_bits guests + flag_bits flag + posture_bits p) ≡ 2
field_told zero flag p some = absurd (omega (arith, some))
field_told (suc more) flag p some =
    let owners = few_owners (nat_lt more 2) (nat_lt more 6) in
    let one = one_flag flag in
    let two = few_postures p in
    two_told (owner_bits (suc more) + flag_bits flag + posture_bits p) (omega (arith, owners.0)) (omega (arith, owners.1, one, two))

-- so nothing is above the owner's number, which is 2
apart : (a b : Bool) (rest owner : ℕ) → rest * 2 ^ (if a then 2 else if b then 3 else 4) + owner ≡ 2 → (rest ≡ 0) × (owner ≡ 2)
apart true b rest owner e = (omega (arith, e), omega (arith, e))
apart false true rest owner e = (omega (arith, e), omega (arith, e))
apart false false rest owner e = (omega (arith, e), omega (arith, e))

parts_of : (guests rest owner : ℕ) → 0 < guests → rest * 2 ^ owner_bits guests + owner ≡ 2 → (rest ≡ 0) × (owner ≡ 2)
parts_of zero rest owner some e = absurd (omega (arith, some))
parts_of (suc more) rest owner some e = apart (nat_lt more 2) (nat_lt more 6) rest owner e

no_code : (flag : Bool) (plate code : ℕ) → plate + flag_values flag * code ≡ 0 → code ≡ 0
no_code true plate code e = omega (arith, e)
no_code false plate code e = omega (arith, e)

closed : (p : Postures) → posture_told p 0 ≡ Closed
closed Shut = refl
closed (Two other) = refl
closed All = refl

first_guest : (b : Bool) → (if b then 0 + 0 else 0) ≡ 0
first_guest true = refl
first_guest false = refl

never : (b : Bool) → b ≡ true → implies b false ≡ true → ⊥
never true e h = cc
never false e h = cc

long : (t : PlanTable) (s : State) (n : ℕ) → IsOfPlan t s → IsLaidOut t s → zone_count t ≡ suc n → packed t s ≡ no_word → ⊥
long t s n of laid some e =
    let has : IsTrue (nat_lt 0 (zone_count t)) = rw some (search rules) in
    let inside : 0 < zone_count t = omega (arith, some) in
    let shape = zone_shape t 0 in
    let v = zone_at s 0 in
    let g = guest_of t 0 in
    let counted = shape_guests t 0 refl in
    let guests : 0 < shape.guests = omega (arith, counted) in
    let laid_out = shape_at (counts_of t) 0 in
    let laid_guests : 0 < laid_out.guests = let same = ap (λ sh. sh.guests) (shape_is t 0) in omega (arith, same, guests) in
    let two : told (counts_of t) no_word (Zone 0) ≡ 2 = field_told laid_out.guests laid_out.flag (postures_of laid_out) laid_guests in
    let field : told (counts_of t) no_word (Zone 0) ≡ held t s (Zone 0) =
    subst (λ w. told (counts_of t) w (Zone 0) ≡ held t s (Zone 0)) e (laid.reads_back (Zone 0) has) in
    let parts = parts_of shape.guests (rest_in shape v) (owner_code t 0 v.owner) guests (sym field ∙ two) in
    let lawful = of.sound.zone_is_lawful 0 inside in
    let owner : v.owner ≡ Some g =
    sym (owner_back t 0 v.owner of.plan inside refl lawful.owner_is_party) ∙ ap (owner_of_code t 0) parts.1
    ∙ ap (λ z. Some (guest_of t z)) (first_guest (nat_lt 0 shape.guests)) in
    let posture : v.posture ≡ Closed =
    sym (told_posture (postures_of shape) v.posture (of.postures_told 0 inside))
    ∙ ap (posture_told (postures_of shape)) (no_code shape.flag _ _ parts.0) ∙ closed (postures_of shape) in
    let is_shut : IsTrue (implies (is_owned_by (Some g) g) (is_open Closed)) =
    subst (λ o. IsTrue (implies (is_owned_by o g) (is_open Closed))) owner
    (subst (λ q. IsTrue (implies (is_owned_by v.owner g) (is_open q))) posture lawful.guest_only_while_open) in
    never (nat_eq g g) (eq-eqb g g refl) is_shut

either : (t : PlanTable) (s : State) (n : ℕ) → IsOfPlan t s → IsLaidOut t s → zone_count t ≡ n → packed t s ≡ no_word → ⊥
either t s zero of laid is e = short t s of laid is e
either t s (suc n) of laid is e = long t s n of laid is e

pub returns : goal.returns
returns c = λ t s plan of e. either t s (zone_count t) of (c.words_are_laid_out.ensures t s of) refl e
