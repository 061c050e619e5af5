-- A plate on its way: the place that it comes to is empty, on its word and in the cut plan.
use Rattle.std.proofs.Common.{◌≡◌, ℕ, ◌+◌, ◌<◌, ◌≤◌, Bool, true, false, Option, Some, None, option_map, refl, sym, subst, ap, ◌∙◌, arith}
use Rattle.plan_types.specs.declared.table.Transfer.{Transfer}
use Rattle.plan_types.specs.Table.{PlanTable, zone_count, transfer_of}
use Rattle.plan_rules.specs.declared.state.ZoneState.{ZoneState}
use Rattle.plan_rules.specs.declared.state.State.{State}
use Rattle.plan_rules.specs.State.{zone_at, owner_of, posture_at, is_full, one_if, is_coming}
use Rattle.plan_rules.specs.Sound.{IsSound, is_received_by}
use Rattle.plan_rules.proofs.lemmas.Puts.{nat_eq-self}
use Rattle.plan_rules.proofs.lemmas.Below.{sum_below_at_least}
use Rattle.plan_rules.proofs.lemmas.Plates.{comes}
use Rattle.plan_rules.proofs.lemmas.Zones.{implied, owner_is}
use Rattle.plan_words.specs.Run.{Word, IsLaidOut, IsWhole}
use Rattle.plan_words.proofs.Answers.{transfer_out, transfer_same, ways_in}

-- ---- a plate in a zone, on its word

pub record Comes (t : PlanTable) (s : State) (z : ℕ) : Type 0 where
  pub way : Transfer
  pub is : transfer_of t z (posture_at s z) ≡ Some way
  pub empty : is_full s way.to ≡ false
  pub owner : owner_of s z ≡ Some way.receiver

received : (o : Option ℕ) (w : Option Transfer) → is_received_by o w ≡ true → (way : Transfer) × (w ≡ Some way) × (o ≡ Some way.receiver)
received o None e = cc
received o (Some way) e = (way, refl, owner_is o way.receiver e)

no_more : (b : Bool) (n : ℕ) → 1 ≤ n → one_if b + n ≤ 1 → b ≡ false
no_more true n l m = absurd (omega (arith, l, m))
no_more false n l m = refl

word_comes : (t : PlanTable) (s : State) (z : ℕ) → IsSound t s → z < zone_count t → (zone_at s z).flag ≡ true → Comes t s z
word_comes t s z k l flag =
    let way = received (owner_of s z) (transfer_of t z (posture_at s z)) (implied (zone_at s z).flag (is_received_by (owner_of s z) (transfer_of t z (posture_at s z))) (k.zone_is_lawful z l).flag_has_transfer flag) in
    let here = comes t (zone_at s z) z way.0.to way.0 flag way.1 ∙ ap one_if (nat_eq-self way.0.to) in
    let least = sum_below_at_least (λ y. one_if (is_coming t (zone_at s y) way.0.to y)) z (zone_count t) l in
    record { way = way.0; is = way.1; owner = way.2; empty = no_more (is_full s way.0.to) _ (omega (arith, here, least)) (k.one_plate_a_place way.0.to) }

-- and in the plan of all words
pub all_come : (t : PlanTable) (count : ℕ) (words : ℕ → Word) → IsLaidOut t count words → (states : ℕ → State) (there : State) → IsWhole t count words states there → (z : ℕ) → z < zone_count t → (zone_at there z).flag ≡ true → Comes t there z
all_come t count words is states there w z l flag =
    let on = is.zone_somewhere z l in
    let n = on.0 in
    let i = on.2.0 in
    let g = (words n).group in
    let u = (words n).table in
    let s = states n in
    let table = is.table n on.1 in
    let same : zone_at there z ≡ zone_at s i = ap (zone_at there) (sym on.2.2) ∙ (w.is_in n on.1).zone i on.2.1 in
    let here = word_comes u s i (w.sound n on.1) (subst (λ a. i < a) (sym table.zone_count) on.2.1) (sym (ap (λ (v : ZoneState). v.flag) same) ∙ flag) in
    let q = posture_at s i in
    let in_group = (ways_in t g u table (is.plan n on.1) i q here.way on.2.1 here.is).1 in
    record {
      way = transfer_out g here.way;
      is = ap (λ (v : ZoneState). transfer_of t z v.posture) same ∙ (ap (λ y. transfer_of t y q) (sym on.2.2) ∙ (transfer_same t g u table i q on.2.1 ∙ ap (option_map (transfer_out g)) here.is));
      owner = ap (λ (v : ZoneState). v.owner) same ∙ here.owner;
      empty = (w.is_in n on.1).place here.way.to in_group ∙ here.empty;
    }
