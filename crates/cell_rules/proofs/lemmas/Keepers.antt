-- A machine's own places stay while it makes no event.
use Rattle.cell_rules.proofs.Names.{◌≡◌, ◌+◌, Bool, true, false, ◌||◌, ◌&&◌, cond, List, [], ◌∷◌, ◌++◌, refl, ap, ◌∙◌, Machine, Zone, Z1, Place, Call, Give, Take, Advance, Event, same_machine, keeper_of, ModelState, is_full, one_if, IsSound, implies, reply, next, changed, after, IsLegal, own_events, fills, empties, RightLasts}
use Rattle.cell_rules.proofs.lemmas.Tables.{machines, zones, places, holds3, and_left, and_right}
use Rattle.cell_rules.proofs.lemmas.CountedPlates.{place-changed}
use Rattle.cell_rules.proofs.lemmas.Histories.{after-append, sound-after}
use Rattle.cell_rules.proofs.lemmas.Soundness.{next_keeps, next_cases}
use Rattle.cell_rules.proofs.lemmas.Lasting.{right_lasts_held, right_lasts_zone, own_head}
use Rattle.cell_rules.proofs.Unposed.{right_lasts_posture}

-- a machine keeps each place that it fills or empties
abbrev changes : Machine → Call → Place → Bool
changes n c p = fills n c p || empties n c p

abbrev keeper_test : Machine → Call → Place → Bool
keeper_test n c p = implies (changes n c p) (same_machine n (keeper_of p))

abbrev all_calls_test : Machine → Zone → Place → Bool
all_calls_test n z p = keeper_test n (Give z) p && (keeper_test n (Take z) p && keeper_test n Advance p)

all_calls : (n : Machine) (z : Zone) (p : Place) → all_calls_test n z p ≡ true
all_calls = holds3 machines zones places all_calls_test refl

by_keeper : (n : Machine) (c : Call) (p : Place) → keeper_test n c p ≡ true
by_keeper n (Give y) p = and_left _ _ (all_calls n y p)
by_keeper n (Take y) p = and_left _ _ (and_right _ _ (all_calls n y p))
by_keeper n Advance p = and_right _ _ (and_right _ _ (all_calls n Z1 p))
by_keeper n _ p = refl

-- if nothing is added or dropped, the bit is the same
same_bit : (f d k a b : Bool) → implies (f || d) k ≡ true → k ≡ false → one_if a + cond f 1 0 ≡ one_if b + cond d 1 0 → b ≡ a
same_bit false false k true true i o e = refl
same_bit false false k false false i o e = refl
same_bit _ _ k a b i o e = cc

full-next : (s : ModelState) (n : Machine) (c : Call) (p : Place) → IsSound s → same_machine n (keeper_of p) ≡ false → is_full (next s n c) p ≡ is_full s p
full-next s n c p k apart =
    next_cases (λ b t. is_full t p ≡ is_full s p) s n c (reply s n c)
    (λ e. same_bit (fills n c p) (empties n c p) (same_machine n (keeper_of p)) (is_full s p) (is_full (changed s n c) p) (by_keeper n c p) apart (place-changed p s n c k e)) refl

full-after : (s : ModelState) (h : List Event) (p : Place) → IsSound s → own_events h (keeper_of p) ≡ [] → is_full (after s h) p ≡ is_full s p
full-after s [] p k none = refl
full-after s (e ∷ h) p k none =
    let m = keeper_of p in
    let apart = own_head (same_machine e.machine m) e (own_events h m) none in
    full-after (next s e.machine e.call) h p (next_keeps s e.machine e.call k) apart.1 ∙ full-next s e.machine e.call p k apart.0

pub right_lasts_places : (s : ModelState) (before more : List Event) → IsSound s → (p : Place) → own_events more (keeper_of p) ≡ [] → is_full (after s (before ++ more)) p ≡ is_full (after s before) p
right_lasts_places s before more k p none =
    ap (λ (x : ModelState). is_full x p) (after-append s before more) ∙ full-after (after s before) more p (sound-after s before k) none

-- what a machine holds, its own places and the postures that it gives last while others make the events
pub right_lasts : (s : ModelState) (before more : List Event) → IsSound s → IsLegal s (before ++ more) → RightLasts s before more
right_lasts s before more k l = record {
  held = right_lasts_held s before more k l;
  zone = right_lasts_zone s before more k l;
  places = right_lasts_places s before more k;
  posture = right_lasts_posture s before more;
}
