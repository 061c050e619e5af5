-- States of the words, put together.
use Rattle.std.proofs.Common.{◌≡◌, ℕ, ◌<◌, ◌≤◌, ◌⊎◌, inl, inr, Bool, false, map, refl, sym, subst, ap, ◌∙◌, arith}
use Rattle.std.specs.List.{range_with_len}
use Rattle.std.proofs.lemmas.Bool.{cases_lt}
use Rattle.std.proofs.lemmas.List.{length-map}
use Rattle.std.proofs.lemmas.List.FromFn.{length-range_with_len, get_or-map-range_with_len}
use Rattle.plan_types.specs.Table.{PlanTable, zone_count, place_count}
use Rattle.plan_rules.specs.declared.state.ZoneState.{ZoneState}
use Rattle.plan_rules.specs.declared.state.State.{State}
use Rattle.plan_rules.specs.State.{free_zone, zone_at, is_full}
use Rattle.plan_words.specs.Group.{zone_out, place_out, HasZone, HasPlace}
use Rattle.plan_words.specs.Run.{Word, IsLaidOut}
use Rattle.plan_words.specs.Joined.{StatesAreWhole, HazardsAreDecided}
use Rattle.plan_words.proofs.Answers.{rising_apart}
use Rattle.plan_words.proofs.Motors.{permitted_by_words}

-- a zone, and a place, in the state of the word that has it
zone_of : (t : PlanTable) (count : ℕ) (words : ℕ → Word) (states : ℕ → State) → IsLaidOut t count words → (z : ℕ) → (z < zone_count t) ⊎ (zone_count t ≤ z) → ZoneState
zone_of t count words states is z (inl l) = let at = is.zone_somewhere z l in zone_at (states at.0) at.2.0
zone_of t count words states is z (inr m) = free_zone

place_of : (t : PlanTable) (count : ℕ) (words : ℕ → Word) (states : ℕ → State) → IsLaidOut t count words → (p : ℕ) → (p < place_count t) ⊎ (place_count t ≤ p) → Bool
place_of t count words states is p (inl l) = let at = is.place_somewhere p l in is_full (states at.0) at.2.0
place_of t count words states is p (inr m) = false

same_zone : (t : PlanTable) (count : ℕ) (words : ℕ → Word) (states : ℕ → State) → IsLaidOut t count words → (n k z : ℕ) → n < count → n ≡ k → (a : HasZone (words n).group z) (b : HasZone (words k).group z)
    → zone_at (states n) a.0 ≡ zone_at (states k) b.0
same_zone t count words states is n k z l e a b =
    (subst (λ j. (c : HasZone (words j).group z) → zone_at (states n) a.0 ≡ zone_at (states j) c.0) e
    (λ c. ap (zone_at (states n)) (rising_apart (words n).group.zones (zone_count t) a.0 c.0 (is.group n l).zones a.1 c.1 (a.2 ∙ sym c.2)))) b

same_place : (t : PlanTable) (count : ℕ) (words : ℕ → Word) (states : ℕ → State) → IsLaidOut t count words → (n k p : ℕ) → n < count → n ≡ k → (a : HasPlace (words n).group p) (b : HasPlace (words k).group p)
    → is_full (states n) a.0 ≡ is_full (states k) b.0
same_place t count words states is n k p l e a b =
    (subst (λ j. (c : HasPlace (words j).group p) → is_full (states n) a.0 ≡ is_full (states j) c.0) e
    (λ c. ap (is_full (states n)) (rising_apart (words n).group.places (place_count t) a.0 c.0 (is.group n l).places a.1 c.1 (a.2 ∙ sym c.2)))) b

zone_is : (t : PlanTable) (count : ℕ) (words : ℕ → Word) (states : ℕ → State) (is : IsLaidOut t count words) (k z : ℕ) → k < count → z < zone_count t → (b : HasZone (words k).group z) (c : (z < zone_count t) ⊎ (zone_count t ≤ z))
    → zone_of t count words states is z c ≡ zone_at (states k) b.0
unfolding zone_of
zone_is t count words states is k z l m b (inl h) =
    let at = is.zone_somewhere z h in
    same_zone t count words states is at.0 k z at.1 (is.one_word_a_zone at.0 k z at.1 l at.2 b) at.2 b
zone_is t count words states is k z l m b (inr h) = absurd (omega (arith, m, h))

place_is : (t : PlanTable) (count : ℕ) (words : ℕ → Word) (states : ℕ → State) (is : IsLaidOut t count words) (k p : ℕ) → k < count → p < place_count t → (b : HasPlace (words k).group p) (c : (p < place_count t) ⊎ (place_count t ≤ p))
    → place_of t count words states is p c ≡ is_full (states k) b.0
unfolding place_of
place_is t count words states is k p l m b (inl h) =
    let at = is.place_somewhere p h in
    same_place t count words states is at.0 k p at.1 (is.one_word_a_place at.0 k p at.1 l at.2 b) at.2 b
place_is t count words states is k p l m b (inr h) = absurd (omega (arith, m, h))

pub states_are_whole : (t : PlanTable) (count : ℕ) (words : ℕ → Word) → IsLaidOut t count words → StatesAreWhole t count words
states_are_whole t count words is states sound =
    let zone : ℕ → ZoneState = λ z. zone_of t count words states is z (cases_lt z (zone_count t)) in
    let place : ℕ → Bool = λ p. place_of t count words states is p (cases_lt p (place_count t)) in (
      record { zones = map zone (range_with_len 0 (zone_count t)); full = map place (range_with_len 0 (place_count t)); stamp = 0; stopped = false },
      record {
        zones = length-map (range_with_len 0 (zone_count t)) zone ∙ length-range_with_len 0 (zone_count t);
        places = length-map (range_with_len 0 (place_count t)) place ∙ length-range_with_len 0 (place_count t);
        is_in = λ n l. record {
          zone = λ i h.
              let z = zone_out (words n).group i in
              let below = (is.group n l).zones.below i h in
              get_or-map-range_with_len zone 0 (zone_count t) z z free_zone below (omega arith)
              ∙ zone_is t count words states is n z l below (i, h, refl) (cases_lt z (zone_count t));
          place = λ j h.
              let p = place_out (words n).group j in
              let below = (is.group n l).places.below j h in
              get_or-map-range_with_len place 0 (place_count t) p p false below (omega arith)
              ∙ place_is t count words states is n p l below (j, h, refl) (cases_lt p (place_count t));
        };
        sound = sound;
      },
    )

pub hazards_are_decided : (t : PlanTable) (count : ℕ) (words : ℕ → Word) → IsLaidOut t count words → HazardsAreDecided t count words
hazards_are_decided t count words is states a b sound one two =
    let w = states_are_whole t count words is states sound in
    (w.0, w.1, (permitted_by_words t count words is states w.0 a w.1).1 one, (permitted_by_words t count words is states w.0 b w.1).1 two)
