-- Each start of the plan is one of its words.
use Rattle.std.proofs.Common.{◌≡◌, ℕ, zero, suc, ◌-◌, ◌<◌, ◌≤◌, Bool, false, List, length, map, get_or, replicate, refl, sym, subst, ◌∙◌, arith}
use Rattle.std.proofs.lemmas.List.{get_or-map, length-map, length-append, length-replicate, get_or_append_left}
use Rattle.plan_types.specs.Table.{PlanTable, zone_count}
use Rattle.plan_rules.specs.State.{free_zone}
use Rattle.plan_rules.proofs.lemmas.Starts.{start_is_sound}
use Rattle.plan_words.specs.Group.{Group, past, zone_out}
use Rattle.plan_words.specs.Words.{IsIn}
use Rattle.plan_words.specs.Run.{Word, IsLaidOut, start_of, whole_start, StartsAreWhole}

replicated : {A : Type 0} (n i : ℕ) (a : A) → get_or (replicate n a) i a ≡ a
replicated zero i a = refl
replicated (suc n) zero a = refl
replicated (suc n) (suc i) a = replicated n i a

start_in : (t : PlanTable) (g : Group) (full : List Bool) → IsIn g (start_of full g) (whole_start t full)
start_in t g full = record {
  zone = λ i l. replicated (zone_count t) (zone_out g i) free_zone ∙ sym (replicated 10 i free_zone);
  place = λ j l.
      let there : ℕ → Bool = λ p. get_or full p false in
      let given = map there g.places in
      sym (get_or_append_left given (replicate (16 - length given) false) false j (subst (λ n. j < n) (sym (length-map g.places there)) l)
      ∙ get_or-map there g.places j past false l);
}

sixteen : (full : List Bool) (g : Group) → length g.places ≤ 16 → length (start_of full g).full ≡ 16
sixteen full g few =
    let there : ℕ → Bool = λ p. get_or full p false in
    let given = map there g.places in
    let a = length-map g.places there in
    let b = length-append given (replicate (16 - length given) false) in
    let c = length-replicate (16 - length given) false in
    omega (arith, few, a, b, c)

pub starts_are_whole : (t : PlanTable) (count : ℕ) (words : ℕ → Word) → IsLaidOut t count words → StartsAreWhole t count words
starts_are_whole t count words is full long = record {
  zones = length-replicate (zone_count t) free_zone;
  places = long;
  is_in = λ n l. start_in t (words n).group full;
  sound = λ n l.
      let g = (words n).group in
      let most = (is.plan n l).places_at_most in
      let places = (is.table n l).place_count in
      start_is_sound (words n).table (start_of full g) (is.plan n l) (record { stamp_in_range = omega arith; has_sixteen_places = sixteen full g (omega (arith, most, places)); same = refl });
}
