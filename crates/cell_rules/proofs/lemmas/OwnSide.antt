-- What another machine's call leaves unchanged: a zone that the machine owns, the postures of the zones that it hosts,
-- and its places.
use Rattle.cell_rules.proofs.Names.{◌≡◌, true, false, cond, [], ◌∷◌, refl, ap, ◌∙◌, Machine, Zone, Place, Call, Done, host_of, same_machine, keeper_of, ModelState, zone_at, is_full, IsSound, owns, posture_at, reply, next, own_events, event}
use Rattle.cell_rules.proofs.lemmas.Soundness.{next_cases}
use Rattle.cell_rules.proofs.lemmas.Postures.{posture-changed}
use Rattle.cell_rules.proofs.lemmas.Lasting.{zone_at-after}
use Rattle.cell_rules.proofs.lemmas.Keepers.{right_lasts_places}
use Rattle.cell_rules.proofs.Unposed.{given_by_other}

-- an event of another
foreign-event : (n m : Machine) (c : Call) → same_machine n m ≡ false → own_events (event n c Done ∷ []) m ≡ []
foreign-event n m c apart = ap (λ t. cond t (event n c Done ∷ []) []) apart

pub zone-foreign : (s : ModelState) (n m : Machine) (c : Call) (z : Zone) → IsSound s → same_machine n m ≡ false → owns s m z ≡ true → zone_at (next s n c) z ≡ zone_at s z
zone-foreign s n m c z k apart o = zone_at-after s (event n c Done ∷ []) m z k (foreign-event n m c apart) o

pub full-foreign : (s : ModelState) (n : Machine) (c : Call) (p : Place) → IsSound s → same_machine n (keeper_of p) ≡ false → is_full (next s n c) p ≡ is_full s p
full-foreign s n c p k apart = right_lasts_places s [] (event n c Done ∷ []) k p (foreign-event n (keeper_of p) c apart)

pub posture-foreign : (s : ModelState) (n : Machine) (c : Call) (z : Zone) → same_machine n (host_of z) ≡ false → posture_at (next s n c) z ≡ posture_at s z
posture-foreign s n c z apart =
    next_cases (λ b t. posture_at t z ≡ posture_at s z) s n c (reply s n c) (λ e. posture-changed s n c z ∙ given_by_other n c z (posture_at s z) apart) refl
