-- If a machine holds each zone that its call needs, the call isn't refused for the owner of one.
use Rattle.cell_rules.proofs.Names.{◌≡◌, Bool, true, false, ◌&&◌, not, cond, Option, Some, List, [], ◌∷◌, filter, refl, sym, ap, ◌∙◌, subst, list_all, Machine, Press, Zone, Z3, Posture, Pose, Call, Give, Yield, Take, Release, SetPose, Advance, NotOwner, Answer, Event, host_of, same_machine, one_machine, ModelState, IsSound, owns, reply, after, IsLegal, is_cause, is_owned_as, is_changed, on_zone, lowest, zones_posed, is_anothers, KeepsItsOwn, needs, NamesNoOwner, IsNeverDisowned}
use Rattle.cell_rules.proofs.lemmas.Tables.{machines, poses, holds2, Passed, passed, and_both}
use Rattle.cell_rules.proofs.lemmas.Histories.{sound-after}
use Rattle.cell_rules.proofs.lemmas.Holders.{same_zone-self}
use Rattle.cell_rules.proofs.lemmas.HoldsLemmas.{holds_iff_owns}
use Rattle.cell_rules.proofs.Refusing.{refusals_tell}

abbrev OwnsWhatItNeeds : ModelState → Machine → Call → Type 0
OwnsWhatItNeeds s m c = (z : Zone) → needs m c z ≡ true → owns s m z ≡ true

-- a zone that the machine owns isn't another's
not_anothers : (own other : Bool) → own ≡ true → (not own && other) ≡ false
not_anothers true other e = refl
not_anothers false other e = cc

-- a pose gives postures only to zones that its machine hosts
abbrev hosts : Machine → Zone × Posture → Bool
hosts m row = same_machine (host_of row.0) m

all_hosted : (m : Machine) (p : Pose) → Passed (hosts m) (zones_posed m p)
all_hosted m p = passed (hosts m) (zones_posed m p) (holds2 machines poses (λ m p. list_all (hosts m) (zones_posed m p)) refl m p)

-- so none of them fails if the machine owns all of them
none_fails : (s : ModelState) (m : Machine) (o : Option Machine) (rows : List (Zone × Posture)) → ((z : Zone) → same_machine (host_of z) m ≡ true → owns s m z ≡ true) → Passed (hosts m) rows
    → on_zone (lowest (λ z. not (owns s m z)) (filter (is_changed s) rows)) (λ z. is_owned_as s z o) ≡ false
none_fails s m o [] own hosted = refl
none_fails s m o (row ∷ rows) own hosted =
    let those = filter (is_changed s) rows in
    let Named : Option (Zone × Posture) → Bool = λ found. on_zone found (λ z. is_owned_as s z o) in
    let rest : Named (lowest (λ z. not (owns s m z)) those) ≡ false = none_fails s m o rows own hosted.1 in
    let By : Bool → Type 0 = λ b. Named (lowest (λ z. not (owns s m z)) (cond b (row ∷ those) those)) ≡ false in
    let by : (b : Bool) → By b = λ b. elim b as By [
      | true ↦ ap (λ (x : Bool). Named (cond (not x) (Some row) (lowest (λ z. not (owns s m z)) those))) (own row.0 hosted.0) ∙ rest
      | false ↦ rest
    ] in
    by (is_changed s row)

-- then no owner is the cause of a refusal
no_cause : (s : ModelState) (m : Machine) (c : Call) (o : Option Machine) → OwnsWhatItNeeds s m c → is_cause s m c (NotOwner o) ≡ false
no_cause s m (Give z) o own = not_anothers (owns s m z) (is_owned_as s z o) (own z (same_zone-self z))
no_cause s m (Yield z) o own = not_anothers (owns s m z) (is_owned_as s z o) (own z (same_zone-self z))
no_cause s m (Take z) o own = not_anothers (owns s m z) (is_owned_as s z o) (own z (same_zone-self z))
no_cause s m (Release z) o own = not_anothers (owns s m z) (is_owned_as s z o) (own z (same_zone-self z))
no_cause s m (SetPose p) o own = none_fails s m o (zones_posed m p) own (all_hosted m p)
no_cause s m Advance o own =
    let By : Bool → Type 0 = λ b. b ≡ same_machine m Press → (b && is_anothers s Press Z3 o) ≡ false in
    let by : (b : Bool) → By b = λ b. elim b as By [
      | true ↦ λ e. let press : m ≡ Press = one_machine m Press (sym e) in
          not_anothers (owns s Press Z3) (is_owned_as s Z3 o) (subst (λ (x : Machine). owns s x Z3 ≡ true) press (own Z3 (and_both (same_machine m Press) true (sym e) refl)))
      | false ↦ λ e. refl
    ] in
    by (same_machine m Press) refl
no_cause s m _ o own = refl

not_disowned : (s : ModelState) (m : Machine) (c : Call) → IsSound s → OwnsWhatItNeeds s m c → NamesNoOwner (reply s m c)
not_disowned s m c k own o e = let cause = refusals_tell.cause s m c (NotOwner o) k e in let none = no_cause s m c o own in cc

pub never_disowned : (s : ModelState) (m : Machine) (c : Call) (a : Answer) (before point : List Event) → IsSound s → IsLegal s point → KeepsItsOwn s m before point → a ≡ reply (after s point) m c → IsNeverDisowned s m c a before
never_disowned s m c a before point k l keeps e held =
    subst NamesNoOwner (sym e) (not_disowned (after s point) m c (sound-after s point k) (λ z n. (holds_iff_owns s point m z l).0 (keeps.held z (held z n))))
