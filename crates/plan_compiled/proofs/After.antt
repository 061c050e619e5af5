-- What a call makes of each zone, each place and the stop.
use Rattle.std.proofs.Common.{◌≡◌, ℕ, ◌<◌, inl, inr, Bool, true, false, ◌&&◌, ◌||◌, not, nat_eq, List, length, get_or, set, Option, Some, None, if◌then◌else◌, refl, sym, ap, ◌∙◌, arith}
use Rattle.std.proofs.lemmas.List.{get_or-set_same, get_or-set_other}
use Rattle.plan_types.specs.declared.table.Transfer.{Transfer}
use Rattle.plan_types.specs.declared.call.Call.{Call}
use Rattle.plan_types.specs.declared.call.Call.TheVariants.{Claim, Give, Yield, Take, Release, SetPose, Inquire, Stop, Resume, Advance}
use Rattle.plan_types.specs.Table.{PlanTable, zone_count, place_count, transfer_of}
use Rattle.plan_types.specs.Plan.{IsPlan}
use Rattle.plan_rules.specs.declared.state.ZoneState.{ZoneState}
use Rattle.plan_rules.specs.declared.state.State.{State}
use Rattle.plan_rules.specs.State.{zone_at, is_full, leads_to, free_zone}
use Rattle.plan_rules.specs.Sound.{IsSound}
use Rattle.plan_rules.specs.Refusals.{given_by, transfer_given}
use Rattle.plan_rules.specs.Reply.{changed, other_party, emptied, filled}
use Rattle.plan_rules.proofs.lemmas.Puts.{same_or_not, nat_eq-self, nat_eq-apart, zone_at-posed}
use Rattle.plan_rules.proofs.lemmas.Spaces.{zone_at-handed}
use Rattle.plan_compiled.specs.Needs as needs
use Rattle.plan_compiled.specs.Needs.{Fits}
use Rattle.plan_compiled.proofs.Fitting.{giver, found}
use Rattle.plan_compiled.proofs.PlainPlans.{AreAlone, handed_at, given_at}

-- ---- zones
put_at : (s : State) (y : ℕ) (g : ZoneState → ZoneState) (z : ℕ) → z < length s.zones → get_or (set s.zones y (g (zone_at s y))) z free_zone ≡ (if nat_eq z y then g (zone_at s z) else zone_at s z)
put_at s y g z l =
    elim (same_or_not z y) [
      | inl e ↦
          let here : get_or (set s.zones z (g (zone_at s z))) z free_zone ≡ g (zone_at s z) = get_or-set_same s.zones z (g (zone_at s z)) free_zone l in
          let at_z : get_or (set s.zones y (g (zone_at s y))) z free_zone ≡ get_or (set s.zones z (g (zone_at s z))) z free_zone = ap (λ x. get_or (set s.zones x (g (zone_at s x))) z free_zone) (sym e) in
          let test : nat_eq z y ≡ true = ap (λ x. nat_eq z x) (sym e) ∙ nat_eq-self z in
          at_z ∙ here ∙ sym (ap (λ b. if b then g (zone_at s z) else zone_at s z) test)
      | inr ne ↦ get_or-set_other s.zones y z (g (zone_at s y)) free_zone ne ∙ sym (ap (λ b. if b then g (zone_at s z) else zone_at s z) (nat_eq-apart z y ne))
    ]

pub zone_changed : (t : PlanTable) (s : State) (m : ℕ) (c : Call) → IsPlan t → AreAlone t s → IsSound t s → (z : ℕ) → z < zone_count t → zone_at (changed t s m c) z ≡ needs.zone_after t m c z (zone_at s z)
zone_changed t s m c p alone k z l =
    let few = p.zones_at_most in
    let ten = k.has_ten_zones in
    let there : z < length s.zones = omega arith in
    zone_by t s m c z alone there (omega arith)
  where
    zone_by : (t : PlanTable) (s : State) (m : ℕ) (c : Call) (z : ℕ) → AreAlone t s → z < length s.zones → z < 10 → zone_at (changed t s m c) z ≡ needs.zone_after t m c z (zone_at s z)
    zone_by t s m (Claim y) z alone l n = zone_at-handed t s y (Some m) false z n ∙ handed_at t s y (Some m) z ((alone z).same y)
    zone_by t s m (Give y) z alone l n = zone_at-handed t s y (Some (other_party t m y)) true z n ∙ given_at t s y (Some (other_party t m y)) z ((alone z).same y)
    zone_by t s m (Yield y) z alone l n = zone_at-handed t s y (Some (other_party t m y)) false z n ∙ handed_at t s y (Some (other_party t m y)) z ((alone z).same y)
    zone_by t s m (Take y) z alone l n = put_at s y (λ v. record v { flag = false }) z l
    zone_by t s m (Release y) z alone l n = zone_at-handed t s y None false z n ∙ handed_at t s y None z ((alone z).same y)
    zone_by t s m (SetPose q) z alone l n = zone_at-posed t s q z n
    zone_by t s m (Inquire y) z alone l n = refl
    zone_by t s m Stop z alone l n = refl
    zone_by t s m Resume z alone l n = refl
    zone_by t s m (Advance q) z alone l n = refl

-- ---- places
stays : (b : Bool) → b ≡ ((b && not false) || false)
stays true = refl
stays false = refl

leaves : (b : Bool) → false ≡ ((b && not true) || false)
leaves true = refl
leaves false = refl

comes : (b : Bool) → true ≡ ((b && not false) || true)
comes true = refl
comes false = refl

emptied_at : (full : List Bool) (o : Option Transfer) (q : ℕ) → q < length full → get_or (emptied full o) q false ≡ ((get_or full q false && not (needs.leads_from o q)) || false)
emptied_at full None q l = stays (get_or full q false)
emptied_at full (Some way) q l =
    elim (same_or_not q way.from) [
      | inl e ↦
          let here : get_or (set full q false) q false ≡ false = get_or-set_same full q false false l in
          let at_q : get_or (set full way.from false) q false ≡ get_or (set full q false) q false = ap (λ x. get_or (set full x false) q false) (sym e) in
          let test : nat_eq way.from q ≡ true = ap (λ x. nat_eq x q) (sym e) ∙ nat_eq-self q in
          at_q ∙ here ∙ leaves (get_or full q false) ∙ sym (ap (λ b. (get_or full q false && not b) || false) test)
      | inr ne ↦ get_or-set_other full way.from q false false ne ∙ stays (get_or full q false)
          ∙ sym (ap (λ b. (get_or full q false && not b) || false) (nat_eq-apart way.from q (λ same. ne (sym same))))
    ]

filled_at : (full : List Bool) (o : Option Transfer) (q : ℕ) → q < length full → get_or (filled full o) q false ≡ ((get_or full q false && not false) || leads_to o q)
filled_at full None q l = stays (get_or full q false)
filled_at full (Some way) q l =
    elim (same_or_not q way.to) [
      | inl e ↦
          let here : get_or (set full q true) q false ≡ true = get_or-set_same full q true false l in
          let at_q : get_or (set full way.to true) q false ≡ get_or (set full q true) q false = ap (λ x. get_or (set full x true) q false) (sym e) in
          let test : nat_eq way.to q ≡ true = ap (λ x. nat_eq x q) (sym e) ∙ nat_eq-self q in
          at_q ∙ here ∙ comes (get_or full q false) ∙ sym (ap (λ b. (get_or full q false && not false) || b) test)
      | inr ne ↦ get_or-set_other full way.to q true false ne ∙ stays (get_or full q false)
          ∙ sym (ap (λ b. (get_or full q false && not false) || b) (nat_eq-apart way.to q (λ same. ne (sym same))))
    ]

turned_at : (full : List Bool) (p q : ℕ) → q < length full → get_or (set full p (not (get_or full p false))) q false ≡ (if nat_eq p q then not (get_or full q false) else ((get_or full q false && not false) || false))
turned_at full p q l =
    let was = get_or full q false in
    let stay = (was && not false) || false in
    elim (same_or_not q p) [
      | inl e ↦
          let at_q : get_or (set full p (not (get_or full p false))) q false ≡ get_or (set full q (not was)) q false = ap (λ x. get_or (set full x (not (get_or full x false))) q false) (sym e) in
          let test : nat_eq p q ≡ true = ap (λ x. nat_eq x q) (sym e) ∙ nat_eq-self q in
          at_q ∙ get_or-set_same full q (not was) false l ∙ sym (ap (λ b. if b then not was else stay) test)
      | inr ne ↦ get_or-set_other full p q (not (get_or full p false)) false ne ∙ stays was
          ∙ sym (ap (λ b. if b then not was else stay) (nat_eq-apart p q (λ same. ne (sym same))))
    ]

pub place_changed : (t : PlanTable) (s : State) (m : ℕ) (c : Call) (room : Bool) → IsPlan t → IsSound t s → Fits t m c room s → (q : ℕ) → q < place_count t
    → is_full (changed t s m c) q ≡ needs.place_after t m c q (is_full s q)
place_changed t s m c room p k f q l =
    let few = p.places_at_most in
    let sixteen = k.has_sixteen_places in
    let there : q < length s.full = omega arith in
    place_by t s m c room p f q there
  where
    place_by : (t : PlanTable) (s : State) (m : ℕ) (c : Call) (room : Bool) → IsPlan t → Fits t m c room s → (q : ℕ) → q < length s.full
        → is_full (changed t s m c) q ≡ needs.place_after t m c q (is_full s q)
    place_by t s m (Claim z) room p f q l = stays (is_full s q)
    place_by t s m (Give z) room p f q l =
        let g = giver t s m z room p f in
        let is : transfer_given t s m z ≡ needs.given_way t m z = ap (λ x. given_by m (transfer_of t z x)) g.posture in
        ap (λ o. get_or (emptied s.full o) q false) is ∙ emptied_at s.full (needs.given_way t m z) q l
    place_by t s m (Yield z) room p f q l = stays (is_full s q)
    place_by t s m (Take z) room p f q l =
        let h = found t s m z room f in
        ap (λ x. get_or (filled s.full (transfer_of t z x)) q false) h.posture ∙ filled_at s.full (needs.taken_way t m z) q l
    place_by t s m (Release z) room p f q l = stays (is_full s q)
    place_by t s m (SetPose x) room p f q l = stays (is_full s q)
    place_by t s m (Inquire z) room p f q l = stays (is_full s q)
    place_by t s m Stop room p f q l = stays (is_full s q)
    place_by t s m Resume room p f q l = stays (is_full s q)
    place_by t s m (Advance x) room p f q l = turned_at s.full x q l

pub stop_changed : (t : PlanTable) (s : State) (m : ℕ) (c : Call) → (changed t s m c).stopped ≡ needs.stop_after c s.stopped
stop_changed t s m (Claim z) = refl
stop_changed t s m (Give z) = refl
stop_changed t s m (Yield z) = refl
stop_changed t s m (Take z) = refl
stop_changed t s m (Release z) = refl
stop_changed t s m (SetPose p) = refl
stop_changed t s m (Inquire z) = refl
stop_changed t s m Stop = refl
stop_changed t s m Resume = refl
stop_changed t s m (Advance p) = refl
