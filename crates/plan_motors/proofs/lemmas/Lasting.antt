-- A permission lasts while its machine makes no call.
use Rattle.std.proofs.Common.{◌≡◌, ◌≢◌, ℕ, ◌<◌, Bool, true, false, ◌||◌, nat_eq, if◌then◌else◌, Option, Some, None, is_some, List, [], ◌∷◌, ◌++◌, refl, sym, ap, ◌∙◌, subst, arith, IsTrue}
use Rattle.std.proofs.lemmas.Bool.{eqb-true, and_parts, false_from_ne_true}
use Rattle.std.proofs.lemmas.List.{append-nil}
use Rattle.plan_types.specs.declared.posture.Posture.{Posture}
use Rattle.plan_types.specs.declared.call.Call.{Call}
use Rattle.plan_types.specs.declared.answer.Event.{Event}
use Rattle.plan_types.specs.Table.{PlanTable, zone_count, place_count, host_of, keeper_of, is_hosted, is_place_of}
use Rattle.plan_types.specs.Plan.{IsPlan}
use Rattle.plan_rules.specs.declared.state.ZoneState.{ZoneState}
use Rattle.plan_rules.specs.declared.state.State.{State}
use Rattle.plan_rules.specs.State.{zone_at, posture_at, is_full}
use Rattle.plan_rules.specs.Sound.{IsSound, is_owned_by}
use Rattle.plan_rules.specs.Reply.{reply, next}
use Rattle.plan_rules.specs.History.{after, IsLegal, own_events}
use Rattle.plan_rules.specs.Laws.{EveryLegalHistoryIsLawful}
use Rattle.plan_motors.specs.declared.motor.Motor.{Motor}
use Rattle.plan_motors.specs.Motor.{need_of, place_need, has_posture, meets, meets_place, Permits}
use Rattle.plan_motors.specs.Decided.{NeverBoth}
use Rattle.plan_rules.proofs.lemmas.Soundness.{next_keeps}
use Rattle.plan_motors.specs.OfPlan.{IsMotorOf}

-- a zone that the machine has to hold stays as it is; of another one that it hosts the posture does
zone_lasts : (m : ℕ) (holds : Bool) (q : Option Posture) (v w : ZoneState)
    → (is_owned_by v.owner m ≡ true → w ≡ v) → (is_some q ≡ true → (holds || false) ≡ false → w.posture ≡ v.posture)
    → IsTrue (meets m (record { holds = holds; posture = q }) v) → IsTrue (meets m (record { holds = holds; posture = q }) w)
zone_lasts m true q v w held hosted k =
    let parts = and_parts (is_owned_by v.owner m) (has_posture q v.posture) k in
    subst (λ x. IsTrue (meets m (record { holds = true; posture = q }) x)) (sym (held parts.0)) k
zone_lasts m false None v w held hosted k = refl
zone_lasts m false (Some q) v w held hosted k = subst (λ x. IsTrue (has_posture (Some q) x)) (sym (hosted refl refl)) k

place_lasts : (q : Option Bool) (full now : Bool) → (is_some q ≡ true → now ≡ full) → IsTrue (meets_place q full) → IsTrue (meets_place q now)
place_lasts None full now same k = refl
place_lasts (Some b) full now same k = subst (λ x. IsTrue (meets_place (Some b) x)) (sym (same refl)) k

other_side : (a b : Bool) → (a || b) ≡ true → (a || false) ≡ false → b ≡ true
other_side true b e f = cc
other_side false b e f = e

pub permission_lasts : EveryLegalHistoryIsLawful → (t : PlanTable) (m : Motor) (s : State) (before more : List Event) → IsPlan t → IsMotorOf t m → IsSound t s
    → IsLegal t s (before ++ more) → own_events more m.machine ≡ [] → Permits t (after t s before) m → Permits t (after t s (before ++ more)) m
permission_lasts laws t m s before more p f k l none now =
    let all = laws t s (before ++ more) p k l in
    let whole = all (before ++ more) [] (sym (append-nil (before ++ more))) in
    let first = all before more refl in
    let lasts = whole.right_lasts before more refl in
    let few = p.zones_at_most in
    let few_places = p.places_at_most in
    let ten : (z : ℕ) → z < zone_count t → z < 10 = λ z there. omega (arith, few, there) in
    let sixteen : (q : ℕ) → q < place_count t → q < 16 = λ q there. omega (arith, few_places, there) in
    let then_at = after t s (before ++ more) in
    let at = after t s before in
    let host : (z : ℕ) → z < zone_count t → is_hosted t z m.machine ≡ true → posture_at then_at z ≡ posture_at at z = λ z there e.
    let mine : host_of t z ≡ m.machine = eqb-true _ _ (and_parts _ _ e).1 in
    sym (whole.posture_by_events z there)
    ∙ lasts.posture z there (ap (own_events more) mine ∙ none)
    ∙ first.posture_by_events z there in
    let keep : (q : ℕ) → q < place_count t → is_place_of t q m.machine ≡ true → is_full then_at q ≡ is_full at q = λ q there e.
    let mine : keeper_of t q ≡ m.machine = eqb-true _ _ (and_parts _ _ e).1 in
    lasts.places q there (ap (own_events more) mine ∙ none) in
    record {
      zones = λ z there.
          let need = need_of m z in
          zone_lasts m.machine need.holds need.posture (zone_at at z) (zone_at then_at z)
          (λ o. lasts.zone m.machine z there none ((first.one_holder.owner m.machine z).1 o))
          (λ some free. host z there (other_side need.holds (is_hosted t z m.machine) (f.posture_is_kept z (ten z there) some) free))
          (now.zones z there);
      places = λ q there.
          place_lasts (place_need m q) (is_full at q) (is_full then_at q) (λ some. keep q there (f.place_is_own q (sixteen q there) some)) (now.places q there);
    }

pub next_permits : EveryLegalHistoryIsLawful → (t : PlanTable) (m : Motor) (s : State) (n : ℕ) (c : Call) → IsPlan t → IsMotorOf t m → IsSound t s → n ≢ m.machine
    → Permits t s m → Permits t (next t s n c) m
next_permits laws t m s n c p f k other now =
    let e : Event = record { machine = n; call = c; answer = reply t s n c } in
    let apart = false_from_ne_true (nat_eq n m.machine) (λ same. other (eqb-true n m.machine same)) in
    let none : own_events (e ∷ []) m.machine ≡ [] = ap (λ b. if b then e ∷ [] else []) apart in
    permission_lasts laws t m s [] (e ∷ []) p f k (refl, tt) none now

pub sound_after : (t : PlanTable) (s : State) (h : List Event) → IsPlan t → IsSound t s → IsSound t (after t s h)
sound_after t s [] p k = k
sound_after t s (e ∷ h) p k = sound_after t (next t s e.machine e.call) h p (next_keeps t s e.machine e.call p k)

pub never_after : (t : PlanTable) (a b : Motor) (s : State) (h : List Event) → IsPlan t → NeverBoth t a b → IsSound t s
    → Permits t (after t s h) a → Permits t (after t s h) b → ⊥
never_after t a b s h p never k x y = never (after t s h) (sound_after t s h p k) x y
