-- A machine that holds a zone, by the test of each event, owns it in the state after.
use Rattle.std.proofs.Common.{◌≡◌, ℕ, ◌<◌, Bool, true, false, ◌&&◌, ◌||◌, not, nat_eq, Option, Some, None, List, [], ◌∷◌, ◌++◌, ◌⊎◌, inl, inr, get_or, set, refl, sym, ap, ◌∙◌, ◌↔◌, IsTrue, subst, if◌then◌else◌}
use Rattle.std.proofs.Math.Bool.{and-true}
use Rattle.std.proofs.lemmas.Bool.{or_left, or_right, false_from_ne_true}
use Rattle.std.proofs.lemmas.List.Elements.{All-nil, All-cons, All-head, All-tail}
use Rattle.plan_types.specs.declared.call.Call.{Call}
use Rattle.plan_types.specs.declared.call.Call.TheVariants.{Claim, Give, Yield, Take, Release, SetPose, Inquire, Stop, Resume, Advance}
use Rattle.plan_types.specs.declared.answer.Answer.{Answer}
use Rattle.plan_types.specs.declared.answer.Answer.TheVariants.{Done, Shown, Refused}
use Rattle.plan_types.specs.declared.answer.Event.{Event}
use Rattle.plan_types.specs.Table.{PlanTable, zone_count, is_party, same_space}
use Rattle.plan_types.specs.Plan.{IsPlan}
use Rattle.plan_rules.specs.declared.state.ZoneState.{ZoneState}
use Rattle.plan_rules.specs.declared.state.State.{State}
use Rattle.plan_rules.specs.State.{zone_at, owner_of, free_zone}
use Rattle.plan_rules.specs.Sound.{IsSound, is_owned_by}
use Rattle.plan_rules.specs.Refusals.{owns}
use Rattle.plan_rules.specs.Reply.{reply, next, next_by, changed, other_party, with_owner, all_posed}
use Rattle.plan_rules.specs.History.{after, IsLegal, is_done_answer, gains, loses, is_gain, is_loss, IsLoss, LosesNothing, GainsAndKeeps, Holds}
use Rattle.plan_rules.proofs.lemmas.Puts.{put_cases, zone_at-posed}
use Rattle.plan_rules.proofs.lemmas.DoneCalls.{claim_done, give_done, yield_done, take_done, release_done}
use Rattle.plan_rules.proofs.lemmas.Soundness.{done_none, never_done, next_keeps, in_ten}
use Rattle.plan_rules.proofs.lemmas.Spaces.{by_same, same_inside, shared_owner, zone_at-handed, past-handed}
use Rattle.plan_rules.proofs.Stopping.{not_true}
use Rattle.std.proofs.Common.{length, arith}
use Rattle.std.proofs.lemmas.Bool.{cases_lt}
use Rattle.std.proofs.lemmas.List.{get_or_past}

-- ---- who owns a zone after a call

-- what one machine owns another owns if the two are one
pub owned_as : (o : Option ℕ) (n m : ℕ) → o ≡ Some n → is_owned_by o m ≡ nat_eq n m
owned_as o n m e = ap (λ x. is_owned_by x m) e

-- the new owner gains, and the old one loses
passed : (gain own loss : Bool) → own ≡ loss → gain ≡ (gain || (own && not loss))
passed true own loss e = refl
passed false true true e = refl
passed false true false e = cc
passed false false loss e = refl

-- the owner of a space changes: what holds of a zone of it, of another zone, and of none
abbrev Passes : PlanTable → State → ℕ → Option ℕ → Bool → ℕ → Bool → ℕ → Type 0
Passes t s y o plate m loss z =
    is_owned_by (get_or (with_owner t s y o plate) z free_zone).owner m ≡ ((same_space t y z && is_owned_by o m) || (owns s m z && not (same_space t y z && loss)))

passes_by : (t : PlanTable) (s : State) (y : ℕ) (o : Option ℕ) (plate : Bool) (m : ℕ) (loss : Bool) (z : ℕ) (b : Bool) → IsPlan t → IsSound t s → y < zone_count t → owns s m y ≡ loss → z < 10
    → same_space t y z ≡ b → Passes t s y o plate m loss z
passes_by t s y o plate m loss z b p k l e few same =
    let owner : is_owned_by (get_or (with_owner t s y o plate) z free_zone).owner m ≡ is_owned_by (if same_space t y z then o else owner_of s z) m =
    ap (λ (v : ZoneState). is_owned_by v.owner m) (zone_at-handed t s y o plate z few) in
    let Here : Bool → Type 0 = λ b. same_space t y z ≡ b → is_owned_by (if b then o else owner_of s z) m ≡ ((b && is_owned_by o m) || (owns s m z && not (b && loss))) in
    let by : (b : Bool) → Here b = λ b. elim b as Here [
      | true ↦ λ here.
          let there = by_same t y z here in
          let own : owns s m z ≡ loss = ap (λ x. is_owned_by x m) (shared_owner t s z y k (same_inside t y z l there) l (sym there)) ∙ e in
          passed (is_owned_by o m) (owns s m z) loss own
      | false ↦ λ apart. sym (and-true (owns s m z))
    ] in
    owner ∙ subst (λ c. is_owned_by (if c then o else owner_of s z) m ≡ ((c && is_owned_by o m) || (owns s m z && not (c && loss)))) (sym same) (by b same)

owned-handed : (t : PlanTable) (s : State) (y : ℕ) (o : Option ℕ) (plate : Bool) (m : ℕ) (loss : Bool) → IsPlan t → IsSound t s → y < zone_count t → owns s m y ≡ loss → (z : ℕ) → Passes t s y o plate m loss z
owned-handed t s y o plate m loss p k l e z =
    elim (cases_lt z 10) [
      | inl few ↦ passes_by t s y o plate m loss z (same_space t y z) p k l e few refl
      | inr past ↦
          let apart : same_space t y z ≡ false = false_from_ne_true (same_space t y z) (λ here.
          let inside = same_inside t y z l (by_same t y z here) in let few = p.zones_at_most in absurd (omega (arith, past, inside, few))) in
          let ten = k.has_ten_zones in
          let none : owns s m z ≡ false = ap (λ (v : ZoneState). is_owned_by v.owner m) (get_or_past s.zones z free_zone (omega (arith, ten, past))) in
          ap (λ (v : ZoneState). is_owned_by v.owner m) (past-handed t s y o plate z past)
          ∙ sym (ap (λ b. (b && is_owned_by o m) || (owns s m z && not (b && loss))) apart ∙ ap (λ b. b && true) none)
    ]

-- the owner is the same
owned-same : (s : State) (y m : ℕ) (v : ZoneState) → y < length s.zones → v.owner ≡ owner_of s y
    → (z : ℕ) → is_owned_by (get_or (set s.zones y v) z free_zone).owner m ≡ (owns s m z && true)
owned-same s y m v l e =
    put_cases (λ x u. is_owned_by u.owner m ≡ (owns s m x && true)) s.zones v free_zone y l
    (ap (λ o. is_owned_by o m) e ∙ sym (and-true (owns s m y)))
    (λ x ne. sym (and-true (owns s m x)))

and-false : (b : Bool) → (b && false) ≡ false
and-false true = refl
and-false false = refl

-- a party hands the zone over to the other party
from_party : (t : PlanTable) (s : State) (n y m z : ℕ) → is_party t n y ≡ true
    → ((same_space t y z && nat_eq (other_party t n y) m) || (owns s m z && not (same_space t y z && nat_eq n m)))
    ≡ ((same_space t y z && (is_party t n y && nat_eq (other_party t n y) m)) || (owns s m z && not (same_space t y z && nat_eq n m)))
from_party t s n y m z party = ap (λ b. (same_space t y z && (b && nat_eq (other_party t n y) m)) || (owns s m z && not (same_space t y z && nat_eq n m))) (sym party)

-- poses leave the owners
pub owner-posed : (t : PlanTable) (s : State) (p z : ℕ) → length s.zones ≡ 10 → (get_or (all_posed t s p) z free_zone).owner ≡ owner_of s z
owner-posed t s p z ten =
    elim (cases_lt z 10) [
      | inl l ↦ ap (λ (v : ZoneState). v.owner) (zone_at-posed t s p z l)
      | inr l ↦ ap (λ (v : ZoneState). v.owner) (get_or_past (all_posed t s p) z free_zone l ∙ sym (get_or_past s.zones z free_zone (omega arith)))
    ]

owns-changed : (t : PlanTable) (s : State) (n : ℕ) (c : Call) (m z : ℕ) → IsPlan t → IsSound t s → reply t s n c ≡ Done
    → owns (changed t s n c) m z ≡ (gains t n c m z || (owns s m z && not (loses t n c m z)))
owns-changed t s n (Claim y) m z p k e =
    let d = claim_done t s n y (done_none _ _ e) in
    owned-handed t s y (Some n) false m false p k d.caller.there (ap (λ o. is_owned_by o m) d.free) z
    ∙ ap (λ l. (same_space t y z && nat_eq n m) || (owns s m z && not l)) (and-false (same_space t y z))
owns-changed t s n (Give y) m z p k e =
    let d = (give_done t s n y (done_none _ _ e)).holder in
    owned-handed t s y (Some (other_party t n y)) true m (nat_eq n m) p k d.caller.there (owned_as (owner_of s y) n m d.owner) z
    ∙ from_party t s n y m z d.caller.is
owns-changed t s n (Yield y) m z p k e =
    let d = (yield_done t s n y (done_none _ _ e)).holder in
    owned-handed t s y (Some (other_party t n y)) false m (nat_eq n m) p k d.caller.there (owned_as (owner_of s y) n m d.owner) z
    ∙ from_party t s n y m z d.caller.is
owns-changed t s n (Take y) m z p k e =
    let d = (take_done t s n y (done_none _ _ e)).holder in
    owned-same s y m (record (zone_at s y) { flag = false }) (in_ten t s y p k d.caller.there) refl z
owns-changed t s n (Release y) m z p k e =
    let d = (release_done t s n y (done_none _ _ e)).holder in
    let loss = nat_eq n m in
    owned-handed t s y None false m loss p k d.caller.there (owned_as (owner_of s y) n m d.owner) z
    ∙ ap (λ g. g || (owns s m z && not (same_space t y z && loss))) (and-false (same_space t y z))
owns-changed t s n (SetPose q) m z p k e = ap (λ o. is_owned_by o m) (owner-posed t s q z k.has_ten_zones) ∙ sym (and-true (owns s m z))
owns-changed t s n (Inquire y) m z p k e = never_done t s n y e
owns-changed t s n Stop m z p k e = sym (and-true (owns s m z))
owns-changed t s n Resume m z p k e = sym (and-true (owns s m z))
owns-changed t s n (Advance q) m z p k e = sym (and-true (owns s m z))

owns-by : (a : Answer) (t : PlanTable) (s : State) (n : ℕ) (c : Call) (m z : ℕ) → (a ≡ Done → owns (changed t s n c) m z ≡ (gains t n c m z || (owns s m z && not (loses t n c m z))))
    → owns (next_by a t s n c) m z ≡ ((is_done_answer a && gains t n c m z) || (owns s m z && not (is_done_answer a && loses t n c m z)))
owns-by Done t s n c m z k = k refl
owns-by (Shown o f p) t s n c m z k = sym (and-true (owns s m z))
owns-by (Refused r) t s n c m z k = sym (and-true (owns s m z))

owns-next : (t : PlanTable) (s : State) (e : Event) (m z : ℕ) → IsPlan t → IsSound t s → e.answer ≡ reply t s e.machine e.call
    → owns (next t s e.machine e.call) m z ≡ (is_gain t e m z || (owns s m z && not (is_loss t e m z)))
owns-next t s e m z p k l =
    let By : Answer → Type 0 = λ a. owns (next t s e.machine e.call) m z ≡ ((is_done_answer a && gains t e.machine e.call m z) || (owns s m z && not (is_done_answer a && loses t e.machine e.call m z))) in
    subst By (sym l) (owns-by (reply t s e.machine e.call) t s e.machine e.call m z (owns-changed t s e.machine e.call m z p k))

-- ---- event by event

-- whether a machine holds a zone after a history: it held it before, or gained it, and hasn't lost it since
abbrev pub holds_since : PlanTable → Bool → List Event → ℕ → ℕ → Bool
holds_since t held [] m z = held
holds_since t held (e ∷ history) m z = holds_since t (is_gain t e m z || (held && not (is_loss t e m z))) history m z

owns-after : (t : PlanTable) (s : State) (h : List Event) (m z : ℕ) → IsPlan t → IsSound t s → IsLegal t s h → owns (after t s h) m z ≡ holds_since t (owns s m z) h m z
owns-after t s [] m z p k l = refl
owns-after t s (e ∷ h) m z p k l =
    owns-after t (next t s e.machine e.call) h m z p (next_keeps t s e.machine e.call p k) l.1 ∙ ap (λ b. holds_since t b h m z) (owns-next t s e m z p k l.0)

holds_since-append : (t : PlanTable) (b : Bool) (x y : List Event) (m z : ℕ) → holds_since t b (x ++ y) m z ≡ holds_since t (holds_since t b x m z) y m z
holds_since-append t b [] y m z = refl
holds_since-append t b (e ∷ x) y m z = holds_since-append t (is_gain t e m z || (b && not (is_loss t e m z))) x y m z

-- what is held and not lost is held
holds_since-kept : (t : PlanTable) (h : List Event) (m z : ℕ) → LosesNothing t h m z → holds_since t true h m z ≡ true
holds_since-kept t [] m z k = refl
holds_since-kept t (e ∷ h) m z k =
    let here = false_from_ne_true (is_loss t e m z) (All-head (λ x. ¬ IsLoss t x m z) e h k) in
    ap (λ b. holds_since t b h m z) (or_right (is_gain t e m z) (true && not (is_loss t e m z)) (not_true (is_loss t e m z) here)) ∙ holds_since-kept t h m z (All-tail (λ x. ¬ IsLoss t x m z) e h k)

holds_since-gained : (t : PlanTable) (b : Bool) (h : List Event) (m z : ℕ) → GainsAndKeeps t h m z → holds_since t b h m z ≡ true
holds_since-gained t b h m z g =
    let held = holds_since t b g.before m z in
    ap (λ x. holds_since t b x m z) g.split ∙ holds_since-append t b g.before (g.gain ∷ g.since) m z
    ∙ ap (λ x. holds_since t x g.since m z) (or_left (is_gain t g.gain m z) (held && not (is_loss t g.gain m z)) g.gained) ∙ holds_since-kept t g.since m z g.kept

gained_or_kept : (g b l : Bool) → (g || (b && not l)) ≡ true → (g ≡ true) ⊎ ((b ≡ true) × (l ≡ false))
gained_or_kept true b l e = inl refl
gained_or_kept false true false e = inr (refl, refl)
gained_or_kept false true true e = cc
gained_or_kept false false l e = cc

-- a zone held at the end was gained last, or held at the start, and not lost since
held_by_events : (t : PlanTable) (b : Bool) (h : List Event) (m z : ℕ) → holds_since t b h m z ≡ true → ((b ≡ true) × LosesNothing t h m z) ⊎ GainsAndKeeps t h m z
held_by_events t b [] m z e = inl (e, All-nil (λ x. ¬ IsLoss t x m z))
held_by_events t b (x ∷ h) m z e =
    elim (held_by_events t (is_gain t x m z || (b && not (is_loss t x m z))) h m z e) [
      | inl k ↦ elim (gained_or_kept (is_gain t x m z) b (is_loss t x m z) k.0) [
        | inl g ↦ inr (record { before = []; gain = x; since = h; split = refl; gained = g; kept = k.1 })
        | inr o ↦ inl (o.0, All-cons (λ y. ¬ IsLoss t y m z) x h (λ lost. cc) k.1)
      ]
      | inr g ↦ inr (record { before = x ∷ g.before; gain = g.gain; since = g.since; split = ap (λ r. x ∷ r) g.split; gained = g.gained; kept = g.kept })
    ]

holds_by_test : (t : PlanTable) (s : State) (h : List Event) (m z : ℕ) → Holds t s h m z ↔ IsTrue (holds_since t (owns s m z) h m z)
holds_by_test t s h m z = (
  λ k. elim k [ inl k ↦ ap (λ b. holds_since t b h m z) k.0 ∙ holds_since-kept t h m z k.1 | inr g ↦ holds_since-gained t (owns s m z) h m z g ],
  held_by_events t (owns s m z) h m z,
)

pub holds_iff_owns : (t : PlanTable) (s : State) (h : List Event) (m z : ℕ) → IsPlan t → IsSound t s → IsLegal t s h → Holds t s h m z ↔ IsTrue (owns (after t s h) m z)
holds_iff_owns t s h m z p k l =
    let same = owns-after t s h m z p k l in
    let test = holds_by_test t s h m z in
    (λ k. same ∙ test.0 k, λ o. test.1 (sym same ∙ o))
