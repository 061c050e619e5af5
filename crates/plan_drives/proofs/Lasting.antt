-- What a machine knows stays so: only its own done calls change it, and these it knows.
use Rattle.std.proofs.Common.{◌≡◌, ℕ, ◌<◌, ◌⊎◌, inl, inr, Bool, true, false, ◌&&◌, ◌||◌, nat_eq, if◌then◌else◌, Option, Some, None, is_some, List, [], ◌∷◌, refl, sym, ap, ◌∙◌, subst, IsTrue, unwrap_or}
use Rattle.std.proofs.lemmas.Bool.{eqb-true, and_parts}
use Rattle.std.specs.Option.{option_eq}
use Rattle.plan_types.specs.declared.posture.Posture.{Posture}
use Rattle.plan_types.specs.declared.posture.Posture.TheVariants.{Closed, Moving, OpenIn, OpenOut}
use Rattle.plan_types.specs.declared.call.Call.{Call}
use Rattle.plan_types.specs.declared.call.Call.TheVariants.{SetPose}
use Rattle.plan_types.specs.declared.answer.Answer.{Answer}
use Rattle.plan_types.specs.declared.answer.Answer.TheVariants.{Done, Shown, Refused}
use Rattle.plan_types.specs.declared.answer.Event.{Event}
use Rattle.plan_types.specs.Same.{same_posture}
use Rattle.plan_types.specs.Below.{any_below}
use Rattle.plan_types.specs.Table.{PlanTable, zone_count, pose_count, place_count, host_of, keeper_of, posture_of, is_hosted, is_place_of}
use Rattle.plan_types.specs.Plan.{IsPlan}
use Rattle.plan_rules.specs.declared.state.ZoneState.{ZoneState}
use Rattle.plan_rules.specs.declared.state.State.{State}
use Rattle.plan_rules.specs.State.{zone_at, posture_at, is_full}
use Rattle.plan_rules.specs.Sound.{IsSound, is_owned_by, is_open}
use Rattle.plan_rules.specs.Reply.{reply, next, next_by}
use Rattle.plan_rules.specs.History.{after, IsLegal, is_done, is_done_answer, own_events, posture_given}
use Rattle.plan_rules.specs.Laws.{EveryLegalHistoryIsLawful}
use Rattle.plan_rules.proofs.lemmas.Below.{any_below_none}
use Rattle.plan_rules.proofs.lemmas.DoneCalls.{pose_done}
use Rattle.plan_rules.proofs.lemmas.Soundness.{done_none, next_keeps}
use Rattle.plan_motors.specs.declared.motor.Motor.{Motor}
use Rattle.plan_motors.specs.Motor.{need_of, place_need, has_posture, meets, meets_place}
use Rattle.plan_drives.specs.Facts.{OpensByPoses, gives, some_gives, facts_after}
use Rattle.plan_drives.specs.Course.{is_done_by}
use Rattle.plan_drives.proofs.Learning.{Knows, learns}

-- ---- others' calls change nothing of it

zone_lasts : (m : ℕ) (holds : Bool) (q : Option Posture) (v w : ZoneState)
    → (is_owned_by v.owner m ≡ true → w ≡ v) → (is_some q ≡ true → (holds || false) ≡ false → w.posture ≡ v.posture)
    → IsTrue (meets m (record { holds = holds; posture = q }) v) → IsTrue (meets m (record { holds = holds; posture = q }) w)
zone_lasts m true q v w held hosted k =
    let parts = and_parts (is_owned_by v.owner m) (has_posture q v.posture) k in
    subst (λ x. IsTrue (meets m (record { holds = true; posture = q }) x)) (sym (held parts.0)) k
zone_lasts m false None v w held hosted k = refl
zone_lasts m false (Some q) v w held hosted k = subst (λ x. IsTrue (has_posture (Some q) x)) (sym (hosted refl refl)) k

place_lasts : (q : Option Bool) (full now : Bool) → (is_some q ≡ true → now ≡ full) → IsTrue (meets_place q full) → IsTrue (meets_place q now)
place_lasts None full now same k = refl
place_lasts (Some b) full now same k = subst (λ x. IsTrue (meets_place (Some b) x)) (sym (same refl)) k

other_side : (a b : Bool) → (a || b) ≡ true → (a || false) ≡ false → b ≡ true
other_side true b e f = cc
other_side false b e f = e

others_leave : EveryLegalHistoryIsLawful → (t : PlanTable) (s : State) (f : Motor) (n : ℕ) (c : Call) → IsPlan t → IsSound t s → nat_eq n f.machine ≡ false → Knows t s f → Knows t (next t s n c) f
others_leave laws t s f n c p k apart known =
    let m = f.machine in
    let e : Event = record { machine = n; call = c; answer = reply t s n c } in
    let legal : IsLegal t s (e ∷ []) = (refl, tt) in
    let none : own_events (e ∷ []) m ≡ [] = ap (λ b. if b then e ∷ [] else []) apart in
    let all = laws t s (e ∷ []) p k legal in
    let whole = all (e ∷ []) [] refl in
    let first = all [] (e ∷ []) refl in
    let lasts = whole.right_lasts [] (e ∷ []) refl in
    let host : (z : ℕ) → z < zone_count t → is_hosted t z m ≡ true → posture_at (next t s n c) z ≡ posture_at s z = λ z there h.
    let mine : host_of t z ≡ m = eqb-true _ _ (and_parts _ _ h).1 in
    sym (whole.posture_by_events z there) ∙ lasts.posture z there (ap (own_events (e ∷ [])) mine ∙ none) ∙ first.posture_by_events z there in
    let keep : (q : ℕ) → q < place_count t → is_place_of t q m ≡ true → is_full (next t s n c) q ≡ is_full s q = λ q there h.
    let mine : keeper_of t q ≡ m = eqb-true _ _ (and_parts _ _ h).1 in
    lasts.places q there (ap (own_events (e ∷ [])) mine ∙ none) in
    record {
      zones = λ z there.
          let need = need_of f z in
          zone_lasts m need.holds need.posture (zone_at s z) (zone_at (next t s n c) z)
          (λ o. lasts.zone m z there none ((first.one_holder.owner m z).1 o))
          (λ some free. host z there (other_side need.holds (is_hosted t z m) (known.kept z there some) free))
          (known.zones z there);
      places = λ q there. place_lasts (place_need f q) (is_full s q) (is_full (next t s n c) q) (λ some. keep q there (known.own q there some)) (known.places q there);
      kept = known.kept;
      own = known.own;
    }

-- ---- one event

true_or_false : (b : Bool) → (b ≡ true) ⊎ (b ≡ false)
true_or_false true = inl refl
true_or_false false = inr refl

answer_done : (a : Answer) → is_done_answer a ≡ true → a ≡ Done
answer_done Done e = refl
answer_done (Shown o f q) e = cc
answer_done (Refused r) e = cc

still_by : (a : Answer) (t : PlanTable) (s : State) (m : ℕ) (c : Call) → is_done_answer a ≡ false → next_by a t s m c ≡ s
still_by Done t s m c e = cc
still_by (Shown o f q) t s m c e = refl
still_by (Refused r) t s m c e = refl

-- an event that isn't a done call of the machine leaves what it knows
pub leaves : EveryLegalHistoryIsLawful → (t : PlanTable) (s : State) (f : Motor) (e : Event) → IsPlan t → IsSound t s → Knows t s f → e.answer ≡ reply t s e.machine e.call → is_done_by f.machine e ≡ false → Knows t (next t s e.machine e.call) f
leaves laws t s f e p k known legal none = elim (true_or_false (nat_eq e.machine f.machine)) [
  | inl own ↦
      let refused : is_done e ≡ false = ap (λ b. b && is_done e) (sym own) ∙ none in
      let same : next t s e.machine e.call ≡ s = ap (λ a. next_by a t s e.machine e.call) (sym legal) ∙ still_by e.answer t s e.machine e.call refused in
      subst (λ x. Knows t x f) (sym same) known
  | inr other ↦ others_leave laws t s f e.machine e.call p k other known
]

-- a done call of the machine tells it more
pub tells : (t : PlanTable) (s : State) (f : Motor) (c : Call) → IsPlan t → IsSound t s → OpensByPoses t s → Knows t s f → Done ≡ reply t s f.machine c → Knows t (next t s f.machine c) (facts_after t f c)
tells t s f c p k opens known legal =
    subst (λ x. Knows t x (facts_after t f c)) (sym (ap (λ a. next_by a t s f.machine c) (sym legal))) (learns t s f c p k opens known (sym legal))

-- ---- zones are open as poses give

same_self : (q : Posture) → same_posture q q ≡ true
same_self Closed = refl
same_self Moving = refl
same_self OpenIn = refl
same_self OpenOut = refl

same_given : (q : Posture) (o : Option Posture) → o ≡ Some q → option_eq same_posture o (Some q) ≡ true
same_given q o e = ap (λ x. option_eq same_posture x (Some q)) e ∙ same_self q

any_of : (f : ℕ → Bool) (n i : ℕ) → i < n → f i ≡ true → any_below f n ≡ true
any_of f n i l e = elim (true_or_false (any_below f n)) [
  | inl some ↦ some
  | inr none ↦ let no : f i ≡ false = any_below_none f n none i l in cc
]

pose_gives : (t : PlanTable) (p z : ℕ) (q : Posture) → p < pose_count t → posture_of t p z ≡ Some q → some_gives t z q ≡ true
pose_gives t p z q l e = any_of (gives t z q) (pose_count t) p l (same_given q (posture_of t p z) e)

given_opens : (t : PlanTable) (s : State) (n : ℕ) (c : Call) (z : ℕ) (now : Posture) → reply t s n c ≡ Done → (is_open now ≡ true → some_gives t z now ≡ true)
    → is_open (posture_given t c z now) ≡ true → some_gives t z (posture_given t c z now) ≡ true
given_opens t s n (SetPose p) z now e old = by (posture_of t p z) refl
  where
    by : (o : Option Posture) → posture_of t p z ≡ o → is_open (unwrap_or o now) ≡ true → some_gives t z (unwrap_or o now) ≡ true
    by None is = old
    by (Some q) is = λ _. pose_gives t p z q (pose_done t s n p (done_none _ _ e)).there is
given_opens t s n _ z now e old = old

opens_step : (t : PlanTable) (s : State) (e : Event) (z : ℕ) (a : Answer) → a ≡ reply t s e.machine e.call → (is_open (posture_at s z) ≡ true → some_gives t z (posture_at s z) ≡ true)
    → is_open (if is_done_answer a then posture_given t e.call z (posture_at s z) else posture_at s z) ≡ true
    → some_gives t z (if is_done_answer a then posture_given t e.call z (posture_at s z) else posture_at s z) ≡ true
opens_step t s e z Done is old = given_opens t s e.machine e.call z (posture_at s z) (sym is) old
opens_step t s e z (Shown o f q) is old = old
opens_step t s e z (Refused r) is old = old

pub opens_after : EveryLegalHistoryIsLawful → (t : PlanTable) (s : State) (e : Event) → IsPlan t → IsSound t s → OpensByPoses t s → e.answer ≡ reply t s e.machine e.call → OpensByPoses t (next t s e.machine e.call)
opens_after laws t s e p k opens legal = λ z l.
    let whole = laws t s (e ∷ []) p k (legal, tt) (e ∷ []) [] refl in
    let is : posture_at (next t s e.machine e.call) z ≡ (if is_done_answer e.answer then posture_given t e.call z (posture_at s z) else posture_at s z) = sym (whole.posture_by_events z l) in
    subst (λ q. is_open q ≡ true → some_gives t z q ≡ true) (sym is) (opens_step t s e z e.answer legal (opens z l))

-- ---- a machine that knows, over a history

-- a sound state whose open zones are open as poses give
pub record Live (t : PlanTable) (s : State) : Type 0 where
  pub sound : IsSound t s
  pub opens : OpensByPoses t s

pub live_next : EveryLegalHistoryIsLawful → (t : PlanTable) (s : State) (e : Event) → IsPlan t → Live t s → e.answer ≡ reply t s e.machine e.call → Live t (next t s e.machine e.call)
live_next laws t s e p k legal = record {
  sound = next_keeps t s e.machine e.call p k.sound;
  opens = opens_after laws t s e p k.sound k.opens legal;
}

pub live_after : EveryLegalHistoryIsLawful → (t : PlanTable) (s : State) (h : List Event) → IsPlan t → Live t s → IsLegal t s h → Live t (after t s h)
live_after laws t s [] p k legal = k
live_after laws t s (e ∷ h) p k legal = live_after laws t (next t s e.machine e.call) h p (live_next laws t s e p k legal.0) legal.1
