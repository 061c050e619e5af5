-- Literal machines that are in step, and others that aren't.
use Rattle.std.proofs.Common.{◌≡◌, ℕ, zero, suc, ◌<◌, ◌++◌, Bool, true, false, ◌&&◌, ◌||◌, nat_lt, List, [], ◌∷◌, length, get_or, take, Option, Some, None, is_some, refl, sym, ap, ◌∙◌, subst, arith, IsTrue}
use Rattle.std.specs.Prelude.{is_none}
use Rattle.std.proofs.lemmas.Bool.{and_parts, ltb-true, lt-ltb}
use Rattle.plan_types.specs.declared.posture.Posture.{Posture}
use Rattle.plan_types.specs.declared.call.Call.TheVariants.{Claim, Yield, SetPose}
use Rattle.plan_types.specs.declared.answer.Event.{Event}
use Rattle.plan_types.specs.Examples.{press_table}
use Rattle.plan_types.specs.Table.{is_hosted, is_place_of}
use Rattle.plan_rules.specs.declared.state.State.{State}
use Rattle.plan_rules.specs.State.{zone_at, is_full}
use Rattle.plan_rules.specs.Examples.{did, press_start}
use Rattle.plan_rules.specs.History.{after}
use Rattle.plan_rules.specs.Laws.{done}
use Rattle.plan_motors.specs.declared.motor.Motor.{Motor}
use Rattle.plan_motors.specs.Motor.{need_of, place_need, meets, meets_place}
use Rattle.plan_drives.specs.declared.line.Line.{Line}
use Rattle.plan_drives.specs.declared.line.Line.TheVariants.{Do, Await, Run}
use Rattle.plan_drives.specs.Facts.{facts_at}
use Rattle.plan_drives.specs.InStep.{is_own_zone, is_own_place, IsInStep}
use Rattle.plan_drives.specs.Course.{GoesThrough, rounds_of, HasComeFrom}
use Rattle.plan_drives.specs.Examples.{ResumesAreRight, pressing, loading, opening}
use Rattle.plan_drives.proofs.Rows.{false_true, none, still, never_empty}

one : (P : ℕ → Type 0) → P 0 → (z : ℕ) → z < 1 → P z
one P x zero l = x
one P x (suc z) l = absurd (omega (arith, l))

two : (P : ℕ → Type 0) → P 0 → P 1 → (z : ℕ) → z < 2 → P z
two P x y zero l = x
two P x y (suc zero) l = y
two P x y (suc (suc z)) l = absurd (omega (arith, l))

-- ---- who is in step, computed

abbrev fits : State → Motor → Bool
fits s f =
    meets f.machine (need_of f 0) (zone_at s 0)
    && (meets_place (place_need f 0) (is_full s 0)
    && (meets_place (place_need f 1) (is_full s 1)
    && (is_own_zone press_table f 0 && (is_own_place press_table f 0 && is_own_place press_table f 1))))

own_posture : (q : Option Posture) (a b : Bool) → (is_none q || a || b) ≡ true → is_some q ≡ true → (a || b) ≡ true
own_posture None a b e f = cc
own_posture (Some q) a b e f = e

own_place : (q : Option Bool) (b : Bool) → (is_none q || b) ≡ true → is_some q ≡ true → b ≡ true
own_place None b e f = cc
own_place (Some q) b e f = e

in_step : (s : State) (m : ℕ) (program : List Line) (k : ℕ) → nat_lt k (length program) ≡ true → fits s (facts_at press_table m program k) ≡ true → IsInStep press_table s m program k
in_step s m program k l e =
    let t = press_table in
    let f = facts_at t m program k in
    let e0 = and_parts _ _ e in
    let e1 = and_parts _ _ e0.1 in
    let e2 = and_parts _ _ e1.1 in
    let e3 = and_parts _ _ e2.1 in
    let e4 = and_parts _ _ e3.1 in
    record {
      line = ltb-true k (length program) l;
      known = record {
        is_so = record {
          zones = one (λ z. IsTrue (meets f.machine (need_of f z) (zone_at s z))) e0.0;
          places = two (λ p. IsTrue (meets_place (place_need f p) (is_full s p))) e1.0 e2.0;
        };
        own = record {
          postures = one (λ z. IsTrue (is_some (need_of f z).posture) → IsTrue ((need_of f z).holds || is_hosted t z f.machine)) (own_posture (need_of f 0).posture (need_of f 0).holds (is_hosted t 0 f.machine) e3.0);
          places = two (λ p. IsTrue (is_some (place_need f p)) → IsTrue (is_place_of t p f.machine)) (own_place (place_need f 0) (is_place_of t 0 f.machine) e4.0) (own_place (place_need f 1) (is_place_of t 1 f.machine) e4.1);
        };
      };
    }

-- and who isn't: its zone isn't as it knows it, or there is no such line
other_zone : (s : State) (m : ℕ) (program : List Line) (k : ℕ) → meets (facts_at press_table m program k).machine (need_of (facts_at press_table m program k) 0) (zone_at s 0) ≡ false → ¬ IsInStep press_table s m program k
other_zone s m program k isnt x = false_true (sym isnt ∙ x.known.is_so.zones 0 (omega arith))

past : (s : State) (m : ℕ) (program : List Line) (k : ℕ) → nat_lt k (length program) ≡ false → ¬ IsInStep press_table s m program k
past s m program k isnt x = false_true (sym isnt ∙ lt-ltb k (length program) x.line)

tails : (a b : Line) (xs ys : List Line) → a ∷ xs ≡ b ∷ ys → xs ≡ ys
tails a b xs ys e = ap (λ l. elim l as (λ _. List Line) [ [] ↦ xs | x ∷ rest ↦ rest ]) e

not_back : (s : State) → ¬ HasComeFrom press_table s [] 0 loading 1 0
not_back s come = by come.rounds come.between
  where
    by : (n : ℕ) → rounds_of n loading ++ take 0 loading ≡ take 1 loading ++ come.lines → ⊥
    by zero e = cc
    by (suc n) e =
        let rest = Do (Yield 0) ∷ rounds_of n loading ++ [] in
        let goes = subst (GoesThrough press_table s [] 0) (sym (tails (Await 0) (Await 0) (Run 2 ∷ rest) come.lines e)) come.goes in
        never_empty goes.0.before (done 0 (Yield 0)) goes.0.since goes.0.split

abbrev at : List Event → State
at history = after press_table press_start history

abbrev moves : List Event
moves = did 1 (Claim 0) ∷ did 1 (SetPose 3) ∷ []

pub resumes_are_right : ResumesAreRight
resumes_are_right = record {
  first_line = in_step (at []) 1 pressing 0 refl refl;
  press = in_step (at moves) 1 pressing 2 refl refl;
  past_its_run = in_step (at moves) 1 pressing 3 refl refl;
  too_far = other_zone (at moves) 1 pressing 4 refl;
  not_moving = other_zone (at (did 1 (Claim 0) ∷ [])) 1 pressing 2 refl;
  loader = in_step (at opening) 0 loading 1 refl refl;
  holds_nothing = other_zone (at []) 0 loading 1 refl;
  past_the_end = past (at opening) 0 loading 3 refl;
  no_line = past (at []) 1 [] 0 refl;
  not_its_own = λ x. false_true (x.known.own.postures 0 (omega arith) refl);
  both = two (λ m. IsInStep press_table (at opening) m (get_or (loading ∷ pressing ∷ []) m []) (get_or (1 ∷ 5 ∷ []) m 0)) (in_step (at opening) 0 loading 1 refl refl) (in_step (at opening) 1 pressing 5 refl refl);
  second_out = record {
    machine = omega arith;
    out = other_zone (at opening) 1 pressing 6 refl;
    before = one (λ m. IsInStep press_table (at opening) m (get_or (loading ∷ pressing ∷ []) m []) (get_or (1 ∷ 6 ∷ []) m 0)) (in_step (at opening) 0 loading 1 refl refl);
  };
  both_out = record {
    machine = omega arith;
    out = past (at opening) 0 loading 3 refl;
    before = λ n l. absurd (omega (arith, l));
  };
  goes_on = record { rounds = 0; lines = Await 0 ∷ []; between = refl; goes = (record { before = opening; since = []; split = refl; stays = still; owned = refl }, none 0) };
  next_round = record { rounds = 1; lines = Run 2 ∷ Do (Yield 0) ∷ []; between = refl; goes = (record { before = []; since = []; split = refl; stays = none 0 }, none 0) };
  not_back = not_back (at opening);
}
