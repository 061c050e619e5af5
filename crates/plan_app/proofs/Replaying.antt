-- A replay answers the script that a run has printed as the machines were answered.
use Rattle.std.proofs.Common.{◌≡◌, ◌<◌, ◌-◌, ◌==◌, ◌||◌, ◌∙◌, ℕ, suc, Bool, true, false, nat_eq, All, List, ◌∷◌, ◌++◌, codes, drop, get_or, inl, inr, length, ap, sym, refl, arith, IsTrue}
use Rattle.std.specs.Prelude.{nat_lt}
use Rattle.std.specs.List.{starts_with}
use Rattle.std.proofs.Math.Seq.{drop-append_seam, drop-cons}
use Rattle.std.proofs.lemmas.Bool.{and_from, and_parts, eqb-true, or_cases, or_right}
use Rattle.std.proofs.lemmas.Bool.Decides.{nat_tests}
use Rattle.std.proofs.lemmas.List.{get_or_append_left, length-append}
use Rattle.std.proofs.lemmas.List.Elements.{All-weaker}
use Rattle.std.proofs.lemmas.List.Sums.{AllPass-from_list_all}
use Rattle.plan_types.specs.Table.{machine_of, watch}
use Rattle.plan_types.specs.declared.call.Call.{Call}
use Rattle.plan_types.specs.declared.call.Call.TheVariants.{Claim, Give, Yield, Take, Release, Inquire, SetPose, Stop, Resume, Advance}
use Rattle.plan_types.specs.declared.answer.Event.{Event}
use Rattle.plan_text.specs.HistoryLaws.{IsCaller, IsOwnCall, IsOwnEvent}
use Rattle.plan_text.specs.Named.{Named}
use Rattle.plan_app.specs.Input.{is_begin, plan_length, script_in}
use Rattle.plan_app.specs.RunTexts.{are_own, is_caller, is_own_call, is_own_event}
use Rattle.plan_app.proofs.Comments.{AreComments}
use Rattle.plan_app.proofs.ScriptsFound.{long}

-- ---- calls that machines may ask

caller_is : (n : Named) (m : ℕ) → is_caller n m ≡ true → IsCaller n m
caller_is n m e = elim (or_cases (nat_eq m watch) (nat_lt m (length n.machines)) e) [
  | inl h ↦ inl (eqb-true m watch h)
  | inr h ↦ inr (grind (arith, nat_tests))
]

below : (k count : ℕ) → nat_lt k count ≡ true → k < count
below k count e = grind (arith, nat_tests)

call_is : (n : Named) (m : ℕ) (c : Call) → is_own_call n m c ≡ true → IsOwnCall n m c
call_is n m (Claim z) e = below z (length n.zones) e
call_is n m (Give z) e = below z (length n.zones) e
call_is n m (Yield z) e = below z (length n.zones) e
call_is n m (Take z) e = below z (length n.zones) e
call_is n m (Release z) e = below z (length n.zones) e
call_is n m (Inquire z) e = below z (length n.zones) e
call_is n m (SetPose p) e =
    let h = and_parts (nat_lt p (length n.poses)) (nat_eq (machine_of n.plan p) m) e in
    (below p (length n.poses) h.0, eqb-true (machine_of n.plan p) m h.1)
call_is n m Stop e = tt
call_is n m Resume e = tt
call_is n m (Advance p) e = below p (length n.places) e

event_is : (n : Named) (e : Event) → is_own_event n e ≡ true → IsOwnEvent n e
event_is n e own =
    let h = and_parts (is_caller n e.machine) (is_own_call n e.machine e.call) own in
    (caller_is n e.machine h.0, call_is n e.machine e.call h.1)

pub all_own : (n : Named) (history : List Event) → IsTrue (are_own n history) → All (IsOwnEvent n) history
all_own n history own = All-weaker (λ e. is_own_event n e ≡ true) (IsOwnEvent n) (event_is n) history (AllPass-from_list_all (is_own_event n) history own)

-- ---- where the script begins

module _ (c after : List ℕ) (comments : AreComments c) (last : get_or c (length c - 1) 0 ≡ 10) (some : 0 < length c) where
  abbrev script : List ℕ
  script = codes "start," ++ after

  here : is_begin (c ++ script) (length c) ≡ true
  here =
      let feed : get_or (c ++ script) (length c - 1) 0 ≡ 10 = get_or_append_left c script 0 (length c - 1) (omega arith) ∙ last in
      let ended : nat_eq (get_or (c ++ script) (length c - 1) 0) 10 ≡ true = ap (λ b. nat_eq b 10) feed in
      let rest : drop (length c) (c ++ script) ≡ script = drop-append_seam c script in
      let begins : starts_with nat_eq (drop (length c) (c ++ script)) (codes "start,") ≡ true = ap (λ l. starts_with nat_eq l (codes "start,")) rest in
      and_from (length c == 0 || get_or (c ++ script) (length c - 1) 0 == 10) (starts_with nat_eq (drop (length c) (c ++ script)) (codes "start,"))
      (or_right (length c == 0) (get_or (c ++ script) (length c - 1) 0 == 10) ended) begins

  hash : (i : ℕ) → i < length c → get_or c i 0 ≡ 35 → starts_with nat_eq (drop i (c ++ script)) (codes "start,") ≡ false
  hash i few is =
      let at : get_or (c ++ script) i 0 ≡ 35 = get_or_append_left c script 0 i few ∙ is in
      let within : i < length (c ++ script) = omega (arith, few, length-append c script) in
      let split : drop i (c ++ script) ≡ get_or (c ++ script) i 0 ∷ drop (suc i) (c ++ script) = drop-cons (c ++ script) i 0 within in
      ap (λ l. starts_with nat_eq l (codes "start,")) (split ∙ ap (λ b. b ∷ drop (suc i) (c ++ script)) at)

  unbegun : (i : ℕ) → i < length c → is_begin (c ++ script) i ≡ false
  unbegun i few = by (i == 0) (get_or (c ++ script) (i - 1) 0 == 10) refl refl
    where
      by : (a b : Bool) → (i == 0) ≡ a → (get_or (c ++ script) (i - 1) 0 == 10) ≡ b → is_begin (c ++ script) i ≡ false
      by true b e f = rw e (hash i few (comments.each i few (inl (eqb-true i 0 e))))
      by false true e f =
          let feed : get_or c (i - 1) 0 ≡ 10 = sym (get_or_append_left c script 0 (i - 1) (omega arith)) ∙ eqb-true (get_or (c ++ script) (i - 1) 0) 10 f in
          rw (e, f) (hash i few (comments.each i few (inr feed)))
      by false false e f = rw (e, f) refl

  pub script_after : script_in (c ++ script) ≡ script
  script_after =
      let at : plan_length (c ++ script) ≡ length c = long (c ++ script) (length c) (omega (arith, length-append c script)) here unbegun in
      ap (λ k. drop k (c ++ script)) at ∙ drop-append_seam c script
