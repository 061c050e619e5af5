-- The laws of `going_tells`.
use Rattle.std.proofs.Common.{◌≡◌, ◌≢◌, ℕ, zero, suc, Bool, true, false, ◌||◌, List, ◌++◌, [], ◌∷◌, codes, length, nat_eq}
use Rattle.std.proofs.Common.{refl, ap, ◌∙◌, arith, Some}
use Rattle.std.proofs.Common.{if◌then◌else◌}
use Rattle.std.proofs.lemmas.Bool.{eqb-true, false_from_ne_true, lt-ltb}
use Rattle.std.proofs.lemmas.Bool.Decides.{nat_tests}
use Rattle.std.proofs.lemmas.List.{append_assoc, append-nil}
use Rattle.std.specs.Prelude.{slice_get}
use Rattle.std.specs.Fmt.{decimal}
use Rattle.std.specs.List.{list_any}
use Rattle.plan_liveness.specs.declared.answer.Liveness.{Liveness}
use Rattle.plan_liveness.specs.declared.answer.Relay.{Relay}
use Rattle.plan_text.specs.Names.{name_in}
use Rattle.plan_text.specs.Named.{Named}
use Rattle.plan_app.specs.Going.{bound_text, liveness_by, order_text, relay_end, within_text}
use Rattle.plan_app.specs.GoingLaws.{AnswersTell, BoundsTell, GoingTells, MachinesTell, NoneStarves, StarvingTells}
use Rattle.plan_app.specs.GoingLaws.{TextsTell, by_relay}
use Rattle.plan_app.specs.Starving.{may_starve}

-- of a machine that isn't another one
other : (a b : ℕ) → a ≢ b → nat_eq a b ≡ false
other a b differ = false_from_ne_true (nat_eq a b) (λ is. differ (eqb-true a b is))

same : (a b : ℕ) → a ≡ b → nat_eq a b ≡ true
same a b e = grind (arith, nat_tests, e)

by_cases : (a b : Bool) → b ≡ true → (a || b) ≡ true
by_cases true b is = refl
by_cases false b is = is

or_true : (a : Bool) → (a || true) ≡ true
or_true a = by_cases a true refl

either_false : (b : Bool) → (if b then false else false) ≡ false
either_false true = refl
either_false false = refl

relay_told : (n : Named) (r : Relay) → relay_end n r ≡ by_relay n r
relay_told n r =
    ap (λ t. codes "within k * " ++ t)
    (append_assoc (decimal r.rounds) (codes " * (")
    (bound_text r.bound ++ (codes ") turns; " ++ (name_in n.machines r.machine ++ codes " brings it chances\n"))))

bounds-tell : BoundsTell
bounds-tell = record {
  plain = λ b none. rw none (ap (λ t. codes "k * " ++ t) (append-nil (decimal b.plain)));
  helped = λ b some.
      ap (λ t. codes "k * " ++ (decimal b.plain ++ (if t then codes " + k * k * " ++ decimal b.helped else [])))
      (lt-ltb 0 b.helped some);
  within = λ b. refl;
}

answers-tell : AnswersTell
answers-tell = record {
  silent = λ n m. refl;
  always = λ n m b. refl;
  if_it = λ n m strong b order it.
      ap
      (λ t. codes " goes on for ever if " ++ ((if t then codes "it" else name_in n.machines strong)
      ++ (codes " isn't passed over for ever: " ++ within_text b)))
      (same strong m it);
  if_other = λ n m strong b order differ.
      ap
      (λ t. codes " goes on for ever if " ++ ((if t then codes "it" else name_in n.machines strong)
      ++ (codes " isn't passed over for ever: " ++ within_text b)))
      (other strong m differ);
  if_all = λ n m b order. refl;
  if_it_by_relay = λ n m r order it.
      ap
      (λ t. (if t then codes " goes on for ever if it isn't passed over for ever: "
      else codes " goes on for ever if neither it nor " ++ (name_in n.machines r.strong
      ++ codes " is passed over for ever: ")) ++ relay_end n r)
      (same r.strong m it)
      ∙ ap (λ t. codes " goes on for ever if it isn't passed over for ever: " ++ t) (relay_told n r);
  if_two = λ n m r order differ.
      ap
      (λ t. (if t then codes " goes on for ever if it isn't passed over for ever: "
      else codes " goes on for ever if neither it nor " ++ (name_in n.machines r.strong
      ++ codes " is passed over for ever: ")) ++ relay_end n r)
      (other r.strong m differ)
      ∙ ap (λ t. codes " goes on for ever if neither it nor " ++ t)
      (append_assoc (name_in n.machines r.strong) (codes " is passed over for ever: ") (relay_end n r)
      ∙ ap (λ t. name_in n.machines r.strong ++ (codes " is passed over for ever: " ++ t)) (relay_told n r));
  starves = λ n m order. refl;
  unknown = λ n m reason. refl;
}

machines-tell : MachinesTell
machines-tell = record {
  machine = λ n ps opening answers m found there. ap (liveness_by n (order_text n ps opening) m) there;
  no_answer = λ n ps opening answers m none. ap (liveness_by n (order_text n ps opening) m) none;
  all = λ n ps opening answers. refl;
  plates = λ n ps opening b. refl;
}

texts-tell : TextsTell
texts-tell = record {
  places = λ n ps opening answers plates some. rw (other (length n.places) 0 some) refl;
  no_places = λ n ps opening answers plates none. rw none refl;
}

one_starves : (answers : List Liveness) (m : ℕ) (found : Liveness) → slice_get answers m ≡ Some found
    → may_starve found ≡ true → list_any may_starve answers ≡ true
one_starves [] m found there starves = absurd (cc)
one_starves (a ∷ answers) zero found there starves =
    let here : may_starve a ≡ true = cc in rw here refl
one_starves (a ∷ answers) (suc m) found there starves =
    by_cases (may_starve a) (list_any may_starve answers) (one_starves answers m found there starves)

pub none_starves : (answers : List Liveness) → NoneStarves answers → list_any may_starve answers ≡ false
none_starves [] none = refl
none_starves (a ∷ answers) none =
    rw (none 0 a refl) (none_starves answers (λ m found there. none (suc m) found there))

starving-tells : StarvingTells
starving-tells = record {
  machine = λ n answers plates m found there starves. rw (one_starves answers m found there starves) refl;
  plates = λ n answers plates some rest.
      rw (other (length n.places) 0 some, rest) (or_true (list_any may_starve answers));
  none = λ n answers plates none moving.
      rw (none_starves answers none, moving) (either_false (nat_eq (length n.places) 0));
  no_places = λ n answers plates none no_places. rw (none_starves answers none, no_places) refl;
}

pub going-tells : GoingTells
going-tells = record {
  bounds = bounds-tell;
  answers = answers-tell;
  machines = machines-tell;
  texts = texts-tell;
  starving = starving-tells;
}
