use Rattle.std.proofs.Common.{◌≡◌, ℕ, suc, zero, ◌+◌, ◌<◌, nat_lt, true, List, [], ◌∷◌, length, inl, inr, refl, arith}
use Rattle.plan_workers.specs.Turning.{GateOf, AreTakenBy, last_of}
use Rattle.plan_workers.specs.TurningExamples.{CountsOn, Counts, all}
use Rattle.plan_workers.proofs.laws.turning_examples_are_right.Goals as goal

-- who counts by one comes as far as it has turns
counted : (first : ℕ) (turns : List ℕ) → AreTakenBy CountsOn first turns → last_of first turns ≡ first + length turns
counted first [] k = omega arith
counted first (now ∷ later) k =
    let one : now ≡ first + 1 = k.0 in
    let rest = counted now later k.1 in
    omega (arith, one, rest)

-- so does its work
worked : (gate : GateOf) (limit first last took : ℕ) → Counts gate limit first last took → last ≡ first + took
worked gate limit first last took k =
    let far = counted first k.come.turns k.come.taken in
    let is = k.come.is_last in
    let many = k.come.many in
    omega (arith, far, is, many)

below_two : (k : ℕ) → k < 2 → true ≡ nat_lt k 2
below_two zero low = refl
below_two (suc zero) low = refl
below_two (suc (suc k)) low = absurd (omega (arith, low))

pub returns-clause-turns : goal.returns-clause-turns
returns-clause-turns c = record {
  each_turn = (refl, (refl, (refl, tt)));
  not_skipping = λ k. let second : 8 ≡ 6 + 1 = k.1.0 in omega (arith, second);
  not_from_elsewhere = λ k. let first : 7 ≡ 5 + 1 = k.0 in omega (arith, first);
  all_turns = record { come = record { turns = 6 ∷ 7 ∷ 8 ∷ []; taken = (refl, (refl, (refl, tt))); is_last = refl; many = refl; let_in = λ k low. refl }; ends = inl (omega arith) };
  no_turn = record { come = record { turns = []; taken = tt; is_last = refl; many = refl; let_in = λ k low. refl }; ends = inl (omega arith) };
  shut_out = record { come = record { turns = 6 ∷ 7 ∷ []; taken = (refl, (refl, tt)); is_last = refl; many = refl; let_in = below_two }; ends = inr (omega arith, refl) };
  not_let_in = λ k. let third : true ≡ nat_lt 2 2 = k.come.let_in 2 (omega arith) in cc;
  not_too_early = λ k. elim k.ends [ inl full ↦ absurd (omega (arith, full)) | inr shut ↦ let no = shut.1 in cc ];
  not_too_many = λ k. elim k.ends [ inl full ↦ absurd (omega (arith, full)) | inr shut ↦ let less = shut.0 in omega (arith, less) ];
  not_elsewhere = λ k. let is = worked all 3 5 9 3 k in omega (arith, is);
  not_fewer = λ k. let is = worked all 3 5 7 3 k in omega (arith, is);
}
