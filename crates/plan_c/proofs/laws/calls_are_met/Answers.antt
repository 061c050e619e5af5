use Rattle.std.proofs.Common.{◌≡◌, ◌≢◌, ◌∙◌, ℕ, ◌<◌, nat_eq, if◌then◌else◌, refl, sym, ap, arith}
use Rattle.plan_types.specs.declared.call.Call.{Call}
use Rattle.plan_types.specs.declared.call.Call.TheVariants.{Claim, Give, Yield, Take, Release, SetPose, Inquire, Stop, Resume, Advance}
use Rattle.plan_c.specs.Numbers.{IsCall, NoCall, verb_number, object_number}
use Rattle.plan_c.proofs.laws.calls_are_met.Goals as goal

-- a number that is no call's verb
no_verb : (n : ℕ) → ((c : Call) → n ≡ verb_number c → ⊥) → (object : ℕ) → NoCall n object
no_verb n none object c is = none c is.0

zero_none : (c : Call) → 0 ≡ verb_number c → ⊥
zero_none (Claim z) e = omega (arith, e)
zero_none (Give z) e = omega (arith, e)
zero_none (Yield z) e = omega (arith, e)
zero_none (Take z) e = omega (arith, e)
zero_none (Release z) e = omega (arith, e)
zero_none (SetPose p) e = omega (arith, e)
zero_none (Inquire z) e = omega (arith, e)
zero_none Stop e = omega (arith, e)
zero_none Resume e = omega (arith, e)
zero_none (Advance p) e = omega (arith, e)

seven_none : (c : Call) → 7 ≡ verb_number c → ⊥
seven_none (Claim z) e = omega (arith, e)
seven_none (Give z) e = omega (arith, e)
seven_none (Yield z) e = omega (arith, e)
seven_none (Take z) e = omega (arith, e)
seven_none (Release z) e = omega (arith, e)
seven_none (SetPose p) e = omega (arith, e)
seven_none (Inquire z) e = omega (arith, e)
seven_none Stop e = omega (arith, e)
seven_none Resume e = omega (arith, e)
seven_none (Advance p) e = omega (arith, e)

past_none : (n : ℕ) → 11 < n → (c : Call) → n ≡ verb_number c → ⊥
past_none n past (Claim z) e = omega (arith, past, e)
past_none n past (Give z) e = omega (arith, past, e)
past_none n past (Yield z) e = omega (arith, past, e)
past_none n past (Take z) e = omega (arith, past, e)
past_none n past (Release z) e = omega (arith, past, e)
past_none n past (SetPose p) e = omega (arith, past, e)
past_none n past (Inquire z) e = omega (arith, past, e)
past_none n past Stop e = omega (arith, past, e)
past_none n past Resume e = omega (arith, past, e)
past_none n past (Advance p) e = omega (arith, past, e)

stop_of_zone : (object : ℕ) → object ≢ 0 → NoCall 9 object
stop_of_zone object some (Claim z) is = let e : 9 ≡ 1 = is.0 in omega (arith, e)
stop_of_zone object some (Give z) is = let e : 9 ≡ 2 = is.0 in omega (arith, e)
stop_of_zone object some (Yield z) is = let e : 9 ≡ 3 = is.0 in omega (arith, e)
stop_of_zone object some (Take z) is = let e : 9 ≡ 4 = is.0 in omega (arith, e)
stop_of_zone object some (Release z) is = let e : 9 ≡ 5 = is.0 in omega (arith, e)
stop_of_zone object some (SetPose p) is = let e : 9 ≡ 6 = is.0 in omega (arith, e)
stop_of_zone object some (Inquire z) is = let e : 9 ≡ 8 = is.0 in omega (arith, e)
stop_of_zone object some Stop is = some is.1
stop_of_zone object some Resume is = let e : 9 ≡ 10 = is.0 in omega (arith, e)
stop_of_zone object some (Advance p) is = let e : 9 ≡ 11 = is.0 in omega (arith, e)

none_to_resume : (object : ℕ) → object ≢ 0 → NoCall 10 object
none_to_resume object some (Claim z) is = let e : 10 ≡ 1 = is.0 in omega (arith, e)
none_to_resume object some (Give z) is = let e : 10 ≡ 2 = is.0 in omega (arith, e)
none_to_resume object some (Yield z) is = let e : 10 ≡ 3 = is.0 in omega (arith, e)
none_to_resume object some (Take z) is = let e : 10 ≡ 4 = is.0 in omega (arith, e)
none_to_resume object some (Release z) is = let e : 10 ≡ 5 = is.0 in omega (arith, e)
none_to_resume object some (SetPose p) is = let e : 10 ≡ 6 = is.0 in omega (arith, e)
none_to_resume object some (Inquire z) is = let e : 10 ≡ 8 = is.0 in omega (arith, e)
none_to_resume object some Stop is = let e : 10 ≡ 9 = is.0 in omega (arith, e)
none_to_resume object some Resume is = some is.1
none_to_resume object some (Advance p) is = let e : 10 ≡ 11 = is.0 in omega (arith, e)

-- the call with these numbers
named : ℕ → ℕ → Call
named verb object =
    if nat_eq verb 1 then Claim object
    else if nat_eq verb 2 then Give object
    else if nat_eq verb 3 then Yield object
    else if nat_eq verb 4 then Take object
    else if nat_eq verb 5 then Release object
    else if nat_eq verb 6 then SetPose object
    else if nat_eq verb 8 then Inquire object
    else if nat_eq verb 9 then Stop
    else if nat_eq verb 11 then Advance object
    else Resume

is_named : (c : Call) → named (verb_number c) (object_number c) ≡ c
unfolding named
is_named (Claim z) = refl
is_named (Give z) = refl
is_named (Yield z) = refl
is_named (Take z) = refl
is_named (Release z) = refl
is_named (SetPose p) = refl
is_named (Inquire z) = refl
is_named Stop = refl
is_named Resume = refl
is_named (Advance p) = refl

by_numbers : (verb object : ℕ) (c : Call) → IsCall verb object c → named verb object ≡ c
by_numbers verb object c is =
    ap (λ n. named n object) is.0 ∙ (ap (λ n. named (verb_number c) n) is.1 ∙ is_named c)

one_call : (verb object : ℕ) (a b : Call) → IsCall verb object a → IsCall verb object b → a ≡ b
one_call verb object a b here there = sym (by_numbers verb object a here) ∙ by_numbers verb object b there

pub returns : goal.returns
returns c = record {
  claim = λ z. (refl, refl);
  give = λ z. (refl, refl);
  yield = λ z. (refl, refl);
  take = λ z. (refl, refl);
  release = λ z. (refl, refl);
  pose = λ p. (refl, refl);
  inquire = λ z. (refl, refl);
  stop = (refl, refl);
  resume = (refl, refl);
  advance = λ p. (refl, refl);
  one_call = one_call;
  resume_of_zone = λ is. let e : 1 ≡ 0 = is.1 in omega (arith, e);
  some_stop = λ none. none Stop (refl, refl);
  some_claim = λ none. none (Claim 255) (refl, refl);
  other_verb = λ is. let e : 5 ≡ 6 = is.0 in omega (arith, e);
  other_object = λ is. let e : 62 ≡ 63 = is.1 in omega (arith, e);
  some_call = λ none. none (SetPose 63) (refl, refl);
  no_verb = no_verb 0 zero_none;
  advance_of_cell = no_verb 7 seven_none;
  stop_of_zone = stop_of_zone;
  none_to_resume = none_to_resume;
  past_all = λ verb object past. no_verb verb (past_none verb past) object;
}
