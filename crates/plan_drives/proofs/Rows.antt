-- Literal calls, programs and histories.
use Rattle.std.proofs.Common.{◌≡◌, inl, ℕ, Bool, true, false, List, [], ◌∷◌, ◌++◌, Some, None, refl, ap, IsTrue}
use Rattle.std.proofs.lemmas.List.Elements.{All-nil, All-cons, All-head, All-tail}
use Rattle.plan_types.specs.declared.posture.Posture.TheVariants.{Closed, Moving}
use Rattle.plan_types.specs.declared.call.Call.{Call}
use Rattle.plan_types.specs.declared.call.Call.TheVariants.{Claim, Give, Yield, Take, SetPose, Inquire}
use Rattle.plan_types.specs.declared.answer.Refusal.TheVariants.{Held, Shut}
use Rattle.plan_types.specs.declared.answer.Answer.TheVariants.{Shown}
use Rattle.plan_types.specs.declared.answer.Event.{Event}
use Rattle.plan_types.specs.Examples.{press_table}
use Rattle.plan_rules.specs.Examples.{event, did, refused, press_start}
use Rattle.plan_rules.specs.Refusals.{owns}
use Rattle.plan_rules.specs.History.{after}
use Rattle.plan_rules.specs.Laws.{done}
use Rattle.plan_drives.specs.declared.line.Line.TheVariants.{Do, Run}
use Rattle.plan_drives.specs.declared.undriven.Lack.TheVariants.{NoSuchMotor, OtherMachine, NotHeld, NotInPosture, NotFilled}
use Rattle.plan_drives.specs.Course.{is_done_by, Stays, DoesNext, ComesToOwn}
use Rattle.plan_drives.specs.Examples.{FactsAreRight, ProgramsAreRight, CoursesAreRight, press_plan, pressing, loading, opening}
use Rattle.plan_drives.proofs.Lacking.{driven_by, at_some}

pub facts_are_right : FactsAreRight
facts_are_right = record { claim = refl; guest_claims = refl; one_way = refl; host_of_one_way = refl; take_by_host = refl; take_by_guest = refl; taken_by_host = refl; taken_by_guest = refl; give_by_host = refl; give_by_guest = refl; given_by_host = refl; given_by_guest = refl; yield_by_host = refl; yield_by_guest = refl; release_by_host = refl; release_by_guest = refl; moves = refl; closes = refl; closes_held = refl; awaited = refl; awaited_back = refl; asks = refl; other_zone = refl; advanced = refl; emptied = refl; both_unknown = refl; both_known = refl; other_place = refl; both_move = refl; claims_both = refl; robot_claims = refl; takes_one = refl; gives_one = refl; yields_both = refl; releases_both = refl; awaits_both = refl }

pub programs_are_right : ProgramsAreRight
programs_are_right = record {
  press = driven_by press_plan 1 pressing refl;
  loader = driven_by press_plan 0 loading refl;
  nothing = driven_by press_plan 1 [] refl;
  no_motors = driven_by press_plan 1 (Run 0 ∷ []) refl;
  plates = driven_by press_plan 1 (Do (Give 0) ∷ Run 8 ∷ Do (Take 0) ∷ Do (SetPose 2) ∷ Run 16 ∷ []) refl;
  hasty = (at_some press_plan 1 (Do (Claim 0) ∷ Run 1 ∷ []) 1 (record { line = 1; motor = 0; lack = (NotInPosture 0 Moving None) }) refl).1;
  closed = (at_some press_plan 1 (Do (Claim 0) ∷ Do (SetPose 2) ∷ Run 1 ∷ []) 2 (record { line = 2; motor = 0; lack = (NotInPosture 0 Moving (Some Closed)) }) refl).1;
  unclaimed = (at_some press_plan 0 (Run 2 ∷ []) 0 (record { line = 0; motor = 1; lack = (NotHeld 0) }) refl).1;
  left = (at_some press_plan 0 (Do (Claim 0) ∷ Do (Yield 0) ∷ Run 2 ∷ []) 2 (record { line = 2; motor = 1; lack = (NotHeld 0) }) refl).1;
  not_awaited = (at_some press_plan 1 (Do (SetPose 3) ∷ Do (SetPose 0) ∷ Do (Yield 0) ∷ Run 1 ∷ []) 3 (record { line = 3; motor = 0; lack = (NotHeld 0) }) refl).1;
  round_end = (at_some press_plan 1 (Run 32 ∷ Do (SetPose 3) ∷ []) 0 (record { line = 0; motor = 5; lack = (NotInPosture 0 Moving None) }) refl).1;
  full = (at_some press_plan 1 (Do (Take 0) ∷ Run 8 ∷ []) 1 (record { line = 1; motor = 3; lack = (NotFilled 1 false (Some true)) }) refl).1;
  unknown_place = (at_some press_plan 1 (Run 8 ∷ []) 0 (record { line = 0; motor = 3; lack = (NotFilled 1 false None) }) refl).1;
  others_motor = (at_some press_plan 0 (Do (Claim 0) ∷ Run 3 ∷ []) 1 (record { line = 1; motor = 0; lack = (OtherMachine 1) }) refl).1;
  no_motor = (at_some press_plan 1 (Run 64 ∷ []) 0 (record { line = 0; motor = 6; lack = NoSuchMotor }) refl).1;
  last_motor = (at_some press_plan 1 (Do (Claim 0) ∷ Run 9223372036854775808 ∷ []) 1 (record { line = 1; motor = 63; lack = NoSuchMotor }) refl).1;
}

-- ---- histories

pub false_true : false ≡ true → ⊥
false_true e = cc

abbrev Not : ℕ → Event → Type 0
Not m e = ¬ IsTrue (is_done_by m e)

-- an event that isn't a done call of the machine, and then others
and : (m : ℕ) (e : Event) (h : List Event) → is_done_by m e ≡ false → Stays h m → Stays (e ∷ h) m
and m e h none rest = All-cons (Not m) e h (λ is. differ (is_done_by m e) none is) rest
  where
    differ : (b : Bool) → b ≡ false → b ≡ true → ⊥
    differ true e f = cc
    differ false e f = cc

pub none : (m : ℕ) → Stays [] m
none m = All-nil (Not m)

-- the next done call
does : (m : ℕ) (c : Call) (before since : List Event) → Stays before m → DoesNext (before ++ done m c ∷ since) m c
does m c before since stays = record { before = before; since = since; split = refl; stays = stays }

abbrev asks : List Event
asks = refused 0 (Claim 0) (Held 1) ∷ refused 1 (SetPose 0) (Shut Closed) ∷ []

abbrev yields : List Event
yields = did 1 (SetPose 3) ∷ did 1 (SetPose 0) ∷ did 1 (Yield 0) ∷ []

pub still : Stays opening 0
still =
    and 0 (did 1 (Claim 0)) (asks ++ yields) refl
    (and 0 (refused 0 (Claim 0) (Held 1)) (refused 1 (SetPose 0) (Shut Closed) ∷ yields) refl
    (and 0 (refused 1 (SetPose 0) (Shut Closed)) yields refl
    (and 0 (did 1 (SetPose 3)) (did 1 (SetPose 0) ∷ did 1 (Yield 0) ∷ []) refl
    (and 0 (did 1 (SetPose 0)) (did 1 (Yield 0) ∷ []) refl
    (and 0 (did 1 (Yield 0)) [] refl (none 0))))))

owned : (since : List Event) → ComesToOwn press_table press_start (opening ++ since) 0 0
owned since = record { before = opening; since = since; split = refl; stays = still; owned = refl }

-- ---- and what isn't so

pub never_empty : (xs : List Event) (e : Event) (ys : List Event) → [] ≡ xs ++ e ∷ ys → ⊥
never_empty [] e ys split = cc
never_empty (x ∷ xs) e ys split = cc

tails : (a b : Event) (xs ys : List Event) → a ∷ xs ≡ b ∷ ys → xs ≡ ys
tails a b xs ys e = ap (λ l. elim l as (λ _. List Event) [ [] ↦ xs | x ∷ rest ↦ rest ]) e

heads : (a b : Event) (xs ys : List Event) → a ∷ xs ≡ b ∷ ys → a ≡ b
heads a b xs ys e = ap (λ l. elim l as (λ _. Event) [ [] ↦ a | x ∷ rest ↦ x ]) e

no_owner : (before since : List Event) → [] ≡ before ++ since → IsTrue (owns (after press_table press_start before) 0 0) → ⊥
no_owner [] since split is = false_true is
no_owner (x ∷ xs) since split is = cc

other_call : (before since : List Event) → did 1 (Claim 0) ∷ [] ≡ before ++ done 1 (SetPose 3) ∷ since → ⊥
other_call [] since split = let same : Claim 0 ≡ SetPose 3 = ap (λ (e : Event). e.call) (heads (did 1 (Claim 0)) (done 1 (SetPose 3)) [] since split) in cc
other_call (x ∷ xs) since split = never_empty xs (done 1 (SetPose 3)) since (tails (did 1 (Claim 0)) x [] (xs ++ done 1 (SetPose 3) ∷ since) split)

pub courses_are_right : CoursesAreRight
unfolding does owned
courses_are_right = record {
  others_call = and 1 (did 0 (Claim 0)) (refused 1 (Claim 0) (Held 0) ∷ []) refl (and 1 (refused 1 (Claim 0) (Held 0)) [] refl (none 1));
  own_inquiry = and 1 (event 1 (Inquire 0) (Shown None false Closed)) [] refl (none 1);
  own_call = λ stays. All-head (Not 1) (did 1 (SetPose 3)) [] (All-tail (Not 1) (did 0 (Claim 0)) (did 1 (SetPose 3) ∷ []) stays) refl;
  press = (does 1 (Claim 0) [] (asks ++ yields) (none 1), (does 1 (SetPose 3) asks (did 1 (SetPose 0) ∷ did 1 (Yield 0) ∷ []) (and 1 (refused 0 (Claim 0) (Held 1)) (refused 1 (SetPose 0) (Shut Closed) ∷ []) refl (and 1 (refused 1 (SetPose 0) (Shut Closed)) [] refl (none 1))), (does 1 (SetPose 0) [] (did 1 (Yield 0) ∷ []) (none 1), (does 1 (Yield 0) [] [] (none 1), none 1))));
  loader = (owned [], none 0);
  loader_runs = record { line = 1; at = inl (record { before = []; round = opening; split = refl; goes = (owned [], none 0) }); runs = (Run 2, refl, refl) };
  press_runs = record { line = 2; at = inl (record { before = []; round = did 1 (Claim 0) ∷ did 1 (SetPose 3) ∷ []; split = refl; goes = (does 1 (Claim 0) [] (did 1 (SetPose 3) ∷ []) (none 1), (does 1 (SetPose 3) [] [] (none 1), none 1)) }); runs = (Run 33, refl, refl) };
  next_round = record { rounds = 1; goes = (owned (did 0 (Yield 0) ∷ []), (does 0 (Yield 0) [] [] (none 0), none 0)) };
  not_yet = λ goes. no_owner goes.0.before goes.0.since goes.0.split goes.0.owned;
  not_done = λ goes. never_empty goes.0.before (done 1 (Claim 0)) goes.0.since goes.0.split;
  other_call = λ goes. other_call goes.0.before goes.0.since goes.0.split;
}
