-- A machine that has gone through lines knows what they tell, and is permitted what it runs.
use Rattle.std.proofs.Common.{All, get_or, replicate, zero, suc, ◌+◌, true, false, ◌≡◌, ◌<◌, ◌≤◌, inl, inr, ℕ, Bool, ◌&&◌, Option, Some, None, List, [], ◌∷◌, ◌++◌, length, take, drop, refl, sym, ap, ◌∙◌, subst, arith, IsTrue}
use Rattle.std.proofs.lemmas.Bool.{and_parts, false_from_ne_true}
use Rattle.std.proofs.Math.ListN.{drop_of_length-le}
use Rattle.std.proofs.Math.Seq.{drop-append_seam}
use Rattle.std.proofs.lemmas.List.{append_assoc, append-nil, length-append, length-take, length-take-le, take-append-drop, drop-append-le}
use Rattle.std.proofs.lemmas.List.Elements.{All-nil, All-cons, All-head, All-tail}
use Rattle.std.specs.Option.{option_eq}
use Rattle.std.specs.Prelude.{slice_get}
use Rattle.plan_types.specs.declared.posture.Posture.{Posture}
use Rattle.plan_types.specs.declared.posture.Posture.TheVariants.{Closed}
use Rattle.plan_types.specs.declared.call.Call.TheVariants.{Claim, Inquire}
use Rattle.plan_types.specs.declared.answer.Refusal.{Refusal}
use Rattle.plan_types.specs.declared.answer.Answer.{Answer}
use Rattle.plan_types.specs.declared.answer.Answer.TheVariants.{Done, Shown, Refused}
use Rattle.plan_types.specs.declared.answer.Event.{Event}
use Rattle.plan_types.specs.Same.{same_posture, one_posture}
use Rattle.plan_types.specs.Table.{PlanTable}
use Rattle.plan_types.specs.Plan.{IsPlan}
use Rattle.plan_rules.specs.declared.state.ZoneState.{ZoneState}
use Rattle.plan_rules.specs.declared.state.State.{State}
use Rattle.plan_rules.specs.State.{zone_at, posture_at, is_full, owner_of, free_zone}
use Rattle.plan_rules.specs.Sound.{IsSound, IsStart, implies, is_owned_by, is_open}
use Rattle.plan_rules.specs.Refusals.{owns, inquire_refusal}
use Rattle.plan_rules.specs.Reply.{reply, answer_by, next}
use Rattle.plan_rules.specs.History.{after, IsLegal}
use Rattle.plan_rules.specs.Laws.{done, EveryLegalHistoryIsLawful}
use Rattle.plan_rules.proofs.lemmas.Puts.{nat_eq-self}
use Rattle.plan_rules.proofs.lemmas.Starts.{start_is_sound}
use Rattle.plan_motors.specs.declared.motor.ZoneNeed.{ZoneNeed}
use Rattle.plan_motors.specs.declared.motor.Motor.{Motor}
use Rattle.plan_motors.specs.Motor.{need_of, place_need, has_posture, meets, meets_place, Permits}
use Rattle.plan_motors.specs.OfPlan.{motor_at}
use Rattle.plan_motors.specs.MotorPlan.{MotorTables}
use Rattle.plan_motors.specs.Decided.{NeverBoth}
use Rattle.plan_motors.specs.Poses.{NeverFrom}
use Rattle.plan_motors.proofs.lemmas.Lasting.{never_after}
use Rattle.plan_drives.specs.declared.line.Line.{Line}
use Rattle.plan_drives.specs.declared.line.Line.TheVariants.{Do, Await, Run}
use Rattle.plan_drives.specs.Facts.{no_facts, facts_after, facts_after_line, facts_along, facts_at, OpensByPoses}
use Rattle.plan_drives.specs.InStep.{IsKnownIn, IsInStep}
use Rattle.plan_drives.specs.Program.{posture_follows, zone_follows, is_known_as, place_follows, Backs, Runs, IsDriven}
use Rattle.plan_drives.specs.Course.{is_done_by, Stays, DoesNext, ComesToOwn, GoesThrough, IsInRound, HasGoneOn, IsAt, rounds_of, HasCome, HasComeFrom, IsRunning, CoursesGoOn}
use Rattle.plan_drives.proofs.Learning.{Knows, knows_nothing, finds}
use Rattle.plan_drives.proofs.Lasting.{leaves, tells, Live, live_next, live_after}

-- ---- parts of histories

legal_left : (t : PlanTable) (s : State) (a b : List Event) → IsLegal t s (a ++ b) → IsLegal t s a
legal_left t s [] b l = tt
legal_left t s (e ∷ a) b l = (l.0, legal_left t (next t s e.machine e.call) a b l.1)

legal_right : (t : PlanTable) (s : State) (a b : List Event) → IsLegal t s (a ++ b) → IsLegal t (after t s a) b
legal_right t s [] b l = l
legal_right t s (e ∷ a) b l = legal_right t (next t s e.machine e.call) a b l.1

after_append : (t : PlanTable) (s : State) (a b : List Event) → after t s (a ++ b) ≡ after t (after t s a) b
after_append t s [] b = refl
after_append t s (e ∷ a) b = after_append t (next t s e.machine e.call) a b

ends_at : (t : PlanTable) (s : State) (h a b : List Event) → h ≡ a ++ b → after t (after t s a) b ≡ after t s h
ends_at t s h a b split = sym (after_append t s a b) ∙ sym (ap (after t s) split)

-- ---- while a machine stays where it is, it knows what it knew

stays_knowing : EveryLegalHistoryIsLawful → (t : PlanTable) (s : State) (h : List Event) (f : Motor) → IsPlan t → Live t s → IsLegal t s h → Stays h f.machine → Knows t s f → Knows t (after t s h) f
stays_knowing laws t s [] f p k legal stays known = known
stays_knowing laws t s (e ∷ h) f p k legal stays known =
    let Not : Event → Type 0 = λ x. ¬ IsTrue (is_done_by f.machine x) in
    let none = false_from_ne_true (is_done_by f.machine e) (All-head Not e h stays) in
    stays_knowing laws t (next t s e.machine e.call) h f p (live_next laws t s e p k legal.0) legal.1 (All-tail Not e h stays)
    (leaves laws t s f e p k.sound known legal.0 none)

-- ---- through lines

knows_through : EveryLegalHistoryIsLawful → (t : PlanTable) (s : State) (h : List Event) (f : Motor) (lines : List Line) → IsPlan t → Live t s → IsLegal t s h
    → GoesThrough t s h f.machine lines → Knows t s f → Knows t (after t s h) (facts_along t f lines)
knows_through laws t s h f [] p k legal goes known = stays_knowing laws t s h f p k legal goes known
knows_through laws t s h f (Do c ∷ lines) p k legal goes known =
    let x = goes.0 in
    let m = f.machine in
    let e = done m c in
    let whole = subst (IsLegal t s) x.split legal in
    let at = after t s x.before in
    let first = legal_left t s x.before (e ∷ x.since) whole in
    let rest = legal_right t s x.before (e ∷ x.since) whole in
    let live = live_after laws t s x.before p k first in
    let known_then = stays_knowing laws t s x.before f p k first x.stays known in
    let told = tells t at f c p live.sound live.opens known_then rest.0 in
    let there : after t s (x.before ++ e ∷ []) ≡ next t at m c = after_append t s x.before (e ∷ []) in
    let goes_on = subst (λ y. GoesThrough t y x.since m lines) there goes.1 in
    let end = knows_through laws t (next t at m c) x.since (facts_after t f c) lines p (live_next laws t at e p live rest.0) rest.1 goes_on told in
    subst (λ y. Knows t y (facts_along t (facts_after t f c) lines)) (ends_at t s h x.before (e ∷ x.since) x.split) end
knows_through laws t s h f (Await z ∷ lines) p k legal goes known =
    let x = goes.0 in
    let whole = subst (IsLegal t s) x.split legal in
    let at = after t s x.before in
    let first = legal_left t s x.before x.since whole in
    let live = live_after laws t s x.before p k first in
    let known_then = stays_knowing laws t s x.before f p k first x.stays known in
    let told = finds t at f z p live.sound live.opens known_then x.owned in
    let end = knows_through laws t at x.since (facts_after t f (Claim z)) lines p live (legal_right t s x.before x.since whole) goes.1 told in
    subst (λ y. Knows t y (facts_along t (facts_after t f (Claim z)) lines)) (ends_at t s h x.before x.since x.split) end
knows_through laws t s h f (Run motors ∷ lines) p k legal goes known = knows_through laws t s h f lines p k legal goes known

knows_in_round : EveryLegalHistoryIsLawful → (t : PlanTable) (s : State) (h : List Event) (m : ℕ) (program : List Line) (k : ℕ) → IsPlan t → Live t s → IsLegal t s h
    → IsInRound t s h m program k → Knows t (after t s h) (facts_at t m program k)
knows_in_round laws t s h m program k p live legal at =
    let whole = subst (IsLegal t s) at.split legal in
    let begun = after t s at.before in
    let since = live_after laws t s at.before p live (legal_left t s at.before at.round whole) in
    let known = knows_through laws t begun at.round (no_facts m) (take k program) p since (legal_right t s at.before at.round whole) at.goes (knows_nothing t begun m p) in
    subst (λ x. Knows t x (facts_at t m program k)) (ends_at t s h at.before at.round at.split) known

-- ---- from a line at which it was in step

machine_along : (t : PlanTable) (f : Motor) (lines : List Line) → (facts_along t f lines).machine ≡ f.machine
machine_along t f [] = refl
machine_along t f (Do c ∷ lines) = machine_along t (facts_after t f c) lines
machine_along t f (Await z ∷ lines) = machine_along t (facts_after t f (Claim z)) lines
machine_along t f (Run motors ∷ lines) = machine_along t f lines

facts_append : (t : PlanTable) (f : Motor) (a b : List Line) → facts_along t f (a ++ b) ≡ facts_along t (facts_along t f a) b
facts_append t f [] b = refl
facts_append t f (line ∷ a) b = facts_append t (facts_after_line t f line) a b

take_less : (xs : List Line) (j k : ℕ) → j ≤ k → take j (take k xs) ≡ take j xs
take_less xs zero k l = refl
take_less xs (suc j) zero l = absurd (omega (arith, l))
take_less [] (suc j) (suc k) l = refl
take_less (x ∷ xs) (suc j) (suc k) l = ap (λ ys. x ∷ ys) (take_less xs j k (omega (arith, l)))

-- the lines up to a line, and those between it and a later one
between : (program : List Line) (from k : ℕ) → from ≤ k → take from program ++ drop from (take k program) ≡ take k program
between program from k l = ap (λ x. x ++ drop from (take k program)) (sym (take_less program from k l)) ∙ take-append-drop from (take k program)

knows_known : (t : PlanTable) (s : State) (f : Motor) → IsKnownIn t s f → Knows t s f
knows_known t s f k = record { zones = k.is_so.zones; places = k.is_so.places; kept = k.own.postures; own = k.own.places }

known_knows : (t : PlanTable) (s : State) (f : Motor) → Knows t s f → IsKnownIn t s f
known_knows t s f k = record { is_so = record { zones = k.zones; places = k.places }; own = record { postures = k.kept; places = k.own } }

knows_from : EveryLegalHistoryIsLawful → (t : PlanTable) (s : State) (h : List Event) (m : ℕ) (program : List Line) (k : ℕ) → IsPlan t → Live t s → IsLegal t s h
    → HasGoneOn t s h m program k → Knows t (after t s h) (facts_at t m program k)
knows_from laws t s h m program k p live legal on =
    let first = facts_at t m program on.from in
    let rest = drop on.from (take k program) in
    let goes = subst (λ n. GoesThrough t s h n rest) (sym (machine_along t (no_facts m) (take on.from program))) on.goes in
    let known = knows_through laws t s h first rest p live legal goes (knows_known t s first on.in_step.known) in
    subst (Knows t (after t s h)) (sym (facts_append t (no_facts m) (take on.from program) rest) ∙ ap (facts_along t (no_facts m)) (between program on.from k on.not_past)) known

knows_at : EveryLegalHistoryIsLawful → (t : PlanTable) (s : State) (h : List Event) (m : ℕ) (program : List Line) (k : ℕ) → IsPlan t → Live t s → IsLegal t s h
    → IsAt t s h m program k → Knows t (after t s h) (facts_at t m program k)
knows_at laws t s h m program k p live legal (inl at) = knows_in_round laws t s h m program k p live legal at
knows_at laws t s h m program k p live legal (inr on) = knows_from laws t s h m program k p live legal on

-- who is at a line is in step there
pub in_step : EveryLegalHistoryIsLawful → (t : PlanTable) (s : State) (h : List Event) (m : ℕ) (program : List Line) (k : ℕ) → IsPlan t → IsSound t s → OpensByPoses t s → IsLegal t s h
    → k < length program → IsAt t s h m program k → IsInStep t (after t s h) m program k
in_step laws t s h m program k p sound opens legal l at = record {
  line = l;
  known = known_knows t (after t s h) (facts_at t m program k) (knows_at laws t s h m program k p (record { sound = sound; opens = opens }) legal at);
}

-- and zones are open as poses give
pub opens_later : EveryLegalHistoryIsLawful → (t : PlanTable) (s : State) (h : List Event) → IsPlan t → IsSound t s → OpensByPoses t s → IsLegal t s h → OpensByPoses t (after t s h)
opens_later laws t s h p sound opens legal = (live_after laws t s h p (record { sound = sound; opens = opens }) legal).opens

-- ---- what follows from what is known is so

known_posture : (known : Option Posture) (needed q : Posture) → option_eq same_posture known (Some needed) ≡ true → has_posture known q ≡ true → same_posture q needed ≡ true
known_posture None needed q e h = cc
known_posture (Some r) needed q e h = subst (λ x. same_posture q x ≡ true) (one_posture r needed e) h

posture_is : (known needed : Option Posture) (q : Posture) → posture_follows known needed ≡ true → has_posture known q ≡ true → has_posture needed q ≡ true
posture_is known None q e h = refl
posture_is known (Some needed) q e h = known_posture known needed q e h

holds_follows : (known needed own : Bool) → implies needed known ≡ true → implies known own ≡ true → implies needed own ≡ true
holds_follows true true own e h = h
holds_follows false true own e h = cc
holds_follows known false own e h = refl

both : (a b : Bool) → a ≡ true → b ≡ true → (a && b) ≡ true
both true true e f = refl
both true false e f = cc
both false b e f = cc

zone_backed : (m : ℕ) (known need : ZoneNeed) (v : ZoneState) → zone_follows known need ≡ true → meets m known v ≡ true → meets m need v ≡ true
zone_backed m known need v e h =
    let follows = and_parts (implies need.holds known.holds) (posture_follows known.posture need.posture) e in
    let is = and_parts (implies known.holds (is_owned_by v.owner m)) (has_posture known.posture v.posture) h in
    both (implies need.holds (is_owned_by v.owner m)) (has_posture need.posture v.posture)
    (holds_follows known.holds need.holds (is_owned_by v.owner m) follows.0 is.0)
    (posture_is known.posture need.posture v.posture follows.1 is.1)

known_place : (known : Option Bool) (needed full : Bool) → is_known_as known needed ≡ true → meets_place known full ≡ true → meets_place (Some needed) full ≡ true
known_place None needed full e h = cc
known_place (Some true) true full e h = h
known_place (Some true) false full e h = cc
known_place (Some false) true full e h = cc
known_place (Some false) false full e h = h

place_backed : (known need : Option Bool) (full : Bool) → place_follows known need ≡ true → meets_place known full ≡ true → meets_place need full ≡ true
place_backed known None full e h = refl
place_backed known (Some needed) full e h = known_place known needed full e h

backed : (t : PlanTable) (s : State) (known motor : Motor) → Backs t known motor → Knows t s known → Permits t s motor
backed t s known motor b k = record {
  zones = λ z l. subst (λ m. IsTrue (meets m (need_of motor z) (zone_at s z))) (sym b.machine) (zone_backed known.machine (need_of known z) (need_of motor z) (zone_at s z) (b.zones z l) (k.zones z l));
  places = λ p l. place_backed (place_need known p) (place_need motor p) (is_full s p) (b.places p l) (k.places p l);
}

pub permitted_at : EveryLegalHistoryIsLawful → (plan : MotorTables) (s : State) (h : List Event) (m : ℕ) (program : List Line) (k i : ℕ) → IsPlan plan.plan → IsSound plan.plan s → OpensByPoses plan.plan s
    → IsLegal plan.plan s h → IsDriven plan m program → IsAt plan.plan s h m program k → Runs program k i → Permits plan.plan (after plan.plan s h) (motor_at plan.motors i)
permitted_at laws plan s h m program k i p sound opens legal driven at runs =
    let live : Live plan.plan s = record { sound = sound; opens = opens } in
    backed plan.plan (after plan.plan s h) (facts_at plan.plan m program k) (motor_at plan.motors i) (driven k i runs).1 (knows_at laws plan.plan s h m program k p live legal at)

pub permitted_running : EveryLegalHistoryIsLawful → (plan : MotorTables) (s : State) (h : List Event) (m : ℕ) (program : List Line) (i : ℕ) → IsPlan plan.plan → IsSound plan.plan s → OpensByPoses plan.plan s
    → IsLegal plan.plan s h → IsDriven plan m program → IsRunning plan.plan s h m program i → Permits plan.plan (after plan.plan s h) (motor_at plan.motors i)
permitted_running laws plan s h m program i p sound opens legal driven x = permitted_at laws plan s h m program x.line i p sound opens legal driven x.at x.runs

-- ---- from the opening

-- a history that goes through lines and then through others has a moment between
record Parted (t : PlanTable) (s : State) (h : List Event) (m : ℕ) (lines : List Line) : Type 0 where
  before : List Event
  since : List Event
  split : h ≡ before ++ since
  goes : GoesThrough t (after t s before) since m lines

-- a part of what came since is a part of the whole
join : (t : PlanTable) (s : State) (h first since : List Event) (m : ℕ) (lines : List Line) → h ≡ first ++ since → Parted t (after t s first) since m lines → Parted t s h m lines
join t s h first since m lines split x = record {
  before = first ++ x.before;
  since = x.since;
  split = split ∙ ap (λ l. first ++ l) x.split ∙ sym (append_assoc first x.before x.since);
  goes = subst (λ y. GoesThrough t y x.since m lines) (sym (after_append t s first x.before)) x.goes;
}

part : (t : PlanTable) (s : State) (h : List Event) (m : ℕ) (a b : List Line) → GoesThrough t s h m (a ++ b) → Parted t s h m b
part t s h m [] b goes = record { before = []; since = h; split = refl; goes = goes }
part t s h m (Do c ∷ a) b goes =
    let x = goes.0 in
    let first = x.before ++ done m c ∷ [] in
    join t s h first x.since m b (x.split ∙ sym (append_assoc x.before (done m c ∷ []) x.since)) (part t (after t s first) x.since m a b goes.1)
part t s h m (Await z ∷ a) b goes =
    let x = goes.0 in
    join t s h x.before x.since m b x.split (part t (after t s x.before) x.since m a b goes.1)
part t s h m (Run motors ∷ a) b goes = part t s h m a b goes

pub in_round : (t : PlanTable) (s : State) (h : List Event) (m : ℕ) (program : List Line) (k : ℕ) → HasCome t s h m program k → IsInRound t s h m program k
in_round t s h m program k come =
    let x = part t s h m (rounds_of come.rounds program) (take k program) come.goes in
    record { before = x.before; round = x.since; split = x.split; goes = x.goes }

-- ---- while it stays there

all_both : (P : Event → Type 0) (a b : List Event) → All P a → All P b → All P (a ++ b)
all_both P [] b x y = y
all_both P (e ∷ a) b x y = All-cons P e (a ++ b) (All-head P e a x) (all_both P a b (All-tail P e a x) y)

-- a history goes on, and with it the lines
goes_on : (t : PlanTable) (m : ℕ) (end : State) (more : List Event) (tail : List Line)
    → ((s : State) (h : List Event) → after t s h ≡ end → Stays h m → GoesThrough t s (h ++ more) m tail)
    → (s : State) (h : List Event) (lines : List Line) → after t s h ≡ end → GoesThrough t s h m lines → GoesThrough t s (h ++ more) m (lines ++ tail)
goes_on t m end more tail last s h [] is goes = last s h is goes
goes_on t m end more tail last s h (Do c ∷ lines) is goes =
    let x = goes.0 in
    let first = x.before ++ done m c ∷ [] in
    let longer : DoesNext (h ++ more) m c = record {
      before = x.before;
      since = x.since ++ more;
      split = ap (λ l. l ++ more) x.split ∙ append_assoc x.before (done m c ∷ x.since) more;
      stays = x.stays;
    } in
    let there = ends_at t s h first x.since (x.split ∙ sym (append_assoc x.before (done m c ∷ []) x.since)) ∙ is in
    (longer, goes_on t m end more tail last (after t s first) x.since lines there goes.1)
goes_on t m end more tail last s h (Await z ∷ lines) is goes =
    let x = goes.0 in
    let longer : ComesToOwn t s (h ++ more) m z = record {
      before = x.before;
      since = x.since ++ more;
      split = ap (λ l. l ++ more) x.split ∙ append_assoc x.before x.since more;
      stays = x.stays;
      owned = x.owned;
    } in
    (longer, goes_on t m end more tail last (after t s x.before) x.since lines (ends_at t s h x.before x.since x.split ∙ is) goes.1)
goes_on t m end more tail last s h (Run motors ∷ lines) is goes = goes_on t m end more tail last s h lines is goes

round_longer : (t : PlanTable) (s : State) (h more : List Event) (m : ℕ) (program : List Line) (k n : ℕ) (tail : List Line)
    → ((s' : State) (h' : List Event) → after t s' h' ≡ after t s h → Stays h' m → GoesThrough t s' (h' ++ more) m tail)
    → take n program ≡ take k program ++ tail → IsInRound t s h m program k → IsInRound t s (h ++ more) m program n
round_longer t s h more m program k n tail last lines at = record {
  before = at.before;
  round = at.round ++ more;
  split = ap (λ l. l ++ more) at.split ∙ append_assoc at.before at.round more;
  goes = subst (GoesThrough t (after t s at.before) (at.round ++ more) m) (sym lines) (goes_on t m (after t s h) more tail last (after t s at.before) at.round (take k program) (ends_at t s h at.before at.round at.split) at.goes);
}

-- (k < n or k ≡ n)
on_longer : (t : PlanTable) (s : State) (h more : List Event) (m : ℕ) (program : List Line) (k n : ℕ) (tail : List Line)
    → ((s' : State) (h' : List Event) → after t s' h' ≡ after t s h → Stays h' m → GoesThrough t s' (h' ++ more) m tail)
    → take n program ≡ take k program ++ tail → k ≤ n → HasGoneOn t s h m program k → HasGoneOn t s (h ++ more) m program n
on_longer t s h more m program k n tail last lines later on =
    let l = on.not_past in
    let inside = on.in_step.line in
    let few : on.from ≤ length (take k program) = (let n = length-take k program in omega (arith, n, l, inside)) in
    let whole = ap (drop on.from) lines ∙ drop-append-le on.from (take k program) tail few in
    record {
      from = on.from;
      in_step = on.in_step;
      not_past = omega (arith, l, later);
      goes = subst (GoesThrough t s (h ++ more) m) (sym whole) (goes_on t m (after t s h) more tail last s h (drop on.from (take k program)) refl on.goes);
    }

at_longer : (t : PlanTable) (s : State) (h more : List Event) (m : ℕ) (program : List Line) (k n : ℕ) (tail : List Line)
    → ((s' : State) (h' : List Event) → after t s' h' ≡ after t s h → Stays h' m → GoesThrough t s' (h' ++ more) m tail)
    → take n program ≡ take k program ++ tail → k ≤ n → IsAt t s h m program k → IsAt t s (h ++ more) m program n
at_longer t s h more m program k n tail last lines later (inl at) = inl (round_longer t s h more m program k n tail last lines at)
at_longer t s h more m program k n tail last lines later (inr on) = inr (on_longer t s h more m program k n tail last lines later on)

line_more : (program : List Line) (k : ℕ) (line : Line) → slice_get program k ≡ Some line → take (suc k) program ≡ take k program ++ line ∷ []
line_more [] k line e = cc
line_more (x ∷ xs) zero line e = ap (λ (o : Option Line). elim o as (λ _. List Line) [ None ↦ [] | Some y ↦ y ∷ [] ]) e
line_more (x ∷ xs) (suc k) line e = ap (λ l. x ∷ l) (line_more xs k line e)

next_line : (program : List Line) (k : ℕ) (line : Line) → slice_get program k ≡ Some line → take (k + 1) program ≡ take k program ++ line ∷ []
next_line program k line e = let one : k + 1 ≡ suc k = omega arith in ap (λ n. take n program) one ∙ line_more program k line e

-- what says that a machine is at a line says so as lines are added
abbrev Lengthens : (List Event → ℕ → Type 0) → PlanTable → State → List Event → ℕ → List Line → Type 0
Lengthens At t s h m program =
    (more : List Event) (k n : ℕ) (tail : List Line)
    → ((s' : State) (h' : List Event) → after t s' h' ≡ after t s h → Stays h' m → GoesThrough t s' (h' ++ more) m tail)
    → take n program ≡ take k program ++ tail → k ≤ n → At h k → At (h ++ more) n

going_on : (At : List Event → ℕ → Type 0) (t : PlanTable) (s : State) (h : List Event) (m : ℕ) (program : List Line) → At h 0 → Lengthens At t s h m program → CoursesGoOn At t s h m program
going_on At t s h m program first longer =
    let Not : Event → Type 0 = λ e. ¬ IsTrue (is_done_by m e) in
    let short : (k : ℕ) → At (h ++ []) k → At h k = λ k. subst (λ l. At l k) (append-nil h) in
    record {
      begins = first;
      stays = λ k more at stays.
          longer more k k [] (λ s' h' is still. all_both Not h' more still stays) (sym (append-nil (take k program))) (omega arith) at;
      does = λ k c at there.
          longer (done m c ∷ []) k (k + 1) (Do c ∷ [])
          (λ s' h' is still. (record { before = h'; since = []; split = refl; stays = still }, All-nil Not)) (next_line program k (Do c) there) (omega arith) at;
      awaits = λ k z at there owned.
          short (k + 1)
          (longer [] k (k + 1) (Await z ∷ [])
          (λ s' h' is still. (record { before = h'; since = []; split = refl; stays = still; owned = subst (λ x. IsTrue (owns x m z)) (sym is) owned }, All-nil Not)) (next_line program k (Await z) there) (omega arith) at);
      runs = λ k motors at there.
          short (k + 1)
          (longer [] k (k + 1) (Run motors ∷ [])
          (λ s' h' is still. subst (λ l. Stays l m) (sym (append-nil h')) still) (next_line program k (Run motors) there) (omega arith) at);
    }

begun : (t : PlanTable) (s : State) (h : List Event) (m : ℕ) (program : List Line) → IsInRound t s h m program 0
begun t s h m program = record { before = h; round = []; split = sym (append-nil h); goes = All-nil (λ e. ¬ IsTrue (is_done_by m e)) }

pub rounds_go_on : (t : PlanTable) (s : State) (h : List Event) (m : ℕ) (program : List Line) → CoursesGoOn (λ x k. IsInRound t s x m program k) t s h m program
rounds_go_on t s h m program =
    going_on (λ x k. IsInRound t s x m program k) t s h m program (begun t s h m program)
    (λ more k n tail last lines later. round_longer t s h more m program k n tail last lines)

pub courses_go_on : (t : PlanTable) (s : State) (h : List Event) (m : ℕ) (program : List Line) → CoursesGoOn (λ x k. IsAt t s x m program k) t s h m program
courses_go_on t s h m program =
    going_on (λ x k. IsAt t s x m program k) t s h m program (inl (begun t s h m program))
    (λ more k n tail last lines later. at_longer t s h more m program k n tail last lines later)

-- ---- from a line to another

-- what is known at the next line
pub facts_next : (t : PlanTable) (m : ℕ) (program : List Line) (k : ℕ) (line : Line) → slice_get program k ≡ Some line → facts_at t m program (k + 1) ≡ facts_after_line t (facts_at t m program k) line
facts_next t m program k line e = ap (facts_along t (no_facts m)) (next_line program k line e) ∙ facts_append t (no_facts m) (take k program) (line ∷ [])

-- what is left of lines of which these are the first
left_over : (whole program lines : List Line) (from : ℕ) → from < length program → whole ≡ take from program ++ lines → drop from whole ≡ lines
left_over whole program lines from l e =
    let n = length-take-le from program (omega (arith, l)) in
    ap (drop from) e ∙ ap (λ j. drop j (take from program ++ lines)) (sym n) ∙ drop-append_seam (take from program) lines

pub comes_there : (t : PlanTable) (s : State) (h : List Event) (m : ℕ) (program : List Line) (from k : ℕ) → IsInStep t s m program from → HasComeFrom t s h m program from k → IsAt t s h m program k
comes_there t s h m program from k step come = by come.rounds come.between
  where
    by : (n : ℕ) → rounds_of n program ++ take k program ≡ take from program ++ come.lines → IsAt t s h m program k
    by zero e =
        let inside = step.line in
        let has = ap length e ∙ length-append (take from program) come.lines in
        let few = length-take-le from program (omega (arith, inside)) in
        let most = length-take k program in
        inr (record {
          from = from;
          in_step = step;
          not_past = omega (arith, has, few, most);
          goes = subst (GoesThrough t s h m) (sym (left_over (take k program) program come.lines from inside e)) come.goes;
        })
    by (suc n) e =
        let inside = step.line in
        let rest = rounds_of n program ++ take k program in
        let whole : (program ++ rest) ≡ take from program ++ come.lines = sym (append_assoc program (rounds_of n program) (take k program)) ∙ e in
        let left = sym (left_over (program ++ rest) program come.lines from inside whole) ∙ drop-append-le from program rest (omega (arith, inside)) ∙ sym (append_assoc (drop from program) (rounds_of n program) (take k program)) in
        let x = part t s h m (drop from program ++ rounds_of n program) (take k program) (subst (GoesThrough t s h m) left come.goes) in
        inl (record { before = x.before; round = x.since; split = x.split; goes = x.goes })

-- who is in step with the opening is there, while none of its calls is done
pub stays_in_step : (t : PlanTable) (s : State) (h : List Event) (m : ℕ) (program : List Line) (k : ℕ) → IsInStep t s m program k → Stays h m → IsAt t s h m program k
stays_in_step t s h m program k step stays =
    let few = length-take k program in
    let none : drop k (take k program) ≡ [] = drop_of_length-le (take k program) (omega (arith, few)) in
    inr (record { from = k; in_step = step; not_past = omega arith; goes = subst (GoesThrough t s h m) (sym none) stays })

-- ---- an inquiry that shows the owner

shown_owner : (r : Option Refusal) (o o' : Option ℕ) (f f' : Bool) (q q' : Posture) → answer_by r (Shown o f q) ≡ Shown o' f' q' → o ≡ o'
shown_owner None o o' f f' q q' e = ap (λ (a : Answer). elim a as (λ _. Option ℕ) [ Done ↦ o | Shown x y z ↦ x | Refused r ↦ o ]) e
shown_owner (Some r) o o' f f' q q' e = cc

pub shown_owns : (t : PlanTable) (s : State) (before : List Event) (e : Event) (m z : ℕ) (f : Bool) (q : Posture) → IsLegal t s (before ++ e ∷ []) → e.call ≡ Inquire z → e.answer ≡ Shown (Some m) f q
    → owns (after t s before) m z ≡ true
shown_owns t s before e m z f q legal call answer =
    let at = after t s before in
    let is : reply t at e.machine (Inquire z) ≡ Shown (Some m) f q = ap (reply t at e.machine) (sym call) ∙ sym (legal_right t s before (e ∷ []) legal).0 ∙ answer in
    let owner : owner_of at z ≡ Some m = shown_owner (inquire_refusal t z) (owner_of at z) (Some m) (zone_at at z).flag f (posture_at at z) q is in
    ap (λ o. is_owned_by o m) owner ∙ nat_eq-self m

-- ---- two machines

-- at a start no zone is open
free_somewhere : (n z : ℕ) → get_or (replicate n free_zone) z free_zone ≡ free_zone
free_somewhere zero z = refl
free_somewhere (suc n) zero = refl
free_somewhere (suc n) (suc z) = free_somewhere n z

pub start_opens : (t : PlanTable) (s : State) → IsStart s → OpensByPoses t s
start_opens t s start = λ z l open_now.
    let closed : posture_at s z ≡ Closed = ap (λ (x : State). posture_at x z) start.same ∙ ap (λ (v : ZoneState). v.posture) (free_somewhere 10 z) in
    let no : false ≡ true = sym (ap is_open closed) ∙ open_now in
    absurd (false_true no)
  where
    false_true : false ≡ true → ⊥
    false_true e = cc

pub never_both : EveryLegalHistoryIsLawful → (plan : MotorTables) (s : State) (h : List Event) (m n : ℕ) (program other : List Line) (i j : ℕ) → IsPlan plan.plan → IsSound plan.plan s → OpensByPoses plan.plan s
    → IsLegal plan.plan s h → IsDriven plan m program → IsDriven plan n other → NeverBoth plan.plan (motor_at plan.motors i) (motor_at plan.motors j)
    → IsRunning plan.plan s h m program i → IsRunning plan.plan s h n other j → ⊥
never_both laws plan s h m n program other i j p sound opens legal driven drives never x y =
    never_after plan.plan (motor_at plan.motors i) (motor_at plan.motors j) s h p never sound
    (permitted_running laws plan s h m program i p sound opens legal driven x) (permitted_running laws plan s h n other j p sound opens legal drives y)

pub never_both_from_start : EveryLegalHistoryIsLawful → (plan : MotorTables) (s : State) (h : List Event) (m n : ℕ) (program other : List Line) (i j : ℕ) → IsPlan plan.plan → IsStart s
    → IsLegal plan.plan s h → IsDriven plan m program → IsDriven plan n other → NeverFrom plan.plan s (motor_at plan.motors i) (motor_at plan.motors j)
    → IsRunning plan.plan s h m program i → IsRunning plan.plan s h n other j → ⊥
never_both_from_start laws plan s h m n program other i j p start legal driven drives never x y =
    let sound = start_is_sound plan.plan s p start in
    let opens = start_opens plan.plan s start in
    never h legal (permitted_running laws plan s h m program i p sound opens legal driven x) (permitted_running laws plan s h n other j p sound opens legal drives y)
