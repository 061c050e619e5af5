-- Calls that are done, and their rows.
use Rattle.std.proofs.Common.{◌≡◌, ℕ, ◌+◌, ◌<◌, ◌≤◌, ◌⊎◌, inl, inr, Bool, true, false, ◌||◌, nat_eq, IsTrue, List, refl, sym, ◌∙◌, subst, arith}
use Rattle.std.proofs.lemmas.Bool.{eqb-true}
use Rattle.plan_types.specs.declared.call.Call.{Call}
use Rattle.plan_types.specs.declared.call.Call.TheVariants.{Claim, Give, Yield, Take, Release, SetPose, Inquire, Stop, Resume, Advance}
use Rattle.plan_types.specs.Table.{PlanTable, host_of, guest_of}
use Rattle.plan_types.specs.Plan.{IsPlan}
use Rattle.plan_rules.specs.declared.state.State.{State}
use Rattle.plan_rules.proofs.lemmas.DoneCalls.{Party, claim_done, give_done, yield_done, take_done, release_done, pose_done, advance_done, stop_done, resume_done}
use Rattle.plan_rules.proofs.lemmas.Soundness.{done_none, never_done}
use Rattle.plan_word.specs.OfPlan.{IsOfPlan}
use Rattle.plan_word.specs.Packed.{packed}
use Rattle.plan_compiled.specs.declared.covering.Span.{Span}
use Rattle.plan_compiled.specs.Row.{Row}
use Rattle.plan_compiled.specs.Needs.{may_ask, Fits}
use Rattle.plan_compiled.specs.Rows.{matches}
use Rattle.plan_compiled.specs.Complete.{row_at, IsRowOf, HasRow, HasRows, HasMachineRows, IsComplete, AreOwnRows, OpensOneAtMost, Covers}
use Rattle.plan_compiled.proofs.Doing.{done_fits}

-- the row at a distance from a call's first one
row_there : (rows : List Row) (starts : List ℕ) (w m : ℕ) (call : Call) (own : Span) → AreOwnRows rows starts m call own → (d : ℕ) → d < own.count
    → IsTrue (matches (row_at rows (own.first + d)).part w) → HasRow rows starts w m call
row_there rows starts w m call own k d l e =
    let some : 0 < own.count = omega (arith, l) in
    let is = k.first some in
    let few = k.few in
    record {
      begins = k.begins some;
      tried = d;
      few = omega (arith, l, few);
      own = λ j n. subst (λ x. IsRowOf rows m call (x + j)) is (k.own j (omega (arith, l, n)));
      is_met = subst (λ x. IsTrue (matches (row_at rows (x + d)).part w)) is e;
    }

by_room : (t : PlanTable) (rows : List Row) (starts : List ℕ) (m : ℕ) (call : Call) (own : Span) (n d : ℕ) (s : State) → IsOfPlan t s → AreOwnRows rows starts m call own → d + n ≤ own.count
    → Covers t (record { machine = m; call = call; room = true }) rows (record { first = own.first; count = n })
    → Covers t (record { machine = m; call = call; room = false }) rows (record { first = own.first + d; count = n })
    → (room : Bool) → Fits t m call room s → HasRow rows starts (packed t s) m call
by_room t rows starts m call own n d s o k l with_room without true h =
    let got = with_room s o h in
    let small = got.1 in
    row_there rows starts (packed t s) m call own k got.0 (omega (arith, l, small)) got.2
by_room t rows starts m call own n d s o k l with_room without false h =
    let got = without s o h in
    let small = got.1 in
    let at : own.first + d + got.0 ≡ own.first + (d + got.0) = omega arith in
    row_there rows starts (packed t s) m call own k (d + got.0) (omega (arith, l, small)) (subst (λ x. IsTrue (matches (row_at rows x).part (packed t s))) at got.2)

pub rows_found : (t : PlanTable) (rows : List Row) (starts : List ℕ) (m : ℕ) (call : Call) (own : Span) (n d : ℕ) → IsPlan t → AreOwnRows rows starts m call own → d + n ≤ own.count → OpensOneAtMost t call
    → Covers t (record { machine = m; call = call; room = true }) rows (record { first = own.first; count = n })
    → Covers t (record { machine = m; call = call; room = false }) rows (record { first = own.first + d; count = n })
    → HasRows t rows starts m call
rows_found t rows starts m call own n d p k l one with_room without s o fresh done =
    let f = done_fits t s m call p o.sound one done in
    by_room t rows starts m call own n d s o k l with_room without f.0 f.1

pub never_asked : (t : PlanTable) (rows : List Row) (starts : List ℕ) (m : ℕ) (call : Call) → IsPlan t → OpensOneAtMost t call → may_ask t m call ≡ false → HasRows t rows starts m call
never_asked t rows starts m call p one may_not s o fresh done =
    let f = done_fits t s m call p o.sound one done in
    let may = f.1.may in
    let never : true ≡ false = sym may ∙ may_not in
    cc

-- ---- who can be answered Done
or_cases : (a b : Bool) → (a || b) ≡ true → (a ≡ true) ⊎ (b ≡ true)
or_cases true b e = inl refl
or_cases false b e = inr e

party_small : (t : PlanTable) (m z : ℕ) → IsPlan t → Party t m z → m < 31
party_small t m z p k =
    let few = p.machines_at_most in
    let host = p.host_is_machine z k.there in
    let guest = p.guest_is_machine z k.there in
    elim (or_cases (nat_eq m (host_of t z)) (nat_eq m (guest_of t z)) k.party) [
      | inl e ↦ let is = eqb-true m (host_of t z) e in omega (arith, is, host, few)
      | inr e ↦ let is = eqb-true m (guest_of t z) e in omega (arith, is, guest, few)
    ]

pub complete_by : (t : PlanTable) (rows : List Row) (starts : List ℕ) → IsPlan t → ((m : ℕ) → m < 31 → HasMachineRows t rows starts m) → IsComplete t rows starts
complete_by t rows starts p all m (Claim z) s o fresh e =
    let k = (claim_done t s m z (done_none _ _ e)).caller in
    ((all m (party_small t m z p k)).zones z k.there).claim s o fresh e
complete_by t rows starts p all m (Give z) s o fresh e =
    let k = (give_done t s m z (done_none _ _ e)).holder.caller in
    ((all m (party_small t m z p k)).zones z k.there).give s o fresh e
complete_by t rows starts p all m (Yield z) s o fresh e =
    let k = (yield_done t s m z (done_none _ _ e)).holder.caller in
    ((all m (party_small t m z p k)).zones z k.there).yield s o fresh e
complete_by t rows starts p all m (Take z) s o fresh e =
    let k = (take_done t s m z (done_none _ _ e)).holder.caller in
    ((all m (party_small t m z p k)).zones z k.there).take s o fresh e
complete_by t rows starts p all m (Release z) s o fresh e =
    let k = (release_done t s m z (done_none _ _ e)).holder.caller in
    ((all m (party_small t m z p k)).zones z k.there).release s o fresh e
complete_by t rows starts p all m (SetPose q) s o fresh e =
    let d = pose_done t s m q (done_none _ _ e) in
    let few = p.machines_at_most in
    let own = p.pose_of_machine q d.there in
    let is = d.machine in
    let poses = p.poses_at_most in
    let there = d.there in
    (all m (omega (arith, few, own, is))).poses q (omega (arith, there, poses)) s o fresh e
complete_by t rows starts p all m (Inquire z) s o fresh e = never_done t s m z e
complete_by t rows starts p all m Stop s o fresh e =
    let is = (stop_done s m (done_none _ _ e)).caller in
    (all m (omega (arith, is))).watch.stop s o fresh e
complete_by t rows starts p all m Resume s o fresh e =
    let is = (resume_done s m (done_none _ _ e)).caller in
    (all m (omega (arith, is))).watch.resume s o fresh e
complete_by t rows starts p all m (Advance q) s o fresh e =
    let d = advance_done t s m q (done_none _ _ e) in
    let few = p.machines_at_most in
    let own = p.keeper_is_machine q d.there in
    let is = d.keeper in
    (all m (omega (arith, few, own, is))).places q d.there s o fresh e
