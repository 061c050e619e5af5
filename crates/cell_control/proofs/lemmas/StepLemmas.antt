-- What a turn of any program keeps: that its step is reached, and what its steps know of the state.
use Rattle.std.proofs.Common.{◌≡◌, ℕ, zero, suc, Bool, true, false, if◌then◌else◌, List, [], Option, Some, None, Result, Ok, Err, refl, sym, subst}
use Rattle.cell_rules.specs.Types.{Machine, Posture, Call, Answer, Done, Shown, Refused, Event, Reply, Settled, Busy, same_machine}
use Rattle.cell_rules.specs.Names.{ModelState, IsSound, reply, next, next_by, changed, after, IsLegal, own_events, SeenAfter, Reached, IsSameFor}
use Rattle.cell_rules.specs.declared.heard.LineFault.{LineFault}
use Rattle.cell_rules.proofs.lemmas.ProgramLemmas.{Keeps, reached-settles, reached-waits, reached-moves, reached-knows}
use Rattle.cell_control.specs.Names.{fault_of, Steps, waits_out, after_answer, step_after_reply, program_of, InStepAfter, IsReached}
use Rattle.cell_control.specs.declared.fault.CtlFault.{CtlFault}
use Rattle.cell_control.specs.Steps.{Drives, ComesFrom, GoesOn}

-- a program that goes on stays reached
pub reached_by : {S Sense Reading Act : Type 0} → (t : Steps S Sense Reading Act) (p q : S) (o : ModelState) (before now : List Event) → GoesOn t before p now q → IsReached t o before p → IsReached t o now q
reached_by t p q o before now on k = record { renewals = k.renewals; first = k.first; in_step = k.in_step; come = on k.first k.come }

-- a program at its start
pub reached_first : {S Sense Reading Act : Type 0} → (t : Steps S Sense Reading Act) (p : S) (o : ModelState) (seen : List Event) → own_events seen t.machine ≡ [] → p ≡ t.start o → IsReached t o seen p
reached_first t p o seen none begins = record { renewals = zero; first = p; in_step = begins; come = subst (λ h. Reached (program_of t) p h p) (sym none) (zero, refl) }

-- a turn that asks
pub asks_on : {S Sense Reading Act : Type 0} → (t : Steps S Sense Reading Act) (p q : S) (c : Call) (r : Result Reply LineFault) (o : ModelState) (before now : List Event)
    → (t.row p).call ≡ Some c → SeenAfter t.machine c r o before now → step_after_reply t p r ≡ Ok q → GoesOn t before p now q
asks_on t p q c (Ok (Settled a stamp)) o before now e seen l first come = reached-settles (program_of t) first p q t.machine c a before now seen.0 come e l
asks_on t p q c (Ok (Busy lost stamp)) o before now e seen l first come =
    let same : p ≡ q = cc in
    subst (λ x. ComesFrom t first now x) same (reached-waits (program_of t) first p t.machine before now seen.0 come)
asks_on t p q c (Err fault) o before now e seen l first come = cc

-- a turn that drives
pub drives_on : {S Sense Reading Act : Type 0} → (t : Steps S Sense Reading Act) (p q : S) (seen : List Event) → Drives t p q → GoesOn t seen p seen q
drives_on t p q seen d first come = reached-moves (program_of t) first p q (own_events seen t.machine) come d

-- an interlock that opens with the same state for the machine
pub reached_carried : {S Sense Reading Act : Type 0} → (t : Steps S Sense Reading Act) (p : S) (o opened : ModelState) (before now : List Event)
    → IsSound o → IsLegal o before → IsSameFor t.machine (after o before) opened → own_events now t.machine ≡ [] → IsReached t o before p → IsReached t opened now p
reached_carried t p o opened before now sound legal same none k = record {
  renewals = suc k.renewals;
  first = p;
  in_step = record { opening = o; sound = sound; seen = before; legal = legal; first = k.first; in_step = k.in_step; come = k.come; same = same };
  come = subst (λ h. Reached (program_of t) p h p) (sym none) (zero, refl);
}

-- what the steps know of the state is kept by others' calls, by drives, and by own calls that are done or show a zone; and
-- it is only of what the machine knows
pub record Knowing {S Sense Reading Act : Type 0} (t : Steps S Sense Reading Act) (Knows : S → ModelState → Type 0) : Type 0 where
  pub foreign : (p : S) (z : ModelState) (n : Machine) (c : Call) → same_machine n t.machine ≡ false → IsSound z → Knows p z → Knows p (next z n c)
  pub after_drive : (p : S) (reading : _) (act : _) (z : ModelState) → (t.row p).call ≡ None → t.drives p reading act → Knows p z → Knows (t.after_drive p reading act) z
  pub after_done : (p : S) (z : ModelState) (c : Call) → (t.row p).call ≡ Some c → reply z t.machine c ≡ Done → IsSound z → Knows p z → Knows (t.row p).next (changed z t.machine c)
  pub after_inquiry : (p : S) (z : ModelState) (c : Call) (owner : Option Machine) (flag : Bool) (posture : Posture) → (t.row p).call ≡ Some c → reply z t.machine c ≡ Shown owner flag posture → IsSound z → Knows p z → Knows (t.after_inquiry p owner flag posture) z
  pub same_for : (p : S) (z w : ModelState) → IsSameFor t.machine z w → Knows p z → Knows p w

ok_same : {S : Type 0} → (b : Bool) (p q : S) (f : CtlFault) → (if b then Ok p else Err f) ≡ Ok q → p ≡ q
ok_same true p q f e = cc
ok_same false p q f e = cc

own_answer : {S Sense Reading Act : Type 0} → (t : Steps S Sense Reading Act) (Knows : S → ModelState → Type 0) → Knowing t Knows → (a : Answer) (p q : S) (z : ModelState) (c : Call)
    → (t.row p).call ≡ Some c → after_answer t p a ≡ Ok q → reply z t.machine c ≡ a → IsSound z → Knows p z → Knows q (next_by a z t.machine c)
own_answer t Knows k Done p q z c e l d sound h =
    let same : (t.row p).next ≡ q = cc in
    subst (λ x. Knows x (changed z t.machine c)) same (k.after_done p z c e d sound h)
own_answer t Knows k (Refused r) p q z c e l d sound h = subst (λ x. Knows x z) (ok_same (waits_out t p r) p q (fault_of r) l) h
own_answer t Knows k (Shown o f x) p q z c e l d sound h =
    let same : t.after_inquiry p o f x ≡ q = cc in
    subst (λ y. Knows y z) same (k.after_inquiry p z c o f x e d sound h)

pub keeps_by : {S Sense Reading Act : Type 0} → (t : Steps S Sense Reading Act) (Knows : S → ModelState → Type 0) → Knowing t Knows → Keeps (program_of t) Knows
keeps_by t Knows k = record {
  foreign = k.foreign;
  moved = λ p q z d h. subst (λ x. Knows x z) (sym d.is) (k.after_drive p d.reading d.act z d.asks_nothing d.drives h);
  own = λ p q z c e l sound h. own_answer t Knows k (reply z t.machine c) p q z c e l refl sound h;
}

-- what a step knows of each state that it is in step with
in_step_knows : {S Sense Reading Act : Type 0} → (t : Steps S Sense Reading Act) (Knows : S → ModelState → Type 0) → Knowing t Knows → ((z : ModelState) → Knows (t.start z) z) → (renewals : ℕ) (p : S) (z : ModelState)
    → InStepAfter t renewals p z → Knows p z
in_step_knows t Knows k begins zero p z e = subst (λ x. Knows x z) (sym e) (begins z)
in_step_knows t Knows k begins (suc renewals) p z r =
    k.same_for p (after r.opening r.seen) z r.same
    (reached-knows (program_of t) Knows (keeps_by t Knows k) r.first p r.opening r.seen r.sound r.legal (in_step_knows t Knows k begins renewals r.first r.opening r.in_step) r.come)

-- what a reached step knows of the state after the history
pub reached_knows : {S Sense Reading Act : Type 0} → (t : Steps S Sense Reading Act) (Knows : S → ModelState → Type 0) → Knowing t Knows → ((z : ModelState) → Knows (t.start z) z) → (opening : ModelState) (seen : List Event) (p : S)
    → IsSound opening → IsLegal opening seen → IsReached t opening seen p → Knows p (after opening seen)
reached_knows t Knows k begins opening seen p sound legal r =
    reached-knows (program_of t) Knows (keeps_by t Knows k) r.first p opening seen sound legal (in_step_knows t Knows k begins r.renewals r.first opening r.in_step) r.come
