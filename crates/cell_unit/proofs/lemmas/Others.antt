-- A machine's turn leaves the other controllers ready.
use Rattle.std.proofs.Common.{◌≡◌, false, List, [], ◌∷◌, ◌++◌, append-nil, Option, Some, None, Result, Ok, Err, refl, ap, ◌∙◌, cond}
use Rattle.cell_rules.specs.Types.{Machine, Call, Event, Reply, Settled, Busy, same_machine}
use Rattle.cell_rules.specs.Names.{ModelState, own_events}
use Rattle.cell_rules.specs.declared.heard.LineFault.{LineFault}
use Rattle.cell_rules.proofs.lemmas.SeenLemmas.{own-append}
use Rattle.cell_control.specs.Names.{Steps}
use Rattle.cell_control.specs.declared.fault.CtlFault.{CtlFault}
use Rattle.cell_control.proofs.lemmas.BenchLemmas.{reached_others}
use Rattle.cell_notes.specs.Asks.{TurnCall, settled_by, settled_in}
use Rattle.cell_unit.specs.Sides.{IsReady}

-- another machine's call is no event of this machine
settled_foreign : (m n : Machine) (c : Call) (r : Result Reply LineFault) → same_machine m n ≡ false → own_events (settled_by m c r) n ≡ []
settled_foreign m n c (Ok (Settled a stamp)) apart = ap (λ b. cond b (record { machine = m; call = c; answer = a } ∷ []) []) apart
settled_foreign m n c (Ok (Busy lost stamp)) apart = refl
settled_foreign m n c (Err x) apart = refl

asked_foreign : (m n : Machine) (asked : TurnCall) → same_machine m n ≡ false → own_events (settled_in m asked) n ≡ []
asked_foreign m n None apart = refl
asked_foreign m n (Some call) apart = settled_foreign m n call.0 call.1 apart

pub own_stays : (m n : Machine) (before now : List Event) (asked : TurnCall) → same_machine m n ≡ false → now ≡ before ++ settled_in m asked → own_events now n ≡ own_events before n
own_stays m n before now asked apart e =
    ap (λ h. own_events h n) e ∙ own-append before (settled_in m asked) n ∙ ap (λ x. own_events before n ++ x) (asked_foreign m n asked apart) ∙ append-nil (own_events before n)

-- so a controller stays ready during another machine's turn
pub others_ready : {S Sense Reading Act : Type 0} → (t : Steps S Sense Reading Act) (m : Machine) (opening : ModelState) (before now : List Event) (asked : TurnCall) (stopped : Option CtlFault) (p : S)
    → same_machine m t.machine ≡ false → now ≡ before ++ settled_in m asked → IsReady t opening before stopped p → IsReady t opening now stopped p
others_ready t m opening before now asked stopped p apart e ready runs =
    reached_others t opening before now p (own_stays m t.machine before now asked apart e) (ready runs)
