-- Another machine's call on a bench is no event of this machine, so its progress stays.
use Rattle.std.proofs.Common.{◌≡◌, false, cond, List, [], ◌∷◌, ◌++◌, Result, Ok, Err, sym, ap, ◌∙◌, subst, append-nil}
use Rattle.cell_rules.specs.Types.{Machine, Call, Answer, Event, Reply, Settled, Busy, same_machine}
use Rattle.cell_rules.specs.Names.{ModelState, own_events, Reached, event, Desk, BenchAsks}
use Rattle.cell_rules.specs.declared.heard.LineFault.{LineFault}
use Rattle.cell_rules.proofs.lemmas.SeenLemmas.{own-append}
use Rattle.cell_control.specs.Steps.{Steps, program_of, IsReached}
use Rattle.cell_control.proofs.lemmas.StepLemmas.{reached_by}

none_own : (n m : Machine) (c : Call) (a : Answer) → same_machine n m ≡ false → own_events (event n c a ∷ []) m ≡ []
none_own n m c a apart = ap (λ b. cond b (event n c a ∷ []) []) apart

pub asks_others : (b d : Desk) (c : Call) (r : Result Reply LineFault) (m : Machine) → BenchAsks b c r d → same_machine b.machine m ≡ false → own_events d.history m ≡ own_events b.history m
asks_others b d c (Ok (Settled a stamp)) m h apart =
    ap (λ x. own_events x.history m) h.3 ∙ own-append b.history (event b.machine c a ∷ []) m ∙ ap (λ l. own_events b.history m ++ l) (none_own b.machine m c a apart) ∙ append-nil (own_events b.history m)
asks_others b d c (Ok (Busy lost stamp)) m h apart = ap (λ x. own_events x.history m) h.3
asks_others b d c (Err fault) m h apart = ap (λ x. own_events x.history m) h.1

pub reached_others : {S Sense Reading Act : Type 0} → (t : Steps S Sense Reading Act) (o : ModelState) (before now : List Event) (p : S) → own_events now t.machine ≡ own_events before t.machine → IsReached t o before p → IsReached t o now p
reached_others t o before now p same k = reached_by t p p o before now (λ first come. subst (λ h. Reached (program_of t) first h p) (sym same) come) k
