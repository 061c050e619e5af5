-- A machine comes off its line, and goes on by another.
use Rattle.std.proofs.Common.{◌≡◌, List, [], Option, None, refl, sym, ◌∙◌, subst}
use Rattle.cell_rules.specs.Types.{Machine, Event}
use Rattle.cell_rules.specs.Names.{ModelState, IsSound, after, IsLegal, own_events, Waits, IsSameFor}
use Rattle.cell_rules.proofs.lemmas.Histories.{sound-after}
use Rattle.cell_control.specs.Names.{Steps, IsReached}
use Rattle.cell_control.specs.declared.fault.CtlFault.{CtlFault}
use Rattle.cell_control.proofs.lemmas.StepLemmas.{reached_carried}
use Rattle.cell_control.proofs.lemmas.BenchLemmas.{reached_others}
use Rattle.cell_control.specs.Wiring.{IsWired, IsUnwired}

same_itself : (m : Machine) (s : ModelState) → IsSameFor m s s
same_itself m s = record { owned = λ z o. refl; hosted = λ z e. refl; places = λ p e. refl }

pub unwired : {S Sense Reading Act : Type 0} → (t : Steps S Sense Reading Act) (machine again : Machine) (opening : ModelState) (before now : List Event) (stopped : Option CtlFault) (p : S) (left : ModelState)
    → IsWired t machine opening before stopped p → again ≡ machine → IsSound opening → IsLegal opening now → Waits machine before now → left ≡ after opening now → IsUnwired t again left stopped p
unwired t machine again opening before now stopped p left w is sound legal more e = record {
  own = is ∙ w.own;
  sound = subst IsSound (sym e) (sound-after opening now sound);
  reached = λ runs.
      let own : own_events now t.machine ≡ own_events before t.machine = subst (λ m. own_events now m ≡ own_events before m) w.own more.own in
      let k : IsReached t opening now p = reached_others t opening before now p own (w.reached runs) in
      subst (λ s. IsReached t s [] p) (sym e) (reached_carried t p opening (after opening now) now [] sound legal (same_itself t.machine (after opening now)) refl k);
}

pub wired_again : {S Sense Reading Act : Type 0} → (t : Steps S Sense Reading Act) (machine again : Machine) (left opening : ModelState) (seen : List Event) (stopped : Option CtlFault) (p : S)
    → IsUnwired t machine left stopped p → again ≡ t.machine → IsSameFor t.machine left opening → own_events seen again ≡ [] → stopped ≡ None → IsReached t opening seen p
wired_again t machine again left opening seen stopped p u is same none runs =
    reached_carried t p left opening [] seen u.sound tt same (subst (λ m. own_events seen m ≡ []) is none) (u.reached runs)
