-- What the table knows of the state at each step of its program.
use Rattle.std.proofs.Common.{◌≡◌, ℕ, ℤ, ◌&&◌, Bool, true, false, if◌then◌else◌, List, Option, Some, None, refl, subst}
use Rattle.std.specs.Prelude.{⊤}
use Rattle.cell_types.specs.declared.machine.Machine.TheVariants.{Table as TableMachine}
use Rattle.cell_rules.specs.Types.{Zone, Z1, Z2, Moving, Call, Claim, Done, Event}
use Rattle.cell_sensors.specs.Scale.{Scale}
use Rattle.cell_rules.specs.Names.{ModelState, IsSound, owns, posture_at, next, reply, changed, after, IsLegal, Holds, Moves}
use Rattle.cell_rules.proofs.lemmas.Holders.{take_owned}
use Rattle.cell_control.specs.Steps.{IsReached}
use Rattle.cell_control.proofs.lemmas.StepLemmas.{Knowing, reached_knows}
use Rattle.cell_control.proofs.lemmas.Facts.{seen_held, seen_in}
use Rattle.cell_control.specs.declared.share.ZoneShare.{ZoneShare}
use Rattle.cell_control.proofs.lemmas.SharedZones.{AreSure, AreFirm, are_sure_same, foreign_same}
use Rattle.cell_table_press.specs.Names.{with_plate, by_plate, row_of, after_done, is_off, table_start, table_steps}
use Rattle.cell_table_press.specs.declared.table.TableStep.{TableStep}
use Rattle.cell_table_press.specs.declared.table.TableStep.TheVariants.{ClaimEntry, ClaimExit, MoveToLoading, ReleaseEntry, MoveToUnloading}
use Rattle.cell_table_press.specs.declared.table.TableProgress.{TableProgress}
use Rattle.cell_table_press.specs.declared.table.TableStep.TheVariants.{TakePlate, GivePlate, ClaimBack}
use Rattle.cell_table_press.specs.TableProgram.{row_at, zones_at}

-- what no other machine changes of what the step keeps
abbrev pub TableKnows : TableProgress → ModelState → Type 0
TableKnows p z = AreSure TableMachine z (zones_at p.step)

pub table_begins : (z : ModelState) → TableKnows (table_start z) z
table_begins z = ((tt, tt), ((tt, tt), tt))

-- after a drive
done_drive : (s : TableStep) (p : TableProgress) (z : ModelState) → (row_at s p).call ≡ None → AreSure TableMachine z (zones_at s) → TableKnows (row_at s p).next z
done_drive MoveToLoading p z e k = k
done_drive MoveToUnloading p z e k = k
done_drive _ p z e _ = cc

drive_on : (b : Bool) (p : TableProgress) (z : ModelState) → (row_of p).call ≡ None → TableKnows p z → TableKnows (if b then after_done p else p) z
drive_on true p z e k = done_drive p.step p z e k
drive_on false p z e k = k

-- after a call that is done
at_choice : (loaded : Bool) (p : TableProgress) (z : ModelState) → owns z TableMachine Z1 ≡ true → owns z TableMachine Z2 ≡ true → AreSure TableMachine z (zones_at (by_plate (with_plate p loaded)))
at_choice true p z o u = ((o, tt), ((u, tt), tt))
at_choice false p z o u = ((o, tt), ((u, tt), tt))

abbrev AfterCall : ModelState → Option Call → List (Zone × ZoneShare) → Type 0
AfterCall z None zones = ⊤
AfterCall z (Some c) zones = reply z TableMachine c ≡ Done → AreSure TableMachine (changed z TableMachine c) zones

after_call : (s : TableStep) (p : TableProgress) (z : ModelState) → AreSure TableMachine z (zones_at s) → AfterCall z (row_at s p).call (zones_at (row_at s p).next.step)
after_call ClaimEntry p z k = λ d. ((refl, tt), k.1)
after_call ClaimExit p z k = λ d. at_choice p.loaded p (changed z TableMachine (Claim Z2)) k.0.0 refl
after_call MoveToLoading p z k = tt
after_call ReleaseEntry p z k = λ d. ((tt, k.0.1), k.1)
after_call TakePlate p z k = λ d. ((take_owned z TableMachine Z1 d, tt), ((k.1.0.0, tt), tt))
after_call MoveToUnloading p z k = tt
after_call GivePlate p z k = λ d. (k.0, ((tt, k.1.0.1), tt))
after_call ClaimBack p z k = λ d. ((k.0.0, tt), ((refl, tt), tt))
after_call _ p z k = λ d. ((k.0.0, refl), ((k.1.0.0, refl), tt))

done_call : (p : TableProgress) (c : Call) (z : ModelState) → (row_of p).call ≡ Some c → reply z TableMachine c ≡ Done → TableKnows p z → TableKnows (row_of p).next (changed z TableMachine c)
done_call p c z e d k = subst (λ o. AfterCall z o (zones_at (row_of p).next.step)) e (after_call p.step p z k) d

-- it hosts both its zones
pub table_firm : (s : TableStep) → AreFirm TableMachine (zones_at s)
table_firm s = (refl, (refl, tt))

pub table-knowing : (points : Scale) (gives : ℕ → ℤ → Type 0) → Knowing (table_steps points gives) TableKnows
table-knowing points gives = record {
  foreign = λ p z n c apart sound k. are_sure_same TableMachine z (next z n c) (foreign_same TableMachine n c z apart sound) (zones_at p.step) (table_firm p.step) k;
  after_drive = λ p r act z e d k. drive_on (is_off act.height && is_off act.rotation) p z e k;
  after_done = λ p z c e d sound k. done_call p c z e d k;
  after_inquiry = λ p z c owner flag posture e d sound k. k;
  same_for = λ p z w same k. are_sure_same TableMachine z w same (zones_at p.step) (table_firm p.step) k;
}

-- so in a step that drives the table holds both its zones, which move
pub drives_at : (s : TableStep) (p : TableProgress) (z : ModelState) → (row_at s p).call ≡ None → AreSure TableMachine z (zones_at s)
    → ((owns z TableMachine Z1 ≡ true) × (owns z TableMachine Z2 ≡ true)) × ((posture_at z Z1 ≡ Moving) × (posture_at z Z2 ≡ Moving))
drives_at MoveToLoading p z e k = ((k.0.0, k.1.0.0), (k.0.1, k.1.0.1))
drives_at MoveToUnloading p z e k = ((k.0.0, k.1.0.0), (k.0.1, k.1.0.1))
drives_at _ p z e _ = cc

pub drives-held : (points : Scale) (gives : ℕ → ℤ → Type 0) (opening : ModelState) (seen : List Event) (p : TableProgress) → IsSound opening → IsLegal opening seen → IsReached (table_steps points gives) opening seen p → (row_of p).call ≡ None
    → (Holds opening seen TableMachine Z1 × Holds opening seen TableMachine Z2) × (Moves opening seen Z1 × Moves opening seen Z2)
drives-held points gives opening seen p sound legal r e =
    let at = drives_at p.step p (after opening seen) e (reached_knows (table_steps points gives) TableKnows (table-knowing points gives) table_begins opening seen p sound legal r) in
    ((seen_held opening seen TableMachine Z1 legal at.0.0, seen_held opening seen TableMachine Z2 legal at.0.1), (seen_in opening seen Z1 Moving legal at.1.0, seen_in opening seen Z2 Moving legal at.1.1))
