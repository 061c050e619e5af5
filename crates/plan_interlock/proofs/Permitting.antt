-- What a load shows of motors is permitted then, and stays so.
use Rattle.std.proofs.Common.{◌≡◌, ◌↔◌, ℕ, ◌/◌, ◌%◌, ◌^◌, Bool, true, false, List, ◌++◌, refl, sym, ◌∙◌, subst, IsTrue}
use Rattle.plan_types.specs.declared.answer.Event.{Event}
use Rattle.plan_types.specs.Table.{PlanTable}
use Rattle.plan_rules.specs.declared.state.State.{State}
use Rattle.plan_rules.specs.State.{one_if}
use Rattle.plan_rules.specs.History.{after, IsLegal}
use Rattle.plan_rules.specs.Laws.{EveryLegalHistoryIsLawful}
use Rattle.plan_word.specs.Laws.{EveryWordIsLaidOut}
use Rattle.plan_motors.specs.declared.motor.Motor.{Motor}
use Rattle.plan_motors.specs.declared.mask.MotorMask.{MotorMask}
use Rattle.plan_motors.specs.Motor.{Permits}
use Rattle.plan_motors.specs.Mask.{IsMaskOf, allows}
use Rattle.plan_motors.specs.OfPlan.{IsMotorOf}
use Rattle.plan_motors.specs.Laws.{KeepsPermission}
use Rattle.plan_motors.proofs.lemmas.Lasting.{permission_lasts}
use Rattle.plan_motors.proofs.lemmas.Running.{may_run_permits}
use Rattle.plan_motors.proofs.lemmas.Masking.{mask_permits}
use Rattle.word_interlock.specs.History.{after as after_by, IsLawful}
use Rattle.word_interlock.proofs.lemmas.Histories.{sound-after, waits-foreign}
use Rattle.plan_interlock.specs.Book.{plan_book}
use Rattle.plan_interlock.specs.BookKept.{plan_is_rule_book}
use Rattle.plan_interlock.specs.Motors.{HasBit, SurveysPermitTheSame, PermissionsLast}
use Rattle.plan_interlock.proofs.Seen.{legal_here, after_here}

pub surveys_permit_the_same : EveryWordIsLaidOut → (t : PlanTable) → SurveysPermitTheSame t
surveys_permit_the_same laid t o shown seen word m x k is found mask =
    let sound = sound-after (plan_book t) (plan_is_rule_book t) o seen k.opened in
    let both = mask_permits laid t m x (after_by (plan_book t) o seen) mask.mask mask.pattern sound.1 in (
      λ h. subst (λ (s : State). Permits t s m) (sym is) (both.0 (subst (λ (w : ℕ). IsTrue (allows x w)) found h)),
      λ h. subst (λ (w : ℕ). IsTrue (allows x w)) (sym found) (both.1 (subst (λ (s : State). Permits t s m) is h)),
    )

bit_tells : (b : Bool) (n : ℕ) → n ≡ one_if b → n ≡ 1 ↔ IsTrue b
bit_tells true n e = (λ h. refl, λ h. e)
bit_tells false n e = (λ h. let no : 0 ≡ 1 = sym e ∙ h in cc, λ h. cc)

module _ (t : PlanTable) (o : State) (seen : List Event) (m : Motor) where
  pub told : EveryWordIsLaidOut → (bits k word : ℕ) (x : MotorMask) → IsLawful (plan_book t) o seen → word ≡ (plan_book t).packed (after_by (plan_book t) o seen)
      → bits / 2 ^ k % 2 ≡ one_if (allows x word) → IsMaskOf t m x → HasBit bits k ↔ Permits t (after t o seen) m
  told laid bits k word x lawful found bit mask =
      let same = surveys_permit_the_same laid t o (after t o seen) seen word m x lawful (sym (after_here t o seen)) found mask in
      let one = bit_tells (allows x word) (bits / 2 ^ k % 2) bit in
      (λ h. same.0 (one.0 h), λ h. one.1 (same.1 h))

  pub lasts : EveryLegalHistoryIsLawful → (since : List Event) → IsLawful (plan_book t) o seen → IsMotorOf t m → Permits t (after t o seen) m → KeepsPermission t (after t o seen) since m
      → Permits t (after t o (seen ++ since)) m
  lasts laws since lawful is now kept =
      may_run_permits laws t m o (seen ++ since) lawful.opened.0 is lawful.opened.1.sound
      (record { read = seen; since = since; split = refl; still = record { permitted = now; kept = kept } })

pub permissions_last : EveryLegalHistoryIsLawful → (t : PlanTable) → PermissionsLast t
permissions_last laws t s m seen point is k w now =
    let more = w.begins.0 in
    let legal = subst (λ (h : List Event). IsLegal t s h) w.begins.1 (legal_here t s point k.legal) in
    subst (λ (h : List Event). Permits t (after t s h) m) (sym w.begins.1)
    (permission_lasts laws t m s seen more k.opened.0 is k.opened.1.sound legal (waits-foreign (plan_book t) m.machine seen point w) now)
