use Rattle.std.proofs.Common.{◌≡◌, ◌↔◌, ℕ, Bool, sym, ap, ◌∙◌, IsTrue}
use Rattle.plan_types.specs.Table.{PlanTable}
use Rattle.plan_rules.specs.declared.state.State.{State}
use Rattle.plan_word.specs.Laws.{EveryWordIsLaidOut}
use Rattle.plan_motors.specs.declared.motor.Motor.{Motor}
use Rattle.plan_motors.specs.declared.mask.MotorMask.{MotorMask}
use Rattle.plan_motors.specs.Motor.{Permits}
use Rattle.plan_motors.specs.Mask.{IsMaskOf, allows}
use Rattle.plan_motors.proofs.lemmas.Masking.{mask_permits}
use Rattle.plan_motors.proofs.lemmas.Running.{kept_permits}
use Rattle.plan_c.specs.Given.{IsWordOf}
use Rattle.plan_c.proofs.exports.bagunjoki_plan_may_run.Goals as goal

permitted : EveryWordIsLaidOut → (result : Bool) (word : ℕ) (x : MotorMask) → result ≡ allows x word → (t : PlanTable) (s : State) (m : Motor) → IsWordOf t word s → IsMaskOf t m x
    → IsTrue result ↔ Permits t s m
permitted laid result word x is t s m of mask =
    let both = mask_permits laid t m x s mask.mask mask.pattern of.state in
    let same = is ∙ ap (allows x) (sym of.word_is) in
    (λ h. both.0 (sym same ∙ h), λ h. same ∙ both.1 h)

pub returns-clause-permitted : goal.returns-clause-permitted
returns-clause-permitted c = permitted c.words_are_laid_out.ensures c.allows.result c.args.word _ c.allows.ensures

pub returns-clause-lasts : goal.returns-clause-lasts
returns-clause-lasts c = λ t s m since plan motor of mask may kept.
    kept_permits c.lawful_histories.ensures t m s since plan motor of.state.sound
    ((permitted c.words_are_laid_out.ensures c.allows.result c.args.word _ c.allows.ensures t s m of mask).0 may) kept
