use Rattle.std.proofs.Common.{if◌then◌else◌, refl, ap}
use Rattle.std.proofs.lemmas.Bool.{eq-eqb, ne_eqb}
use Rattle.plan_controller.specs.declared.outcome.Outcome.TheVariants.{Stays, GoesOn}
use Rattle.plan_controller.proofs.laws.owners_go_on.Goals as goal

pub returns : goal.returns
returns _ = λ m plate q. record {
  mine = ap (λ b. if b then GoesOn else Stays) (eq-eqb m m refl);
  others = λ other apart. ap (λ b. if b then GoesOn else Stays) (ne_eqb other m apart);
  nobodys = refl;
  of_call = λ owner faults. refl;
}
