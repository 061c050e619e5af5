-- Shares of zones meet their figures.
use Rattle.std.proofs.Common.{◌≡◌, Bool, true, false, ◌&&◌, refl}
use Rattle.cell_rules.specs.Types.{Machine, Zone}
use Rattle.cell_rules.specs.Names.{ModelState}
use Rattle.cell_control.specs.Keeping.{is_kept}
use Rattle.cell_control.specs.KeepExamples.{KeepExamples, SharesAreMet}

both : (a b : Bool) → a ≡ true → b ≡ true → (a && (b && true)) ≡ true
both true true p q = refl
both true false p q = absurd (cc)
both false b p q = absurd (cc)

first_false : (a b : Bool) → a ≡ false → (a && (b && true)) ≡ false
first_false false b p = refl
first_false true b p = absurd (cc)

last_false : (a b : Bool) → b ≡ false → (a && (b && true)) ≡ false
last_false false b p = refl
last_false true false p = refl
last_false true true p = absurd (cc)

kept : (m : Machine) (z : ModelState) (y : Zone) → KeepExamples m z y
kept m z y = record {
  loaded = refl;
  held = refl;
  any = refl;
  none_kept = refl;
  both_kept = λ one other p q. both (is_kept one.1 m z one.0) (is_kept other.1 m z other.0) p q;
  first_not_kept = λ one other p. first_false (is_kept one.1 m z one.0) (is_kept other.1 m z other.0) p;
  last_not_kept = λ one other p. last_false (is_kept one.1 m z one.0) (is_kept other.1 m z other.0) p;
}

pub shares : SharesAreMet
shares = record {
  shares = record {
    clear = refl;
    loaded = refl;
    held = refl;
    lent = refl;
    unclaimed = refl;
    any = refl;
    any_posture = refl;
    its_posture = refl;
    other_posture = refl;
    in_posture = λ share posture. refl;
    in_any_posture = λ share. refl;
  };
  kept = kept;
}
