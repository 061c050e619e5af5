-- Two flags that are the same.
use Rattle.std.proofs.Common.{◌≡◌, Bool, true, false, refl, sym}
use Rattle.cell_rules.specs.Names.{same_flag}

pub one_flag : (a b : Bool) → same_flag a b ≡ true → a ≡ b
one_flag true b e = sym e
one_flag false true e = cc
one_flag false false e = refl

pub own_flag : (a b : Bool) → a ≡ b → same_flag a b ≡ true
own_flag true true e = refl
own_flag true false e = cc
own_flag false true e = cc
own_flag false false e = refl
