-- A machine that nothing has stopped.
use Rattle.std.proofs.Common.{◌≡◌, true, Option, Some, None, refl}
use Rattle.std.specs.Option.{is_none}

pub none_runs : {A : Type 0} → (o : Option A) → is_none o ≡ true → o ≡ None
none_runs None e = refl
none_runs (Some x) e = cc
