use Rattle.std.proofs.Common.{refl}
use Rattle.two_by_hand.proofs.laws.requests_are_met.Goals as goal

pub returns : goal.returns
returns c = record {
  texts = refl;
  parties = refl;
  calls = refl;
  go = λ stamp. refl;
  held = λ stamp machine. refl;
  shut = λ stamp posture. refl;
  no = refl;
  no_others = refl;
  shown = λ owner flag posture stamp. refl;
  again = λ lost stamp. refl;
}
