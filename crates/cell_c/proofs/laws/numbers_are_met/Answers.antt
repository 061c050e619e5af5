use Rattle.std.proofs.Common.{◌≡◌, ℕ, refl, arith}
use Rattle.cell_c.specs.Examples.{AnyReply}
use Rattle.cell_c.proofs.laws.numbers_are_met.Goals as goal

any_reply : (next : ℕ) → AnyReply next
any_reply next = record {
  done = refl;
  shown = λ o f q. refl;
  held = λ m. refl;
  not_owner = λ o. refl;
  plate_in_zone = λ z. refl;
  shut = λ q. refl;
  plain = refl;
  bare = λ n. refl;
}

pub returns : goal.returns
returns c = record {
  numbers = record {
    machines = refl;
    nobody = refl;
    owners = λ m. refl;
    zones = refl;
    places = refl;
    postures = refl;
    poses = refl;
    verbs = λ z p. refl;
    zone_objects = λ z. refl;
    pose_objects = λ p. refl;
    no_objects = refl;
    named = (refl, (refl, refl));
    other_machine = λ named. let e : 4 ≡ 3 = named.0 in omega (arith, e);
    other_verb = λ named. let e : 1 ≡ 2 = named.1.0 in omega (arith, e);
    other_object = λ named. let e : 4 ≡ 5 = named.1.1 in omega (arith, e);
  };
  replies = record { done = refl; shown = refl; held = refl; not_owner = refl; plate_in_zone = refl; shut = refl };
  any_reply = any_reply;
  nothing = record { call = refl; state = refl; word = refl };
}
