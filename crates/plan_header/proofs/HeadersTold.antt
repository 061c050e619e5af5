-- The laws of `headers_tell`.
use Rattle.std.proofs.Common.{◌≡◌, ◌<◌, ◌+◌, ◌-◌, ◌*◌, ◌%◌, ℕ, Bool, true, false, List, [], ◌∷◌, ◌++◌, codes, nat_eq, get_or, refl, ap, ◌∙◌, arith}
use Rattle.std.proofs.Common.{if◌then◌else◌}
use Rattle.std.proofs.lemmas.Bool.{eqb-true, false_from_ne_true, lt-ltb}
use Rattle.std.proofs.lemmas.Bool.Decides.{nat_tests}
use Rattle.std.proofs.lemmas.Nat.{mod-mul-add}
use Rattle.std.specs.Char.{to_ascii_uppercase}
use Rattle.std.specs.Fmt.{decimal}
use Rattle.plan_types.specs.Table.{joins, place_count, space_of, zone_count}
use Rattle.plan_word.specs.Layout.{counts_of, zones_end}
use Rattle.plan_text.specs.Named.{Named}
use Rattle.plan_text.specs.Names.{Text, name_in}
use Rattle.plan_header.specs.Headers as header
use Rattle.plan_header.specs.Readings as reading
use Rattle.plan_header.specs.HeaderLaws.{BitsAreTold, BytesAreTold, CapitalsAreTold, HeadersTell, MasksAreTold, ModulesAreTold}
use Rattle.plan_header.specs.HeaderLaws.{ReadingsAreTold}
use Rattle.plan_header.specs.HeaderLaws.{NumbersAreTold, stands}
use Rattle.plan_header.specs.Words.{capitals}

-- by what becomes of the first byte
by_byte : (byte into : ℕ) (rest : Text) → to_ascii_uppercase byte ≡ into
    → capitals (byte ∷ rest) ≡ into ∷ capitals rest
by_byte byte into rest e = ap (λ c. c ∷ capitals rest) e

capitals-told : CapitalsAreTold
capitals-told = record {
  empty = refl;
  letter = λ k rest few. by_byte (97 + k) (65 + k) rest (grind (arith, nat_tests, few));
  before = λ byte rest small. by_byte byte byte rest (grind (arith, nat_tests, small));
  after = λ byte rest great. by_byte byte byte rest (grind (arith, nat_tests, great));
}

numbers-told : NumbersAreTold
numbers-told = record {
  one = λ kind names k. refl;
  all = λ kind names. refl;
  pose = λ n k. refl;
  poses = λ n. refl;
  host_and_guest = λ n k. refl;
  keeper = λ n k. refl;
  parties = λ n. refl;
}

bits-told : BitsAreTold
bits-told = record {
  zone = λ n k there.
      ap (λ has. if has then stands (codes "bit_zone_" ++ name_in n.zones k) (decimal (zones_end (counts_of n.plan) k)) else [])
      (lt-ltb k (zone_count n.plan) there);
  place = λ n k there.
      ap
      (λ has. if has
      then stands (codes "bit_place_" ++ name_in n.places k) (decimal (zones_end (counts_of n.plan) (zone_count n.plan) + k))
      else [])
      (lt-ltb k (place_count n.plan) there);
  last = λ n. refl;
  all = λ n. refl;
  size = λ n k. refl;
  sizes = λ n. refl;
  width = λ n. refl;
}

guest_if : (n : Named) (k : ℕ) (b : Bool) → joins n.plan k ≡ b
    → reading.guest_part n k
    ≡ (if b then reading.guest_note (2 + (k - space_of n.plan k)) (reading.first_name n k) (capitals (name_in n.zones k)) else [])
guest_if n k b e =
    ap
    (λ t. if t then reading.guest_note (2 + (k - space_of n.plan k)) (reading.first_name n k) (capitals (name_in n.zones k)) else [])
    e

readings-told : ReadingsAreTold
readings-told = record {
  owner = λ most first zone. refl;
  plate = λ above zone. refl;
  no_plate = λ above zone. refl;
  shut = λ zone above. refl;
  moving = λ zone above. refl;
  open_in = λ zone above. refl;
  open_out = λ zone above. refl;
  all = λ zone above. refl;
  owner_of = λ n k. refl;
  zone = λ n k. refl;
  guest = λ n k joined. guest_if n k true joined;
  no_guest = λ n k alone. guest_if n k false alone;
  each = λ n. refl;
}

-- where a number is one of a line's first, and where it isn't
first_of_line : (at : ℕ) → at % 8 ≡ 0 → header.byte_gap at ≡ codes "\n    "
first_of_line at e = ap (λ r. if nat_eq r 0 then codes "\n    " else codes " ") e

not_first : (at k : ℕ) → at % 8 ≡ k + 1 → header.byte_gap at ≡ codes " "
not_first at k e =
    let no : nat_eq (at % 8) 0 ≡ false =
    false_from_ne_true (nat_eq (at % 8) 0)
    (λ is. let none : at % 8 ≡ 0 = eqb-true (at % 8) 0 is in absurd (omega (arith, none, e))) in
    ap (λ first. if first then codes "\n    " else codes " ") no

by_gap : (bytes : List ℕ) (at : ℕ) (gap : List ℕ) → header.byte_gap at ≡ gap
    → header.byte_word bytes at ≡ gap ++ (decimal (get_or bytes at 0) ++ codes ",")
by_gap bytes at gap e = ap (λ before. before ++ (decimal (get_or bytes at 0) ++ codes ",")) e

bytes-told : BytesAreTold
bytes-told = record {
  line_feed = λ bytes line.
      let same : 8 * line ≡ line * 8 + 0 = omega arith in
      let none : 0 < 8 = omega arith in
      by_gap bytes (8 * line) (codes "\n    ")
      (first_of_line (8 * line) (ap (λ n. n % 8) same ∙ mod-mul-add line 8 0 none));
  blank = λ bytes line k few.
      let same : 8 * line + k + 1 ≡ line * 8 + (k + 1) = omega arith in
      let below : k + 1 < 8 = omega (arith, few) in
      by_gap bytes (8 * line + k + 1) (codes " ")
      (not_first (8 * line + k + 1) k (ap (λ n. n % 8) same ∙ mod-mul-add line 8 (k + 1) below));
  all = λ bytes. refl;
  of_plan = λ n. refl;
}

masks-told : MasksAreTold
masks-told = record {
  motor = λ n names motors k. refl;
  all = λ n names motors. refl;
}

modules-told : ModulesAreTold
modules-told = record {
  name = λ title names. refl;
  pose = λ n k. refl;
  motor = λ n names motors k. refl;
  poses = λ n. refl;
  motors = λ n names motors. refl;
  kinds = λ n. refl;
  bytes = λ n. refl;
}

pub headers-tell : HeadersTell
headers-tell = record {
  capitals = capitals-told;
  numbers = numbers-told;
  bits = bits-told;
  bytes = bytes-told;
  readings = readings-told;
  masks = masks-told;
  modules = modules-told;
}
