-- The laws of `reports_tell`.
use Rattle.std.proofs.Common.{◌≡◌, ◌∙◌, ◌+◌, ◌++◌, Bool, true, false, ◌&&◌, not, [], codes, nat_eq, eq-eqb, refl, ap}
use Rattle.std.proofs.Common.{if◌then◌else◌}
use Rattle.std.proofs.lemmas.Bool.{eqb-true, false_from_ne_true, lt-ltb}
use Rattle.std.proofs.lemmas.Slice.Eq.{bytes_eq-Decides}
use Rattle.std.specs.Str.{bytes_eq}
use Rattle.plan_types.specs.Table.{place_count, space_of, zone_count}
use Rattle.plan_word.specs.Layout.{bits_of, counts_of, zones_end}
use Rattle.plan_word.specs.declared.layout.Field.TheVariants.{Zone}
use Rattle.plan_text.specs.Names.{name_in}
use Rattle.plan_app.specs.ReportLaws.{ReportsTell, has_bits}
use Rattle.plan_app.specs.Reports as report
use Rattle.plan_app.specs.Words.{counted}

begins : (first same : Bool) → first ≡ true → same ≡ false → (first && not same) ≡ true
begins true false e f = refl
begins true true e f = absurd (cc)
begins false same e f = absurd (cc)

begins_none : (first same : Bool) → same ≡ true → (first && not same) ≡ false
begins_none true true e = refl
begins_none false true e = refl
begins_none first false e = absurd (cc)

pub reports-tell : ReportsTell
reports-tell = record {
  zone = λ n k there.
      ap
      (λ has. if has
      then has_bits (zones_end (counts_of n.plan) k) (counted (bits_of (counts_of n.plan) (Zone k)) (codes "bit")) (codes "zone " ++ name_in n.zones k)
      else [])
      (lt-ltb k (zone_count n.plan) there);
  space = λ n k there first apart.
      ap (λ t. if t then report.space_at n k else [])
      (begins (nat_eq (space_of n.plan k) k) (bytes_eq (name_in n.spaces k) (name_in n.zones k)) (eq-eqb (space_of n.plan k) k first) apart)
      ∙ ap (λ t. if t then report.space_words n k else []) (lt-ltb k (zone_count n.plan) there);
  no_space = λ n k same.
      ap (λ t. if t then report.space_at n k else [])
      (begins_none (nat_eq (space_of n.plan k) k) (bytes_eq (name_in n.spaces k) (name_in n.zones k)) ((bytes_eq-Decides (name_in n.spaces k) (name_in n.zones k)).1 same));
  place = λ n k there.
      ap
      (λ has. if has
      then has_bits (zones_end (counts_of n.plan) (zone_count n.plan) + k) (counted 1 (codes "bit")) (codes "place " ++ name_in n.places k)
      else [])
      (lt-ltb k (place_count n.plan) there);
  stamp = λ n. refl;
  stop = λ n. refl;
  width = λ n. refl;
  first_name = λ names k first. rw first refl;
  next_name = λ names k later.
      ap (λ t. (if t then codes ": " else codes " ") ++ name_in names k)
      (false_from_ne_true (nat_eq k 0) (λ is. later (eqb-true k 0 is)));
  names = λ kind names. refl;
  fields = λ n. refl;
}
