use Rattle.std.proofs.Common.{◌≡◌, ◌+◌, ◌/◌, ◌%◌, ◌<◌, ◌^◌, refl, sym, ap, ap₂, ◌∙◌, subst, lt-ltb}
use Rattle.plan_types.specs.Below.{sum_below}
use Rattle.plan_types.specs.Table.{zone_count, place_count, zone_bits}
use Rattle.plan_word.specs.declared.layout.Field.TheVariants.{Zone, Place, Stamp, Stop}
use Rattle.plan_word.specs.Packed.{packed}
use Rattle.plan_word.proofs.lemmas.Shapes.{places_bit, bits_are, ends_are}
use Rattle.plan_word.proofs.laws.layouts_tell.Goals as goal

pub returns : goal.returns
returns c = λ t s k.
    let w = packed t s in
    let end : sum_below (zone_bits t) (zone_count t) ≡ places_bit t = sym (ends_are t (zone_count t)) in
    record {
      zone = λ z l.
          ap₂ (λ e b. w / 2 ^ e % 2 ^ b) (sym (ends_are t z)) (sym (bits_are t z))
          ∙ k.reads_back (Zone z) (lt-ltb z (zone_count t) l);
      place = λ p l. ap (λ e. w / 2 ^ (e + p) % 2) end ∙ k.reads_back (Place p) (lt-ltb p (place_count t) l);
      stamp = ap (λ e. w / 2 ^ (e + place_count t) % 1048576) end ∙ k.reads_back Stamp refl;
      stop = ap (λ e. w / 2 ^ (e + place_count t + 20) % 2) end ∙ k.reads_back Stop refl;
      above = subst (λ e. w < 2 ^ (e + place_count t + 21)) (sym end) k.bound;
    }
