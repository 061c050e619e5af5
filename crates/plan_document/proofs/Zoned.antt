-- The rows of zones, one zone after another, and of a zone one guest after another.
use Rattle.std.proofs.Common.{◌≡◌, ◌∙◌, ◌+◌, ◌<◌, ◌++◌, ◌∷◌, [], ℕ, List, length, map, take, get_or, append_assoc, sym, ap, subst, arith}
use Rattle.std.proofs.lemmas.List.{flat_map_more, length-map, length-take-le}
use Rattle.std.specs.List.{AllZip, enumerate_from}
use Rattle.toml.specs.Data.{Data, Members}
use Rattle.plan_document.specs.declared.document.ZoneRow.{ZoneRow}
use Rattle.plan_document.specs.Reading.{AreAdded, AreSides, AreZonesIn, IsSide, IsZoneIn}
use Rattle.plan_document.proofs.Growing.{map_row_more, number_push, zip_push}

-- one more guest, and its row
pub sides_more : {X : Type 0} (f : X → Data) (zone : Members) (xs : List X) (i : ℕ) (x : X) (old before new : List ZoneRow) (row : ZoneRow) → i < length xs → x ≡ get_or xs i x → AreAdded (AreSides zone (map f (take i xs))) old before → IsSide zone (i, f x) row → new ≡ before ++ row ∷ []
    → AreAdded (AreSides zone (map f (take (i + 1) xs))) old new
sides_more f zone xs i x old before new row h is so_far one pushed = record {
  added = so_far.added ++ row ∷ [];
  are =
      subst (λ items. AllZip (IsSide zone) items (so_far.added ++ row ∷ [])) (sym numbered)
      (zip_push (IsSide zone) (enumerate_from 0 (map f (take i xs))) so_far.added (i, f x) row so_far.are one);
  all = pushed ∙ ap (λ rows. rows ++ row ∷ []) so_far.all ∙ append_assoc old so_far.added (row ∷ []);
}
  where
    count : 0 + length (map f (take i xs)) ≡ i
    count = let taken = length-take-le i xs (omega arith) in omega (arith, length-map (take i xs) f, taken)

    numbered : enumerate_from 0 (map f (take (i + 1) xs)) ≡ enumerate_from 0 (map f (take i xs)) ++ (i, f x) ∷ []
    numbered =
        ap (enumerate_from 0) (map_row_more f xs i x h is)
        ∙ number_push 0 (map f (take i xs)) (f x)
        ∙ ap (λ k. enumerate_from 0 (map f (take i xs)) ++ (k, f x) ∷ []) count

-- one more zone, and its rows
pub zones_more : {X : Type 0} (f : X → Data) (xs : List X) (i : ℕ) (x : X) (before new : List ZoneRow) → i < length xs → x ≡ get_or xs i x → AreZonesIn (map f (take i xs)) before → AreAdded (IsZoneIn (f x)) before new → AreZonesIn (map f (take (i + 1) xs)) new
zones_more f xs i x before new h is so_far one = record {
  zones = so_far.zones ++ one.added ∷ [];
  each =
      subst (λ items. AllZip IsZoneIn items (so_far.zones ++ one.added ∷ [])) (sym (map_row_more f xs i x h is))
      (zip_push IsZoneIn (map f (take i xs)) so_far.zones (f x) one.added so_far.each one.are);
  all = one.all ∙ ap (λ rows. rows ++ one.added) so_far.all ∙ flat_map_more (λ (zone : List ZoneRow). zone) [] so_far.zones one.added;
}
