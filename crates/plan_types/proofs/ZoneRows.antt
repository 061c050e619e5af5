-- The zone that has a row of eight bytes.
use Rattle.std.proofs.Common.{◌≡◌, ◌↔◌, ℕ, ◌+◌, ◌*◌, Bool, List, [], ◌∷◌, ◌++◌, length, get_or, Option, Some, refl, sym, ap, ap₂, ◌∙◌, arith}
use mir.Val.{bool_byte}
use Rattle.plan_types.specs.declared.table.Way.{Way}
use Rattle.plan_types.specs.declared.table.PlanZone.{PlanZone}
use Rattle.plan_types.specs.Bytes.{way_byte, from_byte, to_byte, zone_bytes}
use Rattle.plan_types.proofs.Same.{same_zone}

abbrev pub eight_of : List ℕ → List ℕ
eight_of row =
    get_or row 0 0 ∷ get_or row 1 0 ∷ get_or row 2 0 ∷ get_or row 3 0 ∷ get_or row 4 0 ∷ get_or row 5 0
    ∷ get_or row 6 0 ∷ get_or row 7 0 ∷ []

eight : (row : List ℕ) → length row ≡ 8 → eight_of row ≡ row
eight [] l = absurd (omega (arith, l))
eight (a ∷ []) l = absurd (omega (arith, l))
eight (a ∷ b ∷ []) l = absurd (omega (arith, l))
eight (a ∷ b ∷ c ∷ []) l = absurd (omega (arith, l))
eight (a ∷ b ∷ c ∷ d ∷ []) l = absurd (omega (arith, l))
eight (a ∷ b ∷ c ∷ d ∷ e ∷ []) l = absurd (omega (arith, l))
eight (a ∷ b ∷ c ∷ d ∷ e ∷ f ∷ []) l = absurd (omega (arith, l))
eight (a ∷ b ∷ c ∷ d ∷ e ∷ f ∷ g ∷ []) l = absurd (omega (arith, l))
eight (a ∷ b ∷ c ∷ d ∷ e ∷ f ∷ g ∷ h ∷ []) l = refl
eight (a ∷ b ∷ c ∷ d ∷ e ∷ f ∷ g ∷ h ∷ i ∷ rest) l = absurd (omega (arith, l))

abbrev pub entrance_bytes : Bool → Option Way → List ℕ
entrance_bytes joins way = (way_byte way + 2 * bool_byte joins) ∷ from_byte way ∷ to_byte way ∷ []

abbrev pub way_bytes : Option Way → List ℕ
way_bytes way = way_byte way ∷ from_byte way ∷ to_byte way ∷ []

abbrev pub zone_of : List ℕ → Bool → Option Way → Option Way → PlanZone
zone_of row joins inward outward =
    record { host = get_or row 0 0; guest = get_or row 1 0; joins = joins; inward = inward; outward = outward }

pub one_zone : (row : List ℕ) (joins : Bool) (inward outward : Option Way) → length row ≡ 8
    → entrance_bytes joins inward ≡ get_or row 2 0 ∷ get_or row 3 0 ∷ get_or row 4 0 ∷ []
    → way_bytes outward ≡ get_or row 5 0 ∷ get_or row 6 0 ∷ get_or row 7 0 ∷ []
    → (zone : PlanZone) → (Some (zone_of row joins inward outward) ≡ Some zone) ↔ (zone_bytes zone ≡ row)
one_zone row joins inward outward long enters leaves zone =
    let made = zone_of row joins inward outward in
    let is : zone_bytes made ≡ row =
    ap₂ (λ xs ys. get_or row 0 0 ∷ get_or row 1 0 ∷ xs ++ ys) enters leaves ∙ eight row long in (
      λ some. let same : made ≡ zone = cc in ap zone_bytes (sym same) ∙ is,
      λ told. ap (λ z. Some z) (same_zone made zone (is ∙ sym told)),
    )

-- the bytes of the way inward, of a zone with this row
pub entrance_told : (row : List ℕ) (zone : PlanZone) → zone_bytes zone ≡ row
    → entrance_bytes zone.joins zone.inward ≡ get_or row 2 0 ∷ get_or row 3 0 ∷ get_or row 4 0 ∷ []
entrance_told row zone told = ap (λ r. get_or r 2 0 ∷ get_or r 3 0 ∷ get_or r 4 0 ∷ []) told
