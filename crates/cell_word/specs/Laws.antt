-- Laws of the fields of each word.
use Rattle.std.specs.Prelude.{◌≡◌, ℕ, ◌+◌, ◌<◌, ◌^◌, List, [], ◌∷◌, All}
use Rattle.cell_rules.specs.ModelState.{ModelState}
use Rattle.cell_word.specs.Layout.{Field, stamp_bit, fields_of, packed}
use Rattle.cell_word.specs.Reading.{bits_of}

-- the value of a field fits its width
abbrev pub Fits : Field → Type 0
Fits f = f.value < 2 ^ f.width

-- fields in order that fill the bits from one bit to below another, without overlap
abbrev pub SideBySide : ℕ → ℕ → List Field → Type 0
SideBySide start end [] = start ≡ end
SideBySide start end (f ∷ fs) = (f.lowest ≡ start) × SideBySide (start + f.width) end fs

-- the bits of a field determine its value
abbrev pub ReadsBack : ℕ → Field → Type 0
ReadsBack w f = bits_of w f.lowest f.width ≡ f.value

-- a number below 2 to the 61 whose bits of the stamp, 40 to 59, are zero
abbrev pub IsOffStamp : ℕ → Type 0
IsOffStamp n = (n < 2 ^ 61) × (bits_of n stamp_bit 20 ≡ 0)

-- the fields of a sound state fill the bits 0 to 60 of its word
pub record IsLaidOut (s : ModelState) : Type 0 where
  pub fits : All Fits (fields_of s)
  pub side_by_side : SideBySide 0 61 (fields_of s)
  pub reads_back : All (ReadsBack (packed s)) (fields_of s)
  pub bound : packed s < 2 ^ 61
