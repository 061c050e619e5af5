-- Numbers of the picture that follow a position of the plant. They stop at the ends of their type.
use Rattle.std.specs.Prelude.{ℤ, pos, ◌+ℤ◌, ◌-ℤ◌, ◌*ℤ◌, int_div}
use Rattle.std.specs.Int.{saturate_signed, w32}
use Rattle.cell_picture.specs.declared.ramp.Ramp.{Ramp}

abbrev pub less : ℤ → ℤ → ℤ
less x y = saturate_signed w32 (x -ℤ y)

abbrev pub ramp : ℤ → ℤ → Ramp
ramp base rise = record { base = base; rise = rise }

-- from the base, by the rise for each 500 tenths
unfoldable pub ramp_at : Ramp → ℤ → ℤ
ramp_at r position = saturate_signed w32 (r.base +ℤ int_div (saturate_signed w32 (position *ℤ r.rise)) (pos 500))
