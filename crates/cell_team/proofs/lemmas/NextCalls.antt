-- What is heeded is refused only as worn, or with what a step waits for.
use Rattle.cell_team.proofs.Names.{◌≡◌, Bool, true, false, ◌||◌, inl, inr, refl, Refusal, Worn, ModelState, Steps, waits_out, CellScales, AreHeeded, IsHeeded, Team, programs_of, is_worn}
use Rattle.std.specs.Prelude.{◌⊎◌}
use Rattle.cell_team.specs.NextCalls.{IsRefusedAtMost, NextCalls}

pub only_worn : (r : Refusal) → is_worn r ≡ true → r ≡ Worn
only_worn Worn e = refl
only_worn _ e = cc

by-flag : (waits : Bool) (r : Refusal) → (waits || is_worn r) ≡ true → (r ≡ Worn) ⊎ (waits ≡ true)
by-flag true r e = inr refl
by-flag false r e = inl (only_worn r e)

heeded : {S Sense Reading Act : Type 0} (t : Steps S Sense Reading Act) (z : ModelState) (p : S) → IsHeeded t z p → IsRefusedAtMost t t.machine z p
heeded t z p k call r asks refused = by-flag (waits_out t p r) r (k call r asks refused)

pub next-calls : (c : CellScales) (z : ModelState) (team : Team) → AreHeeded (programs_of c) z team → NextCalls c z team
next-calls c z team k = record {
  feed = heeded (programs_of c).feed z team.feed k.feed;
  table = heeded (programs_of c).table z team.table k.table;
  robot = heeded (programs_of c).robot z team.robot k.robot;
  press = heeded (programs_of c).press z team.press k.press;
  deposit = heeded (programs_of c).deposit z team.deposit k.deposit;
  crane = heeded (programs_of c).crane z team.crane k.crane;
}
