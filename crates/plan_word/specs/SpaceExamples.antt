-- Words of a press with two robots, put together by hand. Of the first zone: bits 0 and 1 the owner of the space, bit 2
-- its flag, bits 3 and 4 its posture; of the second: bit 5 its flag, bits 6 and 7 its posture. Then the places in bits
-- 8 to 10, the stamp from bit 11, and the stop in bit 31.
use Rattle.std.specs.Prelude.{◌≡◌, true, false, [], ◌∷◌, map, Some, None}
use Rattle.plan_types.specs.declared.posture.Posture.TheVariants.{Closed, OpenOut}
use Rattle.plan_types.specs.SpaceExamples.{robots_table, five_shuttles}
use Rattle.plan_rules.specs.declared.state.State.{State}
use Rattle.plan_rules.specs.SpaceExamples.{at, side, claimed_state, given_state, free_state}
use Rattle.plan_word.specs.Packed.{packed, owner_code}
use Rattle.plan_word.specs.Reading.{state_told, owner_of_code}

-- the press has given its plate to the unloader
abbrev pub given_on : State
given_on = at (side 2 Closed false) (side 2 OpenOut true) false false false 9

pub record SpaceWords : Type 0 where
  -- 1 + 2 * 8 + 1 * 256 + 3 * 2048
  pub claimed : packed robots_table claimed_state ≡ 6417
  -- 1 + 4 + 2 * 8 + 5 * 2048
  pub given : packed robots_table given_state ≡ 10261
  -- 3 + 1 * 32 + 3 * 64 + 9 * 2048
  pub given_on_word : packed robots_table given_on ≡ 18659
  -- 3 * 64 + 4 * 256 + 11 * 2048
  pub free : packed robots_table free_state ≡ 23744
  -- the press, the loader, the unloader; and of four guests the last
  pub owners : map (owner_code robots_table 0) (None ∷ Some 1 ∷ Some 0 ∷ Some 2 ∷ []) ≡ 0 ∷ 1 ∷ 2 ∷ 3 ∷ []
  pub shuttles : map (owner_code five_shuttles 0) (Some 0 ∷ Some 1 ∷ Some 4 ∷ []) ≡ 1 ∷ 2 ∷ 5 ∷ []
  pub codes : map (owner_of_code robots_table 0) (0 ∷ 1 ∷ 2 ∷ 3 ∷ []) ≡ None ∷ Some 1 ∷ Some 0 ∷ Some 2 ∷ []
  pub spare : map (owner_of_code five_shuttles 0) (5 ∷ 6 ∷ 7 ∷ []) ≡ Some 4 ∷ Some 1 ∷ Some 1 ∷ []

pub record SpacesTold : Type 0 where
  pub claimed : state_told robots_table 6417 ≡ claimed_state
  pub given : state_told robots_table 10261 ≡ given_state
  pub given_on_told : state_told robots_table 18659 ≡ given_on
  pub free : state_told robots_table 23744 ≡ free_state
