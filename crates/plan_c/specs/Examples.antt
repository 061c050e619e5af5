-- Which texts and stamps are those of a start, by two machines at a press: two places; and by sixteen places.
use Rattle.std.specs.Prelude.{◌≡◌, ◌⊎◌, ℕ, ◌<◌, ◌≤◌, nat_eq, true, false, List, [], ◌∷◌, codes, get_or, map, replicate}
use Rattle.plan_types.specs.Examples.{press_table, counted}
use Rattle.plan_c.specs.Starts.{IsStartText, is_digit, places_in}

pub record StartsAreJudged : Type 0 where
  -- the first place is full; each stamp up to the last, and each one past it
  pub last : (stamp : ℕ) → stamp ≤ 1048575 → IsStartText press_table (codes "10") stamp
  pub past_last : (stamp : ℕ) → 1048575 < stamp → ¬ IsStartText press_table (codes "10") stamp
  -- a digit that is no flag; a place too few, and one too many
  pub two_plates : ¬ IsStartText press_table (codes "12") 0
  pub no_digit : ¬ IsStartText press_table (codes "1/") 0
  pub too_few : ¬ IsStartText press_table (codes "1") 0
  pub too_many : ¬ IsStartText press_table (codes "100") 0
  -- sixteen places: one digit that is no flag, in the middle or at the end, and one place too few
  pub sixteen : IsStartText (counted 0 16) (codes "0110100110010111") 0
  pub two_within : ¬ IsStartText (counted 0 16) (codes "0110100120010111") 0
  pub two_at_end : ¬ IsStartText (counted 0 16) (codes "0110100110010112") 0
  pub fifteen : ¬ IsStartText (counted 0 16) (codes "011010011001011") 0
  pub none : IsStartText (counted 0 0) [] 1048575
  -- two digits alone are flags, and a place is full exactly if its own digit is 1
  pub flags : (d : ℕ) → is_digit d ≡ true → (d ≡ 48) ⊎ (d ≡ 49)
  pub own_digits : (digits : List ℕ) → places_in digits
      ≡ map (λ p. nat_eq (get_or digits p 0) 49)
      (0 ∷ 1 ∷ 2 ∷ 3 ∷ 4 ∷ 5 ∷ 6 ∷ 7 ∷ 8 ∷ 9 ∷ 10 ∷ 11 ∷ 12 ∷ 13 ∷ 14 ∷ 15 ∷ [])
  pub each : places_in (codes "0110100110010111")
      ≡ false ∷ true ∷ true ∷ false ∷ true ∷ false ∷ false ∷ true ∷ true ∷ false ∷ false ∷ true ∷ false ∷ true
      ∷ true ∷ true ∷ []
  -- the places that are full: the first, or the second
  pub first : places_in (codes "10") ≡ true ∷ replicate 15 false
  pub second : places_in (codes "01") ≡ false ∷ true ∷ replicate 14 false
