-- Examples of bytes that may be taken from a reader or written of a text, and of bytes that may not.
use Rattle.std.specs.Prelude.{ℕ, List, [], ◌∷◌, Option, Some, None}
use Rattle.text_io.specs.Input.{TakesAtMost}
use Rattle.text_io.specs.Output.{WrotePrefix}

-- a reader that had 1, 2 and 3 may have these left, if it may lose at most a number of bytes
abbrev pub Leaves : Option (List ℕ) → ℕ → Type 0
Leaves left most = TakesAtMost (Some (1 ∷ 2 ∷ 3 ∷ [])) left most

-- a writer that had 7 may have this after a prefix of 1 and 2 was written
abbrev pub Has : Option (List ℕ) → Type 0
Has written = WrotePrefix (Some (7 ∷ [])) written (1 ∷ 2 ∷ [])

pub record BytesAreMet : Type 0 where
  pub none_taken : Leaves (Some (1 ∷ 2 ∷ 3 ∷ [])) 2
  pub most_taken : Leaves (Some (3 ∷ [])) 2
  pub fewer_taken : Leaves (Some (2 ∷ 3 ∷ [])) 5
  pub all_taken : Leaves (Some []) 3
  pub none_to_take : TakesAtMost (Some []) (Some []) 0
  pub one_by_none : ¬ Leaves (Some (2 ∷ 3 ∷ [])) 0
  pub one_more : ¬ Leaves (Some []) 2
  pub not_the_first : ¬ Leaves (Some (1 ∷ [])) 2
  pub none_known : ¬ Leaves None 2
  pub nothing_written : Has (Some (7 ∷ []))
  pub part_written : Has (Some (7 ∷ 1 ∷ []))
  pub all_written : Has (Some (7 ∷ 1 ∷ 2 ∷ []))
  pub first_left_out : ¬ Has (Some (7 ∷ 2 ∷ []))
  pub old_lost : ¬ Has (Some (1 ∷ []))
  pub more_written : ¬ Has (Some (7 ∷ 1 ∷ 2 ∷ 3 ∷ []))
  pub nothing_known : ¬ Has None
  pub first_of_all : WrotePrefix (Some []) (Some (1 ∷ 2 ∷ [])) (1 ∷ 2 ∷ 3 ∷ [])
  pub no_text : WrotePrefix (Some (7 ∷ 8 ∷ [])) (Some (7 ∷ 8 ∷ [])) []
  pub written_before : ¬ WrotePrefix (Some (7 ∷ [])) (Some (1 ∷ 7 ∷ [])) (1 ∷ 2 ∷ [])
