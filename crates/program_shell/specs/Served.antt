-- What a run of a program has done.
use Rattle.std.specs.Prelude.{◌≡◌, ◌<◌, ℕ, List, Option, IfSome}
use Rattle.text_io.specs.Input.{TakesAtMost}

-- What `serve` of a program says of one kind of run: the exit status, with what was written if the run went well, and
-- if it failed; and the most that was taken of the input. Known bytes of the input are `input` before and `rest` after
-- it; of the output, `old` and `new`.
pub record Served (WentWell : Option (List ℕ) → Option (List ℕ) → Option (List ℕ) → Type 0)
    (Fails : List ℕ → Option (List ℕ) → Option (List ℕ) → Type 0) (most exit : ℕ)
    (input rest old new : Option (List ℕ)) : Type 0 where
  pub status : exit < 2
  pub well : exit ≡ 0 → WentWell input old new
  pub failed : exit ≡ 1 → IfSome input (λ bytes. Fails bytes old new)
  pub taken : TakesAtMost input rest most
