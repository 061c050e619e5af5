-- A small graph: a number below 20 leads to the next one and to its double; others lead to themselves.
use Rattle.std.specs.Prelude.{ℕ, ◌+◌, ◌*◌, nat_lt, nat_eq, if◌then◌else◌, [], ◌∷◌, slice_index_or}
use Rattle.graph_search.specs.Space.{Space}

abbrev pub next_of : ℕ → ℕ
next_of a = if nat_lt a 20 then a + 1 else a

abbrev pub double_of : ℕ → ℕ
double_of a = if nat_lt a 20 then a * 2 else a

abbrev pub climb_space : ℕ → Space ℕ ℕ
climb_space goal =
    record {
      width = 2;
      is_node = λ a. Unit {0};
      next = λ a turn. slice_index_or (next_of a ∷ double_of a ∷ []) turn a;
      is_sought = λ a. nat_eq a goal;
      key = λ a. a;
    }
