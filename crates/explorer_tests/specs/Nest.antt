-- Machine 0 leads from node 0 to node 1, and from there to and fro between the nodes 1 and 2. Machine 1 leads from
-- node 0 to node 3, and from there back, which is progress. Machine 2 leads back to node 0 from node 1, and perhaps from
-- node 2.
use Rattle.std.specs.Prelude.{ℕ, Bool, nat_eq, if◌then◌else◌, [], ◌∷◌, slice_index_or}
use Rattle.graph_search.specs.Space.{Space}

abbrev pub on_of : ℕ → ℕ
on_of a = if nat_eq a 0 then 1 else (if nat_eq a 1 then 2 else (if nat_eq a 2 then 1 else a))

abbrev pub out_of : ℕ → ℕ
out_of a = if nat_eq a 0 then 3 else (if nat_eq a 3 then 0 else a)

abbrev pub back_of : Bool → ℕ → ℕ
back_of from_both a = if nat_eq a 1 then 0 else (if nat_eq a 2 then (if from_both then 0 else 2) else a)

abbrev pub nest_space : Bool → Space ℕ ℕ
nest_space from_both =
    record {
      width = 3;
      is_node = λ a. Unit {0};
      next = λ a turn. slice_index_or (on_of a ∷ out_of a ∷ back_of from_both a ∷ []) turn a;
      is_sought = λ a. nat_eq a 9;
      key = λ a. a;
    }
