-- A ring of three nodes that one machine goes round. The other machine leaves it at node 0, if there is a way out, to
-- node 3, and goes back from there; that is progress. With no way out, it has a turn at node 0 that leads to node 1.
use Rattle.std.specs.Prelude.{ℕ, Bool, ◌&&◌, nat_eq, if◌then◌else◌, [], ◌∷◌, slice_index_or}
use Rattle.graph_search.specs.Space.{Space}

abbrev pub round_of : ℕ → ℕ
round_of a = if nat_eq a 0 then 1 else (if nat_eq a 1 then 2 else (if nat_eq a 2 then 0 else a))

abbrev pub leave_of : Bool → ℕ → ℕ
leave_of way_out a = if nat_eq a 0 then (if way_out then 3 else 1) else (if nat_eq a 3 then 0 else a)

abbrev pub ring_space : Bool → Space ℕ ℕ
ring_space way_out =
    record {
      width = 2;
      is_node = λ a. Unit {0};
      next = λ a turn. slice_index_or (round_of a ∷ leave_of way_out a ∷ []) turn a;
      is_sought = λ a. nat_eq a 9;
      key = λ a. a;
    }

abbrev pub comes_back : ℕ → ℕ → Bool
comes_back a turn = nat_eq a 3 && nat_eq turn 1
