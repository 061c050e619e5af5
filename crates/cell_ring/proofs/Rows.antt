-- The rows of the ring, computed.
use Rattle.cell_ring.proofs.Names.{refl}
use Rattle.std.specs.Prelude.{drop, take}
use Rattle.cell_ring.specs.OneLap.{onto_table}
use Rattle.cell_ring.specs.RingRows.{RingRows}

pub ring_rows : RingRows
ring_rows = record {
  lap = record {
    numbers = refl;
    next = refl;
    machines = refl;
    calls = refl;
    ahead = refl;
    last_is_far = refl;
    some_moves = refl;
    same = refl;
    by_robot = refl;
    by_press = refl;
    to_robot = refl;
    to_press = refl;
    forging = refl;
    along_deposit = refl;
    by_yield = refl;
    by_stranger = refl;
    by_watch = refl;
    moving_calls = refl;
    undelivered = refl;
    three_moves_of_four = refl;
    ten_moves_of_one = refl;
  };
  plates = record {
    at_places = refl;
    at_some = refl;
    to_press = refl;
    from_press = refl;
    no_way = refl;
  };
  events = record {
    is_move = refl;
    from_end = refl;
    refused_move = refl;
    moves = refl;
    own_moves = refl;
    ends = refl;
    arrives = refl;
    arrivals = refl;
    in_the_middle = λ f. f (take 3 onto_table) (take 2 (drop 3 onto_table)) (drop 5 onto_table) refl (refl, refl);
  };
}
