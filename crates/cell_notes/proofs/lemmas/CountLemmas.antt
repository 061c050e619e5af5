-- No count is above the number of turns.
use Rattle.std.proofs.Common.{ℕ, ◌+◌, ◌<◌, Bool, true, false, arith}
use Rattle.cell_rules.specs.ModelState.{one_if}
use Rattle.cell_notes.specs.Names.{TurnCall, came_back, is_done_reply, is_read_reply, is_refused_reply, is_busy_reply, no_counts, counts_with, AreBelow}
use Rattle.cell_notes.specs.declared.counts.Counts.{Counts}

pub none_below : AreBelow 1 no_counts
none_below = record { turns = omega arith; done = omega arith; read = omega arith; refused = omega arith; busy = omega arith }

one_more : (b : Bool) (k n : ℕ) → k < n → k + one_if b < n + 1
one_more true k n e = omega (arith, e)
one_more false k n e = omega (arith, e)

pub below_with : (n : ℕ) (c : Counts) (asked : TurnCall) → AreBelow n c → AreBelow (n + 1) (counts_with c asked)
below_with n c asked k =
    record {
      turns = omega (arith, k.turns);
      done = one_more (came_back is_done_reply asked) c.done n k.done;
      read = one_more (came_back is_read_reply asked) c.read n k.read;
      refused = one_more (came_back is_refused_reply asked) c.refused n k.refused;
      busy = one_more (came_back is_busy_reply asked) c.busy n k.busy;
    }
