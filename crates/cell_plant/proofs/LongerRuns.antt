-- A run with one more turn: its end, its length, its events and its counts.
use Rattle.cell_plant.proofs.Names.{◌≡◌, suc, ◌+◌, Bool, true, false, ◌&&◌, cond, List, [], ◌∷◌, ◌++◌, append-nil, append_assoc, length, count_by, add-zero, refl, sym, ap, ◌∙◌, if◌then◌else◌, arith, sum_by-append, sum_by-cons, one_if, TurnCall, is_done_reply, is_read_reply, is_refused_reply, is_busy_reply, came_back, settled_in, counts_with, Counts, Turn, CellScales, CellGauges, CellState, Step, LeadsBy, IsRunBy, end_of, is_turn_of, is_told, counts_in, events_in}
use Rattle.cell_types.specs.declared.machine.Machine.{Machine}

-- a run is extended by a turn
pub run-push : (c : CellScales) (gives : CellGauges) (w : CellState) (ts : List Turn) (ss : List Step) (t : Turn) (s : Step) → IsRunBy c gives w ts ss → s.machine ≡ t.machine → LeadsBy c gives t.machine t.busy (end_of w ss) s → IsRunBy c gives w (ts ++ t ∷ []) (ss ++ s ∷ [])
run-push c gives w [] [] t s r e l = (e, (l, tt))
run-push c gives w (u ∷ ts) (x ∷ ss) t s r e l = (r.0, (r.1.0, run-push c gives x.moved ts ss t s r.1.1 e l))
run-push c gives w _ _ t s r e l = absurd r

pub end-push : (w : CellState) (ss : List Step) (s : Step) → end_of w (ss ++ s ∷ []) ≡ s.moved
end-push w [] s = refl
end-push w (x ∷ ss) s = end-push x.moved ss s

pub run-length : (c : CellScales) (gives : CellGauges) (w : CellState) (ts : List Turn) (ss : List Step) → IsRunBy c gives w ts ss → length ss ≡ length ts
run-length c gives w [] [] r = refl
run-length c gives w (t ∷ ts) (s ∷ ss) r = ap (λ n. suc n) (run-length c gives s.moved ts ss r.1.1)
run-length c gives w _ _ r = absurd r

pub events-push : (ss : List Step) (s : Step) → events_in (ss ++ s ∷ []) ≡ events_in ss ++ settled_in s.machine s.asked
events-push [] s = append-nil (settled_in s.machine s.asked)
events-push (x ∷ ss) s = ap (λ h. settled_in x.machine x.asked ++ h) (events-push ss s) ∙ sym (append_assoc (settled_in x.machine x.asked) (events_in ss) (settled_in s.machine s.asked))

-- counts after one more step
one_counted : (b : Bool) → cond b 1 0 + 0 ≡ one_if b
one_counted b = grind arith

count-push : (p : Step → Bool) (ss : List Step) (s : Step) → count_by p (ss ++ s ∷ []) ≡ count_by p ss + one_if (p s)
count-push p ss s = sum_by-append (λ x. cond (p x) 1 0) ss (s ∷ []) ∙ ap (λ n. count_by p ss + n) (sum_by-cons (λ x. cond (p x) 1 0) s [] ∙ one_counted (p s))

abbrev counted : Counts → Bool → TurnCall → Counts
counted c own asked =
    record {
      turns = c.turns + one_if own;
      done = c.done + one_if (own && came_back is_done_reply asked);
      read = c.read + one_if (own && came_back is_read_reply asked);
      refused = c.refused + one_if (own && came_back is_refused_reply asked);
      busy = c.busy + one_if (own && came_back is_busy_reply asked);
    }

counted_by : (c : Counts) (own : Bool) (asked : TurnCall) → counted c own asked ≡ (if own then counts_with c asked else c)
counted_by c true asked = refl
counted_by c false asked = rw (add-zero c.turns, add-zero c.done, add-zero c.read, add-zero c.refused, add-zero c.busy) refl

pub counts-push : (ss : List Step) (s : Step) (m : Machine) → counts_in (ss ++ s ∷ []) m ≡ (if is_turn_of m s then counts_with (counts_in ss m) s.asked else counts_in ss m)
counts-push ss s m =
    rw (count-push (is_turn_of m) ss s, count-push (is_told is_done_reply m) ss s, count-push (is_told is_read_reply m) ss s, count-push (is_told is_refused_reply m) ss s, count-push (is_told is_busy_reply m) ss s)
    (counted_by (counts_in ss m) (is_turn_of m s) s.asked)
