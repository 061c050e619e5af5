-- No frame of a run shows a collision.
use Rattle.cell_plant.proofs.Names.{List, [], ◌∷◌, All-nil, All-cons, All, TurnCall, Turn, CellScales, CellState, cell_at_start, frame_of, frames_after, Step, IsRun, IsSafeState, IsSafeRun, IsSafeFrame, FilmsAreSafe}
use Rattle.std.specs.Prelude.{Some, None, Option}
use Rattle.cell_plant.proofs.SafeRuns.{every_run}

safe_frame : (turn : Option Turn) (asked : TurnCall) (w : CellState) → IsSafeState w → IsSafeFrame (frame_of turn asked w)
safe_frame turn asked w k = assumption

-- a safe run begins safely
begins_safely : (w : CellState) (ss : List Step) → IsSafeRun w ss → IsSafeState w
begins_safely w [] k = k
begins_safely w (s ∷ ss) k = k.0

safe_after : (c : CellScales) (w : CellState) (ts : List Turn) (ss : List Step) → IsRun c w ts ss → IsSafeRun w ss → All IsSafeFrame (frames_after ts ss)
safe_after c w [] ss r k = All-nil IsSafeFrame
safe_after c w (t ∷ ts) [] r k = All-nil IsSafeFrame
safe_after c w (t ∷ ts) (s ∷ ss) r k =
    All-cons IsSafeFrame (frame_of (Some t) s.asked s.moved) (frames_after ts ss) (safe_frame (Some t) s.asked s.moved (begins_safely s.moved ss k.1.1)) (safe_after c s.moved ts ss r.1.1 k.1.1)

pub films_are_safe : FilmsAreSafe
films_are_safe c opening turns steps scales start run =
    let k = every_run c opening turns steps scales start run in
    All-cons IsSafeFrame (frame_of None None (cell_at_start opening)) (frames_after turns steps)
    (safe_frame None None (cell_at_start opening) (begins_safely (cell_at_start opening) steps k))
    (safe_after c (cell_at_start opening) turns steps run k)
