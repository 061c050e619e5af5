-- A call after a letter comes after what it tells.
use Rattle.std.proofs.Common.{◌≡◌, ℕ, List, [], ◌∷◌, ◌++◌, Ok, sym, ap, ◌∙◌, subst, append_assoc, append-nil}
use Rattle.cell_rules.specs.Types.{Machine, Call, Event, Reply, Settled, Busy}
use Rattle.cell_rules.specs.Names.{ModelState, event, BeginsWith, SeenAfter, after, LawfulThroughout}
use Rattle.cell_interlock.specs.Views.{PassView, ReceiptView}
use Rattle.cell_interlock.specs.Calls.{IfSettled, IsStampedAfter, stamp_in}
use Rattle.cell_interlock.specs.Seen.{HasSeenMore}
use Rattle.cell_interlock.proofs.lemmas.Order.{stamp_seen, stamped_after}
use Rattle.interlock_tests.specs.Letters.{HasEvent, ComesLater, HasItsStamp}

still_has : (e : Event) (h k : List Event) → BeginsWith k h → HasEvent h e → HasEvent k e
still_has e h k b f = record { before = f.before; later = f.later ++ b.0; is = b.1 ∙ (ap (λ (l : List Event). l ++ b.0) f.is ∙ append_assoc f.before (e ∷ f.later) b.0) }

by_reply : (e : Event) (heard now : List Event) (n : Machine) (d : Call) (y : Reply) (o : ModelState) → HasEvent heard e → SeenAfter n d (Ok y) o heard now → IfSettled y (λ b. ComesLater e (event n d b) now)
by_reply e heard now n d (Settled b t) o f it = record { point = it.0.point; ends = it.0.ends; first = still_has e heard it.0.point it.0.begins f }
by_reply e heard now n d (Busy l t) o f it = tt

pub comes_later : (e : Event) (told : List Event) (w heard : PassView) (d : Call) (y : Reply) (now : List Event) → HasEvent told e → BeginsWith heard.seen told → HasSeenMore w heard → SeenAfter heard.machine d (Ok y) heard.opening heard.seen now → IfSettled y (λ b. ComesLater e (event w.machine d b) now)
comes_later e told w heard d y now f b more it =
    by_reply e heard.seen now w.machine d y heard.opening (still_has e told heard.seen b f) (subst (λ (m : Machine). SeenAfter m d (Ok y) heard.opening heard.seen now) more.pass.machine it)

-- a call after a letter with a stamp gets no lower stamp
pub stamped_later : (r : ReceiptView) (stamp : ℕ) (w heard : PassView) (d : Call) (y : Reply) (now : List Event) → HasItsStamp r stamp → r.opening ≡ w.opening → BeginsWith heard.seen r.seen → HasSeenMore w heard → SeenAfter heard.machine d (Ok y) heard.opening heard.seen now → LawfulThroughout heard.opening now → IsStampedAfter stamp y
stamped_later r stamp w heard d y now is opens b more it lawful =
    subst (λ (s : ℕ). IsStampedAfter s y) (sym (is ∙ ap (λ (o : ModelState). (after o r.seen).stamp) (opens ∙ sym more.pass.opening)))
    (stamped_after heard.opening heard.machine d y r.seen heard.seen now b it (lawful now [] (sym (append-nil now))).legal)

-- the stamp of a reply is the one of the state after what its pass has seen
pub stamp_told : (m : Machine) (c : Call) (y : Reply) (o p : ModelState) (seen now : List Event) → SeenAfter m c (Ok y) o seen now → p ≡ o → stamp_in y ≡ (after p now).stamp
stamp_told m c y o p seen now it same = stamp_seen m c y o seen now it ∙ ap (λ (z : ModelState). (after z now).stamp) (sym same)
