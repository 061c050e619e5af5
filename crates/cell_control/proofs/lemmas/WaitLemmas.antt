-- The refusals on which a step stays.
use Rattle.std.proofs.Common.{◌≡◌, ◌||◌, ◌∙◌, ap, List, [], ◌∷◌, refl}
use Rattle.cell_rules.specs.Types.{Refusal, Held, NotOwner, PlaceFull, Shut, Stopped}
use Rattle.cell_control.specs.Names.{waits_on, is_while_stopped, UntilFree, UntilOpen}
use Rattle.cell_control.specs.declared.row.Waits.{Waits}
use Rattle.cell_control.specs.declared.row.Waits.TheVariants as waits
use Rattle.cell_control.specs.Rows.{Wait, is_among, is_waited_out, stays_by, UntilOwner, UntilRoom, UntilResumed}
use Rattle.cell_control.specs.WaitRows.{StaysOn, WaitRows}

until_free : StaysOn waits.UntilFree (UntilFree ∷ [])
until_free (Held _) = refl
until_free _ = refl

until_owner : StaysOn waits.UntilOwner (UntilOwner ∷ [])
until_owner (NotOwner _) = refl
until_owner _ = refl

until_room : StaysOn waits.UntilRoom (UntilRoom ∷ [])
until_room PlaceFull = refl
until_room _ = refl

until_free_and_open : StaysOn waits.UntilFreeAndOpen (UntilFree ∷ UntilOpen ∷ [])
until_free_and_open (Held _) = refl
until_free_and_open (Shut _) = refl
until_free_and_open _ = refl

until_resumed : (r : Refusal) → is_while_stopped r ≡ is_waited_out UntilResumed r
until_resumed Stopped = refl
until_resumed _ = refl

pub wait-rows : WaitRows
wait-rows = record {
  never = λ r. refl;
  until_free = until_free;
  until_owner = until_owner;
  until_room = until_room;
  until_free_and_open = until_free_and_open;
  until_resumed = until_resumed;
}

-- so a step stays by its row, and in a stopped cell
abbrev pub Stays : Waits → List Wait → Type 0
Stays w ws = (r : Refusal) → (waits_on w r || is_while_stopped r) ≡ stays_by ws r

stays : (w : Waits) (ws : List Wait) → StaysOn w ws → Stays w ws
stays w ws k r = ap (λ x. x || is_while_stopped r) (k r) ∙ ap (λ x. is_among ws r || x) (until_resumed r)

pub stays_never : Stays waits.Never []
stays_never = stays waits.Never [] wait-rows.never

pub stays_until_free : Stays waits.UntilFree (UntilFree ∷ [])
stays_until_free = stays waits.UntilFree (UntilFree ∷ []) wait-rows.until_free

pub stays_until_owner : Stays waits.UntilOwner (UntilOwner ∷ [])
stays_until_owner = stays waits.UntilOwner (UntilOwner ∷ []) wait-rows.until_owner

pub stays_until_room : Stays waits.UntilRoom (UntilRoom ∷ [])
stays_until_room = stays waits.UntilRoom (UntilRoom ∷ []) wait-rows.until_room

pub stays_until_free_and_open : Stays waits.UntilFreeAndOpen (UntilFree ∷ UntilOpen ∷ [])
stays_until_free_and_open = stays waits.UntilFreeAndOpen (UntilFree ∷ UntilOpen ∷ []) wait-rows.until_free_and_open
