-- A turn of a controller whose line asks a state.
use Rattle.std.proofs.Common.{◌≡◌, ◌≢◌, ℕ, Option, Some, None, List, refl, sym, ap, subst, arith}
use Rattle.std.specs.Prelude.{slice_get}
use Rattle.plan_types.specs.declared.answer.Refusal.{Refusal}
use Rattle.plan_types.specs.declared.answer.Refusal.TheVariants.{NotParty, Held, AlreadyMine, Shut, NotOwner}
use Rattle.plan_types.specs.declared.answer.Refusal.TheVariants.{PlateInZone, NoPlate, PlaceFull, WrongWay, Jump}
use Rattle.plan_types.specs.declared.answer.Refusal.TheVariants.{NoPose, Worn, Stopped, NotStopped}
use Rattle.plan_types.specs.Table.{PlanTable}
use Rattle.plan_rules.specs.declared.state.State.{State}
use Rattle.plan_controller.specs.declared.step.Step.{Step}
use Rattle.plan_controller.specs.declared.outcome.Outcome.{Outcome}
use Rattle.plan_controller.specs.Turns.{control, advanced, Performs, TurnsBy, Turns}
use Rattle.plan_controller.proofs.lemmas.Caring.{careful}
use Rattle.plan_c.specs.Replies.{refusal_number, nothing}
use Rattle.plan_c.specs.Turning.{stop_number, place_of, Silent, Asks, IsTurn, resting}
use Rattle.plan_c.specs.declared.turn.Place.{Place}
use Rattle.plan_c.specs.declared.turn.Turned.{Turned}

numbered : (r : Refusal) → refusal_number r ≡ 0 → ⊥
numbered NotParty e = omega (arith, e)
numbered (Held m) e = omega (arith, e)
numbered AlreadyMine e = omega (arith, e)
numbered (Shut q) e = omega (arith, e)
numbered (NotOwner o) e = omega (arith, e)
numbered (PlateInZone z) e = omega (arith, e)
numbered NoPlate e = omega (arith, e)
numbered PlaceFull e = omega (arith, e)
numbered WrongWay e = omega (arith, e)
numbered Jump e = omega (arith, e)
numbered NoPose e = omega (arith, e)
numbered Worn e = omega (arith, e)
numbered Stopped e = omega (arith, e)
numbered NotStopped e = omega (arith, e)

pub goes_on : (stopped : Option Refusal) → stop_number stopped ≡ 0 → stopped ≡ None
goes_on None e = refl
goes_on (Some r) e = absurd (numbered r e)

pub taken : (t : PlanTable) (s : State) (word m line read : ℕ) (steps : List Step) (stopped : Option Refusal) (x : Turned) (o : Outcome) (step : Step) → stop_number stopped ≡ 0
    → slice_get steps line ≡ Some step
    → Performs (control m steps line None) (Silent word x.word x.answer) (Asks t s m x.word x.answer) read (Some step) x.motors o
    → x.place ≡ place_of (advanced (control m steps line None) o)
    → IsTurn t s word (control m steps line stopped) (Some read) x
taken t s word m line read steps stopped x o step running is performs place =
    let c = control m steps line None in
    let same = Silent word x.word x.answer in
    let asks = Asks t s m x.word x.answer in
    let turn : Turns c same asks (Some read) x.motors (advanced c o) =
    (o, subst (λ at. Performs c same asks read at x.motors o) (sym is) performs, refl) in
    subst (λ u. IsTurn t s word (control m steps line u) (Some read) x) (sym (goes_on stopped running))
    (record { now = advanced c o; turn = turn; place = place; careful = careful c (advanced c o) same asks (Some read) x.motors turn })

rests : (t : PlanTable) (s : State) (word m line : ℕ) (steps : List Step) (stopped : Option Refusal) (sensors : Option ℕ) (x : Turned)
    → TurnsBy stopped (control m steps line stopped) (Silent word word nothing) (Asks t s m word nothing) sensors 0 (control m steps line stopped)
    → x ≡ resting nothing word (place_of (control m steps line stopped)) → IsTurn t s word (control m steps line stopped) sensors x
rests t s word m line steps stopped sensors x turn is =
    let c = control m steps line stopped in
    subst (IsTurn t s word c sensors) (sym is)
    (record { now = c; turn = turn; place = refl; careful = careful c c (Silent word word nothing) (Asks t s m word nothing) sensors 0 turn })

pub rested : (t : PlanTable) (s : State) (word m line : ℕ) (steps : List Step) (stopped : Option Refusal) (sensors : Option ℕ) (x : Turned)
    → ((read : ℕ) → sensors ≡ Some read → stop_number stopped ≢ 0) → x ≡ resting nothing word (place_of (control m steps line stopped))
    → IsTurn t s word (control m steps line stopped) sensors x
rested t s word m line steps (Some r) sensors x why is = rests t s word m line steps (Some r) sensors x ((refl, refl), refl, refl) is
rested t s word m line steps None None x why is = rests t s word m line steps None None x ((refl, refl), refl, refl) is
rested t s word m line steps None (Some read) x why is = absurd (why read refl refl)

pub same_place : (x : Place) (n : ℕ) → x.stopped ≡ n → x ≡ record { line = x.line; stopped = n }
same_place x n e = ap (λ k. record { line = x.line; stopped = k }) e

pub none_some : {A : Type 0} (x : A) → None ≡ Some x → ⊥
none_some x e = cc
