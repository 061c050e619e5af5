-- The events of an audit come by machine, between two done ones.
use Rattle.std.proofs.Common.{◌≡◌, ℕ, ◌<◌, ◌≤◌, inl, inr, false, List, [], ◌∷◌, ◌++◌, refl, sym, ap, ◌∙◌, subst, arith}
use Rattle.std.proofs.lemmas.Bool.{cases_lt}
use Rattle.plan_types.specs.declared.answer.Event.{Event}
use Rattle.plan_types.specs.Table.{PlanTable}
use Rattle.plan_rules.specs.declared.state.State.{State}
use Rattle.plan_rules.specs.History.{is_done}
use Rattle.plan_workers.specs.declared.journal.PlanEntry.{PlanEntry}
use Rattle.plan_workers.specs.Journals.{event_by}
use Rattle.plan_workers.specs.Turning.{last_of}
use Rattle.plan_workers.specs.Audited.{AreInOrder, Journals}
use Rattle.plan_workers.specs.Replays.{Follows, IsNext, Reads}
use Rattle.plan_workers.proofs.Journaling.{calm_stays}
use Rattle.plan_workers.proofs.Turning.{last_more}

-- the last event, if it isn't done, is of no machine above one whose next entry may follow at once
abbrev pub IsLastInOrder : ℕ → Journals → List Event → Type 0
IsLastInOrder stamp journals history = (before : List Event) (e : Event) → history ≡ before ++ e ∷ [] → is_done e ≡ false → (k : ℕ) (y : PlanEntry) → k < e.machine → ¬ Follows false stamp journals k y

-- nothing has been read yet
pub none_yet : (stamp : ℕ) (journals : Journals) → IsLastInOrder stamp journals []
none_yet stamp journals [] e is calm = absurd (cc)
none_yet stamp journals (d ∷ before) e is calm = absurd (cc)

one_more : (es : List Event) (e : Event) → AreInOrder es → ((before : List Event) (d : Event) → es ≡ before ++ d ∷ [] → is_done d ≡ false → is_done e ≡ false → d.machine ≤ e.machine) → AreInOrder (es ++ e ∷ [])
one_more [] e a l = (tt, tt)
one_more (d ∷ []) e a l = (l [] d refl, (tt, tt))
one_more (c ∷ d ∷ es) e a l = (a.0, one_more (d ∷ es) e a.1 (λ before x is. l (c ∷ before) x (ap (λ ys. c ∷ ys) is)))

last_one : (xs ys : List Event) (d e : Event) → xs ++ d ∷ [] ≡ ys ++ e ∷ [] → d ≡ e
last_one xs ys d e is = sym (last_more d d xs) ∙ (ap (λ zs. last_of d zs) is ∙ last_more d e ys)

pub goes_in_order : (n m : ℕ) (x : PlanEntry) (js : Journals) (es : List Event) → IsNext n js m x → AreInOrder es → IsLastInOrder n js es → AreInOrder (es ++ event_by m x ∷ [])
goes_in_order n m x js es next order last =
    one_more es (event_by m x) order (λ before d is d_calm calm. elim (cases_lt m d.machine) [
      | inl less ↦ absurd (last before d is d_calm m x less (subst (λ b. Follows b n js m x) (sym next.follows.kind ∙ calm) next.follows))
      | inr most ↦ most
    ])

pub last_in_order : (t : PlanTable) (s now : State) (m : ℕ) (x : PlanEntry) (js later : Journals) (es : List Event) → IsNext s.stamp js m x → Reads t m x s now js later → IsLastInOrder now.stamp later (es ++ event_by m x ∷ [])
last_in_order t s now m x js later es next r before d is d_calm k y less f =
    let same : event_by m x ≡ d = last_one es before (event_by m x) d is in
    let calm = subst (λ e. is_done e ≡ false) (sym same) d_calm in
    let low : k < m = subst (λ e. k < e.machine) (sym same) less in
    let stamp : now.stamp ≡ s.stamp = ap (λ (z : State). z.stamp) (r.state ∙ calm_stays t s (event_by m x) r.answer calm) in
    let stays = r.others k (λ is. omega (arith, low, is)) in
    next.lower k y low
    (subst (λ b. Follows b s.stamp js k y) (sym calm ∙ next.follows.kind) (record { caller = f.caller; first = (f.first.0, sym stays ∙ f.first.1); kind = f.kind; at = f.at ∙ stamp }))
