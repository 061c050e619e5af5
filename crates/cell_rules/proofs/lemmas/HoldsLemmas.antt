-- A machine holds a zone by the events exactly if the test of each event says so, and exactly if it owns it in the
-- state after.
use Rattle.cell_rules.proofs.Names.{◌≡◌, Bool, true, false, ◌&&◌, ◌||◌, not, List, [], ◌∷◌, ◌++◌, ◌⊎◌, inl, inr, refl, sym, ap, ◌∙◌, ◌↔◌, IsTrue, or_left, or_right, false_from_ne_true, All-nil, All-cons, All-head, All-tail, Machine, Zone, Event, ModelState, owns, after, IsLegal, is_gain, is_loss, Holds, IsLoss, LosesNothing, GainsAndKeeps}
use Rattle.cell_rules.proofs.lemmas.DoneCalls.{not_true}
use Rattle.cell_rules.proofs.HeldZones.{holds_since, holds}
use Rattle.cell_rules.proofs.lemmas.Holders.{owns-after}

holds_since-append : (b : Bool) (x y : List Event) (m : Machine) (z : Zone) → holds_since b (x ++ y) m z ≡ holds_since (holds_since b x m z) y m z
holds_since-append b [] y m z = refl
holds_since-append b (e ∷ x) y m z = holds_since-append (is_gain e m z || (b && not (is_loss e m z))) x y m z

-- what is held and not lost is held
holds_since-kept : (h : List Event) (m : Machine) (z : Zone) → LosesNothing h m z → holds_since true h m z ≡ true
holds_since-kept [] m z k = refl
holds_since-kept (e ∷ h) m z k =
    let here = false_from_ne_true (is_loss e m z) (All-head (λ x. ¬ IsLoss x m z) e h k) in
    ap (λ b. holds_since b h m z) (or_right (is_gain e m z) (true && not (is_loss e m z)) (not_true (is_loss e m z) here)) ∙ holds_since-kept h m z (All-tail (λ x. ¬ IsLoss x m z) e h k)

holds_since-gained : (b : Bool) (h : List Event) (m : Machine) (z : Zone) → GainsAndKeeps h m z → holds_since b h m z ≡ true
holds_since-gained b h m z g =
    let held = holds_since b g.before m z in
    ap (λ x. holds_since b x m z) g.split ∙ holds_since-append b g.before (g.gain ∷ g.since) m z
    ∙ ap (λ t. holds_since t g.since m z) (or_left (is_gain g.gain m z) (held && not (is_loss g.gain m z)) g.gained) ∙ holds_since-kept g.since m z g.kept

pub gained_or_kept : (g b l : Bool) → (g || (b && not l)) ≡ true → (g ≡ true) ⊎ ((b ≡ true) × (l ≡ false))
gained_or_kept true b l e = inl refl
gained_or_kept false true false e = inr (refl, refl)
gained_or_kept _ _ _ e = cc

-- a zone held at the end was gained last, or held at the start, and not lost since
held_by_events : (b : Bool) (h : List Event) (m : Machine) (z : Zone) → holds_since b h m z ≡ true → ((b ≡ true) × LosesNothing h m z) ⊎ GainsAndKeeps h m z
held_by_events b [] m z e = inl (e, All-nil (λ x. ¬ IsLoss x m z))
held_by_events b (x ∷ h) m z e =
    elim (held_by_events (is_gain x m z || (b && not (is_loss x m z))) h m z e) [
      | inl k ↦ elim (gained_or_kept (is_gain x m z) b (is_loss x m z) k.0) [
        | inl g ↦ inr (record { before = []; gain = x; since = h; split = refl; gained = g; kept = k.1 })
        | inr o ↦ inl (o.0, All-cons (λ y. ¬ IsLoss y m z) x h (λ lost. cc) k.1)
      ]
      | inr g ↦ inr (record { before = x ∷ g.before; gain = g.gain; since = g.since; split = ap (λ t. x ∷ t) g.split; gained = g.gained; kept = g.kept })
    ]

pub holds_by_test : (s : ModelState) (h : List Event) (m : Machine) (z : Zone) → Holds s h m z ↔ IsTrue (holds s h m z)
holds_by_test s h m z = (
  λ k. elim k [ inl k ↦ ap (λ b. holds_since b h m z) k.0 ∙ holds_since-kept h m z k.1 | inr g ↦ holds_since-gained (owns s m z) h m z g ],
  held_by_events (owns s m z) h m z,
)

pub holds_iff_owns : (s : ModelState) (h : List Event) (m : Machine) (z : Zone) → IsLegal s h → Holds s h m z ↔ IsTrue (owns (after s h) m z)
holds_iff_owns s h m z l =
    let same = owns-after s h m z l in
    let test = holds_by_test s h m z in
    (λ k. same ∙ test.0 k, λ o. test.1 (sym same ∙ o))
