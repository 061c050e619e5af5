use Rattle.std.proofs.Common.{◌≡◌, ◌&&◌, Bool, true, false, not, nat_eq, refl, sym, ap, ◌∙◌}
use Rattle.plan_types.specs.Table.{guest_of}
use Rattle.plan_rules.specs.Sound.{is_open as opens_way}
use Rattle.plan_rules.proofs.lemmas.Puts.{nat_eq-apart}
use Rattle.plan_word.specs.Reading.{state_told}
use Rattle.plan_word.proofs.Guarding.{claim_left}
use Rattle.plan_word.proofs.guards.claim_refusal.Goals as goal
use Rattle.plan_word.proofs.guards.claim_refusal.Goals.{else-machine-guest-via-then-machine-guest+else-not-is_open, else-machine-guest-via-else-machine-guest}

pub returns : goal.returns
returns c =
    let t = c.args.plan.now in
    let s = state_told t c.args.word in
    let m = c.args.machine in
    let z = c.args.zone in
    let at = c.zone_in_word-at.result in
    let closed : (nat_eq m (guest_of t z) && not (opens_way at.posture)) ≡ false =
    elim c.else-machine-guest.branch [
      | else-machine-guest-via-then-machine-guest+else-not-is_open w ↦
          ap (λ b. nat_eq m (guest_of t z) && not b) (sym w.is_open.ensures ∙ w.if-not-is_open.false) ∙ none (nat_eq m (guest_of t z))
      | else-machine-guest-via-else-machine-guest w ↦
          ap (λ b. b && not (opens_way at.posture)) (nat_eq-apart m (guest_of t z) (λ e. w.if-machine-guest.false (e ∙ sym c.guest.ensures)))
    ] in
    c.worn.ensures
    ∙ claim_left t s m z at c.zone_in_word-at.ensures.state (sym c.is_party.ensures ∙ c.if-not-is_party.false)
    (sym (c.is_stopped_in.ensures.state t c.requires) ∙ c.if-is_stopped_in.false) c.in_default.is closed
  where
    none : (b : Bool) → (b && false) ≡ false
    none true = refl
    none false = refl
