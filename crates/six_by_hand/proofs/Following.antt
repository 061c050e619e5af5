-- Round after round the sink keeps the state that the last one left, and the next interlock opens with it.
use Rattle.std.proofs.Common.{◌≡◌, ℕ, Option, Some, None, Result, Ok, inl, inr, refl, sym, ap, subst}
use Rattle.cell_rules.specs.Types.{Machine}
use Rattle.cell_rules.specs.Names.{ModelState}
use Rattle.cell_notes.specs.declared.status.Status.{Status}
use Rattle.cell_threads.specs.Workers.{GateOf, ComesBy}
use Rattle.cell_threads.specs.Promises.{GivesOf}
use Rattle.cell_threads.specs.Watching.{WatchesOf}
use Rattle.cell_threads.proofs.lemmas.Turning.{all_along}
use Rattle.cell_renewal.specs.declared.rounds.Round.{Round}
use Rattle.cell_renewal.specs.declared.rounds.Leave.{Leave}
use Rattle.cell_renewal.specs.Renewing.{GoesOnBy, OpensAfter, RoundMoment, TakesRound}
use Rattle.six_by_hand.specs.Rounds.{OpensWith}

opened : (mark : ℕ) (end next : ModelState) → OpensAfter mark end next → OpensWith (Some end) next
opened mark end next (inl k) = (0, k.1)
opened mark end next (inr k) = (end.stamp, k.1)

pub opens_first : (left : Option ModelState) (opening : ModelState) → left ≡ None → OpensWith left opening
opens_first left opening none = subst (λ o. OpensWith o opening) (sym none) tt

module _ {W1 W2 W3 W4 W5 W6 A B C D E F H S Fault : Type 0} {gives1 : GivesOf W1 A} {gives2 : GivesOf W2 B} {gives3 : GivesOf W3 C} {gives4 : GivesOf W4 D} {gives5 : GivesOf W5 E} {gives6 : GivesOf W6 F}
    {watches : WatchesOf H} {takes : S → Round → Result (Unit {0}) Fault → S → Type 0} {tries limit : ℕ} {gate : Machine → GateOf}
    {how1 : A → Status} {how2 : B → Status} {how3 : C → Status} {how4 : D → Status} {how5 : E → Status} {how6 : F → Status}
    {goes1 : GoesOnBy A W1} {goes2 : GoesOnBy B W2} {goes3 : GoesOnBy C W3} {goes4 : GoesOnBy D W4} {goes5 : GoesOnBy E W5} {goes6 : GoesOnBy F W6} {mark : ℕ}
    (kept : S → Option ModelState) (keeps : (before : S) (round : Round) (now : S) → takes before round (Ok tt) now → kept now ≡ Some round.end) where
  follows_on : (before now : RoundMoment W1 W2 W3 W4 W5 W6 H S) → TakesRound gives1 gives2 gives3 gives4 gives5 gives6 watches takes tries limit gate how1 how2 how3 how4 how5 how6 goes1 goes2 goes3 goes4 goes5 goes6 mark before now
      → OpensWith (kept before.sink) before.opening → OpensWith (kept now.sink) now.opening
  follows_on before now turn held =
      let end : turn.left.end ≡ turn.ends.six.end = ap (λ (l : Leave A B C D E F H). l.end) turn.ends.is in
      subst (λ o. OpensWith o now.opening) (sym (keeps before.sink _ now.sink turn.ends.taken))
      (opened mark turn.ends.six.end now.opening (subst (λ e. OpensAfter mark e now.opening) end turn.opens))

  pub rounds_follow : (first now : RoundMoment W1 W2 W3 W4 W5 W6 H S) → ComesBy (TakesRound gives1 gives2 gives3 gives4 gives5 gives6 watches takes tries limit gate how1 how2 how3 how4 how5 how6 goes1 goes2 goes3 goes4 goes5 goes6 mark) first now
      → OpensWith (kept first.sink) first.opening → OpensWith (kept now.sink) now.opening
  rounds_follow first now come begun =
      all_along (TakesRound gives1 gives2 gives3 gives4 gives5 gives6 watches takes tries limit gate how1 how2 how3 how4 how5 how6 goes1 goes2 goes3 goes4 goes5 goes6 mark) (λ (m : RoundMoment W1 W2 W3 W4 W5 W6 H S). OpensWith (kept m.sink) m.opening) follows_on first now come begun
