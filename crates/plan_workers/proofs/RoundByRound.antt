-- Rounds, one after another.
use Rattle.std.proofs.Common.{ℕ, ◌+◌, List, [], ◌∷◌, ◌++◌, Option, Result, refl, sym, ap, ◌∙◌, subst}
use Rattle.std.proofs.lemmas.List.{length-append}
use Rattle.plan_types.specs.Table.{PlanTable}
use Rattle.plan_workers.specs.declared.rounds.PlanRound.{PlanRound}
use Rattle.plan_workers.specs.Turning.{GateOf, last_of}
use Rattle.plan_workers.specs.Renewing.{AreRounds, HasRenewed, RoundMoment, TakesRound}
use Rattle.plan_workers.proofs.Turning.{last_more}

module _ {D S Fault : Type 0} (reads : D → Option ℕ → D → Type 0) (drives : D → ℕ → D → Type 0) (takes : S → PlanRound → Result (Unit {0}) Fault → S → Type 0) (t : PlanTable) (tries turns : ℕ) (gate : ℕ → GateOf) where
  abbrev Takes : RoundMoment D S → RoundMoment D S → Type 0
  Takes before now = TakesRound reads drives takes t tries turns gate before now

  abbrev Are : RoundMoment D S → List (RoundMoment D S) → Type 0
  Are first moments = AreRounds reads drives takes t tries turns gate first moments

  rounds_more : (first now : RoundMoment D S) (moments : List (RoundMoment D S)) → Are first moments → Takes (last_of first moments) now → Are first (moments ++ now ∷ [])
  rounds_more first now [] k round = (round, tt)
  rounds_more first now (x ∷ xs) k round = (k.0, rounds_more x now xs k.1 round)

  pub none_yet : (first : RoundMoment D S) → HasRenewed reads drives takes t tries turns gate 0 first first
  none_yet first = record { moments = []; taken = tt; is_last = refl; many = refl }

  pub one_more : (n : ℕ) (first before now : RoundMoment D S) → HasRenewed reads drives takes t tries turns gate n first before → Takes before now → HasRenewed reads drives takes t tries turns gate (n + 1) first now
  one_more n first before now k round = record {
    moments = k.moments ++ now ∷ [];
    taken = rounds_more first now k.moments k.taken (subst (λ x. Takes x now) (sym k.is_last) round);
    is_last = last_more first now k.moments;
    many = length-append k.moments (now ∷ []) ∙ ap (λ x. x + 1) k.many;
  }
