-- Turns, one by one.
use Rattle.std.proofs.Common.{◌≡◌, ℕ, ◌+◌, ◌<◌, true, false, List, [], ◌∷◌, ◌++◌, ◌⊎◌, inl, inr, refl, sym, ap, ◌∙◌, subst, arith}
use Rattle.std.proofs.lemmas.List.{length-append}
use Rattle.plan_workers.specs.Turning.{GateOf, AreTakenBy, HasComeBy, HasWorkedBy, last_of}

pub last_more : {A : Type 0} (first now : A) (turns : List A) → last_of first (turns ++ now ∷ []) ≡ now
last_more first now [] = refl
last_more first now (x ∷ xs) = last_more x now xs

-- an index of the longer list is an old one, or the last
old_or_last : (k n : ℕ) → k < n + 1 → (k < n) ⊎ (k ≡ n)
old_or_last k n h = grind arith

module _ {M : Type 0} (step : M → M → Type 0) where
  takes_more : (first now : M) (turns : List M) → AreTakenBy step first turns → step (last_of first turns) now → AreTakenBy step first (turns ++ now ∷ [])
  takes_more first now [] k turn = (turn, tt)
  takes_more first now (x ∷ xs) k turn = (k.0, takes_more x now xs k.1 turn)

  pub begun : (gate : GateOf) (first : M) → HasComeBy step gate first first 0
  begun gate first = record { turns = []; taken = tt; is_last = refl; many = refl; let_in = λ k l. absurd (omega (arith, l)) }

  pub comes_on : (gate : GateOf) (first before now : M) (n : ℕ) → HasComeBy step gate first before n → gate n true → step before now → HasComeBy step gate first now (n + 1)
  comes_on gate first before now n k pass turn = record {
    turns = k.turns ++ now ∷ [];
    taken = takes_more first now k.turns k.taken (subst (λ x. step x now) (sym k.is_last) turn);
    is_last = last_more first now k.turns;
    many = length-append k.turns (now ∷ []) ∙ ap (λ x. x + 1) k.many;
    let_in = λ j l. elim (old_or_last j n l) [
      | inl old ↦ k.let_in j old
      | inr e ↦ subst (λ x. gate x true) (sym e) pass
    ];
  }

  pub ends_early : (gate : GateOf) (first last : M) (n limit : ℕ) → HasComeBy step gate first last n → n < limit → gate n false → HasWorkedBy step gate limit first last n
  ends_early gate first last n limit k less refused = record { come = k; ends = inr (less, refused) }

  pub ends_fully : (gate : GateOf) (first last : M) (n limit : ℕ) → HasComeBy step gate first last n → n ≡ limit → HasWorkedBy step gate limit first last limit
  ends_fully gate first last n limit k all = record { come = subst (λ x. HasComeBy step gate first last x) all k; ends = inl (omega arith) }
