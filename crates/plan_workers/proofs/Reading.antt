-- What is left of lists of which a part has been read.
use Rattle.std.proofs.Common.{◌≡◌, ◌≢◌, Bool, true, false, if◌then◌else◌, Option, Some, None, MatchOption, ℕ, ◌+◌, ◌<◌, ◌≤◌, inl, inr, suc, zero, List, [], ◌∷◌, length, get_or, set, drop, refl, ap, ◌∙◌, subst, arith}
use Rattle.std.specs.Global.{Vec}
use Rattle.std.proofs.Math.Seq.{drop-cons}
use Rattle.std.proofs.Math.Numerals.{add-one}
use Rattle.std.proofs.Math.ListN.{drop_of_length-le}
use Rattle.std.proofs.lemmas.List.{get_or-set_same, get_or-set_other, get_or-map}
use Rattle.std.proofs.lemmas.Bool.{cases_lt}
use Rattle.plan_types.specs.Table.{watch}
use Rattle.plan_workers.specs.declared.journal.PlanEntry.{PlanEntry}
use Rattle.plan_workers.specs.Audited.{Journals, journals_in}
use Rattle.plan_rules.specs.History.{is_done_answer}
use Rattle.plan_workers.specs.Replays.{Follows, FollowsFirst, HasNoNext, HasNoStranger, IsFirst, IsNext, IsTaken, NoneFollows, rest_of}

pub below : (p : ℕ) (xs : List PlanEntry) → drop p xs ≢ [] → p < length xs
below p xs some = elim (cases_lt p (length xs)) [ inl l ↦ l | inr past ↦ absurd (some (drop_of_length-le xs past)) ]

nothing_of : (p : ℕ) → drop {A = PlanEntry} p [] ≡ []
nothing_of p = drop_of_length-le [] (omega arith)

-- past the last journal there are no entries
pub nothing_past : (js : List (Vec PlanEntry)) (m : ℕ) → length js ≤ m → journals_in js m ≡ []
nothing_past [] m past = refl
nothing_past (j ∷ js) zero past = absurd (omega (arith, past))
nothing_past (j ∷ js) (suc m) past = nothing_past js m (omega (arith, past))

pub in_journals : (js : List (Vec PlanEntry)) (read : List ℕ) (m : ℕ) → rest_of read (journals_in js) m ≢ [] → m < length js
in_journals js read m some =
    elim (cases_lt m (length js)) [
      | inl l ↦ l
      | inr past ↦ absurd (some (ap (λ xs. drop (get_or read m 0) xs) (nothing_past js m past) ∙ nothing_of (get_or read m 0)))
    ]

-- one entry more has been read
pub taken : (js : Journals) (read : List ℕ) (m : ℕ) → m < length read → rest_of read js m ≢ [] → IsTaken m (rest_of read js) (rest_of (set read m (get_or read m 0 + 1)) js)
taken js read m within some = record {
  own = λ x rest is.
      let c = drop-cons (js m) (get_or read m 0) x (below (get_or read m 0) (js m) some) in
      let tail : drop (suc (get_or read m 0)) (js m) ≡ rest = cc in
      ap (λ p. drop p (js m)) (get_or-set_same read m (get_or read m 0 + 1) 0 within ∙ add-one (get_or read m 0)) ∙ tail;
  others = λ k isnt. ap (λ p. drop p (js k)) (get_or-set_other read m k (get_or read m 0 + 1) 0 isnt);
}

pub at_journal : (js : List (Vec PlanEntry)) (k : ℕ) (d : Vec PlanEntry) → k < length js → journals_in js k ≡ (get_or js k d).items
at_journal js k d within = get_or-map (λ (j : Vec PlanEntry). j.items) js k d [] within

-- ---- which entry follows

pub none_here : (done : Bool) (n : ℕ) (js : Journals) (m : ℕ) → js m ≡ [] → (x : PlanEntry) → ¬ Follows done n js m x
none_here done n js m empty x f = let first = f.first.1 in absurd (cc)

pub other_here : (done : Bool) (n : ℕ) (js : Journals) (m : ℕ) (y : PlanEntry) → IsFirst y (js m) → (is_done_answer y.answer ≡ done → y.stamp ≡ (if done then n + 1 else n) → ⊥) → (x : PlanEntry) → ¬ Follows done n js m x
other_here done n js m y first isnt x f =
    let own = first.1 in
    let its = f.first.1 in
    let same : x ≡ y = cc in
    isnt (subst (λ z. is_done_answer z.answer ≡ done) same f.kind) (subst (λ z. z.stamp ≡ (if done then n + 1 else n)) same f.at)

by_kind : (n : ℕ) (js : Journals) → NoneFollows false n js → NoneFollows true n js → HasNoNext n js
by_kind n js none f true = f
by_kind n js none f false = none

pub others_then_done : (n : ℕ) (js : Journals) (r : Option (ℕ × PlanEntry)) → NoneFollows false n js → MatchOption r (NoneFollows true n js) (λ next. FollowsFirst true n js next.0 next.1)
    → MatchOption r (HasNoNext n js) (λ next. IsNext n js next.0 next.1)
others_then_done n js (Some next) none f = record { done = true; follows = f.follows; lower = f.lower; others_first = λ _. none }
others_then_done n js None none f = by_kind n js none f

pub other_next : (n : ℕ) (js : Journals) (m : ℕ) (x : PlanEntry) → FollowsFirst false n js m x → IsNext n js m x
other_next n js m x f = record { done = false; follows = f.follows; lower = f.lower; others_first = λ e. absurd (cc) }

pub no_entries : (xs : List PlanEntry) → length xs ≡ 0 → xs ≡ []
no_entries [] e = refl
no_entries (x ∷ xs) e = absurd (omega (arith, e))

-- where the callers' journals have been read, all have
pub all_read : (js : Journals) (read : List ℕ) → HasNoStranger js → ((m : ℕ) → m ≤ watch → rest_of read js m ≡ []) → (m : ℕ) → rest_of read js m ≡ []
all_read js read strange callers m =
    elim (cases_lt watch m) [
      | inl past ↦ ap (λ xs. drop (get_or read m 0) xs) (strange m past) ∙ nothing_of (get_or read m 0)
      | inr caller ↦ callers m caller
    ]
