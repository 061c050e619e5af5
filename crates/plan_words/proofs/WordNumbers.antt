-- Where a number is found among those of a word.
use Rattle.std.proofs.Common.{◌≡◌, ◌≢◌, ℕ, suc, ◌+◌, ◌<◌, ◌≤◌, ◌⊎◌, inl, inr, List, [], ◌∷◌, length, get_or, refl, sym, subst, ap, ◌∙◌, arith, if◌then◌else◌, Bool, true, false, nat_eq}
use Rattle.std.proofs.lemmas.Bool.{eqb-true}
use Rattle.plan_types.proofs.lemmas.Below.{below_next}
use Rattle.plan_words.specs.Group.{past, HasZone, HasPose, HasPlace}
use Rattle.plan_words.specs.Groups.{number_in}
use Rattle.plan_words.specs.Plant.{PlantWords, word_at}
use Rattle.plan_types.specs.declared.call.Call.{Call}
use Rattle.plan_types.specs.declared.call.Call.TheVariants.{Claim, Give, Yield, Take, Release, SetPose, Inquire, Stop, Resume, Advance}
use Rattle.plan_words.specs.declared.routing.OnWord.{OnWord}
use Rattle.plan_words.specs.PlantRoutes.{IsZone, IsPose, IsPlace, HasNoZone, HasNoPose, HasNoPlace, IsOfNoWord, IsRow, renumbered, IsRoute}
use Rattle.plan_words.proofs.Tables.{number_found}

found_by : (x : ℕ) (xs : List ℕ) (n : ℕ) → (number_in xs n < length xs → get_or xs (number_in xs n) past ≡ n) → (b : Bool) → nat_eq x n ≡ b
    → (if b then 0 else 1 + number_in xs n) < suc (length xs) → get_or (x ∷ xs) (if b then 0 else 1 + number_in xs n) past ≡ n
found_by x xs n rest true e l = eqb-true x n e
found_by x xs n rest false e l = let next : 1 + number_in xs n ≡ suc (number_in xs n) = omega arith in ap (λ k. get_or (x ∷ xs) k past) next ∙ rest (omega (arith, l))

pub is_there : (xs : List ℕ) (n : ℕ) → number_in xs n < length xs → get_or xs (number_in xs n) past ≡ n
is_there [] n l = absurd (omega (arith, l))
is_there (x ∷ xs) n l = found_by x xs n (is_there xs n) (nat_eq x n) refl l

isnt_there : (xs : List ℕ) (n i : ℕ) → length xs ≤ number_in xs n → i < length xs → get_or xs i past ≢ n
isnt_there xs n i m l e = let f = (number_found xs n (i, (l, e))).0 in absurd (omega (arith, m, f))

-- it is on this word
pub zone_is : (v : PlantWords) (zone word number : ℕ) (zones : List ℕ) → word < length v.words → zones ≡ (word_at v word).group.zones → number ≡ number_in zones zone → number < length zones
    → IsZone v zone (record { word = word; number = number })
zone_is v zone word number zones l same is m = record {
  word = l;
  number = subst (λ xs. number < length xs) same m;
  is = ap (λ xs. get_or xs number past) (sym same) ∙ (ap (λ k. get_or zones k past) is ∙ is_there zones zone (subst (λ k. k < length zones) is m));
}

pub pose_is : (v : PlantWords) (pose word number : ℕ) (poses : List ℕ) → word < length v.words → poses ≡ (word_at v word).group.poses → number ≡ number_in poses pose → number < length poses
    → IsPose v pose (record { word = word; number = number })
pose_is v pose word number poses l same is m = record {
  word = l;
  number = subst (λ xs. number < length xs) same m;
  is = ap (λ xs. get_or xs number past) (sym same) ∙ (ap (λ k. get_or poses k past) is ∙ is_there poses pose (subst (λ k. k < length poses) is m));
}

pub place_is : (v : PlantWords) (place word number : ℕ) (places : List ℕ) → word < length v.words → places ≡ (word_at v word).group.places → number ≡ number_in places place → number < length places
    → IsPlace v place (record { word = word; number = number })
place_is v place word number places l same is m = record {
  word = l;
  number = subst (λ xs. number < length xs) same m;
  is = ap (λ xs. get_or xs number past) (sym same) ∙ (ap (λ k. get_or places k past) is ∙ is_there places place (subst (λ k. k < length places) is m));
}

-- or it isn't, and on no word before it
abbrev pub Misses : (ℕ → Type 0) → ℕ → Type 0
Misses Has k = (n : ℕ) → n < k → ¬ Has n

missed : (Has : ℕ → Type 0) (k : ℕ) → Misses Has k → ¬ Has k → Misses Has (k + 1)
missed Has k before here n l = elim (below_next n k (omega (arith, l))) [ inl m ↦ before n m | inr e ↦ subst (λ j. ¬ Has j) (sym e) here ]

pub no_zone : (v : PlantWords) (zone word number : ℕ) (zones : List ℕ) → zones ≡ (word_at v word).group.zones → number ≡ number_in zones zone → length zones ≤ number
    → Misses (λ n. HasZone (word_at v n).group zone) word → Misses (λ n. HasZone (word_at v n).group zone) (word + 1)
no_zone v zone word number zones same is m before =
    missed (λ n. HasZone (word_at v n).group zone) word before
    (λ has. isnt_there zones zone has.0 (subst (λ k. length zones ≤ k) is m) (subst (λ xs. has.0 < length xs) (sym same) has.1) (ap (λ xs. get_or xs has.0 past) same ∙ has.2))

pub no_pose : (v : PlantWords) (pose word number : ℕ) (poses : List ℕ) → poses ≡ (word_at v word).group.poses → number ≡ number_in poses pose → length poses ≤ number
    → Misses (λ n. HasPose (word_at v n).group pose) word → Misses (λ n. HasPose (word_at v n).group pose) (word + 1)
no_pose v pose word number poses same is m before =
    missed (λ n. HasPose (word_at v n).group pose) word before
    (λ has. isnt_there poses pose has.0 (subst (λ k. length poses ≤ k) is m) (subst (λ xs. has.0 < length xs) (sym same) has.1) (ap (λ xs. get_or xs has.0 past) same ∙ has.2))

pub no_place : (v : PlantWords) (place word number : ℕ) (places : List ℕ) → places ≡ (word_at v word).group.places → number ≡ number_in places place → length places ≤ number
    → Misses (λ n. HasPlace (word_at v n).group place) word → Misses (λ n. HasPlace (word_at v n).group place) (word + 1)
no_place v place word number places same is m before =
    missed (λ n. HasPlace (word_at v n).group place) word before
    (λ has. isnt_there places place has.0 (subst (λ k. length places ≤ k) is m) (subst (λ xs. has.0 < length xs) (sym same) has.1) (ap (λ xs. get_or xs has.0 past) same ∙ has.2))

-- ---- calls

pub row_routes : (v : PlantWords) (call : Call) (on : OnWord) → IsRow v call on → IsRoute v call (record { word = on.word; call = renumbered call on.number })
row_routes v (Claim z) on r = record { word = r.word; own = r.number; is = ap (λ n. let c : Call = Claim n in c) r.is }
row_routes v (Give z) on r = record { word = r.word; own = r.number; is = ap (λ n. let c : Call = Give n in c) r.is }
row_routes v (Yield z) on r = record { word = r.word; own = r.number; is = ap (λ n. let c : Call = Yield n in c) r.is }
row_routes v (Take z) on r = record { word = r.word; own = r.number; is = ap (λ n. let c : Call = Take n in c) r.is }
row_routes v (Release z) on r = record { word = r.word; own = r.number; is = ap (λ n. let c : Call = Release n in c) r.is }
row_routes v (SetPose p) on r = record { word = r.word; own = r.number; is = ap (λ n. let c : Call = SetPose n in c) r.is }
row_routes v (Inquire z) on r = record { word = r.word; own = r.number; is = ap (λ n. let c : Call = Inquire n in c) r.is }
row_routes v Stop on r = absurd r
row_routes v Resume on r = absurd r
row_routes v (Advance p) on r = record { word = r.word; own = r.number; is = ap (λ n. let c : Call = Advance n in c) r.is }

-- no word has the row of a call
pub no_zone_row : (v : PlantWords) (call : Call) (n z : ℕ) → n ≡ z → HasNoZone v n
    → (call ≡ Claim z) ⊎ ((call ≡ Give z) ⊎ ((call ≡ Yield z) ⊎ ((call ≡ Take z) ⊎ ((call ≡ Release z) ⊎ (call ≡ Inquire z))))) → IsOfNoWord v call
no_zone_row v call n z same none is =
    let here : HasNoZone v z = subst (HasNoZone v) same none in
    elim is [
      | inl e ↦ subst (IsOfNoWord v) (sym e) here
      | inr (inl e) ↦ subst (IsOfNoWord v) (sym e) here
      | inr (inr (inl e)) ↦ subst (IsOfNoWord v) (sym e) here
      | inr (inr (inr (inl e))) ↦ subst (IsOfNoWord v) (sym e) here
      | inr (inr (inr (inr (inl e)))) ↦ subst (IsOfNoWord v) (sym e) here
      | inr (inr (inr (inr (inr e)))) ↦ subst (IsOfNoWord v) (sym e) here
    ]

pub no_pose_row : (v : PlantWords) (call : Call) (n p : ℕ) → n ≡ p → HasNoPose v n → call ≡ SetPose p → IsOfNoWord v call
no_pose_row v call n p same none e = subst (IsOfNoWord v) (sym e) (subst (HasNoPose v) same none)

pub no_place_row : (v : PlantWords) (call : Call) (n p : ℕ) → n ≡ p → HasNoPlace v n → call ≡ Advance p → IsOfNoWord v call
no_place_row v call n p same none e = subst (IsOfNoWord v) (sym e) (subst (HasNoPlace v) same none)
