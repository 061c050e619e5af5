-- The first of a call's conditions that applies, and the causes that the conditions give.
use Rattle.std.proofs.Common.{◌≡◌, ℕ, Bool, true, false, cond, ◌||◌, nat_eq, Option, Some, None, is_some, List, [], ◌∷◌, refl, sym, ap, ◌∙◌, subst, eq-eqb}
use Rattle.std.specs.List.{list_any}
use Rattle.std.proofs.lemmas.Bool.{eqb-true, false_from_ne_true, or_right}
use Rattle.plan_types.specs.declared.answer.Refusal.{Refusal}
use Rattle.plan_rules.specs.Causes.{number_of}
use Rattle.plan_rules.specs.Refusals.{◌or◌}
use Rattle.plan_rules.specs.RefusalLaws.{is_no_later, from_on}

-- ---- conditions with their numbers, in order

-- a condition refuses for its cause, and does so whenever the cause holds
pub record Tells (cause : Refusal → Bool) (l : ℕ × Option Refusal) : Type 0 where
  pub told : (r : Refusal) → l.1 ≡ Some r → (number_of r ≡ l.0) × (cause r ≡ true)
  pub found : (r : Refusal) → number_of r ≡ l.0 → cause r ≡ true → is_some l.1 ≡ true

pub record Line (cause : Refusal → Bool) : Type 0 where
  pub condition : ℕ × Option Refusal
  pub tells : Tells cause condition

abbrev pub line : {cause : Refusal → Bool} {l : ℕ × Option Refusal} → Tells cause l → Line cause
line {l = l} t = record { condition = l; tells = t }

abbrev pub chain : {cause : Refusal → Bool} → Option Refusal → List (Line cause) → Option Refusal
chain found [] = found
chain found (l ∷ ls) = chain (found or l.condition.1) ls

abbrev pub numbers : {cause : Refusal → Bool} → List (Line cause) → List ℕ
numbers [] = []
numbers (l ∷ ls) = l.condition.0 ∷ numbers ls

stays : {cause : Refusal → Bool} → (q : Refusal) (ls : List (Line cause)) → chain (Some q) ls ≡ Some q
stays q [] = refl
stays q (l ∷ ls) = stays q ls

told_at : (cause : Refusal → Bool) (l : Line cause) (ls : List (Line cause)) (o : Option Refusal) → l.condition.1 ≡ o
    → ((r : Refusal) → chain None ls ≡ Some r → cause r ≡ true) → (r : Refusal) → chain o ls ≡ Some r → cause r ≡ true
told_at cause l ls None is rest r e = rest r e
told_at cause l ls (Some q) is rest r e = (l.tells.told r (is ∙ sym (stays q ls) ∙ e)).1

pub told_by : (cause : Refusal → Bool) (ls : List (Line cause)) (r : Refusal) → chain None ls ≡ Some r → cause r ≡ true
told_by cause [] r e = cc
told_by cause (l ∷ ls) r e = told_at cause l ls l.condition.1 refl (told_by cause ls) r e

-- an answer that is in the order no later than a refusal
pub record First (order : List ℕ) (o : Option Refusal) (r : Refusal) : Type 0 where
  pub answered : Refusal
  pub is : o ≡ Some answered
  pub stands : is_no_later order (number_of answered) (number_of r) ≡ true

abbrev pub is_among : ℕ → List ℕ → Bool
is_among k ns = list_any (λ x. nat_eq x k) ns

pub head_on : (n k : ℕ) (ns : List ℕ) → is_among k (n ∷ ns) ≡ true → is_no_later (n ∷ ns) n k ≡ true
head_on n k ns e = ap (λ (b : Bool). is_among k (cond b (n ∷ ns) (from_on n ns))) (eq-eqb n n refl) ∙ e

tail_on : (n a k : ℕ) (ns : List ℕ) → is_among k ns ≡ true → is_no_later ns a k ≡ true → is_no_later (n ∷ ns) a k ≡ true
tail_on n a k ns among e =
    let At : Bool → Type 0 = λ b. is_among k (cond b (n ∷ ns) (from_on a ns)) ≡ true in
    let by : (b : Bool) → At b = λ b. elim b as At [
      | true ↦ or_right (nat_eq n k) (is_among k ns) among
      | false ↦ e
    ] in
    by (nat_eq n a)

right_holds : (b c : Bool) → (b || c) ≡ true → b ≡ false → c ≡ true
right_holds true c e f = cc
right_holds false c e f = e

unheard : (n k : ℕ) → ((n ≡ k) → false ≡ true) → nat_eq n k ≡ false
unheard n k apart = false_from_ne_true (nat_eq n k) (λ e. let bad = apart (eqb-true n k e) in cc)

first_at : (cause : Refusal → Bool) (l : Line cause) (ls : List (Line cause)) (o : Option Refusal) → l.condition.1 ≡ o → (r : Refusal) → cause r ≡ true
    → is_among (number_of r) (numbers (l ∷ ls)) ≡ true → (is_among (number_of r) (numbers ls) ≡ true → First (numbers ls) (chain None ls) r) → First (numbers (l ∷ ls)) (chain o ls) r
first_at cause l ls None is r holds among rest =
    let n = l.condition.0 in
    let not_here : nat_eq n (number_of r) ≡ false = unheard n (number_of r) (λ same. ap is_some (sym is) ∙ l.tells.found r (sym same) holds) in
    let later = right_holds (nat_eq n (number_of r)) (is_among (number_of r) (numbers ls)) among not_here in
    let f = rest later in
    record { answered = f.answered; is = f.is; stands = tail_on n (number_of f.answered) (number_of r) (numbers ls) later f.stands }
first_at cause l ls (Some q) is r holds among rest =
    let same : number_of q ≡ l.condition.0 = (l.tells.told q is).0 in
    record { answered = q; is = stays q ls; stands = subst (λ x. is_no_later (numbers (l ∷ ls)) x (number_of r) ≡ true) (sym same) (head_on l.condition.0 (number_of r) (numbers ls) among) }

pub first_by : (cause : Refusal → Bool) (ls : List (Line cause)) (r : Refusal) → cause r ≡ true → is_among (number_of r) (numbers ls) ≡ true → First (numbers ls) (chain None ls) r
first_by cause [] r holds among = cc
first_by cause (l ∷ ls) r holds among = first_at cause l ls l.condition.1 refl r holds among (first_by cause ls r holds)
