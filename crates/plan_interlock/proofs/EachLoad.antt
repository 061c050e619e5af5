-- One load of each word, one after another, and the motors that all of them permit.
use Rattle.std.proofs.Common.{◌≡◌, ◌≢◌, ◌↔◌, ℕ, ◌+◌, ◌-◌, ◌^◌, ◌<◌, ◌≤◌, bit_and, List, [], ◌∷◌, length, get_or, refl, sym, ◌∙◌, subst, arith, below_more}
use Rattle.std.proofs.Math.Nat.{lt_of_not-le}
use Rattle.std.proofs.lemmas.Nat.Bits.{bit_at_above, bit_at_and, bit_at-lt, bit_at_ones}
use Rattle.plan_motors.specs.declared.motor.Motor.{Motor}
use Rattle.plan_motors.specs.declared.mask.MotorMask.{MotorMask}
use Rattle.plan_motors.specs.Mask.{IsMaskOf, mask_at}
use Rattle.plan_interlock.specs.Book.{plan_of}
use Rattle.plan_interlock.specs.Motors.{HasBit}
use Rattle.plan_interlock.specs.Plant.{WordView, RightView, PlantPassView, IsSamePlantPass, OnWord, OthersStay}
use Rattle.plan_interlock.proofs.Rights.{many_rights}
use Rattle.plan_interlock.specs.PlantMotors.{AreMasksOf, HasLooked, IsFound, PermitsPart, PermitsPartLong}

-- an element, where there is one
pub one_of : {X : Type 0} (xs : List X) (n : ℕ) → n < length xs → X
one_of [] n low = absurd (omega (arith, low))
one_of (x ∷ xs) n low = x

-- ---- bits

pub bit_is_below : (bits n : ℕ) → bits < 2 ^ n → (k : ℕ) → HasBit bits k → k < n
bit_is_below bits n small k set = lt_of_not-le (λ high. let above = bit_at_above bits n k small high in omega (arith, above, set))

both_bits : (a b k : ℕ) → HasBit (bit_and a b) k ↔ (HasBit a k × HasBit b k)
both_bits a b k =
    let is = bit_at_and a b k in
    let x = bit_at-lt a k in
    let y = bit_at-lt b k in (λ h. (omega (arith, is, x, y, h), omega (arith, is, x, y, h)), λ h. let p = h.0 in let q = h.1 in omega (arith, is, p, q))

module _ (words : List WordView) (masks : List (List MotorMask)) (before : PlantPassView) where
  -- this holds of each word below one
  abbrev Below : ℕ → PlantPassView → (ℕ → Motor) → (WordView → RightView → Motor → Type 0) → Type 0
  Below word pass parts holds = (n : ℕ) (i : WordView) (w : RightView) → n < word → holds (get_or words n i) (get_or pass.rights n w) (parts n)

  -- the words below one are loaded, and these bits are of the motors that all of them permit
  pub record AreLoaded (now : PlantPassView) (bits word : ℕ) : Type 0 where
    pub looks : (k : ℕ) → k < word → OnWord words before now k HasLooked
    pub permitted : (k : ℕ) (parts : ℕ → Motor) → AreMasksOf words masks k parts → HasBit bits k ↔ Below word now parts PermitsPart
    pub lasts : (k : ℕ) (parts : ℕ → Motor) → AreMasksOf words masks k parts → HasBit bits k → Below word now parts PermitsPartLong
    pub no_other : (k : ℕ) → HasBit bits k → (n : ℕ) → n < word → (several : List MotorMask) → k < length (get_or masks n several)
    pub others : (k : ℕ) (v : RightView) → word ≤ k → get_or now.rights k v ≡ get_or before.rights k v
    pub pass : IsSamePlantPass words before now

  module _ (now later : PlantPassView) (word : ℕ) (stay : OthersStay now later word) where
    apart : (n : ℕ) → n < word → n ≢ word
    apart n low = omega (arith, low)

    next : (parts : ℕ → Motor) (holds : WordView → RightView → Motor → Type 0) → Below word now parts holds → ((i : WordView) (w : RightView) → holds (get_or words word i) (get_or later.rights word w) (parts word)) → Below (word + 1) later parts holds
    next parts holds all here n i w low =
        below_more (λ n. (i : WordView) (w : RightView) → holds (get_or words n i) (get_or later.rights n w) (parts n)) word (λ n low i w. subst (λ z. holds (get_or words n i) z (parts n)) (sym (stay n w (apart n low))) (all n i w low)) here n low i w

    back : (parts : ℕ → Motor) (holds : WordView → RightView → Motor → Type 0) → Below (word + 1) later parts holds → Below word now parts holds
    back parts holds all n i w low = subst (λ z. holds (get_or words n i) z (parts n)) (stay n w (apart n low)) (all n i w (omega (arith, low)))

    pub load_more : (bits more : ℕ) (own : List MotorMask) → word < length words → ((d : List MotorMask) → get_or masks word d ≡ own) → AreLoaded now bits word → OnWord words now later word (IsFound own more) → IsSamePlantPass words now later
        → AreLoaded later (bit_and bits more) (word + 1)
    load_more bits more own low at so found same = record {
      looks = below_more (λ k. OnWord words before later k HasLooked) word earlier last;
      permitted = λ k parts are. (
        λ h. next parts PermitsPart ((so.permitted k parts are).0 (both k h).0) (λ i w. (permits k parts are i w).0 (both k h).1),
        λ h. (both_bits bits more k).1 ((so.permitted k parts are).1 (back parts PermitsPart h), (permits k parts are some_word some_right).1 (h word some_word some_right (omega arith))),
      );
      lasts = λ k parts are h. next parts PermitsPartLong (so.lasts k parts are (both k h).0) (λ i w. (found i w w).lasts k (parts word) (mask k parts are i).0 (mask k parts are i).1 (both k h).1);
      no_other = λ k h. below_more (λ n. (several : List MotorMask) → k < length (get_or masks n several)) word (λ n low several. so.no_other k (both k h).0 n low several) (λ several. subst (λ ms. k < length ms) (sym (at several)) ((found some_word some_right some_right).no_other k (both k h).1));
      others = λ k v above. let other : k ≢ word = omega (arith, above) in stay k v other ∙ so.others k v (omega (arith, above));
      pass = record { actor = same.actor ∙ so.pass.actor; plant = same.plant };
    }
      where
        both : (k : ℕ) → HasBit (bit_and bits more) k → HasBit bits k × HasBit more k
        both k h = (both_bits bits more k).0 h

        mask : (k : ℕ) (parts : ℕ → Motor) → AreMasksOf words masks k parts → (i : WordView) → (k < length own) × IsMaskOf (plan_of (get_or words word i).rules) (parts word) (mask_at own k)
        mask k parts are i = subst (λ ms. (k < length ms) × IsMaskOf (plan_of (get_or words word i).rules) (parts word) (mask_at ms k)) (at own) (are word i own low)

        permits : (k : ℕ) (parts : ℕ → Motor) → AreMasksOf words masks k parts → (i : WordView) (w : RightView) → HasBit more k ↔ PermitsPart (get_or words word i) (get_or later.rights word w) (parts word)
        permits k parts are i w = (found i w w).permitted k (parts word) (mask k parts are i).0 (mask k parts are i).1

        some_word : WordView
        some_word = one_of words word low

        some_right : RightView
        some_right = one_of later.rights word (subst (λ n. word < n) (sym (many_rights words later.rights same.plant)) low)

        earlier : (k : ℕ) → k < word → OnWord words before later k HasLooked
        earlier k below i v w = subst (λ z. HasLooked (get_or words k i) (get_or before.rights k v) z) (sym (stay k w (apart k below))) (so.looks k below i v w)

        last : OnWord words before later word HasLooked
        last i v w = subst (λ z. HasLooked (get_or words word i) z (get_or later.rights word w)) (so.others word v (omega arith)) (found i v w).looked

  -- before any load, all bits are set
  pub none_loaded : 1 ≤ length words → ((n : ℕ) (several : List MotorMask) → n < length words → length (get_or masks n several) ≤ 64) → IsSamePlantPass words before before → AreLoaded before (2 ^ 64 - 1) 0
  none_loaded some few same = record {
    looks = λ k low. absurd (omega (arith, low));
    permitted = λ k parts are. (λ h n i w low. absurd (omega (arith, low)), λ h. let within = (are 0 (one_of words 0 (omega (arith, some))) [] (omega (arith, some))).0 in let most = few 0 [] (omega (arith, some)) in bit_at_ones 64 k (omega (arith, within, most)));
    lasts = λ k parts are h n i w low. absurd (omega (arith, low));
    no_other = λ k h n low several. absurd (omega (arith, low));
    others = λ k v above. refl;
    pass = same;
  }

  -- once each word is loaded
  pub all_loaded : (now : PlantPassView) (bits word most : ℕ) → AreLoaded now bits word → most ≡ length words → most ≤ word → word ≤ most → AreLoaded now bits (length words)
  all_loaded now bits word most so whole high low = let end : word ≡ length words = omega (arith, whole, high, low) in subst (AreLoaded now bits) end so
