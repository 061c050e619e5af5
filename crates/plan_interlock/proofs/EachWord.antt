-- A call of each word, one after another.
use Rattle.std.proofs.Common.{◌≡◌, ◌≢◌, ℕ, ◌+◌, ◌<◌, ◌≤◌, Option, Some, List, length, get_or, set, sym, ap, ◌∙◌, subst, arith, below_more}
use Rattle.std.proofs.lemmas.List.{length-set, get_or-set_same, get_or-set_other}
use Rattle.std.proofs.lemmas.Option.{slice_get-get_or}
use Rattle.std.specs.List.{slice_get}
use Rattle.plan_types.specs.declared.call.Call.{Call}
use Rattle.plan_types.specs.declared.answer.Answer.{Answer}
use Rattle.word_interlock.specs.declared.reply.Reply.{Reply}
use Rattle.plan_interlock.specs.Plant.{WordView, RightView, PlantPassView, IsSamePlantPass, OnWord, OthersStay}
use Rattle.plan_interlock.specs.PlantCalls.{AskedBy}

get_same : {X : Type 0} (xs : List X) (i : ℕ) (x : X) → i < length xs → slice_get (set xs i x) i ≡ Some x
get_same xs i x low =
    let within : i < length (set xs i x) = subst (λ n. i < n) (sym (length-set xs i x)) low in
    slice_get-get_or (set xs i x) i x within ∙ ap Some (get_or-set_same xs i x x low)

get_other : {X : Type 0} (xs : List X) (i k : ℕ) (x : X) → k < length xs → k ≢ i → slice_get (set xs i x) k ≡ slice_get xs k
get_other xs i k x low other =
    let within : k < length (set xs i x) = subst (λ n. k < n) (sym (length-set xs i x)) low in
    slice_get-get_or (set xs i x) k x within ∙ (ap Some (get_or-set_other xs i k x x other) ∙ sym (slice_get-get_or xs k x low))

module _ (call : Call) (words : List WordView) (before : PlantPassView) where
  -- the words below one were asked, and the others weren't yet
  pub record AreAsked (now : PlantPassView) (replies : List (Option (Reply Answer))) (word : ℕ) : Type 0 where
    pub asked : (k : ℕ) → k < word → (reply : Reply Answer) × (slice_get replies k ≡ Some (Some reply)) × OnWord words before now k (AskedBy call reply)
    pub others : (k : ℕ) (v : RightView) → word ≤ k → get_or now.rights k v ≡ get_or before.rights k v
    pub pass : IsSamePlantPass words before now
    pub many : length replies ≡ 16

  pub ask_more : (now later : PlantPassView) (replies : List (Option (Reply Answer))) (word : ℕ) (reply : Reply Answer) → word < 16 → AreAsked now replies word → OnWord words now later word (AskedBy call reply) → OthersStay now later word
      → IsSamePlantPass words now later → AreAsked later (set replies word (Some reply)) (word + 1)
  ask_more now later replies word reply low so one stay same = record {
    asked = below_more (λ k. (r : Reply Answer) × (slice_get (set replies word (Some reply)) k ≡ Some (Some r)) × OnWord words before later k (AskedBy call r)) word earlier last;
    others = λ k v above. let other : k ≢ word = omega (arith, above) in stay k v other ∙ so.others k v (omega (arith, above));
    pass = record { actor = same.actor ∙ so.pass.actor; plant = same.plant };
    many = length-set replies word (Some reply) ∙ so.many;
  }
    where
      earlier : (k : ℕ) → k < word → (r : Reply Answer) × (slice_get (set replies word (Some reply)) k ≡ Some (Some r)) × OnWord words before later k (AskedBy call r)
      earlier k below =
          let it = so.asked k below in
          let many = so.many in
          let other : k ≢ word = omega (arith, below) in (
            it.0,
            get_other replies word k (Some reply) (omega (arith, many, below, low)) other ∙ it.1,
            λ i v w. subst (λ z. AskedBy call it.0 (get_or words k i) (get_or before.rights k v) z) (sym (stay k w other)) (it.2 i v w),
          )

      last : (r : Reply Answer) × (slice_get (set replies word (Some reply)) word ≡ Some (Some r)) × OnWord words before later word (AskedBy call r)
      last =
          let many = so.many in (
            reply,
            get_same replies word (Some reply) (omega (arith, many, low)),
            λ i v w. subst (λ z. AskedBy call reply (get_or words word i) z (get_or later.rights word w)) (so.others word v (omega arith)) (one i v w),
          )
