-- On each word of a plant its own history is legal, however the calls of the words alternate.
use Rattle.std.specs.Prelude.{ℕ, ◌<◌, List, All, length, slice_index_or}
use Rattle.plan_types.specs.declared.call.Call.{Call}
use Rattle.plan_types.specs.declared.answer.Answer.{Answer}
use Rattle.word_interlock.specs.declared.reply.Reply.{Reply}
use Rattle.word_interlock.specs.History.{IsLawful}
use Rattle.plan_interlock.specs.Book.{plan_book, plan_of}
use Rattle.plan_interlock.specs.Plant.{WordView, RightView, PlantPassView, OnWord, OthersStay}
use Rattle.plan_interlock.specs.PlantCalls.{AskedBy}
use Rattle.plan_interlock.specs.PlantMake.{new_pass}

-- what a pass has seen on each word is a legal history by that word's plan, from a sound opening
abbrev pub IsLawfulOnEach : List WordView → PlantPassView → Type 0
IsLawfulOnEach words pass =
    (n : ℕ) (i : WordView) (v : RightView) → n < length words
    → IsLawful (plan_book (plan_of (slice_index_or words n i).rules)) (slice_index_or pass.rights n v).opening
    (slice_index_or pass.rights n v).seen

-- a pass has made a call on one of the words
pub record HasAsked (words : List WordView) (before after : PlantPassView) : Type 0 where
  pub word : ℕ
  pub call : Call
  pub reply : Reply Answer
  pub asked : OnWord words before after word (AskedBy call reply)
  pub others : OthersStay before after word

-- so it is of a new pass, and after each of its calls, on whichever word
pub record WordsStayLawful : Type 0 where
  pub at_first : (words : List WordView) (m : ℕ)
      → All (λ i. (plan_book (plan_of i.rules)).is_sound i.opening) words → IsLawfulOnEach words (new_pass words m)
  pub stays : (words : List WordView) (before after : PlantPassView) → IsLawfulOnEach words before
      → HasAsked words before after → IsLawfulOnEach words after
