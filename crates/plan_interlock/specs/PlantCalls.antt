-- Calls on the words of a plant: the clauses of calls of these words' interlocks.
use Rattle.std.specs.Prelude.{◌≡◌, ℕ, ◌<◌, List, [], Option, Some, length, slice_get}
use Rattle.plan_types.specs.declared.call.Call.{Call}
use Rattle.plan_types.specs.declared.answer.Answer.{Answer}
use Rattle.word_interlock.specs.declared.reply.Reply.{Reply}
use Rattle.word_interlock.specs.Asked.{Asked}
use Rattle.plan_interlock.specs.Book.{plan_book, plan_of}
use Rattle.plan_interlock.specs.Plant.{WordView, RightView, PlantPassView, OnWord}

-- a right's call was made as `Interlock::ask` makes it, by the book of its word's plan
abbrev pub AskedBy : Call → Reply Answer → WordView → RightView → RightView → Type 0
AskedBy call reply i v w = Asked (plan_book (plan_of i.rules)) [] v call i.tries reply w

-- so was one on each word, and its reply stands at the word's number
abbrev pub AskedOnEach : Call → List WordView → PlantPassView → PlantPassView → List (Option (Reply Answer)) → Type 0
AskedOnEach call words before after replies =
    (word : ℕ) → word < length words
    → (reply : Reply Answer) × (slice_get replies word ≡ Some (Some reply))
    × OnWord words before after word (AskedBy call reply)
