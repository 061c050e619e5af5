-- What was written where the program failed.
use Rattle.std.proofs.Common.{◌≡◌, ◌≢◌, ◌⊎◌, ◌+◌, ◌<◌, ◌≤◌, ℕ, Bool, List, take, length, codes, Option, Some, None, IfSome, inl, inr, refl, subst, arith}
use Rattle.std.proofs.lemmas.Bool.{cases_lt}
use Rattle.std.proofs.lemmas.List.{length-take}
use Rattle.text_io.specs.Output.{WrotePrefix}
use Rattle.program_shell.specs.Exits.{exit_status}
use Rattle.program_shell.specs.Printed.{Prints}
use Rattle.program_shell.specs.declared.exit.Exit.{Exit}
use Rattle.program_shell.specs.declared.exit.Exit.TheVariants.{Well, Failed, Refused}
use Rattle.program_shell.proofs.lemmas.Prefixes.{whole_prefix}
use Rattle.program_shell.proofs.lemmas.Serving.{if_known}
use Rattle.plan_rules.specs.declared.state.State.{State}
use Rattle.plan_document.specs.declared.resolving.ProgrammedPlan.{ProgrammedPlan}
use Rattle.plan_app.specs.Apart.{TellsExploration, told_of}
use Rattle.plan_app.specs.Asked.{IsAsked, IsNoPlan}
use Rattle.plan_app.specs.declared.asking.NoPlan.{NoPlan}
use Rattle.plan_app.specs.declared.asking.NoPlan.TheVariants.{OfDocument, OfWord}
use Rattle.plan_app.specs.Failed.{Fails, FailsBy, FailsIn, FailsOfBytes, FailsTogether, FailsWords, FailsWordsIn, WroteExploration, WroteFault, WroteNoPlan, WroteUnread, wrote_of}
use Rattle.plan_app.specs.Input.{byte_limit, document_in, script_in}
use Rattle.plan_app.specs.declared.request.PlantRequest.{PlantRequest}
use Rattle.plan_app.specs.declared.request.Request.{Request}
use Rattle.plan_app.specs.declared.request.Together.{Together}

-- however a print ended, a prefix was written
pub printed_prefix : (e : Exit) (old new : Option (List ℕ)) (text : List ℕ) → e ≢ Refused → Prints (exit_status e) old new text → WrotePrefix old new text
printed_prefix Well old new text other prints = whole_prefix old new text (prints.well refl)
printed_prefix Failed old new text other prints = prints.failed refl
printed_prefix Refused old new text other prints = absurd (other refl)

-- more bytes were read than `most`, so the input has more
long : (most : ℕ) (read bytes : List ℕ) → read ≡ take (most + 1) bytes → most < length read → most < length bytes
long most read bytes is many =
    let count : most < length (take (most + 1) bytes) = rw (← is) many in
    omega (arith, count, length-take (most + 1) bytes)

pub long_if : (most : ℕ) (read : List ℕ) (input : Option (List ℕ)) → IfSome input (λ bytes. read ≡ take (most + 1) bytes)
    → most < length read → IfSome input (λ bytes. most < length bytes)
long_if most read None is many = is
long_if most read (Some bytes) is many = long most read bytes is many

-- what was read is the input, or there is more of it
whole_input : (P : List ℕ → Type 0) (read : List ℕ) (input : Option (List ℕ)) → (length read ≤ byte_limit → IfSome input (λ bytes. read ≡ bytes))
    → (byte_limit < length read → IfSome input (λ bytes. byte_limit < length bytes))
    → (byte_limit < length read → (bytes : List ℕ) → byte_limit < length bytes → P bytes) → P read → IfSome input P
whole_input P read None same more long fails = tt
whole_input P read (Some bytes) same more long fails =
    elim (cases_lt byte_limit (length read)) [
      | inl many ↦ long many bytes (more many)
      | inr few ↦ subst P (same few) fails
    ]

pub fails_whole : (word : Option ℕ) (request : Request) (read : List ℕ) (input old new : Option (List ℕ))
    → (length read ≤ byte_limit → IfSome input (λ bytes. read ≡ bytes))
    → (byte_limit < length read → IfSome input (λ bytes. byte_limit < length bytes))
    → (byte_limit < length read → WroteFault (codes "long") old new)
    → FailsIn word request read old new → Fails word request input old new
fails_whole word request read input old new same more long =
    whole_input (λ bytes. FailsIn word request bytes old new) read input same more (λ many bytes larger. inl (larger, long many))

pub unread_fails : (word : Option ℕ) (request : Request) (input old new : Option (List ℕ)) → WroteUnread old new → Fails word request input old new
unread_fails word request input old new unread = if_known (λ bytes. FailsIn word request bytes old new) input (λ bytes. inr (inl unread))

-- the same of the words of a plant, and of all of them together
pub words_whole : (request : PlantRequest) (read : List ℕ) (input old new : Option (List ℕ))
    → (length read ≤ byte_limit → IfSome input (λ bytes. read ≡ bytes))
    → (byte_limit < length read → IfSome input (λ bytes. byte_limit < length bytes))
    → (byte_limit < length read → WroteFault (codes "long") old new)
    → FailsWordsIn request read old new → FailsWords request input old new
words_whole request read input old new same more long =
    whole_input (λ bytes. FailsWordsIn request bytes old new) read input same more (λ many bytes larger. inl (larger, long many))

pub unread_words : (request : PlantRequest) (input old new : Option (List ℕ)) → WroteUnread old new → FailsWords request input old new
unread_words request input old new unread = if_known (λ bytes. FailsWordsIn request bytes old new) input (λ bytes. inr (inl unread))

pub together_whole : (task : Together) (read : List ℕ) (input old new : Option (List ℕ))
    → (length read ≤ byte_limit → IfSome input (λ bytes. read ≡ bytes))
    → (byte_limit < length read → IfSome input (λ bytes. byte_limit < length bytes))
    → (byte_limit < length read → WroteFault (codes "long") old new)
    → FailsOfBytes (wrote_of task) read old new → FailsTogether task input old new
together_whole task read input old new same more long =
    whole_input (λ bytes. FailsOfBytes (wrote_of task) bytes old new) read input same more (λ many bytes larger. inl (larger, long many))

pub unread_together : (task : Together) (input old new : Option (List ℕ)) → WroteUnread old new → FailsTogether task input old new
unread_together task input old new unread = if_known (λ bytes. FailsOfBytes (wrote_of task) bytes old new) input (λ bytes. inr (inl unread))

-- there is the plan that is asked for
pub by_plan : (word : Option ℕ) (request : Request) (bytes : List ℕ) (plan : ProgrammedPlan) (old new : Option (List ℕ)) → IsAsked word (document_in bytes) plan
    → WroteUnread old new ⊎ FailsBy request plan (script_in bytes) old new → FailsIn word request bytes old new
by_plan word request bytes plan old new is (inl unread) = inr (inl unread)
by_plan word request bytes plan old new is (inr fails) = inr (inr (inr (inr (plan, is, fails))))

-- or there is none
pub by_fault : (word : Option ℕ) (request : Request) (bytes : List ℕ) (fault : NoPlan) (old new : Option (List ℕ))
    → IsNoPlan word (document_in bytes) fault → WroteUnread old new ⊎ WroteNoPlan fault old new → FailsIn word request bytes old new
by_fault word request bytes fault old new none (inl unread) = inr (inl unread)
by_fault word request bytes (OfDocument of) old new none (inr wrote) = inr (inr (inl wrote))
by_fault word request bytes (OfWord number count) old new none (inr wrote) =
    inr (inr (inr (inl (number, count, none.0, none.1, wrote))))

-- what was found was written, whether all is well or not
pub exploration_written : (plan : ProgrammedPlan) (opening : State) (well : Bool) (text : List ℕ) (old new : Option (List ℕ))
    → TellsExploration (told_of plan.named plan.programs opening) well text → WrotePrefix old new text
    → WroteExploration plan opening old new
exploration_written plan opening well text old new tells wrote = (well, text, tells, wrote)
