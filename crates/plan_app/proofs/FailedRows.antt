-- The examples of `fault_lines_are_met`, and the law `failed_is_meant`.
use Rattle.std.proofs.Common.{◌≡◌, ◌∙◌, ◌<◌, ◌++◌, ◌+◌, ℕ, zero, suc, Bool, true, false, ◌&&◌, nat_eq, List, [], ◌∷◌, get_or, take, length, length-append, codes, Option, Some, None, Ok, IsTrue, inl, inr, refl, sym, ap, subst, arith}
use Rattle.std.proofs.lemmas.List.{get_or-take, length-take}
use Rattle.std.specs.Fmt.{digits}
use Rattle.std.specs.List.{starts_with}
use Rattle.csv_rows.specs.ScriptEnd.{fault_text}
use Rattle.csv_rows.specs.declared.script_end.ScriptFault.{ScriptFault}
use Rattle.csv_rows.specs.declared.script_end.ScriptFault.TheVariants.{NoStart, BadStart, BadRow, Long}
use Rattle.text_io.specs.Output.{WrotePrefix}
use Rattle.program_shell.specs.Faults.{fault_line}
use Rattle.plan_rules.specs.declared.state.State.{State}
use Rattle.plan_explorer.specs.Programs.{PlanPrograms}
use Rattle.plan_text.specs.Named.{Named}
use Rattle.plan_text.specs.Names.{Text}
use Rattle.plan_text.specs.Script.{script_start}
use Rattle.plan_document.specs.Plants.{IsPlantIn}
use Rattle.plan_document.specs.declared.plants.ProgrammedPlant.{ProgrammedPlant}
use Rattle.plan_document.specs.declared.resolving.ProgrammedPlan.{ProgrammedPlan}
use Rattle.plan_app.specs.Asked.{IsAsked, no_word_text}
use Rattle.plan_app.specs.Apart.{TellsBy, TellsLarge, TellsNext, TellsPart, TellsParts, Telling, is_first, some_are_apart, told_of}
use Rattle.plan_app.specs.Failed.{Fails, FailsBy, FailsExploreWords, FailsRunWords, FailsWords, IsOfDocument, WroteEnd, WroteExploration, WroteFault, WroteNoWord, WrotePage, WrotePageText, WroteFromScript, WrotePlantFrom, WrotePlantRun, WrotePlantRunText, WrotePlantText, WroteWords}
use Rattle.plan_app.specs.PlantStarts.{plant_start}
use Rattle.plan_app.specs.Going.{going_text}
use Rattle.plan_app.specs.FailedExamples.{AreNoFault, FailedIsMeant, FaultLines, NumbersAreRefused}
use Rattle.plan_app.specs.Input.{document_in, script_in}
use Rattle.plan_app.specs.Screens.{ByAnswers, TellsScreenBy}
use Rattle.plan_app.specs.Starving.{any_starves}
use Rattle.plan_app.specs.declared.request.PlantRequest.{PlantRequest}
use Rattle.plan_app.specs.declared.request.Request.{Request}
use Rattle.plan_app.specs.declared.request.Request.TheVariants.{Explore}

-- a prefix has the bytes of its text
byte_at : (new text : Text) (k : ℕ) → WrotePrefix (Some []) (Some new) text → k < length new → get_or new k 0 ≡ get_or text k 0
byte_at new text k (n, is) within =
    let same : length new ≡ length (take n text) = ap (λ l. length l) is in
    ap (λ l. get_or l k 0) is ∙ get_or-take n text k 0 (omega (arith, within, same, length-take n text))

-- a line of a fault begins with `f`
begins : (words new : Text) → AreNoFault new → WroteFault words (Some []) (Some new) → ⊥
begins words new none wrote =
    let count = ap (λ l. length l) none.are in
    let first : get_or new 0 0 ≡ none.first = ap (λ l. get_or l 0 0) none.are in
    none.other (sym first ∙ byte_at new (fault_line words) 0 wrote (omega (arith, count)))

asked : (word : Option ℕ) (request : Request) (bytes new : Text) → AreNoFault new → Fails word request (Some bytes) (Some []) (Some new)
    → (plan : ProgrammedPlan) × IsAsked word (document_in bytes) plan × FailsBy request plan (script_in bytes) (Some []) (Some new)
asked word request bytes new none (inl wrote) = absurd (begins (codes "long") new none wrote.1)
asked word request bytes new none (inr (inl (inl wrote))) = absurd (begins (codes "read") new none wrote)
asked word request bytes new none (inr (inl (inr wrote))) = absurd (begins (codes "memory") new none wrote)
asked word request bytes new none (inr (inr (inl (words, of, wrote)))) = absurd (begins words new none wrote)
asked word request bytes new none (inr (inr (inr (inl (number, count, is, has, wrote))))) = absurd (begins (no_word_text number count) new none wrote)
asked word request bytes new none (inr (inr (inr (inr fails)))) = fails

of_words : (request : PlantRequest) (bytes new : Text) → AreNoFault new → FailsWords request (Some bytes) (Some []) (Some new)
    → WroteWords request (document_in bytes) (Some []) (Some new)
of_words request bytes new none (inl wrote) = absurd (begins (codes "long") new none wrote.1)
of_words request bytes new none (inr (inl (inl wrote))) = absurd (begins (codes "read") new none wrote)
of_words request bytes new none (inr (inl (inr wrote))) = absurd (begins (codes "memory") new none wrote)
of_words request bytes new none (inr (inr (inl (words, of, wrote)))) = absurd (begins words new none wrote)
of_words request bytes new none (inr (inr (inr wrote))) = wrote

by_start : (most : ℕ) (plant : ProgrammedPlant) (script new : Text) → AreNoFault new → WroteFromScript (WrotePlantFrom most) plant script (Some []) (Some new)
    → (openings : List State) × (plant_start plant script ≡ Ok openings) × WrotePlantText plant openings (Some []) (Some new)
by_start most plant script new none (inl (fault, is, wrote)) = absurd (begins (fault_text fault) new none wrote)
by_start most plant script new none (inr (openings, is, inl (words, tells, wrote))) = absurd (begins words new none wrote)
by_start most plant script new none (inr (openings, is, inr wrote)) = (openings, is, wrote)

words_explored : (most : ℕ) (bytes new : Text) → AreNoFault new → FailsExploreWords most (Some bytes) (Some []) (Some new)
    → (plant : ProgrammedPlant) × IsPlantIn (document_in bytes) plant × (openings : List State)
    × (plant_start plant (script_in bytes) ≡ Ok openings) × WrotePlantText plant openings (Some []) (Some new)
words_explored most bytes new none (inl wrote) = absurd (begins (codes "long") new none wrote.1)
words_explored most bytes new none (inr (inl (inl wrote))) = absurd (begins (codes "read") new none wrote)
words_explored most bytes new none (inr (inl (inr wrote))) = absurd (begins (codes "memory") new none wrote)
words_explored most bytes new none (inr (inr (inl (words, of, wrote)))) = absurd (begins words new none wrote)
words_explored most bytes new none (inr (inr (inr (plant, is, wrote)))) =
    let (openings, begun, told) = by_start most plant (script_in bytes) new none wrote in
    (plant, is, openings, begun, told)

by_run : (turns : ℕ) (plant : ProgrammedPlant) (script new : Text) → AreNoFault new → WroteFromScript (WrotePlantRun turns) plant script (Some []) (Some new)
    → (openings : List State) × (plant_start plant script ≡ Ok openings) × WrotePlantRunText turns plant openings (Some []) (Some new)
by_run turns plant script new none (inl (fault, is, wrote)) = absurd (begins (fault_text fault) new none wrote)
by_run turns plant script new none (inr (openings, is, inl (inl (long, wrote)))) = absurd (begins (codes "long") new none wrote)
by_run turns plant script new none (inr (openings, is, inl (inr (inl (audit, wrote))))) = absurd (begins (codes "audit") new none wrote)
by_run turns plant script new none (inr (openings, is, inl (inr (inr (no_plant, wrote))))) = absurd (begins (codes "words") new none wrote)
by_run turns plant script new none (inr (openings, is, inr wrote)) = (openings, is, wrote)

words_run : (turns : ℕ) (bytes new : Text) → AreNoFault new → FailsRunWords turns (Some bytes) (Some []) (Some new)
    → (plant : ProgrammedPlant) × IsPlantIn (document_in bytes) plant × (openings : List State)
    × (plant_start plant (script_in bytes) ≡ Ok openings) × WrotePlantRunText turns plant openings (Some []) (Some new)
words_run turns bytes new none (inl wrote) = absurd (begins (codes "long") new none wrote.1)
words_run turns bytes new none (inr (inl (inl wrote))) = absurd (begins (codes "read") new none wrote)
words_run turns bytes new none (inr (inl (inr wrote))) = absurd (begins (codes "memory") new none wrote)
words_run turns bytes new none (inr (inr (inl (words, of, wrote)))) = absurd (begins words new none wrote)
words_run turns bytes new none (inr (inr (inr (plant, is, wrote)))) =
    let (openings, begun, told) = by_run turns plant (script_in bytes) new none wrote in
    (plant, is, openings, begun, told)

no_number : (document old new : Text) → ¬ WroteNoWord None document (Some old) (Some new)
no_number document old new (number, count, is, has, wrote) = cc

explored : (most : ℕ) (plan : ProgrammedPlan) (script new : Text) → AreNoFault new → WroteEnd most plan script (Some []) (Some new)
    → (opening : State) × (script_start plan.named script ≡ Ok opening) × WroteExploration plan opening (Some []) (Some new)
explored most plan script new none (inl (fault, is, wrote)) = absurd (begins (fault_text fault) new none wrote)
explored most plan script new none (inr (opening, is, inl (words, tells, wrote))) = absurd (begins words new none wrote)
explored most plan script new none (inr (opening, is, inr wrote)) = (opening, is, wrote)

paged : (most : ℕ) (plan : ProgrammedPlan) (script new : Text) → AreNoFault new → WrotePage most plan script (Some []) (Some new)
    → (opening : State) × (script_start plan.named script ≡ Ok opening) × WrotePageText plan opening (Some []) (Some new)
paged most plan script new none (inl (fault, is, wrote)) = absurd (begins (fault_text fault) new none wrote)
paged most plan script new none (inr (opening, is, inl (words, tells, wrote))) = absurd (begins words new none wrote)
paged most plan script new none (inr (opening, is, inr (inl wrote))) = absurd (begins (codes "long") new none wrote.1)
paged most plan script new none (inr (opening, is, inr (inr wrote))) = (opening, is, wrote)

-- ---- `fault large: `

abbrev large : Text → Text
large rest = codes "fault large: " ++ rest

within : (k : ℕ) (rest : Text) → k < 13 → k < length (large rest)
within k rest few =
    let e : length (large rest) ≡ 13 + length rest = length-append (codes "fault large: ") rest in omega (arith, few, e)

-- its first byte is `f`, that at 6 is `l`, and that at 7 is `a`
zeroth : (rest text : Text) → WrotePrefix (Some []) (Some (large rest)) text → 102 ≡ get_or text 0 0
zeroth rest text wrote = byte_at (large rest) text 0 wrote (within 0 rest (omega arith))

sixth : (rest text : Text) → WrotePrefix (Some []) (Some (large rest)) text → 108 ≡ get_or text 6 0
sixth rest text wrote = byte_at (large rest) text 6 wrote (within 6 rest (omega arith))

seventh : (rest text : Text) → WrotePrefix (Some []) (Some (large rest)) text → 97 ≡ get_or text 7 0
seventh rest text wrote = byte_at (large rest) text 7 wrote (within 7 rest (omega arith))

both : (a b : Bool) → IsTrue (a && b) → IsTrue a
both true b k = refl
both false b k = k

of_document : (rest words : Text) → IsOfDocument words → WroteFault words (Some []) (Some (large rest)) → ⊥
of_document rest [] of wrote = let lie : false ≡ true = of in cc
of_document rest (w ∷ ws) of wrote =
    let is : IsTrue (nat_eq 112 w) = both (nat_eq 112 w) (starts_with nat_eq ws (codes "lan ")) of in
    let e : 108 ≡ w = sixth rest (fault_line (w ∷ ws)) wrote in
    let lie : false ≡ true = subst (λ b. IsTrue (nat_eq 112 b)) (sym e) is in cc

of_start : (rest : Text) (fault : ScriptFault) → WroteFault (fault_text fault) (Some []) (Some (large rest)) → ⊥
of_start rest NoStart wrote = let e : 108 ≡ 110 = sixth rest (fault_line (fault_text NoStart)) wrote in omega (arith, e)
of_start rest BadStart wrote = let e : 108 ≡ 98 = sixth rest (fault_line (fault_text BadStart)) wrote in omega (arith, e)
of_start rest (BadRow number) wrote = let e : 108 ≡ 98 = sixth rest (fault_line (fault_text (BadRow number))) wrote in omega (arith, e)
of_start rest Long wrote = let e : 97 ≡ 111 = seventh rest (fault_line (fault_text Long)) wrote in omega (arith, e)

-- what is found begins otherwise, or is nothing
of_screen : (n : Named) (ps : PlanPrograms) (s : State) (starves : ByAnswers Bool) (going : ByAnswers Text) (well : Bool)
    (text : Text) → TellsScreenBy n ps s starves going well text → 102 ≡ get_or text 0 0 → ⊥
of_screen n ps s starves going true text tells first =
    let e : 102 ≡ 110 = first ∙ ap (λ l. get_or l 0 0) tells.told in omega (arith, e)
of_screen n ps s starves going false text (inl tells) first =
    let e : 102 ≡ 97 = first ∙ ap (λ l. get_or l 0 0) tells.told in omega (arith, e)
of_screen n ps s starves going false text (inr tells) first =
    let e : 102 ≡ 110 = first ∙ ap (λ l. get_or l 0 0) tells.told in omega (arith, e)

of_both : (xs ys : Text) → (102 ≡ get_or xs 0 0 → ⊥) → (102 ≡ get_or ys 0 0 → ⊥) → 102 ≡ get_or (xs ++ ys) 0 0 → ⊥
of_both [] ys one two first = two first
of_both (x ∷ xs) ys one two first = one first

of_parts : (v : Telling) (groups : List ℕ) (count : ℕ) (well : Bool) (text : Text) → TellsParts v groups count well text
    → 102 ≡ get_or text 0 0 → ⊥
of_parts v groups zero well text told first =
    let e : 102 ≡ 0 = first ∙ ap (λ l. get_or l 0 0) told.1 in omega (arith, e)
of_parts v groups (suc m) well text told first = by (is_first groups m) (of_parts v groups m) told
  where
    by : (b : Bool) → ((w : Bool) (t : Text) → TellsParts v groups m w t → 102 ≡ get_or t 0 0 → ⊥)
        → TellsNext b (TellsParts v groups m) (TellsPart v groups m) well text → ⊥
    by true earlier (early, late, before, after, all, part, together, is) =
        of_both before after (earlier early before all)
        (λ at. let e : 102 ≡ 97 = at ∙ ap (λ l. get_or l 0 0) part.2 in omega (arith, e))
        (first ∙ ap (λ l. get_or l 0 0) is)
    by false earlier all = earlier well text all first

of_found : (b : Bool) (n : Named) (ps : PlanPrograms) (s : State) (groups : List ℕ) (well : Bool) (text : Text)
    → TellsBy b (told_of n ps s) groups well text → 102 ≡ get_or text 0 0 → ⊥
of_found true n ps s groups well text tells first = of_parts (told_of n ps s) groups (length ps) well text tells first
of_found false n ps s groups well text tells first =
    of_screen n ps s (any_starves n) (going_text n ps s) well text tells first

abbrev IsTold : ℕ → ProgrammedPlan → Text → Text → Type 0
IsTold most plan script rest =
    (opening : State) × (script_start plan.named script ≡ Ok opening)
    × (words : Text) × TellsLarge most (told_of plan.named plan.programs opening) words × WroteFault words (Some []) (Some (large rest))

large_by : (most : ℕ) (plan : ProgrammedPlan) (script rest : Text) → WroteEnd most plan script (Some []) (Some (large rest)) → IsTold most plan script rest
large_by most plan script rest (inl (fault, is, wrote)) = absurd (of_start rest fault wrote)
large_by most plan script rest (inr (opening, is, inl (words, tells, wrote))) = (opening, is, words, tells, wrote)
large_by most plan script rest (inr (opening, is, inr (well, text, tells, wrote))) =
    absurd
    (of_found (some_are_apart tells.groups plan.programs) plan.named plan.programs opening tells.groups well text tells.told
    (zeroth rest text wrote))

is_large : (word : Option ℕ) (most : ℕ) (bytes rest : Text) → Fails word (Explore most) (Some bytes) (Some []) (Some (large rest))
    → (plan : ProgrammedPlan) × IsAsked word (document_in bytes) plan × (opening : State)
    × (script_start plan.named (script_in bytes) ≡ Ok opening) × (words : Text)
    × TellsLarge most (told_of plan.named plan.programs opening) words × WroteFault words (Some []) (Some (large rest))
is_large word most bytes rest (inl wrote) = let e : 97 ≡ 111 = seventh rest (fault_line (codes "long")) wrote.1 in absurd (omega (arith, e))
is_large word most bytes rest (inr (inl (inl wrote))) = let e : 108 ≡ 114 = sixth rest (fault_line (codes "read")) wrote in absurd (omega (arith, e))
is_large word most bytes rest (inr (inl (inr wrote))) = let e : 108 ≡ 109 = sixth rest (fault_line (codes "memory")) wrote in absurd (omega (arith, e))
is_large word most bytes rest (inr (inr (inl (words, of, wrote)))) = absurd (of_document rest words of wrote)
is_large word most bytes rest (inr (inr (inr (inl (number, count, is, has, wrote))))) =
    let e : 108 ≡ 112 = sixth rest (fault_line (no_word_text number count)) wrote in absurd (omega (arith, e))
is_large word most bytes rest (inr (inr (inr (inr (plan, is, fails))))) =
    let (opening, begun, words, tells, wrote) = large_by most plan (script_in bytes) rest fails in
    (plan, is, opening, begun, words, tells, wrote)

pub failed-meant : FailedIsMeant
failed-meant = record {
  asked = asked;
  explored = explored;
  paged = paged;
  large = is_large;
  words = of_words;
  words_explored = words_explored;
  words_run = words_run;
  no_number = no_number;
}

pub numbers-refused : NumbersAreRefused
unfolding digits
numbers-refused = record { four = refl; two = refl; one = refl; of_document = refl }

pub fault-lines : FaultLines
fault-lines = record {
  whole = (12, refl);
  in_part = (8, refl);
  nothing = (0, refl);
  after = (11, refl);
  other = λ wrote.
      let few : 7 < 11 = omega arith in
      let e : 111 ≡ 97 = byte_at (codes "fault long\n") (fault_line (codes "large")) 7 wrote few in omega (arith, e);
  bare = λ wrote.
      let few : 0 < 6 = omega arith in
      let e : 108 ≡ 102 = byte_at (codes "large\n") (fault_line (codes "large")) 0 wrote few in omega (arith, e);
  twice = λ wrote.
      let few : 11 < 22 = omega arith in
      let e : 102 ≡ 0 = byte_at (codes "fault read\nfault read\n") (fault_line (codes "read")) 11 wrote few in omega (arith, e);
  of_document = refl;
  of_input = λ of. let lie : false ≡ true = of in cc;
  of_start = λ of. let lie : false ≡ true = of in cc;
  of_size = λ of. let lie : false ≡ true = of in cc;
  of_planning = λ of. let lie : false ≡ true = of in cc;
  of_nothing = λ of. let lie : false ≡ true = of in cc;
}
