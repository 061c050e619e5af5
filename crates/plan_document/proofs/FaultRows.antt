-- What literal words and lines name.
use Rattle.std.proofs.Common.{◌≡◌, ◌∙◌, ◌+◌, ◌<◌, ◌++◌, [], true, List, codes, length, map, nat_eq, slice_index, Some, inl, inr, refl, sym, ap, subst, arith, length-append}
use Rattle.std.proofs.lemmas.List.{append_cancel_left}
use Rattle.std.specs.List.{list_any}
use Rattle.std.specs.Str.{bytes_eq}
use Rattle.plan_types.specs.declared.answer.Refusal.{Refusal}
use Rattle.plan_types.specs.declared.answer.Refusal.TheVariants as refusal
use Rattle.plan_controller.specs.declared.faults.Faults.{Faults}
use Rattle.plan_controller.specs.declared.faults.Mendable.{Mendable}
use Rattle.plan_controller.specs.declared.faults.Mendable.TheVariants.{Held, Shut, NotOwner, PlateInZone, NoPlate}
use Rattle.plan_controller.specs.declared.faults.Mendable.TheVariants.{PlaceFull, WrongWay, Stopped}
use Rattle.plan_controller.specs.Faults.{all_mendable, has, mendable, no_faults}
use Rattle.plan_controller.proofs.lemmas.Kinds.{by_all, same_faults}
use Rattle.plan_text.specs.Answers.{owner_word, posture_word, refusal_text}
use Rattle.plan_text.specs.Named.{Named}
use Rattle.plan_text.specs.Names.{Text, name_in}
use Rattle.plan_document.specs.FaultExamples.{FaultWords, FaultsAreMet, FaultsAreNamed, FaultsAreSaid}
use Rattle.plan_document.specs.Refusals.{AreFaults, fault_word}
use Rattle.plan_document.specs.Saying.{HasFaults, words_in}
use Rattle.plan_document.proofs.PlanRows.{impossible}
use Rattle.plan_document.proofs.Standing.{same_number}

-- ---- words

same_kind : (a b : Mendable) → Some a ≡ Some b → a ≡ b
same_kind a b e = cc

begins_so : (n : Named) (r : Refusal) (own fault : Mendable) (rest : Text) → mendable r ≡ Some own → mendable r ≡ Some fault → refusal_text n r ≡ fault_word own ++ rest
    → (rest : Text) × (refusal_text n r ≡ fault_word fault ++ rest)
begins_so n r own fault rest is also text = (rest, text ∙ ap (λ k. fault_word k ++ rest) (same_kind own fault (sym is ∙ also)))

answers : (n : Named) (r : Refusal) (fault : Mendable) → mendable r ≡ Some fault → (rest : Text) × (refusal_text n r ≡ fault_word fault ++ rest)
answers n (refusal.Held machine) fault e = begins_so n (refusal.Held machine) Held fault (codes " " ++ name_in n.machines machine) refl e refl
answers n (refusal.Shut posture) fault e = begins_so n (refusal.Shut posture) Shut fault (codes " " ++ posture_word posture) refl e refl
answers n (refusal.NotOwner owner) fault e = begins_so n (refusal.NotOwner owner) NotOwner fault (codes " " ++ owner_word n owner) refl e refl
answers n (refusal.PlateInZone zone) fault e = begins_so n (refusal.PlateInZone zone) PlateInZone fault (codes " " ++ name_in n.zones zone) refl e refl
answers n refusal.NoPlate fault e = begins_so n refusal.NoPlate NoPlate fault [] refl e refl
answers n refusal.PlaceFull fault e = begins_so n refusal.PlaceFull PlaceFull fault [] refl e refl
answers n refusal.WrongWay fault e = begins_so n refusal.WrongWay WrongWay fault [] refl e refl
answers n refusal.Stopped fault e = begins_so n refusal.Stopped Stopped fault [] refl e refl
answers n refusal.NotParty fault e = absurd (cc)
answers n refusal.AlreadyMine fault e = absurd (cc)
answers n refusal.Jump fault e = absurd (cc)
answers n refusal.NoPose fault e = absurd (cc)
answers n refusal.Worn fault e = absurd (cc)
answers n refusal.NotStopped fault e = absurd (cc)

word_rows : FaultWords
word_rows = record { words = refl; read = refl; unknown = refl; always = refl; answers = answers }

-- ---- faults

-- those that words name
named : (words : List Text) (f g : Faults) → map (λ fault. list_any (λ word. bytes_eq word (fault_word fault)) words) all_mendable ≡ map (has g) all_mendable → AreFaults words f → f ≡ g
named words f g e are =
    same_faults f g (λ fault. are.named fault ∙ by_all (λ other. list_any (λ word. bytes_eq word (fault_word other)) words) (has g) e fault)

named_rows : (f : Faults) → FaultsAreNamed f
named_rows f = record {
  held = named _ f _ refl;
  shut = named _ f _ refl;
  not_owner = named _ f _ refl;
  plate_in_zone = named _ f _ refl;
  no_plate = named _ f _ refl;
  place_full = named _ f _ refl;
  wrong_way = named _ f _ refl;
  stopped = named _ f _ refl;
  three = named _ f _ refl;
  unknown = λ are. impossible are.known;
  always = λ are. impossible are.known;
  twice = λ are. let e = same_number 0 2 (are.once 2 (omega arith)) in absurd (omega (arith, e));
  two_blanks = λ are. impossible are.known;
  no_word = λ are. impossible are.known;
}

-- ---- after a call

-- the words after a call
after_call : (ask rest words : Text) → ask ++ codes " or stop on " ++ rest ≡ ask ++ codes " or stop on " ++ words → rest ≡ words
after_call ask rest words e =
    append_cancel_left (ask ++ codes " or stop on ") rest words e

longer : (line ask : Text) → length ask < length line → line ≡ ask → ⊥
longer line ask more e = omega (arith, more, ap length e)

long_enough : (line ask words : Text) → line ≡ ask ++ codes " or stop on " ++ words → length ask + 12 < length line + 1
long_enough line ask words e =
    omega (arith, ap length e, length-append (ask ++ codes " or stop on ") words, length-append ask (codes " or stop on "))

said_rows : (f : Faults) → FaultsAreSaid f
said_rows f = record { bare = bare; named = two; none = none; blank = blank; other_words = other_words }
  where
    bare : HasFaults (codes "give above") (codes "give above") f → f ≡ no_faults
    bare (inl one) = one.1
    bare (inr one) = absurd (let more = long_enough (codes "give above") (codes "give above") one.0 one.1 in omega (arith, more))

    two : HasFaults (codes "give above or stop on shut held") (codes "give above") f → f ≡ record no_faults { held = true; shut = true }
    two (inl one) = absurd (longer (codes "give above or stop on shut held") (codes "give above") (omega arith) one.0)
    two (inr one) =
        named (words_in (codes "shut held")) f _ refl
        (subst (λ t. AreFaults (words_in t) f) (sym (after_call (codes "give above") (codes "shut held") one.0 one.1)) one.2)

    none : HasFaults (codes "give above or stop on") (codes "give above") f → ⊥
    none (inl one) = longer (codes "give above or stop on") (codes "give above") (omega arith) one.0
    none (inr one) = let more = long_enough (codes "give above or stop on") (codes "give above") one.0 one.1 in omega (arith, more)

    blank : HasFaults (codes "give above or stop on ") (codes "give above") f → ⊥
    blank (inl one) = longer (codes "give above or stop on ") (codes "give above") (omega arith) one.0
    blank (inr one) =
        let no = after_call (codes "give above") [] one.0 one.1 in
        impossible (subst (λ t. AreFaults (words_in t) f) (sym no) one.2).known

    other_words : HasFaults (codes "give above or stops on held") (codes "give above") f → ⊥
    other_words (inl one) = longer (codes "give above or stops on held") (codes "give above") (omega arith) one.0
    other_words (inr one) = impossible (sym (ap (λ (t : Text). nat_eq (slice_index t 18) 115) one.1))

pub fault_rows : FaultsAreMet
fault_rows = record { words = word_rows; named = named_rows; said = said_rows }
