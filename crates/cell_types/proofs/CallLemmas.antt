-- Verbs distinguish the calls that name a zone.
use Rattle.std.proofs.Common.{ℕ, ◌≡◌, List, [], ◌∷◌, Some, refl, sym, ◌∙◌, ap, ◌↔◌, codes}
use Rattle.std.specs.Str.{bytes_eq}
use Rattle.cell_types.specs.declared.zone.Zone.{Zone}
use Rattle.cell_types.specs.declared.call.Call.{Call}
use Rattle.cell_types.specs.declared.call.Call.TheVariants.{Claim, Give, Yield, Take, Release, SetPose, Advance, Inquire, Stop, Resume}
use Rattle.cell_types.specs.CallWords.{call_fields, verb_of}
use Rattle.cell_types.specs.Words.{named, zone_word}
use Rattle.cell_types.proofs.WordLemmas.{has_word, holds_of_found, same_zone}

-- the calls that name this zone
abbrev pub zone_calls : Zone → List Call
zone_calls z = Claim z ∷ Give z ∷ Yield z ∷ Take z ∷ Release z ∷ Inquire z ∷ []

told : (zone : Zone) (verb : List ℕ) (call : Call) → named verb_of (zone_calls zone) verb ≡ Some call → verb ∷ zone_word zone ∷ [] ≡ call_fields call
told zone verb call e =
    let fields : call_fields call ≡ verb_of call ∷ zone_word zone ∷ [] =
    holds_of_found (λ c. call_fields c ≡ verb_of c ∷ zone_word zone ∷ []) (λ c. bytes_eq (verb_of c) verb) (zone_calls zone) (refl, (refl, (refl, (refl, (refl, (refl, tt)))))) call e in
    ap (λ v. v ∷ zone_word zone ∷ []) (has_word verb_of (zone_calls zone) verb call e) ∙ sym fields

found : (make : Zone → Call) (zone z : Zone) (verb : List ℕ) → named verb_of (zone_calls zone) (verb_of (make zone)) ≡ Some (make zone) → verb ∷ zone_word zone ∷ [] ≡ verb_of (make zone) ∷ zone_word z ∷ []
    → named verb_of (zone_calls zone) verb ≡ Some (make z)
found make zone z verb each e =
    let is : verb ≡ verb_of (make zone) = cc in
    let word : zone_word zone ≡ zone_word z = cc in
    ap (named verb_of (zone_calls zone)) is ∙ each ∙ ap (λ a. Some (make a)) (same_zone zone z word)

written : (zone : Zone) (verb : List ℕ) → (verb ≡ codes "pose" → ⊥) → (call : Call) → verb ∷ zone_word zone ∷ [] ≡ call_fields call → named verb_of (zone_calls zone) verb ≡ Some call
written zone verb other (Claim z) e = found Claim zone z verb refl e
written zone verb other (Give z) e = found Give zone z verb refl e
written zone verb other (Yield z) e = found Yield zone z verb refl e
written zone verb other (Take z) e = found Take zone z verb refl e
written zone verb other (Release z) e = found Release zone z verb refl e
written zone verb other (SetPose p) e = let pose : verb ≡ codes "pose" = cc in absurd (other pose)
written zone verb other Advance e = cc
written zone verb other (Inquire z) e = found Inquire zone z verb refl e
written zone verb other Stop e = cc
written zone verb other Resume e = cc

-- among a zone's calls, a verb determines the call, and the call its verb
pub zone_call_read : (zone : Zone) (verb : List ℕ) → (verb ≡ codes "pose" → ⊥) → (call : Call) → (named verb_of (zone_calls zone) verb ≡ Some call) ↔ (verb ∷ zone_word zone ∷ [] ≡ call_fields call)
zone_call_read zone verb other call = (told zone verb call, written zone verb other call)
