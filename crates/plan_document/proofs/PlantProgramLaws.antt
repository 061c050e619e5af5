-- What the programs of a plant mean.
use Rattle.std.proofs.Common.{◌≡◌, ◌∙◌, ◌+◌, ◌<◌, ◌≤◌, ◌∷◌, [], ℕ, zero, suc, List, length, map, slice_get, Option, Some, None, Bool, true, false, bytes_eq, inl, inr, sym, ap, refl, subst, arith, string_bytes, filter_map}
use Rattle.std.specs.List.{AllZip, enumerate_from, list_any}
use Rattle.std.specs.Prelude.{IsFalse, IsTrue}
use Rattle.std.proofs.lemmas.Slice.Zip.{AllZip-long}
use Rattle.plan_explorer.specs.PlantPrograms.{ProgramsOnWords}
use Rattle.plan_explorer.specs.declared.plant_programs.RoutedCall.{RoutedCall}
use Rattle.plan_text.specs.Names.{Text}
use Rattle.plan_types.specs.declared.call.Call.{Call}
use Rattle.plan_words.specs.Plant.{PlantWords}
use Rattle.plan_document.specs.Names.{numbered}
use Rattle.plan_document.specs.PlantPrograms.{ArePlantPrograms, Asks, AsksOn, IsRouted, IsRoutedProgram, lines_on}
use Rattle.plan_document.specs.PlantProgramLaws.{IsAskedThere, LinesAreRouted, LinesGoToTheirWords, ProgramsAreOfLines, Stands, lines_in}
use Rattle.plan_document.specs.declared.document.Document.{Document}
use Rattle.plan_document.specs.declared.document.MachineRow.{MachineRow}
use Rattle.plan_document.specs.declared.resolving.ProgrammedPlan.{ProgrammedPlan}

no_some : {X : Type 0} (x : X) → Some x ≡ None → (P : Type 0) → P
no_some x e P = cc

item_there : {X : Type 0} (xs : List X) (i : ℕ) → i < length xs → (x : X) × (slice_get xs i ≡ Some x)
item_there [] i l = absurd (omega (arith, l))
item_there (x ∷ xs) zero l = (x, refl)
item_there (x ∷ xs) (suc i) l = item_there xs i (omega (arith, l))

some_same : {X : Type 0} (x y : X) → Some x ≡ Some y → x ≡ y
some_same x y e = cc

both_ways : (b : Bool) → IsFalse b → IsTrue b → (P : Type 0) → P
both_ways b isnt is P = cc

-- ---- a line

stands_by : (d : Document) (words : PlantWords) (w m : ℕ) (line : Text) (plan : ProgrammedPlan) (call : Call) → AsksOn (lines_on d words w m) plan m line (Some call) → Stands d words w m line × Asks plan m line (Some call)
stands_by d words w m line plan call on = elim on [ inl away ↦ no_some call away.1 (Stands d words w m line × Asks plan m line (Some call)) | inr here ↦ here ]

silent_by : (d : Document) (words : PlantWords) (w m : ℕ) (line : Text) (plan : ProgrammedPlan) → AsksOn (lines_on d words w m) plan m line None → Stands d words w m line → Asks plan m line None
silent_by d words w m line plan on stands = elim on [ inl away ↦ both_ways (list_any (λ other. bytes_eq other line) (lines_on d words w m)) away.0 stands (Asks plan m line None) | inr here ↦ here.1 ]

asked_there : (d : Document) (words : PlantWords) (plans : List ProgrammedPlan) (m : ℕ) (line : Text) (routed : RoutedCall) → IsRouted d words plans m line (Some routed) → IsAskedThere d words plans m line routed
asked_there d words plans m line routed is =
    let plan = item_there plans routed.word is.0 in
    let both = stands_by d words routed.word m line plan.0 routed.call (is.1 plan.0 plan.1) in
    record { plan = plan.0; of_word = plan.1; stands = both.0; asks = both.1 }

lines_are_routed : (d : Document) (words : PlantWords) (plans : List ProgrammedPlan) (m : ℕ) (line : Text) → LinesAreRouted d words plans m line
lines_are_routed d words plans m line = record {
  asked = asked_there d words plans m line;
  silent = λ is w plan at stands. silent_by d words w m line plan (is w plan at) stands;
}

-- ---- a program

abbrev IsOfLine : {X : Type 0} → (Text → Option X → Type 0) → List Text → X → Type 0
IsOfLine R lines x = (i : ℕ) × (line : Text) × (slice_get lines i ≡ Some line) × R line (Some x)

one_later : {X : Type 0} (R : Text → Option X → Type 0) (first : Text) (lines : List Text) (x : X) → IsOfLine R lines x → IsOfLine R (first ∷ lines) x
one_later R first lines x is = (suc is.0, is.1, is.2, is.3)

from_line : {X : Type 0} (R : Text → Option X → Type 0) (lines : List Text) (answers : List (Option X)) (k : ℕ) (x : X) → AllZip R lines answers → slice_get (filter_map (λ answer. answer) answers) k ≡ Some x → IsOfLine R lines x
from_line R [] [] k x zip at = cc
from_line R [] (a ∷ answers) k x zip at = absurd zip
from_line R (l ∷ lines) [] k x zip at = absurd zip
from_line R (l ∷ lines) (None ∷ answers) k x zip at = one_later R l lines x (from_line R lines answers k x zip.1 at)
from_line R (l ∷ lines) (Some a ∷ answers) zero x zip at = (0, l, refl, subst (λ y. R l (Some y)) (some_same a x at) zip.0)
from_line R (l ∷ lines) (Some a ∷ answers) (suc k) x zip at = one_later R l lines x (from_line R lines answers k x zip.1 at)

no_more : {X : Type 0} (answers : List (Option X)) → length (filter_map (λ answer. answer) answers) ≤ length answers
no_more [] = omega arith
no_more (None ∷ answers) = let l = no_more answers in omega (arith, l)
no_more (Some a ∷ answers) = let l = no_more answers in omega (arith, l)

two_lines : {X : Type 0} (R : Text → Option X → Type 0) (first second : Text) (one other : X) (answers : List (Option X)) → AllZip R (first ∷ second ∷ []) answers → one ∷ other ∷ [] ≡ filter_map (λ answer. answer) answers → R first (Some one) × R second (Some other)
two_lines R first second one other [] zip is = absurd zip
two_lines R first second one other (a ∷ []) zip is = absurd zip.1
two_lines R first second one other (a ∷ b ∷ c ∷ answers) zip is = absurd zip.1.1
two_lines R first second one other (None ∷ None ∷ []) zip is = cc
two_lines R first second one other (None ∷ Some b ∷ []) zip is = cc
two_lines R first second one other (Some a ∷ None ∷ []) zip is = cc
two_lines {X = X} R first second one other (Some a ∷ Some b ∷ []) zip is =
    (subst (λ x. R first (Some x)) (heads a one b other (sym is)) zip.0, subst (λ x. R second (Some x)) (seconds a one b other (sym is)) zip.1.0)
  where
    heads : (a x b y : X) → a ∷ b ∷ [] ≡ x ∷ y ∷ [] → a ≡ x
    heads a x b y e = cc

    seconds : (a x b y : X) → a ∷ b ∷ [] ≡ x ∷ y ∷ [] → b ≡ y
    seconds a x b y e = cc

of_line : (d : Document) (words : PlantWords) (plans : List ProgrammedPlan) (row : ℕ × MachineRow) (program : List RoutedCall) (k : ℕ) (routed : RoutedCall) → IsRoutedProgram d words plans row program → slice_get program k ≡ Some routed
    → (i : ℕ) × (line : Text) × (slice_get (lines_in row) i ≡ Some line) × IsAskedThere d words plans row.0 line routed
of_line d words plans row program k routed is at =
    let found = from_line (IsRouted d words plans row.0) (lines_in row) is.answers k routed is.lines (sym (ap (λ calls. slice_get calls k) is.asks) ∙ at) in
    (found.0, found.1, found.2, asked_there d words plans row.0 found.1 routed found.3)

in_order : (d : Document) (words : PlantWords) (plans : List ProgrammedPlan) (row : ℕ × MachineRow) (first second : Text) (one other : RoutedCall) → lines_in row ≡ first ∷ second ∷ [] → IsRoutedProgram d words plans row (one ∷ other ∷ [])
    → IsAskedThere d words plans row.0 first one × IsAskedThere d words plans row.0 second other
in_order d words plans row first second one other lines is =
    let both = two_lines (IsRouted d words plans row.0) first second one other is.answers (subst (λ ls. AllZip (IsRouted d words plans row.0) ls is.answers) lines is.lines) is.asks in
    (asked_there d words plans row.0 first one both.0, asked_there d words plans row.0 second other both.1)

few : (d : Document) (words : PlantWords) (plans : List ProgrammedPlan) (row : ℕ × MachineRow) (program : List RoutedCall) → IsRoutedProgram d words plans row program → length program ≤ length (lines_in row)
few d words plans row program is =
    let most = no_more is.answers in
    let long = AllZip-long (IsRouted d words plans row.0) (lines_in row) is.answers is.lines in
    let same = ap length is.asks in
    omega (arith, most, long, same)

as_many : {X : Type 0} (k : ℕ) (xs : List X) → length (enumerate_from k xs) ≡ length xs
as_many k [] = refl
as_many k (x ∷ xs) = ap (λ n. suc n) (as_many (k + 1) xs)

machines : (d : Document) (words : PlantWords) (plans : List ProgrammedPlan) (programs : ProgramsOnWords) → ArePlantPrograms d words plans programs → length programs.programs ≡ length d.machines.items
machines d words plans programs are =
    AllZip-long (IsRoutedProgram d words plans) (numbered d.machines.items) programs.programs are.each ∙ as_many 0 d.machines.items

pub lines_go_to_their_words : LinesGoToTheirWords
lines_go_to_their_words = record {
  lines = lines_are_routed;
  programs = λ d words plans row. record {
    of_line = of_line d words plans row;
    in_order = in_order d words plans row;
    few = few d words plans row;
  };
  machines = machines;
}
