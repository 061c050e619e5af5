-- What was found of groups, or of all machines together, is what is printed.
use Rattle.std.proofs.Common.{◌≡◌, ◌∙◌, ◌+◌, ◌<◌, ◌⊎◌, ◌&&◌, ℕ, zero, suc, Bool, true, false, List, Result, Ok, Err, IfOk, inl, inr, refl, ap, sym, subst, arith}
use Rattle.std.proofs.Common.{string_bytes, add-one}
use Rattle.plan_types.proofs.lemmas.Below.{below_next}
use Rattle.plan_rules.specs.declared.state.State.{State}
use Rattle.plan_explorer.specs.Groups.{group_in}
use Rattle.plan_explorer.specs.Programs.{PlanPrograms}
use Rattle.plan_text.specs.Named.{Named}
use Rattle.plan_text.specs.Names.{Text}
use Rattle.plan_app.specs.Apart.{AddsPart, IsExploration, IsExplorationBy, IsLarge, IsPart, IsPartScreen, Telling, TellsBy, TellsLargeBy, TellsNext, TellsPart}
use Rattle.plan_app.specs.Apart.{TellsParts, group_of, is_first, large_of, some_are_apart, told_by}
use Rattle.plan_app.specs.PartLaws.{HasItsPart}
use Rattle.plan_app.specs.declared.apart.Exploration.{Exploration}
use Rattle.plan_app.specs.declared.apart.Exploration.TheVariants.{Well, Unwell, Large}
use Rattle.plan_app.specs.declared.explore.Extent.{Extent}
use Rattle.plan_app.specs.declared.explore.Screen.{Screen}
use Rattle.plan_app.specs.declared.explore.Screen.TheVariants.{Free, Starving, Standstill, Unfinished}

is_exploration : (most : ℕ) (apart : Bool) (v : Telling) (groups : List ℕ) (found : Exploration) → v.apart (group_in groups)
    → v.smallest (group_in groups) → some_are_apart groups v.programs ≡ apart → IsExplorationBy most apart v groups found
    → IsExploration most v found
is_exploration most apart v groups (Well text) are smallest by found = record {
  groups = groups;
  apart = are;
  smallest = smallest;
  told = subst (λ b. TellsBy b v groups true (string_bytes text)) (sym by) found;
}
is_exploration most apart v groups (Unwell text) are smallest by found = record {
  groups = groups;
  apart = are;
  smallest = smallest;
  told = subst (λ b. TellsBy b v groups false (string_bytes text)) (sym by) found;
}
is_exploration most apart v groups (Large words) are smallest by found = record {
  groups = groups;
  apart = are;
  smallest = smallest;
  told = subst (λ b. TellsLargeBy most b v groups (string_bytes words)) (sym by) found;
}

pub exploration_is : {E : Type 0} (most : ℕ) (apart : Bool) (v : Telling) (groups : List ℕ) (r : Result Exploration E)
    → v.apart (group_in groups) → v.smallest (group_in groups) → some_are_apart groups v.programs ≡ apart
    → IfOk r (λ found. IsExplorationBy most apart v groups found) → IfOk r (λ found. IsExploration most v found)
exploration_is most apart v groups (Ok found) are smallest by is = is_exploration most apart v groups found are smallest by is
exploration_is most apart v groups (Err e) are smallest by is = tt

-- the screen of a group has the facts of what it tells
pub part_told : (most : ℕ) (n : Named) (ps : PlanPrograms) (opening : State) (ours : ℕ → Bool) (screen : Screen)
    → IsPartScreen most n ps opening ours screen → IsPart most n ps opening ours (told_by screen)
part_told most n ps opening ours (Free text) is = is
part_told most n ps opening ours (Starving text) is = inr is
part_told most n ps opening ours (Standstill text) is = inl is
part_told most n ps opening ours (Unfinished extent) is = is

-- the words of a group that comes to more situations than are explored
large_told : (most : ℕ) (v : Telling) (groups : List ℕ) (first : ℕ) (extent : Extent) (found : Exploration) → first < v.count
    → v.unfinished most (group_of groups first) extent → IsLarge (large_of most (v.names groups first) extent) found
    → IsExplorationBy most true v groups found
large_told most v groups first extent (Well text) few is said = absurd said
large_told most v groups first extent (Unwell text) few is said = absurd said
large_told most v groups first extent (Large words) few is said = (first, few, (extent, is, said))

pub large_is_told : {E : Type 0} (most : ℕ) (v : Telling) (groups : List ℕ) (first : ℕ) (extent : Extent) (r : Result Exploration E)
    → first < v.count → v.unfinished most (group_of groups first) extent
    → IfOk r (λ found. IsLarge (large_of most (v.names groups first) extent) found)
    → IfOk r (λ found. IsExplorationBy most true v groups found)
large_is_told most v groups first extent (Ok found) few is said = large_told most v groups first extent found few is said
large_is_told most v groups first extent (Err e) few is said = tt

-- one part more
pub next_part : (v : Telling) (groups : List ℕ) (m : ℕ) (well part : Bool) (before all : Text) → is_first groups m ≡ true
    → TellsParts v groups m well before → AddsPart v groups m part before all → TellsParts v groups (m + 1) (well && part) all
next_part v groups m well part before all first parts (later, is, told) =
    let both : TellsNext true (TellsParts v groups m) (TellsPart v groups m) (well && part) all =
    (well, part, before, later, parts, is, refl, told) in
    subst (λ k. TellsParts v groups k (well && part) all) (sym (add-one m))
    (subst (λ b. TellsNext b (TellsParts v groups m) (TellsPart v groups m) (well && part) all) (sym first) both)

-- or none
pub no_part : (v : Telling) (groups : List ℕ) (m : ℕ) (well : Bool) (all : Text) → is_first groups m ≡ false
    → TellsParts v groups m well all → TellsParts v groups (m + 1) well all
no_part v groups m well all other parts =
    subst (λ k. TellsParts v groups k well all) (sym (add-one m))
    (subst (λ b. TellsNext b (TellsParts v groups m) (TellsPart v groups m) well all) (sym other) parts)

-- ---- each group has its part

both_true : (a b : Bool) → true ≡ (a && b) → (a ≡ true) × (b ≡ true)
both_true true true is = (refl, refl)
both_true true false is = absurd (cc)
both_true false b is = absurd (cc)

pub has_its_part : (v : Telling) (groups : List ℕ) (count : ℕ) (well : Bool) (text : Text) → TellsParts v groups count well text
    → (first : ℕ) → first < count → is_first groups first ≡ true → HasItsPart v groups first well
has_its_part v groups zero well text told first few is = absurd (omega arith)
has_its_part v groups (suc m) well text told first few is =
    by (is_first groups m) refl (has_its_part v groups m) told (below_next first m few)
  where
    by : (b : Bool) → is_first groups m ≡ b
        → ((w : Bool) (t : Text) → TellsParts v groups m w t → (k : ℕ) → k < m → is_first groups k ≡ true → HasItsPart v groups k w)
        → TellsNext b (TellsParts v groups m) (TellsPart v groups m) well text
        → (first < m) ⊎ (first ≡ m) → HasItsPart v groups first well
    by true at earlier (early, late, before, after, all, part, together, text_is) (inl less) =
        let (own, own_part, tells, so) = earlier early before all first less is in
        (own, own_part, tells, λ good. so (both_true early late (sym good ∙ together)).0)
    by true at earlier (early, late, before, after, all, part, together, text_is) (inr same) = (
      late,
      after,
      subst (λ k. TellsPart v groups k late after) (sym same) part,
      λ good. (both_true early late (sym good ∙ together)).1,
    )
    by false at earlier told_before (inl less) = earlier well text told_before first less is
    by false at earlier told_before (inr same) =
        let lie : true ≡ false = sym is ∙ (ap (is_first groups) same ∙ at) in
        absurd (cc)
