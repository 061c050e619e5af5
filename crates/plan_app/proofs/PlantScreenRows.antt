-- The examples of `plant_standstills_are_told`, and the law `plant_screens_are_meant`.
use Rattle.std.proofs.Common.{◌≡◌, ◌∙◌, ◌<◌, ◌⊎◌, ◌++◌, ◌∷◌, [], ◌&&◌, ℕ, zero, suc, Bool, List, ap, ap₂, get_or, inl, inr, length, refl, subst, arith}
use Rattle.std.proofs.lemmas.List.{append_cancel_left}
use Rattle.std.specs.Fmt.{digits}
use Rattle.std.specs.Prelude.{codes}
use Rattle.plan_types.specs.Table.{zone_count}
use Rattle.plan_rules.specs.declared.state.State.{State}
use Rattle.plan_explorer.specs.Groups.{group_in}
use Rattle.plan_explorer.specs.PlantExplored.{NoneStandsStill, NoneStandsStillBefore}
use Rattle.plan_explorer.specs.PlantPrograms.{RoutedPrograms}
use Rattle.plan_liveness.specs.PlantGroups.{AreGroups, alone}
use Rattle.plan_text.specs.Named.{Named}
use Rattle.plan_text.specs.Names.{Text}
use Rattle.plan_document.specs.declared.resolving.ProgrammedPlan.{ProgrammedPlan}
use Rattle.plan_app.specs.Apart.{TellsParts, group_of, head_of, large_of}
use Rattle.plan_app.specs.Going.{event_line, told_outlook}
use Rattle.plan_app.specs.PlantGoing.{line_if}
use Rattle.plan_app.specs.PlantScreenExamples.{CrossingsAreTold, IsTwoParts, LinesAreTold, PlantLinesTell, PlantScreensAreMeant}
use Rattle.plan_app.specs.PlantScreenExamples.{lines, turner, turning}
use Rattle.plan_app.specs.PlantScreens.{IsUnfinished, names_text, told_of}
use Rattle.plan_app.specs.PlantStarts.{tables_of}
use Rattle.plan_app.specs.Screens.{large_words, unfinished_words, wait_line}
use Rattle.plan_app.specs.Words.{counted}
use Rattle.plan_app.specs.declared.explore.Extent.{Extent}
use Rattle.plan_app.specs.declared.explore.Extent.TheVariants.{Fewer, Any}
use Rattle.plan_app.specs.declared.explore.TheConstants.{MORE}

pub crossings_told : CrossingsAreTold
unfolding digits
crossings_told north south first second = record {
  waits = rw second refl;
  other_word = rw first refl;
  asks = rw first refl;
  no_word = refl;
  at_once = refl;
  whole = rw (first, second) refl;
  could = rw second refl;
  first_news = rw second refl;
  same = refl;
  other_zone = rw second refl;
  crossed = λ order is. rw (first, second, is.stem, is.cycle) refl;
  going = λ order is. rw (first, second, is.stem, is.cycle) refl;
  starves = λ order is. rw (first, second, is.stem, is.cycle) refl;
  moving = refl;
  resting = λ order is. rw (first, second, is.stem, is.cycle) refl;
  not_known = refl;
  no_plates = refl;
  both_go_on = rw first refl;
}

-- ---- two machines that share nothing

nothing_shared : (one other : ProgrammedPlan) → one.named ≡ turner 0 → other.named ≡ turner 1
    → AreGroups (tables_of (one ∷ other ∷ [])) (group_in lines)
nothing_shared one other first second zero there z few =
    let none : z < 0 = subst (λ (n : Named). z < zone_count n.plan) first few in absurd (omega (arith, none))
nothing_shared one other first second (suc zero) there z few =
    let none : z < 0 = subst (λ (n : Named). z < zone_count n.plan) second few in absurd (omega (arith, none))
nothing_shared one other first second (suc (suc w)) there z few = absurd (omega (arith, there))

-- the text of two parts, each with its head
two_parts : (plans : List ProgrammedPlan) (openings : List State) (well : Bool) (text : Text)
    → head_of (names_text plans lines 0 2) ≡ codes "apart from all others: first\n"
    → head_of (names_text plans lines 1 2) ≡ codes "apart from all others: second\n"
    → TellsParts (told_of plans turning openings) lines 2 well text → IsTwoParts plans openings well text
two_parts plans openings well text one other
    (early, also, earlier, after, (before, fine, nothing, here, (begun, empty), (first, of_first, is_first), good, all), (second, of_second, is_second), both, told) = record {
      fine = fine;
      first = first;
      of_first = of_first;
      also = also;
      second = second;
      of_second = of_second;
      both = both ∙ ap (λ b. b && also) (good ∙ ap (λ b. b && fine) begun);
      told = told
          ∙ ap₂ (λ a b. a ++ b) (all ∙ ap₂ (λ a b. a ++ b) empty (is_first ∙ ap (λ h. h ++ first) one))
          (is_second ∙ ap (λ h. h ++ second) other);
    }

pub lines_told : LinesAreTold
unfolding digits
lines_told one other openings first second = record {
  groups = nothing_shared one other first second;
  apart = refl;
  together = refl;
  parts = λ well text tells.
      two_parts (one ∷ other ∷ []) openings well text (rw first refl) (rw first refl) tells;
  goes_on = λ ps two none. rw (first, two, none) refl;
  large = rw first refl;
  in_any_order = rw first refl;
  of_other = λ order. refl;
}

lines_tell : PlantLinesTell
lines_tell = record {
  waits = λ plans plan e is. ap (λ o. line_if wait_line o e.event) is;
  asks = λ plans plan e is. ap (λ o. line_if (λ n. event_line n (codes " asks: ")) o e.event) is;
  outlook = λ plans plan e is. ap (λ o. line_if told_outlook o e.event) is;
  no_words = λ ours ps openings answers. refl;
}

-- past the limit nothing stands still in fewer turns than are told, or in any order
past_limit : (most : ℕ) (plans : List ProgrammedPlan) (ps : RoutedPrograms) (openings : List State) (words : Text) (extent : Extent)
    → IsUnfinished most plans ps openings extent → words ≡ large_words most extent
    → ((turns : ℕ) × NoneStandsStillBefore (tables_of plans) ps openings turns × (words ≡ large_words most (Fewer turns)))
    ⊎ (NoneStandsStill (tables_of plans) ps openings × (words ≡ large_words most Any))
past_limit most plans ps openings words (Fewer turns) is told = inl (turns, is.none, told)
past_limit most plans ps openings words Any is told = inr (is.none, told)

-- the words for any order are no others
other_words : (most turns : ℕ) → unfinished_words most Any ≡ unfinished_words most (Fewer turns) → ⊥
other_words most turns same =
    let many = append_cancel_left MORE.now _ _ same in
    let ends = append_cancel_left (counted most (codes "situation")) _ _ many in
    let e : 97 ≡ 102 = ap (λ l. get_or l 26 0) ends in omega (arith, e)

if_never : (most : ℕ) (plans : List ProgrammedPlan) (ps : RoutedPrograms) (openings : List State) (extent : Extent)
    → IsUnfinished most plans ps openings extent → unfinished_words most Any ≡ unfinished_words most extent
    → NoneStandsStill (tables_of plans) ps openings
if_never most plans ps openings (Fewer turns) is told = absurd (other_words most turns told)
if_never most plans ps openings Any is told = is.none

-- after the head, and after the names of a group
all_words : (most : ℕ) (extent : Extent) → large_words most Any ≡ large_words most extent
    → unfinished_words most Any ≡ unfinished_words most extent
all_words most extent told = append_cancel_left (codes "large: ") _ _ told

part_words : (most : ℕ) (names : Text) (extent : Extent) → large_of most names Any ≡ large_of most names extent
    → unfinished_words most Any ≡ unfinished_words most extent
part_words most names extent told =
    append_cancel_left (codes ": ") _ _ (append_cancel_left names _ _ (append_cancel_left (codes "large: ") _ _ told))

pub plant_screens_meant : PlantScreensAreMeant
plant_screens_meant = record {
  lines = lines_tell;
  none = λ ours plans ps openings starve text is. is.free;
  situations = λ ours plans ps openings starve text is. (is.situations, is.answers, is.plates, is.come, is.are, is.moving, is.told);
  none_starves = λ ours plans ps openings text is. (is.answers, is.plates, is.are, is.moving, is.starving);
  some_starves = λ ours plans ps openings text is. (is.answers, is.plates, is.are, is.moving, is.starving);
  all_go_on = refl;
  one_starves = λ order. refl;
  plates_move = refl;
  plates_rest = λ order. refl;
  none_moves = λ order. refl;
  count = λ plans ps openings answers are. are.count;
  each = λ plans ps openings answers are. are.each;
  stands = λ plans ps openings text is. (is.turns, is.lead, is.shortest, is.told);
  more = λ most plans ps openings groups words (extent, is, told). is.more;
  unfinished = λ most plans ps openings groups words (extent, is, told). past_limit most plans ps openings words extent is told;
  in_any_order = λ most plans ps openings groups (extent, is, told).
      if_never most plans ps openings extent is (all_words most extent told);
  part_in_any_order = λ most plans ps openings groups first (extent, is, told).
      if_never most plans (alone (group_of groups first) ps) openings extent is
      (part_words most (names_text plans groups first (length ps)) extent told);
  served = λ bytes old new (plant, is, (openings, at, (text, tells, wrote))). (plant, is, openings, at, text, tells, wrote);
}
