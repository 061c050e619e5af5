-- What is found of a group of a plant's machines alone is so among all machines: the law `plant_parts_speak_of_all`.
use Rattle.std.proofs.Common.{◌≡◌, ◌∙◌, ℕ, Bool, true, List, [], ◌∷◌, length, filter, Some, None, ap, sym, subst, nat_eq}
use Rattle.std.specs.List.{range_with_len}
use Rattle.plan_types.specs.Table.{PlanTable}
use Rattle.plan_rules.specs.declared.state.State.{State}
use Rattle.plan_explorer.specs.Groups as of_word
use Rattle.plan_explorer.specs.Groups.{group_in}
use Rattle.plan_explorer.specs.PlantPrograms.{RoutedPrograms, calls_of}
use Rattle.plan_explorer.specs.Plants.{first_situation, situation_space}
use Rattle.plan_explorer.specs.Programs.{PlanPrograms, program_of}
use Rattle.plan_explorer.proofs.lemmas.GroupJoins.{alone_long, own_program}
use Rattle.plan_liveness.specs.declared.answer.Bound.{Bound}
use Rattle.plan_liveness.specs.declared.answer.FairOrder.{FairOrder}
use Rattle.plan_liveness.specs.declared.answer.Liveness.{Liveness}
use Rattle.plan_liveness.specs.declared.answer.Liveness.TheVariants as liveness
use Rattle.plan_liveness.specs.declared.answer.Progress.{Progress}
use Rattle.plan_liveness.specs.declared.answer.Progress.TheVariants as progress
use Rattle.plan_liveness.specs.Answers.{all_machines}
use Rattle.plan_liveness.specs.GraphAnswers.{StarvesIn}
use Rattle.plan_liveness.specs.PlantAnswers.{IsPlantLiveness, could_go_on, same_situation}
use Rattle.plan_liveness.specs.PlantGroupGoing.{GoesOn, PlantGroupsGoOn, PlatesMove, TheyGoOn}
use Rattle.plan_liveness.specs.PlantGroupLaws.{IsPlant, MachinesAreApart, OursAreApart}
use Rattle.plan_liveness.specs.PlantGroupStarving.{PlantGroupsStarve, TheyStarve}
use Rattle.plan_liveness.specs.PlantGroups.{AreGroups, ShareNothing, alone}
use Rattle.plan_liveness.specs.PlantPlates.{IsPlateProgress}
use Rattle.plan_text.specs.Names.{Text}
use Rattle.plan_document.specs.declared.resolving.ProgrammedPlan.{ProgrammedPlan}
use Rattle.plan_app.specs.Apart.{group_of}
use Rattle.plan_app.specs.PlantPartLaws.{GoingIsOfAll, HoldsAmongAll, IsUnfinishedAmongAll, PlantPartsSpeakOfAll, StandstillIsOfAll, StarvesAmongAll}
use Rattle.plan_app.specs.PlantScreens.{IsUnfinished, TellsGoing, TellsStandstill, told_of}
use Rattle.plan_app.specs.PlantStarts.{tables_of}
use Rattle.plan_app.specs.declared.explore.Extent.{Extent}
use Rattle.plan_app.specs.declared.explore.Extent.TheVariants.{Fewer, Any}
use Rattle.plan_app.proofs.GroupsTold.{has_its_part}

-- the machines of a group share nothing with the others
share : (ts : List PlanTable) (groups : List ℕ) (first : ℕ) → AreGroups ts (group_in groups) → ShareNothing ts (group_of groups first)
share ts groups first are = λ w there z few. ap (λ g. nat_eq g (group_in groups first)) (are w there z few)

-- the calls of programs alone
abbrev CallsAreAlone : RoutedPrograms → Type 0
CallsAreAlone ps = (ours : ℕ → Bool) → calls_of (alone ours ps) ≡ of_word.alone ours (calls_of ps)

module _ (plans : List ProgrammedPlan) (ps : RoutedPrograms) (ss : List State) (ours : ℕ → Bool) (calls : CallsAreAlone ps)
    (a : OursAreApart (tables_of plans) ps ss ours) (g : TheyGoOn (tables_of plans) ps ss ours)
    (v : TheyStarve (tables_of plans) ps ss ours) where
  abbrev ts : List PlanTable
  ts = tables_of plans

  starves : (m : ℕ) (strong : List ℕ) (order : FairOrder) → ours m ≡ true
      → StarvesIn (situation_space ts (alone ours ps)) same_situation (could_go_on ts (alone ours ps)) (first_situation ss) m strong order
      → StarvesAmongAll ts ps ss m (filter ours strong)
  starves m strong order mine is = λ situations come.
      v.among_all m strong situations mine come (order.stem.items, order.cycle.items, is)

  machines : all_machines (calls_of (alone ours ps)) ≡ all_machines (calls_of ps)
  machines = ap all_machines (calls ours) ∙ ap (λ k. range_with_len 0 k) (alone_long ours (calls_of ps))

  silent : (m : ℕ) → ours m ≡ true → program_of (calls_of ps) m ≡ program_of (calls_of (alone ours ps)) m
  silent m mine = own_program ours (calls_of ps) m mine ∙ ap (λ (qs : PlanPrograms). program_of qs m) (sym (calls ours))

  holds : (m : ℕ) (answer : Liveness) → ours m ≡ true → IsPlantLiveness ts (alone ours ps) (first_situation ss) m answer
      → HoldsAmongAll ts ps ss ours m answer
  holds m liveness.Silent mine is = ap length (silent m mine) ∙ is
  holds m (liveness.Always bound) mine is = g.within (Some m) [] bound.plain bound.helped is
  holds m (liveness.IfOne strong bound order) mine is =
      (g.within (Some m) (strong ∷ []) bound.plain bound.helped is.0, starves m [] order mine is.1)
  holds m (liveness.IfAll bound order) mine is = (
    subst (λ all. GoesOn ts ps ss (Some m) all bound.plain bound.helped) machines
        (g.within (Some m) (all_machines (calls_of (alone ours ps))) bound.plain bound.helped is.0),
    starves m [] order mine is.1,
  )
  holds m (liveness.IfTwo relay order) mine is = absurd is
  holds m (liveness.Starves order) mine is =
      subst (λ all. StarvesAmongAll ts ps ss m (filter ours all)) machines
      (starves m (all_machines (calls_of (alone ours ps))) order mine is)
  holds m (liveness.Unknown reason) mine is = tt

  moves : (plates : Progress) (bound : Bound) → IsPlateProgress ts (alone ours ps) (first_situation ss) plates → plates ≡ progress.Within bound
      → PlatesMove ts ps ss None [] bound.plain bound.helped
  moves plates bound is e = g.plates None [] bound.plain bound.helped (subst (IsPlateProgress ts (alone ours ps) (first_situation ss)) e is)

  going : (starve : Bool) (text : Text) → TellsGoing ours plans (alone ours ps) ss starve text → GoingIsOfAll plans ps ss ours text
  going starve text tells = record {
    situations = tells.situations;
    answers = tells.answers;
    plates = tells.plates;
    told = tells.told;
    so = record {
      never = a.standstills.never tells.free;
      each = λ m answer mine at. holds m answer mine (tells.are.each m answer at);
      moving = λ bound e. moves tells.plates bound tells.moving e;
    };
  }

  stands : (text : Text) → TellsStandstill plans (alone ours ps) ss text → StandstillIsOfAll plans ps ss ours text
  stands text tells =
      let lead = (a.standstills.same tells.turns).1 tells.lead in
      record {
        turns = tells.turns;
        told = tells.told;
        so = record {
          lead = lead;
          fewest = a.standstills.fewest tells.turns tells.shortest;
          lasts = λ more. a.standstills.lasts tells.turns more lead;
        };
      }

  unfinished : (most : ℕ) (extent : Extent) → IsUnfinished most plans (alone ours ps) ss extent
      → IsUnfinishedAmongAll most ts ps ss ours extent
  unfinished most (Fewer turns) is = record { more = a.more most is.more; never = a.standstills.before turns is.none }
  unfinished most Any is = record { more = a.more most is.more; never = a.standstills.never is.none }

pub plant_parts_speak : (plans : List ProgrammedPlan) (ps : RoutedPrograms) (ss : List State) → CallsAreAlone ps
    → MachinesAreApart (tables_of plans) ps ss → PlantGroupsGoOn (tables_of plans) ps ss → PlantGroupsStarve (tables_of plans) ps ss
    → IsPlant (tables_of plans) ps ss → PlantPartsSpeakOfAll plans ps ss
plant_parts_speak plans ps ss calls apart goes starve is = record {
  going = λ groups are first may text tells.
      let ours = group_of groups first in
      let nothing = share (tables_of plans) groups first are in
      going plans ps ss ours calls (apart ours is nothing) (goes ours is nothing) (starve ours is nothing) may text tells;
  standstill = λ groups are first text tells.
      let ours = group_of groups first in
      let nothing = share (tables_of plans) groups first are in
      stands plans ps ss ours calls (apart ours is nothing) (goes ours is nothing) (starve ours is nothing) text tells;
  unfinished = λ most groups are first extent found.
      let ours = group_of groups first in
      let nothing = share (tables_of plans) groups first are in
      unfinished plans ps ss ours calls (apart ours is nothing) (goes ours is nothing) (starve ours is nothing) most extent found;
  parts = λ groups count well text told first few at. has_its_part (told_of plans ps ss) groups count well text told first few at;
}
