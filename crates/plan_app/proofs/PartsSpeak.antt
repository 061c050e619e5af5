-- What is found of a group alone is so among all machines: the law `parts_speak_of_all`.
use Rattle.std.proofs.Common.{◌≡◌, ℕ, Bool, true, List, [], ◌∷◌, length, filter, Some, None, ap, ◌∙◌, subst, nat_eq}
use Rattle.std.specs.List.{range_with_len}
use Rattle.plan_rules.specs.declared.state.State.{State}
use Rattle.plan_rules.specs.Sound.{IsSound}
use Rattle.plan_explorer.specs.GroupLaws.{MachinesAreApart, OursAreApart}
use Rattle.plan_explorer.specs.Groups.{AreGroups, ShareNothing, alone, group_in}
use Rattle.plan_explorer.specs.Programs.{PlanPrograms}
use Rattle.plan_explorer.specs.Situations.{first_situation}
use Rattle.plan_explorer.proofs.lemmas.GroupJoins.{alone_long, own_program}
use Rattle.plan_liveness.specs.declared.answer.FairOrder.{FairOrder}
use Rattle.plan_liveness.specs.declared.answer.Liveness.{Liveness}
use Rattle.plan_liveness.specs.declared.answer.Liveness.TheVariants as liveness
use Rattle.plan_liveness.specs.declared.answer.Progress.{Progress}
use Rattle.plan_liveness.specs.declared.answer.Progress.TheVariants as progress
use Rattle.plan_liveness.specs.Answers.{IfWithin, IsLiveness, all_machines, most_relayed, most_turns}
use Rattle.plan_liveness.specs.Groups.{GroupsGoOn, TheyGoOn}
use Rattle.plan_liveness.specs.GroupStarving.{GroupsStarve, TheyStarve}
use Rattle.plan_liveness.specs.Plates.{PlatesMove}
use Rattle.plan_liveness.specs.Progress.{GoesOn, Starves}
use Rattle.plan_text.specs.Named.{Named}
use Rattle.plan_text.specs.Names.{Text}
use Rattle.plan_app.specs.Apart.{group_of, part_starves, part_text, told_of}
use Rattle.plan_app.specs.PartLaws.{GoingIsOfAll, HoldsAmongAll, IsUnfinishedAmongAll, PartsSpeakOfAll, StandstillIsOfAll, StarvesAmongAll}
use Rattle.plan_app.specs.Screens.{IsUnfinished, MoveOn, TellsGoingBy, TellsStandstill}
use Rattle.plan_app.specs.declared.explore.Extent.{Extent}
use Rattle.plan_app.specs.declared.explore.Extent.TheVariants.{Fewer, Any}
use Rattle.plan_app.proofs.GroupsTold.{has_its_part}

-- the machines of a group share nothing with the others
share : (n : Named) (groups : List ℕ) (first : ℕ) → AreGroups n.plan (group_in groups) → ShareNothing n.plan (group_of groups first)
share n groups first are = λ z few. ap (λ g. nat_eq g (group_in groups first)) (are z few)

module _ (n : Named) (ps : PlanPrograms) (s : State) (ours : ℕ → Bool) (a : OursAreApart n.plan ps s ours)
    (g : TheyGoOn n.plan ps s ours) (v : TheyStarve n.plan ps s ours) where
  starves : (m : ℕ) (strong : List ℕ) (order : FairOrder) → ours m ≡ true
      → Starves n.plan (alone ours ps) (Some m) strong (first_situation s) order.stem.items order.cycle.items
      → StarvesAmongAll n.plan ps s m (filter ours strong)
  starves m strong order mine is = λ situations come.
      v.among_all m strong situations mine come (order.stem.items, order.cycle.items, is)

  machines : all_machines (alone ours ps) ≡ all_machines ps
  machines = ap (λ k. range_with_len 0 k) (alone_long ours ps)

  holds : (m : ℕ) (answer : Liveness) → ours m ≡ true → IsLiveness n.plan (alone ours ps) (first_situation s) m answer
      → HoldsAmongAll n.plan ps s ours m answer
  holds m liveness.Silent mine is = ap length (own_program ours ps m mine) ∙ is
  holds m (liveness.Always bound) mine is = g.within (Some m) [] (most_turns bound) is
  holds m (liveness.IfOne strong bound order) mine is =
      (g.within (Some m) (strong ∷ []) (most_turns bound) is.0, starves m [] order mine is.1)
  holds m (liveness.IfAll bound order) mine is = (
    subst (λ all. GoesOn n.plan ps (Some m) all (first_situation s) (most_turns bound)) machines
        (g.within (Some m) (all_machines (alone ours ps)) (most_turns bound) is.0),
    starves m [] order mine is.1,
  )
  holds m (liveness.IfTwo relay order) mine is = (
    g.within (Some m) (relay.strong ∷ m ∷ []) (most_relayed relay.rounds (most_turns relay.bound)) is.0.waiting,
    starves m [] order mine is.1,
  )
  holds m (liveness.Starves order) mine is =
      starves m (all_machines ps) order mine
      (subst (λ all. Starves n.plan (alone ours ps) (Some m) all (first_situation s) order.stem.items order.cycle.items)
      machines is)
  holds m (liveness.Unknown reason) mine is = tt

  moves : (plates : Progress) → MoveOn n (alone ours ps) s plates
      → IfWithin plates (PlatesMove n.plan ps None [] (first_situation s))
  moves (progress.Within bound) is = g.plates None [] (most_turns bound) is
  moves (progress.Starves order) is = tt
  moves (progress.Unknown reason) is = tt

  going : (starve : Bool) (text : Text)
      → TellsGoingBy n (alone ours ps) s (part_starves ours n (alone ours ps)) (part_text ours n (alone ours ps) s) starve text
      → GoingIsOfAll n ps s ours text
  going starve text tells = record {
    situations = tells.situations;
    answers = tells.answers;
    plates = tells.plates;
    told = tells.told;
    so = record {
      never = a.standstills.never tells.free;
      runs = a.histories tells.free;
      each = λ m answer mine at. holds m answer mine (tells.are.each m answer at);
      moving = moves tells.plates tells.are.moving;
    };
  }

  stands : (text : Text) → TellsStandstill n (alone ours ps) s text → StandstillIsOfAll n ps s ours text
  stands text tells =
      let lead = (a.standstills.same tells.turns).1 tells.lead in
      record {
        turns = tells.turns;
        told = tells.told;
        so = record {
          lead = lead;
          fewest = a.standstills.fewest tells.turns tells.shortest;
          lasts = λ more. a.standstills.lasts tells.turns more lead;
        };
      }

  unfinished : (most : ℕ) (extent : Extent) → IsUnfinished most n (alone ours ps) s extent
      → IsUnfinishedAmongAll most n.plan ps s ours extent
  unfinished most (Fewer turns) is = record { more = a.more most is.more; never = a.standstills.before turns is.none }
  unfinished most Any is = record { more = a.more most is.more; never = a.standstills.never is.none }

pub parts_speak : (n : Named) (ps : PlanPrograms) (s : State) → MachinesAreApart n.plan ps s → GroupsGoOn n.plan ps s
    → GroupsStarve n.plan ps s → IsSound n.plan s → PartsSpeakOfAll n ps s
parts_speak n ps s apart goes starve sound = record {
  going = λ groups are first may text tells.
      let ours = group_of groups first in
      let nothing = share n groups first are in
      going n ps s ours (apart ours nothing sound) (goes ours nothing sound) (starve ours nothing sound) may text tells;
  standstill = λ groups are first text tells.
      let ours = group_of groups first in
      let nothing = share n groups first are in
      stands n ps s ours (apart ours nothing sound) (goes ours nothing sound) (starve ours nothing sound) text tells;
  unfinished = λ most groups are first extent is.
      let ours = group_of groups first in
      let nothing = share n groups first are in
      unfinished n ps s ours (apart ours nothing sound) (goes ours nothing sound) (starve ours nothing sound) most extent is;
  parts = λ groups count well text told first few is. has_its_part (told_of n ps s) groups count well text told first few is;
}
