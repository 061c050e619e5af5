-- What is found of a group alone is so among all machines, of a plan; and what a plant shares of that.
use Rattle.std.specs.Prelude.{◌≡◌, ◌<◌, ◌≤◌, ℕ, Bool, true, List, [], ◌∷◌, ◌++◌, filter, length, slice_get, Some, None}
use Rattle.plan_types.specs.Table.{PlanTable}
use Rattle.plan_rules.specs.declared.state.State.{State}
use Rattle.plan_explorer.specs.Explored.{ComeTo, ComeToMore}
use Rattle.plan_explorer.specs.GroupLaws.{LeadThem, NeverStandStill, NeverStandStillBefore, NoRunOfAllStandsStill}
use Rattle.plan_explorer.specs.Groups.{AreGroups, alone, group_in}
use Rattle.plan_explorer.specs.Programs.{PlanPrograms, program_of}
use Rattle.plan_explorer.specs.Situations.{first_situation}
use Rattle.plan_liveness.specs.declared.answer.Bound.{Bound}
use Rattle.plan_liveness.specs.declared.answer.Liveness.{Liveness}
use Rattle.plan_liveness.specs.declared.answer.Liveness.TheVariants as liveness
use Rattle.plan_liveness.specs.declared.answer.Progress.{Progress}
use Rattle.plan_liveness.specs.declared.answer.Relay.{Relay}
use Rattle.plan_liveness.specs.Answers.{IfWithin, all_machines, most_relayed, most_turns}
use Rattle.plan_liveness.specs.GroupStarving.{MayStarve}
use Rattle.plan_liveness.specs.Plates.{PlatesMove}
use Rattle.plan_liveness.specs.Progress.{GoesOn}
use Rattle.plan_text.specs.Named.{Named}
use Rattle.plan_text.specs.Names.{Text}
use Rattle.plan_app.specs.Apart.{TellsParts, TellsPart, Telling, group_of, is_first, part_starves, part_text, told_of}
use Rattle.plan_app.specs.Screens.{IsUnfinished, OfTurns, TellsGoingBy, TellsStandstill, free_line, outlook_after}
use Rattle.plan_app.specs.Screens.{standstill_text}
use Rattle.plan_app.specs.declared.explore.Extent.{Extent}

-- ---- of a plan or a plant

-- What is answered of a machine of the group is so among all, with the same bounds: that it asks nothing, or goes on,
-- by a relay too, or may starve. Orders are fair to all, and strongly fair to machines of the group alone.
abbrev pub HoldsBy : Type 0 → (List ℕ → Bound → Type 0) → (Relay → Type 0) → (List ℕ → Type 0) → (ℕ → Bool) → List ℕ
    → Liveness → Type 0
HoldsBy silent goes relays starves ours everyone liveness.Silent = silent
HoldsBy silent goes relays starves ours everyone (liveness.Always bound) = goes [] bound
HoldsBy silent goes relays starves ours everyone (liveness.IfOne strong bound order) =
    goes (strong ∷ []) bound × starves []
HoldsBy silent goes relays starves ours everyone (liveness.IfAll bound order) = goes everyone bound × starves []
HoldsBy silent goes relays starves ours everyone (liveness.IfTwo relay order) = relays relay × starves []
HoldsBy silent goes relays starves ours everyone (liveness.Starves order) = starves (filter ours everyone)
HoldsBy silent goes relays starves ours everyone (liveness.Unknown reason) = Unit {0}

-- the same turns lead them to a standstill among all, and no fewer do; and there they stand still for ever
pub record StandAmongAll (leads : List ℕ → Type 0) (turns : List ℕ) : Type 0 where
  pub lead : leads turns
  pub fewest : (more : List ℕ) → leads more → length turns ≤ length more
  pub lasts : (more : List ℕ) → leads (turns ++ more)

-- a group has its part, and all is well only if it is in this
abbrev pub HasItsPart : Telling → List ℕ → ℕ → Bool → Type 0
HasItsPart v groups first well =
    (own : Bool) × (part : Text) × TellsPart v groups first own part × (well ≡ true → own ≡ true)

-- so has each group
abbrev pub HaveTheirParts : Telling → Type 0
HaveTheirParts v =
    (groups : List ℕ) (count : ℕ) (well : Bool) (text : Text) → TellsParts v groups count well text
    → (first : ℕ) → first < count → is_first groups first ≡ true → HasItsPart v groups first well

-- ---- machines that go on, of a plan

-- a machine goes on among all within a bound
abbrev pub GoesOnAmongAll : PlanTable → PlanPrograms → State → ℕ → List ℕ → (ℕ → ℕ) → Type 0
GoesOnAmongAll t ps s m strong soon = GoesOn t ps (Some m) strong (first_situation s) soon

-- it may starve among all, if all come to some number of situations
abbrev pub StarvesAmongAll : PlanTable → PlanPrograms → State → ℕ → List ℕ → Type 0
StarvesAmongAll t ps s m strong = (situations : ℕ) → ComeTo t ps s situations → MayStarve t ps s m strong

-- a relay brings it on among all
abbrev pub RelaysAmongAll : PlanTable → PlanPrograms → State → ℕ → Relay → Type 0
RelaysAmongAll t ps s m relay =
    GoesOnAmongAll t ps s m (relay.strong ∷ m ∷ []) (most_relayed relay.rounds (most_turns relay.bound))

abbrev pub HoldsAmongAll : PlanTable → PlanPrograms → State → (ℕ → Bool) → ℕ → Liveness → Type 0
HoldsAmongAll t ps s ours m answer =
    HoldsBy (length (program_of ps m) ≡ 0) (λ strong bound. GoesOnAmongAll t ps s m strong (most_turns bound))
    (RelaysAmongAll t ps s m) (StarvesAmongAll t ps s m) ours (all_machines ps) answer

-- by answers and plates of the group alone
pub record GoOnAmongAll (t : PlanTable) (ps : PlanPrograms) (s : State) (ours : ℕ → Bool) (answers : List Liveness)
    (plates : Progress) : Type 0 where
  pub never : NeverStandStill t ps s ours
  pub runs : NoRunOfAllStandsStill t ps s ours
  pub each : (m : ℕ) (answer : Liveness) → ours m ≡ true → slice_get answers m ≡ Some answer
      → HoldsAmongAll t ps s ours m answer
  pub moving : IfWithin plates (PlatesMove t ps None [] (first_situation s))

-- ---- more situations than are explored

-- all come to more, too; and no turns of all that are fewer than these, or none at all, lead them to a standstill
pub record IsUnfinishedAmongAll (most : ℕ) (t : PlanTable) (ps : PlanPrograms) (s : State) (ours : ℕ → Bool)
    (extent : Extent) : Type 0 where
  pub more : ComeToMore t ps s most
  pub never : OfTurns (NeverStandStillBefore t ps s ours) (NeverStandStill t ps s ours) extent

-- ---- what a part tells

-- the text of a group that goes on, and of one that comes to a standstill
pub record GoingIsOfAll (n : Named) (ps : PlanPrograms) (s : State) (ours : ℕ → Bool) (text : Text) : Type 0 where
  pub situations : ℕ
  pub answers : List Liveness
  pub plates : Progress
  pub told : text ≡ free_line situations ++ part_text ours n (alone ours ps) s answers plates
  pub so : GoOnAmongAll n.plan ps s ours answers plates

pub record StandstillIsOfAll (n : Named) (ps : PlanPrograms) (s : State) (ours : ℕ → Bool) (text : Text) : Type 0 where
  pub turns : List ℕ
  pub told : text ≡ standstill_text n (alone ours ps) s turns (outlook_after n (alone ours ps) s turns)
  pub so : StandAmongAll (LeadThem n.plan ps s ours) turns

pub record PartsSpeakOfAll (n : Named) (ps : PlanPrograms) (s : State) : Type 0 where
  pub going : (groups : List ℕ) → AreGroups n.plan (group_in groups) → (first : ℕ) (starve : Bool) (text : Text)
      → TellsGoingBy n (alone (group_of groups first) ps) s
      (part_starves (group_of groups first) n (alone (group_of groups first) ps))
      (part_text (group_of groups first) n (alone (group_of groups first) ps) s) starve text
      → GoingIsOfAll n ps s (group_of groups first) text
  pub standstill : (groups : List ℕ) → AreGroups n.plan (group_in groups) → (first : ℕ) (text : Text)
      → TellsStandstill n (alone (group_of groups first) ps) s text
      → StandstillIsOfAll n ps s (group_of groups first) text
  pub unfinished : (most : ℕ) (groups : List ℕ) → AreGroups n.plan (group_in groups) → (first : ℕ) (extent : Extent)
      → IsUnfinished most n (alone (group_of groups first) ps) s extent
      → IsUnfinishedAmongAll most n.plan ps s (group_of groups first) extent
  -- each group has its part, and all is well only if it is in each
  pub parts : HaveTheirParts (told_of n ps s)
