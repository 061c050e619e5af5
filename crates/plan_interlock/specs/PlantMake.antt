-- A new interlock of a plant, and its passes.
use Rattle.std.specs.Prelude.{◌≡◌, ℕ, Bool, ◌||◌, nat_eq, nat_lt, if◌then◌else◌, List, [], ◌∷◌, ◌++◌, length, map}
use Rattle.std.specs.Prelude.{All, Option, Some, None}
use Rattle.std.specs.List.{list_all, range_with_len}
use Rattle.plan_types.specs.Table.{watch}
use Rattle.plan_types.specs.declared.answer.Event.{Event}
use Rattle.plan_rules.specs.declared.state.State.{State}
use Rattle.word_interlock.specs.Views.{PassesView, pass_of}
use Rattle.word_interlock.specs.Rule.{new_view}
use Rattle.word_interlock.specs.Bunches.{fresh_passes}
use Rattle.plan_interlock.specs.declared.rules.PlanRules.{PlanRules}
use Rattle.plan_interlock.specs.declared.plant_make.PlantFault.{PlantFault}
use Rattle.plan_interlock.specs.declared.plant_make.PlantFault.TheVariants.{Tries, Words, Machines}
use Rattle.plan_interlock.specs.declared.plant_make.WordOpening.{WordOpening}
use Rattle.plan_interlock.specs.Book.{callers_of, plan_book, plan_of}
use Rattle.plan_interlock.specs.Plant.{WordView, RightView, PlantPassView}

-- a word opens with a sound state of its plan
abbrev pub OpensSoundly : WordOpening → Type 0
OpensSoundly w = (plan_book (plan_of w.rules)).is_sound w.state

-- how many machines a word's plan has; those of the first word's; and whether all have as many
abbrev pub machines_of : WordOpening → ℕ
machines_of w = (plan_of w.rules).machines

abbrev pub machines_in : List WordOpening → ℕ
machines_in [] = 0
machines_in (w ∷ rest) = machines_of w

abbrev pub have_same_machines : List WordOpening → Bool
have_same_machines words = list_all (λ w. nat_eq (machines_of w) (machines_in words)) words

-- why no interlock can be made of these words, memory aside
abbrev pub plant_fault : List WordOpening → ℕ → Option PlantFault
plant_fault words tries =
    if nat_lt tries 1 || nat_lt 64 tries then Some Tries
    else if nat_eq (length words) 0 || nat_lt 16 (length words) then Some Words
    else if have_same_machines words then None else Some Machines

-- each word's interlock is by its rules, opens with its state, and lets a call lose this number of exchanges
pub record AreOpened (words : List WordOpening) (tries : ℕ) (interlocks : List WordView) : Type 0 where
  pub rules : map (λ i. i.rules) interlocks ≡ map (λ w. w.rules) words
  pub opening : map (λ i. i.opening) interlocks ≡ map (λ w. w.state) words
  pub limit : All (λ i. i.tries ≡ tries) interlocks

-- who has a pass: the machines, of this number, and the watch
abbrev pub callers : ℕ → List ℕ
callers machines = range_with_len 0 machines ++ watch ∷ []

-- a machine's right on a word, and its pass on all words, before its first call: it has seen nothing, and made no step
abbrev pub new_right : ℕ → WordView → RightView
new_right m i = pass_of i.table (new_view i.rules i.opening m)

abbrev pub new_pass : List WordView → ℕ → PlantPassView
new_pass words m = record { actor = m; rights = map (new_right m) words }

-- the passes of each word that aren't taken yet, while it is these callers' turn
abbrev pub passes_left : List WordView → List ℕ → List (PassesView PlanRules State ℕ Event)
passes_left words left = map (λ i. fresh_passes i left) words

abbrev pub all_passes : WordView → PassesView PlanRules State ℕ Event
all_passes i = fresh_passes i (callers_of (plan_of i.rules))
