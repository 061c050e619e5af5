-- The lines that say whether machines go on for ever, whole.
use Rattle.std.specs.Prelude.{◌≡◌, ℕ, [], ◌∷◌, ◌++◌, codes}
use Rattle.graph_progress.specs.declared.answer.Reason.{Reason}
use Rattle.plan_types.specs.Table.{PlanTable}
use Rattle.plan_rules.specs.declared.state.State.{State}
use Rattle.plan_explorer.specs.Programs.{PlanPrograms}
use Rattle.plan_liveness.specs.declared.answer.Bound.{Bound}
use Rattle.plan_liveness.specs.declared.answer.FairOrder.{FairOrder}
use Rattle.plan_liveness.specs.declared.answer.Liveness.{Liveness}
use Rattle.plan_liveness.specs.declared.answer.Liveness.TheVariants.{Silent, Always, IfOne, IfAll, IfTwo}
use Rattle.plan_liveness.specs.declared.answer.Liveness.TheVariants.{Starves, Unknown}
use Rattle.plan_liveness.specs.declared.answer.Progress.TheVariants as progress
use Rattle.plan_liveness.specs.declared.answer.Relay.{Relay}
use Rattle.plan_text.specs.Names.{Text}
use Rattle.plan_text.specs.Named.{Named, named}
use Rattle.plan_app.specs.Going.{answer_words, plates_text, starves_text}
use Rattle.plan_header.specs.Words.{machine_name}

abbrev pub within : ℕ → ℕ → Bound
within plain helped = record { plain = plain; helped = helped }

abbrev pub relay : ℕ → ℕ → Relay
relay machine strong = record { machine = machine; strong = strong; bound = within 1 2; rounds = 10 }

-- of a plan whose machines are a lift, a cart and a door
abbrev pub three : PlanTable → Named
three plan = named plan (codes "lift" ∷ codes "cart" ∷ codes "door" ∷ []) [] [] []

-- what is said of the cart
abbrev pub cart_line : PlanTable → Liveness → Text
cart_line plan found = machine_name (three plan) 1 ++ answer_words (three plan) 1 found

-- and of the door
abbrev pub door_line : PlanTable → Liveness → Text
door_line plan found = machine_name (three plan) 2 ++ answer_words (three plan) 2 found

pub record WordsAreTold : Type 0 where
  pub silent : (t : PlanTable) → cart_line t Silent ≡ codes "cart asks nothing\n"
  pub always : (t : PlanTable) → cart_line t (Always (within 7 0))
      ≡ codes "cart goes on for ever in each fair order: within k * 7 turns\n"
  pub if_it : (t : PlanTable) (order : FairOrder) → cart_line t (IfOne 1 (within 3 3) order)
      ≡ codes "cart goes on for ever if it isn't passed over for ever: within k * 3 + k * k * 3 turns\n"
  pub if_other : (t : PlanTable) (order : FairOrder) → cart_line t (IfOne 2 (within 3 1) order)
      ≡ codes "cart goes on for ever if door isn't passed over for ever: within k * 3 + k * k * 1 turns\n"
  pub if_all : (t : PlanTable) (order : FairOrder) → cart_line t (IfAll (within 12 0) order)
      ≡ codes "cart goes on for ever if no machine is passed over for ever: within k * 12 turns\n"
  pub if_it_by_relay : (t : PlanTable) (order : FairOrder) → cart_line t (IfTwo (relay 0 1) order)
      ≡ codes "cart goes on for ever if it isn't passed over for ever: "
      ++ codes "within k * 10 * (k * 1 + k * k * 2) turns; lift brings it chances\n"
  pub if_two : (t : PlanTable) (order : FairOrder) → cart_line t (IfTwo (relay 0 2) order)
      ≡ codes "cart goes on for ever if neither it nor door is passed over for ever: "
      ++ codes "within k * 10 * (k * 1 + k * k * 2) turns; lift brings it chances\n"
  -- the same of the last machine, and by other figures
  pub if_it_of_door : (t : PlanTable) (order : FairOrder) → door_line t (IfOne 2 (within 4 0) order)
      ≡ codes "door goes on for ever if it isn't passed over for ever: within k * 4 turns\n"
  pub if_other_of_door : (t : PlanTable) (order : FairOrder) → door_line t (IfOne 1 (within 4 5) order)
      ≡ codes "door goes on for ever if cart isn't passed over for ever: within k * 4 + k * k * 5 turns\n"
  pub if_it_of_door_by_relay : (t : PlanTable) (order : FairOrder) → door_line t (IfTwo (relay 1 2) order)
      ≡ codes "door goes on for ever if it isn't passed over for ever: "
      ++ codes "within k * 10 * (k * 1 + k * k * 2) turns; cart brings it chances\n"
  pub if_two_of_door : (t : PlanTable) (order : FairOrder) → door_line t (IfTwo (relay 0 1) order)
      ≡ codes "door goes on for ever if neither it nor cart is passed over for ever: "
      ++ codes "within k * 10 * (k * 1 + k * k * 2) turns; lift brings it chances\n"
  pub if_two_by_door : (t : PlanTable) (order : FairOrder)
      → cart_line t (IfTwo (record { machine = 2; strong = 0; bound = within 5 7; rounds = 11 }) order)
      ≡ codes "cart goes on for ever if neither it nor lift is passed over for ever: "
      ++ codes "within k * 11 * (k * 5 + k * k * 7) turns; door brings it chances\n"
  pub starves : (t : PlanTable) (order : FairOrder) → cart_line t (Starves order)
      ≡ codes "cart may starve though no machine is passed over for ever\n"
  pub unknown : (t : PlanTable) (reason : Reason) → cart_line t (Unknown reason)
      ≡ codes "cart: it isn't known whether it goes on for ever\n"

-- an order of no turns
pub record IsEmpty (order : FairOrder) : Type 0 where
  pub stem : order.stem.items ≡ []
  pub cycle : order.cycle.items ≡ []

-- what is said of plates, and before an order in which a machine starves
pub record PlatesAreTold : Type 0 where
  pub move : (t : PlanTable) (ps : PlanPrograms) (s : State)
      → plates_text (three t) ps s (progress.Within (within 6 0))
      ≡ codes "plates move for ever in each fair order: within k * 6 turns\n"
  pub rest : (t : PlanTable) (ps : PlanPrograms) (s : State) (order : FairOrder) → IsEmpty order
      → plates_text (three t) ps s (progress.Starves order)
      ≡ codes "plates may rest for ever\n" ++ codes "  a fair order in which none moves: first\n"
      ++ codes "  and then again and again\n"
  pub unknown : (t : PlanTable) (ps : PlanPrograms) (s : State) (reason : Reason)
      → plates_text (three t) ps s (progress.Unknown reason) ≡ codes "it isn't known whether plates move for ever\n"
  pub machine : (t : PlanTable) (ps : PlanPrograms) (s : State) (order : FairOrder) → IsEmpty order
      → starves_text (three t) ps s 1 order
      ≡ codes "  a fair order in which it starves: first\n" ++ codes "  and then again and again\n"
