-- Which groups are told apart, and lines of their parts.
use Rattle.std.specs.Prelude.{◌≡◌, ℕ, true, false, List, [], ◌∷◌, ◌++◌, codes, None}
use Rattle.plan_types.specs.declared.call.Call.TheVariants.{Claim, Give, Yield, Take, Release, SetPose}
use Rattle.plan_types.specs.declared.call.Call.TheVariants.{Inquire, Advance}
use Rattle.plan_types.specs.Table.{plan_table}
use Rattle.plan_explorer.specs.Examples.{start}
use Rattle.plan_explorer.specs.Programs.{PlanPrograms}
use Rattle.plan_liveness.specs.declared.answer.FairOrder.{FairOrder}
use Rattle.plan_liveness.specs.declared.answer.Liveness.{Liveness}
use Rattle.plan_liveness.specs.declared.answer.Liveness.TheVariants.{Silent, Always, Starves}
use Rattle.plan_liveness.specs.declared.answer.Progress.TheVariants.{Within}
use Rattle.plan_liveness.specs.declared.answer.Progress.TheVariants as progress
use Rattle.plan_text.specs.Named.{Named, named}
use Rattle.plan_app.specs.Apart.{group_of, hands_over, head_of, is_first, large_of, names_text, part_starves, part_text}
use Rattle.plan_app.specs.Apart.{some_are_apart, some_move_plates}
use Rattle.plan_app.specs.declared.explore.Extent.TheVariants.{Fewer}
use Rattle.plan_app.specs.declared.going.TheConstants.{FAIRNESS}

-- four machines, and a place
abbrev pub four : Named
four =
    named (plan_table 4 [] [] (0 ∷ [])) (codes "a" ∷ codes "b" ∷ codes "c" ∷ codes "d" ∷ []) [] (codes "bin" ∷ []) []

-- the first and the third are of one group, the others of another
abbrev pub pairs : List ℕ
pairs = 2 ∷ 1 ∷ 2 ∷ 1 ∷ []

-- the first gives, the second claims, and the fourth waits
abbrev pub three_ask : PlanPrograms
three_ask = (Give 0 ∷ []) ∷ (Claim 1 ∷ []) ∷ [] ∷ (Inquire 1 ∷ []) ∷ []

abbrev pub bound_five : Liveness
bound_five = Always (record { plain = 5; helped = 0 })

pub record PartsAreTold : Type 0 where
  -- the order is that of the groups' first machines
  pub firsts : (is_first pairs 0 ≡ true) × (is_first pairs 1 ≡ true) × (is_first pairs 2 ≡ false)
      × (is_first pairs 3 ≡ false)
  pub head : head_of (names_text four pairs 0 4) ≡ codes "apart from all others: a, c\n"
  pub other : head_of (names_text four pairs 1 4) ≡ codes "apart from all others: b, d\n"
  pub alone : head_of (names_text four (0 ∷ 1 ∷ 2 ∷ 3 ∷ []) 2 4) ≡ codes "apart from all others: c\n"
  pub large : large_of 1000000 (names_text four pairs 1 4) (Fewer 12)
      ≡ codes "large: b, d: more than 1000000 situations; " ++ codes "nothing stands still in fewer than 12 turns"
  -- they are told apart if two groups ask something
  pub two : some_are_apart pairs three_ask ≡ true
  pub one : some_are_apart pairs ((Give 0 ∷ []) ∷ [] ∷ (Take 0 ∷ []) ∷ [] ∷ []) ≡ false
  pub none : some_are_apart pairs ([] ∷ [] ∷ [] ∷ [] ∷ []) ≡ false
  -- who gives or takes moves plates, and who lets them come or go
  pub gives : some_move_plates three_ask ≡ true
  pub takes : some_move_plates ([] ∷ (Claim 0 ∷ Take 0 ∷ []) ∷ []) ≡ true
  pub others : some_move_plates ((Claim 0 ∷ Yield 0 ∷ Release 0 ∷ SetPose 1 ∷ Inquire 0 ∷ []) ∷ []) ≡ false
  pub advances : some_move_plates ([] ∷ (Claim 0 ∷ Advance 0 ∷ []) ∷ []) ≡ true
  pub nothing : hands_over None ≡ false
  -- of its own machines a part says what is answered, and of plates if they move some
  pub text : part_text (group_of pairs 0) four three_ask (start true true)
      (bound_five ∷ Silent ∷ Silent ∷ Silent ∷ []) (Within (record { plain = 6; helped = 0 }))
      ≡ codes "a goes on for ever in each fair order: within k * 5 turns\n" ++ codes "c asks nothing\n"
      ++ codes "plates move for ever in each fair order: within k * 6 turns\n" ++ FAIRNESS.now
  pub no_plates : part_text (group_of pairs 1) four ([] ∷ (Claim 1 ∷ []) ∷ []) (start true true)
      (Silent ∷ bound_five ∷ []) (Within (record { plain = 6; helped = 0 }))
      ≡ codes "b goes on for ever in each fair order: within k * 5 turns\n" ++ FAIRNESS.now
  -- who starves among others isn't counted, nor plates that nobody moves
  pub starves : (order : FairOrder) → part_starves (group_of pairs 0) four three_ask
      (bound_five ∷ Silent ∷ Starves order ∷ Silent ∷ []) (Within (record { plain = 6; helped = 0 })) ≡ true
  pub not_ours : (order : FairOrder) → part_starves (group_of pairs 1) four three_ask
      (bound_five ∷ Silent ∷ Starves order ∷ Silent ∷ []) (Within (record { plain = 6; helped = 0 })) ≡ false
  pub rest : (order : FairOrder) → part_starves (group_of pairs 0) four three_ask
      (bound_five ∷ Silent ∷ Silent ∷ Silent ∷ []) (progress.Starves order) ≡ true
  pub rest_alone : (order : FairOrder) → part_starves (group_of pairs 1) four ([] ∷ (Claim 1 ∷ []) ∷ [])
      (Silent ∷ bound_five ∷ []) (progress.Starves order) ≡ false
