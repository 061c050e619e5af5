-- Rows: some bits of a word that a call needs, and what it writes. Rows of whole words, and of the fields of a word.
use Rattle.std.specs.Prelude.{◌≡◌, ℕ, ◌+◌, ◌<◌, ◌^◌, Bool, nat_eq, bit_and, bit_or, IsTrue}
use Rattle.plan_types.specs.declared.answer.Answer.TheVariants.{Done}
use Rattle.plan_types.specs.Table.{PlanTable}
use Rattle.plan_rules.specs.declared.state.State.{State}
use Rattle.plan_rules.specs.State.{last_stamp}
use Rattle.plan_rules.specs.Reply.{reply, next}
use Rattle.plan_word.specs.declared.layout.Field.{Field}
use Rattle.plan_word.specs.declared.layout.Field.TheVariants.{Stamp}
use Rattle.plan_word.specs.Layout.{Counts, counts_of, start_of}
use Rattle.plan_word.specs.OfPlan.{IsOfPlan}
use Rattle.plan_word.specs.Packed.{packed}
use Rattle.plan_word.specs.Reading.{told}
use Rattle.plan_compiled.specs.declared.part.Part.{Part}
use Rattle.plan_compiled.specs.Row.{Row}

-- the bits under the mask are the wanted ones
abbrev pub matches : Part → ℕ → Bool
matches p n = nat_eq (bit_and n p.mask) p.wanted

-- some bits kept, the others cleared, and then some set
abbrev pub written : Part → ℕ → ℕ
written p n = bit_or (bit_and n p.keep) p.set

-- what a row says of a field
abbrev pub part_in : Counts → Part → Field → Part
part_in c p f = record {
  mask = told c p.mask f;
  wanted = told c p.wanted f;
  keep = told c p.keep f;
  set = told c p.set f;
}

-- a row is right: whenever its bits are as wanted, in a state whose stamp isn't the last one, its call is done, and
-- what it writes, with the next stamp, is the word of the state after it
pub record IsRight (t : PlanTable) (r : Row) : Type 0 where
  pub done : (s : State) → IsOfPlan t s → IsTrue (matches r.part (packed t s)) → s.stamp < last_stamp
      → reply t s r.machine r.call ≡ Done
  pub next : (s : State) → IsOfPlan t s → IsTrue (matches r.part (packed t s)) → s.stamp < last_stamp
      → packed t (next t s r.machine r.call) ≡ written r.part (packed t s) + 2 ^ start_of (counts_of t) Stamp
