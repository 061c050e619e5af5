-- Tallies and bounds, whatever their numbers are, and the lines of tallies.
use Rattle.std.specs.Prelude.{◌≡◌, ◌≢◌, ◌≤◌, ◌<◌, ◌+◌, ℕ, false, [], ◌++◌, codes, length}
use Rattle.std.specs.Fmt.{decimal}
use Rattle.std.specs.Global.{Vec}
use Rattle.cell_types.specs.declared.machine.Machine.{Machine}
use Rattle.cell_explorer.specs.declared.exploring.Explored.TheVariants.{Free, Refusal, Standstill}
use Rattle.cell_liveness.specs.declared.answers.Plates.{Plates}
use Rattle.cell_liveness.specs.declared.answers.Progress.TheVariants as progress
use Rattle.explore_app.specs.declared.bound.Bound.{Bound}
use Rattle.explore_app.specs.declared.liveness.Liveness.{Liveness}
use Rattle.explore_app.specs.declared.liveness.Liveness.TheVariants.{Starves, Unknown, Within}
use Rattle.explore_app.specs.declared.tally.Tally.{Tally}
use Rattle.explore_app.specs.Bounds.{Text}
use Rattle.explore_app.specs.Liveness.{any_starves, both, liveness_of, liveness_of_each, may_starve}
use Rattle.explore_app.specs.LinesByNumber.{between}
use Rattle.explore_app.specs.Tallies.{both_tallies, going_words, tally_line, tally_of}

-- ---- two numbers

-- the greater of two numbers, the smaller, and their sum, which 32 bits hold or which stays at the most that they hold
pub record IsGreater (a b n : ℕ) : Type 0 where
  pub is_left : b ≤ a → n ≡ a
  pub is_right : a ≤ b → n ≡ b

pub record IsSmaller (a b n : ℕ) : Type 0 where
  pub is_left : a ≤ b → n ≡ a
  pub is_right : b ≤ a → n ≡ b

pub record IsCount (a b n : ℕ) : Type 0 where
  pub is_sum : a + b ≤ 4294967295 → n ≡ a + b
  pub is_most : 4294967295 ≤ a + b → n ≡ 4294967295

-- ---- tallies

-- a tally of the starts of two
pub record IsOfBoth (a b t : Tally) : Type 0 where
  pub starts : IsCount a.starts b.starts t.starts
  pub free : IsCount a.free b.free t.free
  pub refused : IsCount a.refused b.refused t.refused
  pub bounded : IsCount a.bounded b.bounded t.bounded
  pub plain : IsGreater a.bound.plain b.bound.plain t.bound.plain
  pub helped : IsGreater a.bound.helped b.bound.helped t.bound.helped
  pub starving : IsCount a.starving b.starving t.starving
  pub most_situations : IsGreater a.most_situations b.most_situations t.most_situations
  pub fewest_turns : IsSmaller a.fewest_turns b.fewest_turns t.fewest_turns
  pub most_turns : IsGreater a.most_turns b.most_turns t.most_turns

-- a tally of one free start, with this many situations
abbrev pub free_tally : ℕ → Tally
free_tally situations =
    record {
      starts = 1;
      free = 1;
      refused = 0;
      bounded = 0;
      bound = record { plain = 0; helped = 0 };
      starving = 0;
      most_situations = situations;
      fewest_turns = 18446744073709551615;
      most_turns = 0;
    }

-- of one start from which this many turns lead to an end
abbrev pub ended_tally : ℕ → Tally
ended_tally turns =
    record {
      starts = 1;
      free = 0;
      refused = 0;
      bounded = 0;
      bound = record { plain = 0; helped = 0 };
      starving = 0;
      most_situations = 0;
      fewest_turns = turns;
      most_turns = turns;
    }

pub record TalliesByNumber : Type 0 where
  pub within : (situations : ℕ) (b : Bound)
      → tally_of (Free situations) (Within b) ≡ record (free_tally situations) { bounded = 1; bound = b }
  pub starves : (situations : ℕ)
      → tally_of (Free situations) Starves ≡ record (free_tally situations) { starving = 1 }
  pub unknown : (situations : ℕ) → tally_of (Free situations) Unknown ≡ free_tally situations
  pub standstill : (way : Vec Machine) → tally_of (Standstill way) Unknown ≡ ended_tally (length way.items)
  pub refusal : (way : Vec Machine)
      → tally_of (Refusal way) Unknown ≡ record (ended_tally (length way.items)) { refused = 1 }
  pub both : (a b : Tally) → IsOfBoth a b (both_tallies a b)

-- ---- lines

abbrev pub head : ℕ → Tally → Text → Text
head plates t text =
    codes "plates " ++ (decimal plates ++ (codes " starts " ++ (decimal t.starts ++ (codes ": " ++ text))))

-- how many turns lead to an end
abbrev pub after : Tally → Text
after t = codes " after " ++ (decimal t.fewest_turns ++ (codes " to " ++ (decimal t.most_turns ++ codes " turns\n")))

-- The line of a tally: where all starts are free, with what is said of their plates; else `still` starts stand still.
pub record TallyLines (plates : ℕ) (t : Tally) : Type 0 where
  pub free : t.free ≡ t.starts → tally_line plates t
      ≡ head plates t (codes "no standstill before the last stamp; at most " ++ (decimal t.most_situations
      ++ (codes " situations" ++ (going_words t ++ codes "\n"))))
  pub still : (still : ℕ) → t.free ≢ t.starts → t.refused ≡ 0 → t.starts ≡ still + t.free
      → tally_line plates t ≡ head plates t (decimal still ++ (codes " stand still" ++ after t))
  pub refused : (still : ℕ) → t.free ≢ t.starts → 0 < t.refused → t.starts ≡ still + t.refused + t.free
      → tally_line plates t
      ≡ head plates t (decimal still ++ (codes " stand still, and in " ++ (decimal t.refused
      ++ (codes " a machine is stopped by a refusal," ++ after t))))

abbrev pub starving_part : Tally → Text
starving_part t = codes "; from " ++ (decimal t.starving ++ codes " a machine may move no plate for ever")

abbrev pub unknown_part : ℕ → Text
unknown_part n = codes "; of " ++ (decimal n ++ codes " it isn't known whether each machine moves plates for ever")

-- What is said of the plates of free starts; of `unknown` of them neither a bound is known nor that a machine starves.
pub record GoingByNumber (t : Tally) (unknown : ℕ) : Type 0 where
  pub no_start : t.free ≡ 0 → going_words t ≡ []
  pub all_go_on : t.starving ≡ 0 → unknown ≡ 0 → 0 < t.free
      → going_words t ≡ between (codes "; each machine moves a plate within ") t.bound.plain t.bound.helped []
  pub some_starve : 0 < t.starving → unknown ≡ 0 → going_words t ≡ starving_part t
  pub some_unknown : t.starving ≡ 0 → 0 < unknown → going_words t ≡ unknown_part unknown
  pub some_of_each : 0 < t.starving → 0 < unknown → going_words t ≡ starving_part t ++ unknown_part unknown

pub record TallyLinesByNumber (t : Tally) : Type 0 where
  pub line : (plates : ℕ) → TallyLines plates t
  pub going : (unknown : ℕ) → t.free ≡ t.bounded + t.starving + unknown → GoingByNumber t unknown

-- ---- whether plates go on

pub record LivenessByNumber : Type 0 where
  pub within : (plain helped : ℕ)
      → liveness_of (progress.Within plain helped) ≡ Within (record { plain = plain; helped = helped })
  -- of two; of six, taken one after another
  pub both_within : (a b : Bound) → (c : Bound) × (both (Within a) (Within b) ≡ Within c)
      × IsGreater a.plain b.plain c.plain × IsGreater a.helped b.helped c.helped
  pub one_unknown : (b : Bound) → (both Unknown (Within b) ≡ Unknown) × (both (Within b) Unknown ≡ Unknown)
  pub one_starves : (l : Liveness) → (both Starves l ≡ Starves) × (both l Starves ≡ Starves)
  pub each : (p : Plates) → liveness_of_each p
      ≡ both (liveness_of p.feed) (both (liveness_of p.table) (both (liveness_of p.robot)
      (both (liveness_of p.press) (both (liveness_of p.deposit) (liveness_of p.crane)))))
  -- no bound is a warning
  pub within_warns_not : (b : Bound) → may_starve (Within b) ≡ false
  pub none_warns : (p : Plates) → may_starve (liveness_of p.any) ≡ false → may_starve (liveness_of_each p) ≡ false
      → any_starves p ≡ false
