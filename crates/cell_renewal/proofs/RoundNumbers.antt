-- Rounds by their numbers.
use Rattle.std.proofs.Common.{◌≡◌, ◌≢◌, ◌≤◌, ℕ, true, false, inl, inr, refl, sym, ◌∙◌, ap, subst, arith}
use Rattle.cell_rules.specs.Types.{Machine, Feed, Table, Robot, Press, Deposit, Crane, Watch}
use Rattle.cell_rules.specs.Names.{ModelState}
use Rattle.cell_notes.specs.declared.status.Status.{Status}
use Rattle.cell_notes.specs.declared.status.Status.TheVariants.{Fine}
use Rattle.cell_threads.specs.Results.{outputs_in}
use Rattle.cell_threads.specs.declared.six_of.SixOf.{SixOf}
use Rattle.cell_renewal.specs.Renewing.{AreAllFine, OpensAfter}
use Rattle.cell_renewal.specs.RenewalExamples.{six}
use Rattle.cell_renewal.specs.RoundExamples.{Counting, Left, SixEnds, all_but, ends_as, how, watches}
use Rattle.cell_renewal.specs.RoundsByNumber.{IsNext, IsRound, RoundsByNumber, told_of}

abbrev AllFine : SixOf Status Status Status Status Status Status → Type 0
AllFine each = AreAllFine how how how how how how each

fine : AllFine (six Fine Fine Fine Fine Fine Fine)
fine = record { feed = refl; table = refl; robot = refl; press = refl; deposit = refl; crane = refl }

fine_six : (each : SixEnds) → AllFine each → each ≡ six Fine Fine Fine Fine Fine Fine
fine_six each k = λ i. record { feed = k.feed i; table = k.table i; robot = k.robot i; press = k.press i; deposit = k.deposit i; crane = k.crane i }

low : (mark : ℕ) (end next : ModelState) → OpensAfter mark end next → next.stamp ≤ mark
low mark end next (inl k) = let again : next.stamp ≡ 0 = ap (λ (s : ModelState). s.stamp) k.1 in omega (arith, again)
low mark end next (inr k) = let same : next.stamp ≡ end.stamp = ap (λ (s : ModelState). s.stamp) k.1 in omega (arith, same, k.0)

differ : ¬ (true ≡ false)
differ e = cc

module _ (tries limit mark : ℕ) where
  told : (m : Machine) → m ≢ Watch → (before : Counting) (left : Left) (sink : ℕ) → IsRound tries limit (told_of tries limit m) watches before left sink → ⊥
  told Feed other before left sink k = k.told.given.feed.1 refl (refl, k.told.losing, refl)
  told Table other before left sink k = k.told.given.table.1 refl (refl, k.told.losing, refl)
  told Robot other before left sink k = k.told.given.robot.1 refl (refl, k.told.losing, refl)
  told Press other before left sink k = k.told.given.press.1 refl (refl, k.told.losing, refl)
  told Deposit other before left sink k = k.told.given.deposit.1 refl (refl, k.told.losing, refl)
  told Crane other before left sink k = k.told.given.crane.1 refl (refl, k.told.losing, refl)
  told Watch other before left sink k = other refl

  given : (each : SixEnds) (before : Counting) (left : Left) (sink : ℕ) → IsRound tries limit (ends_as each) watches before left sink → left.outputs ≡ each
  given each before left sink k =
      let g = k.told.given in
      let all : outputs_in k.told.results ≡ each = (λ i. record {
        feed = g.feed.1 i;
        table = g.table.1 i;
        robot = g.robot.1 i;
        press = g.press.1 i;
        deposit = g.deposit.1 i;
        crane = g.crane.1 i;
      }) in
      ap (λ (l : Left). l.outputs) k.is ∙ (k.told.outputs ∙ all)

  one_stays : (m : Machine) → m ≢ Watch → (before now : Counting) → IsNext tries limit mark (all_but m) before now → ⊥
  one_stays Feed other before now k = differ k.goes_on.feed
  one_stays Table other before now k = differ k.goes_on.table
  one_stays Robot other before now k = differ k.goes_on.robot
  one_stays Press other before now k = differ k.goes_on.press
  one_stays Deposit other before now k = differ k.goes_on.deposit
  one_stays Crane other before now k = differ k.goes_on.crane
  one_stays Watch other before now k = other refl

  pub rounds-by-number : RoundsByNumber tries limit mark
  rounds-by-number = record {
    watch_tries = λ before left sink k. k.told.watch_is ∙ (k.told.watched_so.does ∙ k.told.losing);
    told = told;
    given = given;
    taken = λ before left sink k. (k.told.watch_is ∙ k.told.watched_so.does, k.taken);
    counted = λ before now k. (k.watch_is ∙ (k.ends.told.watch_is ∙ k.ends.told.watched_so.does), k.ends.taken);
    low_stamp = λ before now k. low mark k.left.end now.opening k.opens;
    all_fine_before = λ before now k. fine_six k.left.outputs k.fine;
    one_stays = one_stays;
    not_all_fine = λ first left sink k e. k.not_all_fine (subst AllFine (sym e) fine);
  }
