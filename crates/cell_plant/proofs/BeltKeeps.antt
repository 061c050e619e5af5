-- The invariant of a belt's side: it holds in every state of a run. The feed belt and the deposit belt have one form.
use Rattle.cell_plant.proofs.Names.{◌≡◌, Bool, false, IsTrue, List, [], ◌∷◌, Option, Some, None, refl, sym, ap, ◌∙◌, subst, Machine, Feed, Deposit, Z1, Z4, Z5, Z6, Place, FeedEntry, FeedEnd, DepEntry, DepEnd, Moving, OpenIn, OpenOut, Call, Done, keeper_of, same_machine, ModelState, is_full, event, reply, changed, Rig, Steps, Fact, AreSo, Finds, Knowing}
use Rattle.cell_plant.proofs.Names.{feed_start, feed_steps, FeedStep, FeedProgress, FeedKnows, feed_begins, feed-knowing, feed_at_start, feed_rig, deposit_start, deposit_steps, DepositStep, DepositProgress, DepositKnows, deposit-knowing, deposit_at_start, deposit_rig, Keeping, Demanding, WhileOn, demanding_while_on, set_belt, moved_belt, Belt}
use Rattle.cell_control.proofs.lemmas.SharedZones.{AreSure}
use Rattle.std.specs.Prelude.{⊤}
use Rattle.cell_belts_crane.specs.declared.feed.FeedStep.TheVariants as feed
use Rattle.cell_belts_crane.specs.declared.deposit.DepositStep.TheVariants as deposit
use Rattle.cell_belts_crane.specs.FeedProgram as feed_program
use Rattle.cell_belts_crane.specs.DepositProgram as deposit_program
use Rattle.cell_belts_crane.proofs.lemmas.FeedFacts as feed_facts
use Rattle.cell_belts_crane.proofs.lemmas.DepositFacts as deposit_facts
use Rattle.cell_plant.proofs.BeltPlates.{PlatesStand, plate_stands, plates_foreign, plates_set, plates_moved, still_runs, taken, moved_on, given}

-- what its step knows of the interlock; a plate is on it if and only if its place is full
pub record BeltInv {S : Type 0} (Knows : S → ModelState → Type 0) (first last : Place) (z : ModelState) (p : S) (b : Belt) : Type 0 where
  pub knows : Knows p z
  pub plates : PlatesStand z first last b

-- while it runs, these facts about its zones hold
abbrev pub BeltRuns : {S : Type 0} → Machine → List Fact → ModelState → S → Belt → Type 0
BeltRuns m facts = WhileOn m (λ b. IsTrue b.runs) (λ p. facts)

module _ {S Sense Act : Type 0} (t : Steps S Sense Sense Act) (rig : Rig Belt Sense Act) (runs : Act → Bool) (first last : Place) where
  -- it runs or stands as it is commanded, and carries its plates
  abbrev belt_rig : Rig Belt Sense Act
  belt_rig = record rig { set = λ b act. set_belt b (runs act); moves = moved_belt }

  -- after a step's call, if there is one and it is done, the plates on it are those of its places
  abbrev StandAfter : ModelState → S → Belt → Option Call → Type 0
  StandAfter z p b None = ⊤
  StandAfter z p b (Some c) = reply z t.machine c ≡ Done → PlatesStand (changed z t.machine c) first last (set_belt (rig.notes b (event t.machine c Done)) (runs (t.rest p)))

  module _ (Knows : S → ModelState → Type 0) where
    belt-keeping : (keeper_of first ≡ t.machine) × (keeper_of last ≡ t.machine) → Knowing t Knows → ((z : ModelState) (p : S) (b : Belt) → Knows p z → PlatesStand z first last b → StandAfter z p b (t.row p).call)
        → Keeping t belt_rig (BeltInv Knows first last) (BeltInv Knows first last)
    belt-keeping keeper known done = record {
      foreign = λ z p b n c apart sound i. record {
        knows = known.foreign p z n c apart sound i.knows;
        plates = plates_foreign z n c first last b sound (ap (same_machine n) keeper.0 ∙ apart) (ap (same_machine n) keeper.1 ∙ apart) i.plates;
      };
      rests = λ z p b i. record { knows = i.knows; plates = plates_set z first last b (runs (t.rest p)) i.plates };
      after_done = λ z p b c e d sound i. record { knows = known.after_done p z c e d sound i.knows; plates = subst (StandAfter z p b) e (done z p b i.knows i.plates) d };
      after_inquiry = λ z p b c owner flag posture e d sound i. record { knows = known.after_inquiry p z c owner flag posture e d sound i.knows; plates = plates_set z first last b (runs (t.rest p)) i.plates };
      after_drive = λ z p b s reading act e shows senses drives i. record { knows = known.after_drive p reading act z e drives i.knows; plates = plates_set z first last b (runs act) i.plates };
      told = λ z p b i. i;
      moves = λ z p b i. record { knows = i.knows; plates = plates_moved z first last b i.plates };
    }

    belt-demanding : (facts : List Fact) → ((p : S) → runs (t.rest p) ≡ false) → ((z : ModelState) (p : S) → (t.row p).call ≡ None → Knows p z → AreSo t.machine z facts)
        → Demanding t belt_rig (BeltInv Knows first last) (BeltInv Knows first last) (BeltRuns t.machine facts)
    belt-demanding facts rests drives =
        demanding_while_on t belt_rig (BeltInv Knows first last) (BeltInv Knows first last) (λ b. IsTrue b.runs) (λ p. facts) (λ p b on. let off = rests p in cc) (λ z p b s reading act e shows senses acts i on. drives z p e i.knows) (λ b on. sym (still_runs b) ∙ on)

-- ---- the feed belt

abbrev pub FeedInv : ModelState → FeedProgress → Belt → Type 0
FeedInv = BeltInv FeedKnows FeedEntry FeedEnd

pub feed-start : (s : ModelState) → FeedInv s (feed_start s) (feed_at_start s)
feed-start s = record { knows = feed_begins s; plates = record { entry = plate_stands (is_full s FeedEntry) _; end = plate_stands (is_full s FeedEnd) _ } }

feed_stands : (s : FeedStep) (p : FeedProgress) (z : ModelState) (b : Belt) → feed_facts.KnowsAt s p.entry p.last z → PlatesStand z FeedEntry FeedEnd b → StandAfter feed_steps feed_rig (λ act. act.belt) FeedEntry FeedEnd z p b (feed_program.row_at s p).call
feed_stands feed.TakePlate p z b i k = λ d. taken z Feed FeedEntry FeedEnd b k Z6 OpenIn i.facts.0.1 (refl, refl)
feed_stands feed.MoveOn p z b i k = λ d. moved_on z Feed FeedEntry FeedEnd b k d refl (refl, refl)
feed_stands feed.GivePlate p z b i k = λ d. given z Feed FeedEntry FeedEnd b k Z1 OpenIn i.facts.1.0.1 (refl, refl)
feed_stands feed.RunIn p z b i k = tt
feed_stands feed.RunOut p z b i k = tt
feed_stands s p z b i k = λ d. record { entry = k.entry; end = k.end }

pub feed-keeping : Keeping feed_steps feed_rig FeedInv FeedInv
feed-keeping = belt-keeping feed_steps feed_rig (λ act. act.belt) FeedEntry FeedEnd FeedKnows (refl, refl) feed-knowing (λ z p b i k. feed_stands p.step p z b i k)

-- while it runs it holds z6, which moves
abbrev pub FeedRuns : ModelState → FeedProgress → Belt → Type 0
FeedRuns = BeltRuns Feed (Finds Z6 Moving ∷ [])

pub feed-demanding : Demanding feed_steps feed_rig FeedInv FeedInv FeedRuns
feed-demanding = belt-demanding feed_steps feed_rig (λ act. act.belt) FeedEntry FeedEnd FeedKnows (Finds Z6 Moving ∷ []) (λ p. refl) (λ z p e i. ((feed_facts.drives_at p.step p z e i).0, tt))

-- ---- the deposit belt

abbrev pub DepositInv : ModelState → DepositProgress → Belt → Type 0
DepositInv = BeltInv DepositKnows DepEntry DepEnd

pub deposit-start : (s : ModelState) → DepositInv s (deposit_start s) (deposit_at_start s)
deposit-start s = record { knows = deposit_facts.deposit_begins s; plates = record { entry = plate_stands (is_full s DepEntry) _; end = plate_stands (is_full s DepEnd) _ } }

deposit_stands : (s : DepositStep) (p : DepositProgress) (z : ModelState) (b : Belt) → AreSure Deposit z (deposit_program.zones_at s) → PlatesStand z DepEntry DepEnd b → StandAfter deposit_steps deposit_rig (λ act. act.belt) DepEntry DepEnd z p b (deposit_program.row_at s p).call
deposit_stands deposit.TakePlate p z b i k = λ d. taken z Deposit DepEntry DepEnd b k Z4 OpenIn i.0.1 (refl, refl)
deposit_stands deposit.MoveOn p z b i k = λ d. moved_on z Deposit DepEntry DepEnd b k d refl (refl, refl)
deposit_stands deposit.GivePlate p z b i k = λ d. given z Deposit DepEntry DepEnd b k Z5 OpenOut i.1.0.1 (refl, refl)
deposit_stands deposit.RunIn p z b i k = tt
deposit_stands deposit.RunOut p z b i k = tt
deposit_stands s p z b i k = λ d. record { entry = k.entry; end = k.end }

pub deposit-keeping : Keeping deposit_steps deposit_rig DepositInv DepositInv
deposit-keeping = belt-keeping deposit_steps deposit_rig (λ act. act.belt) DepEntry DepEnd DepositKnows (refl, refl) deposit-knowing (λ z p b i k. deposit_stands p.step p z b i k)

-- while it runs it holds both its zones, which move
abbrev pub DepositRuns : ModelState → DepositProgress → Belt → Type 0
DepositRuns = BeltRuns Deposit (Finds Z4 Moving ∷ Finds Z5 Moving ∷ [])

pub deposit-demanding : Demanding deposit_steps deposit_rig DepositInv DepositInv DepositRuns
deposit-demanding =
    belt-demanding deposit_steps deposit_rig (λ act. act.belt) DepEntry DepEnd DepositKnows (Finds Z4 Moving ∷ Finds Z5 Moving ∷ []) (λ p. refl) (λ z p e i. let at = deposit_facts.drives_at p.step p z e i in ((at.0.0, at.1.0), ((at.0.1, at.1.1), tt)))
