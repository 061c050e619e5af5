-- What the feed belt knows of the state at each step of its program.
use Rattle.std.proofs.Common.{◌≡◌, pos, Bool, true, false, ◌&&◌, not, if◌then◌else◌, List, Some, None, refl, sym, ap, ◌∙◌, arith}
use Rattle.cell_rules.specs.Types.{Feed, Z1, Z6, FeedEntry, FeedEnd, Posture, Moving, OpenIn, Landing, Running, Halted, Call, Claim, Give, Take, Release, SetPose, Advance, Done, Event, transfer_of}
use Rattle.cell_rules.specs.Names.{has, ModelState, is_full, one_if, IsSound, is_open, is_of_some_pose, owns, posture_at, given_by, IsSameFor, next, reply, changed, filled, emptied, after, IsLegal, plates_at}
use Rattle.cell_rules.proofs.lemmas.Holders.{take_owned}
use Rattle.cell_rules.proofs.lemmas.Tables.{and_right}
use Rattle.cell_rules.proofs.lemmas.Conserved.{plates-kept}
use Rattle.cell_control.specs.Steps.{IsReached}
use Rattle.cell_control.proofs.lemmas.StepLemmas.{Knowing, reached_knows}
use Rattle.cell_control.proofs.lemmas.Facts.{seen_held, seen_in, entered, posed}
use Rattle.cell_control.proofs.lemmas.SharedZones.{AreSure, AreFirm, are_sure_same, foreign_same}
use Rattle.cell_belts_crane.specs.Names.{feed_steps}
use Rattle.cell_belts_crane.specs.declared.feed.FeedStep.{FeedStep}
use Rattle.cell_belts_crane.specs.declared.feed.FeedStep.TheVariants.{StartIn, ClaimExit, StartOut, Halt}
use Rattle.cell_belts_crane.specs.declared.feed.FeedProgress.{FeedProgress}
use Rattle.cell_belts_crane.specs.declared.feed.FeedStep.TheVariants.{ClaimEntry, PoseLanding, ReleaseEntry, TakePlate, RunIn, MoveOn, RunOut, GivePlate}
use Rattle.cell_belts_crane.specs.BeltShares.{are_there}
use Rattle.cell_belts_crane.specs.FeedProgram.{with_plates, by_plates, row_at, row_of, keeps_at, zones_at, after_done, HoldsForRun}

-- what no other machine changes of what the step keeps
pub record KnowsAt (s : FeedStep) (entry last : Bool) (z : ModelState) : Type 0 where
  pub facts : AreSure Feed z (zones_at s)
  pub plates : are_there (keeps_at s).plates entry last ≡ true
  pub entry_noted : is_full z FeedEntry ≡ entry
  pub last_noted : is_full z FeedEnd ≡ last

abbrev pub FeedKnows : FeedProgress → ModelState → Type 0
FeedKnows p z = KnowsAt p.step p.entry p.last z

pub feed_begins : (z : ModelState) → FeedKnows (feed_steps.start z) z
feed_begins z = record { facts = ((tt, tt), ((tt, tt), tt)); plates = refl; entry_noted = refl; last_noted = refl }

-- after a drive
done_drive : (s : FeedStep) (p : FeedProgress) (z : ModelState) → (row_at s p).call ≡ None → KnowsAt s p.entry p.last z → FeedKnows (row_at s p).next z
done_drive RunIn p z e k = record { facts = k.facts; plates = k.plates; entry_noted = k.entry_noted; last_noted = k.last_noted }
done_drive RunOut p z e k = record { facts = k.facts; plates = k.plates; entry_noted = k.entry_noted; last_noted = k.last_noted }
done_drive _ p z e k = cc

-- at the first step of the next group
at_choice : (entry last : Bool) (p : FeedProgress) (z : ModelState) → owns z Feed Z6 ≡ true → is_full z FeedEntry ≡ entry → is_full z FeedEnd ≡ last → KnowsAt (by_plates (with_plates p entry last)) entry last z
at_choice entry true p z o e l = record { facts = ((o, tt), ((tt, tt), tt)); plates = refl; entry_noted = e; last_noted = l }
at_choice true false p z o e l = record { facts = ((o, tt), ((tt, tt), tt)); plates = refl; entry_noted = e; last_noted = l }
at_choice false false p z o e l = record { facts = ((o, tt), ((tt, tt), tt)); plates = refl; entry_noted = e; last_noted = l }

-- the zone shared with the table opens only inward
opens_in : (q : Posture) → is_open q ≡ true → is_of_some_pose Z1 q ≡ true → q ≡ OpenIn
opens_in OpenIn e f = refl
opens_in _ e f = cc

-- a plate comes to the entry, and one leaves the end
taken_from : (z : ModelState) → posture_at z Z6 ≡ OpenIn → (is_full (changed z Feed (Take Z6)) FeedEntry ≡ true) × (is_full (changed z Feed (Take Z6)) FeedEnd ≡ is_full z FeedEnd)
taken_from z opens = (ap (λ q. has (filled z.full (transfer_of Z6 q)) FeedEntry) opens, ap (λ q. has (filled z.full (transfer_of Z6 q)) FeedEnd) opens)

given_to : (z : ModelState) → posture_at z Z1 ≡ OpenIn → (is_full (changed z Feed (Give Z1)) FeedEntry ≡ is_full z FeedEntry) × (is_full (changed z Feed (Give Z1)) FeedEnd ≡ false)
given_to z opens = (ap (λ q. has (emptied z.full (given_by Feed (transfer_of Z1 q))) FeedEntry) opens, ap (λ q. has (emptied z.full (given_by Feed (transfer_of Z1 q))) FeedEnd) opens)

-- after a call that is done
done_call : (s : FeedStep) (p : FeedProgress) (c : Call) (z : ModelState) → (row_at s p).call ≡ Some c → reply z Feed c ≡ Done → IsSound z → KnowsAt s p.entry p.last z
    → FeedKnows (row_at s p).next (changed z Feed c)
done_call ClaimEntry p (Claim Z6) z e d sound k = at_choice p.entry p.last p (changed z Feed (Claim Z6)) refl k.entry_noted k.last_noted
done_call PoseLanding p (SetPose Landing) z e d sound k = record { facts = ((k.facts.0.0, refl), k.facts.1); plates = k.plates; entry_noted = k.entry_noted; last_noted = k.last_noted }
done_call ReleaseEntry p (Release Z6) z e d sound k = record { facts = ((tt, k.facts.0.1), k.facts.1); plates = k.plates; entry_noted = k.entry_noted; last_noted = k.last_noted }
done_call TakePlate p (Take Z6) z e d sound k =
    let places = taken_from z k.facts.0.1 in
    record { facts = ((take_owned z Feed Z6 d, tt), k.facts.1); plates = and_right (not p.entry) (not p.last) k.plates; entry_noted = places.0; last_noted = places.1 ∙ k.last_noted }
done_call StartIn p (SetPose Running) z e d sound k = record { facts = ((k.facts.0.0, refl), k.facts.1); plates = k.plates; entry_noted = k.entry_noted; last_noted = k.last_noted }
done_call MoveOn p Advance z e d sound k = record { facts = ((k.facts.0.0, tt), k.facts.1); plates = refl; entry_noted = refl; last_noted = refl }
done_call ClaimExit p (Claim Z1) z e d sound k =
    record { facts = (k.facts.0, ((refl, opens_in (posture_at z Z1) (entered z Z1 Feed d refl) (posed z Z1 sound)), tt)); plates = k.plates; entry_noted = k.entry_noted; last_noted = k.last_noted }
done_call StartOut p (SetPose Running) z e d sound k = record { facts = ((k.facts.0.0, refl), k.facts.1); plates = k.plates; entry_noted = k.entry_noted; last_noted = k.last_noted }
done_call Halt p (SetPose Halted) z e d sound k = record { facts = ((k.facts.0.0, refl), k.facts.1); plates = k.plates; entry_noted = k.entry_noted; last_noted = k.last_noted }
done_call GivePlate p (Give Z1) z e d sound k =
    let places = given_to z k.facts.1.0.1 in
    at_choice p.entry false p (changed z Feed (Give Z1)) k.facts.0.0 (places.0 ∙ k.entry_noted) places.1
done_call s p c z e d sound k = cc

-- its postures are of zones that it hosts or holds
pub feed_firm : (s : FeedStep) → AreFirm Feed (zones_at s)
feed_firm StartOut = (refl, (refl, tt))
feed_firm _ = (refl, (refl, tt))

same_known : (p : FeedProgress) (z w : ModelState) → IsSameFor Feed z w → FeedKnows p z → FeedKnows p w
same_known p z w same k = record {
  facts = are_sure_same Feed z w same (zones_at p.step) (feed_firm p.step) k.facts;
  plates = k.plates;
  entry_noted = same.places FeedEntry refl ∙ k.entry_noted;
  last_noted = same.places FeedEnd refl ∙ k.last_noted;
}

pub feed-knowing : Knowing feed_steps FeedKnows
feed-knowing = record {
  foreign = λ p z n c apart sound k. same_known p z (next z n c) (foreign_same Feed n c z apart sound) k;
  after_drive = λ p s act z e d k. elim act.belt as (λ on. FeedKnows (if on then p else after_done p) z) [ true ↦ k | false ↦ done_drive p.step p z e k ];
  after_done = λ p z c e d sound k. done_call p.step p c z e d sound k;
  after_inquiry = λ p z c owner flag posture e d sound k. k;
  same_for = λ p z w same k. same_known p z w same k;
}

-- while the belt runs in, no plate is at its end
none_at_end : (b entry last : Bool) → b ≡ last → (entry && not last) ≡ true → b ≡ false
none_at_end b entry last s f = grind arith

-- so in a step that drives the belt holds the crane's zone, which moves, and with a plate at its end the table's zone
pub drives_at : (s : FeedStep) (p : FeedProgress) (z : ModelState) → (row_at s p).call ≡ None → KnowsAt s p.entry p.last z
    → ((owns z Feed Z6 ≡ true) × (posture_at z Z6 ≡ Moving)) × (is_full z FeedEnd ≡ true → owns z Feed Z1 ≡ true)
drives_at RunIn p z e k = (k.facts.0, λ full. let none : is_full z FeedEnd ≡ false = none_at_end _ p.entry p.last k.last_noted k.plates in cc)
drives_at RunOut p z e k = (k.facts.0, λ full. k.facts.1.0.0)
drives_at _ p z e k = cc

one_is_full : (b : Bool) → pos (one_if b) ≡ pos 1 → b ≡ true
one_is_full true e = refl
one_is_full _ e = cc

pub drives-held : (opening : ModelState) (seen : List Event) (p : FeedProgress) → IsSound opening → IsLegal opening seen → IsReached feed_steps opening seen p → (row_of p).call ≡ None → HoldsForRun opening seen
drives-held opening seen p sound legal r e =
    let at = drives_at p.step p (after opening seen) e (reached_knows feed_steps FeedKnows feed-knowing feed_begins opening seen p sound legal r) in
    let full : plates_at opening seen FeedEnd ≡ pos 1 → is_full (after opening seen) FeedEnd ≡ true = λ one. one_is_full _ (sym ((plates-kept opening seen sound legal).at_place FeedEnd) ∙ one) in
    record {
      entry = seen_held opening seen Feed Z6 legal at.0.0;
      moves = seen_in opening seen Z6 Moving legal at.0.1;
      exit = λ one. seen_held opening seen Feed Z1 legal (at.1 (full one));
    }
