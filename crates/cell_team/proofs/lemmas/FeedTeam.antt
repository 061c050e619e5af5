-- The feed belt is never refused, and leaves room for a plate of the crane.
use Rattle.cell_team.proofs.Names.{◌≡◌, ◌&&◌, Bool, true, false, not, if◌then◌else◌, List, [], ◌∷◌, Option, Some, None, refl, sym, ap, subst, ⊤, then_some, Feed, Z1, Z6, FeedEntry, FeedEnd, Posture, Closed, Moving, OpenIn, Landing, Running, Halted, Call, Claim, Give, PlaceFull, Done, transfer_of, same_posture, Zone, ModelState, zone_at, is_full, IsSound, is_received_by, owns, owner_of, posture_at, given_by, runs_onto_plate, reply, changed, IsStartState, owned_as, take_owned, and_left, and_right}
use Rattle.cell_team.proofs.Names.{Never, feed_start, feed_steps, FeedStep, FeedProgress}
use Rattle.cell_types.specs.declared.machine.Machine.TheVariants.{Table as TableMachine}
use Rattle.cell_types.specs.declared.place.Place.TheVariants.{Table as OnTable}
use Rattle.cell_belts_crane.specs.declared.feed.FeedStep.TheVariants.{StartIn, ClaimExit, StartOut, Halt, ClaimEntry, PoseLanding, ReleaseEntry, TakePlate, RunIn, MoveOn, RunOut, GivePlate}
use Rattle.cell_control.specs.Keeping.{unposed}
use Rattle.cell_control.specs.declared.share.Share.TheVariants.{Clear, Lent}
use Rattle.cell_control.specs.declared.share.ZoneShare.{ZoneShare}
use Rattle.cell_control.proofs.lemmas.SharedZones.{AreShared}
use Rattle.cell_belts_crane.specs.FeedProgram.{with_plates, by_plates, row_at, row_of, zones_at, after_done}
use Rattle.cell_belts_crane.proofs.lemmas.FeedFacts as known
use Rattle.cell_team.proofs.Waiting.{Heeds, Clears, HasRoom, unless, has_room, first_claim, claim_in, take_back, give_only, release_only, pose_only, advance_only}
use Rattle.cell_team.proofs.lemmas.Shares.{shared_foreign, no_both, unowned, clear_of, free_of, claimed_clear, noted_empty, noted_full}
use Rattle.cell_team.proofs.lemmas.Reaching.{KnowingMore, asks_no_yield}

-- what needs that nobody hands over an empty zone, of what the step keeps
abbrev pub FeedMore : FeedProgress → ModelState → Type 0
FeedMore p z = AreShared Feed z (zones_at p.step)

-- after a drive
done_drive : (s : FeedStep) (p : FeedProgress) (z : ModelState) → (row_at s p).call ≡ None → AreShared Feed z (zones_at s) → FeedMore (row_at s p).next z
done_drive RunIn p z e k = k
done_drive RunOut p z e k = k
done_drive _ p z e k = cc

drive_on : (b : Bool) (p : FeedProgress) (z : ModelState) → (row_of p).call ≡ None → FeedMore p z → FeedMore (if b then p else after_done p) z
drive_on true p z e k = k
drive_on false p z e k = done_drive p.step p z e k

at_choice : (entry last : Bool) (p : FeedProgress) (z : ModelState) → AreShared Feed z ((Z6, unposed Clear) ∷ (Z1, unposed Lent) ∷ []) → AreShared Feed z (zones_at (by_plates (with_plates p entry last)))
at_choice entry true p z k = k
at_choice true false p z k = k
at_choice false false p z k = k

-- after a call that is done
abbrev AfterCall : ModelState → Option Call → List (Zone × ZoneShare) → Type 0
AfterCall z None zones = ⊤
AfterCall z (Some c) zones = reply z Feed c ≡ Done → AreShared Feed (changed z Feed c) zones

after_call : (s : FeedStep) (p : FeedProgress) (z : ModelState) → IsSound z → AreShared Feed z (zones_at s) → AfterCall z (row_at s p).call (zones_at (row_at s p).next.step)
after_call ClaimEntry p z sound k = λ d. at_choice p.entry p.last p (changed z Feed (Claim Z6)) ((refl, claimed_clear z Feed Z6 sound d), k.1)
after_call ReleaseEntry p z sound k = λ d. (λ o. cc, k.1)
after_call TakePlate p z sound k = λ d. ((take_owned z Feed Z6 d, refl), k.1)
after_call RunIn p z sound k = tt
after_call ClaimExit p z sound k = λ d. (k.0, (refl, tt))
after_call RunOut p z sound k = tt
after_call GivePlate p z sound k = λ d. at_choice p.entry false p (changed z Feed (Give Z1)) (k.0, (λ o. cc, tt))
after_call _ p z sound k = λ d. k

pub feed-more : KnowingMore feed_steps known.FeedKnows FeedMore
feed-more = record {
  foreign = λ p z n c apart sound polite k. shared_foreign Feed n c z (zones_at p.step) (known.feed_firm p.step) apart sound polite k;
  after_drive = λ p s act z e d k. drive_on act.belt p z e k;
  after_done = λ p z c e d sound f k. subst (λ o. AfterCall z o (zones_at (row_of p).next.step)) e (after_call p.step p z sound k) d;
  after_inquiry = λ p z c owner flag posture e d sound f k. k;
}

pub feed_begins : (z : ModelState) → IsStartState z → FeedMore (feed_start z) z
feed_begins z k = subst (λ x. FeedMore (feed_start x) x) (sym k.same) ((λ o. cc, refl), (λ o. cc, tt))

pub never_yields : (s : FeedStep) (p : FeedProgress) → asks_no_yield (row_at s p).call ≡ true
never_yields ClaimEntry p = refl
never_yields _ p = refl

-- ---- what it asks

clears : (z : ModelState) → (owns z Feed Z6 ≡ true) × ((zone_at z Z6).flag ≡ false) → Clears z Feed
clears z k Z6 e = k
clears z k y e = cc

room : (z : ModelState) → is_full z FeedEntry ≡ false → HasRoom z Feed Landing
room z empty Z6 e = empty
room z empty y e = cc

-- it runs with its end empty, or holds the table's zone
runs_empty : (z : ModelState) → is_full z FeedEnd ≡ false → runs_onto_plate z Feed Running ≡ None
runs_empty z empty = ap (λ b. then_some (b && not (owns z Feed Z1)) PlaceFull) empty

held_end : (full held : Bool) → held ≡ true → then_some (full && not held) PlaceFull ≡ None
held_end true true e = refl
held_end false true e = refl
held_end full false e = cc

-- while feed owns z1, the table doesn't
others : (z : ModelState) → owns z Feed Z1 ≡ true → owns z TableMachine Z1 ≡ false
others z own = owned_as (owner_of z Z1) Feed TableMachine own

-- feed receives nothing in the table's zone
only_gives : (q : Posture) → is_received_by (Some Feed) (transfer_of Z1 q) ≡ false
only_gives Closed = refl
only_gives _ = refl

abbrev pub TableHasRoom : ModelState → Type 0
TableHasRoom z = posture_at z Z1 ≡ OpenIn → owns z TableMachine Z1 ≡ false → is_full z OnTable ≡ false

heeds_at : (s : FeedStep) (p : FeedProgress) (z : ModelState) → IsSound z → TableHasRoom z → known.KnowsAt s p.entry p.last z → AreShared Feed z (zones_at s) → Heeds (row_at s p).waits z Feed (row_at s p).call
heeds_at ClaimEntry p z sound space f k = let mine = unowned z Feed Z6 Closed sound k.0.1 refl k.0.0 in first_claim z Feed Z6 refl refl mine (free_of z Z6 sound k.0.1 mine)
heeds_at PoseLanding p z sound space f k = pose_only z Feed Landing refl (clears z k.0) refl (room z (noted_empty _ _ f.entry_noted (and_left (not p.entry) (not p.last) f.plates))) refl
heeds_at ReleaseEntry p z sound space f k = release_only z Feed Z6 refl k.0.0 k.0.1 (ap (λ q. same_posture q Moving) f.facts.0.1) refl
heeds_at TakePlate p z sound space f k = take_back z Feed Z6 refl k.0
heeds_at StartIn p z sound space f k = pose_only z Feed Running refl (clears z k.0) refl (has_room z Feed Running refl) (runs_empty z (noted_empty _ _ f.last_noted (and_right p.entry (not p.last) f.plates)))
heeds_at RunIn p z sound space f k = tt
heeds_at MoveOn p z sound space f k =
    advance_only z Feed (FeedEntry, FeedEnd) refl refl (ap (λ q. same_posture q Moving) f.facts.0.1)
    (noted_full _ _ f.entry_noted (and_left p.entry (not p.last) f.plates)) (noted_empty _ _ f.last_noted (and_right p.entry (not p.last) f.plates))
heeds_at ClaimExit p z sound space f k = claim_in z Feed Z1 refl (unowned z Feed Z1 (posture_at z Z1) sound refl (only_gives (posture_at z Z1)) k.1.0)
heeds_at StartOut p z sound space f k = pose_only z Feed Running refl (clears z k.0) refl (has_room z Feed Running refl) (held_end (is_full z FeedEnd) (owns z Feed Z1) f.facts.1.0.0)
heeds_at RunOut p z sound space f k = tt
heeds_at Halt p z sound space f k = pose_only z Feed Halted refl (clears z k.0) refl (has_room z Feed Halted refl) refl
heeds_at GivePlate p z sound space f k =
    let own : owns z Feed Z1 ≡ true = f.facts.1.0.0 in
    let opens : posture_at z Z1 ≡ OpenIn = f.facts.1.0.1 in
    give_only Never z Feed Z1 _ refl own (clear_of z Feed Z1 OpenIn sound opens refl own) (ap (λ q. given_by Feed (transfer_of Z1 q)) opens)
    (noted_full _ _ f.last_noted f.plates) (unless Never (is_full z OnTable) PlaceFull (space opens (others z own)))

pub feed_heeds : (p : FeedProgress) (z : ModelState) → IsSound z → TableHasRoom z → known.FeedKnows p z → FeedMore p z → Heeds (row_of p).waits z Feed (row_of p).call
feed_heeds p z sound space f k = heeds_at p.step p z sound space f k

-- while the crane may give a plate, the belt's entry is empty
room_at : (s : FeedStep) (entry last : Bool) (z : ModelState) → known.KnowsAt s entry last z → AreShared Feed z (zones_at s) → posture_at z Z6 ≡ OpenIn → owns z Feed Z6 ≡ false → is_full z FeedEntry ≡ false
room_at ClaimEntry entry last z f k opens away = let shut : posture_at z Z6 ≡ Closed = k.0.1 in cc
room_at TakePlate entry last z f k opens away = noted_empty _ _ f.entry_noted (and_left (not entry) (not last) f.plates)
room_at _ entry last z f k opens away = no_both (owns z Feed Z6) _ k.0.0 away

pub feed_room : (p : FeedProgress) (z : ModelState) → known.FeedKnows p z → FeedMore p z → posture_at z Z6 ≡ OpenIn → owns z Feed Z6 ≡ false → is_full z FeedEntry ≡ false
feed_room p z f k opens away = room_at p.step p.entry p.last z f k opens away
