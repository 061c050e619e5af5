-- The table is never refused, and leaves room for a plate of the feed belt.
use Rattle.cell_team.proofs.Names.{◌≡◌, ℕ, ℤ, ◌&&◌, Bool, true, false, if◌then◌else◌, [], ◌∷◌, Option, Some, None, refl, sym, ap, ◌∙◌, subst, ⊤, Zone, Z1, Z2, Closed, Moving, OpenIn, OpenOut, Turning, Loading, Unloading, Call, Claim, Done, transfer_of, same_posture, Scale, has, ModelState, is_full, IsSound, owns, posture_at, given_by, moves_at, reply, changed, emptied, filled, IsStartState, take_owned, full-foreign, UntilRoom, TableStep, TableProgress}
use Rattle.cell_types.specs.declared.machine.Machine.TheVariants.{Table as TableMachine}
use Rattle.cell_types.specs.declared.place.Place.TheVariants.{Table as OnTable}
use Rattle.cell_table_press.specs.Names.{with_plate, by_plate, row_of, after_done, is_off, table_start, table_steps}
use Rattle.cell_table_press.specs.declared.table.TableStep.TheVariants.{ClaimEntry, ClaimExit, LeaveForLoading, MoveToLoading, PoseLoading, ReleaseEntry, LeaveForUnloading, MoveToUnloading, PoseUnloading, TakePlate, GivePlate, ClaimBack}
use Rattle.cell_table_press.specs.TableProgram.{row_at, keeps_at, zones_at, is_there}
use Rattle.cell_table_press.proofs.lemmas.TableFacts as known
use Rattle.cell_control.specs.Keeping.{unposed}
use Rattle.cell_control.specs.declared.share.Share.TheVariants.{Clear}
use Rattle.cell_control.proofs.lemmas.SharedZones.{AreSure, AreShared}
use Rattle.cell_team.proofs.Waiting.{Heeds, Clears, HasRoom, may, has_room, no_jump, first_claim, claim_back, take_back, give_only, release_only, pose_only}
use Rattle.cell_team.proofs.lemmas.Shares.{shared_foreign, no_both, unowned, free_of, claimed_clear, noted_empty, noted_full}
use Rattle.cell_team.proofs.lemmas.Reaching.{KnowingMore, asks_no_yield}

-- what the step keeps, if nobody hands over an empty zone
pub record MoreAt (s : TableStep) (loaded : Bool) (z : ModelState) : Type 0 where
  pub shares : AreShared TableMachine z (zones_at s)
  pub plate : is_there (keeps_at s).plate loaded ≡ true
  pub noted : is_full z OnTable ≡ loaded

abbrev pub TableMore : TableProgress → ModelState → Type 0
TableMore p z = MoreAt p.step p.loaded z

-- after a drive
done_drive : (s : TableStep) (p : TableProgress) (z : ModelState) → (row_at s p).call ≡ None → MoreAt s p.loaded z → TableMore (row_at s p).next z
done_drive MoveToLoading p z e k = record { shares = k.shares; plate = k.plate; noted = k.noted }
done_drive MoveToUnloading p z e k = record { shares = k.shares; plate = k.plate; noted = k.noted }
done_drive _ p z e k = cc

drive_on : (b : Bool) (p : TableProgress) (z : ModelState) → (row_of p).call ≡ None → TableMore p z → TableMore (if b then after_done p else p) z
drive_on true p z e k = done_drive p.step p z e k
drive_on false p z e k = k

at_choice : (loaded : Bool) (p : TableProgress) (z : ModelState) → AreShared TableMachine z ((Z1, unposed Clear) ∷ (Z2, unposed Clear) ∷ []) → is_full z OnTable ≡ loaded → MoreAt (by_plate (with_plate p loaded)) loaded z
at_choice true p z k e = record { shares = k; plate = refl; noted = e }
at_choice false p z k e = record { shares = k; plate = refl; noted = e }

-- after a call that is done
abbrev AfterCall : ModelState → Option Call → TableProgress → Type 0
AfterCall z None q = ⊤
AfterCall z (Some c) q = reply z TableMachine c ≡ Done → TableMore q (changed z TableMachine c)

after_call : (s : TableStep) (p : TableProgress) (z : ModelState) → IsSound z → AreSure TableMachine z (zones_at s) → MoreAt s p.loaded z → AfterCall z (row_at s p).call (row_at s p).next
after_call ClaimEntry p z sound f k = λ d. record { shares = ((refl, claimed_clear z TableMachine Z1 sound d), k.shares.1); plate = refl; noted = k.noted }
after_call ClaimExit p z sound f k = λ d. at_choice p.loaded p (changed z TableMachine (Claim Z2)) (k.shares.0, ((refl, claimed_clear z TableMachine Z2 sound d), tt)) k.noted
after_call MoveToLoading p z sound f k = tt
after_call ReleaseEntry p z sound f k = λ d. record { shares = (λ o. cc, k.shares.1); plate = k.plate; noted = k.noted }
after_call TakePlate p z sound f k = λ d. record { shares = ((take_owned z TableMachine Z1 d, refl), k.shares.1); plate = refl; noted = ap (λ q. has (filled z.full (transfer_of Z1 q)) OnTable) f.0.1 }
after_call MoveToUnloading p z sound f k = tt
after_call GivePlate p z sound f k = λ d. record { shares = (k.shares.0, (λ o. cc, tt)); plate = refl; noted = ap (λ q. has (emptied z.full (given_by TableMachine (transfer_of Z2 q))) OnTable) f.1.0.1 }
after_call ClaimBack p z sound f k = λ d. record { shares = (k.shares.0, ((refl, claimed_clear z TableMachine Z2 sound d), tt)); plate = k.plate; noted = k.noted }
after_call _ p z sound f k = λ d. record { shares = k.shares; plate = k.plate; noted = k.noted }

pub table-more : (points : Scale) (gives : ℕ → ℤ → Type 0) → KnowingMore (table_steps points gives) known.TableKnows TableMore
table-more points gives = record {
  foreign = λ p z n c apart sound polite k. record {
    shares = shared_foreign TableMachine n c z (zones_at p.step) (known.table_firm p.step) apart sound polite k.shares;
    plate = k.plate;
    noted = full-foreign z n c OnTable sound apart ∙ k.noted;
  };
  after_drive = λ p r act z e d k. drive_on (is_off act.height && is_off act.rotation) p z e k;
  after_done = λ p z c e d sound f k. subst (λ o. AfterCall z o (row_of p).next) e (after_call p.step p z sound f k) d;
  after_inquiry = λ p z c owner flag posture e d sound f k. k;
}

pub table_begins : (z : ModelState) → IsStartState z → TableMore (table_start z) z
table_begins z k = subst (λ x. TableMore (table_start x) x) (sym k.same) (record { shares = ((λ o. cc, refl), ((λ o. cc, refl), tt)); plate = refl; noted = refl })

pub never_yields : (s : TableStep) (p : TableProgress) → asks_no_yield (row_at s p).call ≡ true
never_yields ClaimEntry p = refl
never_yields _ p = refl

-- ---- what it asks

clears : (z : ModelState) → AreShared TableMachine z ((Z1, unposed Clear) ∷ (Z2, unposed Clear) ∷ []) → Clears z TableMachine
clears z k Z1 e = k.0
clears z k Z2 e = k.1.0
clears z k y e = cc

room : (z : ModelState) → is_full z OnTable ≡ false → HasRoom z TableMachine Loading
room z empty Z1 e = empty
room z empty y e = cc

-- it arrives only while both zones move
moves : (z : ModelState) → posture_at z Z1 ≡ Moving → posture_at z Z2 ≡ Moving → (y : Zone) → moves_at z TableMachine y ≡ true
moves z first second Z1 = ap (λ q. same_posture q Moving) first
moves z first second Z2 = ap (λ q. same_posture q Moving) second
moves z first second _ = refl

heeds_at : (s : TableStep) (p : TableProgress) (z : ModelState) → IsSound z → AreSure TableMachine z (zones_at s) → MoreAt s p.loaded z → Heeds (row_at s p).waits z TableMachine (row_at s p).call
heeds_at ClaimEntry p z sound f k = let mine = unowned z TableMachine Z1 Closed sound k.shares.0.1 refl k.shares.0.0 in first_claim z TableMachine Z1 refl refl mine (free_of z Z1 sound k.shares.0.1 mine)
heeds_at ClaimExit p z sound f k = let mine = unowned z TableMachine Z2 Closed sound k.shares.1.0.1 refl k.shares.1.0.0 in first_claim z TableMachine Z2 refl refl mine (free_of z Z2 sound k.shares.1.0.1 mine)
heeds_at LeaveForLoading p z sound f k = pose_only z TableMachine Turning refl (clears z k.shares) refl (has_room z TableMachine Turning refl) refl
heeds_at MoveToLoading p z sound f k = tt
heeds_at PoseLoading p z sound f k = pose_only z TableMachine Loading refl (clears z k.shares) (no_jump z TableMachine (moves z f.0.1 f.1.0.1)) (room z (noted_empty _ _ k.noted k.plate)) refl
heeds_at ReleaseEntry p z sound f k = release_only z TableMachine Z1 refl k.shares.0.0 k.shares.0.1 (ap (λ q. same_posture q Moving) f.0.1) refl
heeds_at TakePlate p z sound f k = take_back z TableMachine Z1 refl k.shares.0
heeds_at LeaveForUnloading p z sound f k = pose_only z TableMachine Turning refl (clears z k.shares) refl (has_room z TableMachine Turning refl) refl
heeds_at MoveToUnloading p z sound f k = tt
heeds_at PoseUnloading p z sound f k = pose_only z TableMachine Unloading refl (clears z k.shares) (no_jump z TableMachine (moves z f.0.1 f.1.0.1)) (has_room z TableMachine Unloading refl) refl
heeds_at GivePlate p z sound f k = give_only UntilRoom z TableMachine Z2 _ refl k.shares.1.0.0 k.shares.1.0.1 (ap (λ q. given_by TableMachine (transfer_of Z2 q)) f.1.0.1) (noted_full _ _ k.noted k.plate) (may UntilRoom _ _ refl)
heeds_at ClaimBack p z sound f k = claim_back z TableMachine Z2 refl refl (unowned z TableMachine Z2 OpenOut sound f.1.0.1 refl k.shares.1.0)

pub table_heeds : (p : TableProgress) (z : ModelState) → IsSound z → known.TableKnows p z → TableMore p z → Heeds (row_of p).waits z TableMachine (row_of p).call
table_heeds p z sound f k = heeds_at p.step p z sound f k

-- while the feed belt may give a plate, the table is empty
room_at : (s : TableStep) (loaded : Bool) (z : ModelState) → MoreAt s loaded z → posture_at z Z1 ≡ OpenIn → owns z TableMachine Z1 ≡ false → is_full z OnTable ≡ false
room_at ClaimEntry loaded z k opens away = let shut : posture_at z Z1 ≡ Closed = k.shares.0.1 in cc
room_at TakePlate loaded z k opens away = noted_empty _ _ k.noted k.plate
room_at _ loaded z k opens away = no_both (owns z TableMachine Z1) _ k.shares.0.0 away

pub table_room : (p : TableProgress) (z : ModelState) → TableMore p z → posture_at z Z1 ≡ OpenIn → owns z TableMachine Z1 ≡ false → is_full z OnTable ≡ false
table_room p z k opens away = room_at p.step p.loaded z k opens away
