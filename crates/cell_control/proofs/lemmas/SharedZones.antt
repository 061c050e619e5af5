-- What a machine's shares of its zones say: what no other machine changes, and what none changes that hands over no empty
-- zone.
use Rattle.std.proofs.Common.{◌≡◌, Bool, true, false, ◌||◌, is_none, Option, Some, None, List, [], ◌∷◌, refl, ap, ◌∙◌, subst}
use Rattle.std.specs.Prelude.{⊤}
use Rattle.cell_rules.specs.Types.{Machine, Zone, Posture, Call, same_machine, same_posture, one_machine, one_posture, host_of}
use Rattle.cell_rules.specs.Names.{ModelState, zone_at, IsSound, is_owned_by, owns, posture_at, next, IsSameFor}
use Rattle.cell_rules.proofs.lemmas.Tables.{and_left, and_right, and_both}
use Rattle.cell_rules.proofs.lemmas.Tellings.{same_posture-self}
use Rattle.cell_rules.proofs.lemmas.OwnSide.{zone-foreign, posture-foreign, full-foreign}
use Rattle.cell_control.specs.declared.share.Share.{Share}
use Rattle.cell_control.specs.declared.share.Share.TheVariants.{Clear, Loaded, Held, Lent, Unclaimed, Any}
use Rattle.cell_control.specs.declared.share.ZoneShare.{ZoneShare}
use Rattle.cell_control.specs.Keeping.{has_share, is_posed, is_kept, are_kept}

abbrev pub Posed : Option Posture → Posture → Type 0
Posed None now = ⊤
Posed (Some posture) now = now ≡ posture

-- what no other machine changes: that the machine owns the zone, and the posture, but for a zone that is as its start
-- left it
abbrev pub SureBy : Share → Bool → Type 0 → Type 0
SureBy Clear owned posture = (owned ≡ true) × posture
SureBy Loaded owned posture = (owned ≡ true) × posture
SureBy Held owned posture = (owned ≡ true) × posture
SureBy Lent owned posture = ⊤ × posture
SureBy Unclaimed owned posture = ⊤ × ⊤
SureBy Any owned posture = ⊤ × posture

abbrev pub IsSure : ZoneShare → Machine → ModelState → Zone → Type 0
IsSure k m z y = SureBy k.share (owns z m y) (Posed k.posture (posture_at z y))

abbrev pub AreSure : Machine → ModelState → List (Zone × ZoneShare) → Type 0
AreSure m z [] = ⊤
AreSure m z (row ∷ rows) = IsSure row.1 m z row.0 × AreSure m z rows

-- what needs that others hand over no empty zone
abbrev pub SharedBy : Share → Bool → Bool → Type 0 → Type 0
SharedBy Clear owned plate posture = (owned ≡ true) × (plate ≡ false)
SharedBy Loaded owned plate posture = (owned ≡ true) × (plate ≡ true)
SharedBy Held owned plate posture = owned ≡ true
SharedBy Lent owned plate posture = owned ≡ true → plate ≡ true
SharedBy Unclaimed owned plate posture = (owned ≡ true → plate ≡ true) × posture
SharedBy Any owned plate posture = ⊤

abbrev pub IsShared : ZoneShare → Machine → ModelState → Zone → Type 0
IsShared k m z y = SharedBy k.share (owns z m y) (zone_at z y).flag (Posed k.posture (posture_at z y))

abbrev pub AreShared : Machine → ModelState → List (Zone × ZoneShare) → Type 0
AreShared m z [] = ⊤
AreShared m z (row ∷ rows) = IsShared row.1 m z row.0 × AreShared m z rows

-- ---- the test of both

share_of : (s : Share) (owned plate : Bool) (P : Type 0) → has_share s owned plate ≡ true → P → SureBy s owned P × SharedBy s owned plate P
share_of Clear true false P e k = ((refl, k), (refl, refl))
share_of Clear true true P e k = cc
share_of Clear false plate P e k = cc
share_of Loaded true true P e k = ((refl, k), (refl, refl))
share_of Loaded true false P e k = cc
share_of Loaded false plate P e k = cc
share_of Held owned plate P e k = ((e, k), e)
share_of Lent true plate P e k = ((tt, k), λ o. e)
share_of Lent false plate P e k = ((tt, k), λ o. cc)
share_of Unclaimed true plate P e k = ((tt, tt), (λ o. e, k))
share_of Unclaimed false plate P e k = ((tt, tt), (λ o. cc, k))
share_of Any owned plate P e k = ((tt, k), tt)

of_share : (s : Share) (owned plate : Bool) (P : Type 0) → SureBy s owned P → SharedBy s owned plate P → (has_share s owned plate ≡ true) × P
of_share Clear true false P f k = (refl, f.1)
of_share Clear true true P f k = let e = k.1 in cc
of_share Clear false plate P f k = let e = k.0 in cc
of_share Loaded true true P f k = (refl, f.1)
of_share Loaded true false P f k = let e = k.1 in cc
of_share Loaded false plate P f k = let e = k.0 in cc
of_share Held owned plate P f k = (k, f.1)
of_share Lent true plate P f k = (k refl, f.1)
of_share Lent false plate P f k = (refl, f.1)
of_share Unclaimed true plate P f k = (k.0 refl, k.1)
of_share Unclaimed false plate P f k = (refl, k.1)
of_share Any owned plate P f k = (refl, f.1)

posed_of : (o : Option Posture) (now : Posture) → is_posed o now ≡ true → Posed o now
posed_of None now e = tt
posed_of (Some posture) now e = one_posture now posture e

of_posed : (o : Option Posture) (now : Posture) → Posed o now → is_posed o now ≡ true
of_posed None now e = refl
of_posed (Some posture) now e = subst (λ q. same_posture now q ≡ true) e (same_posture-self now)

kept_of : (k : ZoneShare) (m : Machine) (z : ModelState) (y : Zone) → is_kept k m z y ≡ true → IsSure k m z y × IsShared k m z y
kept_of k m z y e =
    let has = has_share k.share (owns z m y) (zone_at z y).flag in
    share_of k.share (owns z m y) (zone_at z y).flag (Posed k.posture (posture_at z y)) (and_left has _ e) (posed_of k.posture _ (and_right has _ e))

of_kept : (k : ZoneShare) (m : Machine) (z : ModelState) (y : Zone) → IsSure k m z y → IsShared k m z y → is_kept k m z y ≡ true
of_kept k m z y f h =
    let both = of_share k.share (owns z m y) (zone_at z y).flag (Posed k.posture (posture_at z y)) f h in
    and_both _ _ both.0 (of_posed k.posture _ both.1)

pub all_kept_of : (rows : List (Zone × ZoneShare)) (m : Machine) (z : ModelState) → are_kept rows m z ≡ true → AreSure m z rows × AreShared m z rows
all_kept_of [] m z e = (tt, tt)
all_kept_of (row ∷ rows) m z e =
    let here = kept_of row.1 m z row.0 (and_left (is_kept row.1 m z row.0) _ e) in
    let rest = all_kept_of rows m z (and_right (is_kept row.1 m z row.0) _ e) in
    ((here.0, rest.0), (here.1, rest.1))

pub of_all_kept : (rows : List (Zone × ZoneShare)) (m : Machine) (z : ModelState) → AreSure m z rows → AreShared m z rows → are_kept rows m z ≡ true
of_all_kept [] m z f h = refl
of_all_kept (row ∷ rows) m z f h = and_both _ _ (of_kept row.1 m z row.0 f.0 h.0) (of_all_kept rows m z f.1 h.1)

-- ---- other machines

-- the machine hosts the zone, or has it at least, or the posture may be any
abbrev pub has_zone : Share → Bool
has_zone Clear = true
has_zone Loaded = true
has_zone Held = true
has_zone _ = false

abbrev pub is_firm : Machine → Zone → ZoneShare → Bool
is_firm m y k = same_machine (host_of y) m || (is_none k.posture || has_zone k.share)

abbrev pub AreFirm : Machine → List (Zone × ZoneShare) → Type 0
AreFirm m [] = ⊤
AreFirm m (row ∷ rows) = (is_firm m row.0 row.1 ≡ true) × AreFirm m rows

first_of_two : (b : Bool) → (b || false) ≡ true → b ≡ true
first_of_two true e = refl
first_of_two false e = cc

module _ (m : Machine) (z w : ModelState) (same : IsSameFor m z w) where
  posture_held : (o : Option Posture) (y : Zone) → owns z m y ≡ true → Posed o (posture_at z y) → Posed o (posture_at w y)
  posture_held None y own k = tt
  posture_held (Some q) y own k = ap (λ v. v.posture) (same.owned y own) ∙ k

  held_same : (o : Option Posture) (y : Zone) → (owns z m y ≡ true) × Posed o (posture_at z y) → (owns w m y ≡ true) × Posed o (posture_at w y)
  held_same o y k = (ap (λ v. is_owned_by v.owner m) (same.owned y k.0) ∙ k.0, posture_held o y k.0 k.1)

  -- the posture of a zone that the machine hosts
  posture_same : (o : Option Posture) (y : Zone) → (same_machine (host_of y) m || (is_none o || false)) ≡ true → Posed o (posture_at z y) → Posed o (posture_at w y)
  posture_same None y firm k = tt
  posture_same (Some q) y firm k = same.hosted y (one_machine (host_of y) m (first_of_two (same_machine (host_of y) m) firm)) ∙ k

  sure_same : (s : Share) (o : Option Posture) (y : Zone) → is_firm m y (record { share = s; posture = o }) ≡ true → SureBy s (owns z m y) (Posed o (posture_at z y)) → SureBy s (owns w m y) (Posed o (posture_at w y))
  sure_same Clear o y firm k = held_same o y k
  sure_same Loaded o y firm k = held_same o y k
  sure_same Held o y firm k = held_same o y k
  sure_same Lent o y firm k = (tt, posture_same o y firm k.1)
  sure_same Unclaimed o y firm k = k
  sure_same Any o y firm k = (tt, posture_same o y firm k.1)

  pub are_sure_same : (rows : List (Zone × ZoneShare)) → AreFirm m rows → AreSure m z rows → AreSure m w rows
  are_sure_same [] firm k = k
  are_sure_same (row ∷ rows) firm k = (sure_same row.1.share row.1.posture row.0 firm.0 k.0, are_sure_same rows firm.1 k.1)

  -- a zone that was only lent still is
  module _ (lent : (y : Zone) → (owns z m y ≡ true → (zone_at z y).flag ≡ true) → owns w m y ≡ true → (zone_at w y).flag ≡ true) where
    own_same : (y : Zone) (plate : Bool) → (owns z m y ≡ true) × ((zone_at z y).flag ≡ plate) → (owns w m y ≡ true) × ((zone_at w y).flag ≡ plate)
    own_same y plate k = (ap (λ v. is_owned_by v.owner m) (same.owned y k.0) ∙ k.0, ap (λ v. v.flag) (same.owned y k.0) ∙ k.1)

    shared_same : (s : Share) (o : Option Posture) (y : Zone) → is_firm m y (record { share = s; posture = o }) ≡ true → SharedBy s (owns z m y) (zone_at z y).flag (Posed o (posture_at z y))
        → SharedBy s (owns w m y) (zone_at w y).flag (Posed o (posture_at w y))
    shared_same Clear o y firm k = own_same y false k
    shared_same Loaded o y firm k = own_same y true k
    shared_same Held o y firm k = ap (λ v. is_owned_by v.owner m) (same.owned y k) ∙ k
    shared_same Lent o y firm k = lent y k
    shared_same Unclaimed o y firm k = (lent y k.0, posture_same o y firm k.1)
    shared_same Any o y firm k = k

    pub are_shared_same : (rows : List (Zone × ZoneShare)) → AreFirm m rows → AreShared m z rows → AreShared m w rows
    are_shared_same [] firm k = k
    are_shared_same (row ∷ rows) firm k = (shared_same row.1.share row.1.posture row.0 firm.0 k.0, are_shared_same rows firm.1 k.1)

-- another machine's call leaves the state the same for the machine
pub foreign_same : (m n : Machine) (c : Call) (z : ModelState) → same_machine n m ≡ false → IsSound z → IsSameFor m z (next z n c)
foreign_same m n c z apart sound = record {
  owned = λ y own. zone-foreign z n m c y sound apart own;
  hosted = λ y e. posture-foreign z n c y (ap (λ x. same_machine n x) e ∙ apart);
  places = λ p e. full-foreign z n c p sound (ap (λ x. same_machine n x) e ∙ apart);
}
