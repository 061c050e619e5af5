-- What a share of a zone asks for, by whether the machine owns the zone and whether a plate is there.
use Rattle.std.specs.Prelude.{◌≡◌, Bool, true, false, ◌&&◌, List, [], ◌∷◌, Some, None}
use Rattle.cell_rules.specs.Types.{Machine, Posture, Zone, Closed, Moving, OpenIn, OpenOut}
use Rattle.cell_rules.specs.Names.{ModelState, owns, posture_at, zone_at}
use Rattle.cell_rules.specs.Types.{same_posture}
use Rattle.cell_control.specs.declared.share.Share.{Share}
use Rattle.cell_control.specs.declared.share.Share.TheVariants.{Clear, Loaded, Held, Lent, Unclaimed, Any}
use Rattle.cell_control.specs.declared.share.ZoneShare.{ZoneShare}
use Rattle.cell_control.specs.Keeping.{are_kept, has_share, is_kept, is_posed, posed, unposed}

-- whether it has the share of a zone that it owns with a plate, owns without one, doesn't own with one, and without
abbrev pub shares : Share → List Bool
shares share =
    has_share share true true ∷ has_share share true false
    ∷ has_share share false true ∷ has_share share false false ∷ []

pub record ShareExamples : Type 0 where
  pub clear : shares Clear ≡ false ∷ true ∷ false ∷ false ∷ []
  pub loaded : shares Loaded ≡ true ∷ false ∷ false ∷ false ∷ []
  pub held : shares Held ≡ true ∷ true ∷ false ∷ false ∷ []
  pub lent : shares Lent ≡ true ∷ false ∷ true ∷ true ∷ []
  pub unclaimed : shares Unclaimed ≡ true ∷ false ∷ true ∷ true ∷ []
  pub any : shares Any ≡ true ∷ true ∷ true ∷ true ∷ []
  pub any_posture : is_posed None Moving ≡ true
  pub its_posture : is_posed (Some OpenOut) OpenOut ≡ true
  pub other_posture : is_posed (Some OpenOut) OpenIn ≡ false
  pub in_posture : (share : Share) (posture : Posture)
      → posed share posture ≡ record { share = share; posture = Some posture }
  pub in_any_posture : (share : Share) → unposed share ≡ record { share = share; posture = None }

-- of a machine and a zone, by what the state has there; all zones of a list have to be kept
pub record KeepExamples (m : Machine) (z : ModelState) (y : Zone) : Type 0 where
  pub loaded : is_kept (posed Loaded Closed) m z y
      ≡ ((owns z m y && (zone_at z y).flag) && same_posture (posture_at z y) Closed)
  pub held : is_kept (posed Held OpenIn) m z y ≡ (owns z m y && same_posture (posture_at z y) OpenIn)
  pub any : is_kept (unposed Any) m z y ≡ true
  pub none_kept : are_kept [] m z ≡ true
  pub both_kept : (one other : Zone × ZoneShare) → is_kept one.1 m z one.0 ≡ true → is_kept other.1 m z other.0 ≡ true
      → are_kept (one ∷ other ∷ []) m z ≡ true
  pub first_not_kept : (one other : Zone × ZoneShare) → is_kept one.1 m z one.0 ≡ false
      → are_kept (one ∷ other ∷ []) m z ≡ false
  pub last_not_kept : (one other : Zone × ZoneShare) → is_kept other.1 m z other.0 ≡ false
      → are_kept (one ∷ other ∷ []) m z ≡ false

pub record SharesAreMet : Type 0 where
  pub shares : ShareExamples
  pub kept : (m : Machine) (z : ModelState) (y : Zone) → KeepExamples m z y
