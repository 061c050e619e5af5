-- What a machine holds lasts while the machine does nothing.
use Rattle.std.proofs.Common.{◌≡◌, ℕ, ◌<◌, inl, inr, Bool, true, false, not, cond, nat_eq, Option, Some, None, List, [], ◌∷◌, ◌++◌, length, get_or, set, refl, sym, ap, ◌∙◌, if◌then◌else◌, unwrap_or, arith}
use Rattle.std.proofs.lemmas.Bool.{false_from_ne_true}
use Rattle.std.proofs.lemmas.List.{get_or-set_other}
use Rattle.plan_types.specs.declared.posture.Posture.{Posture}
use Rattle.plan_types.specs.declared.call.Call.{Call}
use Rattle.plan_types.specs.declared.call.Call.TheVariants.{Claim, Give, Yield, Take, Release, SetPose, Inquire, Stop, Resume, Advance}
use Rattle.plan_types.specs.declared.answer.Answer.{Answer}
use Rattle.plan_types.specs.declared.answer.Answer.TheVariants.{Done, Shown, Refused}
use Rattle.plan_types.specs.declared.answer.Event.{Event}
use Rattle.plan_types.specs.Table.{PlanTable, zone_count, host_of, keeper_of, posture_of, same_space}
use Rattle.plan_types.specs.Plan.{IsPlan}
use Rattle.plan_rules.specs.declared.state.ZoneState.{ZoneState}
use Rattle.plan_rules.specs.declared.state.State.{State}
use Rattle.plan_rules.specs.State.{zone_at, owner_of, posture_at, is_full, free_zone}
use Rattle.plan_rules.specs.Sound.{IsSound, is_owned_by}
use Rattle.plan_rules.specs.Refusals.{owns}
use Rattle.plan_rules.specs.Reply.{reply, next, next_by, changed, other_party, with_owner, emptied, filled}
use Rattle.plan_rules.specs.History.{after, IsLegal, is_done_answer, is_done, Holds, own_events, posture_given, posture_since, posture_by_events}
use Rattle.plan_rules.specs.Laws.{RightLasts}
use Rattle.plan_rules.proofs.lemmas.Puts.{put_cases, apart-nat_eq}
use Rattle.plan_rules.proofs.lemmas.Spaces.{by_same, shared_owner, zone_at-handed, handed_other}
use Rattle.plan_rules.proofs.lemmas.Zones.{gives_way}
use Rattle.plan_rules.proofs.lemmas.DoneCalls.{claim_done, give_done, yield_done, take_done, release_done, pose_done, advance_done, Holder}
use Rattle.plan_rules.proofs.lemmas.Ways.{way_leads}
use Rattle.plan_rules.proofs.lemmas.Soundness.{done_none, never_done, next_keeps, in_ten, plate_comes, posed_zone, zone_after_pose, some_or_none}
use Rattle.plan_rules.proofs.Histories.{after-append, legal-left, sound-after}
use Rattle.plan_rules.proofs.Holders.{holds_iff_owns, owned_as}

-- ---- another machine's call leaves a zone that m owns

-- a zone that m doesn't own changes, and another is m's
put_other : (s : State) (m y : ℕ) (v : ZoneState) → y < length s.zones → owns s m y ≡ false → (z : ℕ) → owns s m z ≡ true → get_or (set s.zones y v) z free_zone ≡ zone_at s z
put_other s m y v l d z = put_cases (λ x u. owns s m x ≡ true → u ≡ zone_at s x) s.zones v free_zone y l (λ o. cc) (λ x ne o. refl) z

-- a zone whose space another machine owned, or nobody, stays
handed_stays : (t : PlanTable) (s : State) (y : ℕ) (o : Option ℕ) (plate : Bool) (m z : ℕ) → IsPlan t → IsSound t s → y < zone_count t → z < zone_count t → owns s m y ≡ false → owns s m z ≡ true
    → get_or (with_owner t s y o plate) z free_zone ≡ zone_at s z
handed_stays t s y o plate m z p k ly lz other own =
    let few = p.zones_at_most in
    let apart : same_space t y z ≡ false = false_from_ne_true (same_space t y z) (λ here.
    let clash : true ≡ false = sym own ∙ ap (λ x. is_owned_by x m) (shared_owner t s z y k lz ly (sym (by_same t y z here))) ∙ other in
    cc) in
    zone_at-handed t s y o plate z (omega (arith, few, lz)) ∙ handed_other t s y o plate z apart

another : (t : PlanTable) (s : State) (n m y : ℕ) → Holder t s n y → nat_eq n m ≡ false → owns s m y ≡ false
another t s n m y h d = owned_as (owner_of s y) n m h.owner ∙ d

zone_at-changed : (t : PlanTable) (s : State) (n : ℕ) (c : Call) (m z : ℕ) → IsPlan t → IsSound t s → z < zone_count t → nat_eq n m ≡ false → owns s m z ≡ true → reply t s n c ≡ Done → zone_at (changed t s n c) z ≡ zone_at s z
zone_at-changed t s n (Claim y) m z p k l d o e =
    let f = claim_done t s n y (done_none _ _ e) in
    handed_stays t s y (Some n) false m z p k f.caller.there l (ap (λ x. is_owned_by x m) f.free) o
zone_at-changed t s n (Give y) m z p k l d o e =
    let f = (give_done t s n y (done_none _ _ e)).holder in
    handed_stays t s y (Some (other_party t n y)) true m z p k f.caller.there l (another t s n m y f d) o
zone_at-changed t s n (Yield y) m z p k l d o e =
    let f = (yield_done t s n y (done_none _ _ e)).holder in
    handed_stays t s y (Some (other_party t n y)) false m z p k f.caller.there l (another t s n m y f d) o
zone_at-changed t s n (Take y) m z p k l d o e =
    let f = (take_done t s n y (done_none _ _ e)).holder in
    put_other s m y (record (zone_at s y) { flag = false }) (in_ten t s y p k f.caller.there) (another t s n m y f d) z o
zone_at-changed t s n (Release y) m z p k l d o e =
    let f = (release_done t s n y (done_none _ _ e)).holder in
    handed_stays t s y None false m z p k f.caller.there l (another t s n m y f d) o
zone_at-changed t s n (SetPose q) m z p k l d o e =
    let f = pose_done t s n q (done_none _ _ e) in
    zone_after_pose t s q z p l ∙ elim (posed_zone t s n q z p f l) [
      | inl same ↦ same
      | inr x ↦ let own = owned_as (owner_of s z) n m x.owner ∙ d in absurd (true_false (owns s m z) o own)
    ]
  where
    true_false : (b : Bool) → b ≡ true → b ≡ false → ⊥
    true_false true e f = cc
    true_false false e f = cc
zone_at-changed t s n (Inquire y) m z p k l d o e = never_done t s n y e
zone_at-changed t s n Stop m z p k l d o e = refl
zone_at-changed t s n Resume m z p k l d o e = refl
zone_at-changed t s n (Advance q) m z p k l d o e = refl

zone_at-by : (a : Answer) (t : PlanTable) (s : State) (n : ℕ) (c : Call) (z : ℕ) → (a ≡ Done → zone_at (changed t s n c) z ≡ zone_at s z) → zone_at (next_by a t s n c) z ≡ zone_at s z
zone_at-by Done t s n c z k = k refl
zone_at-by (Shown o f p) t s n c z k = refl
zone_at-by (Refused r) t s n c z k = refl

-- ---- and so does a history without events of m

-- the first event of such a history isn't m's, nor is any later one
pub own_head : (b : Bool) (e : Event) (own : List Event) → cond b (e ∷ own) own ≡ [] → (b ≡ false) × (own ≡ [])
own_head true e own h = cc
own_head false e own h = (refl, h)

pub zone_at-after : (t : PlanTable) (s : State) (h : List Event) (m z : ℕ) → IsPlan t → IsSound t s → z < zone_count t → own_events h m ≡ [] → owns s m z ≡ true → zone_at (after t s h) z ≡ zone_at s z
zone_at-after t s [] m z p k l none o = refl
zone_at-after t s (e ∷ h) m z p k l none o =
    let others = own_head (nat_eq e.machine m) e (own_events h m) none in
    let here = zone_at-by (reply t s e.machine e.call) t s e.machine e.call z (zone_at-changed t s e.machine e.call m z p k l others.0 o) in
    let still : owns (next t s e.machine e.call) m z ≡ true = ap (λ (v : ZoneState). is_owned_by v.owner m) here ∙ o in
    zone_at-after t (next t s e.machine e.call) h m z p (next_keeps t s e.machine e.call p k) l others.1 still ∙ here

right_lasts_zone : (t : PlanTable) (s : State) (before more : List Event) → IsPlan t → IsSound t s → IsLegal t s (before ++ more)
    → (m z : ℕ) → z < zone_count t → own_events more m ≡ [] → Holds t s before m z → zone_at (after t s (before ++ more)) z ≡ zone_at (after t s before) z
right_lasts_zone t s before more p k l m z there none held =
    let owned = (holds_iff_owns t s before m z p k (legal-left t s before more l)).0 held in
    ap (λ (x : State). zone_at x z) (after-append t s before more) ∙ zone_at-after t (after t s before) more m z p (sound-after t s before p k) there none owned

right_lasts_held : (t : PlanTable) (s : State) (before more : List Event) → IsPlan t → IsSound t s → IsLegal t s (before ++ more)
    → (m z : ℕ) → z < zone_count t → own_events more m ≡ [] → Holds t s before m z → Holds t s (before ++ more) m z
right_lasts_held t s before more p k l m z there none held =
    let owned = (holds_iff_owns t s before m z p k (legal-left t s before more l)).0 held in
    let same = right_lasts_zone t s before more p k l m z there none held in
    (holds_iff_owns t s (before ++ more) m z p k l).1 (ap (λ (v : ZoneState). is_owned_by v.owner m) same ∙ owned)

-- ---- a machine's own places

full-changed : (t : PlanTable) (s : State) (n : ℕ) (c : Call) (q : ℕ) → IsPlan t → IsSound t s → nat_eq n (keeper_of t q) ≡ false → reply t s n c ≡ Done → is_full (changed t s n c) q ≡ is_full s q
full-changed t s n (Give y) q p k d e =
    let f = give_done t s n y (done_none _ _ e) in
    let l = f.holder.caller.there in
    let g = gives_way t n y (posture_at s y) f.way (p.host_is_not_guest y l) f.is in
    let leads = way_leads t p y (posture_at s y) f.way l g.is in
    ap (λ o. get_or (emptied s.full o) q false) f.is
    ∙ get_or-set_other s.full f.way.from q false false (λ same. apart-nat_eq n (keeper_of t q) d (sym (ap (keeper_of t) same ∙ leads.from_giver ∙ g.giver)))
full-changed t s n (Take y) q p k d e =
    let f = take_done t s n y (done_none _ _ e) in
    let l = f.holder.caller.there in
    let c = plate_comes t s y k l f.plate in
    let leads = way_leads t p y (posture_at s y) c.way l c.is in
    let mine : n ≡ c.way.receiver = one_owner n c.way.receiver (sym f.holder.owner ∙ c.receiver) in
    ap (λ o. get_or (filled s.full o) q false) c.is
    ∙ get_or-set_other s.full c.way.to q true false (λ same. apart-nat_eq n (keeper_of t q) d (mine ∙ sym (ap (keeper_of t) same ∙ leads.to_receiver)))
  where
    one_owner : (a b : ℕ) → Some a ≡ Some b → a ≡ b
    one_owner a b e = ap (λ o. unwrap_or o a) e
full-changed t s n (Advance y) q p k d e =
    let f = advance_done t s n y (done_none _ _ e) in
    get_or-set_other s.full y q (not (is_full s y)) false (λ same. apart-nat_eq n (keeper_of t q) d (sym (ap (keeper_of t) same ∙ f.keeper)))
full-changed t s n (Inquire y) q p k d e = never_done t s n y e
full-changed t s n _ q p k d e = refl

full-by : (a : Answer) (t : PlanTable) (s : State) (n : ℕ) (c : Call) (q : ℕ) → (a ≡ Done → is_full (changed t s n c) q ≡ is_full s q) → is_full (next_by a t s n c) q ≡ is_full s q
full-by Done t s n c q k = k refl
full-by (Shown o f p) t s n c q k = refl
full-by (Refused r) t s n c q k = refl

full-after : (t : PlanTable) (s : State) (h : List Event) (q : ℕ) → IsPlan t → IsSound t s → own_events h (keeper_of t q) ≡ [] → is_full (after t s h) q ≡ is_full s q
full-after t s [] q p k none = refl
full-after t s (e ∷ h) q p k none =
    let m = keeper_of t q in
    let apart = own_head (nat_eq e.machine m) e (own_events h m) none in
    full-after t (next t s e.machine e.call) h q p (next_keeps t s e.machine e.call p k) apart.1
    ∙ full-by (reply t s e.machine e.call) t s e.machine e.call q (full-changed t s e.machine e.call q p k apart.0)

-- ---- the postures that a machine gives

-- only its host gives a zone a posture
unposed : (t : PlanTable) (n : ℕ) (c : Call) (z : ℕ) (now : Posture) (s : State) → IsPlan t → z < zone_count t → nat_eq n (host_of t z) ≡ false → reply t s n c ≡ Done → posture_given t c z now ≡ now
unposed t n (SetPose q) z now s p l d e =
    let f = pose_done t s n q (done_none _ _ e) in
    let few = p.zones_at_most in
    elim (some_or_none (posture_of t q z)) [
      | inl none ↦ ap (λ o. unwrap_or o now) none
      | inr x ↦ absurd (apart-nat_eq n (host_of t z) d (sym ((p.pose_of_host q z x.0 f.there (omega arith) x.1).1 ∙ f.machine)))
    ]
unposed t n _ z now s p l d e = refl

posture_step : (a : Answer) (now new : Posture) → (a ≡ Done → new ≡ now) → (if is_done_answer a then new else now) ≡ now
posture_step Done now new k = k refl
posture_step (Shown o f p) now new k = refl
posture_step (Refused r) now new k = refl

postures-last : (t : PlanTable) (s : State) (h : List Event) (z : ℕ) (now : Posture) → IsPlan t → IsLegal t s h → z < zone_count t → own_events h (host_of t z) ≡ [] → posture_since t now h z ≡ now
postures-last t s [] z now p l there none = refl
postures-last t s (e ∷ h) z now p l there none =
    let others = own_head (nat_eq e.machine (host_of t z)) e (own_events h (host_of t z)) none in
    let here = posture_step e.answer now (posture_given t e.call z now) (λ d. unposed t e.machine e.call z now s p there others.0 (sym l.0 ∙ d)) in
    ap (λ q. posture_since t q h z) here ∙ postures-last t (next t s e.machine e.call) h z now p l.1 there others.1

posture_since-append : (t : PlanTable) (now : Posture) (a b : List Event) (z : ℕ) → posture_since t now (a ++ b) z ≡ posture_since t (posture_since t now a z) b z
posture_since-append t now [] b z = refl
posture_since-append t now (e ∷ a) b z = posture_since-append t (if is_done e then posture_given t e.call z now else now) a b z

legal-right : (t : PlanTable) (s : State) (a b : List Event) → IsLegal t s (a ++ b) → IsLegal t (after t s a) b
legal-right t s [] b l = l
legal-right t s (e ∷ a) b l = legal-right t (next t s e.machine e.call) a b l.1

-- what a machine holds, its own places and the postures that it gives last while others make the events
pub right_lasts : (t : PlanTable) (s : State) (before more : List Event) → IsPlan t → IsSound t s → IsLegal t s (before ++ more) → RightLasts t s before more
right_lasts t s before more p k l = record {
  held = right_lasts_held t s before more p k l;
  zone = right_lasts_zone t s before more p k l;
  places = λ q there none. ap (λ (x : State). is_full x q) (after-append t s before more) ∙ full-after t (after t s before) more q p (sound-after t s before p k) none;
  posture = λ z there none. posture_since-append t (posture_at s z) before more z
      ∙ postures-last t (after t s before) more z (posture_by_events t s before z) p (legal-right t s before more l) there none;
}
