-- What the engine says by the rules of the cell, in the words of the cell.
use Rattle.cell_interlock.proofs.Names.{rules, ◌≡◌, ◌≢◌, ◌+◌, ℕ, true, false, List, [], ◌∷◌, Ok, refl, sym, ap, ◌∙◌, subst, Machine, Call, Answer, Done, Shown, Refused, Event, ModelState, reply, next, after, IsLegal, is_done_answer, LawfulThroughout, event, Settles, Waits, SeenAfter, legal-left, cell_book, EnginePass, EngineTry, pass_from, try_from, reply_from, IsSamePass, IsSettled, HasSeenMore, IsUnmade, HasChanges, IsOvertaken, IsPending, IsLost, IsBusy, Told, IsTimed, IsLookTimed, Replied}
use Rattle.word_interlock.specs.History as engine
use Rattle.word_interlock.specs.Seen as engine_seen
use Rattle.word_interlock.specs.Calls as engine_calls
use Rattle.word_interlock.specs.Tries as engine_tries
use Rattle.word_interlock.specs.Timing as engine_timing
use Rattle.word_interlock.specs.Asked as engine_asked
use Rattle.cell_interlock.specs.Calls.{IfBusy}
use Rattle.word_interlock.specs.declared.reply.Reply.{Reply as EngineReply}
use Rattle.word_interlock.specs.declared.reply.Reply.TheVariants.{Settled as EngineSettled, Busy as EngineBusy}
use Rattle.word_interlock.specs.declared.tries.Look.{Look as EngineLook}
use Rattle.word_interlock.specs.declared.tries.Look.TheVariants.{Settled as LookSettled, Pending}
use Rattle.cell_interlock.specs.declared.rules.CellRules.{CellRules}
use Rattle.cell_interlock.specs.Looks.{look_from}
use Rattle.cell_interlock.specs.Tries.{Looked, after_look}
use Rattle.cell_interlock.proofs.Settled.{lawful_history, settled, replied}

-- ---- histories

pub after_here : (s : ModelState) (h : List Event) → engine.after cell_book s h ≡ after s h
after_here s [] = refl
after_here s (e ∷ h) = after_here (next s e.machine e.call) h

pub legal_here : (s : ModelState) (h : List Event) → engine.IsLegal cell_book s h → IsLegal s h
legal_here s [] l = tt
legal_here s (e ∷ h) l = (l.0, legal_here (next s e.machine e.call) h l.1)

pub legal_there : (s : ModelState) (h : List Event) → IsLegal s h → engine.IsLegal cell_book s h
legal_there s [] l = tt
legal_there s (e ∷ h) l = (l.0, legal_there (next s e.machine e.call) h l.1)

pub lawful_here : (s : ModelState) (h : List Event) → engine.IsLawful cell_book s h → LawfulThroughout s h
lawful_here s h k = lawful_history s h k.opened (legal_here s h k.legal)

stamp_here : (s : ModelState) (h : List Event) (stamp : ℕ) → stamp ≡ (engine.after cell_book s h).stamp → stamp ≡ (after s h).stamp
stamp_here s h stamp e = e ∙ ap (λ (x : ModelState). x.stamp) (after_here s h)

pub waits_here : (m : Machine) (x y : List Event) → engine.Waits cell_book m x y → Waits m x y
waits_here m x y f = record { begins = f.begins; own = f.own }

pub settles_here : (m : Machine) (c : Call) (a : Answer) (x y : List Event) → engine.Settles cell_book m c a x y → Settles m c a x y
settles_here m c a x y f = record { point = f.point; begins = f.begins; ends = f.ends; own = f.own }

pub settles_there : (m : Machine) (c : Call) (a : Answer) (x y : List Event) → Settles m c a x y → engine.Settles cell_book m c a x y
settles_there m c a x y f = record { point = f.point; begins = f.begins; ends = f.ends; own = f.own }

pub seen_here : (m : Machine) (c : Call) (r : EngineReply Answer) (s : ModelState) (x y : List Event) → engine_calls.SeenAfter cell_book m c r s x y → SeenAfter m c (Ok (reply_from r)) s x y
seen_here m c (EngineSettled a stamp) s x y f = (settles_here m c a x y f.0, stamp_here s y stamp f.1)
seen_here m c (EngineBusy lost stamp) s x y f = (waits_here m x y f.0, stamp_here s y stamp f.1)

-- ---- answers

pub done_answer : (a : Answer) → is_done_answer a ≡ true → a ≡ Done
done_answer Done e = refl
done_answer (Shown o f p) e = cc
done_answer (Refused r) e = cc

pub isnt_done : (a : Answer) → is_done_answer a ≡ false → a ≢ Done
isnt_done a e is = let f : is_done_answer a ≡ true = ap is_done_answer is in cc

pub reply_here : (s : ModelState) (h : List Event) (m : Machine) (c : Call) → reply (engine.after cell_book s h) m c ≡ reply (after s h) m c
reply_here s h m c = ap (λ (x : ModelState). reply x m c) (after_here s h)

-- ---- passes

pub same_here : (v w : EnginePass) → engine_seen.IsSamePass v w → IsSamePass (pass_from v) (pass_from w)
same_here v w f = record { table = f.table; opening = f.opening; machine = f.actor }

pub more_here : (v w : EnginePass) → engine_seen.HasSeenMore cell_book v w → HasSeenMore (pass_from v) (pass_from w)
more_here v w f = search (rules, same_here, lawful_here, waits_here)

ready_here : (v : EnginePass) (c : Call) (w : EnginePass) → engine_seen.WouldBeDone cell_book v c w → reply (after v.opening w.seen) v.actor c ≡ Done
ready_here v c w f =
    done_answer (reply (after v.opening w.seen) v.actor c) (ap is_done_answer (sym (reply_here v.opening w.seen v.actor c)) ∙ f)

pub unmade_here : (v : EnginePass) (c : Call) (w : EnginePass) → engine_seen.IsUnmade cell_book v c w → IsUnmade (pass_from v) c (pass_from w)
unmade_here v c w f = record { more = more_here v w f.more; ready = ready_here v c w f.ready }

pub changes_here : (m : Machine) (x y : List Event) (n : ℕ) → engine_seen.HasChanges cell_book m x y n → HasChanges m x y n
changes_here m x y n f = record { more = f.more; is = f.is; many = f.many }

pub overtaken_here : (v : EnginePass) (x : List Event) (c : Call) (tries lost : ℕ) (w : EnginePass) → engine_seen.IsOvertaken cell_book v x c tries lost w → IsOvertaken (pass_from v) x c tries lost (pass_from w)
overtaken_here v x c tries lost w f = search (rules, ready_here, changes_here)

pub settled_here : (v : EnginePass) (c : Call) (a : Answer) (stamp : ℕ) (w : EnginePass) → engine_seen.IsSettled cell_book v c a stamp w → IsSettled (pass_from v) c a stamp (pass_from w)
settled_here v c a stamp w f =
    let h : List Event = f.seen.point in let last : List Event = event v.actor c a ∷ [] in
    settled (pass_from v) (pass_from w) c a stamp h f.lawful.opened
    (legal-left v.opening h last (subst (IsLegal v.opening) f.seen.ends (legal_here v.opening w.seen f.lawful.legal)))
    (waits_here v.actor v.seen h (f.right h f.seen.ends))
    (same_here v w f.pass)
    f.seen.ends
    (f.answer h f.seen.ends ∙ reply_here v.opening h v.actor c)
    (stamp_here v.opening w.seen stamp f.stamped)

-- ---- a call in steps

pub pending_here : (v : EnginePass) (c : Call) (most : ℕ) (t : EngineTry) → engine_tries.IsPending cell_book v c most t → IsPending (pass_from v) c most (try_from t)
pending_here v c most t f =
    record { unmade = unmade_here v c t.pass f.unmade; call = f.call; tries = f.tries; lost = f.lost; since = f.since }

-- a look, by its result
pub looked_here : (v : EnginePass) (c : Call) (most : ℕ) (look : EngineLook CellRules ModelState Machine Call Answer Event) → engine_tries.Looked cell_book v c most look → Looked (pass_from v) c most (look_from look)
looked_here v c most (LookSettled a stamp w) f = (settled_here v c a stamp w f.0, isnt_done a f.1)
looked_here v c most (Pending t) f = pending_here v c most t f

pub look_timed_here : (heard : Told) (v : EnginePass) (c : Call) (look : EngineLook CellRules ModelState Machine Call Answer Event) → engine_timing.IsLookTimed cell_book heard v c look → IsLookTimed heard (pass_from v) c (look_from look)
look_timed_here heard v c (LookSettled a stamp w) f = f
look_timed_here heard v c (Pending t) f = f

pub pass_after_look : (look : EngineLook CellRules ModelState Machine Call Answer Event) → after_look (look_from look) ≡ pass_from (engine_tries.after_look look)
pass_after_look (LookSettled a stamp w) = refl
pass_after_look (Pending t) = refl

pub lost_here : (t u : EngineTry) → engine_tries.IsLost cell_book t u → IsLost (try_from t) (try_from u)
lost_here t u f = search (rules, unmade_here, changes_here)

pub busy_here : (t : EngineTry) (lost stamp : ℕ) (w : EnginePass) → engine_tries.IsBusy cell_book t lost stamp w → IsBusy (try_from t) lost stamp (pass_from w)
busy_here t lost stamp w f = search (rules, more_here, overtaken_here)

-- ---- a whole call

pub timed_here : (heard : Told) (v : EnginePass) (c : Call) (r : EngineReply Answer) (w : EnginePass) → engine_timing.IsTimed cell_book heard v c r w → IsTimed heard (pass_from v) c (reply_from r) (pass_from w)
timed_here heard v c (EngineSettled a stamp) w f = f
timed_here heard v c (EngineBusy lost stamp) w f = f

pub replied_here : (heard : Told) (v : EnginePass) (c : Call) (tries : ℕ) (r : EngineReply Answer) (w : EnginePass) → engine_asked.Asked cell_book heard v c tries r w → Replied heard (pass_from v) c tries (reply_from r) (pass_from w)
replied_here heard v c tries (EngineSettled a stamp) w f =
    let s = settled_here v c a stamp w record { pass = f.pass; lawful = f.lawful; seen = f.seen.0; stamped = f.seen.1; answer = f.answer; right = f.right } in
    replied heard (pass_from v) (pass_from w) c tries a stamp s f.one_load f.few_exchanges f.real_time
replied_here heard v c tries (EngineBusy lost stamp) w f = record {
  pass = same_here v w f.pass;
  lawful = lawful_here v.opening w.seen f.lawful;
  seen = seen_here v.actor c (EngineBusy lost stamp) v.opening v.seen w.seen f.seen;
  answer = tt;
  right = tt;
  busy = overtaken_here v v.seen c tries lost w f.busy;
  one_load = f.one_load;
  few_exchanges = f.few_exchanges;
  all_lost = f.all_lost;
  since = changes_here v.actor w.since w.seen lost f.since;
  real_time = f.real_time;
}

-- ---- what a Busy call has lost

pub if_busy_here : (r : EngineReply Answer) (v : EnginePass) (x : List Event) (c : Call) (tries : ℕ) (w : EnginePass) → engine_calls.IfBusy r (λ lost. engine_seen.IsOvertaken cell_book v x c tries lost w) → IfBusy (reply_from r) (λ lost. IsOvertaken (pass_from v) x c tries lost (pass_from w))
if_busy_here (EngineSettled a stamp) v x c tries w f = tt
if_busy_here (EngineBusy lost stamp) v x c tries w f = overtaken_here v x c tries lost w f

pub since_here : (r : EngineReply Answer) (m : Machine) (x y : List Event) → engine_calls.IfBusy r (engine_seen.HasChanges cell_book m x y) → IfBusy (reply_from r) (HasChanges m x y)
since_here (EngineSettled a stamp) m x y f = tt
since_here (EngineBusy lost stamp) m x y f = changes_here m x y lost f

pub all_lost_here : (r : EngineReply Answer) (n m : ℕ) → engine_calls.IfBusy r (λ lost. m ≡ n + lost) → IfBusy (reply_from r) (λ lost. m ≡ n + lost)
all_lost_here (EngineSettled a stamp) n m f = tt
all_lost_here (EngineBusy lost stamp) n m f = f
