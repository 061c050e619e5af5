-- Receipts put calls in order.
use Rattle.cell_interlock.proofs.Names.{◌≡◌, ℕ, List, Ok, refl, sym, ap, ◌∙◌, subst, Machine, Call, Answer, Event, Reply, Settled, Busy, ModelState, after, IsLegal, is_done_answer, event, BeginsWith, SeenAfter, cell_book, reply_from, IfSettled, IsStampedAfter, stamp_in, StandsBefore, ReceiptsOrderCalls, ReceiptsRaiseStamps, Moments}
use Rattle.word_interlock.specs.Calls as engine_calls
use Rattle.word_interlock.specs.Order as engine_order
use Rattle.word_interlock.specs.Timing.{BeginsAfter}
use Rattle.word_interlock.specs.declared.reply.Reply.{Reply as EngineReply}
use Rattle.word_interlock.specs.declared.reply.Reply.TheVariants.{Settled as EngineSettled, Busy as EngineBusy}
use Rattle.word_interlock.proofs.lemmas.Ordering as engine
use Rattle.cell_interlock.specs.BookKept.{cell_is_rule_book}
use Rattle.cell_interlock.proofs.Instance.{after_here, legal_there, settles_there}

-- what came back, for the engine
abbrev pub reply_to : Reply → EngineReply Answer
reply_to (Settled answer stamp) = EngineSettled answer stamp
reply_to (Busy lost stamp) = EngineBusy lost stamp

before_here : (seen : List Event) (e last : Event) (h : List Event) → engine_order.StandsBefore cell_book seen e last h → StandsBefore seen e last h
before_here seen e last h f = record { point = f.point; between = f.between; is = f.is; begins = f.begins; new = f.new }

stamped_to : (told : ℕ) (r : Reply) → engine_calls.IsStampedAfter cell_book told (reply_to r) → IsStampedAfter told r
stamped_to told (Settled a stamp) f = (f.0, λ done. f.1 (ap is_done_answer done))
stamped_to told (Busy lost stamp) f = f

pub seen_there : (m : Machine) (c : Call) (r : Reply) (s : ModelState) (x y : List Event) → SeenAfter m c (Ok r) s x y → engine_calls.SeenAfter cell_book m c (reply_to r) s x y
seen_there m c (Settled a stamp) s x y f = (settles_there m c a x y f.0, f.1 ∙ sym (ap (λ (t : ModelState). t.stamp) (after_here s y)))
seen_there m c (Busy lost stamp) s x y f = (record { begins = f.0.begins; own = f.0.own }, f.1 ∙ sym (ap (λ (t : ModelState). t.stamp) (after_here s y)))

-- two calls in order
pub order_here : (x y : EngineReply Answer) (m n : Machine) (c d : Call) (seen now : List Event) → engine_calls.IfSettled x (λ a. engine_calls.IfSettled y (λ b. engine_order.StandsBefore cell_book seen (event m c a) (event n d b) now))
    → IfSettled (reply_from x) (λ a. IfSettled (reply_from y) (λ b. StandsBefore seen (event m c a) (event n d b) now))
order_here (EngineSettled a s) (EngineSettled b t) m n c d seen now f = before_here seen (event m c a) (event n d b) now f
order_here (EngineSettled a s) (EngineBusy l t) m n c d seen now f = tt
order_here (EngineBusy l s) y m n c d seen now f = tt

pub began_here : (x : EngineReply Answer) (m : Machine) (c : Call) (n : Machine) (moments : Moments) → engine_calls.IfSettled x (λ a. BeginsAfter (event m c a) n moments) → IfSettled (reply_from x) (λ a. BeginsAfter (event m c a) n moments)
began_here (EngineSettled a s) m c n moments f = f
began_here (EngineBusy l s) m c n moments f = tt

pub stamps_here : (x y : EngineReply Answer) → engine_calls.IsStampedAfter cell_book (engine_calls.stamp_in x) y → IsStampedAfter (stamp_in (reply_from x)) (reply_from y)
stamps_here (EngineSettled a s) (EngineSettled b t) f = (f.0, λ done. f.1 (ap is_done_answer done))
stamps_here (EngineBusy l s) (EngineSettled b t) f = (f.0, λ done. f.1 (ap is_done_answer done))
stamps_here (EngineSettled a s) (EngineBusy l t) f = f
stamps_here (EngineBusy l s) (EngineBusy k t) f = f

pub receipts_order_calls : ReceiptsOrderCalls
receipts_order_calls m n c d a b seen answered receipt accepted heard now first took took_in later second =
    before_here seen (event m c a) (event n d b) now
    (engine.receipts_order_calls cell_book cell_is_rule_book m n c d a b seen answered receipt accepted heard now
    (settles_there m c a seen answered first) took took_in later (settles_there n d b heard now second))

pub stamp_seen : (m : Machine) (c : Call) (x : Reply) (o : ModelState) (seen now : List Event) → SeenAfter m c (Ok x) o seen now → stamp_in x ≡ (after o now).stamp
stamp_seen m c (Settled a s) o seen now it = it.1
stamp_seen m c (Busy l s) o seen now it = it.1

-- a call of one who has seen a history gets no lower stamp than that history's
pub stamped_after : (o : ModelState) (n : Machine) (d : Call) (y : Reply) (known heard now : List Event) → BeginsWith heard known → SeenAfter n d (Ok y) o heard now → IsLegal o now → IsStampedAfter (after o known).stamp y
stamped_after o n d y known heard now f it l =
    subst (λ (s : ModelState). IsStampedAfter s.stamp y) (after_here o known) (stamped_to _ y
    (engine.stamped_after cell_book cell_is_rule_book o n d (reply_to y) known heard now f (seen_there n d y o heard now it) (legal_there o now l)))

stamp_to : (x : Reply) → engine_calls.stamp_in (reply_to x) ≡ stamp_in x
stamp_to (Settled a s) = refl
stamp_to (Busy l s) = refl

pub receipts_raise_stamps : ReceiptsRaiseStamps
receipts_raise_stamps o m n c d x y seen answered receipt accepted heard now first took took_in later second legal =
    subst (λ (s : ℕ). IsStampedAfter s y) (stamp_to x) (stamped_to _ y
    (engine.receipts_raise_stamps cell_book cell_is_rule_book o m n c d (reply_to x) (reply_to y) seen answered receipt accepted heard now
    (seen_there m c x o seen answered first) took took_in later (seen_there n d y o heard now second) (legal_there o now legal)))
