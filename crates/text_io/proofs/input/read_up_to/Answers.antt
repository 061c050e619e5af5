use Rattle.std.proofs.Common.{List, ℕ, ◌≡◌, ◌≤◌, ◌++◌, length, take, arith, length-append, append-nil, min, ◌-◌, ◌∙◌, ap, sym, drop, Option, Some, None, IfSome, subst}
use Rattle.std.specs.Io.KnownBytes.{Consumes, IsAtEnd}
use Rattle.std.proofs.lemmas.List.{length-take, take-append-le, take_all}
use Rattle.std.proofs.KnownBytes.{Consumes-kept, Consumes-trans}
use Rattle.text_io.proofs.input.read_up_to.Goals as goal
use Rattle.text_io.proofs.input.read_up_to.Goals.{in-Ok+in_ok-extend_from_slice-in-Ok, in-Err+else-ne}

-- another part is still within the limit
within : (bytes block buf : List ℕ) (count room free most : ℕ) → length buf ≡ length (take room block) → count ≤ length buf → room ≡ min 8192 free → free ≡ most - length bytes → length bytes ≤ most → length (bytes ++ take count buf) ≤ most
within bytes block buf count room free most kept bound is left so_far = omega (arith, length-append bytes (take count buf), length-take count buf, length-take room block)

-- a read of no bytes took none
none_more : (a b c : Option (List ℕ)) (bytes buf : List ℕ) (count : ℕ) → count ≡ 0 → Consumes a b bytes → Consumes b c (take count buf) → Consumes a c bytes
none_more a b c bytes buf count none so_far read = subst (Consumes a c) (ap (λ n. bytes ++ take n buf) none ∙ append-nil bytes) (Consumes-trans a b c bytes (take count buf) so_far read)

-- as many bytes as may be taken were taken
all_allowed : (a b : Option (List ℕ)) (bytes : List ℕ) (most : ℕ) → most ≤ length bytes → length bytes ≤ most → Consumes a b bytes → IfSome a (λ xs. bytes ≡ take most xs)
all_allowed None b bytes most full few taken = tt
all_allowed (Some xs) None bytes most full few taken = absurd taken
all_allowed (Some xs) (Some ys) bytes most full few taken = rw taken (sym (take-append-le most bytes ys full ∙ take_all most bytes few))

-- all bytes were taken
all_there : (a b : Option (List ℕ)) (bytes : List ℕ) (most : ℕ) → length bytes ≤ most → Consumes a b bytes → IsAtEnd b → IfSome a (λ xs. bytes ≡ take most xs)
all_there None b bytes most few taken end = tt
all_there (Some xs) None bytes most few taken end = absurd taken
all_there (Some xs) (Some ys) bytes most few taken end =
    let all : xs ≡ bytes = taken ∙ ap (λ l. bytes ++ l) end ∙ append-nil bytes in
    rw all (sym (take_all most bytes few))

pub returns-then-room-eq0-clause-bytes : goal.returns-then-room-eq0-clause-bytes
returns-then-room-eq0-clause-bytes g c =
    all_allowed _ _ c.blocks-2.bytes.items c.args.most (omega arith) c.blocks-2.invariant.within c.blocks-2.invariant.taken

pub returns-in-Ok-eq0-clause-bytes : goal.returns-in-Ok-eq0-clause-bytes
returns-in-Ok-eq0-clause-bytes g c =
    let bytes = c.blocks-2.bytes.items in
    all_there _ _ bytes c.args.most c.blocks-2.invariant.within
    (none_more _ _ _ bytes c.read.new.buf c.in-Ok-eq0.field-0 c.in-Ok-eq0.field-0-test c.blocks-2.invariant.taken c.in-Ok-eq0.ensures.bytes.0)
    (c.in-Ok-eq0.ensures.bytes.1 c.in-Ok-eq0.field-0-test (omega (arith, c.read.auto.buf, length-take c.min-room.result c.blocks-2.block)))

pub returns-then-room-eq0-clause-taken : goal.returns-then-room-eq0-clause-taken
returns-then-room-eq0-clause-taken g c = (c.blocks-2.bytes.items, c.blocks-2.invariant.within, c.blocks-2.invariant.taken)

pub returns-in-Ok-eq0-clause-taken : goal.returns-in-Ok-eq0-clause-taken
returns-in-Ok-eq0-clause-taken g c =
    let bytes = c.blocks-2.bytes.items in
    (bytes, c.blocks-2.invariant.within, none_more _ _ _ bytes c.read.new.buf c.in-Ok-eq0.field-0 c.in-Ok-eq0.field-0-test c.blocks-2.invariant.taken c.in-Ok-eq0.ensures.bytes.0)

pub returns-then-ne-clause-taken : goal.returns-then-ne-clause-taken
returns-then-ne-clause-taken g c =
    let bytes = c.blocks-2.bytes.items in
    (bytes, c.blocks-2.invariant.within, Consumes-kept _ _ _ bytes c.blocks-2.invariant.taken c.in-Err.ensures.bytes)

pub returns-in_err-extend_from_slice-in-Ok-clause-taken : goal.returns-in_err-extend_from_slice-in-Ok-clause-taken
returns-in_err-extend_from_slice-in-Ok-clause-taken g c =
    let few = within c.blocks-2.bytes.items c.blocks-2.block c.read.new.buf c.in-Ok.count c.min-room.result c.saturating_sub.result c.args.most c.read.auto.buf c.in-Ok.ensures.bound.0 c.min-room.ensures (omega arith) c.blocks-2.invariant.within in
    (c.blocks-2.bytes.items ++ take c.in-Ok.count c.read.new.buf, few, Consumes-trans _ _ _ c.blocks-2.bytes.items (take c.in-Ok.count c.read.new.buf) c.blocks-2.invariant.taken c.in-Ok.ensures.bytes.0)

pub blocks-2-preserved : goal.blocks-2-preserved
blocks-2-preserved g c =
    elim c.match-read.branch [
      | in-Ok+in_ok-extend_from_slice-in-Ok w ↦
          let few = within c.blocks-2.bytes.items c.blocks-2.block c.read.new.buf w.in-Ok.count c.min-room.result c.saturating_sub.result c.args.most c.read.auto.buf w.in-Ok.ensures.bound.0 c.min-room.ensures (omega arith) c.blocks-2.invariant.within in
          let part : take w.in-Ok.count (c.read.new.buf ++ drop c.min-room.result c.blocks-2.block) ≡ take w.in-Ok.count c.read.new.buf = take-append-le w.in-Ok.count c.read.new.buf (drop c.min-room.result c.blocks-2.block) w.in-Ok.ensures.bound.0 in
          let items : w.extend_from_slice.new.self.items ≡ c.blocks-2.bytes.items ++ take w.in-Ok.count c.read.new.buf = w.in_ok-extend_from_slice-in-Ok.ensures.items ∙ ap (λ p. c.blocks-2.bytes.items ++ p) part in
          rw (w.bytes-is, items) record { within = few; taken = Consumes-trans _ _ _ c.blocks-2.bytes.items (take w.in-Ok.count c.read.new.buf) c.blocks-2.invariant.taken w.in-Ok.ensures.bytes.0 }
      | in-Err+else-ne w ↦
          rw w.bytes-is record { within = c.blocks-2.invariant.within; taken = Consumes-kept _ _ _ c.blocks-2.bytes.items c.blocks-2.invariant.taken w.in-Err.ensures.bytes }
    ]

pub returns-clause-taken : goal.returns-clause-taken
returns-clause-taken g c = (c.blocks-2.bytes.items, c.blocks-2.invariant.within, c.blocks-2.invariant.taken)
