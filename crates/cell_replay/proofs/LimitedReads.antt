-- What a read does to a limited reader.
use Rattle.std.proofs.Common.{ℕ, zero, suc, ◌≡◌, ◌<◌, ◌≤◌, ◌+◌, ◌-◌, List, [], length, take, drop, nat_lt, option_map, Option, Some, None, refl, sym, ◌∙◌, ap, arith, length-append, length-take, length-drop, append-nil, Bool, false}
use Rattle.std.proofs.Math.Seq.{drop-append_seam, take-append-add}
use Rattle.std.proofs.lemmas.List.{drop-drop, take_all}
use Rattle.std.proofs.lemmas.Option.{same_Some}
use Rattle.std.proofs.lemmas.Bool.{le-ltb}
use Rattle.std.proofs.lemmas.Bool.Decides.{nat_tests}
use Rattle.std.proofs.lemmas.List.{take-append-drop}
use Rattle.text_io.specs.Input.{TakesAtMost}
use Rattle.std.specs.Io.KnownBytes.{Consumes, IsAtEnd}
use Rattle.cell_replay.specs.Limited.{IsNoted, IsTaken, bytes_left}
use Rattle.cell_replay.specs.Script.{byte_limit}

-- what is left of known bytes after a part was consumed
rest-consumed : (xs part : List ℕ) (new : Option (List ℕ)) → Consumes (Some xs) new part → (length part ≤ length xs) × (new ≡ Some (drop (length part) xs))
rest-consumed xs part None h = absurd h
rest-consumed xs part (Some ys) h = rw h (omega (arith, length-append part ys), ap Some (sym (drop-append_seam part ys)))

pub taken-more : (known old new : Option (List ℕ)) (t n : ℕ) (part : List ℕ) → length part ≡ n → IsTaken known old t → Consumes old new part → IsTaken known new (t + n)
taken-more known old new t n part size before read bytes e =
    let b = before bytes e in
    let s = rest-consumed (drop t bytes) part new (rw b.1 at read) in
    let room = length-drop t bytes in
    let both : t + length part ≡ t + n = omega (arith, size) in
    (omega (arith, b.0, s.0, room, size), s.1 ∙ ap Some (drop-drop (length part) t bytes ∙ ap (λ k. drop k bytes) both))

-- the bytes that may be handed on lose the same part
pub handed-on : (old new : Option (List ℕ)) (t n : ℕ) (part : List ℕ) → length part ≡ n → t + n ≤ byte_limit → Consumes old new part
    → Consumes (option_map (take (byte_limit - t)) old) (option_map (take (byte_limit - (t + n))) new) part
handed-on None new t n part size within h = tt
handed-on (Some xs) None t n part size within h = absurd h
handed-on (Some xs) (Some ys) t n part size within h =
    let room : byte_limit - t ≡ length part + (byte_limit - (t + n)) = omega (arith, size) in
    rw (h, room) (take-append-add part ys (byte_limit - (t + n)))

-- at the end no bytes are handed on
pub handed-all : (old new : Option (List ℕ)) (k : ℕ) (part : List ℕ) → length part ≡ 0 → Consumes old new part → IsAtEnd new
    → Consumes (option_map (take k) old) (option_map (take 0) new) part × IsAtEnd (option_map (take 0) new)
handed-all None None k part size h end = (tt, tt)
handed-all None (Some ys) k part size h end = (tt, refl)
handed-all (Some xs) None k part size h end = absurd h
handed-all (Some xs) (Some ys) k part size h end = (rw (h, end, append-nil part) (take_all k part (omega (arith, size))), refl)

-- nothing is left
none-at_end : (xs : List ℕ) (new : Option (List ℕ)) → new ≡ Some xs → IsAtEnd new → length xs ≡ 0
none-at_end xs None is end = absurd (cc)
none-at_end xs (Some ys) is end = ap length (sym (same_Some ys xs is) ∙ end)

-- a byte past the limit shows that there are more bytes than are used
pub noted-beyond : (known old new : Option (List ℕ)) (t n : ℕ) (part : List ℕ) → t ≡ byte_limit → length part ≡ n → IsTaken known old t → Consumes old new part → (n ≡ 0 → IsAtEnd new)
    → IsNoted known (Some (nat_lt 0 n))
noted-beyond known old new t n part full size taken read end is_cut e bytes is =
    let b = taken bytes is in
    let s = rest-consumed (drop t bytes) part new (rw b.1 at read) in
    let room = length-drop t bytes in
    sym (same_Some _ _ e) ∙ written n (length bytes) (λ none. let zero = none-at_end (drop (length part) (drop t bytes)) new s.1 (end none) in let rest = length-drop (length part) (drop t bytes) in omega (arith, zero, rest, room, size, full, none)) (λ some. omega (arith, s.0, room, size, full, some))
  where
    written : (n size : ℕ) → (n ≡ 0 → size ≤ byte_limit) → (0 < n → byte_limit < size) → nat_lt 0 n ≡ nat_lt byte_limit size
    written zero size few_then more_then = let few = few_then refl in grind (arith, nat_tests)
    written (suc n) size few_then more_then = let more = more_then (omega arith) in grind (arith, nat_tests)

-- at the end of the bytes that are used there are no more
pub noted-end : (known old new : Option (List ℕ)) (t : ℕ) (part : List ℕ) → t ≤ byte_limit → length part ≡ 0 → IsTaken known old t → Consumes old new part → IsAtEnd new → IsNoted known (Some false)
noted-end known old new t part within size taken read end is_cut e bytes is =
    let b = taken bytes is in
    let s = rest-consumed (drop t bytes) part new (rw b.1 at read) in
    let none = none-at_end (drop (length part) (drop t bytes)) new s.1 end in
    let rest = length-drop (length part) (drop t bytes) in
    let room = length-drop t bytes in
    sym (same_Some _ _ e) ∙ sym (le-ltb byte_limit (length bytes) (omega (arith, none, rest, room, size, within)))

-- what a limited reader has left at first
pub all-left : (known left : Option (List ℕ)) (written : Option Bool) (t : ℕ) (bytes : List ℕ) → written ≡ None → t ≡ 0 → IsTaken known left t → known ≡ Some bytes
    → bytes_left left written t ≡ Some (take byte_limit bytes)
all-left known left written t bytes unnoted fresh taken is =
    let b = (taken bytes is).1 in
    rw (unnoted, b, fresh) refl

-- at most this many bytes were taken
pub takes-at-most : (old new : Option (List ℕ)) (t most : ℕ) → t ≤ most → IsTaken old new t → TakesAtMost old new most
takes-at-most None new t most within taken = ([], omega arith, tt)
takes-at-most (Some xs) new t most within taken =
    let b = taken xs refl in
    (take t xs, omega (arith, length-take t xs, within), rw b.1 (sym (take-append-drop t xs)))
