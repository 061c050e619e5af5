use Rattle.std.proofs.Common.{ℕ, ◌≡◌, ◌+◌, ◌-◌, ◌≤◌, List, ◌++◌, length, take, drop, Option, sym, arith, length-drop}
use Rattle.std.proofs.KnownBytes.{Appends-kept, Appends-nil, Appends-trans}
use Rattle.std.proofs.lemmas.List.{drop-take, take-append-drop, take-take, take_all}
use Rattle.std.specs.Io.KnownBytes.{Appends}
use Rattle.text_io.proofs.output.write_counted.Goals as goal
use Rattle.text_io.proofs.output.write_counted.Goals.{in-Ok, in-Err+else-ne}

take-plus : (n k : ℕ) (xs : List ℕ) → take (n + k) xs ≡ take n xs ++ take k (drop n xs)
take-plus n k xs =
    let front : take n (take (n + k) xs) ≡ take n xs = take-take n (n + k) xs (omega arith) in
    let back : drop n (take (n + k) xs) ≡ take k (drop n xs) = drop-take n k xs in
    rw (front, back) at (sym (take-append-drop n (take (n + k) xs)))

-- the rest of a slice from an index on
slice-end : (xs : List ℕ) (k : ℕ) → take (length xs - k) (drop k xs) ≡ drop k xs
slice-end xs k =
    let len = length-drop k xs in
    take_all (length xs - k) (drop k xs) (omega arith)

-- what was written so far, after another part
part_written : (old mid new : Option (List ℕ)) (text : List ℕ) (n k : ℕ) → n ≤ length text → Appends old mid (take n text) → k ≤ length (drop n text) → Appends mid new (take k (drop n text))
    → (n + k ≤ length text) × Appends old new (take (n + k) text)
part_written old mid new text n k within so_far fits more =
    let room = length-drop n text in
    (omega (arith, room, fits, within), rw (take-plus n k text) (Appends-trans old mid new (take n text) (take k (drop n text)) so_far more))

pub parts-preserved : goal.parts-preserved
parts-preserved g c =
    let old = g.W.Write.contents c.args.writer.now in
    let mid = g.W.Write.contents c.parts.writer in
    let new = g.W.Write.contents c.write.new.self in
    let rest = slice-end c.args.text.now c.parts.written in
    let so_far = part_written old mid new c.args.text.now c.parts.written in
    elim c.match-write.branch [
      | in-Ok w ↦ rw w.count-is (so_far w.in-Ok.count c.parts.invariant.0 c.parts.invariant.1 (rw rest at w.in-Ok.ensures.bound) (rw rest at w.in-Ok.ensures.bytes))
      | in-Err+else-ne w ↦ rw w.count-is (so_far 0 c.parts.invariant.0 c.parts.invariant.1 (omega arith) (Appends-kept mid mid new _ (Appends-nil mid) w.in-Err.ensures.bytes))
    ]
