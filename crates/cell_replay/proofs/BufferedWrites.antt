-- What a buffered writer does to the bytes of its output.
use Rattle.std.proofs.Common.{ℕ, ◌≡◌, ◌≤◌, List, [], ◌++◌, length, take, drop, Option, Some, None, Result, Ok, Err, refl, sym, ◌∙◌, ap, subst, arith, append_assoc, append-nil, length-take}
use Rattle.std.specs.List.{concat}
use Rattle.std.specs.Io.KnownBytes.{Appends, Keeps, append_known}
use Rattle.std.proofs.Math.Seq.{drop-append_seam}
use Rattle.std.proofs.lemmas.List.{take-append-drop, take-append-le, take_all}
use Rattle.std.proofs.lemmas.List.Folds.{concat-append}
use Rattle.std.proofs.lemmas.Option.{same_Some}
use Rattle.csv_rows.specs.ScriptEnd.{end_text}
use Rattle.csv_rows.specs.declared.script_end.Outcome.{Outcome}
use Rattle.cell_replay.specs.Faults.{WrotePrefix, WroteLines}
use Rattle.cell_replay.specs.Script.{script_lines, script_outcome, script_text}
use Rattle.cell_replay.specs.Writing.{IsGrown, WritesScript}
use Rattle.cell_replay.specs.declared.fault.ReplayFault.{ReplayFault}
use Rattle.cell_replay.specs.declared.fault.ReplayFault.TheVariants.{Read, Write, Memory}
use Rattle.cell_replay.proofs.Writings.{prefix-more, kept-none}

-- The bytes of the output only grow.

pub grown-more : (known old new : Option (List ℕ)) (part : List ℕ) → IsGrown known old → Appends old new part → IsGrown known new
grown-more known None new part grown wrote xs is = let none : None ≡ Some xs = grown xs is in absurd (cc)
grown-more known (Some ys) None part grown wrote xs is = absurd wrote
grown-more known (Some ys) (Some zs) part grown wrote xs is =
    let same : take (length xs) ys ≡ xs = same_Some _ _ (grown xs is) in
    let size : length xs ≤ length ys = omega (arith, ap length same, length-take (length xs) ys) in
    ap Some (ap (take (length xs)) wrote ∙ take-append-le (length xs) ys part size ∙ same)

pub still_grown : (known old new : Option (List ℕ)) → IsGrown known old → Keeps old new → IsGrown known new
still_grown known old new grown keeps = grown-more known old new [] grown (kept-none old new keeps)

-- What waits is empty.

pub append_known-none : (known : Option (List ℕ)) (waiting : List ℕ) → waiting ≡ [] → append_known known waiting ≡ known
append_known-none None waiting none = refl
append_known-none (Some xs) waiting none = ap Some (ap (λ l. xs ++ l) none ∙ append-nil xs)

-- What was written, if what waits is a part of a text: a prefix of the text.

pub prefix-out : (known old real : Option (List ℕ)) (waiting text : List ℕ) → IsGrown known real → Keeps old (append_known real waiting) → WrotePrefix known old text → WrotePrefix known real text
prefix-out None old real waiting text grown keeps h = (0, tt)
prefix-out (Some xs) None real waiting text grown keeps h = absurd h.1
prefix-out (Some xs) (Some os) None waiting text grown keeps h = absurd keeps
prefix-out (Some xs) (Some os) (Some ys) waiting text grown keeps h =
    let n = h.0 in
    let part = drop (length xs) ys in
    let same : take (length xs) ys ≡ xs = same_Some _ _ (grown xs refl) in
    let whole : ys ≡ xs ++ part = sym (take-append-drop (length xs) ys) ∙ ap (λ l. l ++ part) same in
    let all : xs ++ (part ++ waiting) ≡ xs ++ take n text = sym (append_assoc xs part waiting) ∙ ap (λ l. l ++ waiting) (sym whole) ∙ keeps ∙ h.1 in
    let rest : part ++ waiting ≡ take n text = sym (drop-append_seam xs (part ++ waiting)) ∙ ap (drop (length xs)) all ∙ drop-append_seam xs (take n text) in
    let split : text ≡ part ++ (waiting ++ drop n text) = sym (take-append-drop n text) ∙ ap (λ l. l ++ drop n text) (sym rest) ∙ append_assoc part waiting (drop n text) in
    prefix-more part (waiting ++ drop n text) text (Some xs) (Some ys) split (length part, whole ∙ ap (λ l. xs ++ l) (sym (take_all (length part) part (omega arith))))

-- What a replay wrote.

lines-prefix : (lines : List (List ℕ)) (last text : List ℕ) (old new : Option (List ℕ)) → text ≡ concat lines ++ last → WroteLines old new lines → WrotePrefix old new text
lines-prefix lines last text old new whole h =
    let n = h.0 in
    let first = concat (take n lines) in
    let rest = concat (drop n lines) in
    let both : concat lines ≡ first ++ rest = ap concat (sym (take-append-drop n lines)) ∙ concat-append (take n lines) (drop n lines) in
    let split : text ≡ first ++ (rest ++ last) = whole ∙ ap (λ l. l ++ last) both ∙ append_assoc first rest last in
    prefix-more first (rest ++ last) text old new split (length first, subst (Appends old new) (sym (take_all (length first) first (omega arith))) h.1)

script-prefix : (bytes : List ℕ) (old new : Option (List ℕ)) (r : Result Outcome ReplayFault) → WritesScript bytes old new r → WrotePrefix old new (script_text bytes)
unfolding script_text
script-prefix bytes old new (Ok o) h =
    let text = script_text bytes in
    (length text, subst (Appends old new) (sym (take_all (length text) text (omega arith))) h.1)
script-prefix bytes old new (Err Read) h = lines-prefix (script_lines bytes) (end_text (script_outcome bytes)) (script_text bytes) old new refl h
script-prefix bytes old new (Err Memory) h = lines-prefix (script_lines bytes) (end_text (script_outcome bytes)) (script_text bytes) old new refl h
script-prefix bytes old new (Err Write) h = h

-- the output failed, and has a prefix of the text
pub script-cut : (bytes : List ℕ) (known old real : Option (List ℕ)) (waiting : List ℕ) (r : Result Outcome ReplayFault) → IsGrown known real → Keeps old (append_known real waiting) → WritesScript bytes known old r
    → WritesScript bytes known real (Err Write)
script-cut bytes known old real waiting r grown keeps h = prefix-out known old real waiting (script_text bytes) grown keeps (script-prefix bytes known old r h)

pub script-same : (bytes : List ℕ) (old old2 new new2 : Option (List ℕ)) (r : Result Outcome ReplayFault) → old ≡ old2 → new ≡ new2 → WritesScript bytes old new r → WritesScript bytes old2 new2 r
script-same bytes old old2 new new2 r before after h = subst (λ b. WritesScript bytes old2 b r) after (subst (λ a. WritesScript bytes a new r) before h)
