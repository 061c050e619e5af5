-- Prefixes of texts that are written.
use Rattle.std.proofs.Common.{◌≡◌, ◌+◌, ◌++◌, ◌∙◌, ℕ, List, [], length, take, Option, Some, None, Result, Ok, Err, OnOk, OnErr, sym, subst, append-nil, arith, inl, inr}
use Rattle.std.proofs.Math.Seq.{take-append-add, take-append_seam}
use Rattle.std.proofs.lemmas.Bool.{cases_lt}
use Rattle.std.proofs.KnownBytes.{Appends-trans}
use Rattle.std.proofs.lemmas.List.{take_all, take-append-le}
use Rattle.std.specs.Io.KnownBytes.{Appends}
use Rattle.text_io.specs.Output.{WrotePrefix}

-- the whole text is a prefix of it
pub whole_prefix : (old new : Option (List ℕ)) (text : List ℕ) → Appends old new text → WrotePrefix old new text
whole_prefix old new text a = (length text, subst (Appends old new) (sym (take_all (length text) text (omega arith))) a)

pub written_prefix : {A E : Type 0} → (r : Result A E) (old new : Option (List ℕ)) (text : List ℕ) → OnOk r (Appends old new text) → OnErr r (WrotePrefix old new text) → WrotePrefix old new text
written_prefix (Ok x) old new text a b = whole_prefix old new text a
written_prefix (Err e) old new text a b = b

-- nothing was written
pub nothing_written : (old : Option (List ℕ)) → Appends old old []
nothing_written None = tt
nothing_written (Some xs) = sym (append-nil xs)

-- ---- a text of two parts

first_bytes : (n : ℕ) (first rest : List ℕ) → (k : ℕ) × (take k (first ++ rest) ≡ take n first)
first_bytes n first rest =
    elim (cases_lt (length first) n) [
      | inl past ↦ (length first, take-append_seam first rest ∙ sym (take_all n first (omega (arith, past))))
      | inr within ↦ (n, take-append-le n first rest within)
    ]

-- a prefix of the first part
pub prefix_of_first : (old new : Option (List ℕ)) (first rest : List ℕ) → WrotePrefix old new first → WrotePrefix old new (first ++ rest)
prefix_of_first old new first rest (n, wrote) =
    let (k, same) = first_bytes n first rest in
    (k, subst (Appends old new) (sym same) wrote)

-- the first part whole, and a prefix of the rest
pub prefix_of_rest : (old mid new : Option (List ℕ)) (first rest : List ℕ) → Appends old mid first → WrotePrefix mid new rest → WrotePrefix old new (first ++ rest)
prefix_of_rest old mid new first rest whole (n, wrote) =
    (length first + n, subst (Appends old new) (sym (take-append-add first rest n)) (Appends-trans old mid new first (take n rest) whole wrote))

pub on_err : {A E : Type 0} → (r : Result A E) (P : Type 0) → P → OnErr r P
on_err (Ok x) P p = tt
on_err (Err e) P p = p

pub on_err_more : {A E : Type 0} → (r : Result A E) (P Q : Type 0) → OnErr r P → (P → Q) → OnErr r Q
on_err_more (Ok x) P Q p more = tt
on_err_more (Err e) P Q p more = more p
