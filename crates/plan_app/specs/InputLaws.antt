-- Where the script begins in an input, for all documents and scripts.
use Rattle.std.specs.Prelude.{◌≡◌, ℕ, ◌+◌, List, ◌++◌, codes, length}
use Rattle.plan_app.specs.Input.{document_in, plan_length, script_in}

-- no line of a document begins with `start,`, the first one neither
abbrev pub NoBegin : List ℕ → Type 0
NoBegin document = (before after : List ℕ) → codes "\n" ++ document ≡ before ++ (codes "\nstart," ++ after) → ⊥

-- such a document, and a line after it that begins with `start,`
abbrev pub with_script : List ℕ → List ℕ → List ℕ
with_script document after = document ++ (codes "\nstart," ++ after)

pub record ScriptsAreFound : Type 0 where
  pub many : (document after : List ℕ) → NoBegin document
      → plan_length (with_script document after) ≡ length document + 1
  pub plan : (document after : List ℕ) → NoBegin document
      → document_in (with_script document after) ≡ document ++ codes "\n"
  pub script : (document after : List ℕ) → NoBegin document
      → script_in (with_script document after) ≡ codes "start," ++ after
  -- a document alone, and a script alone
  pub no_script : (document : List ℕ) → NoBegin document → document_in document ≡ document
  pub no_plan : (after : List ℕ) → script_in (codes "start," ++ after) ≡ codes "start," ++ after
