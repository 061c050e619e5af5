-- Lists of words and of rights, and a call on one of them.
use Rattle.std.proofs.Common.{◌≡◌, ℕ, ◌<◌, List, All, length, get_or, set, map, sym, ap, ◌∙◌, subst, arith}
use Rattle.std.proofs.lemmas.List.{length-map, get_or-map, get_or_read, get_or-set_same, map-set, set-get_or}
use Rattle.std.proofs.lemmas.List.Elements.{All-set}
use Rattle.plan_interlock.specs.Plant.{WordView, RightView}

-- the rights are as many as the words, and those of one number are of one table
pub many_rights : (words : List WordView) (rights : List RightView) → map (λ v. v.table) rights ≡ map (λ i. i.table) words → length rights ≡ length words
many_rights words rights same = sym (length-map rights (λ v. v.table)) ∙ (ap length same ∙ length-map words (λ i. i.table))

same_table : (words : List WordView) (rights : List RightView) (k : ℕ) (i : WordView) (v : RightView) → map (λ v. v.table) rights ≡ map (λ i. i.table) words → k < length words
    → (get_or rights k v).table ≡ (get_or words k i).table
same_table words rights k i v same low =
    let many = many_rights words rights same in
    sym (get_or-map (λ v. v.table) rights k v v.table (omega (arith, many, low)))
    ∙ (ap (λ ts. get_or ts k v.table) same ∙ get_or-map (λ i. i.table) words k i v.table low)

-- A word and a right were read, by their number. The lists are those of an interlock and a pass, as contracts see them.
pub record AreRead (words : List WordView) (rights : List RightView) (k : ℕ) (i : WordView) (v : RightView) : Type 0 where
  pub low : k < length words
  pub tables : map (λ v. v.table) rights ≡ map (λ i. i.table) words
  pub word : i ≡ get_or words k i
  pub right : v ≡ get_or rights k v

pub are_read : (words inside : List WordView) (rights own : List RightView) (k : ℕ) (i : WordView) (v : RightView) → inside ≡ words → own ≡ rights → k < length words → map (λ v. v.table) rights ≡ map (λ i. i.table) words
    → i ≡ get_or inside k i → v ≡ get_or own k v → AreRead words rights k i v
are_read words inside rights own k i v same mine low tables word right = record {
  low = low;
  tables = tables;
  word = word ∙ ap (λ ws. get_or ws k i) same;
  right = right ∙ ap (λ vs. get_or vs k v) mine;
}

module _ (words : List WordView) (rights : List RightView) (k : ℕ) (i : WordView) (v w : RightView) (read : AreRead words rights k i v) where
  pub within : k < length rights
  within = let many = many_rights words rights read.tables in let low = read.low in omega (arith, many, low)

  pub tables_read : v.table ≡ i.table
  tables_read = ap (λ x. x.table) read.right ∙ (same_table words rights k i v read.tables read.low ∙ sym (ap (λ x. x.table) read.word))

  -- what holds of the read ones, and of the right that is written back, holds by number
  pub at_word : (holds : WordView → RightView → RightView → Type 0) (own : List RightView) → own ≡ rights → holds i v w → (j : WordView) (x y : RightView) → holds (get_or words k j) (get_or rights k x) (get_or (set own k w) k y)
  at_word holds own same h j x y =
      let here = get_or_read words k i read.low read.word j in
      let mine = get_or_read rights k v within read.right x in
      let back = sym (get_or-set_same rights k w y within) ∙ ap (λ vs. get_or (set vs k w) k y) (sym same) in
      subst (λ z. holds (get_or words k j) (get_or rights k x) z) back (subst (λ z. holds (get_or words k j) z w) mine (subst (λ z. holds z v w) here h))

  -- a right of the same pass stands where the old one stood
  pub same_tables : (own : List RightView) → own ≡ rights → w.table ≡ v.table → map (λ v. v.table) (set own k w) ≡ map (λ i. i.table) words
  same_tables own same table =
      let here : w.table ≡ get_or (map (λ x. x.table) rights) k v.table = table ∙ (ap (λ x. x.table) read.right ∙ sym (get_or-map (λ x. x.table) rights k v v.table within)) in
      ap (λ vs. map (λ v. v.table) (set vs k w)) same
      ∙ (map-set (λ x. x.table) rights k w ∙ (ap (λ t. set (map (λ x. x.table) rights) k t) here ∙ (set-get_or (map (λ x. x.table) rights) k v.table ∙ read.tables)))

  -- and is the same machine's
  pub same_actor : (own : List RightView) (actor : ℕ) → own ≡ rights → All (λ v. v.actor ≡ actor) own → w.actor ≡ v.actor → All (λ v. v.actor ≡ actor) (set own k w)
  same_actor own actor same all mine =
      let low : k < length own = subst (λ vs. k < length vs) (sym same) within in
      let is : (get_or own k v).actor ≡ actor = all k v low in
      let read_as : v ≡ get_or own k v = read.right ∙ ap (λ vs. get_or vs k v) (sym same) in
      All-set (λ v. v.actor ≡ actor) own k w (mine ∙ (ap (λ x. x.actor) read_as ∙ is)) all
