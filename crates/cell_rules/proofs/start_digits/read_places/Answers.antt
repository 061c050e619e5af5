use Rattle.cell_rules.proofs.Names.{List, ℕ, Bool, true, ◌≡◌, ◌<◌, ◌≤◌, ◌+◌, ◌==◌, ◌&&◌, ◌∷◌, ◌++◌, [], Some, sym, ◌∙◌, ap, ap₂, arith, drop, get_or, length, map, set, take, length-set, list_all, drop_all, drop_more, map-append, take_all, take_more, take_more_set, cond_some, flag_in, is_flag, places_in}
use Rattle.cell_rules.proofs.start_digits.read_places.Goals as goal

-- another digit that is a flag
flags_more : (field : List ℕ) (i : ℕ) → i < length field → is_flag (get_or field i 0) ≡ true → list_all is_flag (drop (i + 1) field) ≡ list_all is_flag (drop i field)
flags_more field i lt flag = sym (ap (list_all is_flag) (drop_more field i 0 lt) ∙ ap (λ b. b && list_all is_flag (drop (i + 1) field)) flag)

read_more : (field : List ℕ) (places : List Bool) (i : ℕ) (flag : Bool) → i < length field → i < length places → (get_or field i 0 == 49) ≡ flag → take i places ≡ map (λ digit. digit == 49) (take i field)
    → take (i + 1) (set places i flag) ≡ map (λ digit. digit == 49) (take (i + 1) field)
read_more field places i flag lt room is so_far =
    let more : map (λ digit. digit == 49) (take (i + 1) field) ≡ map (λ digit. digit == 49) (take i field) ++ (get_or field i 0 == 49) ∷ []
    = ap (map (λ digit. digit == 49)) (take_more field i 0 lt) ∙ map-append (λ digit. digit == 49) (take i field) (get_or field i 0 ∷ []) in
    take_more_set places i flag room ∙ ap₂ (λ front last. front ++ last ∷ []) so_far (sym is) ∙ sym more

-- all digits are flags
all_read : (field : List ℕ) (places : List Bool) (i : ℕ) → length field ≡ 10 → length places ≡ 10 → length field ≤ i → list_all is_flag (drop i field) ≡ list_all is_flag field
    → take i places ≡ map (λ digit. digit == 49) (take i field) → Some places ≡ places_in field
all_read field places i ten same all flags read =
    let lawful : list_all is_flag field ≡ true = sym flags ∙ ap (list_all is_flag) (drop_all i field all) in
    let whole : places ≡ map (λ digit. digit == 49) field = sym (take_all i places (omega arith)) ∙ read ∙ ap (map (λ digit. digit == 49)) (take_all i field all) in
    rw (ten, lawful) (ap Some whole)

pub digits-preserved : goal.digits-preserved
digits-preserved c =
    let digit : flag_in (get_or c.args.digits.now c.digits.place 0) ≡ Some c.in_ok-places.field-0 = sym c.read_flag.ensures ∙ c.in_ok-places.was in
    let flag = cond_some (is_flag (get_or c.args.digits.now c.digits.place 0)) (get_or c.args.digits.now c.digits.place 0 == 49) c.in_ok-places.field-0 digit in
    record {
      ten = length-set c.digits.places c.digits.place c.in_ok-places.field-0 ∙ c.digits.invariant.ten;
      flags = flags_more c.args.digits.now c.digits.place c.digits-test.true flag.0 ∙ c.digits.invariant.flags;
      read = read_more c.args.digits.now c.digits.places c.digits.place c.in_ok-places.field-0 c.digits-test.true (omega arith) flag.1 c.digits.invariant.read;
    }

pub returns : goal.returns
returns c = all_read c.args.digits.now c.digits.places c.digits.place (omega arith) c.digits.invariant.ten c.digits-test.false c.digits.invariant.flags c.digits.invariant.read
