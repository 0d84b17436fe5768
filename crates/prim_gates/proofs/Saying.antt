-- How a reply says what an answer says: values with no cell, failures, lists and tuples that are made.
use Rattle.std.proofs.Common.{◌≡◌, ℕ, zero, suc, ◌+◌, ◌*◌, ◌<◌, ◌≤◌, Bool, true, false, Some, List, [], ◌∷◌, length, slice_get, codes, nat_lt, ℤ, refl, ap, sym, subst, ◌∙◌, arith}
use Rattle.std.proofs.lemmas.Bool.{and_parts}
use Rattle.std.proofs.lemmas.Bool.Decides.{nat_tests}
use Rattle.std.proofs.lemmas.Option.{slice_get_within}
use Rattle.std.specs.Cmp.Lexicographic.{same_text}
use Rattle.beam_code.specs.Answer as a
use Rattle.beam_code.specs.BuiltIns.{BuiltIn, Failure, NoFailure, Badarith, Badarg, First, Nothing, words_made, answered, failed}
use Rattle.prim_gates.proofs.Below.{tree_below_top}
use Rattle.prim_gates.proofs.Cells.{onto, cells_stand, tuple_stands, length-cells}
use Rattle.prim_gates.proofs.Each.{Each, each_length, each_map}
use Rattle.prim_gates.proofs.Plain.{MayFail, IsPlain}
use Rattle.prim_gates.proofs.Pushed.{stays_pushed, has_pushed}
use Rattle.prim_gates.specs.Gate.{Memory}
use Rattle.prim_gates.specs.Law.{IsMemory, IsGiven, SaysSo, heap_end}
use Rattle.prim_gates.specs.Reply.{Value, own_atom, truth_word, says, raised, valued, cells, last_cell, made, list_made, tuple_made, pushed}
use Rattle.tagged_words.proofs.WordLaws.{class_of-small_word, class_of-atom_word}
use Rattle.tagged_words.specs.declared.addresses.TheConstants.{HEAP_START}
use Rattle.tagged_words.specs.Atoms.{IsTable, begins, first_atoms}
use Rattle.tagged_words.specs.Laid.{atom_number}
use Rattle.tagged_words.specs.Look.{look_in, address_end}
use Rattle.tagged_words.specs.Seen.{IsTreeOf, IsTreeBelow}
use Rattle.tagged_words.specs.Word.{small_word, header_word}
use Rattle.term_tree.specs.Name.{same_name}
use Rattle.term_tree.specs.Small.{IsSmall}
use Rattle.term_tree.specs.Tree as t

-- a table that begins with names has them at their places
begins_there : (rs table : List (List ℕ)) (n : ℕ) (name : List ℕ) → begins rs table ≡ true → slice_get rs n ≡ Some name → slice_get table n ≡ Some name
begins_there [] table n name h e = absurd cc
begins_there (r ∷ rs) [] n name h e = absurd cc
begins_there (r ∷ rs) (x ∷ table) zero name h e =
    let both = and_parts (same_name r x) (begins rs table) h in
    let same : r ≡ x = same_text r x (sym both.0) in
    ap (λ y. Some y) (sym same) ∙ e
begins_there (r ∷ rs) (x ∷ table) (suc n) name h e =
    let both = and_parts (same_name r x) (begins rs table) h in
    begins_there rs table n name both.1 e

module _ (m : Memory) (names : List (List ℕ)) (ok : IsMemory m) (table : IsTable names) where
  -- ---- words that stand by themselves

  pub small_stands : (i : ℤ) → IsSmall i → IsTreeOf m.store names (small_word i) (t.Int i)
  small_stands i low = ap (look_in m.store names address_end) (class_of-small_word i low)

  pub own_stands : (name : List ℕ) → slice_get first_atoms (atom_number first_atoms name) ≡ Some name → IsTreeOf m.store names (own_atom name) (t.Atom name)
  own_stands name own =
      let n : ℕ = atom_number first_atoms name in
      let there : slice_get names (atom_number first_atoms name) ≡ Some name = begins_there first_atoms names (atom_number first_atoms name) name table.first own in
      let low : atom_number first_atoms name < length names = slice_get_within names (atom_number first_atoms name) name there in
      let test : nat_lt (atom_number first_atoms name) (length names) ≡ true = grind (arith, nat_tests) in
      (atom_number first_atoms name, ap (look_in m.store names address_end) (class_of-atom_word (atom_number first_atoms name)) ∙ (rw test refl), there)

  pub truth_stands : (b : Bool) → IsTreeOf m.store names (truth_word b) (a.truth b)
  truth_stands true = own_stands (codes "true") refl
  truth_stands false = own_stands (codes "false") refl

  -- ---- a value that has no cell, and a failure

  pub value_says : (v : t.Tree) (n w : ℕ) → n ≡ 0 → IsTreeOf m.store names w v → IsGiven m names v n (Value w [])
  value_says v n w none h = record {
    full = λ short. absurd (omega arith);
    given = λ room. record { word = w; words = []; is = refl; many = sym none; stands = stays_pushed m.store [] names w v h };
  }

  pub failed_says : (failure : Failure) (vs : List t.Tree) (first : ℕ) → MayFail failure → SaysSo m names (failed failure vs) (raised failure first)
  failed_says NoFailure vs first may = absurd may
  failed_says Badarith vs first may = record { word = own_atom (codes "badarith"); is = refl; stands = own_stands (codes "badarith") refl }
  failed_says Badarg vs first may = record { word = own_atom (codes "badarg"); is = refl; stands = own_stands (codes "badarg") refl }
  failed_says (First class) vs first may = absurd may

  pub truth_says : (b : BuiltIn) (vs : List t.Tree) (truth : Bool) → b.making ≡ Nothing → SaysSo m names (answered b vs (a.says truth)) (says truth)
  truth_says b vs truth none = value_says (a.truth truth) (words_made b.making vs) (truth_word truth) (ap (λ k. words_made k vs) none) (truth_stands truth)

  pub plain_says : (b : BuiltIn) (vs : List t.Tree) (val : a.Value) (first : ℕ) → b.making ≡ Nothing → IsPlain b.failure val → SaysSo m names (answered b vs val) (valued b.failure first val)
  plain_says b vs (a.Is (t.Int i)) first none plain = value_says (t.Int i) (words_made b.making vs) (small_word i) (ap (λ k. words_made k vs) none) (small_stands i plain)
  plain_says b vs (a.Is (t.Atom name)) first none plain = value_says (t.Atom name) (words_made b.making vs) (own_atom name) (ap (λ k. words_made k vs) none) (own_stands name plain)
  plain_says b vs (a.Is t.Nil) first none plain = absurd plain
  plain_says b vs (a.Is (t.Cons head tail)) first none plain = absurd plain
  plain_says b vs (a.Is (t.Tuple us)) first none plain = absurd plain
  plain_says b vs a.Fails first none plain = failed_says b.failure vs first plain
  plain_says b vs a.TooWide first none plain = refl

  -- ---- what is made where there is room

  made_says : (v : t.Tree) (n w : ℕ) (ws : List ℕ) → length ws ≡ n → (n ≤ m.room → IsTreeOf (pushed m.store ws) names w v) → IsGiven m names v n (made m.room ws w)
  made_says v n w ws many h = record {
    full = λ short. let test : nat_lt m.room (length ws) ≡ true = grind (arith, nat_tests) in rw test refl;
    given = λ room. let test : nat_lt m.room (length ws) ≡ false = grind (arith, nat_tests) in record { word = w; words = ws; is = rw test refl; many = many; stands = h room };
  }

  -- what stood stands below the top, after words are pushed
  under_top : (ws : List ℕ) → m.top ≡ HEAP_START + 4 * length m.store.heap → (w : ℕ) (v : t.Tree) → IsTreeOf m.store names w v → IsTreeBelow (pushed m.store ws) names m.top w v
  under_top ws top w v h = tree_below_top m.store (pushed m.store ws) names m.top w v (omega arith) h (stays_pushed m.store ws names w v h)

  all_under_top : (ws : List ℕ) → m.top ≡ HEAP_START + 4 * length m.store.heap → (us : List ℕ) (vs : List t.Tree) → Each (IsTreeOf m.store names) us vs → Each (IsTreeBelow (pushed m.store ws) names m.top) us vs
  all_under_top ws top us vs each = each_map (IsTreeOf m.store names) (IsTreeBelow (pushed m.store ws) names m.top) (under_top ws top) us vs each

  list_stands : (heads : List ℕ) (vs : List t.Tree) (end : ℕ) (tail : t.Tree) → Each (IsTreeOf m.store names) heads vs → IsTreeOf m.store names end tail → 2 * length heads ≤ m.room
      → IsTreeOf (pushed m.store (cells m.top heads end)) names (last_cell m.top heads end) (onto vs tail)
  list_stands [] [] end tail each h room = stays_pushed m.store [] names end tail h
  list_stands [] (v ∷ vs) end tail each h room = absurd each
  list_stands (head ∷ heads) vs end tail each h room =
      let ws : List ℕ = cells m.top (head ∷ heads) end in
      let top : m.top ≡ HEAP_START + 4 * length m.store.heap = ok.top (omega arith) in
      let low : m.top + 4 * m.room ≤ heap_end = ok.low (omega arith) in
      cells_stand (pushed m.store ws) names m.top m.top (head ∷ heads) vs end tail (omega arith) (omega arith) (omega arith) (omega arith)
      (all_under_top ws top (head ∷ heads) vs each) (under_top ws top end tail h) (has_pushed m.store ws m.top top)

  pub list_says : (heads : List ℕ) (vs : List t.Tree) (end : ℕ) (tail v : t.Tree) (n : ℕ) → Each (IsTreeOf m.store names) heads vs → IsTreeOf m.store names end tail → n ≡ 2 * length vs → onto vs tail ≡ v
      → IsGiven m names v n (list_made m.room m.top heads end)
  list_says heads vs end tail v n each h count is =
      let many = each_length (IsTreeOf m.store names) heads vs each in
      let all = length-cells heads m.top end in
      made_says v n (last_cell m.top heads end) (cells m.top heads end) (omega arith)
      (λ room. subst (IsTreeOf (pushed m.store (cells m.top heads end)) names (last_cell m.top heads end)) is (list_stands heads vs end tail each h (omega arith)))

  pub tuple_says : (ws : List ℕ) (vs : List t.Tree) (n : ℕ) → Each (IsTreeOf m.store names) ws vs → n ≡ 1 + length vs → IsGiven m names (t.Tuple (t.trees_of vs)) n (tuple_made m.room m.top ws)
  tuple_says ws vs n each count =
      let many = each_length (IsTreeOf m.store names) ws vs each in
      made_says (t.Tuple (t.trees_of vs)) n (m.top + 2) (header_word (length ws) ∷ ws) (omega arith) (λ room.
      let top : m.top ≡ HEAP_START + 4 * length m.store.heap = ok.top (omega arith) in
      let low : m.top + 4 * m.room ≤ heap_end = ok.low (omega arith) in
      tuple_stands (pushed m.store (header_word (length ws) ∷ ws)) names m.top ws vs (omega arith) (omega arith) (omega arith)
      (all_under_top (header_word (length ws) ∷ ws) top ws vs each) (has_pushed m.store (header_word (length ws) ∷ ws) m.top top))
