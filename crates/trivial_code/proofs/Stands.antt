-- The word of what a trivial function returns stands for its term.
use Rattle.std.proofs.Common.{◌≡◌, ℕ, zero, suc, ℤ, ◌+◌, ◌<◌, Bool, true, false, List, [], ◌∷◌, Option, Some, None, length, take, slice_get, slice_index, nat_eq, nat_lt, refl, ap, subst, ◌∙◌, arith, if◌then◌else◌}
use Rattle.std.specs.Prelude.{is_some}
use Rattle.std.specs.List.{AllByRecursion}
use Rattle.std.proofs.lemmas.Bool.Decides.{nat_tests}
use Rattle.std.proofs.lemmas.Option.{slice_get-get_or, slice_get_within}
use Rattle.term_tree.proofs.TermLaws.{both_hold}
use Rattle.term_tree.specs.Small.{IsSmall, is_small}
use Rattle.term_tree.specs.Term.{tree_of}
use Rattle.term_tree.specs.Tree as t
use Rattle.beam_code.specs.declared.instr.Instr.{Instr}
use Rattle.beam_code.specs.declared.instr.Instr.TheVariants as i
use Rattle.beam_code.specs.declared.instr.Operand.{Operand}
use Rattle.beam_code.specs.declared.instr.Operand.TheVariants as o
use Rattle.beam_code.specs.declared.instr.Place.{Place}
use Rattle.beam_code.specs.declared.instr.Place.TheVariants as p
use Rattle.beam_code.specs.declared.module.Module.{Module}
use Rattle.beam_code.specs.Function.{Placed, all_functions, function_at}
use Rattle.beam_code.specs.Lined.{Lined}
use Rattle.image_format.specs.Fitting.{IsWord}
use Rattle.ir_code.specs.Constants.{Constants, ConstantsHold}
use Rattle.ir_code.specs.Mentions.{Named, Literal, literals_of, mentions_of}
use Rattle.laid_terms.proofs.Tables.{numbered}
use Rattle.tagged_words.proofs.WordLaws.{atom_word-below, class_of-atom_word, class_of-nil_word, class_of-small_word, small_word-below}
use Rattle.tagged_words.specs.Atoms.{IsTable, is_among}
use Rattle.tagged_words.specs.Look.{look_in, address_end}
use Rattle.tagged_words.specs.Seen.{IsTreeOf}
use Rattle.tagged_words.specs.Store.{Store}
use Rattle.tagged_words.specs.Laid.{atom_number}
use Rattle.tagged_words.specs.Word.{small_word, atom_word, nil_word}
use Rattle.trivial_code.proofs.Acts.{small_so}
use Rattle.trivial_code.proofs.Located.{ArePlain, Split, located, literal_there, mention_there}
use Rattle.trivial_code.specs.Image.{literals_before}
use Rattle.trivial_code.specs.Returned.{constant_word, item_word, literals_in, operand_word}
use Rattle.trivial_code.specs.Trivial.{action_of, are_plain, constant_tree, moved_operand, move_from, moves, tree_at, tree_moved}
use Rattle.trivial_code.specs.declared.trivial.Source.TheVariants.{Constant}
use Rattle.beam_code.specs.Shape.{shape_of}
use Rattle.ir_code.specs.Mentions.{shape_mentions}
use Rattle.term_tree.specs.declared.term.Term.{Term}
use Rattle.tagged_words.specs.declared.kind.Class.TheVariants as class
use Rattle.word_terms.specs.Literals.{literal_store}

-- the integers that are moved are small
small_if : (value : ℤ) (b first : Bool) → is_small value ≡ b → is_some (if first then moves (if b then Some Constant else None) else None) ≡ true → IsSmall value
small_if value true first is e = small_so value is
small_if value false true is e = absurd cc
small_if value false false is e = absurd cc

small_moved : (value : ℤ) (to : Place) → is_some (move_from (o.Int value) to) ≡ true → IsSmall value
small_moved value (p.X n) e = small_if value (is_small value) (nat_eq n 0) refl e
small_moved value (p.Y n) e = absurd cc

-- ---- the word of an atom

atom_seen : (s : Store) (names : List (List ℕ)) (a : List ℕ) → is_among a names ≡ true → IsTreeOf s names (atom_word (atom_number names a)) (t.Atom a)
atom_seen s names a among =
    let n = numbered 0 names a among in
    let low : n.place < length names = slice_get_within names n.place a n.there in
    let test : nat_lt n.place (length names) ≡ true = grind (arith, nat_tests) in
    let number : atom_number names a ≡ n.place = n.is ∙ omega arith in (
      n.place,
      ap (λ k. look_in s names address_end k) (class_of-atom_word (atom_number names a)) ∙ ap (λ k. look_in s names address_end (class.Atom k)) number ∙ rw test refl,
      n.there,
    )

pub atom_low : (names : List (List ℕ)) (a : List ℕ) → IsTable names → is_among a names ≡ true → IsWord (atom_word (atom_number names a))
atom_low names a table among =
    let n = numbered 0 names a among in
    let few = table.few in
    let low : n.place < length names = slice_get_within names n.place a n.there in
    let is = n.is in
    atom_word-below (atom_number names a) (omega arith)

-- a word of the literals alone that stands for a term
pub record IsConstant (c : Constants) (w : ℕ) (v : t.Tree) : Type 0 where
  pub low : IsWord w
  pub stands : IsTreeOf (literal_store c.literals) c.atoms w v

all_words : (ws : List ℕ) (k w : ℕ) → AllByRecursion IsWord ws → slice_get ws k ≡ Some w → IsWord w
all_words [] k w all e = absurd cc
all_words (x ∷ ws) zero w all e = let same : x ≡ w = cc in subst IsWord same all.0
all_words (x ∷ ws) (suc k) w all e = all_words ws k w all.1 e

module _ (c : Constants) (ms : List Module) (hold : ConstantsHold c ms) (roots : AllByRecursion IsWord c.roots) (are : ArePlain (all_functions ms)) where
  atom_constant : (fid at : ℕ) (p : Placed) (x : Lined) (a : List ℕ) (to : Place) → function_at ms fid ≡ Some p → slice_get p.function.items at ≡ Some x → x.instr ≡ i.Move (o.Atom a) to → IsConstant c (atom_word (atom_number c.atoms a)) (t.Atom a)
  atom_constant fid at p x a to there item is =
      let s : Split (mentions_of ms) (literals_before ms fid + literals_in (take at p.function.items)) (Named a ∷ []) =
      subst (λ instr. Split (mentions_of ms) (literals_before ms fid + literals_in (take at p.function.items)) (shape_mentions (shape_of instr))) is (located ms fid at p x are there item) in
      let among : is_among a c.atoms ≡ true = hold.known (length s.front) (Named a) (mention_there (mentions_of ms) _ (Named a) s) in
      record { low = atom_low c.atoms a hold.table among; stands = atom_seen (literal_store c.literals) c.atoms a among }

  literal_constant : (fid at : ℕ) (p : Placed) (x : Lined) (u : Term) (to : Place) → function_at ms fid ≡ Some p → slice_get p.function.items at ≡ Some x → x.instr ≡ i.Move (o.Literal u) to
      → IsConstant c (slice_index c.roots (literals_before ms fid + literals_in (take at p.function.items))) (tree_of u)
  literal_constant fid at p x u to there item is =
      let k : ℕ = literals_before ms fid + literals_in (take at p.function.items) in
      let s : Split (mentions_of ms) k (Literal (tree_of u) ∷ []) =
      subst (λ instr. Split (mentions_of ms) k (shape_mentions (shape_of instr))) is (located ms fid at p x are there item) in
      let here : slice_get (literals_of (mentions_of ms)) k ≡ Some (tree_of u) = literal_there (mentions_of ms) k (tree_of u) s in
      let low : k < length (literals_of (mentions_of ms)) = slice_get_within (literals_of (mentions_of ms)) k (tree_of u) here in
      let many = hold.many in
      let root : slice_get c.roots k ≡ Some (slice_index c.roots k) = slice_get-get_or c.roots k 0 (omega arith) in
      record { low = all_words c.roots k (slice_index c.roots k) roots root; stands = hold.stand k (slice_index c.roots k) (tree_of u) root here }

  from_constant : (fid at : ℕ) (p : Placed) (x : Lined) (from : Operand) (to : Place) (v : t.Tree) → function_at ms fid ≡ Some p → slice_get p.function.items at ≡ Some x → x.instr ≡ i.Move from to → is_some (action_of (i.Move from to)) ≡ true → constant_tree from ≡ Some v
      → IsConstant c (constant_word c (literals_before ms fid + literals_in (take at p.function.items)) from) v
  from_constant fid at p x (o.X n) to v there item is plain e = absurd cc
  from_constant fid at p x (o.Y n) to v there item is plain e = absurd cc
  from_constant fid at p x (o.Int value) to v there item is plain e =
      let same : t.Int value ≡ v = cc in
      let small = small_moved value to plain in
      subst (IsConstant c (small_word value)) same (record { low = small_word-below value small; stands = ap (look_in (literal_store c.literals) c.atoms address_end) (class_of-small_word value small) })
  from_constant fid at p x (o.Atom a) to v there item is plain e =
      let same : t.Atom a ≡ v = cc in subst (IsConstant c (atom_word (atom_number c.atoms a))) same (atom_constant fid at p x a to there item is)
  from_constant fid at p x o.Nil to v there item is plain e =
      let same : t.Nil ≡ v = cc in subst (IsConstant c nil_word) same (record { low = omega arith; stands = ap (look_in (literal_store c.literals) c.atoms address_end) class_of-nil_word })
  from_constant fid at p x (o.Literal u) to v there item is plain e =
      let same : tree_of u ≡ v = cc in
      subst (IsConstant c (slice_index c.roots (literals_before ms fid + literals_in (take at p.function.items)))) same (literal_constant fid at p x u to there item is)

  instr_constant : (fid at : ℕ) (p : Placed) (x : Lined) (instr : Instr) (v : t.Tree) → function_at ms fid ≡ Some p → slice_get p.function.items at ≡ Some x → x.instr ≡ instr → is_some (action_of instr) ≡ true → tree_moved (moved_operand instr) ≡ Some v
      → IsConstant c (operand_word c (literals_before ms fid + literals_in (take at p.function.items)) (moved_operand instr)) v
  instr_constant fid at p x (i.Move from to) v there item is plain e = from_constant fid at p x from to v there item is plain e
  instr_constant fid at p x instr v there item is plain e = absurd cc

  plain_item : (items : List Lined) (at : ℕ) (x : Lined) → are_plain items ≡ true → slice_get items at ≡ Some x → is_some (action_of x.instr) ≡ true
  plain_item [] at x plain e = absurd cc
  plain_item (y ∷ items) zero x plain e = let same : y ≡ x = cc in subst (λ z. is_some (action_of z.instr) ≡ true) same (both_hold (is_some (action_of y.instr)) (are_plain items) plain).0
  plain_item (y ∷ items) (suc at) x plain e = plain_item items at x (both_hold (is_some (action_of y.instr)) (are_plain items) plain).1 e

  by_item : (fid at : ℕ) (p : Placed) (o : Option Lined) (v : t.Tree) → function_at ms fid ≡ Some p → slice_get p.function.items at ≡ o → tree_at o ≡ Some v
      → IsConstant c (item_word c (literals_before ms fid + literals_in (take at p.function.items)) o) v
  by_item fid at p None v there item e = absurd cc
  by_item fid at p (Some x) v there item e = instr_constant fid at p x x.instr v there item refl (plain_item p.function.items at x (are fid p there) item) e

  -- the word of the constant that an item moves
  pub constant_stands : (fid at : ℕ) (p : Placed) (v : t.Tree) → function_at ms fid ≡ Some p → tree_at (slice_get p.function.items at) ≡ Some v
      → IsConstant c (item_word c (literals_before ms fid + literals_in (take at p.function.items)) (slice_get p.function.items at)) v
  constant_stands fid at p v there e = by_item fid at p (slice_get p.function.items at) v there refl e
