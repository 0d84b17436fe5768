-- A trivial function of the profile reads nothing but its arguments, and x0 behind a move: each path defines a register before it is read.
use Rattle.std.proofs.Common.{◌≡◌, ℕ, zero, suc, ◌+◌, ◌-◌, ◌<◌, ◌++◌, Bool, true, false, List, [], ◌∷◌, Option, Some, None, drop, length, replicate, slice_get, slice_set, slice_index_or, nat_eq, nat_lt, refl, ap, subst, sym, ◌∙◌, arith, if◌then◌else◌}
use Rattle.std.specs.Prelude.{not}
use Rattle.std.proofs.lemmas.Bool.{and_from}
use Rattle.term_tree.proofs.TermLaws.{both_hold}
use Rattle.std.proofs.lemmas.Bool.Decides.{nat_tests}
use Rattle.std.specs.List.{Contains, list_all}
use Rattle.paths.specs.Paths.{Free}
use Rattle.path_rules.specs.declared.rule.Rule.TheVariants.{Undefined}
use Rattle.path_rules.specs.Laws.{KeepsRules}
use Rattle.path_rules.specs.Points.{Point, behind, first_defined, graph, moves_at, moves_of, start_of}
use Rattle.path_rules.specs.Registers.{reads_of}
use Rattle.path_rules.specs.Rules.{breaks_at, breaks_of, is_defined as rule_defined}
use Rattle.beam_code.specs.declared.instr.Operand.{Operand}
use Rattle.beam_code.specs.declared.instr.Place.TheVariants as place
use Rattle.beam_code.specs.Uses.{shape_goes_on}
use Rattle.beam_code.specs.declared.module.Module.{Module}
use Rattle.beam_code.specs.Function.{Placed}
use Rattle.beam_code.specs.Lined.{Lined}
use Rattle.beam_code.specs.Shape as s
use Rattle.beam_code.specs.State.{x_registers}
use Rattle.trivial_code.proofs.Acts.{shape_by, origin_behind}
use Rattle.trivial_code.proofs.OfTexts.{IsOfText}
use Rattle.trivial_code.proofs.Rows.{at_drop, register_from}
use Rattle.trivial_code.specs.declared.trivial.Action.{Action}
use Rattle.trivial_code.specs.declared.trivial.Action.TheVariants.{Passes, Moves, Returns, Raises}
use Rattle.trivial_code.specs.declared.trivial.Origin.{Origin}
use Rattle.trivial_code.specs.declared.trivial.Origin.TheVariants.{Argument}
use Rattle.trivial_code.specs.declared.trivial.Source.{Source}
use Rattle.trivial_code.specs.declared.trivial.Source.TheVariants.{Register, Constant}
use Rattle.trivial_code.specs.Trivial.{action_of, acted, is_defined, moved, origin_from, origin_of, read_by, reads_well, source_of}

some_items : (items : List Lined) (at : ℕ) (so origin : Origin) → origin_from at so items ≡ Some origin → 0 < length items
some_items [] at so origin e = absurd cc
some_items (x ∷ items) at so origin e = omega arith

longer_by : {A : Type 0} (xs : List A) (k : ℕ) (ys : List A) → drop k xs ≡ ys → 0 < length ys → k < length xs
longer_by [] zero ys e some = let same = ap (λ zs. length zs) e in omega arith
longer_by [] (suc k) ys e some = let same = ap (λ zs. length zs) e in omega arith
longer_by (x ∷ xs) zero ys e some = omega arith
longer_by (x ∷ xs) (suc k) ys e some = let rest = longer_by xs k ys e some in omega arith

holds_of : (b : Bool) → not b ≡ false → b ≡ true
holds_of true e = refl
holds_of false e = absurd cc

-- which x registers a path has defined: the arguments, and x0 where it says so
record IsSo (arity : ℕ) (xs : List Bool) (first : Bool) : Type 0 where
  zeroth : slice_index_or xs 0 false ≡ first
  others : (n : ℕ) → 0 < n → slice_index_or xs n false ≡ true → nat_lt n arity ≡ true
  some : 0 < length xs

none_true : (k n : ℕ) → slice_index_or (replicate k false) n false ≡ true → ⊥
none_true zero n e = cc
none_true (suc k) zero e = cc
none_true (suc k) (suc n) e = none_true k n e

first_true : (arity k n : ℕ) → slice_index_or (replicate arity true ++ replicate k false) n false ≡ true → n < arity
first_true zero k n e = absurd (none_true k n e)
first_true (suc arity) k zero e = omega arith
first_true (suc arity) k (suc n) e = let rest = first_true arity k n e in omega arith

so_first : (arity : ℕ) → IsSo arity (first_defined arity x_registers) (nat_lt 0 arity)
so_first arity =
    record {
      zeroth = zeroth_of arity;
      others = λ n some e. (let low = first_true arity (x_registers - arity) n e in grind (arith, nat_tests));
      some = some_of arity;
    }
  where
    zeroth_of : (arity : ℕ) → slice_index_or (first_defined arity x_registers) 0 false ≡ nat_lt 0 arity
    zeroth_of zero = refl
    zeroth_of (suc arity) = let test : nat_lt 0 (suc arity) ≡ true = grind (arith, nat_tests) in sym test

    some_of : (arity : ℕ) → 0 < length (first_defined arity x_registers)
    some_of zero = omega arith
    some_of (suc arity) = omega arith

read_there : (n arity : ℕ) (first zeroth : Bool) (xs ys : List Bool) → nat_eq n 0 ≡ zeroth → IsSo arity xs first → slice_index_or xs n false ≡ true → (if zeroth then first else nat_lt n arity) ≡ true
read_there n arity first true xs ys is so e = let same : n ≡ 0 = grind (arith, nat_tests) in sym so.zeroth ∙ ap (λ k. slice_index_or xs k false) (sym same) ∙ e
read_there n arity first false xs ys is so e = so.others n (grind (arith, nat_tests)) e

-- what the rule says of an operand that is moved
moved_defined : (from : Operand) (source : Source) (arity : ℕ) (first : Bool) (xs ys : List Bool) → source_of from ≡ Some source → IsSo arity xs first → rule_defined xs ys from ≡ true → is_defined arity first source ≡ true
moved_defined from Constant arity first xs ys is so e = refl
moved_defined from (Register n) arity first xs ys is so e =
    read_there n arity first (nat_eq n 0) xs ys refl so (subst (λ o. rule_defined xs ys o ≡ true) (register_from from n is) e)

-- behind a move x0 is defined
so_behind : (arity : ℕ) (xs : List Bool) (first : Bool) → IsSo arity xs first → IsSo arity (slice_set xs 0 true) true
so_behind arity [] first so = let some = so.some in absurd (omega arith)
so_behind arity (x ∷ xs) first so = record { zeroth = refl; others = λ n some e. others_behind n some e; some = omega arith }
  where
    others_behind : (n : ℕ) → 0 < n → slice_index_or (true ∷ xs) n false ≡ true → nat_lt n arity ≡ true
    others_behind zero some e = absurd (omega arith)
    others_behind (suc n) some e = so.others (suc n) some e

module _ (ms : List Module) (f : Placed) (keeps : KeepsRules ms f) where
  -- a path goes on behind an item
  goes_on : (shape : s.Shape) (n : ℕ) (p : Point) (x : Lined) → Free (graph ms f.function) n p → slice_get f.function.items p.item ≡ Some x → s.shape_of x.instr ≡ shape → shape_goes_on shape ≡ true → p.item + 1 < length f.function.items → Free (graph ms f.function) (suc n) (behind shape p)
  goes_on shape n p x free there is goes room =
      let test : nat_lt (p.item + 1) (length f.function.items) ≡ true = grind (arith, nat_tests) in
      let moves : Contains (moves_of ms f.function p shape) (behind shape p) = rw (goes, test) (0, omega arith, refl) in
      (p, free, subst (λ o. Contains (moves_at ms f.function p o) (behind shape p)) (sym there) (subst (λ shape'. Contains (moves_of ms f.function p shape') (behind shape p)) (sym is) moves))

  -- a path reads nothing that is not defined
  all_defined : (shape : s.Shape) (n : ℕ) (p : Point) (x : Lined) → Free (graph ms f.function) n p → slice_get f.function.items p.item ≡ Some x → s.shape_of x.instr ≡ shape → list_all (rule_defined p.xs p.ys) (reads_of shape) ≡ true
  all_defined shape n p x free there is =
      holds_of (list_all (rule_defined p.xs p.ys) (reads_of shape))
      (subst (λ shape'. breaks_of ms f Undefined p shape' ≡ false) is (subst (λ o. breaks_at ms f Undefined p o ≡ false) there (keeps.fine Undefined n p free)))

  abbrev ReadsWell : List Lined → Type 0
  ReadsWell items =
      (n : ℕ) (p : Point) (first : Bool) (at : ℕ) (so origin : Origin) → Free (graph ms f.function) n p → drop p.item f.function.items ≡ items → IsSo f.function.arity p.xs first
      → origin_from at so items ≡ Some origin → reads_well f.function.arity first items ≡ true

  by_action : (o : Option Action) (x : Lined) (items : List Lined) (n : ℕ) (p : Point) (first : Bool) (at : ℕ) (so origin : Origin) → action_of x.instr ≡ o → Free (graph ms f.function) n p → drop p.item f.function.items ≡ x ∷ items → IsSo f.function.arity p.xs first
      → acted o at so (λ next. origin_from (at + 1) next items) ≡ Some origin → ReadsWell items → read_by o f.function.arity first (λ next. reads_well f.function.arity next items) ≡ true
  by_action (Some Passes) x items n p first at so origin is free here defined e rest =
      let there = at_drop f.function.items p.item x items here in
      let next : p.item + 1 ≡ suc p.item = omega arith in
      let behind_is : drop (p.item + 1) f.function.items ≡ items = ap (λ k. drop k f.function.items) next ∙ there.1 in
      let room : p.item + 1 < length f.function.items = longer_by f.function.items (p.item + 1) items behind_is (some_items items (at + 1) so origin e) in
      rest (suc n) (behind s.Passes p) first (at + 1) so origin (goes_on s.Passes n p x free there.0 (shape_by x.instr Passes is) refl room) behind_is defined e
  by_action (Some (Moves source)) x items n p first at so origin is free here defined e rest =
      let there = at_drop f.function.items p.item x items here in
      let next : p.item + 1 ≡ suc p.item = omega arith in
      let behind_is : drop (p.item + 1) f.function.items ≡ items = ap (λ k. drop k f.function.items) next ∙ there.1 in
      let room : p.item + 1 < length f.function.items = longer_by f.function.items (p.item + 1) items behind_is (some_items items (at + 1) (moved at so source) origin e) in
      let m = shape_by x.instr (Moves source) is in
      let shape : s.Shape = s.Moves m.from ((s.Whole, place.X 0) ∷ []) in
      let read = both_hold (rule_defined p.xs p.ys m.from) true (all_defined shape n p x free there.0 m.shape) in
      and_from (is_defined f.function.arity first source) (reads_well f.function.arity true items)
      (moved_defined m.from source f.function.arity first p.xs p.ys m.source defined read.0)
      (rest (suc n) (behind shape p) true (at + 1) (moved at so source) origin (goes_on shape n p x free there.0 m.shape refl room) behind_is (so_behind f.function.arity p.xs first defined) e)
  by_action (Some Returns) x items n p first at so origin is free here defined e rest =
      let there = at_drop f.function.items p.item x items here in
      let read = both_hold (slice_index_or p.xs 0 false) true (all_defined s.Returns n p x free there.0 (shape_by x.instr Returns is)) in
      sym defined.zeroth ∙ read.0
  by_action (Some Raises) x items n p first at so origin is free here defined e rest = refl
  by_action None x items n p first at so origin is free here defined e rest = refl

  reads_from : (items : List Lined) → ReadsWell items
  reads_from [] n p first at so origin free here defined e = refl
  reads_from (x ∷ items) n p first at so origin free here defined e =
      by_action (action_of x.instr) x items n p first at so origin refl free here defined e (λ m q b k t o g h d w. reads_from items m q b k t o g h d w)

  pub reads_of_text : IsOfText f.function → (origin : Origin) → origin_of f.function ≡ Some origin → reads_well f.function.arity (nat_lt 0 f.function.arity) (drop (f.function.entry + 1) f.function.items) ≡ true
  reads_of_text text origin gives =
      let start : Point = start_of f.function in
      let items : List Lined = drop (f.function.entry + 1) f.function.items in
      let behind_entry = (origin_behind f.function origin gives).1 in
      let room : f.function.entry + 1 < length f.function.items = longer_by f.function.items (f.function.entry + 1) items refl (some_items items (f.function.entry + 1) (Argument 0) origin behind_entry) in
      reads_from items 1 (behind s.Passes start) (nat_lt 0 f.function.arity) (f.function.entry + 1) (Argument 0) origin
      (goes_on s.Passes 0 start text.item refl text.there text.passes refl room) refl (so_first f.function.arity) behind_entry
