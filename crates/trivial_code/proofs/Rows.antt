-- The rows of a trivial function.
use Rattle.std.proofs.Common.{◌≡◌, ◌≢◌, ℕ, zero, suc, ◌+◌, ◌-◌, ◌<◌, ◌≤◌, ◌⊎◌, inl, inr, Bool, true, false, Option, Some, None, List, [], ◌∷◌, drop, length, map, replicate, slice_get, slice_set, nat_eq, nat_lt, refl, ap, subst, sym, ◌∙◌, arith, if◌then◌else◌}
use Rattle.std.proofs.lemmas.Bool.Decides.{leb_tells, nat_tests}
use Rattle.std.proofs.lemmas.List.{length-set, length-drop}
use Rattle.beam_code.specs.declared.call.Limits.{Limits}
use Rattle.beam_code.specs.declared.module.Module.{Module}
use Rattle.beam_code.specs.Frame.{beam_step, row_at, after, state_of}
use Rattle.beam_code.specs.declared.instr.Operand.{Operand}
use Rattle.beam_code.specs.declared.instr.Operand.TheVariants as o
use Rattle.beam_code.specs.declared.instr.Place.TheVariants as place
use Rattle.beam_code.specs.declared.module.Function.{Function}
use Rattle.beam_code.specs.Function.{Placed, function_at, cost_of}
use Rattle.beam_code.specs.Lined.{Lined}
use Rattle.beam_code.specs.Meaning.{first_state, entry_of}
use Rattle.beam_code.specs.Row.{local_step, item_row, row, moved as row_moved, read_of, returned, x_term, given as given_row}
use Rattle.beam_code.specs.Shape as sh
use Rattle.beam_code.specs.State.{Local, BeamState, Finish, Outcome, Returned, Ended, OutOfReductions, StackFull, Stuck, only, x_registers}
use Rattle.trivial_code.proofs.Acts.{MovesFrom, shape_by, origin_behind}
use Rattle.trivial_code.specs.declared.trivial.Action.{Action}
use Rattle.trivial_code.specs.declared.trivial.Action.TheVariants.{Passes, Moves, Returns, Raises}
use Rattle.trivial_code.specs.declared.trivial.Origin.{Origin}
use Rattle.trivial_code.specs.declared.trivial.Origin.TheVariants.{Argument}
use Rattle.trivial_code.specs.declared.trivial.Source.{Source}
use Rattle.trivial_code.specs.declared.trivial.Source.TheVariants.{Register, Constant}
use Rattle.trivial_code.specs.Trivial.{action_of, acted, constant_tree, held, is_defined, moved, moved_operand, origin_from, origin_of, read_by, reads_well, source_of, tree_at, tree_moved}
use Rattle.term_tree.proofs.TermLaws.{both_hold}
use Rattle.small_step.proofs.Runs.{done_stays, steps_on, run-one}
use Rattle.small_step.specs.Stage.{Still, Done, run}
use Rattle.laid_terms.proofs.Standing.{in_front}
use Rattle.term_tree.specs.Small.{is_small}
use Rattle.term_tree.specs.Term.{tree_of}
use Rattle.term_tree.specs.Tree as t

pub lt_or_le : (a b : ℕ) → (a < b) ⊎ (b ≤ a)
lt_or_le a b = elim (leb_tells b a) [ inl le ↦ inr le.1 | inr lt ↦ inl lt.1 ]

-- the first x registers have the arguments
only_at : (args : List t.Tree) (n : ℕ) (v : t.Tree) → slice_get args n ≡ Some v → x_term (slice_get (only args) n) ≡ Some v
only_at args n v e = ap x_term (in_front (map (λ v. Some v) args) (replicate (x_registers - length args) None) n (Some v) (mapped_at args n v e))
  where
    mapped_at : (args : List t.Tree) (n : ℕ) (v : t.Tree) → slice_get args n ≡ Some v → slice_get (map (λ (v : t.Tree). Some v) args) n ≡ Some (Some v)
    mapped_at [] n v e = absurd cc
    mapped_at (a ∷ args) zero v e = let same : a ≡ v = cc in ap (λ x. Some (Some x)) same
    mapped_at (a ∷ args) (suc n) v e = mapped_at args n v e

long_only : (args : List t.Tree) → 0 < length (only args)
long_only [] = omega arith
long_only (a ∷ args) = omega arith

-- an item of a list, and those behind it
pub at_drop : {A : Type 0} (xs : List A) (k : ℕ) (x : A) (ys : List A) → drop k xs ≡ x ∷ ys → (slice_get xs k ≡ Some x) × (drop (suc k) xs ≡ ys)
at_drop [] zero x ys e = absurd cc
at_drop [] (suc k) x ys e = absurd cc
at_drop (z ∷ zs) zero x ys e = (cc, cc)
at_drop (z ∷ zs) (suc k) x ys e = at_drop zs k x ys e

abbrev pub MeansSo : List Module → Limits → ℕ → BeamState → Outcome → Type 0
MeansSo ms limits n s outcome = (final : BeamState) × (run (beam_step ms limits) n s ≡ Done (record { outcome = outcome; state = final }))

-- within so many rows
pub record Comes (ms : List Module) (limits : Limits) (most : ℕ) (s : BeamState) (outcome : Outcome) : Type 0 where
  pub rows : ℕ
  pub few : rows ≤ most
  pub means : MeansSo ms limits rows s outcome

-- a trivial function that reads nothing but its arguments, and returns this of them
pub record Gives (f : Function) (args : List t.Tree) (origin : Origin) (value : t.Tree) : Type 0 where
  pub is : origin_of f ≡ Some origin
  pub arity : length args ≡ f.arity
  pub reads : reads_well f.arity (nat_lt 0 f.arity) (drop (f.entry + 1) f.items) ≡ true
  pub holds : held f.items args origin ≡ Some value

-- what x0 has is there, where it is defined
abbrev pub HasFirst : List Lined → List t.Tree → Origin → Bool → Type 0
HasFirst items args so first = first ≡ true → (v : t.Tree) × (held items args so ≡ Some v)

argument_there : (args : List t.Tree) (n arity : ℕ) → length args ≡ arity → nat_lt n arity ≡ true → (v : t.Tree) × (slice_get args n ≡ Some v)
argument_there args n arity long low = some_there args n (grind (arith, nat_tests))
  where
    some_there : (args : List t.Tree) (n : ℕ) → n < length args → (v : t.Tree) × (slice_get args n ≡ Some v)
    some_there [] n low = absurd (omega arith)
    some_there (a ∷ args) zero low = (a, refl)
    some_there (a ∷ args) (suc n) low = some_there args n (omega arith)

-- the constants that are moved are terms
constant_there : (from : Operand) → source_of from ≡ Some Constant → (v : t.Tree) × (constant_tree from ≡ Some v)
constant_there (o.X n) e = absurd cc
constant_there (o.Y n) e = absurd cc
constant_there (o.Int i) e = (t.Int i, refl)
constant_there (o.Atom a) e = (t.Atom a, refl)
constant_there o.Nil e = (t.Nil, refl)
constant_there (o.Literal u) e = (tree_of u, refl)

-- what a move puts into x0
pub record Put (items : List Lined) (args : List t.Tree) (so : Origin) (first : Bool) (at : ℕ) (from : Operand) (source : Source) : Type 0 where
  pub tree : t.Tree
  pub holds : held items args (moved at so source) ≡ Some tree
  pub read : (l : Local) → (first ≡ true → (v : t.Tree) → held items args so ≡ Some v → x_term (slice_get l.xs 0) ≡ Some v) → ((n : ℕ) (v : t.Tree) → 0 < n → slice_get args n ≡ Some v → x_term (slice_get l.xs n) ≡ Some v) → read_of l from ≡ Some tree

register_put : (items : List Lined) (args : List t.Tree) (so : Origin) (first : Bool) (at arity n : ℕ) (zeroth : Bool) → nat_eq n 0 ≡ zeroth → HasFirst items args so first → length args ≡ arity
    → (if zeroth then first else nat_lt n arity) ≡ true → Put items args so first at (o.X n) (Register n)
register_put items args so first at arity n true is has long well =
    let v = has well in
    let same : n ≡ 0 = grind (arith, nat_tests) in
    record { tree = v.0; holds = rw is v.1; read = λ l x0 others. subst (λ k. x_term (slice_get l.xs k) ≡ Some v.0) (sym same) (x0 well v.0 v.1) }
register_put items args so first at arity n false is has long well =
    let v = argument_there args n arity long well in
    let some : 0 < n = grind (arith, nat_tests) in
    record { tree = v.0; holds = rw is v.1; read = λ l x0 others. others n v.0 some v.1 }

constant_put : (items : List Lined) (args : List t.Tree) (so : Origin) (first : Bool) (at : ℕ) (x : Lined) (from : Operand) → slice_get items at ≡ Some x → moved_operand x.instr ≡ Some from → source_of from ≡ Some Constant → Put items args so first at from Constant
constant_put items args so first at x from there operand source =
    let v = constant_there from source in
    record { tree = v.0; holds = ap tree_at there ∙ ap tree_moved operand ∙ v.1; read = λ l x0 others. constant_read l from v.0 v.1 }
  where
    constant_read : (l : Local) (from : Operand) (v : t.Tree) → constant_tree from ≡ Some v → read_of l from ≡ Some v
    constant_read l (o.X n) v e = absurd cc
    constant_read l (o.Y n) v e = absurd cc
    constant_read l (o.Int i) v e = e
    constant_read l (o.Atom a) v e = e
    constant_read l o.Nil v e = e
    constant_read l (o.Literal u) v e = e

pub register_from : (from : Operand) (n : ℕ) → source_of from ≡ Some (Register n) → from ≡ o.X n
register_from (o.X k) n e = let same : k ≡ n = cc in ap o.X same
register_from (o.Y k) n e = absurd cc
register_from (o.Int i) n e = int_none (is_small i) e
  where
    int_none : (b : Bool) → (if b then Some Constant else None) ≡ Some (Register n) → o.Int i ≡ o.X n
    int_none true e = absurd cc
    int_none false e = absurd cc
register_from (o.Atom a) n e = absurd cc
register_from o.Nil n e = absurd cc
register_from (o.Literal u) n e = absurd cc

pub put_by : (items : List Lined) (args : List t.Tree) (so : Origin) (first : Bool) (at arity : ℕ) (x : Lined) (source : Source) (m : MovesFrom x.instr source) → slice_get items at ≡ Some x → HasFirst items args so first → length args ≡ arity
    → is_defined arity first source ≡ true → Put items args so first at m.from source
put_by items args so first at arity x (Register n) m there has long well =
    subst (λ from. Put items args so first at from (Register n)) (sym (register_from m.from n m.source)) (register_put items args so first at arity n (nat_eq n 0) refl has long well)
put_by items args so first at arity x Constant m there has long well = constant_put items args so first at x m.from there m.operand m.source

-- what is returned is there, where all that is read is
value_by : (o : Option Action) (items : List Lined) (args : List t.Tree) (arity at : ℕ) (x : Lined) (rest : List Lined) (so origin : Origin) (first : Bool) → action_of x.instr ≡ o → length args ≡ arity → drop at items ≡ x ∷ rest → HasFirst items args so first
    → acted o at so (λ next. origin_from (at + 1) next rest) ≡ Some origin → read_by o arity first (λ next. reads_well arity next rest) ≡ true
    → ((so : Origin) (first : Bool) → HasFirst items args so first → origin_from (at + 1) so rest ≡ Some origin → reads_well arity first rest ≡ true → (v : t.Tree) × (held items args origin ≡ Some v)) → (v : t.Tree) × (held items args origin ≡ Some v)
value_by (Some Passes) items args arity at x rest so origin first is long here has e well more = more so first has e well
value_by (Some (Moves source)) items args arity at x rest so origin first is long here has e well more =
    let b = both_hold (is_defined arity first source) (reads_well arity true rest) well in
    let p = put_by items args so first at arity x source (shape_by x.instr (Moves source) is) (at_drop items at x rest here).0 has long b.0 in
    more (moved at so source) true (λ t. (p.tree, p.holds)) e b.1
value_by (Some Returns) items args arity at x rest so origin first is long here has e well more = let same : so ≡ origin = cc in subst (λ g. (v : t.Tree) × (held items args g ≡ Some v)) same (has well)
value_by (Some Raises) items args arity at x rest so origin first is long here has e well more = absurd cc
value_by None items args arity at x rest so origin first is long here has e well more = absurd cc

value_from : (items : List Lined) (args : List t.Tree) (arity : ℕ) (xs : List Lined) (at : ℕ) (so origin : Origin) (first : Bool) → length args ≡ arity → drop at items ≡ xs → HasFirst items args so first
    → origin_from at so xs ≡ Some origin → reads_well arity first xs ≡ true → (v : t.Tree) × (held items args origin ≡ Some v)
value_from items args arity [] at so origin first long here has e well = absurd cc
value_from items args arity (x ∷ rest) at so origin first long here has e well =
    let next : at + 1 ≡ suc at = omega arith in
    value_by (action_of x.instr) items args arity at x rest so origin first refl long here has e well
    (λ so first has e well. value_from items args arity rest (at + 1) so origin first long (ap (λ k. drop k items) next ∙ (at_drop items at x rest here).1) has e well)

pub value_of : (f : Function) (args : List t.Tree) (origin : Origin) → origin_of f ≡ Some origin → length args ≡ f.arity → reads_well f.arity (nat_lt 0 f.arity) (drop (f.entry + 1) f.items) ≡ true → (v : t.Tree) × Gives f args origin v
value_of f args origin is arity reads =
    let v = value_from f.items args f.arity (drop (f.entry + 1) f.items) (f.entry + 1) (Argument 0) origin (nat_lt 0 f.arity) arity refl (λ some. argument_there args 0 f.arity arity some) (origin_behind f origin is).1 reads in
    (v.0, record { is = is; arity = arity; reads = reads; holds = v.1 })

module _ (ms : List Module) (limits : Limits) (fid : ℕ) (p : Placed) (origin : Origin) (args : List t.Tree) (value : t.Tree) (is : function_at ms fid ≡ Some p) (returns : Gives p.function args origin value) where
  abbrev pub begun : BeamState
  begun = first_state ms limits fid args

  -- the running function's row, with no frame that waits
  row_is : (l : Local) → beam_step ms limits (state_of fid [] l) ≡ after ms limits fid [] (local_step ms limits (limits.stack - 0) p l)
  row_is l = ap (row_at ms limits (state_of fid [] l)) is

  at_entry : nat_eq (entry_of (function_at ms fid)) p.function.entry ≡ true
  at_entry = let e : entry_of (function_at ms fid) ≡ p.function.entry = ap entry_of is in grind (arith, nat_tests)

  pub means_spent : limits.reductions ≡ 0 → MeansSo ms limits 1 begun (Ended OutOfReductions)
  means_spent none =
      let test : nat_eq limits.reductions 0 ≡ true = grind (arith, nat_tests) in
      (begun, run-one (beam_step ms limits) begun ∙ row_is begun.here ∙ rw (at_entry, test) refl)

  -- the entry takes a reduction
  abbrev left_one : Local
  left_one = record begun.here { item = p.function.entry + 1; left = limits.reductions - 1 }

  pub means_full : 0 < limits.reductions → limits.stack < cost_of p.function → MeansSo ms limits 1 begun (Ended StackFull)
  means_full some full =
      let test : nat_eq limits.reductions 0 ≡ false = grind (arith, nat_tests) in
      let room : nat_lt (limits.stack - 0) (cost_of p.function) ≡ true = grind (arith, nat_tests) in
      (begun, run-one (beam_step ms limits) begun ∙ row_is begun.here ∙ rw (at_entry, test, room) refl)

  enters_row : 0 < limits.reductions → cost_of p.function ≤ limits.stack → beam_step ms limits begun ≡ Still (state_of fid [] left_one)
  enters_row some fits =
      let test : nat_eq limits.reductions 0 ≡ false = grind (arith, nat_tests) in
      let room : nat_lt (limits.stack - 0) (cost_of p.function) ≡ false = grind (arith, nat_tests) in
      let entry : entry_of (function_at ms fid) ≡ p.function.entry = ap entry_of is in
      row_is begun.here ∙ rw (at_entry, test, room) (ap (λ e. Still (state_of fid [] (record left_one { item = e + 1 }))) entry)

  -- behind the entry: an item, what x0 holds, the arguments in the other registers, and no stack frame
  record Stands (so : Origin) (first : Bool) (l : Local) : Type 0 where
    behind : p.function.entry < l.item
    has : HasFirst p.function.items args so first
    x0 : first ≡ true → (v : t.Tree) → held p.function.items args so ≡ Some v → x_term (slice_get l.xs 0) ≡ Some v
    others : (n : ℕ) (v : t.Tree) → 0 < n → slice_get args n ≡ Some v → x_term (slice_get l.xs n) ≡ Some v
    long : 0 < length l.xs
    no_stack : l.ys ≡ None

  abbrev Ahead : ℕ → Local → Type 0
  Ahead most l = Comes ms limits most (state_of fid [] l) (Returned value)

  -- the row of an item by its shape
  shaped : (l : Local) (so : Origin) (first : Bool) (x : Lined) (rest : List Lined) (shape : sh.Shape) → Stands so first l → drop l.item p.function.items ≡ x ∷ rest → sh.shape_of x.instr ≡ shape → beam_step ms limits (state_of fid [] l) ≡ after ms limits fid [] (row ms limits p l shape)
  shaped l so first x rest shape st here e =
      let behind = st.behind in
      let past : nat_eq l.item p.function.entry ≡ false = grind (arith, nat_tests) in
      row_is l
      ∙ rw past (ap (λ i. after ms limits fid [] (item_row ms limits p l i)) (at_drop p.function.items l.item x rest here).0)
      ∙ ap (λ shape. after ms limits fid [] (row ms limits p l shape)) e

  abbrev passed : Local → Local
  passed l = record l { item = l.item + 1 }

  abbrev moved_to : Local → t.Tree → Local
  moved_to l v = record l { item = l.item + 1; xs = slice_set l.xs 0 (Some v) }

  first_set : (xs : List (Option t.Tree)) (v : t.Tree) → 0 < length xs → x_term (slice_get (slice_set xs 0 (Some v)) 0) ≡ Some v
  first_set [] v some = absurd (omega arith)
  first_set (x ∷ xs) v some = refl

  one_later : (most : ℕ) (l m : Local) → beam_step ms limits (state_of fid [] l) ≡ Still (state_of fid [] m) → Ahead most m → Ahead (suc most) l
  one_later most l m step ahead =
      record {
        rows = suc ahead.rows;
        few = (let few = ahead.few in omega arith);
        means = (ahead.means.0, steps_on (beam_step ms limits) ahead.rows (state_of fid [] l) (state_of fid [] m) step ∙ ahead.means.1);
      }

  next_here : (l : Local) (x : Lined) (rest : List Lined) → drop l.item p.function.items ≡ x ∷ rest → drop (l.item + 1) p.function.items ≡ rest
  next_here l x rest here = let e : l.item + 1 ≡ suc l.item = omega arith in ap (λ k. drop k p.function.items) e ∙ (at_drop p.function.items l.item x rest here).1

  others_set : (xs : List (Option t.Tree)) (n : ℕ) (u : t.Tree) → 0 < n → slice_get (slice_set xs 0 (Some u)) n ≡ slice_get xs n
  others_set [] n u some = refl
  others_set (x ∷ xs) zero u some = absurd (omega arith)
  others_set (x ∷ xs) (suc n) u some = refl

  abbrev Rest : List Lined → Type 0
  Rest rest =
      (next : Origin) (first : Bool) (m : Local) → Stands next first m → drop m.item p.function.items ≡ rest → origin_from m.item next rest ≡ Some origin
      → reads_well p.function.arity first rest ≡ true → Ahead (length rest) m

  moves_on : (source : Source) (so : Origin) (first : Bool) (l : Local) (x : Lined) (rest : List Lined) (m : MovesFrom x.instr source) → Put p.function.items args so first l.item m.from source → Stands so first l → drop l.item p.function.items ≡ x ∷ rest
      → origin_from (l.item + 1) (moved l.item so source) rest ≡ Some origin → reads_well p.function.arity true rest ≡ true → Rest rest → Ahead (suc (length rest)) l
  moves_on source so first l x rest m put st here e well more =
      let long = st.long in
      let room : nat_lt 0 (length l.xs) ≡ true = grind (arith, nat_tests) in
      one_later (length rest) l (moved_to l put.tree)
      (shaped l so first x rest _ st here m.shape
      ∙ ap (λ o. after ms limits fid [] (given_row l o (row_moved l ((sh.Whole, place.X 0) ∷ [])))) (put.read l st.x0 st.others)
      ∙ rw room refl)
      (more (moved l.item so source) true (moved_to l put.tree)
      (record {
        behind = (let behind = st.behind in omega arith);
        has = λ yes. (put.tree, put.holds);
        x0 = λ yes v is. first_set l.xs put.tree st.long ∙ sym put.holds ∙ is;
        others = λ n v some is. ap x_term (others_set l.xs n put.tree some) ∙ st.others n v some is;
        long = (let same = length-set l.xs 0 (Some put.tree) in omega arith);
        no_stack = st.no_stack;
      })
      (next_here l x rest here) e well)

  by_action : (a : Option Action) (so : Origin) (first : Bool) (l : Local) (x : Lined) (rest : List Lined) → action_of x.instr ≡ a → Stands so first l → drop l.item p.function.items ≡ x ∷ rest
      → acted a l.item so (λ next. origin_from (l.item + 1) next rest) ≡ Some origin → read_by a p.function.arity first (λ next. reads_well p.function.arity next rest) ≡ true → Rest rest → Ahead (suc (length rest)) l
  by_action (Some Passes) so first l x rest a st here e well more =
      one_later (length rest) l (passed l) (shaped l so first x rest sh.Passes st here (shape_by x.instr Passes a))
      (more so first (passed l) (record { behind = (let behind = st.behind in omega arith); has = st.has; x0 = st.x0; others = st.others; long = st.long; no_stack = st.no_stack }) (next_here l x rest here) e well)
  by_action (Some (Moves source)) so first l x rest a st here e well more =
      let b = both_hold (is_defined p.function.arity first source) (reads_well p.function.arity true rest) well in
      let m = shape_by x.instr (Moves source) a in
      moves_on source so first l x rest m (put_by p.function.items args so first l.item p.function.arity x source m (at_drop p.function.items l.item x rest here).0 st.has returns.arity b.0) st here e b.1 more
  by_action (Some Returns) so first l x rest a st here e well more =
      let same : so ≡ origin = cc in
      let read : x_term (slice_get l.xs 0) ≡ Some value = st.x0 well value (ap (held p.function.items args) same ∙ returns.holds) in
      record {
        rows = 1;
        few = omega arith;
        means = (
          state_of fid [] l,
          run-one (beam_step ms limits) (state_of fid [] l) ∙ shaped l so first x rest sh.Returns st here (shape_by x.instr Returns a)
              ∙ ap (λ v. after ms limits fid [] (given_row l v (returned l))) read ∙ rw st.no_stack refl,
        );
      }
  by_action (Some Raises) so first l x rest a st here e well more = absurd cc
  by_action None so first l x rest a st here e well more = absurd cc

  comes : (items : List Lined) → Rest items
  comes [] next first m st here e well = absurd cc
  comes (x ∷ rest) next first m st here e well = by_action (action_of x.instr) next first m x rest refl st here e well (λ n f k s h g w. comes rest n f k s h g w)

  pub means_value : 0 < limits.reductions → cost_of p.function ≤ limits.stack → Comes ms limits (1 + length p.function.items) begun (Returned value)
  means_value some fits =
      let ahead : Ahead (length (drop (p.function.entry + 1) p.function.items)) left_one =
      comes (drop (p.function.entry + 1) p.function.items) (Argument 0) (nat_lt 0 p.function.arity) left_one
      (record {
        behind = omega arith;
        has = λ some. argument_there args 0 p.function.arity returns.arity some;
        x0 = λ some v is. only_at args 0 v is;
        others = λ n v some is. only_at args n v is;
        long = long_only args;
        no_stack = refl;
      }) refl (origin_behind p.function origin returns.is).1 returns.reads in
      record {
        rows = suc ahead.rows;
        few = (let few = ahead.few in let all = length-drop (p.function.entry + 1) p.function.items in omega arith);
        means = (ahead.means.0, steps_on (beam_step ms limits) ahead.rows begun (state_of fid [] left_one) (enters_row some fits) ∙ ahead.means.1);
      }

  -- the meaning is an outcome, and not that a row is stuck
  pub record Means : Type 0 where
    pub finish : Finish
    pub within : run (beam_step ms limits) (1 + length p.function.items) begun ≡ Done finish
    pub sound : finish.outcome ≢ Ended Stuck

  means_so : (meant : Outcome) → meant ≢ Ended Stuck → Comes ms limits (1 + length p.function.items) begun meant → Means
  means_so meant sound m =
      record {
        finish = record { outcome = meant; state = m.means.0 };
        within = done_stays (beam_step ms limits) m.rows (1 + length p.function.items) begun (record { outcome = meant; state = m.means.0 }) m.means.1 m.few;
        sound = sound;
      }

  at_once : (meant : Outcome) → MeansSo ms limits 1 begun meant → Comes ms limits (1 + length p.function.items) begun meant
  at_once meant m = record { rows = 1; few = omega arith; means = m }

  pub means : Means
  means =
      elim (lt_or_le 0 limits.reductions) [
        | inr none ↦ means_so (Ended OutOfReductions) (λ e. cc) (at_once (Ended OutOfReductions) (means_spent (omega arith)))
        | inl some ↦
            elim (lt_or_le limits.stack (cost_of p.function)) [
              | inl full ↦ means_so (Ended StackFull) (λ e. cc) (at_once (Ended StackFull) (means_full some full))
              | inr fits ↦ means_so (Returned value) (λ e. cc) (means_value some fits)
            ]
      ]
