-- What a row of an item leads to, from what a path's point shows.
use Rattle.std.proofs.Common.{◌≡◌, ℕ, ◌+◌, ◌≤◌, inl, inr, Bool, true, false, not, ◌&&◌, Some, is_some, List, [], ◌∷◌, ◌++◌, length, nat_lt, refl, ap, subst, sym, ◌∙◌, arith, if◌then◌else◌}
use Rattle.std.specs.List.{Contains, list_all}
use Rattle.std.proofs.lemmas.List.Elements.{Contains-append_left, Contains-append_right}
use Rattle.small_step.specs.Stage.{Stage, Still, Done}
use Rattle.paths.proofs.Tests.{first_or_later, here}
use Rattle.term_tree.proofs.TermLaws.{both_hold}
use Rattle.term_tree.specs.Tree.{Tree}
use Rattle.beam_code.specs.declared.module.Module.{Module}
use Rattle.beam_code.specs.Function.{Placed, function_at, label_in}
use Rattle.beam_code.specs.Gates.{may_raise}
use Rattle.beam_code.specs.Row.{jumped, next}
use Rattle.beam_code.specs.Shape.{Shape, Target, Calls as Calling, Stays}
use Rattle.beam_code.specs.State.{End, Stuck, Event, Calls, TailCalls, Returns, Raises, Ends, Local}
use Rattle.beam_code.specs.Uses.{comes_back, shape_goes_on}
use Rattle.path_rules.specs.declared.rule.Rule.TheVariants.{FallsOff}
use Rattle.path_rules.specs.Points.{Point, at_item, at_labels, behind, covered_behind, handlers, labels_of, moves_of, onward, stack_behind, tags_behind, xs_behind, ys_behind}
use Rattle.path_rules.specs.Rules.{breaks_of}
use Rattle.path_rules.specs.Tags.{lowest_tag}
use Rattle.beam_rows.proofs.Lists.{some_is}
use Rattle.run_laws.proofs.Held.{Has}
use Rattle.run_laws.specs.Shown.{ShowsStack}

abbrev pub HasPoint : ℕ → ℕ → Point → Local → Type 0
HasPoint r most q l = Has r most q.covered q.item q.stack q.tags q.xs q.ys l

-- an end that is none of a text that breaks its rules
abbrev pub IsEnd : End → Type 0
IsEnd Stuck = ⊥
IsEnd _ = Unit {0}

-- so many reductions are left, and no more words used
pub record HasLeft (r most : ℕ) (l : Local) : Type 0 where
  pub left : l.left ≡ r
  pub used : l.used ≤ most

-- a function that is left at its item
pub record IsLeft (r most : ℕ) (p : Point) (l : Local) : Type 0 where
  pub has : HasLeft r most l
  pub at : l.item ≡ p.item
  pub shows : ShowsStack p.stack p.tags p.ys l.ys

-- an item that waits for what it calls
pub record IsWaiting (shape : Shape) : Type 0 where
  pub target : Target
  pub arity : ℕ
  pub is : shape ≡ Calling target arity Stays
  pub comes : comes_back target ≡ true

-- a callee, and its arguments
pub record IsCallee (ms : List Module) (callee : ℕ) (args : List Tree) : Type 0 where
  pub placed : Placed
  pub is : function_at ms callee ≡ Some placed
  pub many : length args ≡ placed.function.arity

abbrev pub Lands : List Module → ℕ → ℕ → Placed → Point → Shape → Stage Local Event → Type 0
Lands ms r most f p shape (Still l) = (q : Point) × Contains (moves_of ms f.function p shape) q × HasPoint r most q l
Lands ms r most f p shape (Done (Calls callee args l)) = IsLeft r most p l × IsWaiting shape × IsCallee ms callee args
Lands ms r most f p shape (Done (TailCalls callee args l)) = HasLeft r most l × IsCallee ms callee args
Lands ms r most f p shape (Done (Returns v l)) = HasLeft r most l
Lands ms r most f p shape (Done (Raises class reason l)) = IsLeft r most p l
Lands ms r most f p shape (Done (Ends e l)) = IsEnd e

pub not_false : (b : Bool) → not b ≡ false → b ≡ true
not_false true e = refl
not_false false e = cc

module _ (ms : List Module) (r most : ℕ) (f : Placed) (p : Point) (shape : Shape) where
  -- on to the next item
  onward_has : shape_goes_on shape ≡ true → breaks_of ms f FallsOff p shape ≡ false → Contains (onward f.function shape p) (behind shape p)
  onward_has goes fine =
      let off : not (nat_lt (p.item + 1) (length f.function.items)) ≡ false = sym (ap (λ b. b && not (nat_lt (p.item + 1) (length f.function.items))) goes) ∙ fine in
      let on : nat_lt (p.item + 1) (length f.function.items) ≡ true = not_false (nat_lt (p.item + 1) (length f.function.items)) off in
      rw (goes, on) (here (behind shape p) [] (behind shape p) refl)

  pub moves_on : shape_goes_on shape ≡ true → breaks_of ms f FallsOff p shape ≡ false → Contains (moves_of ms f.function p shape) (behind shape p)
  moves_on goes fine = Contains-append_left (onward f.function shape p) (at_labels f.function p (labels_of shape) ++ (if may_raise ms shape then handlers f.function p (lowest_tag p.tags) else [])) (behind shape p) (onward_has goes fine)

  pub lands_on : shape_goes_on shape ≡ true → breaks_of ms f FallsOff p shape ≡ false → (c : ℕ) → covered_behind shape p.covered ≤ c → (l : Local)
      → Has r most c p.item (stack_behind shape p.stack) (tags_behind shape p.tags) (xs_behind shape p.xs) (ys_behind shape p.ys) l → Lands ms r most f p shape (Still (next l))
  lands_on goes fine c low l h =
      (behind shape p, moves_on goes fine, record { left = h.left; room = (let room = h.room in omega arith); at = ap (λ k. k + 1) h.at; registers = h.registers; wide = h.wide; shows = h.shows })

  -- to a label
  pub label_among : (labels : List ℕ) (label item : ℕ) → Contains labels label → label_in f.function label ≡ Some item → Contains (at_labels f.function p labels) (record p { item = item; raised = false })
  label_among [] label item c e = let low = c.1 in absurd (omega arith)
  label_among (n ∷ labels) label item c e = elim (first_or_later n labels label c) [
    | inl is ↦
        Contains-append_left (at_item p (label_in f.function n)) (at_labels f.function p labels) (record p { item = item; raised = false })
        (subst (λ o. Contains (at_item p o) (record p { item = item; raised = false })) (sym (ap (label_in f.function) is ∙ e)) (here (record p { item = item; raised = false }) [] (record p { item = item; raised = false }) refl))
    | inr more ↦ Contains-append_right (at_item p (label_in f.function n)) (at_labels f.function p labels) (record p { item = item; raised = false }) (label_among labels label item more e)
  ]

  label_there : (labels : List ℕ) (label : ℕ) → Contains labels label → list_all (λ n. is_some (label_in f.function n)) labels ≡ true → (item : ℕ) × (label_in f.function label ≡ Some item)
  label_there [] label c all = let low = c.1 in absurd (omega arith)
  label_there (n ∷ labels) label c all =
      let b = both_hold (is_some (label_in f.function n)) (list_all (λ n. is_some (label_in f.function n)) labels) all in
      elim (first_or_later n labels label c) [
        | inl is ↦ (let t = some_is (label_in f.function n) b.0 in (t.0, ap (label_in f.function) (sym is) ∙ t.1))
        | inr more ↦ label_there labels label more b.1
      ]

  pub lands_at : (label : ℕ) (l : Local) → Contains (labels_of shape) label → list_all (λ n. is_some (label_in f.function n)) (labels_of shape) ≡ true → HasPoint r most p l
      → Lands ms r most f p shape (jumped f.function l label)
  lands_at label l c all h =
      let t = label_there (labels_of shape) label c all in
      let q : Point = record p { item = t.0; raised = false } in
      let move : Contains (moves_of ms f.function p shape) q =
      Contains-append_right (onward f.function shape p) (at_labels f.function p (labels_of shape) ++ (if may_raise ms shape then handlers f.function p (lowest_tag p.tags) else [])) q
      (Contains-append_left (at_labels f.function p (labels_of shape)) (if may_raise ms shape then handlers f.function p (lowest_tag p.tags) else []) q (label_among (labels_of shape) label t.0 c t.1)) in
      rw t.1 (q, move, record { left = h.left; room = h.room; at = refl; registers = h.registers; wide = h.wide; shows = h.shows })
