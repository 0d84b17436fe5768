-- Paths come to items of their function alone.
use Rattle.std.proofs.Common.{◌≡◌, ℕ, zero, suc, ◌+◌, ◌<◌, Bool, true, false, ◌&&◌, refl, sym, subst, List, [], ◌∷◌, ◌++◌, length, Option, Some, None, arith, if◌then◌else◌}
use Rattle.std.specs.Prelude.{nat_lt, slice_get}
use Rattle.std.specs.List.{All}
use Rattle.std.proofs.lemmas.Bool.{ltb-true}
use Rattle.std.proofs.lemmas.List.Elements.{All-append, All-cons, All-contains, All-nil}
use Rattle.paths.specs.Paths.{Free}
use Rattle.beam_code.specs.declared.module.Function.{Function}
use Rattle.beam_code.specs.declared.module.Module.{Module}
use Rattle.beam_code.specs.Function.{first_that, is_label_item, label_in}
use Rattle.beam_code.specs.Gates.{may_raise}
use Rattle.beam_code.specs.Lined.{Lined}
use Rattle.beam_code.specs.Shape.{Shape, shape_of}
use Rattle.beam_code.specs.Uses.{shape_goes_on}
use Rattle.path_rules.specs.declared.tag.Tag.{Tag}
use Rattle.path_rules.specs.Points.{Point, at_handler, at_item, at_labels, behind, graph, handlers, labels_of, moves_at, onward}
use Rattle.path_rules.specs.Tags.{lowest_tag}

pub first_below : {A : Type 0} (test : A → Bool) (at : ℕ) (xs : List A) (n : ℕ) → first_that test at xs ≡ Some n → n < at + length xs
first_below test at [] n e = cc
first_below test at (x ∷ xs) n e = by (test x) e (λ e. first_below test (at + 1) xs n e)
  where
    by : (b : Bool) → (if b then Some at else first_that test (at + 1) xs) ≡ Some n → (first_that test (at + 1) xs ≡ Some n → n < at + 1 + length xs) → n < at + suc (length xs)
    by true e rest = (let is : at ≡ n = cc in omega arith)
    by false e rest = (let below = rest e in omega arith)

pub label_below : (f : Function) (label item : ℕ) → label_in f label ≡ Some item → item < length f.items
label_below f label item e = (let below = first_below (is_label_item label) 0 f.items item e in omega arith)

abbrev Within : Function → List Point → Type 0
Within f ps = All (λ q. q.item < length f.items) ps

none : (f : Function) → Within f []
none f = All-nil (λ q. q.item < length f.items)

one : (f : Function) (p : Point) → p.item < length f.items → Within f (p ∷ [])
one f p below = All-cons (λ q. q.item < length f.items) p [] below (none f)

several : (f : Function) (ps qs : List Point) → Within f ps → Within f qs → Within f (ps ++ qs)
several f ps qs a b = All-append (λ q. q.item < length f.items) ps qs a b

onward_within : (f : Function) (shape : Shape) (p : Point) → Within f (onward f shape p)
onward_within f shape p = by (shape_goes_on shape) (nat_lt (p.item + 1) (length f.items)) refl
  where
    by : (a b : Bool) → nat_lt (p.item + 1) (length f.items) ≡ b → Within f (if a && b then behind shape p ∷ [] else [])
    by true true e = one f (behind shape p) (ltb-true (p.item + 1) (length f.items) e)
    by true false e = none f
    by false b e = none f

at_item_within : (f : Function) (p : Point) (o : Option ℕ) → ((item : ℕ) → o ≡ Some item → item < length f.items) → Within f (at_item p o)
at_item_within f p None below = none f
at_item_within f p (Some item) below = one f _ (below item refl)

at_labels_within : (f : Function) (p : Point) (labels : List ℕ) → Within f (at_labels f p labels)
at_labels_within f p [] = none f
at_labels_within f p (label ∷ labels) =
    several f (at_item p (label_in f label)) (at_labels f p labels) (at_item_within f p (label_in f label) (λ item e. label_below f label item e)) (at_labels_within f p labels)

handlers_within : (f : Function) (p : Point) (o : Option Tag) → Within f (handlers f p o)
handlers_within f p None = none f
handlers_within f p (Some t) = by (label_in f t.label) refl
  where
    by : (o : Option ℕ) → label_in f t.label ≡ o → Within f (at_handler p t.kind o)
    by None e = none f
    by (Some item) e = one f _ (label_below f t.label item e)

where_so : (f : Function) (b : Bool) (ps : List Point) → Within f ps → Within f (if b then ps else [])
where_so f true ps a = a
where_so f false ps a = none f

pub moves_stay : (ms : List Module) (f : Function) (p : Point) (o : Option Lined) → Within f (moves_at ms f p o)
moves_stay ms f p None = none f
moves_stay ms f p (Some i) =
    several f _ _ (onward_within f (shape_of i.instr) p)
    (several f _ _ (at_labels_within f p (labels_of (shape_of i.instr))) (where_so f (may_raise ms (shape_of i.instr)) (handlers f p (lowest_tag p.tags)) (handlers_within f p (lowest_tag p.tags))))

-- each path ends at an item, where calls begin at one
pub free_stays : (ms : List Module) (f : Function) → f.entry < length f.items → (n : ℕ) (p : Point) → Free (graph ms f) n p → p.item < length f.items
free_stays ms f entry zero p free = subst (λ (q : Point). q.item < length f.items) (sym free) entry
free_stays ms f entry (suc n) p free = All-contains (λ q. q.item < length f.items) (moves_at ms f free.0 (slice_get f.items free.0.item)) p (moves_stay ms f free.0 (slice_get f.items free.0.item)) free.2
