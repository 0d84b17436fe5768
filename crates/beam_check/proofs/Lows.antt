-- No path of a function whose registers are in range carries a stack that is too large.
use Rattle.std.proofs.Common.{◌≡◌, ℕ, zero, suc, ◌+◌, Bool, true, false, ◌&&◌, refl, sym, subst, List, [], ◌∷◌, ◌++◌, length, Option, Some, None, if◌then◌else◌}
use Rattle.std.specs.Prelude.{nat_lt, slice_get}
use Rattle.std.specs.List.{All}
use Rattle.std.proofs.lemmas.List.Elements.{All-append, All-cons, All-contains, All-nil}
use Rattle.paths.specs.Paths.{Free}
use Rattle.beam_code.specs.declared.module.Function.{Function}
use Rattle.beam_code.specs.declared.module.Module.{Module}
use Rattle.beam_code.specs.Function.{label_in}
use Rattle.beam_code.specs.Gates.{may_raise}
use Rattle.beam_code.specs.Lined.{Lined}
use Rattle.beam_code.specs.Shape.{shape_of}
use Rattle.beam_code.specs.Uses.{shape_goes_on}
use Rattle.path_rules.specs.declared.tag.Tag.{Tag}
use Rattle.path_rules.specs.declared.tag.TagKind.{TagKind}
use Rattle.path_rules.specs.Points.{Point, at_handler, at_item, at_labels, behind, graph, handlers, labels_of, moves_at}
use Rattle.path_rules.specs.Ranges.{all_in_range}
use Rattle.path_rules.specs.Tags.{lowest_tag}
use Rattle.path_flows.proofs.Known.{item_range}
use Rattle.path_flows.proofs.Moved.{IsLow, stack_low}

abbrev AreLow : List Point → Type 0
AreLow ps = All (λ q. IsLow q.stack) ps

none : AreLow []
none = All-nil (λ q. IsLow q.stack)

one : (p : Point) → IsLow p.stack → AreLow (p ∷ [])
one p low = All-cons (λ q. IsLow q.stack) p [] low none

several : (ps qs : List Point) → AreLow ps → AreLow qs → AreLow (ps ++ qs)
several ps qs a b = All-append (λ q. IsLow q.stack) ps qs a b

where_so : (b : Bool) (ps : List Point) → AreLow ps → AreLow (if b then ps else [])
where_so true ps a = a
where_so false ps a = none

at_item_low : (p : Point) (o : Option ℕ) → IsLow p.stack → AreLow (at_item p o)
at_item_low p None low = none
at_item_low p (Some item) low = one _ low

at_labels_low : (f : Function) (p : Point) (labels : List ℕ) → IsLow p.stack → AreLow (at_labels f p labels)
at_labels_low f p [] low = none
at_labels_low f p (label ∷ labels) low = several (at_item p (label_in f label)) (at_labels f p labels) (at_item_low p (label_in f label) low) (at_labels_low f p labels low)

at_handler_low : (p : Point) (kind : TagKind) (o : Option ℕ) → IsLow p.stack → AreLow (at_handler p kind o)
at_handler_low p kind None low = none
at_handler_low p kind (Some item) low = one _ low

handlers_low : (f : Function) (p : Point) (o : Option Tag) → IsLow p.stack → AreLow (handlers f p o)
handlers_low f p None low = none
handlers_low f p (Some t) low = at_handler_low p t.kind (label_in f t.label) low

moves_low : (ms : List Module) (f : Function) → all_in_range f ≡ true → (p : Point) (o : Option Lined) → slice_get f.items p.item ≡ o → IsLow p.stack → AreLow (moves_at ms f p o)
moves_low ms f range p None e low = none
moves_low ms f range p (Some i) e low =
    several _ _ (where_so (shape_goes_on (shape_of i.instr) && nat_lt (p.item + 1) (length f.items)) (behind (shape_of i.instr) p ∷ []) (one (behind (shape_of i.instr) p) (stack_low (shape_of i.instr) p.stack low (item_range f range p.item i e).stack)))
    (several _ _ (at_labels_low f p (labels_of (shape_of i.instr)) low) (where_so (may_raise ms (shape_of i.instr)) (handlers f p (lowest_tag p.tags)) (handlers_low f p (lowest_tag p.tags) low)))

pub free_low : (ms : List Module) (f : Function) → all_in_range f ≡ true → (n : ℕ) (p : Point) → Free (graph ms f) n p → IsLow p.stack
free_low ms f range zero p free = subst (λ (q : Point). IsLow q.stack) (sym free) tt
free_low ms f range (suc n) p free =
    All-contains (λ q. IsLow q.stack) (moves_at ms f free.0 (slice_get f.items free.0.item)) p
    (moves_low ms f range free.0 (slice_get f.items free.0.item) refl (free_low ms f range n free.0 free.1)) free.2
