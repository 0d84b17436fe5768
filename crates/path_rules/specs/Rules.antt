-- The rules on the paths of a function: where an item breaks one (docs/BEAM.md, Rules).
use Rattle.std.specs.Prelude.{◌≡◌, ℕ, ◌+◌, ◌≤◌, Bool, true, false, not, ◌&&◌, Option, Some, None, is_some, is_none, List, [], ◌∷◌, drop, length, slice_get, slice_index_or, nat_eq, nat_lt, if◌then◌else◌}
use Rattle.std.specs.List.{list_all}
use Rattle.paths.specs.Rules.{Ways, Leads, NoLoop, Holds, Says}
use Rattle.beam_code.specs.declared.instr.Operand.{Operand}
use Rattle.beam_code.specs.declared.instr.Operand.TheVariants.{X, Y}
use Rattle.beam_code.specs.declared.module.Function.{Function}
use Rattle.beam_code.specs.Lined.{Lined}
use Rattle.beam_code.specs.declared.module.Module.{Module}
use Rattle.beam_code.specs.Function.{Placed, label_in, target_of}
use Rattle.beam_code.specs.Shape.{Shape, Stacks, Tags, Calls, Returns, Raises, StackOp, Allocates, Trims, Frees, Clears, TagOp, Tries, Catches, TryEnds, TryHandles, CatchEnds, Target, Inside, Outside, Leaving, Drops, HasNone, Reason, Clause, shape_of}
use Rattle.beam_code.specs.Uses.{shape_goes_on}
use Rattle.path_rules.specs.declared.rule.Rule.{Rule}
use Rattle.path_rules.specs.declared.rule.Rule.TheVariants.{FallsOff, CallTarget, BadHandler, Loop, StackSize, TagState, TagOrder, Undefined, HeapUncovered}
use Rattle.path_rules.specs.Points.{Point, graph, is_passed, item_of}
use Rattle.path_rules.specs.Registers.{cell_words, names_pass, reads_of, uses_pass}
use Rattle.path_rules.specs.declared.tag.Tag.{Tag}
use Rattle.path_rules.specs.declared.tag.TagKind.{TagKind}
use Rattle.path_rules.specs.declared.tag.TagKind.TheVariants.{Try, Catch}
use Rattle.path_rules.specs.Tags.{is_untagged, lowest_tag, same_kind, same_tags}

-- FallsOff

abbrev pub falls_off : Function → ℕ → Shape → Bool
falls_off f item shape = shape_goes_on shape && not (nat_lt (item + 1) (length f.items))

-- CallTarget

abbrev pub is_target_of : List Module → Placed → ℕ → Target → Bool
is_target_of ms f arity (Inside label) = is_some (target_of ms f label arity)
is_target_of ms f arity (Outside callee) = nat_eq arity callee.arity

abbrev pub calls_well : List Module → Placed → Shape → Bool
calls_well ms f (Calls target arity leaving) = is_target_of ms f arity target
calls_well ms f _ = true

-- BadHandler

-- the first item that has an effect, from a number on
abbrev pub past_passed : ℕ → List Lined → ℕ
past_passed at [] = at
past_passed at (i ∷ is) = if is_passed (shape_of i.instr) then past_passed (at + 1) is else at

-- the same from an item of a function on
abbrev pub effective_item : Function → ℕ → ℕ
effective_item f item = past_passed item (drop item f.items)

abbrev pub ends_tag : TagKind → ℕ → Shape → Bool
ends_tag Try y (Tags (TryHandles n)) = nat_eq y n
ends_tag Catch y (Tags (CatchEnds n)) = nat_eq y n
ends_tag _ y _ = false

abbrev pub ends_tag_at : TagKind → ℕ → Option Lined → Bool
ends_tag_at kind y None = false
ends_tag_at kind y (Some i) = ends_tag kind y (shape_of i.instr)

-- whether what follows a label is the end of the tag that leads there
abbrev pub leads_to_end : Function → TagKind → ℕ → Option ℕ → Bool
leads_to_end f kind y None = false
leads_to_end f kind y (Some item) = ends_tag_at kind y (slice_get f.items (effective_item f item))

abbrev pub tag_is_handled : Function → Bool → TagOp → Bool
tag_is_handled f raised (Tries y label) = leads_to_end f Try y (label_in f label)
tag_is_handled f raised (Catches y label) = leads_to_end f Catch y (label_in f label)
tag_is_handled f raised (TryHandles y) = raised
tag_is_handled f raised _ = true

abbrev pub is_handled : Function → Bool → Shape → Bool
is_handled f raised (Tags op) = tag_is_handled f raised op
is_handled f raised _ = true

-- StackSize

abbrev pub same_stack : Option ℕ → Option ℕ → Bool
same_stack None None = true
same_stack (Some m) (Some n) = nat_eq m n
same_stack _ _ = false

abbrev pub is_in_stack : Option ℕ → ℕ → Bool
is_in_stack None y = false
is_in_stack (Some size) y = nat_lt y size

abbrev pub stack_op_fits : StackOp → Option ℕ → Bool
stack_op_fits (Allocates n need live) stack = is_none stack
stack_op_fits (Trims n rest) stack = same_stack stack (Some (n + rest))
stack_op_fits (Frees n) stack = same_stack stack (Some n)
stack_op_fits _ stack = true

abbrev pub leaving_fits : Leaving → Option ℕ → Bool
leaving_fits (Drops n) stack = same_stack stack (Some n)
leaving_fits HasNone stack = is_none stack
leaving_fits _ stack = true

abbrev pub reason_fits : Reason → Option ℕ → Bool
reason_fits (Clause m f arity) stack = is_none stack
reason_fits _ stack = true

abbrev pub shape_fits : Shape → Option ℕ → Bool
shape_fits (Stacks op) stack = stack_op_fits op stack
shape_fits (Calls target arity leaving) stack = leaving_fits leaving stack
shape_fits Returns stack = is_none stack
shape_fits (Raises reason) stack = reason_fits reason stack
shape_fits _ stack = true

abbrev pub stack_fits : Shape → Option ℕ → Bool
stack_fits shape stack = names_pass (is_in_stack stack) shape && shape_fits shape stack

-- TagState

abbrev pub is_tag_of : TagKind → ℕ → Option Tag → Bool
is_tag_of kind y None = false
is_tag_of kind y (Some t) = same_kind kind t.kind && nat_eq y t.y

-- whether what follows the label of a tag is this item
abbrev pub leads_to : Function → ℕ → Option ℕ → Bool
leads_to f item None = false
leads_to f item (Some label_item) = nat_eq item (effective_item f label_item)

abbrev pub is_at_label_of : Function → ℕ → Option Tag → Bool
is_at_label_of f item None = false
is_at_label_of f item (Some t) = leads_to f item (label_in f t.label)

-- no tag is trimmed away, deallocated or cleared
abbrev pub stack_op_keeps_tags : List Tag → StackOp → Bool
stack_op_keeps_tags tags (Trims n rest) = list_all (λ t. not (nat_lt t.y n)) tags
stack_op_keeps_tags tags (Frees n) = is_none (lowest_tag tags)
stack_op_keeps_tags tags (Clears y) = is_untagged tags y
stack_op_keeps_tags tags _ = true

abbrev pub leaving_keeps_tags : List Tag → Leaving → Bool
leaving_keeps_tags tags (Drops n) = is_none (lowest_tag tags)
leaving_keeps_tags tags _ = true

-- the lowest tag ends, and that of a `catch` at its label alone
abbrev pub ends_well : Function → ℕ → List Tag → TagOp → Bool
ends_well f item tags (TryEnds y) = is_tag_of Try y (lowest_tag tags)
ends_well f item tags (TryHandles y) = is_tag_of Try y (lowest_tag tags)
ends_well f item tags (CatchEnds y) = is_tag_of Catch y (lowest_tag tags) && is_at_label_of f item (lowest_tag tags)
ends_well f item tags _ = true

abbrev pub shape_keeps_tags : List Tag → Shape → Bool
shape_keeps_tags tags (Stacks op) = stack_op_keeps_tags tags op
shape_keeps_tags tags (Calls target arity leaving) = leaving_keeps_tags tags leaving
shape_keeps_tags tags _ = true

abbrev pub shape_ends_well : Function → ℕ → List Tag → Shape → Bool
shape_ends_well f item tags (Tags op) = ends_well f item tags op
shape_ends_well f item tags _ = true

abbrev pub tags_fit : Function → ℕ → List Tag → Shape → Bool
tags_fit f item tags shape = uses_pass (is_untagged tags) shape && shape_keeps_tags tags shape && shape_ends_well f item tags shape

-- TagOrder

abbrev pub is_below_tags : ℕ → List Tag → Bool
is_below_tags y tags = list_all (λ t. nat_lt y t.y) tags

abbrev pub tag_in_order : List Tag → TagOp → Bool
tag_in_order tags (Tries y label) = is_below_tags y tags
tag_in_order tags (Catches y label) = is_below_tags y tags
tag_in_order tags _ = true

abbrev pub in_order : List Tag → Shape → Bool
in_order tags (Tags op) = tag_in_order tags op
in_order tags _ = true

-- Undefined

abbrev pub is_defined : List Bool → List Bool → Operand → Bool
is_defined xs ys (X n) = slice_index_or xs n false
is_defined xs ys (Y n) = slice_index_or ys n false
is_defined xs ys _ = true

-- all rules

-- whether a path that ends at an item of this shape breaks a rule there by itself
abbrev pub breaks_of : List Module → Placed → Rule → Point → Shape → Bool
breaks_of ms f FallsOff p shape = falls_off f.function p.item shape
breaks_of ms f CallTarget p shape = not (calls_well ms f shape)
breaks_of ms f BadHandler p shape = not (is_handled f.function p.raised shape)
breaks_of ms f Loop p shape = false
breaks_of ms f StackSize p shape = not (stack_fits shape p.stack)
breaks_of ms f TagState p shape = not (tags_fit f.function p.item p.tags shape)
breaks_of ms f TagOrder p shape = not (in_order p.tags shape)
breaks_of ms f Undefined p shape = not (list_all (is_defined p.xs p.ys) (reads_of shape))
breaks_of ms f HeapUncovered p shape = nat_lt p.covered (cell_words shape)

abbrev pub breaks_at : List Module → Placed → Rule → Point → Option Lined → Bool
breaks_at ms f rule p None = false
breaks_at ms f rule p (Some i) = breaks_of ms f rule p (shape_of i.instr)

abbrev pub same_item : Point → Point → Bool
same_item p q = nat_eq p.item q.item

-- two paths to one item break a rule together
abbrev pub splits : Rule → Point → Point → Bool
splits StackSize p q = same_item p q && not (same_stack p.stack q.stack)
splits TagState p q = same_item p q && not (same_tags p.tags q.tags)
splits _ p q = false

-- one ends the other, whatever the rule
abbrev pub are_apart : Point → Point → Bool
are_apart p q = same_item p q && not (same_stack p.stack q.stack && same_tags p.tags q.tags)

abbrev pub ways : List Module → Placed → Rule → Ways Point
ways ms f rule = record {
  graph = graph ms f.function;
  breaks = λ p. breaks_at ms f rule p (slice_get f.function.items p.item);
  splits = splits rule;
  apart = are_apart;
}

abbrev pub OnLoop : List Module → Placed → ℕ → Type 0
OnLoop ms f item = (n : ℕ) × Leads (ways ms f Loop) item_of n item item

abbrev pub RuleHolds : List Module → Placed → Rule → Type 0
RuleHolds ms f Loop = NoLoop (ways ms f Loop) item_of
RuleHolds ms f rule = Holds (ways ms f rule)

-- the lowest item on a cycle, or none
pub record SaysLoop (ms : List Module) (f : Placed) (said : Option ℕ) : Type 0 where
  pub none : said ≡ None → NoLoop (ways ms f Loop) item_of
  pub some : (i : ℕ) → said ≡ Some i → OnLoop ms f i × ((j : ℕ) → OnLoop ms f j → i ≤ j)

-- what is said of a rule: the lowest item where it is broken, or none where it holds
abbrev pub RuleSays : List Module → Placed → Rule → Option ℕ → Type 0
RuleSays ms f Loop said = SaysLoop ms f said
RuleSays ms f rule said = Says (ways ms f rule) item_of said

-- the rules that look at stack and tags alone
abbrev pub looks_at_frames : Rule → Bool
looks_at_frames Undefined = false
looks_at_frames HeapUncovered = false
looks_at_frames _ = true
