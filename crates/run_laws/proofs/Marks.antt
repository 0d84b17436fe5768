-- The marks of a path have labels of the function.
use Rattle.std.proofs.Common.{◌≡◌, ℕ, zero, suc, ◌+◌, Bool, true, false, not, ◌&&◌, Option, Some, None, is_some, List, [], ◌∷◌, ◌++◌, filter, length, map, nat_eq, nat_lt, slice_get, refl, subst, sym, if◌then◌else◌}
use Rattle.std.specs.List.{All, list_all}
use Rattle.std.proofs.lemmas.Bool.{and_from}
use Rattle.std.proofs.lemmas.List.Elements.{All-append, All-cons, All-contains, All-nil}
use Rattle.paths.specs.Paths.{Free}
use Rattle.term_tree.proofs.TermLaws.{both_hold}
use Rattle.beam_code.specs.declared.module.Module.{Module}
use Rattle.beam_code.specs.Function.{Placed, label_in}
use Rattle.beam_code.specs.Gates.{may_raise}
use Rattle.beam_code.specs.Lined.{Lined}
use Rattle.beam_code.specs.Shape as s
use Rattle.beam_code.specs.Uses.{shape_goes_on}
use Rattle.path_rules.specs.declared.rule.Rule.TheVariants.{BadHandler}
use Rattle.path_rules.specs.declared.tag.Tag.{Tag}
use Rattle.path_rules.specs.declared.tag.TagKind.{TagKind}
use Rattle.path_rules.specs.declared.tag.TagKind.TheVariants.{Try, Catch}
use Rattle.path_rules.specs.Laws.{KeepsRules}
use Rattle.path_rules.specs.Points.{Point, at_handler, at_item, at_labels, behind, graph, handlers, labels_of, moves_at, onward, tags_behind}
use Rattle.path_rules.specs.Rules.{breaks_at, breaks_of, leads_to_end}
use Rattle.path_rules.specs.Registers.{places_of}
use Rattle.path_rules.specs.Tags.{is_touched, lowest_tag, moved_down, tagged}
use Rattle.beam_rows.proofs.Lists.{some_is}
use Rattle.run_laws.proofs.Landing.{not_false}

module _ (ms : List Module) (f : Placed) where
  abbrev pub has_label : Tag → Bool
  has_label t = is_some (label_in f.function t.label)

  abbrev pub AreLabelled : List Tag → Type 0
  AreLabelled tags = list_all has_label tags ≡ true

  filtered : (test : Tag → Bool) (tags : List Tag) → AreLabelled tags → AreLabelled (filter test tags)
  filtered test [] all = refl
  filtered test (t ∷ tags) all = by (test t) (filtered test tags (both_hold (has_label t) (list_all has_label tags) all).1)
    where
      by : (b : Bool) → AreLabelled (filter test tags) → AreLabelled (if b then t ∷ filter test tags else filter test tags)
      by true rest = and_from (has_label t) (list_all has_label (filter test tags)) (both_hold (has_label t) (list_all has_label tags) all).0 rest
      by false rest = rest

  moved : (n : ℕ) (tags : List Tag) → AreLabelled tags → AreLabelled (map (moved_down n) tags)
  moved n [] all = refl
  moved n (t ∷ tags) all =
      let b = both_hold (has_label t) (list_all has_label tags) all in
      and_from (has_label t) (list_all has_label (map (moved_down n) tags)) b.0 (moved n tags b.1)

  joined : (a b : List Tag) → AreLabelled a → AreLabelled b → AreLabelled (a ++ b)
  joined [] b x y = y
  joined (t ∷ a) b x y =
      let h = both_hold (has_label t) (list_all has_label a) x in
      and_from (has_label t) (list_all has_label (a ++ b)) h.0 (joined a b h.1 y)

  one_more : (t : Tag) (tags : List Tag) → has_label t ≡ true → AreLabelled tags → AreLabelled (tagged t tags)
  one_more t tags own all =
      joined (filter (λ u. nat_lt u.y t.y) tags) (t ∷ filter (λ u. nat_lt t.y u.y) tags) (filtered (λ u. nat_lt u.y t.y) tags all)
      (and_from (has_label t) (list_all has_label (filter (λ u. nat_lt t.y u.y) tags)) own (filtered (λ u. nat_lt t.y u.y) tags all))

  led : (kind : TagKind) (y : ℕ) (o : Option ℕ) → leads_to_end f.function kind y o ≡ true → is_some o ≡ true
  led kind y None e = cc
  led kind y (Some item) e = refl

  behind_labelled : (p : Point) (shape : s.Shape) (tags : List Tag) → breaks_of ms f BadHandler p shape ≡ false → AreLabelled tags → AreLabelled (tags_behind shape tags)
  behind_labelled p (s.Stacks (s.Allocates n need live)) tags fine all = refl
  behind_labelled p (s.Stacks (s.Asks need live)) tags fine all = all
  behind_labelled p (s.Stacks (s.Trims n rest)) tags fine all = moved n (filter (λ t. not (nat_lt t.y n)) tags) (filtered (λ t. not (nat_lt t.y n)) tags all)
  behind_labelled p (s.Stacks (s.Frees n)) tags fine all = refl
  behind_labelled p (s.Stacks (s.Clears y)) tags fine all = filtered (λ t. not (nat_eq t.y y)) tags all
  behind_labelled p (s.Tags (s.Tries y label)) tags fine all =
      one_more (record { y = y; kind = Try; label = label }) tags (led Try y (label_in f.function label) (not_false (leads_to_end f.function Try y (label_in f.function label)) fine)) all
  behind_labelled p (s.Tags (s.Catches y label)) tags fine all =
      one_more (record { y = y; kind = Catch; label = label }) tags (led Catch y (label_in f.function label) (not_false (leads_to_end f.function Catch y (label_in f.function label)) fine)) all
  behind_labelled p (s.Tags (s.TryEnds y)) tags fine all = filtered (λ t. not (nat_eq t.y y)) tags all
  behind_labelled p (s.Tags (s.TryHandles y)) tags fine all = filtered (λ t. not (nat_eq t.y y)) tags all
  behind_labelled p (s.Tags (s.CatchEnds y)) tags fine all = filtered (λ t. not (nat_eq t.y y)) tags all
  behind_labelled p shape tags fine all = filtered (λ t. not (is_touched (places_of shape) t.y)) tags all

  abbrev AreAllLabelled : List Point → Type 0
  AreAllLabelled ps = All (λ q. AreLabelled q.tags) ps

  none : AreAllLabelled []
  none = All-nil (λ q. AreLabelled q.tags)

  alone : (p : Point) → AreLabelled p.tags → AreAllLabelled (p ∷ [])
  alone p is = All-cons (λ q. AreLabelled q.tags) p [] is none

  several : (ps qs : List Point) → AreAllLabelled ps → AreAllLabelled qs → AreAllLabelled (ps ++ qs)
  several ps qs a b = All-append (λ q. AreLabelled q.tags) ps qs a b

  where_so : (b : Bool) (ps : List Point) → AreAllLabelled ps → AreAllLabelled (if b then ps else [])
  where_so true ps a = a
  where_so false ps a = none

  at_item_labelled : (p : Point) (o : Option ℕ) → AreLabelled p.tags → AreAllLabelled (at_item p o)
  at_item_labelled p None all = none
  at_item_labelled p (Some item) all = alone (record p { item = item; raised = false }) all

  at_labels_labelled : (p : Point) (labels : List ℕ) → AreLabelled p.tags → AreAllLabelled (at_labels f.function p labels)
  at_labels_labelled p [] all = none
  at_labels_labelled p (label ∷ labels) all =
      several (at_item p (label_in f.function label)) (at_labels f.function p labels) (at_item_labelled p (label_in f.function label) all) (at_labels_labelled p labels all)

  at_handler_labelled : (p : Point) (kind : TagKind) (o : Option ℕ) → AreLabelled p.tags → AreAllLabelled (at_handler p kind o)
  at_handler_labelled p kind None all = none
  at_handler_labelled p kind (Some item) all = alone _ all

  handlers_labelled : (p : Point) (o : Option Tag) → AreLabelled p.tags → AreAllLabelled (handlers f.function p o)
  handlers_labelled p None all = none
  handlers_labelled p (Some t) all = at_handler_labelled p t.kind (label_in f.function t.label) all

  moves_labelled : (p : Point) (o : Option Lined) → breaks_at ms f BadHandler p o ≡ false → AreLabelled p.tags → AreAllLabelled (moves_at ms f.function p o)
  moves_labelled p None fine all = none
  moves_labelled p (Some i) fine all =
      let shape : s.Shape = s.shape_of i.instr in
      several (onward f.function shape p) _ (where_so (shape_goes_on shape && nat_lt (p.item + 1) (length f.function.items)) (behind shape p ∷ []) (alone (behind shape p) (behind_labelled p shape p.tags fine all)))
      (several (at_labels f.function p (labels_of shape)) _ (at_labels_labelled p (labels_of shape) all)
      (where_so (may_raise ms shape) (handlers f.function p (lowest_tag p.tags)) (handlers_labelled p (lowest_tag p.tags) all)))

  pub free_labelled : KeepsRules ms f → (n : ℕ) (p : Point) → Free (graph ms f.function) n p → AreLabelled p.tags
  free_labelled keeps zero p free = subst (λ (q : Point). AreLabelled q.tags) (sym free) refl
  free_labelled keeps (suc n) p free =
      let from : Point = free.0 in
      All-contains (λ q. AreLabelled q.tags) (moves_at ms f.function from (slice_get f.function.items from.item)) p
      (moves_labelled from (slice_get f.function.items from.item) (keeps.fine BadHandler n from free.1) (free_labelled keeps n from free.1)) free.2

  lowest_labelled : (tags : List Tag) (t : Tag) → AreLabelled tags → lowest_tag tags ≡ Some t → (item : ℕ) × (label_in f.function t.label ≡ Some item)
  lowest_labelled [] t all e = absurd cc
  lowest_labelled (u ∷ tags) t all e =
      let same : u ≡ t = cc in
      some_is (label_in f.function t.label) (subst (λ x. has_label x ≡ true) same (both_hold (has_label u) (list_all has_label tags) all).0)

  -- the label of the lowest mark of a path is there
  pub handler_there : KeepsRules ms f → (n : ℕ) (p : Point) (t : Tag) → Free (graph ms f.function) n p → lowest_tag p.tags ≡ Some t → (item : ℕ) × (label_in f.function t.label ≡ Some item)
  handler_there keeps n p t free e = lowest_labelled p.tags t (free_labelled keeps n p free) e
