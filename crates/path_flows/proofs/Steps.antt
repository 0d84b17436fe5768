-- The moves of a point are its item's ways on.
use Rattle.std.proofs.Common.{◌≡◌, ℕ, ◌+◌, ◌-◌, ◌<◌, ◌≤◌, Bool, true, false, ◌&&◌, ◌||◌, not, if◌then◌else◌, refl, ap, sym, subst, ◌∙◌, arith, inl, inr, nat_lt, Option, Some, None, List, [], ◌∷◌, ◌++◌, length, map}
use Rattle.std.specs.List.{Contains}
use Rattle.std.proofs.lemmas.Bool.Decides.{nat_tests}
use Rattle.paths.proofs.Tests.{first_or_later}
use Rattle.beam_code.specs.declared.module.Function.{Function}
use Rattle.beam_code.specs.declared.module.Module.{Module}
use Rattle.beam_code.specs.Function.{label_in}
use Rattle.beam_code.specs.Gates.{may_raise}
use Rattle.beam_code.specs.Shape.{Shape}
use Rattle.beam_code.specs.Uses.{shape_goes_on}
use Rattle.data_flow.specs.declared.flow.Point as point
use Rattle.data_flow.specs.declared.names.Names.{Names}
use Rattle.data_flow.specs.Flow.{changed, land}
use Rattle.data_flow.specs.Names.{join, meet, no_names}
use Rattle.path_rules.specs.declared.tag.Tag.{Tag}
use Rattle.path_rules.specs.declared.tag.TagKind.{TagKind}
use Rattle.path_rules.specs.FrameTable.{table_frame}
use Rattle.path_rules.specs.Points.{Point, at_handler, at_item, at_labels, behind, caught_xs, first_defined, handlers, labels_of, moves_of, onward}
use Rattle.path_rules.specs.Ranges.{allocated}
use Rattle.path_rules.specs.Registers.{cell_words, xs_in, ys_in}
use Rattle.path_rules.specs.Tags.{lowest_tag}
use Rattle.path_flows.specs.declared.way.Way.{Way}
use Rattle.path_flows.specs.FlowOf.{kept, seen_change, seen_puts, step_of}
use Rattle.path_flows.specs.Sets.{at_slot, below, names, with_places, without}
use Rattle.path_flows.specs.Ways.{gained, handler_way, handler_ways, kept_slots, kept_xs, label_way, label_ways, lost, lost_name, onward_way, onward_ways, raised_ways, way_to, way_to_handler, ways_of}
use Rattle.path_flows.proofs.Moved.{IsLow, after, covered_is, first_at, has, held, length_first, lost_at, stack_low, stays, xs_are, xs_long, ys_are, ys_long}
use Rattle.path_flows.proofs.Sets.{is_in, names_join, names_meet, names_none, names_same, names_without, places_are, y_name_is}

-- the registers that a path defines
abbrev pub names_of : Point → Names
names_of p = names (has p.xs) (held p.stack p.ys)

-- lists as long as there are names, and a stack no larger
pub record Wide (p : Point) : Type 0 where
  pub xs : 256 ≤ length p.xs
  pub ys : 256 ≤ length p.ys
  pub stack : IsLow p.stack

-- the second has what the first has, by the way, where the item's cell has so many words
pub record Goes (words : ℕ) (p q : Point) (w : Way) : Type 0 where
  pub item : q.item ≡ w.to
  pub names : names_of q ≡ join (meet (names_of p) (kept w)) w.gain
  pub covered : q.covered ≡ changed w.change words p.covered
  pub wide : Wide q

abbrev Test : Type 0
Test = ℕ → Bool

after_is : (h k l g : Bool) → after h k l g ≡ ((h && ((k && not l) && not g)) || g)
after_is true true true true = refl
after_is true true true false = refl
after_is true true false true = refl
after_is true true false false = refl
after_is true false l true = refl
after_is true false l false = refl
after_is false k l g = refl

-- in sets, what holds of each register
moved : (dx dy lx ly gx gy ex ey : Test) (xs slots : ℕ) (lost gain : Names) → lost ≡ names lx ly → gain ≡ names gx gy
    → ((r : ℕ) → r < 256 → ex r ≡ after (dx r) (nat_lt r xs) (lx r) (gx r)) → ((k : ℕ) → k < 256 → ey k ≡ after (dy k) (nat_lt k slots) (ly k) (gy k))
    → names ex ey ≡ join (meet (names dx dy) (without (without (below xs slots) lost) gain)) gain
moved dx dy lx ly gx gy ex ey xs slots lost gain l g x y =
    names_same ex ey (λ r. (dx r && ((nat_lt r xs && not (lx r)) && not (gx r))) || gx r) (λ k. (dy k && ((nat_lt k slots && not (ly k)) && not (gy k))) || gy k)
    (λ r h. x r h ∙ after_is (dx r) (nat_lt r xs) (lx r) (gx r)) (λ k h. y k h ∙ after_is (dy k) (nat_lt k slots) (ly k) (gy k))
    ∙ (sym (names_join (λ r. dx r && ((nat_lt r xs && not (lx r)) && not (gx r))) (λ k. dy k && ((nat_lt k slots && not (ly k)) && not (gy k))) gx gy)
    ∙ (ap (λ s. join s (names gx gy)) (sym (names_meet dx dy (λ r. (nat_lt r xs && not (lx r)) && not (gx r)) (λ k. (nat_lt k slots && not (ly k)) && not (gy k))))
    ∙ (ap (λ s. join (meet (names dx dy) s) (names gx gy)) (sym (names_without (λ r. nat_lt r xs && not (lx r)) (λ k. nat_lt k slots && not (ly k)) gx gy))
    ∙ (ap (λ s. join (meet (names dx dy) (without s (names gx gy))) (names gx gy)) (sym (names_without (λ r. nat_lt r xs) (λ k. nat_lt k slots) lx ly))
    ∙ (ap (λ s. join (meet (names dx dy) (without (without (below xs slots) s) (names gx gy))) (names gx gy)) (sym l)
    ∙ ap (λ s. join (meet (names dx dy) (without (without (below xs slots) lost) s)) s) (sym g))))))

-- ---- onward

lost_is : (stack : Option ℕ) (o : Option ℕ) → lost_name stack o ≡ names (λ r. false) (lost_at stack o)
lost_is stack None = names_none
lost_is stack (Some y) = y_name_is stack y

gain_is : (stack : Option ℕ) (shape : Shape) → with_places stack (gained shape) no_names ≡ names (is_in (xs_in (gained shape))) (at_slot stack (is_in (ys_in (gained shape))))
gain_is stack shape = ap (with_places stack (gained shape)) names_none ∙ places_are stack (gained shape) (λ r. false) (λ k. false)

onward_goes : (shape : Shape) (p : Point) → Wide p → allocated shape ≤ 256 → Goes (cell_words shape) p (behind shape p) (onward_way p.stack (p.item + 1) shape)
onward_goes shape p w h = record {
  item = refl;
  names = moved (has p.xs) (held p.stack p.ys) (λ r. false) (lost_at p.stack (lost shape)) (is_in (xs_in (gained shape))) (at_slot p.stack (is_in (ys_in (gained shape))))
      (has (behind shape p).xs) (held (behind shape p).stack (behind shape p).ys) (kept_xs shape) (kept_slots p.stack shape)
      (lost_name p.stack (lost shape)) (with_places p.stack (gained shape) no_names) (lost_is p.stack (lost shape)) (gain_is p.stack shape)
      (λ r l. xs_are shape p.xs r l w.xs) (λ k l. ys_are shape p.stack p.ys k w.stack l w.ys);
  covered = covered_is shape p.covered;
  wide = record { xs = xs_long shape p.xs w.xs; ys = ys_long shape p.ys w.ys; stack = stack_low shape p.stack w.stack h };
}

-- ---- to a label, and to a handler

below_yes : (k n : ℕ) → k < n → nat_lt k n ≡ true
below_yes k n h = grind (arith, nat_tests)

below_no : (k : ℕ) → nat_lt k 0 ≡ false
below_no k = grind (arith, nat_tests)

label_goes : (words : ℕ) (p : Point) (item : ℕ) → Wide p → Goes words p (record p { item = item; raised = false }) (label_way item)
label_goes words p item w = record {
  item = refl;
  names = moved (has p.xs) (held p.stack p.ys) (λ r. false) (λ k. false) (λ r. false) (λ k. false) (has p.xs) (held p.stack p.ys) 256 256 no_names no_names names_none names_none
      (λ r l. stays (has p.xs r) (nat_lt r 256) (below_yes r 256 l)) (λ k l. stays (held p.stack p.ys k) (nat_lt k 256) (below_yes k 256 l));
  covered = refl;
  wide = record { xs = w.xs; ys = w.ys; stack = w.stack };
}

new_in : (b t g : Bool) → t ≡ false → g ≡ after b t false g
new_in true t g e = sym (ap (λ q. ((true && q) && true) || g) e)
new_in false t g e = refl

caught : (words : ℕ) (p : Point) (kind : TagKind) (item : ℕ) → Wide p
    → Goes words p (record p { item = item; xs = first_defined (caught_xs kind) 256; covered = 0; raised = true }) (handler_way kind item)
caught words p kind item w = record {
  item = refl;
  names = moved (has p.xs) (held p.stack p.ys) (λ r. false) (λ k. false) (λ r. nat_lt r (caught_xs kind)) (λ k. nat_lt k 0) (has (first_defined (caught_xs kind) 256)) (held p.stack p.ys) 0 256 no_names (below (caught_xs kind) 0) names_none refl
      (λ r l. first_at (caught_xs kind) (256 - caught_xs kind) r ∙ new_in (has p.xs r) (nat_lt r 0) (nat_lt r (caught_xs kind)) (below_no r))
      (λ k l. stays (held p.stack p.ys k) (nat_lt k 256) (below_yes k 256 l) ∙ ap (λ t. after (held p.stack p.ys k) (nat_lt k 256) false t) (sym (below_no k)));
  covered = refl;
  wide = record { xs = length_first (caught_xs kind); ys = w.ys; stack = w.stack };
}

-- ---- all ways

abbrev pub Lands : ℕ → Point → List Point → List Way → Type 0
Lands words p [] [] = Unit {0}
Lands words p (q ∷ qs) (w ∷ ws) = Goes words p q w × Lands words p qs ws
Lands words p _ _ = ⊥

lands_append : (words : ℕ) (p : Point) (qs rs : List Point) (ws us : List Way) → Lands words p qs ws → Lands words p rs us → Lands words p (qs ++ rs) (ws ++ us)
lands_append words p [] rs [] us a b = b
lands_append words p (q ∷ qs) rs (w ∷ ws) us a b = (a.0, lands_append words p qs rs ws us a.1 b)
lands_append words p [] rs (w ∷ ws) us a b = absurd a
lands_append words p (q ∷ qs) rs [] us a b = absurd a

pub lands_wide : (words : ℕ) (p : Point) (qs : List Point) (ws : List Way) (y : Point) → Lands words p qs ws → Contains qs y → Wide y
lands_wide words p [] ws y l c = absurd (omega (arith, c.1))
lands_wide words p (q ∷ qs) [] y l c = absurd l
lands_wide words p (q ∷ qs) (w ∷ ws) y l c = elim (first_or_later q qs y c) [ inl e ↦ subst (λ z. Wide z) e l.0.wide | inr d ↦ lands_wide words p qs ws y l.1 d ]

choice : (words : ℕ) (p q : Point) (w : Way) (b : Bool) → Goes words p q w → Lands words p (if b then q ∷ [] else []) (if b then w ∷ [] else [])
choice words p q w true g = (g, tt)
choice words p q w false g = tt

item_lands : (words : ℕ) (p : Point) (o : Option ℕ) → Wide p → Lands words p (at_item p o) (way_to o)
item_lands words p None w = tt
item_lands words p (Some item) w = (label_goes words p item w, tt)

labels_land : (words : ℕ) (f : Function) (p : Point) (labels : List ℕ) → Wide p → Lands words p (at_labels f p labels) (label_ways f labels)
labels_land words f p [] w = tt
labels_land words f p (label ∷ labels) w =
    lands_append words p (at_item p (label_in f label)) (at_labels f p labels) (way_to (label_in f label)) (label_ways f labels) (item_lands words p (label_in f label) w) (labels_land words f p labels w)

handler_lands : (words : ℕ) (p : Point) (kind : TagKind) (o : Option ℕ) → Wide p → Lands words p (at_handler p kind o) (way_to_handler kind o)
handler_lands words p kind None w = tt
handler_lands words p kind (Some item) w = (caught words p kind item w, tt)

handlers_land : (words : ℕ) (f : Function) (p : Point) (o : Option Tag) → Wide p → Lands words p (handlers f p o) (handler_ways f o)
handlers_land words f p None w = tt
handlers_land words f p (Some t) w = handler_lands words p t.kind (label_in f t.label) w

raised_lands : (words : ℕ) (f : Function) (p : Point) (b : Bool) → Wide p
    → Lands words p (if b then handlers f p (lowest_tag p.tags) else []) (if b then handler_ways f (lowest_tag p.tags) else [])
raised_lands words f p true w = handlers_land words f p (lowest_tag p.tags) w
raised_lands words f p false w = tt

pub moves_land : (ms : List Module) (f : Function) (p : Point) (shape : Shape) → Wide p → allocated shape ≤ 256 → Lands (cell_words shape) p (moves_of ms f p shape) (ways_of ms f (table_frame p) p.item shape)
moves_land ms f p shape w h =
    let words = cell_words shape in
    let raised : List Point = if may_raise ms shape then handlers f p (lowest_tag p.tags) else [] in
    let ways : List Way = raised_ways ms f (lowest_tag p.tags) shape in
    lands_append words p (onward f shape p) (at_labels f p (labels_of shape) ++ raised) (onward_ways f p.stack p.item shape) (label_ways f (labels_of shape) ++ ways)
    (choice words p (behind shape p) (onward_way p.stack (p.item + 1) shape) (shape_goes_on shape && nat_lt (p.item + 1) (length f.items)) (onward_goes shape p w h))
    (lands_append words p (at_labels f p (labels_of shape)) raised (label_ways f (labels_of shape)) ways (labels_land words f p (labels_of shape) w) (raised_lands words f p (may_raise ms shape) w))

-- ---- as points of the flow

abbrev pub seen_count : Bool → ℕ → ℕ
seen_count counts c = if counts then c else 0

-- a path with what the rule looks at
abbrev pub less : Bool → Point → point.Point
less counts p = record { item = p.item; names = names_of p; count = seen_count counts p.covered }

abbrev flow_point : ℕ → Names → ℕ → point.Point
flow_point item names count = record { item = item; names = names; count = count }

count_same : (counts : Bool) (shape : Shape) (p q : Point) (w : Way) → Goes (cell_words shape) p q w → changed (seen_change counts w.change) (seen_puts counts shape) (seen_count counts p.covered) ≡ seen_count counts q.covered
count_same true shape p q w g = sym g.covered
count_same false shape p q w g = refl

land_is : (counts : Bool) (shape : Shape) (p q : Point) (w : Way) → Goes (cell_words shape) p q w → land (seen_puts counts shape) (less counts p) (step_of counts w) ≡ less counts q
land_is counts shape p q w g =
    ap (λ c. flow_point w.to (join (meet (names_of p) (kept w)) w.gain) c) (count_same counts shape p q w g)
    ∙ (ap (λ s. flow_point w.to s (seen_count counts q.covered)) (sym g.names) ∙ ap (λ i. flow_point i (names_of q) (seen_count counts q.covered)) (sym g.item))

pub lands_map : (counts : Bool) (shape : Shape) (p : Point) (qs : List Point) (ws : List Way) → Lands (cell_words shape) p qs ws
    → map (land (seen_puts counts shape) (less counts p)) (map (step_of counts) ws) ≡ map (less counts) qs
lands_map counts shape p [] [] l = refl
lands_map counts shape p (q ∷ qs) [] l = absurd l
lands_map counts shape p [] (w ∷ ws) l = absurd l
lands_map counts shape p (q ∷ qs) (w ∷ ws) l =
    ap (λ (t : List point.Point). land (seen_puts counts shape) (less counts p) (step_of counts w) ∷ t) (lands_map counts shape p qs ws l.1)
    ∙ ap (λ z. z ∷ map (less counts) qs) (land_is counts shape p q w l.0)
