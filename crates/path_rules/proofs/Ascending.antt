-- The tags of every path ascend, so that the first is the lowest.
use Rattle.std.proofs.Common.{◌≡◌, ℕ, zero, suc, ◌+◌, ◌-◌, ◌≤◌, Bool, true, false, not, List, [], ◌∷◌, ◌++◌, map, refl, sym, subst, arith, Option, Some, None, inl, inr, if◌then◌else◌}
use Rattle.std.specs.Prelude.{filter, nat_lt, slice_get, length, ◌&&◌}
use Rattle.std.specs.List.{Contains}
use Rattle.std.proofs.lemmas.Bool.{ltb-true, ltb-false}
use Rattle.path_rules.specs.declared.tag.Tag.{Tag}
use Rattle.beam_code.specs.Shape.{Shape, Stacks, Tags, StackOp, Allocates, Asks, Trims, Frees, Clears, TagOp, Tries, Catches, TryEnds, TryHandles, CatchEnds, shape_of}
use Rattle.beam_code.specs.declared.module.Function.{Function}
use Rattle.beam_code.specs.Lined.{Lined}
use Rattle.beam_code.specs.declared.module.Module.{Module}
use Rattle.beam_code.specs.Function.{label_in}
use Rattle.beam_code.specs.Gates.{may_raise}
use Rattle.beam_code.specs.Uses.{shape_goes_on}
use Rattle.paths.specs.Paths.{Free}
use Rattle.paths.proofs.Tests.{first_or_later}
use Rattle.path_rules.specs.declared.tag.TagKind.{TagKind}
use Rattle.beam_code.specs.declared.instr.Place.{Place}
use Rattle.path_rules.specs.Registers.{places_of}
use Rattle.path_rules.specs.Points.{Point, at_handler, at_item, at_labels, behind, graph, handlers, labels_of, moves_at, tags_behind, tags_behind_stack_op, tags_behind_tag_op}
use Rattle.std.proofs.lemmas.List.Elements.{Contains-append_cases}
use Rattle.path_rules.specs.Tags.{is_touched, lowest_tag, tagged, untouched, trimmed, moved_down}

-- each tag is of a y register from n on, and of a higher one than the tag before it
abbrev pub Above : ℕ → List Tag → Type 0
Above n [] = Unit {0}
Above n (t ∷ ts) = (n ≤ t.y) × Above (suc t.y) ts

lower : (n m : ℕ) (ts : List Tag) → n ≤ m → Above m ts → Above n ts
lower n m [] le a = tt
lower n m (t ∷ ts) le a = (let x = a.0 in omega arith, a.1)

-- some of them
pub filtered : (test : Tag → Bool) (n : ℕ) (ts : List Tag) → Above n ts → Above n (filter test ts)
filtered test n [] a = tt
filtered test n (t ∷ ts) a = by (test t) (filtered test (suc t.y) ts a.1)
  where
    by : (b : Bool) → Above (suc t.y) (filter test ts) → Above n (if b then t ∷ filter test ts else filter test ts)
    by true rest = (a.0, rest)
    by false rest = lower n (suc t.y) (filter test ts) (let x = a.0 in omega arith) rest

-- where the first n y registers go
pub trimmed_above : (k n : ℕ) (ts : List Tag) → Above n ts → Above (n - k) (trimmed k ts)
trimmed_above k n [] a = tt
trimmed_above k n (t ∷ ts) a = by (nat_lt t.y k) refl (trimmed_above k (suc t.y) ts a.1)
  where
    by : (b : Bool) → nat_lt t.y k ≡ b → Above (suc t.y - k) (trimmed k ts) →
        Above (n - k) (map (moved_down k) (if not b then t ∷ filter (λ u. not (nat_lt u.y k)) ts else filter (λ u. not (nat_lt u.y k)) ts))
    by true e rest = (let below = ltb-true t.y k e in let x = a.0 in lower (n - k) (suc t.y - k) (trimmed k ts) (omega arith) rest)
    by false e rest =
        let from = ltb-false t.y k e in
        let x = a.0 in
        (omega arith, lower (suc (t.y - k)) (suc t.y - k) (trimmed k ts) (omega arith) rest)

-- where all are higher than a tag, none is before it
none_before : (y n : ℕ) (ts : List Tag) → y ≤ n → Above n ts → filter (λ u. nat_lt u.y y) ts ≡ []
none_before y n [] le a = refl
none_before y n (t ∷ ts) le a = by (nat_lt t.y y) refl (λ from. none_before y (suc t.y) ts from a.1)
  where
    by : (b : Bool) → nat_lt t.y y ≡ b → (y ≤ suc t.y → filter (λ u. nat_lt u.y y) ts ≡ []) →
        (if b then t ∷ filter (λ u. nat_lt u.y y) ts else filter (λ u. nat_lt u.y y) ts) ≡ []
    by true e rest = (let below = ltb-true t.y y e in let x = a.0 in absurd (omega arith))
    by false e rest = rest (let x = a.0 in omega arith)

-- with one more
abbrev low : Tag → List Tag → List Tag
low t ts = filter (λ v. nat_lt v.y t.y) ts

abbrev high : Tag → List Tag → List Tag
high t ts = filter (λ v. nat_lt t.y v.y) ts

pub tagged_above : (t : Tag) (n : ℕ) (ts : List Tag) → n ≤ t.y → Above n ts → Above n (tagged t ts)
tagged_above t n [] le a = (le, tt)
tagged_above t n (u ∷ us) le a = by (nat_lt u.y t.y) (nat_lt t.y u.y) refl refl (λ from. tagged_above t (suc u.y) us from a.1)
  where
    behind_it : (c : Bool) → nat_lt t.y u.y ≡ c → t.y ≤ u.y → Above (suc t.y) (if c then u ∷ high t us else high t us)
    behind_it true e from = (ltb-true t.y u.y e, filtered (λ v. nat_lt t.y v.y) (suc u.y) us a.1)
    behind_it false e from = lower (suc t.y) (suc u.y) (high t us) (omega arith) (filtered (λ v. nat_lt t.y v.y) (suc u.y) us a.1)

    by : (b c : Bool) → nat_lt u.y t.y ≡ b → nat_lt t.y u.y ≡ c → (suc u.y ≤ t.y → Above (suc u.y) (tagged t us)) →
        Above n ((if b then u ∷ low t us else low t us) ++ t ∷ (if c then u ∷ high t us else high t us))
    by true true e g rest = (let x = ltb-true u.y t.y e in let y = ltb-true t.y u.y g in absurd (omega arith))
    by true false e g rest = (a.0, rest (ltb-true u.y t.y e))
    by false c e g rest =
        let from = ltb-false u.y t.y e in
        subst (λ (l : List Tag). Above n (l ++ t ∷ (if c then u ∷ high t us else high t us))) (sym (none_before t.y (suc u.y) us (omega arith) a.1)) (le, behind_it c g from)

untouched_above : (places : List Place) (ts : List Tag) → Above 0 ts → Above 0 (untouched places ts)
untouched_above places ts a = filtered (λ t. not (is_touched places t.y)) 0 ts a

-- behind any item
behind_stack_op : (op : StackOp) (ts : List Tag) → Above 0 ts → Above 0 (tags_behind_stack_op op ts)
behind_stack_op (Allocates n need live) ts a = tt
behind_stack_op (Asks need live) ts a = a
behind_stack_op (Trims n rest) ts a = lower 0 (0 - n) (trimmed n ts) (omega arith) (trimmed_above n 0 ts a)
behind_stack_op (Frees n) ts a = tt
behind_stack_op (Clears y) ts a = filtered _ 0 ts a

behind_tag_op : (op : TagOp) (ts : List Tag) → Above 0 ts → Above 0 (tags_behind_tag_op op ts)
behind_tag_op (Tries y label) ts a = tagged_above _ 0 ts (omega arith) a
behind_tag_op (Catches y label) ts a = tagged_above _ 0 ts (omega arith) a
behind_tag_op (TryEnds y) ts a = filtered _ 0 ts a
behind_tag_op (TryHandles y) ts a = filtered _ 0 ts a
behind_tag_op (CatchEnds y) ts a = filtered _ 0 ts a

pub behind_above : (shape : Shape) (ts : List Tag) → Above 0 ts → Above 0 (tags_behind shape ts)
behind_above (Stacks op) ts a = behind_stack_op op ts a
behind_above (Tags op) ts a = behind_tag_op op ts a
behind_above shape ts a = untouched_above (places_of shape) ts a

-- on the moves of a path

AllAbove : List Point → Type 0
AllAbove ps = (q : Point) → Contains ps q → Above 0 q.tags

none : AllAbove []
unfolding AllAbove
none q c = absurd (omega (arith, c.1))

one : (p : Point) → Above 0 p.tags → AllAbove (p ∷ [])
unfolding AllAbove
one p a q c = elim (first_or_later p [] q c) [ inl e ↦ subst (λ r. Above 0 r.tags) e a | inr rest ↦ absurd (omega (arith, rest.1)) ]

several : (ps qs : List Point) → AllAbove ps → AllAbove qs → AllAbove (ps ++ qs)
unfolding AllAbove
several ps qs a b q c = elim (Contains-append_cases ps qs q c) [ inl l ↦ a q l | inr r ↦ b q r ]

where_so : (b : Bool) (ps : List Point) → AllAbove ps → AllAbove (if b then ps else [])
where_so true ps a = a
where_so false ps a = none

at_item_above : (p : Point) (o : Option ℕ) → Above 0 p.tags → AllAbove (at_item p o)
at_item_above p None a = none
at_item_above p (Some item) a = one _ a

at_labels_above : (f : Function) (p : Point) (labels : List ℕ) → Above 0 p.tags → AllAbove (at_labels f p labels)
at_labels_above f p [] a = none
at_labels_above f p (label ∷ labels) a = several _ _ (at_item_above p (label_in f label) a) (at_labels_above f p labels a)

at_handler_above : (p : Point) (kind : TagKind) (o : Option ℕ) → Above 0 p.tags → AllAbove (at_handler p kind o)
at_handler_above p kind None a = none
at_handler_above p kind (Some item) a = one _ a

handlers_above : (f : Function) (p : Point) (o : Option Tag) → Above 0 p.tags → AllAbove (handlers f p o)
handlers_above f p None a = none
handlers_above f p (Some t) a = at_handler_above p t.kind (label_in f t.label) a

moves_above : (ms : List Module) (f : Function) (p : Point) (o : Option Lined) → Above 0 p.tags → AllAbove (moves_at ms f p o)
moves_above ms f p None a = none
moves_above ms f p (Some i) a =
    several _ _ (where_so (shape_goes_on (shape_of i.instr) && nat_lt (p.item + 1) (length f.items)) (behind (shape_of i.instr) p ∷ []) (one _ (behind_above (shape_of i.instr) p.tags a)))
    (several _ _ (at_labels_above f p (labels_of (shape_of i.instr)) a)
    (where_so (may_raise ms (shape_of i.instr)) (handlers f p (lowest_tag p.tags)) (handlers_above f p (lowest_tag p.tags) a)))

-- the tags of every path ascend
pub ascending : (ms : List Module) (f : Function) (n : ℕ) (p : Point) → Free (graph ms f) n p → Above 0 p.tags
unfolding AllAbove
ascending ms f zero p is = subst (λ q. Above 0 q.tags) (sym is) tt
ascending ms f (suc n) p free = come (moves_above ms f free.0 (slice_get f.items free.0.item) (ascending ms f n free.0 free.1)) free.2
  where
    come : AllAbove (moves_at ms f free.0 (slice_get f.items free.0.item)) → Contains (moves_at ms f free.0 (slice_get f.items free.0.item)) p → Above 0 p.tags
    come all c = all p c
