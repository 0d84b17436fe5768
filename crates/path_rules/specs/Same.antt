-- What tests of points say: which are the same, which are apart (README.md).
use Rattle.std.proofs.Common.{◌≡◌, ◌≢◌, ℕ, Bool, true, false, not, ◌&&◌, ◌||◌, refl, ap, sym, ◌∙◌, List, [], ◌∷◌, Option, Some, None, nat_eq}
use Rattle.std.proofs.lemmas.Bool.{and_from, eqb-true, eq-eqb}
use Rattle.path_search.specs.Found.{IsByItem}
use Rattle.beam_code.specs.declared.module.Module.{Module}
use Rattle.beam_code.specs.Function.{Placed}
use Rattle.path_rules.specs.declared.frame.FramePoint.{FramePoint}
use Rattle.path_rules.specs.declared.rule.Rule.{Rule}
use Rattle.path_rules.specs.declared.rule.Rule.TheVariants.{FallsOff, CallTarget, BadHandler, Loop, StackSize, TagState, TagOrder, Undefined, HeapUncovered}
use Rattle.path_rules.specs.declared.tag.Tag.{Tag}
use Rattle.path_rules.specs.declared.tag.TagKind.{TagKind}
use Rattle.path_rules.specs.declared.tag.TagKind.TheVariants.{Try, Catch}
use Rattle.path_rules.specs.Frames.{frame_item, frame_ways, same_flag, same_frame}
use Rattle.path_rules.specs.Rules.{same_stack}
use Rattle.path_rules.specs.Tags.{same_kind, same_tag, same_tags}

-- both of two tests
both : (a b : Bool) → (a && b) ≡ true → (a ≡ true) × (b ≡ true)
both true b t = (refl, t)
both false b t = cc

kind_is : (k j : TagKind) → same_kind k j ≡ true → k ≡ j
kind_is Try Try t = refl
kind_is Try Catch t = cc
kind_is Catch Try t = cc
kind_is Catch Catch t = refl

kind_self : (k : TagKind) → same_kind k k ≡ true
kind_self Try = refl
kind_self Catch = refl

abbrev tag_with : ℕ → TagKind → ℕ → Tag
tag_with y kind label = record { y = y; kind = kind; label = label }

tag_is : (t u : Tag) → same_tag t u ≡ true → t ≡ u
tag_is t u same =
    let a = both (nat_eq t.y u.y && same_kind t.kind u.kind) (nat_eq t.label u.label) same in
    let b = both (nat_eq t.y u.y) (same_kind t.kind u.kind) a.0 in
    ap (λ y. tag_with y t.kind t.label) (eqb-true t.y u.y b.0)
    ∙ (ap (λ kind. tag_with u.y kind t.label) (kind_is t.kind u.kind b.1) ∙ ap (λ label. tag_with u.y u.kind label) (eqb-true t.label u.label a.1))

tag_self : (t : Tag) → same_tag t t ≡ true
tag_self t = and_from _ _ (and_from _ _ (eq-eqb t.y t.y refl) (kind_self t.kind)) (eq-eqb t.label t.label refl)

pub tags_are : (a b : List Tag) → same_tags a b ≡ true → a ≡ b
tags_are [] [] same = refl
tags_are [] (u ∷ us) same = cc
tags_are (t ∷ ts) [] same = cc
tags_are (t ∷ ts) (u ∷ us) same =
    let a = both (same_tag t u) (same_tags ts us) same in
    let first = tag_is t u a.0 in
    let rest = tags_are ts us a.1 in
    cc

pub tags_self : (a : List Tag) → same_tags a a ≡ true
tags_self [] = refl
tags_self (t ∷ ts) = and_from _ _ (tag_self t) (tags_self ts)

pub stack_is : (a b : Option ℕ) → same_stack a b ≡ true → a ≡ b
stack_is None None same = refl
stack_is None (Some n) same = cc
stack_is (Some m) None same = cc
stack_is (Some m) (Some n) same = ap (λ k. Some k) (eqb-true m n same)

stack_self : (a : Option ℕ) → same_stack a a ≡ true
stack_self None = refl
stack_self (Some n) = eq-eqb n n refl

flag_is : (a b : Bool) → same_flag a b ≡ true → a ≡ b
flag_is true true same = refl
flag_is true false same = cc
flag_is false true same = cc
flag_is false false same = refl

flag_self : (a : Bool) → same_flag a a ≡ true
flag_self true = refl
flag_self false = refl

abbrev frame_with : ℕ → Option ℕ → List Tag → Bool → FramePoint
frame_with item stack tags raised = record { item = item; stack = stack; tags = tags; raised = raised }

pub frame_is : (q r : FramePoint) → same_frame q r ≡ true → q ≡ r
frame_is q r same =
    let a = both (nat_eq q.item r.item && same_stack q.stack r.stack && same_tags q.tags r.tags) (same_flag q.raised r.raised) same in
    let b = both (nat_eq q.item r.item && same_stack q.stack r.stack) (same_tags q.tags r.tags) a.0 in
    let c = both (nat_eq q.item r.item) (same_stack q.stack r.stack) b.0 in
    ap (λ item. frame_with item q.stack q.tags q.raised) (eqb-true q.item r.item c.0)
    ∙ (ap (λ stack. frame_with r.item stack q.tags q.raised) (stack_is q.stack r.stack c.1)
    ∙ (ap (λ (tags : List Tag). frame_with r.item r.stack tags q.raised) (tags_are q.tags r.tags b.1)
    ∙ ap (λ raised. frame_with r.item r.stack r.tags raised) (flag_is q.raised r.raised a.1)))

pub frame_self : (q : FramePoint) → same_frame q q ≡ true
frame_self q =
    and_from _ _ (and_from _ _ (and_from _ _ (eq-eqb q.item q.item refl) (stack_self q.stack)) (tags_self q.tags)) (flag_self q.raised)

-- so two frames are the same exactly where the test says so
pub frames_same : (q r : FramePoint) → true ≡ same_frame q r → q ≡ r
frames_same q r same = frame_is q r (sym same)

pub frames_other : (q r : FramePoint) → false ≡ same_frame q r → q ≢ r
frames_other q r other is = (let self = frame_self q in let other2 = ap (λ x. same_frame q x) is in cc)

-- by item

or_right : (a b : Bool) → b ≡ true → (a || b) ≡ true
or_right true b t = refl
or_right false b t = t

apart_item : (ms : List Module) (f : Placed) (rule : Rule) (q r : FramePoint) → (frame_ways ms f rule).apart q r ≡ true → q.item ≡ r.item
apart_item ms f rule q r t = eqb-true q.item r.item (both _ _ t).0

splits_item : (ms : List Module) (f : Placed) (rule : Rule) (q r : FramePoint) → (frame_ways ms f rule).splits q r ≡ true → q.item ≡ r.item
splits_item ms f StackSize q r t = eqb-true q.item r.item (both _ _ t).0
splits_item ms f TagState q r t = eqb-true q.item r.item (both _ _ t).0
splits_item ms f FallsOff q r t = cc
splits_item ms f CallTarget q r t = cc
splits_item ms f BadHandler q r t = cc
splits_item ms f Loop q r t = cc
splits_item ms f TagOrder q r t = cc
splits_item ms f Undefined q r t = cc
splits_item ms f HeapUncovered q r t = cc

-- where two are told apart, any third one at their item is told from one of them
third_by : {K : Type 0} (same : K → K → Bool) → ((a b : K) → same a b ≡ true → a ≡ b) → (i j k : ℕ) (x y z : K) →
    (nat_eq i j && not (same x y)) ≡ true → k ≡ i → ((nat_eq k i && not (same z x)) || (nat_eq k j && not (same z y))) ≡ true
third_by {K} same is i j k x y z apart at = by (same z x) refl
  where
    to : nat_eq k j ≡ true
    to = eq-eqb k j (at ∙ eqb-true i j (both (nat_eq i j) (not (same x y)) apart).0)

    by : (b : Bool) → same z x ≡ b → ((nat_eq k i && not (same z x)) || (nat_eq k j && not (same z y))) ≡ true
    by false e = ap (λ c. c || (nat_eq k j && not (same z y))) (and_from _ _ (eq-eqb k i at) (ap not e))
    by true e =
        or_right (nat_eq k i && not (same z x)) (nat_eq k j && not (same z y))
        (and_from _ _ to (ap (λ w. not (same w y)) (is z x e) ∙ (both (nat_eq i j) (not (same x y)) apart).1))

third_item : (ms : List Module) (f : Placed) (rule : Rule) (q r s : FramePoint) → (frame_ways ms f rule).splits q r ≡ true → s.item ≡ q.item →
    ((frame_ways ms f rule).splits s q || (frame_ways ms f rule).splits s r) ≡ true
third_item ms f StackSize q r s t at = third_by same_stack stack_is q.item r.item s.item q.stack r.stack s.stack t at
third_item ms f TagState q r s t at = third_by same_tags tags_are q.item r.item s.item q.tags r.tags s.tags t at
third_item ms f FallsOff q r s t at = cc
third_item ms f CallTarget q r s t at = cc
third_item ms f BadHandler q r s t at = cc
third_item ms f Loop q r s t at = cc
third_item ms f TagOrder q r s t at = cc
third_item ms f Undefined q r s t at = cc
third_item ms f HeapUncovered q r s t at = cc

pub by_item : (ms : List Module) (f : Placed) (rule : Rule) → IsByItem (frame_ways ms f rule) frame_item
by_item ms f rule = record { apart = apart_item ms f rule; splits = splits_item ms f rule; third = third_item ms f rule }
