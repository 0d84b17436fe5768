-- The marks among y registers, as these change.
use Rattle.std.proofs.Common.{◌≡◌, ℕ, zero, suc, ◌+◌, ◌-◌, ◌<◌, ◌≤◌, Bool, true, false, not, ◌&&◌, ◌||◌, Some, None, List, [], ◌∷◌, ◌++◌, drop, filter, length, map, nat_eq, nat_lt, slice_get, slice_set, refl, ap, subst, sym, ◌∙◌, arith, if◌then◌else◌}
use Rattle.std.specs.List.{list_all}
use Rattle.std.proofs.lemmas.Bool.Decides.{nat_tests}
use Rattle.term_tree.proofs.TermLaws.{both_hold}
use Rattle.beam_code.specs.declared.instr.Place.{Place}
use Rattle.beam_code.specs.declared.instr.Place.TheVariants as place
use Rattle.beam_code.specs.Raise.{Handler, lowest}
use Rattle.beam_code.specs.Row.{is_kind}
use Rattle.beam_code.specs.State as state
use Rattle.beam_code.specs.State.{Slot, Undefined, Holds}
use Rattle.path_rules.specs.declared.tag.Tag.{Tag}
use Rattle.path_rules.specs.declared.tag.TagKind.{TagKind}
use Rattle.path_rules.specs.declared.tag.TagKind.TheVariants.{Try, Catch}
use Rattle.path_rules.specs.Registers.{place_passes}
use Rattle.path_rules.specs.Rules.{is_tag_of}
use Rattle.path_rules.specs.Tags.{is_touched, is_untagged, lowest_tag, mark_kind, moved_down, tagged, trimmed, untagged, untouched}
use Rattle.run_laws.specs.Shown.{kind_of, tags_from}

-- a slot without a mark
abbrev pub IsPlain : Slot → Type 0
IsPlain (state.Tag kind label) = ⊥
IsPlain _ = Unit {0}

-- in front of the others a mark counts, and nothing else
pub front_plain : (at : ℕ) (s : Slot) (ss : List Slot) → IsPlain s → tags_from at (s ∷ ss) ≡ tags_from (at + 1) ss
front_plain at Undefined ss p = refl
front_plain at (Holds v) ss p = refl
front_plain at (state.Tag kind label) ss p = absurd p

front_same : (at : ℕ) (s : Slot) (ss us : List Slot) → tags_from (at + 1) ss ≡ tags_from (at + 1) us → tags_from at (s ∷ ss) ≡ tags_from at (s ∷ us)
front_same at Undefined ss us e = e
front_same at (Holds v) ss us e = e
front_same at (state.Tag kind label) ss us e = ap (λ l. record { y = at; kind = kind_of kind; label = label } ∷ l) e

pub plain_set : (ss : List Slot) (at y : ℕ) (s : Slot) → IsPlain s → ((t : Slot) → slice_get ss y ≡ Some t → IsPlain t) → tags_from at (slice_set ss y s) ≡ tags_from at ss
plain_set [] at y s p there = refl
plain_set (t ∷ ss) at zero s p there = front_plain at s ss p ∙ sym (front_plain at t ss (there t refl))
plain_set (t ∷ ss) at (suc y) s p there = front_same at t (slice_set ss y s) ss (plain_set ss (at + 1) y s p there)

-- ---- filters by place

module _ (test : Tag → Bool) where
  -- those that pass stay
  all_pass : (ss : List Slot) (at : ℕ) → ((t : Tag) → at ≤ t.y → test t ≡ true) → filter test (tags_from at ss) ≡ tags_from at ss
  all_pass [] at passes = refl
  all_pass (Undefined ∷ ss) at passes = all_pass ss (at + 1) (λ t low. passes t (omega arith))
  all_pass (Holds v ∷ ss) at passes = all_pass ss (at + 1) (λ t low. passes t (omega arith))
  all_pass (state.Tag kind label ∷ ss) at passes =
      let t : Tag = record { y = at; kind = kind_of kind; label = label } in
      let here : test t ≡ true = passes t (omega arith) in
      ap (λ b. if b then t ∷ filter test (tags_from (at + 1) ss) else filter test (tags_from (at + 1) ss)) here
      ∙ ap (λ l. t ∷ l) (all_pass ss (at + 1) (λ u low. passes u (omega arith)))

  none_pass : (ss : List Slot) (at : ℕ) → ((t : Tag) → at ≤ t.y → test t ≡ false) → filter test (tags_from at ss) ≡ []
  none_pass [] at fails = refl
  none_pass (Undefined ∷ ss) at fails = none_pass ss (at + 1) (λ t low. fails t (omega arith))
  none_pass (Holds v ∷ ss) at fails = none_pass ss (at + 1) (λ t low. fails t (omega arith))
  none_pass (state.Tag kind label ∷ ss) at fails =
      let t : Tag = record { y = at; kind = kind_of kind; label = label } in
      let here : test t ≡ false = fails t (omega arith) in
      ap (λ b. if b then t ∷ filter test (tags_from (at + 1) ss) else filter test (tags_from (at + 1) ss)) here
      ∙ none_pass ss (at + 1) (λ u low. fails u (omega arith))

  -- the one in front, by itself
  first_stays : (t : Tag) (ts : List Tag) → test t ≡ true → filter test (t ∷ ts) ≡ t ∷ filter test ts
  first_stays t ts e = ap (λ b. if b then t ∷ filter test ts else filter test ts) e

  first_goes : (t : Tag) (ts : List Tag) → test t ≡ false → filter test (t ∷ ts) ≡ filter test ts
  first_goes t ts e = ap (λ b. if b then t ∷ filter test ts else filter test ts) e

eq_self : (n : ℕ) → nat_eq n n ≡ true
eq_self n = grind (arith, nat_tests)

-- ---- a mark goes

removed_front : (s : Slot) (ss : List Slot) (at : ℕ) → filter (λ t. not (nat_eq t.y at)) (tags_from at (s ∷ ss)) ≡ tags_from (at + 1) ss
removed_front s ss at = by s
  where
    rest : filter (λ (t : Tag). not (nat_eq t.y at)) (tags_from (at + 1) ss) ≡ tags_from (at + 1) ss
    rest = all_pass (λ t. not (nat_eq t.y at)) ss (at + 1) (λ t low. grind (arith, nat_tests))

    by : (s : Slot) → filter (λ (t : Tag). not (nat_eq t.y at)) (tags_from at (s ∷ ss)) ≡ tags_from (at + 1) ss
    by Undefined = rest
    by (Holds v) = rest
    by (state.Tag kind label) =
        first_goes (λ t. not (nat_eq t.y at)) (record { y = at; kind = kind_of kind; label = label }) (tags_from (at + 1) ss) (ap not (eq_self at)) ∙ rest

removed_behind : (s : Slot) (ss us : List Slot) (at k : ℕ) → at < k → filter (λ t. not (nat_eq t.y k)) (tags_from (at + 1) ss) ≡ tags_from (at + 1) us
    → filter (λ t. not (nat_eq t.y k)) (tags_from at (s ∷ ss)) ≡ tags_from at (s ∷ us)
removed_behind Undefined ss us at k low e = e
removed_behind (Holds v) ss us at k low e = e
removed_behind (state.Tag kind label) ss us at k low e =
    let other : nat_eq at k ≡ false = grind (arith, nat_tests) in
    first_stays (λ t. not (nat_eq t.y k)) (record { y = at; kind = kind_of kind; label = label }) (tags_from (at + 1) ss) (ap not other)
    ∙ ap (λ l. record { y = at; kind = kind_of kind; label = label } ∷ l) e

removed : (ss : List Slot) (at y k : ℕ) (s : Slot) → IsPlain s → y < length ss → k ≡ at + y → filter (λ t. not (nat_eq t.y k)) (tags_from at ss) ≡ tags_from at (slice_set ss y s)
removed [] at y k s p low e = absurd (omega arith)
removed (t ∷ ss) at zero k s p low e =
    let here : k ≡ at = omega arith in
    subst (λ j. filter (λ t. not (nat_eq t.y j)) (tags_from at (t ∷ ss)) ≡ tags_from at (s ∷ ss)) (sym here) (removed_front t ss at ∙ sym (front_plain at s ss p))
removed (t ∷ ss) at (suc y) k s p low e =
    removed_behind t ss (slice_set ss y s) at k (omega arith) (removed ss (at + 1) y k s p (omega arith) (omega arith))

pub untagged_is : (ss : List Slot) (y : ℕ) (s : Slot) → IsPlain s → y < length ss → untagged y (tags_from 0 ss) ≡ tags_from 0 (slice_set ss y s)
untagged_is ss y s p low = removed ss 0 y y s p low (omega arith)

-- ---- a mark comes

abbrev with_tag : Tag → List Tag → List Tag
with_tag t tags = filter (λ u. nat_lt u.y t.y) tags ++ t ∷ filter (λ u. nat_lt t.y u.y) tags

put_front : (s : Slot) (ss : List Slot) (t : Tag) → with_tag t (tags_from t.y (s ∷ ss)) ≡ t ∷ tags_from (t.y + 1) ss
put_front s ss t = by s
  where
    low : filter (λ (u : Tag). nat_lt u.y t.y) (tags_from (t.y + 1) ss) ≡ []
    low = none_pass (λ u. nat_lt u.y t.y) ss (t.y + 1) (λ u above. grind (arith, nat_tests))

    high : filter (λ (u : Tag). nat_lt t.y u.y) (tags_from (t.y + 1) ss) ≡ tags_from (t.y + 1) ss
    high = all_pass (λ u. nat_lt t.y u.y) ss (t.y + 1) (λ u above. grind (arith, nat_tests))

    rest : with_tag t (tags_from (t.y + 1) ss) ≡ t ∷ tags_from (t.y + 1) ss
    rest = ap (λ l. l ++ t ∷ filter (λ (u : Tag). nat_lt t.y u.y) (tags_from (t.y + 1) ss)) low ∙ ap (λ l. t ∷ l) high

    self : nat_lt t.y t.y ≡ false
    self = grind (arith, nat_tests)

    by : (s : Slot) → with_tag t (tags_from t.y (s ∷ ss)) ≡ t ∷ tags_from (t.y + 1) ss
    by Undefined = rest
    by (Holds v) = rest
    by (state.Tag kind label) =
        let u : Tag = record { y = t.y; kind = kind_of kind; label = label } in
        ap (λ l. l ++ t ∷ filter (λ (u : Tag). nat_lt t.y u.y) (u ∷ tags_from (t.y + 1) ss)) (first_goes (λ u. nat_lt u.y t.y) u (tags_from (t.y + 1) ss) self)
        ∙ ap (λ l. filter (λ (u : Tag). nat_lt u.y t.y) (tags_from (t.y + 1) ss) ++ t ∷ l) (first_goes (λ u. nat_lt t.y u.y) u (tags_from (t.y + 1) ss) self) ∙ rest

put_behind : (s : Slot) (ss us : List Slot) (at : ℕ) (t : Tag) → at < t.y → with_tag t (tags_from (at + 1) ss) ≡ tags_from (at + 1) us → with_tag t (tags_from at (s ∷ ss)) ≡ tags_from at (s ∷ us)
put_behind Undefined ss us at t low e = e
put_behind (Holds v) ss us at t low e = e
put_behind (state.Tag kind label) ss us at t low e =
    let u : Tag = record { y = at; kind = kind_of kind; label = label } in
    let below : nat_lt at t.y ≡ true = grind (arith, nat_tests) in
    let above : nat_lt t.y at ≡ false = grind (arith, nat_tests) in
    ap (λ l. l ++ t ∷ filter (λ (u : Tag). nat_lt t.y u.y) (u ∷ tags_from (at + 1) ss)) (first_stays (λ u. nat_lt u.y t.y) u (tags_from (at + 1) ss) below)
    ∙ ap (λ l. u ∷ (filter (λ (u : Tag). nat_lt u.y t.y) (tags_from (at + 1) ss) ++ t ∷ l)) (first_goes (λ u. nat_lt t.y u.y) u (tags_from (at + 1) ss) above)
    ∙ ap (λ l. u ∷ l) e

put_at : (ss : List Slot) (at y : ℕ) (kind : state.TagKind) (label : ℕ) (t : Tag) → y < length ss → t ≡ record { y = at + y; kind = kind_of kind; label = label } → with_tag t (tags_from at ss) ≡ tags_from at (slice_set ss y (state.Tag kind label))
put_at [] at y kind label t low e = absurd (omega arith)
put_at (s ∷ ss) at zero kind label t low e =
    let here : t.y ≡ at + 0 = ap (λ u. u.y) e in
    let place : t.y ≡ at = omega arith in
    let is : t ≡ record { y = at; kind = kind_of kind; label = label } = e ∙ ap (λ n. record { y = n; kind = kind_of kind; label = label }) (let same : at + 0 ≡ at = omega arith in same) in
    subst (λ n. with_tag t (tags_from n (s ∷ ss)) ≡ record { y = n; kind = kind_of kind; label = label } ∷ tags_from (n + 1) ss) place
    (put_front s ss t ∙ ap (λ u. u ∷ tags_from (t.y + 1) ss) (is ∙ ap (λ n. record { y = n; kind = kind_of kind; label = label }) (sym place)))
put_at (s ∷ ss) at (suc y) kind label t low e =
    let here : t.y ≡ at + suc y = ap (λ u. u.y) e in
    let place : at + suc y ≡ at + 1 + y = omega arith in
    put_behind s ss (slice_set ss y (state.Tag kind label)) at t (omega arith)
    (put_at ss (at + 1) y kind label t (omega arith) (e ∙ ap (λ n. record { y = n; kind = kind_of kind; label = label }) place))

pub tagged_is : (ss : List Slot) (y : ℕ) (kind : state.TagKind) (label : ℕ) → y < length ss
    → tagged (record { y = y; kind = kind_of kind; label = label }) (tags_from 0 ss) ≡ tags_from 0 (slice_set ss y (state.Tag kind label))
tagged_is ss y kind label low = put_at ss 0 y kind label (record { y = y; kind = kind_of kind; label = label }) low (ap (λ n. record { y = n; kind = kind_of kind; label = label }) (let same : y ≡ 0 + y = omega arith in same))

-- ---- the first ones are trimmed away

moved_all : (ss : List Slot) (n j : ℕ) → map (moved_down n) (tags_from (n + j) ss) ≡ tags_from j ss
moved_all [] n j = refl
moved_all (Undefined ∷ ss) n j = let next : n + j + 1 ≡ n + (j + 1) = omega arith in ap (λ k. map (moved_down n) (tags_from k ss)) next ∙ moved_all ss n (j + 1)
moved_all (Holds v ∷ ss) n j = let next : n + j + 1 ≡ n + (j + 1) = omega arith in ap (λ k. map (moved_down n) (tags_from k ss)) next ∙ moved_all ss n (j + 1)
moved_all (state.Tag kind label ∷ ss) n j =
    let next : n + j + 1 ≡ n + (j + 1) = omega arith in
    let here : n + j - n ≡ j = omega arith in
    ap (λ k. record { y = k; kind = kind_of kind; label = label } ∷ map (moved_down n) (tags_from (n + j + 1) ss)) here
    ∙ ap (λ l. record { y = j; kind = kind_of kind; label = label } ∷ l) (ap (λ k. map (moved_down n) (tags_from k ss)) next ∙ moved_all ss n (j + 1))

dropped : (k : ℕ) (ss : List Slot) (at n : ℕ) → n ≡ at + k → filter (λ t. not (nat_lt t.y n)) (tags_from at ss) ≡ tags_from n (drop k ss)
dropped zero ss at n e =
    let here : n ≡ at = omega arith in
    subst (λ m. filter (λ t. not (nat_lt t.y m)) (tags_from at ss) ≡ tags_from m ss) (sym here) (all_pass (λ t. not (nat_lt t.y at)) ss at (λ t low. grind (arith, nat_tests)))
dropped (suc k) [] at n e = refl
dropped (suc k) (Undefined ∷ ss) at n e = dropped k ss (at + 1) n (omega arith)
dropped (suc k) (Holds v ∷ ss) at n e = dropped k ss (at + 1) n (omega arith)
dropped (suc k) (state.Tag kind label ∷ ss) at n e =
    let below : nat_lt at n ≡ true = grind (arith, nat_tests) in
    first_goes (λ t. not (nat_lt t.y n)) (record { y = at; kind = kind_of kind; label = label }) (tags_from (at + 1) ss) (ap not below) ∙ dropped k ss (at + 1) n (omega arith)

pub trimmed_is : (ss : List Slot) (n : ℕ) → trimmed n (tags_from 0 ss) ≡ tags_from 0 (drop n ss)
trimmed_is ss n =
    let all : n ≡ n + 0 = omega arith in
    ap (map (moved_down n)) (dropped n ss 0 n (omega arith)) ∙ ap (λ k. map (moved_down n) (tags_from k (drop n ss))) all ∙ moved_all (drop n ss) n 0

-- ---- places that have no mark

not_true : (b : Bool) → not b ≡ true → b ≡ false
not_true true e = cc
not_true false e = refl

no_tag_at : (ss : List Slot) (at y k : ℕ) → k ≡ at + y → is_untagged (tags_from at ss) k ≡ true → (t : Slot) → slice_get ss y ≡ Some t → IsPlain t
no_tag_at [] at y k e free t there = absurd cc
no_tag_at (Undefined ∷ ss) at zero k e free t there = subst IsPlain (let same : Undefined ≡ t = cc in same) tt
no_tag_at (Holds v ∷ ss) at zero k e free t there = subst IsPlain (let same : Holds v ≡ t = cc in same) tt
no_tag_at (state.Tag kind label ∷ ss) at zero k e free t there =
    let here : nat_eq at k ≡ true = grind (arith, nat_tests) in
    let off : nat_eq at k ≡ false = not_true (nat_eq at k) (both_hold (not (nat_eq at k)) (is_untagged (tags_from (at + 1) ss) k) free).0 in
    absurd cc
no_tag_at (Undefined ∷ ss) at (suc y) k e free t there = no_tag_at ss (at + 1) y k (omega arith) free t there
no_tag_at (Holds v ∷ ss) at (suc y) k e free t there = no_tag_at ss (at + 1) y k (omega arith) free t there
no_tag_at (state.Tag kind label ∷ ss) at (suc y) k e free t there =
    no_tag_at ss (at + 1) y k (omega arith) (both_hold (not (nat_eq at k)) (is_untagged (tags_from (at + 1) ss) k) free).1 t there

pub untagged_plain : (ss : List Slot) (y : ℕ) → is_untagged (tags_from 0 ss) y ≡ true → (t : Slot) → slice_get ss y ≡ Some t → IsPlain t
untagged_plain ss y free t there = no_tag_at ss 0 y y (omega arith) free t there

split_places : (places : List Place) (t : Tag) (ts : List Tag) → list_all (place_passes (is_untagged (t ∷ ts))) places ≡ true → (list_all (place_passes (is_untagged ts)) places ≡ true) × (is_touched places t.y ≡ false)
split_places [] t ts all = (refl, refl)
split_places (place.X n ∷ places) t ts all = split_places places t ts all
split_places (place.Y n ∷ places) t ts all =
    let b = both_hold (is_untagged (t ∷ ts) n) (list_all (place_passes (is_untagged (t ∷ ts))) places) all in
    let own = both_hold (not (nat_eq t.y n)) (is_untagged ts n) b.0 in
    let rest = split_places places t ts b.1 in
    let other : nat_eq t.y n ≡ false = not_true (nat_eq t.y n) own.0 in
    (ap (λ x. x && list_all (place_passes (is_untagged ts)) places) own.1 ∙ rest.0, ap (λ x. x || is_touched places t.y) other ∙ rest.1)

pub untouched_is : (places : List Place) (tags : List Tag) → list_all (place_passes (is_untagged tags)) places ≡ true → untouched places tags ≡ tags
untouched_is places [] all = refl
untouched_is places (t ∷ ts) all =
    let s = split_places places t ts all in
    first_stays (λ t. not (is_touched places t.y)) t ts (ap not s.1) ∙ ap (λ l. t ∷ l) (untouched_is places ts s.0)

pub untouched_none : (tags : List Tag) → untouched [] tags ≡ tags
untouched_none tags = untouched_is [] tags refl

-- ---- the lowest mark

pub record IsLowest (at : ℕ) (ss : List Slot) (h : Handler) : Type 0 where
  pub y : ℕ
  pub is : lowest_tag (tags_from at ss) ≡ Some (record { y = y; kind = kind_of h.kind; label = h.label })

pub lowest_is : (ss : List Slot) (at : ℕ) (h : Handler) → lowest ss ≡ Some h → IsLowest at ss h
lowest_is [] at h e = absurd cc
lowest_is (Undefined ∷ ss) at h e = let r = lowest_is ss (at + 1) h e in record { y = r.y; is = r.is }
lowest_is (Holds v ∷ ss) at h e = let r = lowest_is ss (at + 1) h e in record { y = r.y; is = r.is }
lowest_is (state.Tag kind label ∷ ss) at h e =
    let same : record { kind = kind; label = label } ≡ h = cc in
    record { y = at; is = ap (λ (g : Handler). Some (record { y = at; kind = kind_of g.kind; label = g.label })) same }

pub none_lowest : (ss : List Slot) (at : ℕ) → lowest ss ≡ None → lowest_tag (tags_from at ss) ≡ None
none_lowest [] at e = refl
none_lowest (Undefined ∷ ss) at e = none_lowest ss (at + 1) e
none_lowest (Holds v ∷ ss) at e = none_lowest ss (at + 1) e
none_lowest (state.Tag kind label ∷ ss) at e = absurd cc

none_below : (ss : List Slot) (at k : ℕ) (kind : TagKind) → k < at → is_tag_of kind k (lowest_tag (tags_from at ss)) ≡ true → ⊥
none_below [] at k kind low e = cc
none_below (Undefined ∷ ss) at k kind low e = none_below ss (at + 1) k kind (omega arith) e
none_below (Holds v ∷ ss) at k kind low e = none_below ss (at + 1) k kind (omega arith) e
none_below (state.Tag marked label ∷ ss) at k kind low e =
    let other : nat_eq k at ≡ false = grind (arith, nat_tests) in
    let b = both_hold _ (nat_eq k at) e in
    absurd (let on : nat_eq k at ≡ true = b.1 in cc)

same_kind_is : (kind : TagKind) (marked : state.TagKind) (label at k : ℕ) → is_tag_of kind k (Some (record { y = at; kind = kind_of marked; label = label })) ≡ true → is_kind (mark_kind kind) (Some (state.Tag marked label)) ≡ true
same_kind_is Try state.OfTry label at k e = refl
same_kind_is Catch state.OfCatch label at k e = refl
same_kind_is Try state.OfCatch label at k e = absurd cc
same_kind_is Catch state.OfTry label at k e = absurd cc

kind_there : (ss : List Slot) (at y k : ℕ) (kind : TagKind) → k ≡ at + y → is_tag_of kind k (lowest_tag (tags_from at ss)) ≡ true → is_kind (mark_kind kind) (slice_get ss y) ≡ true
kind_there [] at y k kind e h = absurd cc
kind_there (Undefined ∷ ss) at zero k kind e h = absurd (none_below ss (at + 1) k kind (omega arith) h)
kind_there (Holds v ∷ ss) at zero k kind e h = absurd (none_below ss (at + 1) k kind (omega arith) h)
kind_there (Undefined ∷ ss) at (suc y) k kind e h = kind_there ss (at + 1) y k kind (omega arith) h
kind_there (Holds v ∷ ss) at (suc y) k kind e h = kind_there ss (at + 1) y k kind (omega arith) h
kind_there (state.Tag marked label ∷ ss) at zero k kind e h = same_kind_is kind marked label at k h
kind_there (state.Tag marked label ∷ ss) at (suc y) k kind e h =
    let other : nat_eq k at ≡ false = grind (arith, nat_tests) in
    let b = both_hold _ (nat_eq k at) h in
    absurd (let on : nat_eq k at ≡ true = b.1 in cc)

pub kind_is : (ss : List Slot) (y : ℕ) (kind : TagKind) → is_tag_of kind y (lowest_tag (tags_from 0 ss)) ≡ true → is_kind (mark_kind kind) (slice_get ss y) ≡ true
kind_is ss y kind h = kind_there ss 0 y y kind (omega arith) h
