-- Tables of names, no two of which are the same.
use Rattle.std.proofs.Common.{◌≡◌, lit≤, ℕ, zero, suc, ◌+◌, ◌<◌, ◌≤◌, Bool, true, false, List, [], ◌∷◌, ◌++◌, length, get_or, take, refl, sym, ap, subst, ◌∙◌, append_assoc, arith, length-append, if◌then◌else◌}
use Rattle.std.specs.Prelude.{◌&&◌, ◌||◌, ◌==◌, false, Some, unwrap_or, slice_get, position, nat_lt}
use Rattle.std.specs.List.{position_or_len}
use Rattle.std.proofs.lemmas.Option.{slice_get_within, get_or_from_slice_get}
use Rattle.std.proofs.lemmas.Cmp.{nat_list_eq_equiv}
use Rattle.std.proofs.lemmas.Bool.Decides.{nat_tests}
use Rattle.term_tree.specs.Name.{same_name}
use Rattle.std.specs.Cmp.Lexicographic.{pointwise}
use Rattle.std.proofs.lemmas.List.{append-nil, take_more}
use Rattle.indexmap.specs.IndexSet.{insert_key}
use Rattle.tagged_words.specs.declared.addresses.TheConstants.{MOST_ATOM_NUMBERS}
use Rattle.tagged_words.specs.Atoms.{IsNew, IsTable, and_atom, begins, first_atoms, is_among}
use Rattle.tagged_words.specs.Follow.{Follow}
use Rattle.tagged_words.specs.Laid.{with_atom}

-- each name of a list of distinct ones is none of those before it
new_after : (front xs : List (List ℕ)) (i : ℕ) (d : List ℕ) → Follow IsNew and_atom front xs → i < length xs → is_among (get_or xs i d) (front ++ take i xs) ≡ false
new_after front [] i d h lt = absurd (omega arith)
new_after front (x ∷ xs) zero d h lt = rw (append-nil front) h.0
new_after front (x ∷ xs) (suc i) d h lt =
    let rest = new_after (front ++ x ∷ []) xs i d h.1 (omega arith) in
    subst (λ l. is_among (get_or xs i d) l ≡ false) (append_assoc front (x ∷ []) (take i xs)) rest

pub insert_new : (names : List (List ℕ)) (name : List ℕ) → is_among name names ≡ false → insert_key (pointwise ◌==◌) names name ≡ names ++ name ∷ []
insert_new names name h = rw h refl

pub one_more_key : (xs keys after : List (List ℕ)) (i : ℕ) (x : List ℕ) → Follow IsNew and_atom [] xs → i < length xs → x ≡ get_or xs i x → keys ≡ take i xs → after ≡ insert_key (pointwise ◌==◌) keys x → after ≡ take (i + 1) xs
one_more_key xs keys after i x h lt e so_far inserted =
    let new : is_among x (take i xs) ≡ false = subst (λ y. is_among y (take i xs) ≡ false) (sym e) (new_after [] xs i x h lt) in
    inserted ∙ ap (λ k. insert_key (pointwise ◌==◌) k x) so_far ∙ insert_new (take i xs) x new ∙ ap (λ y. take i xs ++ y ∷ []) e ∙ sym (take_more xs i x lt)

-- ---- the number of a name

neither : (b c : Bool) → b || c ≡ false → (b ≡ false) × (c ≡ false)
neither false c h = (refl, h)
neither true c h = absurd cc

first_place : (xs : List (List ℕ)) (n : ℕ) (a : List ℕ) → is_among a (take n xs) ≡ false → slice_get xs n ≡ Some a → position_or_len (same_name a) xs ≡ n
first_place [] n a new at = absurd cc
first_place (x ∷ xs) zero a new at = rw (subst (λ y. same_name a y ≡ true) (sym (ap (λ o. unwrap_or o a) at)) (nat_list_eq_equiv.refl a)) refl
first_place (x ∷ xs) (suc n) a new at =
    let other : same_name a x ≡ false = (neither (same_name a x) (is_among a (take n xs)) new).0 in
    let later : position_or_len (same_name a) xs ≡ n = first_place xs n a (neither (same_name a x) (is_among a (take n xs)) new).1 at in
    rw other (omega (arith, later))

pub number_of_name : (names : List (List ℕ)) (n : ℕ) (a : List ℕ) → IsTable names → slice_get names n ≡ Some a → position (same_name a) names ≡ Some n
number_of_name names n a t at =
    let low = slice_get_within names n a at in
    let here : get_or names n a ≡ a = get_or_from_slice_get names n a a at in
    let new : is_among a (take n names) ≡ false = subst (λ b. is_among b (take n names) ≡ false) here (new_after [] names n a t.distinct low) in
    let place = first_place names n a new at in
    let inside : nat_lt (position_or_len (same_name a) names) (length names) ≡ true = grind (arith, nat_tests, place, low) in
    rw inside (ap Some place)

-- ---- a table with a name more

and_kept : (b c d : Bool) → (c ≡ true → d ≡ true) → b && c ≡ true → b && d ≡ true
and_kept true c d more h = more h
and_kept false c d more h = h

begins_more : (rs table more : List (List ℕ)) → begins rs table ≡ true → begins rs (table ++ more) ≡ true
begins_more [] table more h = refl
begins_more (r ∷ rs) [] more h = absurd cc
begins_more (r ∷ rs) (a ∷ table) more h = and_kept (pointwise ◌==◌ r a) (begins rs table) (begins rs (table ++ more)) (begins_more rs table more) h

one_more : (front xs : List (List ℕ)) (a : List ℕ) → Follow IsNew and_atom front xs → is_among a (front ++ xs) ≡ false → Follow IsNew and_atom front (xs ++ a ∷ [])
one_more front [] a h new = (subst (λ l. is_among a l ≡ false) (append-nil front) new, tt)
one_more front (x ∷ xs) a h new = (h.0, one_more (front ++ x ∷ []) xs a h.1 (subst (λ l. is_among a l ≡ false) (sym (append_assoc front (x ∷ []) xs)) new))

table_if : (b : Bool) (names : List (List ℕ)) (a : List ℕ) → is_among a names ≡ b → IsTable names → length names < MOST_ATOM_NUMBERS → IsTable (if b then names else names ++ a ∷ [])
table_if true names a e t room = t
table_if false names a e t room = record {
  first = begins_more first_atoms names (a ∷ []) t.first;
  distinct = one_more [] names a t.distinct e;
  few = omega (arith, length-append names (a ∷ []), room);
}

pub with_atom_is_table : (names : List (List ℕ)) (a : List ℕ) → IsTable names → length names < MOST_ATOM_NUMBERS → IsTable (with_atom names a)
with_atom_is_table names a t room = table_if (is_among a names) names a refl t room

-- a table grows by one name at most
few_if : (b : Bool) (names : List (List ℕ)) (a : List ℕ) → length (if b then names else names ++ a ∷ []) ≤ length names + 1
few_if true names a = omega arith
few_if false names a = omega (arith, length-append names (a ∷ []))

pub few_with : (names : List (List ℕ)) (a : List ℕ) → length (with_atom names a) ≤ length names + 1
few_with names a = few_if (is_among a names) names a

pub first_is_table : IsTable first_atoms
first_is_table = record { first = refl; distinct = (refl, (refl, (refl, (refl, (refl, (refl, (refl, (refl, (refl, (refl, (refl, (refl, (refl, (refl, tt)))))))))))))); few = lit≤ tt }
