-- Names in tables: they stay, they come in, and each has a number.
use Rattle.std.proofs.Common.{◌≡◌, ℕ, suc, ◌+◌, ◌++◌, Bool, true, false, ◌||◌, List, [], ◌∷◌, Some, slice_get, refl, sym, ap, ◌∙◌, arith, if◌then◌else◌}
use Rattle.std.specs.List.{list_all}
use Rattle.std.specs.Cmp.Lexicographic.{same_text}
use Rattle.std.proofs.lemmas.Bool.{and_from}
use Rattle.std.proofs.lemmas.Cmp.{nat_list_eq_equiv}
use Rattle.std.proofs.lemmas.List.Folds.{list_any-append}
use Rattle.tagged_words.specs.Atoms.{is_among}
use Rattle.tagged_words.specs.Laid.{number_from, with_atom, with_names}
use Rattle.term_tree.specs.Name.{same_name}
use Rattle.term_tree.proofs.TermLaws.{both_hold}

or_true : (b : Bool) → b || true ≡ true
or_true true = refl
or_true false = refl

-- a name stays where others come behind
pub still_among : (table more : List (List ℕ)) (a : List ℕ) → is_among a table ≡ true → is_among a (table ++ more) ≡ true
still_among table more a here = list_any-append (same_name a) table more ∙ ap (λ b. b || is_among a more) here

last_among : (table : List (List ℕ)) (a : List ℕ) → is_among a (table ++ a ∷ []) ≡ true
last_among table a =
    list_any-append (same_name a) table (a ∷ []) ∙ ap (λ b. is_among a table || (b || false)) (nat_list_eq_equiv.refl a) ∙ or_true (is_among a table)

pub still_with : (table : List (List ℕ)) (a b : List ℕ) → is_among b table ≡ true → is_among b (with_atom table a) ≡ true
still_with table a b here = go (is_among a table)
  where
    go : (t : Bool) → is_among b (if t then table else table ++ a ∷ []) ≡ true
    go true = here
    go false = still_among table (a ∷ []) b here

-- a name comes in
pub there_with : (table : List (List ℕ)) (a : List ℕ) → is_among a (with_atom table a) ≡ true
there_with table a = go (is_among a table) refl
  where
    go : (t : Bool) → is_among a table ≡ t → is_among a (if t then table else table ++ a ∷ []) ≡ true
    go true is = is
    go false is = last_among table a

pub still_named : (table names : List (List ℕ)) (a : List ℕ) → is_among a table ≡ true → is_among a (with_names table names) ≡ true
still_named table [] a here = here
still_named table (n ∷ ns) a here = still_named (with_atom table n) ns a (still_with table n a here)

-- whether each of these is in a table
abbrev pub all_among : List (List ℕ) → List (List ℕ) → Bool
all_among table names = list_all (λ n. is_among n table) names

pub there_named : (table names : List (List ℕ)) → all_among (with_names table names) names ≡ true
there_named table [] = refl
there_named table (n ∷ ns) =
    and_from (is_among n (with_names (with_atom table n) ns)) (all_among (with_names (with_atom table n) ns) ns)
    (still_named (with_atom table n) ns n (there_with table n)) (there_named (with_atom table n) ns)

pub still_all : (table more names : List (List ℕ)) → all_among table names ≡ true → all_among (with_names table more) names ≡ true
still_all table more [] here = refl
still_all table more (n ∷ ns) here =
    let both = both_hold (is_among n table) (all_among table ns) here in
    and_from (is_among n (with_names table more)) (all_among (with_names table more) ns) (still_named table more n both.0) (still_all table more ns both.1)

-- a name that is there has the number of its place
pub record Numbered (at : ℕ) (table : List (List ℕ)) (a : List ℕ) : Type 0 where
  pub place : ℕ
  pub is : number_from at table a ≡ at + place
  pub there : slice_get table place ≡ Some a

later : (at : ℕ) (n : List ℕ) (ns : List (List ℕ)) (a : List ℕ) → Numbered (at + 1) ns a → same_name a n ≡ false → Numbered at (n ∷ ns) a
later at n ns a m other = record { place = suc m.place; is = rw other (m.is ∙ omega arith); there = m.there }

first_or : (at : ℕ) (n : List ℕ) (ns : List (List ℕ)) (a : List ℕ) (t : Bool) → same_name a n ≡ t → t || is_among a ns ≡ true → (is_among a ns ≡ true → Numbered (at + 1) ns a) → Numbered at (n ∷ ns) a
first_or at n ns a true same among rest = record { place = 0; is = rw same (omega arith); there = ap (λ x. Some x) (sym (same_text a n (sym same))) }
first_or at n ns a false same among rest = later at n ns a (rest among) same

pub numbered : (at : ℕ) (table : List (List ℕ)) (a : List ℕ) → is_among a table ≡ true → Numbered at table a
numbered at [] a here = absurd cc
numbered at (n ∷ ns) a here = first_or at n ns a (same_name a n) refl here (λ among. numbered (at + 1) ns a among)
