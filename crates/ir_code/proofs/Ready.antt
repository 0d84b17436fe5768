-- The literals of modules can be laid with the table of what the modules mention.
use Rattle.std.proofs.Common.{◌≡◌, ℕ, ◌≤◌, true, false, List, [], ◌∷◌, nat_lt, refl, ap, sym, subst, ◌∙◌, arith}
use Rattle.std.specs.List.{AllByRecursion, list_all, sum_by}
use Rattle.std.specs.Str.{IsUtf8}
use Rattle.std.proofs.lemmas.Bool.Decides.{nat_tests}
use Rattle.std.proofs.lemmas.Str.{is_utf8-from_IsUtf8}
use Rattle.beam_code.specs.CanonicalModule.{are_canonical_functions}
use Rattle.beam_code.specs.declared.module.Module.{Module}
use Rattle.image_format.specs.declared.limits.TheConstants.{MOST_LITERALS}
use Rattle.ir_code.proofs.Counted.{words-mentions}
use Rattle.ir_code.proofs.Sound.{HasSmalls, all_stand, literals_good}
use Rattle.ir_code.specs.Constants.{with_mention, with_mentions}
use Rattle.ir_code.specs.Laying.{CanStand}
use Rattle.ir_code.specs.Mentions.{Mention, Named, Literal, literals_of, mentions_of}
use Rattle.laid_terms.proofs.Named.{Has, of_grows, of_named}
use Rattle.laid_terms.proofs.Tables.{still_with}
use Rattle.laid_terms.specs.Named.{IsNamed, AreNamed}
use Rattle.module_sizes.specs.Counts.{literal_words_in}
use Rattle.tagged_words.specs.Atoms.{first_atoms}
use Rattle.tagged_words.specs.Laid.{with_atom, with_atoms}
use Rattle.term_tree.specs.declared.name.TheConstants.{MOST_CHARACTERS}
use Rattle.term_tree.specs.IsTerm.{IsTerm}
use Rattle.term_tree.specs.Name.{is_name, characters_in}
use Rattle.term_tree.specs.Tree as u
use Rattle.word_laying.specs.Count.{row_words}

pub is_a_name : (a : List ℕ) → IsUtf8 a → characters_in a ≤ 255 → is_name a ≡ true
is_a_name a utf8 short = let few : nat_lt MOST_CHARACTERS (characters_in a) ≡ false = grind (arith, nat_tests) in rw (is_utf8-from_IsUtf8 a utf8, few) refl

mutual
  still : (table more : List (List ℕ)) → Has table more → (v : u.Tree) → IsNamed table v → IsNamed more v
  still table more has (u.Int i) is = tt
  still table more has (u.Atom a) is = has a is
  still table more has u.Nil is = tt
  still table more has (u.Cons head tail) is = (still table more has head is.0, still table more has tail is.1)
  still table more has (u.Tuple vs) is = all_still table more has vs is

  all_still : (table more : List (List ℕ)) → Has table more → (vs : u.Trees) → AreNamed table vs → AreNamed more vs
  all_still table more has u.No is = tt
  all_still table more has (u.More v vs) is = (still table more has v is.0, all_still table more has vs is.1)

mention_has : (table : List (List ℕ)) (m : Mention) → Has table (with_mention table m)
mention_has table (Named a) b here = still_with table a b here
mention_has table (Literal v) b here = of_grows table (v ∷ []) b here

pub mentions_have : (table : List (List ℕ)) (ms : List Mention) → Has table (with_mentions table ms)
mentions_have table [] b here = here
mentions_have table (m ∷ ms) b here = mentions_have (with_mention table m) ms b (mention_has table m b here)

pub all_named : (table : List (List ℕ)) (ms : List Mention) → AllByRecursion (IsNamed (with_mentions table ms)) (literals_of ms)
all_named table [] = tt
all_named table (Named a ∷ ms) = all_named (with_atom table a) ms
all_named table (Literal v ∷ ms) = (
  still (with_atoms table v) (with_mentions (with_atoms table v) ms) (mentions_have (with_atoms table v) ms) v (of_named table (v ∷ [])).0,
  all_named (with_atoms table v) ms,
)

pub can_stand : (ms : List Module) (names : List (List ℕ)) (all : List Mention) → all ≡ mentions_of ms → names ≡ with_mentions first_atoms all → list_all is_name names ≡ true
    → list_all (λ m. are_canonical_functions m.functions) ms ≡ true → sum_by literal_words_in ms ≤ MOST_LITERALS → AllByRecursion (CanStand names) (literals_of all)
can_stand ms names all is table are canonical few =
    let named : AllByRecursion (IsNamed names) (literals_of all) = subst (λ n. AllByRecursion (IsNamed n) (literals_of all)) (sym table) (all_named first_atoms all) in
    let smalls : AllByRecursion HasSmalls (literals_of all) = subst (λ a. AllByRecursion HasSmalls (literals_of a)) (sym is) (literals_good ms canonical) in
    let count : row_words 0 (literals_of all) ≡ sum_by literal_words_in ms = ap (λ a. row_words 0 (literals_of a)) is ∙ words-mentions ms in
    all_stand names are (literals_of all) named smalls (omega (arith, count, few))

pub terms_of : (names : List (List ℕ)) (vs : List u.Tree) → AllByRecursion (CanStand names) vs → AllByRecursion IsTerm vs
terms_of names [] all = tt
terms_of names (v ∷ vs) all = (all.0.term, terms_of names vs all.1)

pub all_terms : (ms : List Module) (names : List (List ℕ)) → names ≡ with_mentions first_atoms (mentions_of ms) → list_all is_name names ≡ true
    → list_all (λ m. are_canonical_functions m.functions) ms ≡ true → sum_by literal_words_in ms ≤ MOST_LITERALS → AllByRecursion IsTerm (literals_of (mentions_of ms))
all_terms ms names table are canonical few = terms_of names (literals_of (mentions_of ms)) (can_stand ms names (mentions_of ms) refl table are canonical few)
