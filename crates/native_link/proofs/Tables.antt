-- What an image that was read carries: its atoms are a table, its constants hold, and its descriptors keep their rules.
use Rattle.std.proofs.Common.{◌≡◌, Bool, true, false, cond, ℕ, zero, suc, ◌+◌, ◌<◌, List, [], ◌∷◌, get_or, length, subst, Option, Some, None, Result, Ok, Err, refl, sym, ap, ◌∙◌, arith}
use Rattle.std.specs.Prelude.{not, position, nat_eq, nat_lt, slice_get}
use Rattle.std.proofs.lemmas.Bool.{eqb-true, eq-eqb}
use Rattle.std.proofs.lemmas.Bool.Decides.{nat_tests}
use Rattle.std.proofs.lemmas.List.Sums.{fails_before_first, position_or_len_is}
use Rattle.std.proofs.lemmas.Option.{get_or_from_slice_get, slice_get-get_or, slice_get_within}
use Rattle.std.specs.List.{position_or_len}
use Rattle.beam_code.specs.declared.module.Module.{Module}
use Rattle.beam_code.specs.Function.{all_functions}
use Rattle.image_format.specs.Fitting.{IsFitting}
use Rattle.image_format.specs.declared.parts.Descriptor.{Descriptor}
use Rattle.image_format.specs.declared.parts.Native.{Native}
use Rattle.image_format.specs.declared.parts.Parts.{Parts}
use Rattle.image_format.specs.declared.refusal.FormatRefusal.{FormatRefusal}
use Rattle.image_format.specs.Cursor.{FieldFault, Gives, ◌>>=◌}
use Rattle.image_format.specs.Spelling.{descriptor}
use Rattle.ir_code.proofs.Knows.{known_mentions_have_names}
use Rattle.ir_code.specs.Constants.{ConstantsHold}
use Rattle.ir_code.specs.Known.{knows_all}
use Rattle.ir_code.specs.Mentions.{Mention, literals_of, mentions_of}
use Rattle.native_link.specs.Checking.{Linked, all_constants_checked, asked, atom_count_offset, checking, constants_checked, constants_in, first_descriptor_offset, is_foreign, native_offset, none_wrong, root_count_offset, root_offset, wrong_descriptor, wrong_root}
use Rattle.native_link.specs.Image.{IsLinked}
use Rattle.native_link.specs.Laws.{ImagesKeepTheirRules, NothingIsAskedInVain}
use Rattle.native_link.specs.Places.{wrong_field}
use Rattle.tagged_words.specs.Atoms.{IsTable, begins, first_atoms}
use Rattle.tagged_words.specs.Look.{address_end}
use Rattle.tagged_words.specs.Seen.{IsTreeOf}
use Rattle.tagged_words.specs.Store.{Store}
use Rattle.term_tree.specs.Tree.{Tree}
use Rattle.word_terms.proofs.StandingLaws.{word_stands_for_term}
use Rattle.word_terms.specs.Literals.{literal_store}
use Rattle.word_terms.specs.Standing.{stands}

abbrev literals_in : List Module → List Tree
literals_in ms = literals_of (mentions_of ms)

-- ---- one by one

holds_of : (b : Bool) (at : ℕ) → asked b at ≡ Ok tt → b ≡ true
holds_of true at h = refl
holds_of false at h = absurd cc

of_holds : (b : Bool) (at : ℕ) → b ≡ true → asked b at ≡ Ok tt
of_holds true at h = refl
of_holds false at h = absurd cc

none_of : (f : ℕ → ℕ) (o : Option ℕ) → none_wrong f o ≡ Ok tt → o ≡ None
none_of f None h = refl
none_of f (Some i) h = absurd cc

of_none : (f : ℕ → ℕ) (o : Option ℕ) → o ≡ None → none_wrong f o ≡ Ok tt
of_none f None h = refl
of_none f (Some i) h = absurd cc

if_none : (b : Bool) (o : Option ℕ) (i : ℕ) → cond b o (Some i) ≡ None → (b ≡ true) × (o ≡ None)
if_none true o i h = (refl, h)
if_none false o i h = absurd cc

-- each root stands for its literal where none is wrong, and the other way round
roots_stand : (s : Store) (names : List (List ℕ)) (i : ℕ) (ws : List ℕ) (vs : List Tree) → wrong_root s names i ws vs ≡ None
    → (k w : ℕ) (v : Tree) → slice_get ws k ≡ Some w → slice_get vs k ≡ Some v → IsTreeOf s names w v
roots_stand s names i [] vs h k w v a b = absurd cc
roots_stand s names i (x ∷ ws) [] h k w v a b = absurd cc
roots_stand s names i (x ∷ ws) (u ∷ vs) h zero w v a b =
    let here = if_none (stands s names address_end x u) (wrong_root s names (i + 1) ws vs) i h in
    let word : x ≡ w = cc in
    let tree : u ≡ v = cc in
    subst (λ y. IsTreeOf s names y v) word (subst (IsTreeOf s names x) tree ((word_stands_for_term s names x u).0 here.0))
roots_stand s names i (x ∷ ws) (u ∷ vs) h (suc k) w v a b =
    roots_stand s names (i + 1) ws vs (if_none (stands s names address_end x u) (wrong_root s names (i + 1) ws vs) i h).1 k w v a b

none_stands_wrong : (s : Store) (names : List (List ℕ)) (i : ℕ) (ws : List ℕ) (vs : List Tree) → ((k w : ℕ) (v : Tree) → slice_get ws k ≡ Some w → slice_get vs k ≡ Some v → IsTreeOf s names w v)
    → wrong_root s names i ws vs ≡ None
none_stands_wrong s names i [] vs h = refl
none_stands_wrong s names i (x ∷ ws) [] h = refl
none_stands_wrong s names i (x ∷ ws) (u ∷ vs) h =
    rw ((word_stands_for_term s names x u).1 (h 0 x u refl refl)) (none_stands_wrong s names (i + 1) ws vs (λ k w v a b. h (suc k) w v a b))

-- each native function is one of the modules'
not_foreign : (functions fid : ℕ) → not (nat_lt fid functions) ≡ false → fid < functions
not_foreign functions fid h = grind (arith, nat_tests)

natives_are : (functions : ℕ) (ns : List Native) → position (is_foreign functions) ns ≡ None → (k : ℕ) (n : Native) → slice_get ns k ≡ Some n → n.fid < functions
natives_are functions ns h k n a =
    let test = is_foreign functions in
    let low : k < length ns = slice_get_within ns k n a in
    let end : nat_lt (position_or_len test ns) (length ns) ≡ false = no_place (nat_lt (position_or_len test ns) (length ns)) (position_or_len test ns) h in
    not_foreign functions n.fid (ap test (sym (get_or_from_slice_get ns k n n a)) ∙ fails_before_first test ns k n (grind (arith, nat_tests)))
  where
    no_place : (b : Bool) (i : ℕ) → cond b (Some i) None ≡ None → b ≡ false
    no_place true i e = absurd cc
    no_place false i e = refl

none_foreign : (functions : ℕ) (ns : List Native) → ((k : ℕ) (n : Native) → slice_get ns k ≡ Some n → n.fid < functions) → position (is_foreign functions) ns ≡ None
none_foreign functions ns h =
    let test = is_foreign functions in
    let end : position_or_len test ns ≡ length ns = position_or_len_is test ns (length ns) nobody (omega arith) (λ k low. own k low) (λ low. absurd (omega arith)) in
    rw (end, itself (length ns)) refl
  where
    nobody : Native
    nobody = record { fid = 0; first = 0; count = 0 }

    itself : (n : ℕ) → nat_lt n n ≡ false
    itself n = grind (arith, nat_tests)

    own : (k : ℕ) → k < length ns → is_foreign functions (get_or ns k nobody) ≡ false
    own k low = (let is = h k (get_or ns k nobody) (slice_get-get_or ns k nobody low) in grind (arith, nat_tests))

-- no field of a descriptor is wrong
abbrev field_or : Option ℕ → ℕ → Option ℕ → Option ℕ
field_or o at rest = elim o [ None ↦ rest | Some field ↦ Some (at + field) ]

if_no_field : (o : Option ℕ) (at : ℕ) (rest : Option ℕ) → field_or o at rest ≡ None → (o ≡ None) × (rest ≡ None)
if_no_field None at rest h = (refl, h)
if_no_field (Some field) at rest h = absurd cc

no_field_wrong : (natives : List Native) (ms : List Module) (at : ℕ) (ds : List Descriptor) → wrong_descriptor natives ms at ds ≡ None → (k : ℕ) (d : Descriptor) → slice_get ds k ≡ Some d → wrong_field natives ms d ≡ None
no_field_wrong natives ms at [] h k d a = absurd cc
no_field_wrong natives ms at (e ∷ ds) h zero d a =
    let same : e ≡ d = cc in
    subst (λ x. wrong_field natives ms x ≡ None) same (if_no_field (wrong_field natives ms e) at (wrong_descriptor natives ms (at + length (descriptor e)) ds) h).0
no_field_wrong natives ms at (e ∷ ds) h (suc k) d a =
    let next : ℕ = at + length (descriptor e) in
    no_field_wrong natives ms next ds (if_no_field (wrong_field natives ms e) at (wrong_descriptor natives ms next ds) h).1 k d a

none_is_wrong : (natives : List Native) (ms : List Module) (at : ℕ) (ds : List Descriptor) → ((k : ℕ) (d : Descriptor) → slice_get ds k ≡ Some d → wrong_field natives ms d ≡ None) → wrong_descriptor natives ms at ds ≡ None
none_is_wrong natives ms at [] h = refl
none_is_wrong natives ms at (e ∷ ds) h =
    let rest : Option ℕ = wrong_descriptor natives ms (at + length (descriptor e)) ds in
    ap (λ o. field_or o at rest) (h 0 e refl) ∙ none_is_wrong natives ms (at + length (descriptor e)) ds (λ k d a. h (suc k) d a)

-- ---- all in turn

first_done : (a b : Result (Unit {0}) FieldFault) → (a >>= λ u. b) ≡ Ok tt → (a ≡ Ok tt) × (b ≡ Ok tt)
first_done (Ok tt) b h = (refl, h)
first_done (Err e) b h = absurd cc

both_done : (a b : Result (Unit {0}) FieldFault) → a ≡ Ok tt → b ≡ Ok tt → (a >>= λ u. b) ≡ Ok tt
both_done a b h k = rw h k

module _ (p : Parts) (ms : List Module) where
  abbrev first_asked : Result (Unit {0}) FieldFault
  first_asked = asked (begins first_atoms p.atoms) (atom_count_offset p)

  abbrev atoms_asked : Result (Unit {0}) FieldFault
  atoms_asked = asked (knows_all p.atoms (mentions_of ms)) (atom_count_offset p)

  abbrev count_asked : Result (Unit {0}) FieldFault
  count_asked = asked (nat_eq (length p.roots) (length (literals_in ms))) (root_count_offset p)

  abbrev roots_asked : Result (Unit {0}) FieldFault
  roots_asked = none_wrong (root_offset p) (wrong_root (literal_store p.literals) p.atoms 0 p.roots (literals_in ms))

  abbrev natives_asked : Result (Unit {0}) FieldFault
  natives_asked = none_wrong (native_offset p) (position (is_foreign (length (all_functions ms))) p.natives)

  abbrev descriptors_asked : Result (Unit {0}) FieldFault
  descriptors_asked = none_wrong (λ offset. offset) (wrong_descriptor p.natives ms (first_descriptor_offset p) p.descriptors)

  abbrev constants_asked : Result (Unit {0}) FieldFault
  constants_asked = constants_checked p p.atoms (mentions_of ms)

  record Done : Type 0 where
    first : first_asked ≡ Ok tt
    atoms : atoms_asked ≡ Ok tt
    count : count_asked ≡ Ok tt
    roots : roots_asked ≡ Ok tt
    natives : natives_asked ≡ Ok tt
    descriptors : descriptors_asked ≡ Ok tt

  each_done : checking p ms ≡ Ok tt → Done
  each_done h =
      let both = first_done (first_asked >>= λ u. constants_asked) (natives_asked >>= λ u. descriptors_asked) h in
      let constants = first_done first_asked constants_asked both.0 in
      let atoms = first_done atoms_asked (count_asked >>= λ u. roots_asked) constants.1 in
      let roots = first_done count_asked roots_asked atoms.1 in
      let natives = first_done natives_asked descriptors_asked both.1 in
      record { first = constants.0; atoms = atoms.0; count = roots.0; roots = roots.1; natives = natives.0; descriptors = natives.1 }

  all_done : Done → checking p ms ≡ Ok tt
  all_done d =
      both_done (first_asked >>= λ u. constants_asked) (natives_asked >>= λ u. descriptors_asked)
      (both_done first_asked constants_asked d.first (both_done atoms_asked (count_asked >>= λ u. roots_asked) d.atoms (both_done count_asked roots_asked d.count d.roots)))
      (both_done natives_asked descriptors_asked d.natives d.descriptors)

pub is_table : (p : Parts) → IsFitting p → begins first_atoms p.atoms ≡ true → IsTable p.atoms
is_table p h begun = record { first = begun; distinct = h.distinct; few = omega (arith, h.atoms) }

pub linked_is_table : (l : Linked) → IsLinked l → IsTable l.parts.atoms
linked_is_table l h = is_table l.parts h.fitting (holds_of (begins first_atoms l.parts.atoms) (atom_count_offset l.parts) (each_done l.parts l.modules h.checked).first)

pub they_keep_their_rules : ImagesKeepTheirRules
they_keep_their_rules l h =
    let p : Parts = l.parts in
    let ms : List Module = l.modules in
    let done = each_done p ms h.checked in
    record {
      constants = record {
        table = linked_is_table l h;
        known = (known_mentions_have_names p.atoms (mentions_of ms)).0 (holds_of (knows_all p.atoms (mentions_of ms)) (atom_count_offset p) done.atoms);
        many = eqb-true (length p.roots) (length (literals_in ms)) (holds_of (nat_eq (length p.roots) (length (literals_in ms))) (root_count_offset p) done.count);
        stand = λ k w v a b. roots_stand (literal_store p.literals) p.atoms 0 p.roots (literals_in ms)
            (none_of (root_offset p) (wrong_root (literal_store p.literals) p.atoms 0 p.roots (literals_in ms)) done.roots) k w v a b;
      };
      natives = natives_are (length (all_functions ms)) p.natives (none_of (native_offset p) (position (is_foreign (length (all_functions ms))) p.natives) done.natives);
      descriptors = no_field_wrong p.natives ms (first_descriptor_offset p) p.descriptors
          (none_of (λ offset. offset) (wrong_descriptor p.natives ms (first_descriptor_offset p) p.descriptors) done.descriptors);
    }

pub nothing_in_vain : NothingIsAskedInVain
nothing_in_vain p ms keeps =
    let constants : ConstantsHold (constants_in p) ms = keeps.constants in
    let known = (known_mentions_have_names p.atoms (mentions_of ms)).1 constants.known in
    all_done p ms (record {
      first = of_holds (begins first_atoms p.atoms) (atom_count_offset p) constants.table.first;
      atoms = of_holds (knows_all p.atoms (mentions_of ms)) (atom_count_offset p) known;
      count = of_holds (nat_eq (length p.roots) (length (literals_in ms))) (root_count_offset p) (eq-eqb (length p.roots) (length (literals_in ms)) constants.many);
      roots = of_none (root_offset p) (wrong_root (literal_store p.literals) p.atoms 0 p.roots (literals_in ms))
          (none_stands_wrong (literal_store p.literals) p.atoms 0 p.roots (literals_in ms) constants.stand);
      natives = of_none (native_offset p) (position (is_foreign (length (all_functions ms))) p.natives) (none_foreign (length (all_functions ms)) p.natives keeps.natives);
      descriptors = of_none (λ offset. offset) (wrong_descriptor p.natives ms (first_descriptor_offset p) p.descriptors)
          (none_is_wrong p.natives ms (first_descriptor_offset p) p.descriptors keeps.descriptors);
    })

-- with the first atoms there, what is asked of the constants is all that is asked of them
pub begun : (p : Parts) (ms : List Module) (table : List (List ℕ)) (all : List Mention) (r : Result (Unit {0}) FormatRefusal) → begins first_atoms p.atoms ≡ true → table ≡ p.atoms → all ≡ mentions_of ms
    → Gives (λ u. u) r (constants_checked p table all) → Gives (λ u. u) r (all_constants_checked p ms)
begun p ms table all r starts same mentions gives =
    let all_is : constants_checked p table all ≡ all_constants_checked p ms = ap (λ t. constants_checked p t all) same ∙ ap (constants_checked p p.atoms) mentions ∙ sym (ap (λ b. asked b (atom_count_offset p) >>= λ u. constants_checked p p.atoms (mentions_of ms)) starts) in
    subst (λ x. Gives (λ u. u) r x) all_is gives
