-- What is compiled is an image of trivial functions.
use Rattle.std.proofs.Common.{◌≡◌, ℕ, zero, suc, ◌+◌, ◌*◌, ◌^◌, ◌<◌, ◌++◌, List, [], ◌∷◌, Some, Bool, true, false, nat_eq, length, map, take, unwrap_or, slice_get, refl, ap, subst, sym, ◌∙◌, append_assoc, arith, length-append}
use Rattle.std.proofs.lemmas.Bool.Decides.{nat_tests}
use Rattle.std.proofs.lemmas.List.{map-append}
use Rattle.std.proofs.lemmas.Option.{slice_get_within}
use Rattle.std.specs.List.{AllByRecursion}
use Rattle.beam_code.specs.declared.module.Function.{Function}
use Rattle.beam_code.specs.declared.module.Module.{Module}
use Rattle.beam_code.specs.Function.{Placed, all_functions, cost_of}
use Rattle.laid_terms.proofs.Standing.{in_front, behind}
use Rattle.trivial_code.proofs.Law.{trivial_functions_are_faithful}
use Rattle.image_format.specs.Fitting.{IsWord}
use Rattle.ir_code.proofs.Counted.{words-mentions}
use Rattle.ir_code.proofs.Holding.{they_hold}
use Rattle.ir_code.proofs.Ready.{all_named}
use Rattle.ir_code.specs.Constants.{Constants, ConstantsHold, constants_of, table_of}
use Rattle.ir_code.specs.Mentions.{literals_of, mentions_of}
use Rattle.laid_terms.specs.Named.{IsNamed}
use Rattle.tagged_words.proofs.WordLaws.{small_word-below}
use Rattle.tagged_words.specs.Atoms.{IsTable, first_atoms}
use Rattle.tagged_words.specs.declared.addresses.TheConstants.{LITERAL_START}
use Rattle.tagged_words.specs.Laid.{word_for, words_in_turn}
use Rattle.term_tree.specs.IsTerm.{IsTerm}
use Rattle.term_tree.specs.Size.{words_of as words_of_term}
use Rattle.term_tree.specs.Tree as t
use Rattle.word_laying.specs.Count.{row_words}
use Rattle.trivial_code.proofs.Stands.{atom_low}
use Rattle.trivial_code.specs.declared.trivial.Origin.TheVariants.{Argument}
use Rattle.trivial_code.specs.Returned.{given_by, literals_among, literals_in}
use Rattle.trivial_code.specs.Compiled.{words_of, code_of, code_in, native_at, natives_from, numbers_from, compiled, IsCompilable, IsCompilableFunction}
use Rattle.trivial_code.specs.Image.{IsTrivialImage, AreReady, literals_before}
use Rattle.trivial_code.specs.declared.emitting.TheConstants.{FUNCTION_WORDS}
use Rattle.trivial_code.specs.Words.{trivial_words}
use Rattle.faithful_image.specs.Faithful.{IsFaithful}
use Rattle.native_link.specs.Lookup.{native_of as native_function}

-- the functions of modules without their modules
abbrev placed : Module → Function → Placed
placed m f = record { owner = m; function = f }

abbrev pub plain : List Placed → List Function
plain ps = map (λ p. p.function) ps

plain_placed : (m : Module) (fs : List Function) → plain (map (placed m) fs) ≡ fs
plain_placed m [] = refl
plain_placed m (f ∷ fs) = ap (λ gs. f ∷ gs) (plain_placed m fs)

code-append : (k : Constants) (before : ℕ) (fs gs : List Function) → code_of k before (fs ++ gs) ≡ code_of k before fs ++ code_of k (before + literals_among fs) gs
code-append k before [] gs = let same : before ≡ before + 0 = omega arith in ap (λ n. code_of k n gs) same
code-append k before (f ∷ fs) gs =
    let next : before + literals_in f.items + literals_among fs ≡ before + (literals_in f.items + literals_among fs) = omega arith in
    ap (λ ws. words_of k before f ++ ws) (code-append k (before + literals_in f.items) fs gs)
    ∙ sym (append_assoc (words_of k before f) (code_of k (before + literals_in f.items) fs) (code_of k (before + literals_in f.items + literals_among fs) gs))
    ∙ ap (λ n. code_of k before (f ∷ fs) ++ code_of k n gs) next

pub code_is : (k : Constants) (before : ℕ) (ms : List Module) → code_in k before ms ≡ code_of k before (plain (all_functions ms))
code_is k before [] = refl
code_is k before (m ∷ ms) =
    ap (λ ws. code_of k before m.functions ++ ws) (code_is k (before + literals_among m.functions) ms)
    ∙ sym (ap (code_of k before) (map-append (λ (p : Placed). p.function) (map (placed m) m.functions) (all_functions ms) ∙ ap (λ fs. fs ++ plain (all_functions ms)) (plain_placed m m.functions))
    ∙ code-append k before m.functions (plain (all_functions ms)))

plain_at : (ps : List Placed) (k : ℕ) (p : Placed) → slice_get ps k ≡ Some p → slice_get (plain ps) k ≡ Some p.function
plain_at [] k p e = absurd cc
plain_at (q ∷ ps) zero p e = let same : q ≡ p = cc in ap (λ x. Some x.function) same
plain_at (q ∷ ps) (suc k) p e = plain_at ps k p e

length-plain : (ps : List Placed) → length (plain ps) ≡ length ps
length-plain [] = refl
length-plain (p ∷ ps) = ap suc (length-plain ps)

pub all_at : {A : Type 0} (P : A → Type 0) (xs : List A) (k : ℕ) (x : A) → AllByRecursion P xs → slice_get xs k ≡ Some x → P x
all_at P [] k x all e = absurd cc
all_at P (y ∷ ys) zero x all e = let same : y ≡ x = cc in subst P same all.0
all_at P (y ∷ ys) (suc k) x all e = all_at P ys k x all.1 e

-- the native functions by number
first_by : (from n k : ℕ) (t : Bool) → nat_eq from (from + k) ≡ t → k < suc n → native_function (native_at from ∷ natives_from (from + 1) n) (from + k) ≡ Some (native_at (from + k))
first_by from n k true e low = let same : from + k ≡ from = grind (arith, nat_tests) in rw e (ap (λ x. Some (native_at x)) (sym same))
first_by from zero k false e low = absurd (grind (arith, nat_tests))
first_by from (suc n) zero false e low = absurd (grind (arith, nat_tests))
first_by from (suc n) (suc k) false e low =
    let next : from + suc k ≡ from + 1 + k = omega arith in
    rw e (subst (λ x. native_function (native_at (from + 1) ∷ natives_from (from + 1 + 1) n) x ≡ Some (native_at x)) (sym next)
    (first_by (from + 1) n k (nat_eq (from + 1) (from + 1 + k)) refl (omega arith)))

native_numbered : (n fid : ℕ) → fid < n → native_function (natives_from 0 n) fid ≡ Some (native_at fid)
native_numbered zero fid low = absurd (omega arith)
native_numbered (suc n) fid low =
    let same : 0 + fid ≡ fid = omega arith in
    subst (λ x. native_function (natives_from 0 (suc n)) x ≡ Some (native_at x)) same (first_by 0 n fid (nat_eq 0 (0 + fid)) refl low)

-- where the code of a function stands
code_at : (k : Constants) (before : ℕ) (fs : List Function) (fid : ℕ) (f : Function) (i j w : ℕ) → slice_get fs fid ≡ Some f → i ≡ FUNCTION_WORDS * fid + j → slice_get (words_of k (before + literals_among (take fid fs)) f) j ≡ Some w → slice_get (code_of k before fs) i ≡ Some w
code_at k before [] fid f i j w there e is = absurd cc
code_at k before (g ∷ fs) zero f i j w there e is =
    let at : i ≡ j = omega arith in
    let same : g ≡ f = cc in
    let none : before ≡ before + 0 = omega arith in
    in_front (words_of k before g) (code_of k (before + literals_in g.items) fs) i w
    (ap (λ x. slice_get (words_of k before x) i) same ∙ ap (slice_get (words_of k before f)) at ∙ ap (λ n. slice_get (words_of k n f) j) none ∙ is)
code_at k before (g ∷ fs) (suc fid) f i j w there e is =
    let next : before + literals_in g.items + literals_among (take fid fs) ≡ before + (literals_in g.items + literals_among (take fid fs)) = omega arith in
    behind (words_of k before g) (code_of k (before + literals_in g.items) fs) i (FUNCTION_WORDS * fid + j) (omega arith)
    ∙ code_at k (before + literals_in g.items) fs fid f (FUNCTION_WORDS * fid + j) j w there refl (ap (λ n. slice_get (words_of k n f) j) next ∙ is)

length-code_of : (k : Constants) (before : ℕ) (fs : List Function) → length (code_of k before fs) ≡ FUNCTION_WORDS * length fs
length-code_of k before [] = refl
length-code_of k before (f ∷ fs) = let rest = length-code_of k (before + literals_in f.items) fs in length-append (words_of k before f) (code_of k (before + literals_in f.items) fs) ∙ omega arith

pub length-code_in : (k : Constants) (before : ℕ) (ms : List Module) → length (code_in k before ms) ≡ FUNCTION_WORDS * length (all_functions ms)
length-code_in k before ms = ap (λ (ws : List ℕ). length ws) (code_is k before ms) ∙ length-code_of k before (plain (all_functions ms)) ∙ ap (λ n. FUNCTION_WORDS * n) (length-plain (all_functions ms))

-- the roots are words
root_low : (names : List (List ℕ)) (end : ℕ) (v : t.Tree) → IsTable names → IsTerm v → IsNamed names v → end < 2 ^ 32 → IsWord (word_for names end v)
root_low names end (t.Int i) table term named low = small_word-below i term
root_low names end (t.Atom a) table term named low = atom_low names a table named
root_low names end t.Nil table term named low = omega arith
root_low names end (t.Cons head tail) table term named low = omega arith
root_low names end (t.Tuple vs) table term named low = omega arith

all_low : (names : List (List ℕ)) (at : ℕ) (vs : List t.Tree) → IsTable names → AllByRecursion IsTerm vs → AllByRecursion (IsNamed names) vs → at + 4 * row_words 0 vs < 2 ^ 32 → AllByRecursion IsWord (words_in_turn names at vs)
all_low names at [] table terms named low = tt
all_low names at (v ∷ vs) table terms named low = (root_low names (at + 4 * words_of_term v) v table terms.0 named.0 (omega arith), all_low names (at + 4 * words_of_term v) vs table terms.1 named.1 (omega arith))

pub holds_so : (ms : List Module) → IsCompilable ms → ConstantsHold (constants_of ms) ms
holds_so ms ok = they_hold ms ok.room ok.terms

roots_low : (ms : List Module) → IsCompilable ms → AllByRecursion IsWord (constants_of ms).roots
roots_low ms ok =
    let words = words-mentions ms in
    let room = ok.room.words in
    all_low (table_of ms) LITERAL_START (literals_of (mentions_of ms)) (holds_so ms ok).table ok.terms (all_named first_atoms (mentions_of ms)) (omega arith)

pub image_of : (ms : List Module) → IsCompilable ms → IsTrivialImage ms (compiled ms)
image_of ms ok =
    record {
      texts = refl;
      constants = holds_so ms ok;
      roots = roots_low ms ok;
      functions = λ fid p e.
          let c = all_at IsCompilableFunction (all_functions ms) fid p ok.functions e in
          let k : Constants = constants_of ms in
          let before : ℕ = literals_before ms fid in
          let same : trivial_words (given_by k before p.function.items c.origin) (cost_of p.function) ≡ words_of k before p.function = ap (λ o. trivial_words (given_by k before p.function.items (unwrap_or o (Argument 0))) (cost_of p.function)) (sym c.ready.is) in
          let none : before ≡ 0 + before = omega arith in
          record {
            origin = c.origin;
            ready = c.ready;
            reach = c.reach;
            frame = c.frame;
            placed = record {
              native = native_at fid;
              found = native_numbered (length (all_functions ms)) fid (slice_get_within (all_functions ms) fid p e);
              stands = λ j w is.
                  ap (λ (ws : List ℕ). slice_get ws (FUNCTION_WORDS * fid + j)) (code_is k 0 ms)
                  ∙ code_at k 0 (plain (all_functions ms)) fid p.function (FUNCTION_WORDS * fid + j) j w (plain_at (all_functions ms) fid p e) refl
                  (ap (λ n. slice_get (words_of k n p.function) j) (sym none) ∙ ap (λ (ws : List ℕ). slice_get ws j) (sym same) ∙ is);
            };
          };
      items = ok.items;
      code = (let all = length-code_in (constants_of ms) 0 ms in let few = ok.few in omega arith);
    }

pub ready_at : (ms : List Module) → AllByRecursion IsCompilableFunction (all_functions ms) → AreReady ms
ready_at ms all fid p e = let c = all_at IsCompilableFunction (all_functions ms) fid p all e in (c.origin, c.ready)

fids-natives_from : (from n : ℕ) → map (λ x. x.fid) (natives_from from n) ≡ numbers_from from n
fids-natives_from from zero = refl
fids-natives_from from (suc n) = ap (λ xs. from ∷ xs) (fids-natives_from (from + 1) n)

pub compiled_is_faithful : (ms : List Module) → IsCompilable ms → IsFaithful ms (numbers_from 0 (length (all_functions ms))) (compiled ms)
compiled_is_faithful ms ok =
    subst (λ chosen. IsFaithful ms chosen (compiled ms)) (fids-natives_from 0 (length (all_functions ms))) (trivial_functions_are_faithful ms (compiled ms) (image_of ms ok))
