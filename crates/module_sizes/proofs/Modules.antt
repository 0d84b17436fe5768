-- The module of a text is within the bytes of the text.
use Rattle.std.proofs.Common.{◌≡◌, ℕ, ◌+◌, ◌*◌, ◌≤◌, List, [], ◌∷◌, length, Some, codes, ap, arith}
use Rattle.std.specs.Option.{option_map}
use Rattle.std.specs.Prelude.{option_and_then}
use Rattle.std.specs.List.{sum_by}
use Rattle.std.proofs.lemmas.List.Sums.{sum_by-cons}
use Rattle.term_tree.specs.declared.term.Term as t
use Rattle.term_tree.specs.declared.term.Term.{Term}
use Rattle.text_forms.specs.declared.form.Form.{Form}
use Rattle.beam_code.specs.declared.module.Function.{Function}
use Rattle.beam_code.specs.declared.module.Module.{Module}
use Rattle.module_forms.specs.Part.{atom_of, behind, list_of}
use Rattle.form_laws.specs.Written.{proper, tagged}
use Rattle.form_laws.proofs.Terms.{atom_of-is, behind-is, chained, list_of-is, mapped}
use Rattle.beam_profile.specs.Header.{Key, exports_of, key_of, keys_in, module_of}
use Rattle.beam_profile.specs.Whole.{IsModule, IsModuleOf}
use Rattle.beam_profile.proofs.FewItems.{few_items}
use Rattle.module_sizes.specs.Counts.{function_names, function_literals, function_words, literal_words_in, literals_in, names_in}
use Rattle.module_sizes.specs.Within.{SizesAreWithin}
use Rattle.module_sizes.proofs.Functions.{function_counts, function_weight, functions_weigh, key_weighs}
use Rattle.module_sizes.proofs.Parts.{tagged_weighs}
use Rattle.module_sizes.proofs.Terms.{form_weight, form_weights, read_weigh}
use Rattle.module_sizes.proofs.Weights.{sums_within, weight, weights, weight-Atom, weight-proper}

-- ---- the forms in front

behind_weighs : (word : List ℕ) (x u : Term) → behind word x ≡ Some u → weight u ≤ weight x
behind_weighs word x u e = let same : weight x ≡ weight (tagged word u) = ap weight (behind-is word x u e) in omega (arith, same, tagged_weighs word u)

name_weighs : (x : Term) (name : List ℕ) → module_of x ≡ Some name → 2 ≤ weight x
name_weighs x name e =
    let c = chained atom_of (behind (codes "module") x) name e in
    let same : weight c.0 ≡ weight (t.Atom name) = ap weight (atom_of-is c.0 name c.2) in
    omega (arith, same, weight-Atom name, behind_weighs (codes "module") x c.0 c.1)

keys_weigh : (ts : List Term) (keys : List Key) → keys_in ts ≡ Some keys → 2 * length keys ≤ weights ts
keys_weigh [] [] e = omega arith
keys_weigh [] (k ∷ ks) e = absurd cc
keys_weigh (x ∷ ts) keys e =
    let c = chained (λ k. option_map (λ ks. k ∷ ks) (keys_in ts)) (key_of x) keys e in
    let m = mapped (λ ks. c.0 ∷ ks) (keys_in ts) keys c.2 in
    let rest = keys_weigh ts m.0 m.1 in
    let whole : length (c.0 ∷ m.0) ≡ length keys = ap length m.2 in
    omega (arith, rest, whole, key_weighs x c.0 c.1, sum_by-cons weight x ts)

exports_weigh : (x : Term) (exports : List Key) → exports_of x ≡ Some exports → 2 * length exports ≤ weight x
exports_weigh x exports e =
    let c = chained keys_in (option_and_then list_of (behind (codes "exports") x)) exports e in
    let d = chained list_of (behind (codes "exports") x) c.0 c.1 in
    let same : weight d.0 ≡ weight (proper c.0) = ap weight (list_of-is d.0 c.0 d.2) in
    omega (arith, keys_weigh c.0 exports c.2, same, weight-proper c.0, behind_weighs (codes "exports") x d.0 d.1)

-- ---- the whole

front_weighs : (a b c d : Form) (rest : List Form) → form_weight a + form_weight b + form_weights rest ≤ form_weights (a ∷ b ∷ c ∷ d ∷ rest)
front_weighs a b c d rest =
    let first = sum_by-cons form_weight a (b ∷ c ∷ d ∷ rest) in
    let second = sum_by-cons form_weight b (c ∷ d ∷ rest) in
    omega (arith, first, second, sum_by-cons form_weight c (d ∷ rest), sum_by-cons form_weight d rest)

forms_count : (last : ℕ) (forms : List Form) (m : Module) → IsModule last forms m → 2 * (names_in m + literals_in m) + literal_words_in m ≤ form_weights forms
forms_count last forms m is =
    let functions = functions_weigh last m.name [] is.rest m.functions is.functions_are in
    let counts = sums_within function_names function_literals function_words function_weight function_counts m.functions in
    let whole : form_weights forms ≡ form_weights (is.a ∷ is.b ∷ is.c ∷ is.d ∷ is.rest) = ap form_weights is.spelled in
    let name = name_weighs is.a.term m.name is.name_is in
    let exports = exports_weigh is.b.term m.exports is.exports_are in
    omega (arith, functions, counts, whole, name, exports, front_weighs is.a is.b is.c is.d is.rest)

module_counts : (last : ℕ) (text : List ℕ) (m : Module) → IsModuleOf last text m → 2 * (names_in m + literals_in m) + literal_words_in m ≤ 2 * length text
module_counts last text m of = omega (arith, forms_count last of.forms m of.is, read_weigh text of.forms of.read)

each_named : (gs : List Function) → length gs ≤ sum_by function_names gs
each_named [] = omega arith
each_named (g ∷ gs) = let rest = each_named gs in omega (arith, rest, sum_by-cons function_names g gs)

pub module_within : SizesAreWithin
module_within last text m of =
    let all = module_counts last text m of in
    record {
      names = omega (arith, all);
      literals = omega (arith, all);
      words = omega (arith, all);
      together = all;
      exports = omega (arith, all);
      functions = omega (arith, all, each_named m.functions);
      items = few_items last text m of;
    }
