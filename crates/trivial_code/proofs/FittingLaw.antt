-- The parts that are compiled meet the rules of the format.
use Rattle.std.proofs.Common.{◌≡◌, ℕ, zero, suc, ◌+◌, ◌*◌, List, [], ◌∷◌, length, map, refl, ap, subst, sym, ◌∙◌, arith}
use Rattle.std.specs.List.{AllByRecursion}
use Rattle.beam_code.specs.declared.module.Module.{Module}
use Rattle.beam_code.specs.Function.{all_functions}
use Rattle.ir_code.proofs.Counted.{few_mentions, names-mentions, words-mentions}
use Rattle.ir_code.specs.Constants.{constants_of, table_of}
use Rattle.ir_code.specs.Mentions.{literals_of, mentions_of}
use Rattle.laid_terms.proofs.Standing.{length-laid_in_turn}
use Rattle.tagged_words.specs.Atoms.{first_atoms}
use Rattle.tagged_words.specs.declared.addresses.TheConstants.{LITERAL_START}
use Rattle.tagged_words.specs.Follow.{Follow}
use Rattle.term_tree.specs.Size.{words_of_all}
use Rattle.term_tree.specs.Tree.{Tree, trees_of}
use Rattle.word_laying.specs.Count.{row_words}
use Rattle.trivial_code.proofs.Acts.{origin_behind}
use Rattle.trivial_code.proofs.CompiledLaw.{all_at, holds_so, length-code_in}
use Rattle.trivial_code.proofs.Located.{ArePlain, mentions_few}
use Rattle.trivial_code.specs.Compiled.{natives_from, compiled, IsCompilable, IsCompilableFunction}
use Rattle.trivial_code.specs.declared.emitting.TheConstants.{FUNCTION_WORDS}
use Rattle.image_format.specs.Fitting.{IsFitting, NativeFits, after_native, turn, total_count}

-- native functions one after the other
follow_natives : (from n : ℕ) → Follow NativeFits after_native (turn from (FUNCTION_WORDS * from)) (natives_from from n)
follow_natives from zero = tt
follow_natives from (suc n) =
    let next : FUNCTION_WORDS * from + FUNCTION_WORDS ≡ FUNCTION_WORDS * (from + 1) = omega arith in (
      record { ascends = omega arith; place = refl; some = omega arith },
      subst (λ place. Follow NativeFits after_native (turn (from + 1) place) (natives_from (from + 1) n)) (sym next) (follow_natives (from + 1) n),
    )

count_natives : (from n : ℕ) → total_count (natives_from from n) ≡ FUNCTION_WORDS * n
count_natives from zero = refl
count_natives from (suc n) = let rest = count_natives (from + 1) n in omega arith

length-natives_from : (from n : ℕ) → length (natives_from from n) ≡ n
length-natives_from from zero = refl
length-natives_from from (suc n) = let rest = length-natives_from (from + 1) n in omega arith

length-texts : (ms : List Module) → length (map (λ (m : Module). m.text) ms) ≡ length ms
length-texts [] = refl
length-texts (m ∷ ms) = ap suc (length-texts ms)

row_all : (vs : List Tree) → words_of_all (trees_of vs) ≡ row_words 0 vs
row_all [] = refl
row_all (v ∷ vs) = let rest = row_all vs in omega arith

plain_all : (ms : List Module) → AllByRecursion IsCompilableFunction (all_functions ms) → ArePlain (all_functions ms)
plain_all ms all k p e = let c = all_at IsCompilableFunction (all_functions ms) k p all e in (origin_behind p.function c.origin c.ready.is).0

pub compiled_fits : (ms : List Module) → IsCompilable ms → IsFitting (compiled ms)
compiled_fits ms ok =
    let texts = length-texts ms in
    let functions = ok.few in
    let code = length-code_in (constants_of ms) 0 ms in
    let hold = holds_so ms ok in
    record {
      some_module = (let some = ok.some in omega arith);
      modules = (let few = ok.modules in omega arith);
      text_bytes = ok.texts;
      atoms = (
          let few = few_mentions first_atoms (mentions_of ms) in
          let count = names-mentions ms in
          let own : length first_atoms ≡ 14 = refl in
          let room = ok.room.names in
          omega arith);
      distinct = hold.table.distinct;
      literals = (
          let long = length-laid_in_turn (table_of ms) (literals_of (mentions_of ms)) LITERAL_START in
          let words = words-mentions ms in
          let room = ok.room.words in
          let same = row_all (literals_of (mentions_of ms)) in
          omega arith);
      roots = (
          let many = hold.many in
          let few = mentions_few ms (plain_all ms ok.functions) in
          let items = ok.items in
          omega arith);
      natives = (let count = length-natives_from 0 (length (all_functions ms)) in omega arith);
      native_places = follow_natives 0 (length (all_functions ms));
      code = omega arith;
      code_of_natives = code ∙ sym (count_natives 0 (length (all_functions ms)));
      descriptors = omega arith;
      sites = tt;
    }
