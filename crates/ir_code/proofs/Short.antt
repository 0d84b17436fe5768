-- Modules of short texts have room for their constants.
use Rattle.std.proofs.Common.{◌≡◌, ℕ, ◌+◌, ◌*◌, ◌≤◌, List, [], ◌∷◌, map, refl, arith}
use Rattle.std.specs.List.{Contains, sum_by}
use Rattle.std.proofs.lemmas.List.Sums.{sum_by-cons}
use Rattle.beam_code.specs.declared.module.Module.{Module}
use Rattle.beam_profile.specs.Whole.{IsModuleOf}
use Rattle.image_format.specs.Fitting.{total_length}
use Rattle.ir_code.specs.Laws.{ShortTextsHaveRoom}
use Rattle.module_sizes.proofs.Modules.{module_within}
use Rattle.module_sizes.specs.Counts.{literal_words_in, names_in}
use Rattle.paths.proofs.Tests.{here, later}

-- all together are within the bytes of all texts
record AreWithinAll (ms : List Module) : Type 0 where
  names : sum_by names_in ms ≤ total_length (map (λ m. m.text) ms)
  words : sum_by literal_words_in ms ≤ 2 * total_length (map (λ m. m.text) ms)

within_all : (last : ℕ) (ms : List Module) → ((m : Module) → Contains ms m → IsModuleOf last m.text m) → AreWithinAll ms
within_all last [] texts = record { names = omega arith; words = omega arith }
within_all last (m ∷ ms) texts =
    let own = module_within last m.text m (texts m (here m ms m refl)) in
    let rest = within_all last ms (λ x c. texts x (later m ms x c)) in
    let names = own.names in
    let words = own.words in
    let other_names = rest.names in
    let other_words = rest.words in
    let both_names : sum_by names_in (m ∷ ms) ≡ names_in m + sum_by names_in ms = sum_by-cons names_in m ms in
    let both_words : sum_by literal_words_in (m ∷ ms) ≡ literal_words_in m + sum_by literal_words_in ms = sum_by-cons literal_words_in m ms in
    record { names = omega arith; words = omega arith }

pub short_texts_have_room : ShortTextsHaveRoom
short_texts_have_room last ms texts short =
    let all = within_all last ms texts in
    let names = all.names in
    let words = all.words in
    record { words = omega arith; names = omega arith }
