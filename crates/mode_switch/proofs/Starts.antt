-- Where a call begins.
use Rattle.std.proofs.Common.{◌≡◌, ℕ, zero, suc, ◌+◌, ◌-◌, ◌*◌, ◌^◌, ◌<◌, ◌≤◌, List, [], ◌∷◌, length, map, take, Option, Some, None, ap, sym, refl, ◌∙◌, arith, subst}
use Rattle.std.specs.Prelude.{Ok, Err, replicate, slice_get}
use Rattle.std.specs.List.{AllByRecursion}
use Rattle.std.specs.declared.alloc.AllocError.{AllocError}
use Rattle.std.specs.Option.{option_map}
use Rattle.std.proofs.lemmas.List.{length-append, length-map, length-replicate}
use Rattle.beam_code.specs.Function.{Placed, all_functions, exported_number, function_at, items_in, items_of}
use Rattle.beam_code.specs.Meaning.{words_in}
use Rattle.beam_code.specs.declared.call.Limits.{Limits}
use Rattle.beam_code.specs.declared.module.Function.{Function}
use Rattle.beam_code.specs.declared.module.Module.{Module}
use Rattle.image_format.specs.Fitting.{IsFitting, IsWord, first_turn}
use Rattle.image_format.specs.declared.parts.Native.{Native}
use Rattle.image_format.specs.declared.parts.Parts.{Parts}
use Rattle.module_check.specs.Checks.{first_of}
use Rattle.mode_switch.specs.Call.{IsInRange}
use Rattle.image_format.specs.declared.limits.TheConstants.{ITEM_START}
use Rattle.tagged_words.specs.declared.addresses.TheConstants.{HEAP_START}
use Rattle.mode_switch.specs.declared.machine.OpenRefusal.{OpenRefusal}
use Rattle.mode_switch.specs.declared.machine.OpenRefusal.TheVariants as refusal
use Rattle.mode_switch.specs.declared.opening.Start.{Start}
use Rattle.mode_switch.specs.Destination.{entry_address, first_item}
use Rattle.mode_switch.specs.Junk.{IsPlaceIn}
use Rattle.mode_switch.specs.Lookup.{IsLoadable}
use Rattle.mode_switch.specs.Machine.{DoNotFit, IsOpened, IsRunnable, Progress, entries_of}
use Rattle.mode_switch.specs.Opening.{IsStart, Starts}
use Rattle.mode_switch.proofs.Laid.{row_is}
use Rattle.mode_switch.specs.Run.{first_memory}
use Rattle.native_link.proofs.Lookups.{first_within}
use Rattle.native_link.specs.Lookup.{native_entry_of, native_of, entry_address as native_address}
use Rattle.term_tree.specs.declared.term.Term.{Term}
use Rattle.term_tree.specs.Term.{tree_of}
use Rattle.term_tree.specs.Tree.{Tree}
use Rattle.tagged_words.specs.Laid.{laid_in_turn, with_atoms_of}
use Rattle.word_laying.proofs.Cells.{length-row}

-- the items of a function are among all items
items_before : (ps : List Placed) (k : ℕ) (p : Placed) → slice_get ps k ≡ Some p → items_in (take k ps) + length p.function.items ≤ items_in ps
items_before [] k p e = absurd cc
items_before (q ∷ ps) zero p e = let same : q ≡ p = cc in let n = ap (λ x. length x.function.items) same in omega arith
items_before (q ∷ ps) (suc k) p e = let rest = items_before ps k p e in omega arith

pub item_below : (ms : List Module) (fid : ℕ) (p : Placed) → function_at ms fid ≡ Some p → first_item ms fid + length p.function.items ≤ items_of ms
item_below ms fid p e = items_before (all_functions ms) fid p e

-- so a function's entry item has an address that is a word, and so has what lies behind it
pub entry_below : (ms : List Module) (fid : ℕ) (p : Placed) → IsLoadable ms → function_at ms fid ≡ Some p → ITEM_START + 4 * (first_item ms fid + p.function.entry) + 4 < 2 ^ 32
entry_below ms fid p loadable e = omega (arith, item_below ms fid p e, loadable.items, loadable.entries fid p e)

entry_by : (ms : List Module) (fid first : ℕ) (f : Function) (o : Option Placed) → IsLoadable ms → function_at ms fid ≡ o → Some first ≡ first_of ms fid o → Some f ≡ option_map (λ p. p.function) o → ITEM_START + 4 * (first + f.entry) + 4 < 2 ^ 32
entry_by ms fid first f None loadable at e g = absurd cc
entry_by ms fid first f (Some p) loadable at e g =
    let first_is : first ≡ first_item ms fid = cc in
    let function_is : f ≡ p.function = cc in
    omega (arith, entry_below ms fid p loadable at, first_is, ap (λ (h : Function). h.entry) function_is)

-- where a function and the number of the items before it are told
pub entry_fits : (ms : List Module) (fid first : ℕ) (f : Function) → IsLoadable ms → Some first ≡ first_of ms fid (function_at ms fid) → Some f ≡ option_map (λ p. p.function) (function_at ms fid) → ITEM_START + 4 * (first + f.entry) + 4 < 2 ^ 32
entry_fits ms fid first f loadable e g = entry_by ms fid first f (function_at ms fid) loadable refl e g

pub native_below : (parts : Parts) (fid : ℕ) (n : Native) → IsFitting parts → native_of parts.natives fid ≡ Some n → native_address n + 4 < 2 ^ 32
native_below parts fid n fitting e = omega (arith, first_within first_turn parts.natives fid n fitting.native_places e, fitting.code, fitting.code_of_natives)

native_by : (parts : Parts) (fid at : ℕ) (o : Option Native) → IsFitting parts → native_of parts.natives fid ≡ o → Some at ≡ option_map native_address o → at + 4 < 2 ^ 32
native_by parts fid at None fitting e is = absurd cc
native_by parts fid at (Some n) fitting e is = let same : at ≡ native_address n = cc in omega (arith, native_below parts fid n fitting e, same)

-- where a native entry is told
pub native_fits : (parts : Parts) (fid at : ℕ) → IsFitting parts → Some at ≡ native_entry_of parts.natives fid → at + 4 < 2 ^ 32
native_fits parts fid at fitting e = native_by parts fid at (native_of parts.natives fid) fitting refl e

-- ---- what a call begins with

-- the function, and the start for terms that fit the heap
record Begins (ms : List Module) (parts : Parts) (limits : Limits) (exported : Option ℕ) (args : List Tree) (s : Start) : Type 0 where
  function : ℕ
  is_exported : exported ≡ Some function
  start : IsStart ms parts limits args (entry_address ms parts.natives function) s

begins : (ms : List Module) (parts : Parts) (limits : Limits) (exported : Option ℕ) (args : List Tree) (s : Start) → Starts ms parts limits exported args (Ok s) → Begins ms parts limits exported args s
begins ms parts limits None args s h = absurd h
begins ms parts limits (Some function) args s h = record { function = function; is_exported = refl; start = h }

heap_words : (limits : Limits) (names : List (List ℕ)) (args : List Tree) → words_in args ≤ limits.heap → length (first_memory limits (laid_in_turn names HEAP_START args) []).heap.words ≡ limits.heap
heap_words limits names args fits =
    let words : List ℕ = laid_in_turn names HEAP_START args in
    let long = length-row names args HEAP_START in
    let count = row_is args in
    omega (arith, length-append words (replicate (limits.heap - length words) 0), length-replicate {A = ℕ} (limits.heap - length words) 0, long, count, fits)

-- the machine keeps it true that its run has an end, and that walks have entries
pub runnable : (ms : List Module) (parts : Parts) (limits : Limits) (junk : List ℕ) (exported : Option ℕ) (args : List Tree) (s : Start) → IsFitting parts → IsLoadable ms → IsInRange limits → junk ≡ [] →
    Starts ms parts limits exported args (Ok s) → IsRunnable ms parts limits junk s.items s.hardware.place s.atoms s.hardware.memory.heap s.scratch None
runnable ms parts limits junk exported args s fitting loadable range none h =
    let b : Begins ms parts limits exported args s = begins ms parts limits exported args s h in
    let P : Start → Type 0 = λ x. IsRunnable ms parts limits junk x.items x.hardware.place x.atoms x.hardware.memory.heap x.scratch None in
    let Q : List ℕ → Type 0 = λ j. IsPlaceIn j 0 in
    subst P (sym b.start.is) (record {
      counted = refl;
      few_items = loadable.items;
      code = fitting.code;
      reductions = range.reductions;
      no_junk = none;
      place = subst Q (sym none) refl;
      heap_words = ap (λ n. (HEAP_START, n)) (heap_words limits (with_atoms_of parts.atoms args) args b.start.heap);
      few_words = range.heap;
      entries = length-replicate (entries_of parts limits) 0;
      atoms = tt;
    })

abbrev pub progress_of : List Module → Parts → Limits → List ℕ → Start → Progress
progress_of ms parts limits junk s =
    record { loaded = record { modules = ms; parts = parts; limits = limits; names = s.atoms; junk = junk }; state = s.hardware; outcome = None; steps = 0 }

-- a machine that begins so is opened for the call
pub opened_by : (ms : List Module) (parts : Parts) (limits : Limits) (junk : List ℕ) (owner name : List ℕ) (args : List Term) (s : Start) → IsInRange limits → junk ≡ [] →
    Starts ms parts limits (exported_number ms owner name (length args)) (map tree_of args) (Ok s) → IsOpened ms parts owner name args limits junk (progress_of ms parts limits junk s)
opened_by ms parts limits junk owner name args s range none h =
    let b : Begins ms parts limits (exported_number ms owner name (length args)) (map tree_of args) s = begins ms parts limits (exported_number ms owner name (length args)) (map tree_of args) s h in
    record {
      function = b.function;
      exported = b.is_exported;
      is = ap (progress_of ms parts limits junk) b.start.is;
      call = record {
        owner = owner;
        name = name;
        exported = ap (exported_number ms owner name) (length-map args tree_of) ∙ b.is_exported;
        terms = b.start.terms;
        heap = b.start.heap;
        limits = range;
        words = subst (AllByRecursion IsWord) (sym none) tt;
        no_junk = none;
      };
    }

-- what does not begin a call of an exported function
pub passes : (ms : List Module) (parts : Parts) (limits : Limits) (exported : Option ℕ) (args : List Tree) (function : ℕ) → Some function ≡ exported → limits.heap < words_in args → Starts ms parts limits exported args (Err refusal.ArgsDoNotFit)
passes ms parts limits None args function is more = absurd cc
passes ms parts limits (Some g) args function is more = more

pub lacks : (ms : List Module) (parts : Parts) (limits : Limits) (exported : Option ℕ) (args : List Tree) (function : ℕ) (e : AllocError) → Some function ≡ exported → words_in args ≤ limits.heap → Starts ms parts limits exported args (Err (refusal.Memory e))
lacks ms parts limits None args function e is fits = absurd cc
lacks ms parts limits (Some g) args function e is fits = fits

-- a call that began is of an exported function
pub started_exported : (ms : List Module) (parts : Parts) (limits : Limits) (exported : Option ℕ) (args : List Tree) (s : Start) → Starts ms parts limits exported args (Ok s) → exported ≡ None → ⊥
started_exported ms parts limits None args s h e = h
started_exported ms parts limits (Some function) args s h e = cc

-- ---- why a call did not begin

pub refused_exported : (ms : List Module) (parts : Parts) (limits : Limits) (exported : Option ℕ) (args : List Tree) → Starts ms parts limits exported args (Err refusal.NotExported) → exported ≡ None
refused_exported ms parts limits None args h = refl
refused_exported ms parts limits (Some function) args h = absurd h

pub refused_by : (ms : List Module) (parts : Parts) (limits : Limits) (exported : Option ℕ) (args : List Tree) (e : OpenRefusal) → Starts ms parts limits exported args (Err e) → exported ≡ None → e ≡ refusal.NotExported
refused_by ms parts limits None args refusal.NotExported h none = refl
refused_by ms parts limits None args refusal.ArgsDoNotFit h none = absurd h
refused_by ms parts limits None args (refusal.Memory m) h none = absurd h
refused_by ms parts limits (Some function) args e h none = absurd cc

fits_not : (ms : List Module) (parts : Parts) (limits : Limits) (owner name : List ℕ) (args : List Term) (number : Option ℕ) → exported_number ms owner name (length args) ≡ number
    → Starts ms parts limits number (map tree_of args) (Err refusal.ArgsDoNotFit) → DoNotFit ms owner name args limits
fits_not ms parts limits owner name args None e h = absurd h
fits_not ms parts limits owner name args (Some function) e h = record { function = function; exported = e; more = h }

pub refused_args : (ms : List Module) (parts : Parts) (limits : Limits) (owner name : List ℕ) (args : List Term)
    → Starts ms parts limits (exported_number ms owner name (length args)) (map tree_of args) (Err refusal.ArgsDoNotFit) → DoNotFit ms owner name args limits
refused_args ms parts limits owner name args h = fits_not ms parts limits owner name args (exported_number ms owner name (length args)) refl h

refused_some : (ms : List Module) (parts : Parts) (limits : Limits) (args : List Tree) (function : ℕ) (number : Option ℕ) (e : OpenRefusal) → number ≡ Some function → limits.heap < words_in args
    → Starts ms parts limits number args (Err e) → e ≡ refusal.ArgsDoNotFit
refused_some ms parts limits args function None e is more h = absurd cc
refused_some ms parts limits args function (Some g) refusal.NotExported is more h = absurd h
refused_some ms parts limits args function (Some g) refusal.ArgsDoNotFit is more h = refl
refused_some ms parts limits args function (Some g) (refusal.Memory m) is more h = absurd (omega (arith, more, h))

-- arguments that do not fit are refused as such
pub refused_fit : (ms : List Module) (parts : Parts) (limits : Limits) (owner name : List ℕ) (args : List Term) (e : OpenRefusal) → Starts ms parts limits (exported_number ms owner name (length args)) (map tree_of args) (Err e)
    → DoNotFit ms owner name args limits → e ≡ refusal.ArgsDoNotFit
refused_fit ms parts limits owner name args e h out =
    refused_some ms parts limits (map tree_of args) out.function (exported_number ms owner name (length args)) e out.exported out.more h

-- and a call that began has arguments that fit
pub started_fit : (ms : List Module) (parts : Parts) (limits : Limits) (owner name : List ℕ) (args : List Term) (s : Start) → Starts ms parts limits (exported_number ms owner name (length args)) (map tree_of args) (Ok s)
    → DoNotFit ms owner name args limits → ⊥
started_fit ms parts limits owner name args s h out =
    let b : Begins ms parts limits (exported_number ms owner name (length args)) (map tree_of args) s = begins ms parts limits (exported_number ms owner name (length args)) (map tree_of args) s h in
    omega (arith, b.start.heap, out.more)
