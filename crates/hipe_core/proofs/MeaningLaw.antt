-- A run on what is compiled of texts prints what these mean.
use Rattle.std.proofs.Common.{◌≡◌, ◌≢◌, ℕ, true, List, [], length, Some, refl, ap, subst, sym, ◌∙◌}
use Rattle.beam_code.specs.declared.module.Module.{Module}
use Rattle.beam_code.specs.Function.{all_functions, exported_number}
use Rattle.beam_code.specs.State as b
use Rattle.faithful_image.proofs.LineLaw.{faithful_runs_print_their_meaning}
use Rattle.faithful_image.specs.Line.{IsPrinted, MeansLine, meant_end, meant_line}
use Rattle.faithful_image.specs.Meaning.{IsOutcome, IsSound, meaning_of}
use Rattle.hipe_core.proofs.ReadLaw.{image_is_read, what_is_read}
use Rattle.hipe_core.specs.Command.{is_printed}
use Rattle.hipe_core.specs.Meaning.{CompiledRunsPrintTheirMeaning, CompiledImagesAreRead, IsCompiled, IsReadAs, ModulesMean}
use Rattle.mode_switch.specs.Call.{Call, IsCallOf, call_of}
use Rattle.mode_switch.specs.Machine.{Ran, opened, ran}
use Rattle.mode_switch.specs.declared.outcome.Outcome.{Outcome}
use Rattle.mode_switch.specs.declared.outcome.Outcome.TheVariants.{Returned, Raised, Ended}
use Rattle.mode_switch.specs.declared.text.TheConstants.{MOST_PRINTED, RAISE_STATUS, VALUE_STATUS}
use Rattle.mode_switch.specs.Store.{store_of}
use Rattle.mode_switch.specs.Text.{IsLineIn, end_text, raise_head, term_line, value_head}
use Rattle.native_link.specs.Checking.{Linked, linked}
use Rattle.small_step.specs.Stage.{Stage, Done}
use Rattle.tagged_words.proofs.SeenLaws.{something_seen}
use Rattle.tagged_words.specs.Look.{address_end}
use Rattle.tagged_words.specs.Store.{Store}
use Rattle.trivial_code.specs.Compiled.{compiled, numbers_from}
use Rattle.word_walks.specs.Spelt.{spelt}

-- what a call means, where it is no stuck row, has a line of today
meant_end_printed : (e : b.End) → e ≢ b.Stuck → is_printed (meant_end e) ≡ true
meant_end_printed b.Stuck fine = absurd (fine refl)
meant_end_printed other fine = refl

meant_printed : (o : b.Outcome) → o ≢ b.Ended b.Stuck → is_printed (meant_line o) ≡ true
meant_printed (b.Returned v) fine = refl
meant_printed (b.Raised class v) fine = refl
meant_printed (b.Ended e) fine = meant_end_printed e (λ same. fine (ap b.Ended same))

sound_at : (s : Stage b.BeamState b.Finish) (f : b.Finish) → IsOutcome s → s ≡ Done f → IsSound f
sound_at s f sound is = subst IsOutcome is sound

module _ (texts : List (List ℕ)) (bytes : List ℕ) (made : IsCompiled texts bytes) where
  abbrev ms : List Module
  ms = made.modules

  -- a line that the image prints of a call
  record Prints (call : Call) (line : List ℕ × ℕ) : Type 0 where
    means : MeansLine ms call line
    printed : is_printed line ≡ true

  image_prints : (call : Call) → IsCallOf ms call → (line : List ℕ × ℕ) → IsPrinted ms (compiled ms) call line → Prints call line
  image_prints call fits line printed =
      let means = faithful_runs_print_their_meaning ms (numbers_from 0 (length (all_functions ms))) (compiled ms) made.image.is.faithful call fits line printed in
      let sound = sound_at (meaning_of ms call) means.finish (made.image.is.meanings call fits).outcome means.means in
      record { means = means; printed = ap is_printed (sym means.is) ∙ meant_printed means.finish.outcome sound }

pub compiled_runs_print_their_meaning : CompiledRunsPrintTheirMeaning
compiled_runs_print_their_meaning texts bytes c line made run = go run.exported.image found run.exported.function run.exported.exported run.call run.is
  where
    found : run.exported.image ≡ linked (compiled made.modules) made.modules
    found = what_is_read texts bytes made run.exported.image run.exported.read

    go : (l : Linked) → l ≡ linked (compiled made.modules) made.modules → (function : ℕ) → exported_number l.modules c.owner c.name (length c.args) ≡ Some function
        → IsCallOf l.modules (call_of function c.args c.limits []) → IsPrinted l.modules l.parts (call_of function c.args c.limits []) line
        → ModulesMean made.modules c line × (is_printed line ≡ true)
    go l same function exported call printed =
        let now : List Module = made.modules in
        let fits : IsCallOf now (call_of function c.args c.limits []) = subst (λ (x : Linked). IsCallOf x.modules (call_of function c.args c.limits [])) same call in
        let p = image_prints texts bytes made (call_of function c.args c.limits []) fits line (subst (λ (x : Linked). IsPrinted x.modules x.parts (call_of function c.args c.limits []) line) same printed) in
        (record { function = function; exported = subst (λ (x : Linked). exported_number x.modules c.owner c.name (length c.args) ≡ Some function) same exported; means = p.means }, p.printed)

-- something is printed of each outcome
some_line : (store : Store) (names : List (List ℕ)) (o : Outcome) → (line : List ℕ × ℕ) × IsLineIn store names o line
some_line store names (Returned w) =
    let v = something_seen store names address_end w in
    (term_line value_head VALUE_STATUS (spelt MOST_PRINTED v.0), (v.0, v.1, refl))
some_line store names (Raised class w) =
    let v = something_seen store names address_end w in
    (term_line (raise_head class) RAISE_STATUS (spelt MOST_PRINTED v.0), (v.0, v.1, refl))
some_line store names (Ended e) = (end_text names e, refl)

-- and each call of an exported function that fits is run
pub compiled_images_are_read : CompiledImagesAreRead
compiled_images_are_read texts bytes made =
    let read : IsReadAs made.modules bytes = image_is_read texts bytes made in
    record {
      read = read;
      runs = λ c function exported fits.
          let call : Call = call_of function c.args c.limits [] in
          let r : Ran = ran (opened read.linked.modules read.linked.parts call) in
          let some = some_line (store_of r.progress.loaded r.progress.state) r.progress.loaded.names r.answer in
          record {
            line = some.0;
            runs = record {
              exported = record { image = read.linked; read = read.read; function = function; exported = ap (λ ns. exported_number ns c.owner c.name (length c.args)) read.modules ∙ exported };
              call = subst (λ ns. IsCallOf ns call) (sym read.modules) fits;
              is = some.1;
            };
          };
    }
