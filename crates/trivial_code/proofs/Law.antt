-- Images of trivial functions are faithful.
use Rattle.std.proofs.Common.{◌≡◌, ℕ, zero, suc, ◌+◌, ◌-◌, ◌*◌, ◌/◌, ◌<◌, ◌≤◌, inl, inr, Bool, true, false, Some, None, List, [], ◌∷◌, ◌++◌, length, map, take, replicate, slice_get, slice_index, nat_eq, nat_lt, refl, ap, subst, sym, ◌∙◌, arith, if◌then◌else◌}
use Rattle.std.proofs.lemmas.Bool.{eqb-true}
use Rattle.std.proofs.lemmas.List.{take_at}
use Rattle.std.proofs.lemmas.Option.{slice_get-get_or, slice_get_within}
use Rattle.std.proofs.lemmas.Bool.Decides.{nat_tests}
use Rattle.std.specs.Option.{option_map}
use Rattle.beam_code.specs.declared.call.Limits.{Limits}
use Rattle.beam_code.specs.declared.module.Module.{Module}
use Rattle.beam_code.specs.Frame.{beam_step}
use Rattle.beam_code.specs.Function.{Placed, all_functions, function_at, is_named, items_in, items_of, cost_of}
use Rattle.beam_code.specs.Meaning.{most_rows, meaning, first_state, words_in}
use Rattle.beam_code.specs.State as b
use Rattle.beam_code.proofs.Numbers.{Found, named, arity_passes}
use Rattle.trivial_code.proofs.Acts.{origin_behind}
use Rattle.trivial_code.proofs.Located.{ArePlain}
use Rattle.trivial_code.proofs.Stands.{constant_stands}
use Rattle.trivial_code.proofs.Paths.{Enters, spends, fills, passes, entered, entered_stands, entered_keeps, full_keeps, returned, returns, word_returned}
use Rattle.trivial_code.proofs.Rows.{lt_or_le, Gives, MeansSo, begun, value_of, means_spent, means_full, means_value, Means, means}
use Rattle.trivial_code.proofs.Steps.{HasArea, Runs, word_given}
use Rattle.trivial_code.specs.declared.emitting.Given.{Given}
use Rattle.trivial_code.specs.declared.emitting.Given.TheVariants.{Came, Register, Area, Word}
use Rattle.trivial_code.specs.declared.trivial.Origin.{Origin}
use Rattle.trivial_code.specs.declared.trivial.Origin.TheVariants.{Argument, Moved}
use Rattle.trivial_code.specs.Image.{IsInReach, IsReady, AreReady, IsTrivialFunction, IsTrivialImage, TrivialFunctionsAreFaithful, TrivialFunctionsHaveMeanings, literals_before}
use Rattle.trivial_code.specs.Returned.{given_by}
use Rattle.trivial_code.specs.Trivial.{held}
use Rattle.trivial_code.specs.Words.{FitsWord}
use Rattle.faithful_image.specs.Agreement.{Agrees, IsSameOutcome}
use Rattle.mode_switch.specs.Store.{store_of}
use Rattle.faithful_image.proofs.Watching.{IsFault, step_off, ends_alike, apart_always}
use Rattle.faithful_image.specs.Meaning.{HasMeaning, IsOutcome, IsSound, meaning_of}
use Rattle.faithful_image.specs.Faithful.{AgreesWith, IsApart, IsOver}
use Rattle.faithful_image.specs.Watched.{watched_step}
use Rattle.laid_terms.proofs.Standing.{laid_terms_stand, length-laid_in_turn}
use Rattle.laid_terms.specs.Laid.{Begins as IsBegun}
use Rattle.mode_switch.proofs.Places.{full_step-plain}
use Rattle.mode_switch.specs.Call.{Call, IsCallOf, IsInRange, loaded, run_of, start}
use Rattle.mode_switch.specs.declared.addresses.TheConstants.{GATE_START, STACK_END, STOP_LINK, X_WORDS}
use Rattle.mode_switch.specs.declared.outcome.End.TheVariants as e
use Rattle.mode_switch.specs.declared.outcome.Outcome.{Outcome}
use Rattle.mode_switch.specs.declared.outcome.Outcome.TheVariants.{Returned, Ended}
use Rattle.mode_switch.specs.Destination.{entry_address, item_entry}
use Rattle.mode_switch.specs.Run.{full_step, bound, first_state as machine_state}
use Rattle.mode_switch.specs.State.{Loaded, MixedState, Finish}
use Rattle.mode_switch.specs.Step.{mixed_step}
use Rattle.image_format.specs.declared.limits.TheConstants.{CODE_START, ITEM_START}
use Rattle.image_format.specs.declared.parts.Parts.{Parts}
use Rattle.native_link.specs.Checking.{constants_in}
use Rattle.native_link.specs.Lookup.{entry_address as native_address}
use Rattle.small_step.proofs.Following.{Stretch, Ends, Agrees as Followed, ends, ends_in_time}
use Rattle.small_step.proofs.Runs.{done_stays, done_once, run-one, still_goes_on}
use Rattle.small_step.specs.Stage.{Stage, Still, Done, IfDone, IfStill, run}
use Rattle.tagged_words.proofs.SeenLaws.{a_tree_stays}
use Rattle.tagged_words.specs.declared.addresses.TheConstants.{HEAP_START}
use Rattle.tagged_words.specs.Laid.{laid_in_turn, words_in_turn}
use Rattle.tagged_words.specs.Seen.{IsTreeOf}
use Rattle.term_tree.specs.Size.{words_of_all}
use Rattle.term_tree.specs.Tree as t
use Rattle.trivial_code.proofs.Kept.{area_at, area_large, area_of, length-words_in_turn, literals_keep, names_keep}
use Rattle.word_terms.specs.Literals.{literal_store}

if_done : {S O : Type 0} (P : O → Type 0) (st : Stage S O) → ((o : O) → st ≡ Done o → P o) → IfDone st P
if_done P (Still s) holds = tt
if_done P (Done o) holds = holds o refl

if_still : {S O : Type 0} (P : S → Type 0) (st : Stage S O) → ((s : S) → st ≡ Still s → P s) → IfStill st P
if_still P (Still s) holds = holds s refl
if_still P (Done o) holds = tt

-- what agrees with a meaning is no fault
fault_disagrees : (g : Loaded) (m : MixedState) (said : Outcome) (meant : b.Outcome) → IsSameOutcome (store_of g m) g.names said meant → IsFault said → ⊥
fault_disagrees g m (Ended (e.MachineFault kind at)) (b.Ended end) same fault = same
fault_disagrees g m (Ended (e.MachineFault kind at)) (b.Returned v) same fault = same
fault_disagrees g m (Ended (e.MachineFault kind at)) (b.Raised c v) same fault = same
fault_disagrees g m said meant same fault = absurd fault

-- rows: a round of the items of one function is within the bound
items_before : (ps : List Placed) (k : ℕ) (p : Placed) → slice_get ps k ≡ Some p → length p.function.items ≤ items_in ps
items_before [] k p e = absurd cc
items_before (q ∷ ps) zero p e = let same : q ≡ p = cc in let n = ap (λ x. length x.function.items) same in omega arith
items_before (q ∷ ps) (suc k) p e = let rest = items_before ps k p e in omega arith

rows_within : (ms : List Module) (limits : Limits) (fid : ℕ) (p : Placed) → function_at ms fid ≡ Some p → 1 + length p.function.items ≤ most_rows ms limits
rows_within ms limits fid p is =
    let few : length p.function.items ≤ items_of ms = items_before (all_functions ms) fid p is in
    let all : most_rows ms limits ≡ limits.reductions * (items_of ms + 2) + 2 * (items_of ms + 2) = omega arith in
    omega arith

-- the registers and the heap that a call's value is read by
record Keeps (s final : MixedState) : Type 0 where
  memory : final.memory ≡ s.memory
  top : slice_index final.regs.r 2 ≡ slice_index s.regs.r 2

-- so many steps of the machine that watches the chosen functions end the run so
record EndsSo (g : Loaded) (chosen : List ℕ) (n : ℕ) (s : MixedState) (outcome : Outcome) : Type 0 where
  final : MixedState
  done : run (watched_step g chosen) n s ≡ Done (record { outcome = outcome; state = final })
  keeps : Keeps s final

-- the run of one call
module _ (g : Loaded) (chosen : List ℕ) (first fid : ℕ) (p : Placed) (origin : Origin) (given : Given) (args : List t.Tree) (value : t.Tree) (laid words : List ℕ) (is : function_at g.modules fid ≡ Some p) (gives : Gives p.function args origin value) (fits_word : FitsWord given) (runs : Runs g first given (cost_of p.function)) (entry : entry_address g.modules g.parts.natives fid ≡ CODE_START + 4 * first) (range : IsInRange g.limits) where
  abbrev start_at : MixedState
  start_at = machine_state g.limits (entry_address g.modules g.parts.natives fid) laid words

  enters : Enters first (cost_of p.function) g.limits.reductions (STACK_END - 4 * g.limits.stack) STACK_END start_at
  enters =
      let most = range.reductions in
      let frame = runs.frame in
      record {
        stands = record { whole = refl; pc = entry ∙ (omega arith); npc = ap (λ x. x + 4) entry ∙ (omega arith) };
        counter = refl;
        few = omega arith;
        floor = refl;
        pointer = refl;
        room = omega arith;
        low = omega arith;
      }

  -- a gate is no item, and without junk a step there is the gate's
  at_gate : (s : MixedState) → s.regs.pc < ITEM_START → watched_step g chosen s ≡ mixed_step g s
  at_gate s low = step_off g chosen s (inl low) ∙ full_step-plain g s runs.quiet

  ends_behind : (n : ℕ) (t : MixedState) (o : Outcome) → Keeps start_at t → run (watched_step g chosen) n start_at ≡ Still t → watched_step g chosen t ≡ Done (record { outcome = o; state = t }) → EndsSo g chosen (n + 1) start_at o
  ends_behind n t o keeps still end = record { final = t; done = still_goes_on (watched_step g chosen) n 1 start_at t still ∙ run-one (watched_step g chosen) t ∙ end; keeps = keeps }

  out_of_reductions : g.limits.reductions ≡ 0 → EndsSo g chosen 6 start_at (Ended e.OutOfReductions)
  out_of_reductions none =
      ends_behind 5 _ (Ended e.OutOfReductions) (record { memory = refl; top = refl })
      (spends g chosen first given (cost_of p.function) runs start_at g.limits.reductions (STACK_END - 4 * g.limits.stack) STACK_END enters none)
      (at_gate _ (omega arith))

  stack_full : 0 < g.limits.reductions → g.limits.stack < cost_of p.function → EndsSo g chosen 11 start_at (Ended e.StackFull)
  stack_full some full =
      let frame = runs.frame in
      ends_behind 10 _ (Ended e.StackFull) (record { memory = refl; top = refl })
      (fills g chosen first given (cost_of p.function) runs start_at g.limits.reductions (STACK_END - 4 * g.limits.stack) STACK_END enters some (omega arith))
      (at_gate _ (omega arith))

  abbrev behind_entry : MixedState
  behind_entry = entered g chosen first given (cost_of p.function) runs start_at g.limits.reductions (STACK_END - 4 * g.limits.stack) STACK_END enters

  abbrev word_said : ℕ
  word_said = word_given given start_at.regs.r start_at.memory.xs.words

  -- the x area, and what the entry leaves of the arguments
  has_area : HasArea behind_entry behind_entry.regs.r
  has_area =
      let same = entered_keeps g chosen first given (cost_of p.function) runs start_at g.limits.reductions (STACK_END - 4 * g.limits.stack) STACK_END enters in
      record { leads = same 7 (λ e. cc) (λ e. cc) (λ e. cc); start = refl; large = area_large words }

  word_same : (said : Given) → FitsWord said → word_given said behind_entry.regs.r behind_entry.memory.xs.words ≡ word_given said start_at.regs.r start_at.memory.xs.words
  word_same Came fits = entered_keeps g chosen first given (cost_of p.function) runs start_at g.limits.reductions (STACK_END - 4 * g.limits.stack) STACK_END enters 8 (λ e. cc) (λ e. cc) (λ e. cc)
  word_same (Register n) fits = entered_keeps g chosen first given (cost_of p.function) runs start_at g.limits.reductions (STACK_END - 4 * g.limits.stack) STACK_END enters (8 + n) (λ e. omega arith) (λ e. omega arith) (λ e. omega arith)
  word_same (Area n) fits = refl
  word_same (Word w) fits = refl

  returned_value : 0 < g.limits.reductions → cost_of p.function ≤ g.limits.stack → EndsSo g chosen 12 start_at (Returned word_said)
  returned_value some fits =
      let most = range.stack in
      let stands = entered_stands g chosen first given (cost_of p.function) runs start_at g.limits.reductions (STACK_END - 4 * g.limits.stack) STACK_END enters in
      let same = entered_keeps g chosen first given (cost_of p.function) runs start_at g.limits.reductions (STACK_END - 4 * g.limits.stack) STACK_END enters in
      let last : MixedState = returned g chosen first given (cost_of p.function) runs behind_entry GATE_START in
      let top : slice_index last.regs.r 2 ≡ slice_index start_at.regs.r 2 =
      full_keeps given behind_entry.regs.r behind_entry.memory.xs.words 2 (λ e. cc) ∙ same 2 (λ e. cc) (λ e. cc) (λ e. cc) in
      ends_behind 11 last (Returned word_said) (record { memory = refl; top = top })
      (still_goes_on (watched_step g chosen) 8 3 start_at behind_entry
      (passes g chosen first given (cost_of p.function) runs start_at g.limits.reductions (STACK_END - 4 * g.limits.stack) STACK_END enters some (omega arith))
      ∙ returns g chosen first given (cost_of p.function) runs behind_entry STOP_LINK GATE_START stands fits_word has_area (same 15 (λ e. cc) (λ e. cc) (λ e. cc)) refl refl)
      (at_gate last (omega arith)
      ∙ ap (λ w. Done (record { outcome = Returned w; state = last }))
      (word_returned g chosen first given (cost_of p.function) runs behind_entry GATE_START stands
      ∙ word_same given fits_word))

  -- both at the start, with steps enough
  record Begins (budget : ℕ) (s : b.BeamState) (m : MixedState) : Type 0 where
    source : s ≡ begun g.modules g.limits fid p origin args value is gives
    target : m ≡ start_at
    enough : 12 ≤ budget

  abbrev Good : b.BeamState → Type 0
  Good s = Unit {0}

  abbrev Stretches : ℕ → b.BeamState → MixedState → Type 0
  Stretches budget s m = Stretch (beam_step g.modules g.limits) (watched_step g chosen) Begins (Agrees g) Good (λ s s' e good. tt) budget s m

  -- both end, as they should
  both_end : (budget steps : ℕ) (s : b.BeamState) (m : MixedState) (meant : b.Outcome) (said : Outcome) → Begins budget s m → (c : (rows : ℕ) × MeansSo g.modules g.limits rows (begun g.modules g.limits fid p origin args value is gives) meant) → (says : EndsSo g chosen steps start_at said)
      → IsSameOutcome (store_of g says.final) g.names said meant → steps ≤ 12 → Stretches budget s m
  both_end budget steps s m meant said begins c says same low =
      ends c.0 steps (record { outcome = meant; state = c.1.0 }) (record { outcome = said; state = says.final })
      (ap (run (beam_step g.modules g.limits) c.0) begins.source ∙ c.1.1)
      (ap (run (watched_step g chosen) steps) begins.target ∙ says.done)
      same (omega (arith, begins.enough))

  -- the word that is returned stands for the term in each state that keeps the heap
  module _ (stands : (final : MixedState) → Keeps start_at final → IsTreeOf (store_of g final) g.names word_said value) where
    stretch : (budget : ℕ) (s : b.BeamState) (m : MixedState) → Good s → Begins budget s m → Stretches budget s m
    stretch budget s m good begins =
        elim (lt_or_le 0 g.limits.reductions) [
          | inr none ↦
              both_end budget 6 s m (b.Ended b.OutOfReductions) (Ended e.OutOfReductions) begins
              (1, means_spent g.modules g.limits fid p origin args value is gives (omega arith)) (out_of_reductions (omega arith)) tt (omega arith)
          | inl some ↦
              elim (lt_or_le g.limits.stack (cost_of p.function)) [
                | inl full ↦
                    both_end budget 11 s m (b.Ended b.StackFull) (Ended e.StackFull) begins
                    (1, means_full g.modules g.limits fid p origin args value is gives some full) (stack_full some full) tt (omega arith)
                | inr fits ↦
                    let comes = means_value g.modules g.limits fid p origin args value is gives some fits in
                    let says = returned_value some fits in
                    both_end budget 12 s m (b.Returned value) (Returned word_said) begins (comes.rows, comes.means) says (stands says.final says.keeps) (omega arith)
              ]
        ]

    ended : Ends (beam_step g.modules g.limits) (watched_step g chosen) Begins (Agrees g) Good (λ s s' e good. tt) (bound g) (begun g.modules g.limits fid p origin args value is gives) start_at
    ended =
        ends_in_time (beam_step g.modules g.limits) (watched_step g chosen) Begins (Agrees g) Good (λ s s' e good. tt) stretch (bound g) (begun g.modules g.limits fid p origin args value is gives) start_at tt
        (record { source = refl; target = refl; enough = omega arith })

    meaning_is : meaning g.modules g.limits fid args ≡ Done (means g.modules g.limits fid p origin args value is gives).finish
    meaning_is = done_stays (beam_step g.modules g.limits) (1 + length p.function.items) (most_rows g.modules g.limits) (begun g.modules g.limits fid p origin args value is gives) (means g.modules g.limits fid p origin args value is gives).finish (means g.modules g.limits fid p origin args value is gives).within (rows_within g.modules g.limits fid p is)

    agrees_then : (said : Finish) → Followed (beam_step g.modules g.limits) (watched_step g chosen) Begins (Agrees g) Good (λ s s' e good. tt) (begun g.modules g.limits fid p origin args value is gives) said → Agrees g (means g.modules g.limits fid p origin args value is gives).finish said
    agrees_then said a =
        subst (λ meant. Agrees g meant said) (done_once (beam_step g.modules g.limits) a.rows (1 + length p.function.items) (begun g.modules g.limits fid p origin args value is gives) a.outcome (means g.modules g.limits fid p origin args value is gives).finish a.done (means g.modules g.limits fid p origin args value is gives).within) a.agree

    good : IsFault ended.outcome.outcome → ⊥
    good fault = fault_disagrees g ended.outcome.state ended.outcome.outcome _ (agrees_then ended.outcome ended.agrees) fault

    -- the plain run is over within the bound, as the call means
    one_ends : run (full_step g) (bound g) start_at ≡ Done ended.outcome
    one_ends = ends_alike g chosen (bound g) start_at ended.outcome ended.within good

    one_agrees : (n : ℕ) (said : Finish) → run (full_step g) n start_at ≡ Done said → Agrees g (means g.modules g.limits fid p origin args value is gives).finish said
    one_agrees n said done =
        subst (Agrees g (means g.modules g.limits fid p origin args value is gives).finish) (done_once (full_step g) (bound g) n start_at ended.outcome said one_ends done) (agrees_then ended.outcome ended.agrees)

    one_apart : (k : ℕ) (s : MixedState) → run (full_step g) k start_at ≡ Still s → IsApart g.modules chosen s.regs.pc
    one_apart k s still = apart_always g chosen (bound g) start_at ended.outcome ended.within good k s still

-- a call of an exported function, each of which is trivial
module _ (ms : List Module) (functions : AreReady ms) (call : Call) (fits : IsCallOf ms call) where
  means_found : Found (is_named fits.owner fits.name (length call.args)) 0 call.function (all_functions ms)
  means_found = named ms fits.owner fits.name (length call.args) call.function fits.exported

  means_there : function_at ms call.function ≡ Some means_found.function
  means_there = let same : call.function ≡ means_found.index = omega (arith, means_found.is) in ap (slice_get (all_functions ms)) same ∙ means_found.there

  means_ready : (origin : Origin) × IsReady means_found.function.function origin
  means_ready = functions call.function means_found.function means_there

  means_arity : length call.args ≡ means_found.function.function.arity
  means_arity = eqb-true (length call.args) means_found.function.function.arity (arity_passes fits.owner fits.name (length call.args) means_found.function means_found.passes)

  means_gives : (v : t.Tree) × Gives means_found.function.function call.args means_ready.0 v
  means_gives = value_of means_found.function.function call.args means_ready.0 means_ready.1.is means_arity means_ready.1.reads

  means_here : Means ms call.limits call.function means_found.function means_ready.0 call.args means_gives.0 means_there means_gives.1
  means_here = means ms call.limits call.function means_found.function means_ready.0 call.args means_gives.0 means_there means_gives.1

  abbrev means_rows : ℕ
  means_rows = 1 + length means_found.function.function.items

  abbrev means_first : b.BeamState
  means_first = first_state ms call.limits call.function call.args

  never : (n : ℕ) → IfDone (run (beam_step ms call.limits) n means_first) IsSound
  never n =
      if_done IsSound _
      (λ f done. subst IsSound (done_once (beam_step ms call.limits) means_rows n means_first means_here.finish f means_here.within done) means_here.sound)

  done_in_time : meaning_of ms call ≡ Done means_here.finish
  done_in_time =
      done_stays (beam_step ms call.limits) means_rows (most_rows ms call.limits) means_first means_here.finish means_here.within
      (rows_within ms call.limits call.function means_found.function means_there)

  pub has_meaning : HasMeaning ms call
  has_meaning = record { outcome = subst IsOutcome (sym done_in_time) means_here.sound; never_stuck = never }

pub trivial_functions_have_meanings : TrivialFunctionsHaveMeanings
trivial_functions_have_meanings ms functions call fits = has_meaning ms functions call fits

-- the words of arguments that are laid in the heap stand for them
words_below : (vs : List t.Tree) → words_of_all (t.trees_of vs) ≡ words_in vs
words_below [] = refl
words_below (v ∷ vs) = let rest = words_below vs in omega arith

heap_has : (laid rest : List ℕ) (n : ℕ) → n ≡ length laid → IsBegun laid (take n (laid ++ rest))
heap_has laid rest n e j w is = ap (λ (ws : List ℕ). slice_get ws j) (take_at laid rest n (sym e)) ∙ is

-- an argument is where it came
argument_word : (words rs : List ℕ) (n : ℕ) → n < length words → slice_index rs 8 ≡ slice_index words 0 → slice_index rs 9 ≡ slice_index words 1 → slice_index rs 10 ≡ slice_index words 2 → slice_index rs 11 ≡ slice_index words 3
    → slice_index rs 12 ≡ slice_index words 4 → (zeroth low : Bool) → nat_eq n 0 ≡ zeroth → nat_lt n 5 ≡ low
    → word_given (if zeroth then Came else if low then Register n else Area n) rs (area_of words) ≡ slice_index words n
argument_word words rs n few e0 e1 e2 e3 e4 true low is under = let same : n ≡ 0 = grind (arith, nat_tests) in e0 ∙ ap (slice_index words) (sym same)
argument_word words rs n few e0 e1 e2 e3 e4 false false is under = area_at words n (grind (arith, nat_tests)) few
argument_word words rs zero few e0 e1 e2 e3 e4 false true is under = e0
argument_word words rs (suc zero) few e0 e1 e2 e3 e4 false true is under = e1
argument_word words rs (suc (suc zero)) few e0 e1 e2 e3 e4 false true is under = e2
argument_word words rs (suc (suc (suc zero))) few e0 e1 e2 e3 e4 false true is under = e3
argument_word words rs (suc (suc (suc (suc zero)))) few e0 e1 e2 e3 e4 false true is under = e4
argument_word words rs (suc (suc (suc (suc (suc n))))) few e0 e1 e2 e3 e4 false true is under = absurd (grind (arith, nat_tests))

argument_fits : (n : ℕ) → n < X_WORDS → (zeroth low : Bool) → nat_lt n 5 ≡ low → FitsWord (if zeroth then Came else if low then Register n else Area n)
argument_fits n reach true low under = tt
argument_fits n reach false true under = grind (arith, nat_tests)
argument_fits n reach false false under = reach

-- a call of an exported function of an image of trivial functions
module _ (ms : List Module) (parts : Parts) (image : IsTrivialImage ms parts) (call : Call) (fits : IsCallOf ms call) where
  abbrev g : Loaded
  g = loaded ms parts call

  abbrev laid : List ℕ
  laid = laid_in_turn g.names HEAP_START call.args

  abbrev words : List ℕ
  words = words_in_turn g.names HEAP_START call.args

  found : Found (is_named fits.owner fits.name (length call.args)) 0 call.function (all_functions ms)
  found = named ms fits.owner fits.name (length call.args) call.function fits.exported

  there : function_at ms call.function ≡ Some found.function
  there = let same : call.function ≡ found.index = omega (arith, found.is) in ap (slice_get (all_functions ms)) same ∙ found.there

  trivial : IsTrivialFunction parts (literals_before ms call.function) call.function found.function.function
  trivial = image.functions call.function found.function there

  arity : length call.args ≡ found.function.function.arity
  arity = eqb-true (length call.args) found.function.function.arity (arity_passes fits.owner fits.name (length call.args) found.function found.passes)

  term : (v : t.Tree) × Gives found.function.function call.args trivial.origin v
  term = value_of found.function.function call.args trivial.origin trivial.ready.is arity trivial.ready.reads

  abbrev given : Given
  given = given_by (constants_in parts) (literals_before ms call.function) found.function.function.items trivial.origin

  are_plain_all : ArePlain (all_functions ms)
  are_plain_all k p e = let f = image.functions k p e in (origin_behind p.function f.origin f.ready.is).0

  last_word : trivial.placed.native.first + 14 < length parts.code
  last_word = slice_get_within parts.code (trivial.placed.native.first + 14) _ (trivial.placed.stands 14 _ refl)

  runs : Runs g trivial.placed.native.first given (cost_of found.function.function)
  runs =
      record {
        quiet = fits.no_junk;
        few = image.items;
        words = trivial.placed.stands;
        below = (let last = last_word in let most = image.code in omega arith);
        frame = trivial.frame;
      }

  entry : entry_address ms parts.natives call.function ≡ CODE_START + 4 * trivial.placed.native.first
  entry = ap (λ o. elim (option_map native_address o) [ None ↦ item_entry ms call.function (function_at ms call.function) | Some at ↦ at ]) trivial.placed.found

  -- what is returned has a word, which stands for the term
  fits_by : (origin : Origin) (v : t.Tree) → IsInReach origin → held found.function.function.items call.args origin ≡ Some v → FitsWord (given_by (constants_in parts) (literals_before ms call.function) found.function.function.items origin)
  fits_by (Argument n) v reach e = argument_fits n reach (nat_eq n 0) (nat_lt n 5) refl
  fits_by (Moved at) v reach e = (constant_stands (constants_in parts) ms image.constants image.roots are_plain_all call.function at found.function v there e).low

  given_fits : FitsWord given
  given_fits = fits_by trivial.origin term.0 trivial.reach term.1.holds

  begins_in : (final : MixedState) → Keeps (start g call) final → IsBegun laid (store_of g final).heap
  begins_in final keeps =
      let most = fits.heap in
      let limit = fits.limits.heap in
      let few = words_below call.args in
      let long = length-laid_in_turn g.names call.args HEAP_START in
      let top = keeps.top in
      let used : (slice_index final.regs.r 2 - HEAP_START + 3) / 4 ≡ length laid = omega arith in
      λ j w is. ap (λ (ws : List ℕ). slice_get (take ((slice_index final.regs.r 2 - HEAP_START + 3) / 4) ws) j) (ap (λ m. m.heap.words) keeps.memory)
      ∙ heap_has laid (replicate (call.limits.heap - length laid) 0) ((slice_index final.regs.r 2 - HEAP_START + 3) / 4) used j w is

  argument_stands : (final : MixedState) → Keeps (start g call) final → (n : ℕ) (v : t.Tree) → slice_get call.args n ≡ Some v → IsTreeOf (store_of g final) g.names (slice_index words n) v
  argument_stands final keeps n v e =
      let most = fits.heap in
      let limit = fits.limits.heap in
      let few = words_below call.args in
      let low : n < length call.args = slice_get_within call.args n v e in
      let long = length-words_in_turn g.names HEAP_START call.args in
      laid_terms_stand parts.atoms call.args (store_of g final) fits.terms (omega arith) (begins_in final keeps) n (slice_index words n) v e (slice_get-get_or words n 0 (omega arith))

  stands_by : (final : MixedState) → Keeps (start g call) final → (origin : Origin) (v : t.Tree) → held found.function.function.items call.args origin ≡ Some v
      → IsTreeOf (store_of g final) g.names (word_given (given_by (constants_in parts) (literals_before ms call.function) found.function.function.items origin) (start g call).regs.r (start g call).memory.xs.words) v
  stands_by final keeps (Argument n) v e =
      let low : n < length call.args = slice_get_within call.args n v e in
      let long = length-words_in_turn g.names HEAP_START call.args in
      subst (λ w. IsTreeOf (store_of g final) g.names w v) (sym (argument_word words (start g call).regs.r n (omega arith) refl refl refl refl refl (nat_eq n 0) (nat_lt n 5) refl refl))
      (argument_stands final keeps n v e)
  stands_by final keeps (Moved at) v e =
      let c = constant_stands (constants_in parts) ms image.constants image.roots are_plain_all call.function at found.function v there e in
      a_tree_stays (literal_store parts.literals) (store_of g final) parts.atoms g.names (literals_keep parts.literals (store_of g final).heap) (names_keep parts.atoms call.args) _ v c.stands

  stands_in : (final : MixedState) → Keeps (start g call) final → IsTreeOf (store_of g final) g.names (word_given given (start g call).regs.r (start g call).memory.xs.words) term.0
  stands_in final keeps = stands_by final keeps trivial.origin term.0 term.1.holds

  meant : meaning_of ms call ≡ Done (means ms call.limits call.function found.function trivial.origin call.args term.0 there term.1).finish
  meant =
      meaning_is g [] trivial.placed.native.first call.function found.function trivial.origin given call.args term.0 laid words there term.1 given_fits runs entry fits.limits stands_in

  agrees_at : (n : ℕ) (said : Finish) → run_of g call n ≡ Done said → AgreesWith g (meaning_of ms call) said
  agrees_at n said done =
      subst (λ st. AgreesWith g st said) (sym meant)
      (one_agrees g [] trivial.placed.native.first call.function found.function trivial.origin given call.args term.0 laid words there term.1 given_fits runs entry fits.limits stands_in n said done)

  pub agrees_in : (n : ℕ) → IfDone (run_of g call n) (AgreesWith g (meaning_of ms call))
  agrees_in n = if_done (AgreesWith g (meaning_of ms call)) (run_of g call n) (agrees_at n)

  pub ends_in : IsOver (run_of g call (bound g))
  ends_in = subst IsOver (sym (one_ends g [] trivial.placed.native.first call.function found.function trivial.origin given call.args term.0 laid words there term.1 given_fits runs entry fits.limits stands_in)) tt

  pub apart_in : (chosen : List ℕ) (n : ℕ) → IfStill (run_of g call n) (λ s. IsApart ms chosen s.regs.pc)
  apart_in chosen n =
      if_still (λ s. IsApart ms chosen s.regs.pc) (run_of g call n)
      (λ s still. one_apart g chosen trivial.placed.native.first call.function found.function trivial.origin given call.args term.0 laid words there term.1 given_fits runs entry fits.limits stands_in n s still)

pub trivial_functions_are_faithful : TrivialFunctionsAreFaithful
trivial_functions_are_faithful ms parts image =
    record {
      texts = image.texts;
      choice = refl;
      agrees = λ call fits n. agrees_in ms parts image call fits n;
      ends = λ call fits. ends_in ms parts image call fits;
      native = λ call fits n. apart_in ms parts image call fits (map (λ n. n.fid) parts.natives) n;
    }
