-- Each line that is printed of a call on a faithful image is that of the call's meaning.
use Rattle.std.proofs.Common.{◌≡◌, ℕ, Bool, true, false, List, [], ◌++◌, if◌then◌else◌, nat_lt, codes, refl, ap, sym, subst, ◌∙◌}
use Rattle.std.specs.Option.{unwrap_or}
use Rattle.beam_code.specs.declared.module.Module.{Module}
use Rattle.beam_code.specs.State as b
use Rattle.faithful_image.specs.Agreement.{IsSameEnd, IsSameOutcome}
use Rattle.faithful_image.specs.Faithful.{AgreesWith, IsOver}
use Rattle.faithful_image.specs.Line.{FaithfulRunsPrintTheirMeaning, IsPrinted, MeansLine, meant_end, meant_line, meant_term}
use Rattle.faithful_image.specs.Meaning.{meaning_of}
use Rattle.mode_switch.proofs.Lines.{line_of_seen}
use Rattle.mode_switch.proofs.Runs.{finish_opened, loaded_stays}
use Rattle.mode_switch.specs.Call.{Call, loaded, run_of}
use Rattle.mode_switch.specs.declared.outcome.End.{End}
use Rattle.mode_switch.specs.declared.outcome.End.TheVariants as e
use Rattle.mode_switch.specs.declared.outcome.Outcome.{Outcome}
use Rattle.mode_switch.specs.declared.outcome.Outcome.TheVariants.{Returned, Raised, Ended}
use Rattle.mode_switch.specs.declared.text.TheConstants.{VALUE_STATUS, RAISE_STATUS, MOST_PRINTED}
use Rattle.mode_switch.specs.Machine.{Ran, finish_of, opened, ran}
use Rattle.mode_switch.specs.Run.{bound}
use Rattle.mode_switch.specs.State.{Finish, Loaded, MixedState}
use Rattle.mode_switch.specs.Store.{store_of}
use Rattle.mode_switch.specs.Text.{IsTermLine, Says, end_line, end_text, name_at, not_provided, raise_head, term_line, value_head}
use Rattle.image_format.specs.declared.parts.Parts.{Parts}
use Rattle.small_step.specs.Stage.{Stage, Still, Done, IfDone}
use Rattle.tagged_words.specs.Seen.{IsTreeOf, whole}
use Rattle.tagged_words.specs.Store.{Store}
use Rattle.term_tree.specs.Text.{text_of}
use Rattle.term_tree.specs.Tree.{Tree}
use Rattle.word_walks.proofs.WholeTexts.{whole_terms_are_spelt}
use Rattle.word_walks.specs.Nodes.{nodes_of}
use Rattle.word_walks.specs.Spelt.{Large, Text}

-- words and terms that agree have one line
spelt_line : (head : List ℕ) (status : ℕ) (v : Tree) (large : Bool) →
    term_line head status (if large then Large else Text (text_of v) (nodes_of v)) ≡ (head ++ (if large then codes "..." else text_of v) ++ codes "\n", status)
spelt_line head status v true = refl
spelt_line head status v false = refl

whole_line : (store : Store) (names : List (List ℕ)) (head : List ℕ) (status w : ℕ) (v : Tree) (line : List ℕ × ℕ) →
    IsTreeOf store names w v → IsTermLine store names head status w line → meant_term head status v ≡ line
whole_line store names head status w v line tree is =
    sym (spelt_line head status v (nat_lt MOST_PRINTED (nodes_of v)))
    ∙ ap (term_line head status) (sym (whole_terms_are_spelt MOST_PRINTED v))
    ∙ line_of_seen store names head status w (whole v) line tree is

same_end : (names : List (List ℕ)) (end : End) (meant : b.End) → IsSameEnd names end meant → end_text names end ≡ meant_end meant
same_end names e.Bignum b.Bignum h = refl
same_end names e.HeapFull b.HeapFull h = refl
same_end names e.StackFull b.StackFull h = refl
same_end names e.OutOfReductions b.OutOfReductions h = refl
same_end names e.BadOperand b.BadOperand h = refl
same_end names (e.NotProvided m f arity) (b.NotProvided owner name n) h =
    ap (λ o. end_line (not_provided (unwrap_or o []) (name_at names f) arity)) h.0
    ∙ ap (λ o. end_line (not_provided owner (unwrap_or o []) arity)) h.1
    ∙ ap (λ k. end_line (not_provided owner name k)) h.2
same_end names end meant h = absurd h

same_line : (g : Loaded) (s : MixedState) (o : Outcome) (meant : b.Outcome) (line : List ℕ × ℕ) →
    IsSameOutcome (store_of g s) g.names o meant → Says g s o line → meant_line meant ≡ line
same_line g s (Returned w) (b.Returned v) line h is = whole_line (store_of g s) g.names value_head VALUE_STATUS w v line h is
same_line g s (Raised class w) (b.Raised meant v) line h is =
    ap (λ c. meant_term (raise_head c) RAISE_STATUS v) (sym h.0) ∙ whole_line (store_of g s) g.names (raise_head class) RAISE_STATUS w v line h.1 is
same_line g s (Ended end) (b.Ended meant) line h is = sym (same_end g.names end meant h) ∙ is
same_line g s o meant line h is = absurd h

-- a line of how a run ended
abbrev SaysAt : Loaded → List ℕ × ℕ → Finish → Type 0
SaysAt g line f = Says g f.state f.outcome line

-- a run that is over and agrees with the meaning says its line
means_by : (ms : List Module) (call : Call) (g : Loaded) (meant : Stage b.BeamState b.Finish) (over : Stage MixedState Finish) (line : List ℕ × ℕ) → meaning_of ms call ≡ meant →
    IsOver over → IfDone over (AgreesWith g meant) → SaysAt g line (finish_of over) → MeansLine ms call line
means_by ms call g meant (Still s) line is over agrees says = absurd over
means_by ms call g (Still s) (Done f) line is over agrees says = absurd agrees
means_by ms call g (Done m) (Done f) line is over agrees says = record { finish = m; means = is; is = same_line g f.state f.outcome m.outcome line agrees says }

-- what is printed is said of how the call's run ends
said_at_end : (ms : List Module) (parts : Parts) (call : Call) (line : List ℕ × ℕ) → IsPrinted ms parts call line →
    SaysAt (loaded ms parts call) line (finish_of (run_of (loaded ms parts call) call (bound (loaded ms parts call))))
said_at_end ms parts call line is =
    let r : Ran = ran (opened ms parts call) in
    let P : Loaded → Type 0 = λ g. Says g r.progress.state r.answer line in
    subst (SaysAt (loaded ms parts call) line) (finish_opened ms parts call) (subst P (loaded_stays (opened ms parts call)) is)

pub faithful_runs_print_their_meaning : FaithfulRunsPrintTheirMeaning
faithful_runs_print_their_meaning ms chosen parts faithful call fits line is =
    let g : Loaded = loaded ms parts call in
    means_by ms call g (meaning_of ms call) (run_of g call (bound g)) line refl (faithful.ends call fits) (faithful.agrees call fits (bound g)) (said_at_end ms parts call line is)
