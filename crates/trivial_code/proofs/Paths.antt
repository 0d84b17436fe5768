-- The entry and the return of a trivial function, as stretches from any state: %g5, %g6, %o6, %o7, PC and nPC decide.
use Rattle.std.proofs.Common.{◌≡◌, ℕ, suc, ◌+◌, ◌-◌, ◌*◌, ◌^◌, ◌<◌, ◌≤◌, true, false, List, length, nat_eq, slice_index, slice_set, refl, ap, ◌∙◌, arith}
use Rattle.std.proofs.lemmas.Bool.Decides.{nat_tests}
use Rattle.std.proofs.lemmas.List.{get_or-set_same, get_or-set_other, length-set}
use Rattle.trivial_code.proofs.Steps.{half, full, word_given, HasArea, Flags, flags_of, compared, standing, at, Runs, gates, step0, step1_on, step1_off, step2, step3, step4, step5, step6_on, step6_off, nop_step, step8, step9, step10, step11, step13}
use Rattle.trivial_code.specs.declared.emitting.Given.{Given}
use Rattle.trivial_code.specs.declared.emitting.Given.TheVariants.{Came, Register, Area, Word}
use Rattle.trivial_code.specs.Words.{FitsWord, upper}
use Rattle.faithful_image.specs.Watched.{watched_step}
use Rattle.mode_switch.specs.declared.addresses.TheConstants.{GATE_START}
use Rattle.mode_switch.specs.State.{Loaded, MixedState}
use Rattle.small_step.proofs.Runs.{steps_on}
use Rattle.small_step.specs.Stage.{Still, run}
use Rattle.sparc_code.specs.Step.{in_word, is_aligned, sum_of, difference_of}

-- PC stands at a word of the code, and control goes on in order
pub record Stands (first j : ℕ) (s : MixedState) : Type 0 where
  pub whole : length s.regs.r ≡ 32
  pub pc : s.regs.pc ≡ at first j
  pub npc : s.regs.npc ≡ at first (j + 1)

stands_so : (first j : ℕ) (s : MixedState) → Stands first j s → s ≡ standing s s.regs.r (flags_of s.regs) (at first j) (at first (j + 1))
stands_so first j s st =
    ap (λ x. standing s s.regs.r (flags_of s.regs) x s.regs.npc) st.pc ∙ ap (λ x. standing s s.regs.r (flags_of s.regs) (at first j) x) st.npc

-- what an entry finds: the reductions left, the stack limit and the stack pointer
pub record Enters (first cost left limit sp : ℕ) (s : MixedState) : Type 0 where
  pub stands : Stands first 0 s
  pub counter : slice_index s.regs.r 6 ≡ left
  pub few : left < 2 ^ 32
  pub floor : slice_index s.regs.r 5 ≡ limit
  pub pointer : slice_index s.regs.r 14 ≡ sp
  pub room : 4 * cost ≤ sp
  pub low : sp < 2 ^ 32

-- the registers on the way: %g1 has the gates, %g6 a reduction less, %l7 where the frame would begin
abbrev pub paged : List ℕ → List ℕ
paged rs = slice_set rs 1 gates

abbrev pub paid : List ℕ → ℕ → List ℕ
paid rs left = slice_set (paged rs) 6 (left - 1)

abbrev pub placed : List ℕ → ℕ → ℕ → List ℕ
placed rs left low = slice_set (paid rs left) 23 low

-- registers that the return leaves as they are
pub half_keeps : (said : Given) (rs : List ℕ) (j : ℕ) → (j ≡ 8 → ⊥) → slice_index (half said rs) j ≡ slice_index rs j
half_keeps Came rs j other = refl
half_keeps (Register number) rs j other = refl
half_keeps (Area number) rs j other = refl
half_keeps (Word w) rs j other = get_or-set_other rs 8 j (upper w * 2 ^ 10) 0 other

pub full_keeps : (said : Given) (rs xs : List ℕ) (j : ℕ) → (j ≡ 8 → ⊥) → slice_index (full said rs xs) j ≡ slice_index rs j
full_keeps Came rs xs j other = refl
full_keeps (Register number) rs xs j other = get_or-set_other rs 8 j (slice_index rs (8 + number)) 0 other
full_keeps (Area number) rs xs j other = get_or-set_other rs 8 j (slice_index xs number) 0 other
full_keeps (Word w) rs xs j other = get_or-set_other (half (Word w) rs) 8 j w 0 other ∙ half_keeps (Word w) rs j other

full_has : (said : Given) (rs xs : List ℕ) → length rs ≡ 32 → slice_index (full said rs xs) 8 ≡ word_given said rs xs
full_has Came rs xs long = refl
full_has (Register number) rs xs long = get_or-set_same rs 8 (slice_index rs (8 + number)) 0 (omega arith)
full_has (Area number) rs xs long = get_or-set_same rs 8 (slice_index xs number) 0 (omega arith)
full_has (Word w) rs xs long = get_or-set_same (half (Word w) rs) 8 w 0 (omega (arith, length-set rs 8 (upper w * 2 ^ 10), long))

module _ (g : Loaded) (chosen : List ℕ) (first : ℕ) (given : Given) (cost : ℕ) (runs : Runs g first given cost) (s : MixedState) where
  next_of : (j k : ℕ) → k ≡ j + 1 → k ≤ 16 → in_word (at first j + 4) ≡ at first k
  next_of j k e low = let limit = runs.below in omega arith

  go : (n : ℕ) (t u v : MixedState) → watched_step g chosen t ≡ Still u → run (watched_step g chosen) n u ≡ Still v → run (watched_step g chosen) (suc n) t ≡ Still v
  go n t u v step rest = steps_on (watched_step g chosen) n t u step ∙ rest

  module _ (left limit sp : ℕ) (enters : Enters first cost left limit sp s) where
    abbrev rs : List ℕ
    rs = s.regs.r

    -- the flags after each comparison
    abbrev pub counted : Flags
    counted = compared left 0

    abbrev pub measured : Flags
    measured = compared (sp - 4 * cost) limit

    begun : s ≡ standing s rs (flags_of s.regs) (at first 0) (at first 1)
    begun = stands_so first 0 s enters.stands

    word0 : watched_step g chosen (standing s rs (flags_of s.regs) (at first 0) (at first 1)) ≡ Still (standing s rs counted (at first 1) (at first 2))
    word0 =
        step0 g chosen first given cost runs s rs (flags_of s.regs) (at first 1) (at first 2) (next_of 1 2 refl (omega arith))
        ∙ ap (λ x. Still (standing s rs (compared x 0) (at first 1) (at first 2))) enters.counter

    page : slice_index (paged rs) 1 ≡ gates
    page = get_or-set_same rs 1 gates 0 (omega (arith, enters.stands.whole))

    -- no reduction is left: on to gate 1
    pub spends : left ≡ 0 → run (watched_step g chosen) 5 s ≡ Still (standing s (paged rs) counted (GATE_START + 4) (GATE_START + 8))
    spends none =
        let zero_result : counted.zero_result ≡ true = ap (λ r. nat_eq (difference_of r 0) 0) none in
        ap (run (watched_step g chosen) 5) begun
        ∙ go 4 _ (standing s rs counted (at first 1) (at first 2)) _ word0
        (go 3 _ (standing s rs counted (at first 2) (at first 11)) _ (step1_off g chosen first given cost runs s rs counted (at first 2) zero_result)
        (go 2 _ (standing s (paged rs) counted (at first 11) (at first 12)) _ (step2 g chosen first given cost runs s rs counted (at first 11) (at first 12) (next_of 11 12 refl (omega arith)))
        (go 1 _ (standing s (paged rs) counted (at first 12) (GATE_START + 4)) _ (step11 g chosen first given cost runs s (paged rs) counted (at first 12) page)
        (go 0 _ (standing s (paged rs) counted (GATE_START + 4) (GATE_START + 8)) _ (nop_step g chosen first given cost runs s 12 (paged rs) counted (GATE_START + 4) (GATE_START + 8) refl refl) refl))))

    -- what the registers that count hold on the way
    left_of : slice_index (paged rs) 6 ≡ left
    left_of = get_or-set_other rs 1 6 gates 0 (λ e. cc) ∙ enters.counter

    pointer_of : slice_index (paid rs left) 14 ≡ sp
    pointer_of = get_or-set_other (paged rs) 6 14 (left - 1) 0 (λ e. cc) ∙ get_or-set_other rs 1 14 gates 0 (λ e. cc) ∙ enters.pointer

    whole_paid : length (paid rs left) ≡ 32
    whole_paid = length-set (paged rs) 6 (left - 1) ∙ length-set rs 1 gates ∙ enters.stands.whole

    start_of : slice_index (placed rs left (sp - 4 * cost)) 23 ≡ sp - 4 * cost
    start_of = get_or-set_same (paid rs left) 23 (sp - 4 * cost) 0 (omega (arith, whole_paid))

    limit_of : slice_index (placed rs left (sp - 4 * cost)) 5 ≡ limit
    limit_of =
        get_or-set_other (paid rs left) 23 5 (sp - 4 * cost) 0 (λ e. cc) ∙ get_or-set_other (paged rs) 6 5 (left - 1) 0 (λ e. cc)
        ∙ get_or-set_other rs 1 5 gates 0 (λ e. cc) ∙ enters.floor

    -- a reduction is taken: on to the word behind the comparison with the stack limit
    to_limit : (n : ℕ) (t : MixedState) → 0 < left → run (watched_step g chosen) n (standing s (placed rs left (sp - 4 * cost)) measured (at first 6) (at first 7)) ≡ Still t → run (watched_step g chosen) (suc (suc (suc (suc (suc (suc n)))))) s ≡ Still t
    to_limit n t some rest =
        let few = enters.few in
        let low = enters.low in
        let room = enters.room in
        let zero_result : counted.zero_result ≡ false = grind (arith, nat_tests) in
        let one_less : difference_of (slice_index (paged rs) 6) 1 ≡ left - 1 = ap (λ x. difference_of x 1) left_of ∙ (omega arith) in
        let down : difference_of (slice_index (paid rs left) 14) (4 * cost) ≡ sp - 4 * cost = ap (λ x. difference_of x (4 * cost)) pointer_of ∙ (omega arith) in
        ap (run (watched_step g chosen) (suc (suc (suc (suc (suc (suc n))))))) begun
        ∙ go (suc (suc (suc (suc (suc n))))) _ (standing s rs counted (at first 1) (at first 2)) _ word0
        (go (suc (suc (suc (suc n)))) _ (standing s rs counted (at first 2) (at first 3)) _ (step1_on g chosen first given cost runs s rs counted (at first 2) (at first 3) zero_result (next_of 2 3 refl (omega arith)))
        (go (suc (suc (suc n))) _ (standing s (paged rs) counted (at first 3) (at first 4)) _ (step2 g chosen first given cost runs s rs counted (at first 3) (at first 4) (next_of 3 4 refl (omega arith)))
        (go (suc (suc n)) _ (standing s (paid rs left) counted (at first 4) (at first 5)) _ (step3 g chosen first given cost runs s (paged rs) counted (at first 4) (at first 5) (left - 1) (next_of 4 5 refl (omega arith)) one_less)
        (go (suc n) _ (standing s (placed rs left (sp - 4 * cost)) counted (at first 5) (at first 6)) _ (step4 g chosen first given cost runs s (paid rs left) counted (at first 5) (at first 6) (sp - 4 * cost) (next_of 5 6 refl (omega arith)) down)
        (go n _ (standing s (placed rs left (sp - 4 * cost)) measured (at first 6) (at first 7)) _
        (step5 g chosen first given cost runs s (placed rs left (sp - 4 * cost)) counted (at first 6) (at first 7) (next_of 6 7 refl (omega arith))
        ∙ ap (λ x. Still (standing s (placed rs left (sp - 4 * cost)) (compared x (slice_index (placed rs left (sp - 4 * cost)) 5)) (at first 6) (at first 7))) start_of
        ∙ ap (λ x. Still (standing s (placed rs left (sp - 4 * cost)) (compared (sp - 4 * cost) x) (at first 6) (at first 7))) limit_of) rest)))))

    page_placed : slice_index (placed rs left (sp - 4 * cost)) 1 ≡ gates
    page_placed = get_or-set_other (paid rs left) 23 1 (sp - 4 * cost) 0 (λ e. cc) ∙ get_or-set_other (paged rs) 6 1 (left - 1) 0 (λ e. cc) ∙ page

    -- no room is left: on to gate 2
    pub fills : 0 < left → sp - 4 * cost < limit → run (watched_step g chosen) 10 s ≡ Still (standing s (placed rs left (sp - 4 * cost)) measured (GATE_START + 8) (GATE_START + 12))
    fills some full =
        let carry : measured.carry ≡ true = grind (arith, nat_tests) in
        to_limit 4 _ some
        (go 3 _ (standing s (placed rs left (sp - 4 * cost)) measured (at first 7) (at first 13)) _ (step6_off g chosen first given cost runs s (placed rs left (sp - 4 * cost)) measured (at first 7) carry)
        (go 2 _ (standing s (placed rs left (sp - 4 * cost)) measured (at first 13) (at first 14)) _ (nop_step g chosen first given cost runs s 7 (placed rs left (sp - 4 * cost)) measured (at first 13) (at first 14) refl (next_of 13 14 refl (omega arith)))
        (go 1 _ (standing s (placed rs left (sp - 4 * cost)) measured (at first 14) (GATE_START + 8)) _ (step13 g chosen first given cost runs s (placed rs left (sp - 4 * cost)) measured (at first 14) page_placed)
        (go 0 _ (standing s (placed rs left (sp - 4 * cost)) measured (GATE_START + 8) (GATE_START + 12)) _ (nop_step g chosen first given cost runs s 14 (placed rs left (sp - 4 * cost)) measured (GATE_START + 8) (GATE_START + 12) refl refl) refl))))

    -- the state behind an entry that went well
    abbrev pub entered : MixedState
    entered = standing s (placed rs left (sp - 4 * cost)) measured (at first 8) (at first 9)

    pub passes : 0 < left → limit ≤ sp - 4 * cost → run (watched_step g chosen) 8 s ≡ Still entered
    passes some fits =
        let carry : measured.carry ≡ false = grind (arith, nat_tests) in
        to_limit 2 _ some
        (go 1 _ (standing s (placed rs left (sp - 4 * cost)) measured (at first 7) (at first 8)) _ (step6_on g chosen first given cost runs s (placed rs left (sp - 4 * cost)) measured (at first 7) (at first 8) carry (next_of 7 8 refl (omega arith)))
        (go 0 _ entered _ (nop_step g chosen first given cost runs s 7 (placed rs left (sp - 4 * cost)) measured (at first 8) (at first 9) refl (next_of 8 9 refl (omega arith))) refl))

    pub entered_stands : Stands first 8 entered
    entered_stands = record { whole = length-set (paid rs left) 23 (sp - 4 * cost) ∙ whole_paid; pc = refl; npc = refl }

    -- the other registers are as they were: the link, the heap top, what came
    pub entered_keeps : (j : ℕ) → (j ≡ 1 → ⊥) → (j ≡ 6 → ⊥) → (j ≡ 23 → ⊥) → slice_index entered.regs.r j ≡ slice_index rs j
    entered_keeps j no1 no6 no23 =
        get_or-set_other (paid rs left) 23 j (sp - 4 * cost) 0 no23 ∙ get_or-set_other (paged rs) 6 j (left - 1) 0 no6 ∙ get_or-set_other rs 1 j gates 0 no1

  -- the return, from any state at its first word: on to behind the link, with the word that is returned in %o0
  abbrev pub returned : ℕ → MixedState
  returned back = standing s (full given s.regs.r s.memory.xs.words) (flags_of s.regs) back (in_word (back + 4))

  pub returns : (link back : ℕ) → Stands first 8 s → FitsWord given → HasArea s s.regs.r → slice_index s.regs.r 15 ≡ link → in_word (link + 8) ≡ back → is_aligned back ≡ true → run (watched_step g chosen) 3 s ≡ Still (returned back)
  returns link back st fits area is to whole =
      let at_link : slice_index (half given s.regs.r) 15 ≡ link = half_keeps given s.regs.r 15 (λ e. cc) ∙ is in
      let target : sum_of (slice_index (half given s.regs.r) 15) 8 ≡ back = ap (λ x. sum_of x 8) at_link ∙ to in
      ap (run (watched_step g chosen) 3) (stands_so first 8 s st)
      ∙ go 2 _ (standing s (half given s.regs.r) (flags_of s.regs) (at first 9) (at first 10)) _ (step8 g chosen first given cost runs s s.regs.r (flags_of s.regs) (at first 9) (at first 10) fits (next_of 9 10 refl (omega arith)))
      (go 1 _ (standing s (half given s.regs.r) (flags_of s.regs) (at first 10) back) _ (step9 g chosen first given cost runs s (half given s.regs.r) (flags_of s.regs) (at first 10) back target whole)
      (go 0 _ (returned back) _ (step10 g chosen first given cost runs s s.regs.r (flags_of s.regs) back (in_word (back + 4)) fits st.whole area refl) refl))

  pub word_returned : (back : ℕ) → Stands first 8 s → slice_index (returned back).regs.r 8 ≡ word_given given s.regs.r s.memory.xs.words
  word_returned back st = full_has given s.regs.r s.memory.xs.words st.whole
