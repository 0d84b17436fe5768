-- The words of a trivial function, one by one, from any state.
use Rattle.std.proofs.Common.{◌≡◌, ℕ, pos, ◌+◌, ◌*◌, ◌^◌, ◌<◌, ◌≤◌, inr, Bool, true, false, Some, List, [], slice_get, slice_set, slice_index, length, nat_eq, nat_lt, nat_le, bit_or, ◌-◌, ◌/◌, ◌%◌, refl, ap, ◌∙◌, arith, if◌then◌else◌}
use Rattle.std.proofs.lemmas.List.{get_or-set_same}
use Rattle.std.proofs.lemmas.Bool.Decides.{nat_tests}
use Rattle.std.proofs.lemmas.Nat.{or_comm, or_shifted}
use Rattle.std.proofs.lemmas.Option.{slice_get-get_or}
use Rattle.std.specs.Int.Bits.{or_zero_r}
use Rattle.tagged_words.specs.declared.addresses.TheConstants.{HEAP_START}
use Rattle.tagged_words.specs.Region.{Region, word_at}
use Rattle.beam_code.specs.Function.{items_of}
use Rattle.mode_switch.proofs.Places.{code_step}
use Rattle.mode_switch.specs.declared.addresses.TheConstants.{MOST_ITEMS}
use Rattle.trivial_code.specs.declared.emitting.Given.{Given}
use Rattle.trivial_code.specs.declared.emitting.Given.TheVariants.{Came, Register, Area, Word}
use Rattle.trivial_code.specs.Words.{FitsWord, upper, lower, gate_page, nop, high_part, low_part, trivial_words}
use Rattle.faithful_image.proofs.Watching.{step_off}
use Rattle.faithful_image.specs.Watched.{watched_step}
use Rattle.mode_switch.specs.declared.addresses.TheConstants.{GATE_START, STACK_FLOOR, X_START, X_WORDS}
use Rattle.mode_switch.specs.Memory.{load_of, stores_of}
use Rattle.image_format.specs.declared.limits.TheConstants.{CODE_START, MOST_FRAME}
use Rattle.mode_switch.specs.Step.{native_after}
use Rattle.mode_switch.specs.State.{Loaded, MixedState}
use Rattle.small_step.specs.Stage.{Still}
use Rattle.sparc_code.specs.Code.{encoded, IsInWidth}
use Rattle.sparc_code.specs.declared.instruction.Instr.{Instr}
use Rattle.sparc_code.specs.declared.machine.MachineFault.TheVariants.{Unaligned}
use Rattle.sparc_code.specs.declared.machine.Regs.{Regs}
use Rattle.sparc_code.specs.declared.instruction.Instr.TheVariants.{Sethi, Branch, Arith, Load}
use Rattle.sparc_code.specs.declared.instruction.Source.TheVariants.{Reg, Imm}
use Rattle.sparc_code.specs.declared.instruction.ArithOp.TheVariants.{Or, Sub, SubCc, JumpAndLink}
use Rattle.sparc_code.specs.declared.instruction.Cond.TheVariants.{Equal, CarrySet}
use Rattle.sparc_code.specs.Step.{Faults, effect_of, load_effect, load_found, operand, sum_of, is_aligned, in_word, is_negative, difference_of, difference_overflows, difference_borrows}

-- the four flags
pub record Flags : Type 0 where
  pub negative : Bool
  pub zero_result : Bool
  pub overflow : Bool
  pub carry : Bool

abbrev pub clear : Flags
clear = record { negative = false; zero_result = false; overflow = false; carry = false }

-- the flags after a comparison
abbrev pub compared : ℕ → ℕ → Flags
compared a b =
    record {
      negative = is_negative (difference_of a b);
      zero_result = nat_eq (difference_of a b) 0;
      overflow = difference_overflows a b;
      carry = difference_borrows a b;
    }

-- a state with these registers, flags, PC and nPC; all else is as in s
abbrev pub standing : MixedState → List ℕ → Flags → ℕ → ℕ → MixedState
standing s rs f pc npc =
    record s {
      regs = record {
        r = rs;
        y = s.regs.y;
        n = f.negative;
        z = f.zero_result;
        v = f.overflow;
        c = f.carry;
        pc = pc;
        npc = npc;
      };
    }

abbrev pub flags_of : Regs → Flags
flags_of regs = record { negative = regs.n; zero_result = regs.z; overflow = regs.v; carry = regs.c }

-- the address of a word of the function
abbrev pub at : ℕ → ℕ → ℕ
at first j = CODE_START + 4 * (first + j)

-- a function that returns this, of this cost, whose words stand from a place on
pub record Runs (g : Loaded) (first : ℕ) (given : Given) (cost : ℕ) : Type 0 where
  pub quiet : g.junk ≡ []
  pub few : items_of g.modules ≤ MOST_ITEMS
  pub words : (j w : ℕ) → slice_get (trivial_words given cost) j ≡ Some w → slice_get g.parts.code (first + j) ≡ Some w
  pub below : at first 16 < 2 ^ 31
  pub frame : cost ≤ MOST_FRAME

-- what is returned, where these are the registers and the words of the x area
abbrev pub word_given : Given → List ℕ → List ℕ → ℕ
word_given Came rs xs = slice_index rs 8
word_given (Register number) rs xs = slice_index rs (8 + number)
word_given (Area number) rs xs = slice_index xs number
word_given (Word w) rs xs = w

-- the registers with the upper half of what is returned, and with all of it
abbrev pub half : Given → List ℕ → List ℕ
half (Word w) rs = slice_set rs 8 (upper w * 2 ^ 10)
half given rs = rs

abbrev pub full : Given → List ℕ → List ℕ → List ℕ
full Came rs xs = rs
full (Register number) rs xs = slice_set rs 8 (slice_index rs (8 + number))
full (Area number) rs xs = slice_set rs 8 (slice_index xs number)
full (Word w) rs xs = slice_set (half (Word w) rs) 8 w

-- %g7 leads to the x area, which has a word for each register
pub record HasArea (s : MixedState) (rs : List ℕ) : Type 0 where
  pub leads : slice_index rs 7 ≡ X_START
  pub start : s.memory.xs.start ≡ X_START
  pub large : X_WORDS ≤ length s.memory.xs.words

-- the gates that end a run are reached over this register value
abbrev pub gates : ℕ
gates = gate_page * 2 ^ 10

or_nothing : (a : ℕ) → bit_or 0 a ≡ a
or_nothing a = or_comm 0 a ∙ or_zero_r a

-- the word of a region at one of its places
in_area : (r : Region) (number : ℕ) → r.start ≡ X_START → number < length r.words → word_at r (X_START + 4 * number) ≡ Some (slice_index r.words number)
in_area r number start low =
    let aligned : nat_eq ((X_START + 4 * number) % 4) 0 ≡ true = grind (arith, nat_tests) in
    let from : nat_le r.start (X_START + 4 * number) ≡ true = grind (arith, nat_tests) in
    let place : (X_START + 4 * number - r.start) / 4 ≡ number = omega arith in
    let within : nat_lt number (length r.words) ≡ true = grind (arith, nat_tests) in
    rw (aligned, from, place, within) (slice_get-get_or r.words number 0 low)

module _ (g : Loaded) (chosen : List ℕ) (first : ℕ) (given : Given) (cost : ℕ) (runs : Runs g first given cost) (s : MixedState) where
  -- n: where control goes next, m: where it goes then
  word : (j : ℕ) (i : Instr) (rs : List ℕ) (f : Flags) (n : ℕ) → slice_get (trivial_words given cost) j ≡ Some (encoded i) → IsInWidth i → watched_step g chosen (standing s rs f (at first j) n) ≡ native_after (standing s rs f (at first j) n) (effect_of (load_of g.parts.literals s.memory) (stores_of s.memory) (standing s rs f (at first j) n).regs i)
  word j i rs f n is width =
      let few = runs.few in
      step_off g chosen (standing s rs f (at first j) n) (inr (omega arith))
      ∙ code_step g (standing s rs f (at first j) n) (first + j) i runs.quiet (omega arith) refl (runs.words j _ is) width

  pub step0 : (rs : List ℕ) (f : Flags) (n m : ℕ) → in_word (n + 4) ≡ m → watched_step g chosen (standing s rs f (at first 0) n) ≡ Still (standing s rs (compared (slice_index rs 6) 0) n m)
  step0 rs f n m e =
      word 0 (Arith SubCc 0 6 (Imm (pos 0))) rs f n refl (omega arith, omega arith, omega arith)
      ∙ ap (λ x. Still (standing s rs (compared (slice_index rs 6) 0) n x)) e

  pub step1_on : (rs : List ℕ) (f : Flags) (n m : ℕ) → f.zero_result ≡ false → in_word (n + 4) ≡ m → watched_step g chosen (standing s rs f (at first 1) n) ≡ Still (standing s rs f n m)
  step1_on rs f n m some e =
      word 1 (Branch Equal false (pos 10)) rs f n refl (omega arith)
      ∙ rw some (ap (λ x. Still (standing s rs (record { negative = f.negative; zero_result = false; overflow = f.overflow; carry = f.carry }) n x)) e)

  pub step1_off : (rs : List ℕ) (f : Flags) (n : ℕ) → f.zero_result ≡ true → watched_step g chosen (standing s rs f (at first 1) n) ≡ Still (standing s rs f n (at first 11))
  step1_off rs f n none =
      let limit = runs.below in
      let target : in_word (at first 1 + 4 * 10) ≡ at first 11 = omega arith in
      word 1 (Branch Equal false (pos 10)) rs f n refl (omega arith)
      ∙ rw none (ap (λ x. Still (standing s rs (record { negative = f.negative; zero_result = true; overflow = f.overflow; carry = f.carry }) n x)) target)

  pub step2 : (rs : List ℕ) (f : Flags) (n m : ℕ) → in_word (n + 4) ≡ m → watched_step g chosen (standing s rs f (at first 2) n) ≡ Still (standing s (slice_set rs 1 gates) f n m)
  step2 rs f n m e =
      word 2 (Sethi 1 gate_page) rs f n refl (omega arith, omega arith)
      ∙ ap (λ x. Still (standing s (slice_set rs 1 gates) f n x)) e

  pub step3 : (rs : List ℕ) (f : Flags) (n m left : ℕ) → in_word (n + 4) ≡ m → difference_of (slice_index rs 6) 1 ≡ left → watched_step g chosen (standing s rs f (at first 3) n) ≡ Still (standing s (slice_set rs 6 left) f n m)
  step3 rs f n m left e d =
      word 3 (Arith Sub 6 6 (Imm (pos 1))) rs f n refl (omega arith, omega arith, omega arith)
      ∙ ap (λ x. Still (standing s (slice_set rs 6 (difference_of (slice_index rs 6) 1)) f n x)) e
      ∙ ap (λ x. Still (standing s (slice_set rs 6 x) f n m)) d

  pub step4 : (rs : List ℕ) (f : Flags) (n m low : ℕ) → in_word (n + 4) ≡ m → difference_of (slice_index rs 14) (4 * cost) ≡ low → watched_step g chosen (standing s rs f (at first 4) n) ≡ Still (standing s (slice_set rs 23 low) f n m)
  step4 rs f n m low e d =
      let small = runs.frame in
      word 4 (Arith Sub 23 14 (Imm (pos (4 * cost)))) rs f n refl (omega arith, omega arith, omega arith)
      ∙ ap (λ x. Still (standing s (slice_set rs 23 (difference_of (slice_index rs 14) (4 * cost))) f n x)) e
      ∙ ap (λ x. Still (standing s (slice_set rs 23 x) f n m)) d

  pub step5 : (rs : List ℕ) (f : Flags) (n m : ℕ) → in_word (n + 4) ≡ m → watched_step g chosen (standing s rs f (at first 5) n) ≡ Still (standing s rs (compared (slice_index rs 23) (slice_index rs 5)) n m)
  step5 rs f n m e =
      word 5 (Arith SubCc 0 23 (Reg 5)) rs f n refl (omega arith, omega arith, omega arith)
      ∙ ap (λ x. Still (standing s rs (compared (slice_index rs 23) (slice_index rs 5)) n x)) e

  pub step6_on : (rs : List ℕ) (f : Flags) (n m : ℕ) → f.carry ≡ false → in_word (n + 4) ≡ m → watched_step g chosen (standing s rs f (at first 6) n) ≡ Still (standing s rs f n m)
  step6_on rs f n m fits e =
      word 6 (Branch CarrySet false (pos 7)) rs f n refl (omega arith)
      ∙ rw fits (ap (λ x. Still (standing s rs (record { negative = f.negative; zero_result = f.zero_result; overflow = f.overflow; carry = false }) n x)) e)

  pub step6_off : (rs : List ℕ) (f : Flags) (n : ℕ) → f.carry ≡ true → watched_step g chosen (standing s rs f (at first 6) n) ≡ Still (standing s rs f n (at first 13))
  step6_off rs f n full =
      let limit = runs.below in
      let target : in_word (at first 6 + 4 * 7) ≡ at first 13 = omega arith in
      word 6 (Branch CarrySet false (pos 7)) rs f n refl (omega arith)
      ∙ rw full (ap (λ x. Still (standing s rs (record { negative = f.negative; zero_result = f.zero_result; overflow = f.overflow; carry = true }) n x)) target)

  -- a word that does nothing: 7, 12 and 14
  pub nop_step : (j : ℕ) (rs : List ℕ) (f : Flags) (n m : ℕ) → slice_get (trivial_words given cost) j ≡ Some (encoded nop) → in_word (n + 4) ≡ m → watched_step g chosen (standing s rs f (at first j) n) ≡ Still (standing s rs f n m)
  nop_step j rs f n m is e =
      word j nop rs f n is (omega arith, omega arith)
      ∙ ap (λ x. Still (standing s rs f n x)) e

  -- word 8 begins what is returned, and word 10 ends it
  step8_by : (said : Given) (rs : List ℕ) (f : Flags) (n m : ℕ) → slice_get (trivial_words given cost) 8 ≡ Some (encoded (high_part said)) → FitsWord said → in_word (n + 4) ≡ m → watched_step g chosen (standing s rs f (at first 8) n) ≡ Still (standing s (half said rs) f n m)
  step8_by Came rs f n m is fits e = nop_step 8 rs f n m is e
  step8_by (Register number) rs f n m is fits e = nop_step 8 rs f n m is e
  step8_by (Area number) rs f n m is fits e = nop_step 8 rs f n m is e
  step8_by (Word w) rs f n m is fits e =
      word 8 (Sethi 8 (upper w)) rs f n is (omega arith, omega arith)
      ∙ ap (λ x. Still (standing s (slice_set rs 8 (upper w * 2 ^ 10)) f n x)) e

  pub step8 : (rs : List ℕ) (f : Flags) (n m : ℕ) → FitsWord given → in_word (n + 4) ≡ m → watched_step g chosen (standing s rs f (at first 8) n) ≡ Still (standing s (half given rs) f n m)
  step8 rs f n m fits e = step8_by given rs f n m refl fits e

  pub step9 : (rs : List ℕ) (f : Flags) (n back : ℕ) → sum_of (slice_index rs 15) 8 ≡ back → is_aligned back ≡ true → watched_step g chosen (standing s rs f (at first 9) n) ≡ Still (standing s rs f n back)
  step9 rs f n back to whole =
      word 9 (Arith JumpAndLink 0 15 (Imm (pos 8))) rs f n refl (omega arith, omega arith, omega arith)
      ∙ rw (to, whole) refl

  -- what is loaded from the x area
  found : (number : ℕ) → number < X_WORDS → s.memory.xs.start ≡ X_START → X_WORDS ≤ length s.memory.xs.words → load_of g.parts.literals s.memory (X_START + 4 * number) ≡ Some (slice_index s.memory.xs.words number)
  found number low start large =
      let here : nat_lt (X_START + 4 * number) HEAP_START ≡ false = grind (arith, nat_tests) in
      let above : nat_lt (X_START + 4 * number) X_START ≡ false = grind (arith, nat_tests) in
      let below : nat_lt (X_START + 4 * number) STACK_FLOOR ≡ true = grind (arith, nat_tests) in
      rw (here, above, below) (in_area s.memory.xs number start (omega arith))

  register_low : (number : ℕ) → number < 5 → (rs : List ℕ) (f : Flags) (n : ℕ) → operand (standing s rs f (at first 10) n).regs (Reg (8 + number)) ≡ slice_index rs (8 + number)
  register_low number low rs f n = let some : nat_eq (8 + number) 0 ≡ false = grind (arith, nat_tests) in rw some refl

  step10_by : (said : Given) (rs : List ℕ) (f : Flags) (n m : ℕ) → slice_get (trivial_words given cost) 10 ≡ Some (encoded (low_part said)) → FitsWord said → length rs ≡ 32 → HasArea s rs → in_word (n + 4) ≡ m → watched_step g chosen (standing s (half said rs) f (at first 10) n) ≡ Still (standing s (full said rs s.memory.xs.words) f n m)
  step10_by Came rs f n m is fits long area e = nop_step 10 rs f n m is e
  step10_by (Register number) rs f n m is fits long area e =
      word 10 (Arith Or 8 0 (Reg (8 + number))) rs f n is (omega arith, omega arith, omega arith)
      ∙ ap (λ x. Still (standing s (slice_set rs 8 (bit_or 0 (operand (standing s rs f (at first 10) n).regs (Reg (8 + number))))) f n x)) e
      ∙ ap (λ x. Still (standing s (slice_set rs 8 (bit_or 0 x)) f n m)) (register_low number fits rs f n)
      ∙ ap (λ x. Still (standing s (slice_set rs 8 x) f n m)) (or_nothing (slice_index rs (8 + number)))
  step10_by (Area number) rs f n m is fits long area e =
      let leads = area.leads in
      let place : in_word (slice_index rs 7 + 4 * number) ≡ X_START + 4 * number = omega arith in
      let whole : is_aligned (X_START + 4 * number) ≡ true = grind (arith, nat_tests) in
      word 10 (Load 8 7 (Imm (pos (4 * number)))) rs f n is (omega arith, omega arith, omega arith)
      ∙ ap (λ x. native_after (standing s rs f (at first 10) n) (load_effect (load_of g.parts.literals s.memory) (standing s rs f (at first 10) n).regs 8 x)) place
      ∙ ap (λ b. native_after (standing s rs f (at first 10) n) (if b then load_found (standing s rs f (at first 10) n).regs 8 (X_START + 4 * number) (load_of g.parts.literals s.memory (X_START + 4 * number)) else Faults (Unaligned (X_START + 4 * number)))) whole
      ∙ ap (λ o. native_after (standing s rs f (at first 10) n) (load_found (standing s rs f (at first 10) n).regs 8 (X_START + 4 * number) o)) (found number fits area.start area.large)
      ∙ ap (λ x. Still (standing s (slice_set rs 8 (slice_index s.memory.xs.words number)) f n x)) e
  step10_by (Word w) rs f n m is fits long area e =
      let low : lower w < 2 ^ 10 = omega arith in
      let high : slice_index (half (Word w) rs) 8 ≡ upper w * 2 ^ 10 = get_or-set_same rs 8 (upper w * 2 ^ 10) 0 (omega arith) in
      let whole : bit_or (slice_index (half (Word w) rs) 8) (lower w) ≡ w = ap (λ x. bit_or x (lower w)) high ∙ or_shifted (upper w) 10 (lower w) low ∙ (omega arith) in
      word 10 (Arith Or 8 8 (Imm (pos (lower w)))) (half (Word w) rs) f n is (omega arith, omega arith, omega arith)
      ∙ ap (λ x. Still (standing s (slice_set (half (Word w) rs) 8 (bit_or (slice_index (half (Word w) rs) 8) (lower w))) f n x)) e
      ∙ ap (λ x. Still (standing s (slice_set (half (Word w) rs) 8 x) f n m)) whole

  pub step10 : (rs : List ℕ) (f : Flags) (n m : ℕ) → FitsWord given → length rs ≡ 32 → HasArea s rs → in_word (n + 4) ≡ m → watched_step g chosen (standing s (half given rs) f (at first 10) n) ≡ Still (standing s (full given rs s.memory.xs.words) f n m)
  step10 rs f n m fits long area e = step10_by given rs f n m refl fits long area e

  pub step11 : (rs : List ℕ) (f : Flags) (n : ℕ) → slice_index rs 1 ≡ gates → watched_step g chosen (standing s rs f (at first 11) n) ≡ Still (standing s rs f n (GATE_START + 4))
  step11 rs f n page =
      word 11 (Arith JumpAndLink 0 1 (Imm (pos 4))) rs f n refl (omega arith, omega arith, omega arith)
      ∙ rw page refl

  pub step13 : (rs : List ℕ) (f : Flags) (n : ℕ) → slice_index rs 1 ≡ gates → watched_step g chosen (standing s rs f (at first 13) n) ≡ Still (standing s rs f n (GATE_START + 8))
  step13 rs f n page =
      word 13 (Arith JumpAndLink 0 1 (Imm (pos 8))) rs f n refl (omega arith, omega arith, omega arith)
      ∙ rw page refl
